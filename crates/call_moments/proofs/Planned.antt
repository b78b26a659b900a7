-- A plan goes on in an instance, as the definition stores.
use Rattle.std.proofs.Common.{◌≡◌, ◌<◌, ℕ, List, [], ◌∷◌, length, map, set, reverse, Option, Some, None, Ok, Err, Bool, true, false, refl, sym, ap, subst, ◌∙◌}
use Rattle.std.specs.Prelude.{slice_get}
use Rattle.core_memory.specs.Linear.{Linear}
use Rattle.core_store.specs.State.{State, memory_at}
use Rattle.core_store.specs.declared.value.CoreValue.{CoreValue}
use Rattle.core_store.specs.Words.{words}
use Rattle.wit_types.specs.PlainValue.{PlainValue}
use Rattle.abi_layout.specs.Storing.{Step, Ask, Write, Place, Refuse, FlatItem, Number, AnswerTo, Lowered}
use Rattle.abi_store.specs.Plan.{Halt, Asks, Ends, Traps, Due, Nothing, goes_on, number_in}
use Rattle.host_port.specs.Hosts.{HostStep}
use Rattle.comp_worlds.specs.Acts.{Trapped, Out, Next, Over, then_do, seen_before, Act, ◌>>◌, gives, traps}
use Rattle.comp_worlds.specs.Groups.{Nesting, Options, Group, Config, World, Ports}
use Rattle.comp_worlds.specs.Locals.{with_store, flat_word}
use Rattle.comp_worlds.specs.Calls.{with_config, Run, asks_for}
use Rattle.comp_frames.specs.Within.{IsRoomy}
use Rattle.comp_frames.specs.Left.{store_with, config_with, world_with, does_left, goes_granted, does_due, goes_from}
use Rattle.comp_frames.proofs.Acts.{nothing_before}
use Rattle.comp_frames.proofs.Halts.{goes_on_as}
use Rattle.comp_frames.proofs.Heads.{then_at}
use Rattle.instance_state.specs.declared.instance.Instance.{Instance}
use Rattle.instance_state.specs.Shown.{config_of}
use Rattle.call_moments.specs.Configs.{configs_of, world_of}
use Rattle.call_moments.proofs.Worlds.{config_at, changed}
use Rattle.call_moments.specs.Functions.{ComesLater}
use Rattle.call_moments.specs.Leads.{Moment, so_far}
use Rattle.call_moments.proofs.Following.{with_instance}

flat_alone : (x : FlatItem) → flat_word [] x ≡ number_in x
flat_alone (Number n) = refl
flat_alone (AnswerTo n) = refl

flats_alone : (xs : List FlatItem) → map (flat_word []) xs ≡ map number_in xs
flats_alone [] = refl
flats_alone (x ∷ xs) = ap (λ (n : ℕ). n ∷ map (flat_word []) xs) (flat_alone x) ∙ ap (λ (ns : List ℕ). number_in x ∷ ns) (flats_alone xs)

-- the memory as it is where a plan halts
abbrev pub memory_in : Halt → Linear
memory_in (Asks align len left memory) = memory
memory_in (Ends flats memory) = memory
memory_in (Traps memory) = memory

module _ {S : Type 0} (G : Group) (p : Ports S) (run : Run S) (d : Nesting) (k : ℕ) (options : Options) where
  -- what comes where a plan halts, in the world as it is then
  abbrev pub left_from : Halt → (List ℕ → Act (World S) (Option PlainValue)) → Act (World S) (Option PlainValue)
  left_from (Asks align len left memory) go = (asks_for G p run d k options.realloc align len >> λ results. goes_granted G p run d k options align len left (words results)) >> go
  left_from (Ends flats memory) go = go (map number_in flats)
  left_from (Traps memory) go = traps

  halts_then : (at : ℕ) (halt : Halt) (go : List ℕ → Act (World S) (Option PlainValue)) (w : World S) (n : ℕ) → (goes_from G p run d k options at halt >> go) w n ≡ left_from halt go (world_with w k at (memory_in halt)) n
  unfolding ◌>>◌ traps
  halts_then at (Asks align len left memory) go w n = refl
  halts_then at (Ends flats memory) go w n = nothing_before (go (map number_in flats) (world_with w k at memory) n)
  halts_then at (Traps memory) go w n = refl

  -- ---- before a plan comes to memory, and where realloc is not there

  pub ended : (flats : List FlatItem) (w : World S) (n : ℕ) → does_left G p run d k options (record { steps = []; flats = flats }) w n ≡ Next [] n w (map number_in flats)
  unfolding ◌>>◌ gives
  ended flats w n = ap (λ ns. Next [] n w ns) (flats_alone flats)

  pub refused : (flats : List FlatItem) (steps : List Step) (w : World S) (n : ℕ) → does_left G p run d k options (record { steps = Refuse ∷ steps; flats = flats }) w n ≡ Over [] Trapped
  unfolding ◌>>◌ traps
  refused flats steps w n = refl

module _ {S : Type 0} (G : Group) (p : Ports S) (run : Run S) (d : Nesting) (k at : ℕ) (realloc : Option ℕ) (m : Moment S) (i j : Instance) (found : slice_get m.instances k ≡ Some i) (shown : config_of j ≡ with_store (config_of i) j.code.store) where
  abbrev there : Options
  there = record { memory = Some at; realloc = realloc }

  abbrev before : World S
  before = world_of m.instances m.kept.state

  abbrev after : World S
  after = world_of (set m.instances k j) m.kept.state

  pub world_then : (memory : Linear) → j.code.store ≡ store_with i.code.store at memory → world_with before k at memory ≡ after
  world_then memory e =
      ap (λ (c : Config ℕ). with_config before k (config_with c at memory)) (config_at m.instances k i j found)
      ∙ ap (λ (s : State). with_config before k (with_store (config_of i) s)) (sym e)
      ∙ ap (with_config before k) (sym shown)
      ∙ changed m.instances k i j found m.kept.state

  -- where the memory is there, and what is left stays within it
  pub plan_goes : (due : Due) (left : Lowered) (answer : Option ℕ) (go : List ℕ → Act (World S) (Option PlainValue)) → at < length i.code.store.memories → IsRoomy (length (memory_at i.code.store at).bytes) due left →
      (halt : Halt) → goes_on due left answer (memory_at i.code.store at) ≡ halt → j.code.store ≡ store_with i.code.store at (memory_in halt) →
      so_far m (does_due G p run d k there due left answer >> go) ≡ so_far (with_instance m k j) (left_from G p run d k there halt go)
  plan_goes due left answer go lt room halt is e =
      let store_is : (before.configs k).store ≡ i.code.store = ap (λ (c : Config ℕ). c.store) (config_at m.instances k i j found) in
      let goes : does_due G p run d k there due left answer before m.budget ≡ goes_from G p run d k there at halt before m.budget =
      goes_on_as G p run d k at realloc due left answer before m.budget (subst (λ (s : State). at < length s.memories) (sym store_is) lt) (subst (λ (s : State). IsRoomy (length (memory_at s at).bytes) due left) (sym store_is) room)
      ∙ ap (λ (s : State). goes_from G p run d k there at (goes_on due left answer (memory_at s at)) before m.budget) store_is
      ∙ ap (λ x. goes_from G p run d k there at x before m.budget) is in
      ap (seen_before m.kept.seen)
      (then_at (does_due G p run d k there due left answer) (goes_from G p run d k there at halt) go before before m.budget m.budget goes
      ∙ halts_then G p run d k there at halt go before m.budget
      ∙ ap (λ v. left_from G p run d k there halt go v m.budget) (world_then (memory_in halt) e))

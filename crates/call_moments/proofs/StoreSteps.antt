-- A plan goes on in an instance of a list, whether its memory is there or is not come to.
use Rattle.std.proofs.Common.{◌≡◌, ◌⊎◌, inl, inr, ◌<◌, ◌&&◌, ℕ, zero, suc, List, [], ◌∷◌, ◌++◌, length, map, set, reverse, Option, Some, None, Ok, Err, Bool, true, false, refl, sym, ap, subst, ◌∙◌, arith}
use Rattle.std.proofs.lemmas.List.{length-map}
use Rattle.std.specs.Prelude.{slice_get, nat_lt, IsSomeAnd, if◌then◌else◌}
use Rattle.std.proofs.lemmas.Bool.Decides.{nat_tests}
use Rattle.core_memory.specs.Linear.{Linear, written}
use Rattle.core_store.specs.State.{State, memory_at}
use Rattle.core_store.specs.Scene.{Scene, scene_of}
use Rattle.virt_base.specs.declared.core_type.CoreType.{CoreType}
use Rattle.core_store.specs.declared.value.CoreValue.{CoreValue}
use Rattle.wit_types.specs.PlainValue.{PlainValue}
use Rattle.abi_layout.specs.Storing.{Step, Ask, Write, Place, Refuse, FlatItem, Lowered}
use Rattle.abi_store.specs.Plan as plans
use Rattle.abi_store.specs.Plan.{Halt, Asks, Ends, Traps, Plan, Due, Nothing, Given, Asked, is_within, is_room, goes, takes, tested, answered, settled_flat, goes_on, number_in, core_values}
use Rattle.abi_store.specs.Targets.{Stops}
use Rattle.abi_store.specs.declared.target.StoreStep.{StoreStep}
use Rattle.abi_store.specs.declared.target.StoreStep.TheVariants as steps
use Rattle.host_port.specs.Hosts.{HostStep}
use Rattle.comp_worlds.specs.Acts.{Trapped, Out, Next, Over, seen_before, Act, ◌>>◌, traps}
use Rattle.comp_worlds.specs.Groups.{Nesting, Options, Group, Config, World, Ports}
use Rattle.comp_worlds.specs.Locals.{with_store}
use Rattle.comp_worlds.specs.Calls.{Run}
use Rattle.comp_frames.specs.Within.{IsRoomy}
use Rattle.comp_frames.specs.Left.{store_with, world_with, does_left, does_due}
use Rattle.comp_frames.proofs.Halts.{world_stays}
use Rattle.comp_frames.proofs.Heads.{after_unseen, after_over}
use Rattle.instance_state.specs.declared.instance.Instance.{Instance}
use Rattle.instance_state.specs.Shown.{config_of}
use Rattle.instance_state.specs.Passed.{options_of, IsInStore}
use Rattle.instance_state.specs.declared.options.CallOptions.{CallOptions}
use Rattle.call_moments.specs.Configs.{world_of}
use Rattle.call_moments.proofs.Worlds.{config_at}
use Rattle.call_moments.specs.Fits.{scenes_of, HasMemory}
use Rattle.call_moments.specs.Waiting.{HasRequest, AsksRoom}
use Rattle.call_moments.specs.Functions.{ComesLater}
use Rattle.call_moments.specs.Leads.{Moment, so_far}
use Rattle.call_moments.proofs.Instances.{scene_here}
use Rattle.call_moments.proofs.Following.{with_instance}
use Rattle.call_moments.proofs.Planned.{left_from, memory_in, ended, refused, plan_goes, world_then}

-- ---- a memory of the options is there, or is not

pub in_store : (is : List Instance) (k : ℕ) (i : Instance) → slice_get is k ≡ Some i → (o : CallOptions) → HasMemory (scenes_of is) k (options_of o) → IsInStore o.memory i.code.store
in_store is k i found o h = go o.memory h
  where
    go : (memory : Option ℕ) → IsSomeAnd memory (λ at. IsSomeAnd (slice_get (scenes_of is) k) (λ w. at < w.memories)) → IsInStore memory i.code.store
    go None x = x
    go (Some at) x = subst (λ (s : Option Scene). IsSomeAnd s (λ w. at < w.memories)) (scene_here is k i found) x

pub reach : (o : Option ℕ) (s : State) → IsInStore o s ⊎ (IsInStore o s → ⊥)
reach None s = inr (λ x. x)
reach (Some at) s = go (nat_lt at (length s.memories)) refl
  where
    go : (b : Bool) → nat_lt at (length s.memories) ≡ b → (at < length s.memories) ⊎ (at < length s.memories → ⊥)
    go true e = inl (grind (arith, nat_tests))
    go false e = inr (λ lt. absurd (grind (arith, nat_tests)))

-- ---- flat values stay as many

within_end : (b : Bool) (x : Halt) (m new : Linear) (flats out : List FlatItem) → (if b then x else Traps m) ≡ Ends out new → (x ≡ Ends out new → out ≡ flats) → out ≡ flats
within_end true x m new flats out e go = go e
within_end false x m new flats out e go = absurd (cc)

flats_end : (flats : List FlatItem) (xs : List Step) (m new : Linear) (out : List FlatItem) → goes flats xs m ≡ Ends out new → out ≡ flats
flats_end flats [] m new out e = cc
flats_end flats (Ask align len ∷ xs) m new out e = absurd (cc)
flats_end flats (Write base place bytes ∷ xs) m new out e = within_end (is_within m place (length bytes)) (goes flats xs (written m place bytes)) m new flats out e (λ q. flats_end flats xs (written m place bytes) new out q)
flats_end flats (Place base place request ∷ xs) m new out e = absurd (cc)
flats_end flats (Refuse ∷ xs) m new out e = absurd (cc)

within_asked : (b : Bool) (x : Halt) (m new : Linear) (align len : ℕ) (left : Lowered) (flats : List FlatItem) → (if b then x else Traps m) ≡ Asks align len left new → (x ≡ Asks align len left new → left.flats ≡ flats) → left.flats ≡ flats
within_asked true x m new align len left flats e go = go e
within_asked false x m new align len left flats e go = absurd (cc)

flats_asked : (flats : List FlatItem) (xs : List Step) (m new : Linear) (align len : ℕ) (left : Lowered) → goes flats xs m ≡ Asks align len left new → left.flats ≡ flats
flats_asked flats [] m new align len left e = absurd (cc)
flats_asked flats (Ask a l ∷ xs) m new align len left e = let same : record { steps = xs; flats = flats } ≡ left = cc in ap (λ (x : Lowered). x.flats) (sym same)
flats_asked flats (Write base place bytes ∷ xs) m new align len left e =
    within_asked (is_within m place (length bytes)) (goes flats xs (written m place bytes)) m new align len left flats e (λ q. flats_asked flats xs (written m place bytes) new align len left q)
flats_asked flats (Place base place request ∷ xs) m new align len left e = absurd (cc)
flats_asked flats (Refuse ∷ xs) m new align len left e = absurd (cc)

-- where a plan halts, as many flat values are left
abbrev CountIn : Halt → ℕ → Type 0
CountIn (Asks align len left memory) n = length left.flats ≡ n
CountIn (Ends flats memory) n = length flats ≡ n
CountIn (Traps memory) n = Unit {0}

takes_count : (left : Lowered) (m : Linear) (halt : Halt) → takes left m ≡ halt → CountIn halt (length left.flats)
takes_count left m (Asks align len after new) e = ap length (flats_asked left.flats left.steps m new align len after e)
takes_count left m (Ends flats new) e = ap length (flats_end left.flats left.steps m new flats e)
takes_count left m (Traps new) e = tt

tested_count : (b : Bool) (left : Lowered) (m : Linear) (halt : Halt) → tested b left m ≡ halt → CountIn halt (length left.flats)
tested_count true left m halt e = takes_count left m halt e
tested_count false left m halt e = subst (λ x. CountIn x (length left.flats)) e tt

pub halts_count : (due : Due) (left : Lowered) (answer : Option ℕ) (m : Linear) (halt : Halt) → goes_on due left answer m ≡ halt → CountIn halt (length left.flats)
halts_count Nothing left answer m halt e = takes_count left m halt e
halts_count (Given place align len) left answer m halt e = tested_count (is_room m align len place) left m halt e
halts_count (Asked align len) left None m halt e = subst (λ x. CountIn x (length left.flats)) e tt
halts_count (Asked align len) left (Some place) m halt e =
    subst (CountIn halt) (length-map left.flats (settled_flat (place ∷ []))) (tested_count (is_room m align len place) (answered place left) m halt e)

pub count_values : (types : List CoreType) (flats : List FlatItem) → length flats ≡ length types → length (core_values types flats) ≡ length types
count_values [] flats e = refl
count_values (t ∷ ts) [] e = absurd (omega (arith, e))
count_values (t ∷ ts) (x ∷ xs) e = let rest = count_values ts xs (omega (arith, e)) in omega (arith, rest)

-- room that is asked for before a plan comes to memory is asked for over every memory
asks_over : (flats : List FlatItem) (xs : List Step) (m new : Linear) (align len : ℕ) (after : Lowered) → ComesLater xs → goes flats xs m ≡ Asks align len after new → (x : Linear) → goes flats xs x ≡ Asks align len after x
asks_over flats [] m new align len after later e x = absurd (cc)
asks_over flats (Ask a l ∷ xs) m new align len after later e x =
    let first : a ≡ align = cc in
    let second : l ≡ len = cc in
    let third : record { steps = xs; flats = flats } ≡ after = cc in
    ap (λ n. Asks n l (record { steps = xs; flats = flats }) x) first ∙ ap (λ n. Asks align n (record { steps = xs; flats = flats }) x) second ∙ ap (λ y. Asks align len y x) third
asks_over flats (Write base offset bytes ∷ xs) m new align len after later e x = absurd later
asks_over flats (Place base offset request ∷ xs) m new align len after later e x = absurd later
asks_over flats (Refuse ∷ xs) m new align len after later e x = absurd (cc)

pub asks_anywhere : (due : Due) (left : Lowered) (answer : Option ℕ) (m new : Linear) (align len : ℕ) (after : Lowered) → due ≡ Nothing → ComesLater left.steps → goes_on due left answer m ≡ Asks align len after new → (x : Linear) → goes_on due left answer x ≡ Asks align len after x
asks_anywhere due left answer m new align len after e later is x =
    ap (λ d. goes_on d left answer x) e ∙ asks_over left.flats left.steps m new align len after later (ap (λ d. goes_on d left answer m) (sym e) ∙ is) x

pub set_twice : {A : Type 0} → (xs : List A) (i : ℕ) (x y : A) → set (set xs i x) i y ≡ set xs i y
set_twice [] i x y = refl
set_twice (z ∷ zs) zero x y = refl
set_twice (z ∷ zs) (suc i) x y = ap (λ (ys : List _). z ∷ ys) (set_twice zs i x y)

-- ---- how the code's step says where the plan halts

pub halts_there : (halt : Halt) (types : List CoreType) (step : StoreStep) (left : Plan) (new : Linear) → Stops halt types step left new → new ≡ memory_in halt
halts_there (Asks align len after memory) types step left new t = t.2
halts_there (Ends flats memory) types step left new t = t.1
halts_there (Traps memory) types step left new t = t.1

-- ---- the plan goes on as the definition stores

module _ {S : Type 0} (G : Group) (p : Ports S) (run : Run S) (d : Nesting) (k at : ℕ) (m : Moment S) (i j : Instance) (found : slice_get m.instances k ≡ Some i) (shown : config_of j ≡ with_store (config_of i) j.code.store) (o : Options) where
  -- where its memory is there
  pub goes_in_memory : o.memory ≡ Some at → (due : Due) (left : Lowered) (answer : Option ℕ) (go : List ℕ → Act (World S) (Option PlainValue)) → at < length i.code.store.memories → IsRoomy (length (memory_at i.code.store at).bytes) due left →
      (halt : Halt) → goes_on due left answer (memory_at i.code.store at) ≡ halt → j.code.store ≡ store_with i.code.store at (memory_in halt) →
      so_far m (does_due G p run d k o due left answer >> go) ≡ so_far (with_instance m k j) (left_from G p run d k o halt go)
  goes_in_memory named due left answer go lt room halt is e =
      subst (λ (memory : Option ℕ). so_far m (does_due G p run d k (record { memory = memory; realloc = o.realloc }) due left answer >> go) ≡ so_far (with_instance m k j) (left_from G p run d k (record { memory = memory; realloc = o.realloc }) halt go)) (sym named)
      (plan_goes G p run d k at o.realloc m i j found shown due left answer go lt room halt is e)

  abbrev before : World S
  before = world_of m.instances m.kept.state

  -- the memory is put where it was
  same_world : j.code.store ≡ store_with i.code.store at (memory_at i.code.store at) → before ≡ world_of (set m.instances k j) m.kept.state
  same_world e =
      sym (world_stays k at before)
      ∙ ap (λ (c : Config ℕ). world_with before k at (memory_at c.store at)) (config_at m.instances k i j found)
      ∙ world_then G p run d k at o.realloc m i j found shown (memory_at i.code.store at) e

  -- where it is not come to, and nothing is there to ask if room is asked for
  no_memory : (xs : List Step) (flats : List FlatItem) (go : List ℕ → Act (World S) (Option PlainValue)) → ComesLater xs → (halt : Halt) → goes flats xs (memory_at i.code.store at) ≡ halt → j.code.store ≡ store_with i.code.store at (memory_in halt) →
      (HasRequest xs → o.realloc ≡ None) → so_far m (does_left G p run d k o (record { steps = xs; flats = flats }) >> go) ≡ so_far (with_instance m k j) (left_from G p run d k o halt go)
  unfolding ◌>>◌ traps
  no_memory [] flats go later halt is e none =
      let same = same_world (e ∙ ap (λ x. store_with i.code.store at (memory_in x)) (sym is)) in
      ap (seen_before m.kept.seen)
      (after_unseen (does_left G p run d k o (record { steps = []; flats = flats })) go before m.budget m.budget before (map number_in flats) (ended G p run d k o flats before m.budget)
      ∙ ap (λ v. go (map number_in flats) v m.budget) same)
      ∙ ap (λ x. so_far (with_instance m k j) (left_from G p run d k o x go)) is
  no_memory (Ask align len ∷ xs) flats go later halt is e none =
      subst (λ (r : Option ℕ). so_far m (does_left G p run d k (record { memory = o.memory; realloc = r }) (record { steps = Ask align len ∷ xs; flats = flats }) >> go) ≡ so_far (with_instance m k j) (left_from G p run d k (record { memory = o.memory; realloc = r }) halt go)) (sym (none tt))
      (subst (λ x. so_far m (does_left G p run d k (record { memory = o.memory; realloc = None }) (record { steps = Ask align len ∷ xs; flats = flats }) >> go) ≡ so_far (with_instance m k j) (left_from G p run d k (record { memory = o.memory; realloc = None }) x go)) is refl)
  no_memory (Write base offset bytes ∷ xs) flats go later halt is e none = absurd later
  no_memory (Place base offset request ∷ xs) flats go later halt is e none = absurd later
  no_memory (Refuse ∷ xs) flats go later halt is e none = subst (λ x. so_far m (does_left G p run d k o (record { steps = Refuse ∷ xs; flats = flats }) >> go) ≡ so_far (with_instance m k j) (left_from G p run d k o x go)) is refl

  pub goes_without : (due : Due) (left : Lowered) (answer : Option ℕ) (go : List ℕ → Act (World S) (Option PlainValue)) → due ≡ Nothing → ComesLater left.steps → (halt : Halt) → goes_on due left answer (memory_at i.code.store at) ≡ halt →
      j.code.store ≡ store_with i.code.store at (memory_in halt) → (AsksRoom due left.steps → o.realloc ≡ None) → so_far m (does_due G p run d k o due left answer >> go) ≡ so_far (with_instance m k j) (left_from G p run d k o halt go)
  goes_without due left answer go nothing later halt is e none =
      subst (λ x. so_far m (does_due G p run d k o x left answer >> go) ≡ so_far (with_instance m k j) (left_from G p run d k o halt go)) (sym nothing)
      (no_memory left.steps left.flats go later halt (ap (λ x. goes_on x left answer (memory_at i.code.store at)) (sym nothing) ∙ is) e (λ x. none (subst (λ z. AsksRoom z left.steps) (sym nothing) x)))

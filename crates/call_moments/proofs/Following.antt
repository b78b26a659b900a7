-- What the answer of a function says, where it does one thing and then leaves the rest to another.
use Rattle.std.proofs.Common.{◌≡◌, ℕ, List, [], ◌∷◌, ◌++◌, set, reverse, Option, Some, None, Ok, Err, true, false, refl, sym, ap, subst, ◌∙◌, append-nil}
use Rattle.std.specs.Prelude.{Result, slice_get, option_map}
use Rattle.core_store.specs.State.{State}
use Rattle.core_store.specs.declared.value.CoreValue.{CoreValue}
use Rattle.core_store.specs.Scene.{scene_of}
use Rattle.wit_types.specs.PlainValue.{PlainValue, plain_value}
use Rattle.host_port.specs.Calls.{PlainObservation}
use Rattle.host_port.specs.Hosts.{HostStep, Kept}
use Rattle.comp_worlds.specs.Acts.{Trapped, TooDeep, Out, Next, Over, Spent, seen_before, Act, ◌>>◌}
use Rattle.comp_worlds.specs.Groups.{deeper, Group, Config, World}
use Rattle.comp_worlds.specs.Locals.{Local, gives_in, done}
use Rattle.comp_worlds.specs.Calls.{with_config, on, begins_call}
use Rattle.comp_frames.specs.Frames.{Awaiting}
use Rattle.comp_frames.proofs.Heads.{on_some, on_none, after_unseen, after_over, after_spent, before_before}
use Rattle.comp_frames.proofs.Halts.{here, world_twice}
use Rattle.instance_state.specs.declared.instance.Instance.{Instance}
use Rattle.instance_state.specs.declared.loan.Loan.{Loan}
use Rattle.instance_state.specs.Shown.{config_of}
use Rattle.call_moments.specs.declared.depth.Depth.{Depth}
use Rattle.call_moments.specs.declared.end.Stop.{Stop}
use Rattle.call_moments.specs.declared.end.Stop.TheVariants as stops
use Rattle.call_moments.specs.declared.frame.Flow.{Flow}
use Rattle.call_moments.specs.declared.frame.Flow.TheVariants as flows
use Rattle.call_moments.specs.Steps.{BeginsCall}
use Rattle.call_moments.specs.Laws.{nested}
use Rattle.call_moments.proofs.Begins.{begun}
use Rattle.call_moments.specs.Configs.{config_or_rest, configs_of, world_of}
use Rattle.call_moments.proofs.Worlds.{config_at, changed}
use Rattle.call_moments.specs.Standing.{AllStand}
use Rattle.call_moments.specs.Lending.{IsLending}
use Rattle.call_moments.specs.Held.{AllLend}
use Rattle.call_moments.specs.LoanLaws.{LeavesLent}
use Rattle.call_moments.specs.EndingLaws.{LeavesLent as LeavesMap}
use Rattle.call_moments.proofs.LawsEnding.{last_first}
use Rattle.call_moments.specs.Fits.{scenes_of, Fits}
use Rattle.call_moments.specs.Waiting.{AllAwait, AllRoomy}
use Rattle.call_moments.specs.Leads.{Moment, stores_of, calls_of, maps_of, so_far, Same, Waits, GoesOn, IsDone, Ends, Leads}
use Rattle.call_moments.specs.Functions.{IsChanged, Does}
use Rattle.call_moments.proofs.Instances.{map_here, scenes_set, stores_same, calls_same, maps_set, sizes_same, still_set}

-- a moment with another instance in the place of one
abbrev pub with_instance : {S : Type 0} → Moment S → ℕ → Instance → Moment S
with_instance m k j = record m { instances = set m.instances k j }

pub same_after : {S : Type 0} (old mid new : Moment S) → Same old mid → Same mid new → Same old new
same_after old mid new s t = record { group = t.group ∙ s.group; scenes = t.scenes ∙ s.scenes }

module _ {S : Type 0} (h : HostStep S) (G : Group) where
  pub goes_by : (whole part : Out (World S) (Option PlainValue)) (m : Moment S) → whole ≡ part → GoesOn h G part m → GoesOn h G whole m
  goes_by whole part m e g = subst (λ x. GoesOn h G x m) (sym e) g

  pub ends_by : {A : Type 0} (whole part : Out (World S) A) (m : Moment S) (stop : Stop) → whole ≡ part → Ends h G part m stop → Ends h G whole m stop
  ends_by whole part m stop e g = subst (λ x. Ends h G x m stop) (sym e) g

  -- it did one thing
  pub leads_by : (whole part : Out (World S) (Option PlainValue)) (old mid new : Moment S) (result : Result Flow Stop) → whole ≡ part → Same old mid → Leads h G part mid result new → Leads h G whole old result new
  leads_by whole part old mid new (Ok flows.Goes) e s l = (same_after old mid new s l.0, goes_by whole part new e l.1)
  leads_by whole part old mid new (Ok (flows.Done value)) e s l = (same_after old mid new s l.0, subst (λ x. IsDone h G x new (option_map plain_value value)) (sym e) l.1)
  leads_by whole part old mid new (Err stop) e s l = ends_by whole part new stop e l

  module _ (m : Moment S) (k : ℕ) (i j : Instance) (found : slice_get m.instances k ≡ Some i) (code : j.code ≡ i.code) where
    same_scenes : scenes_of (set m.instances k j) ≡ scenes_of m.instances
    same_scenes = scenes_set m.instances k i j found (ap (λ c. scene_of c.store) code)

    pub same_set : Same m (with_instance m k j)
    same_set = record { group = refl; scenes = same_scenes }

    -- what waits, waits on where flags or handles of an instance change, and with other loans
    pub waits_lending : (waiting : List (Awaiting S)) (loans loans' : List Loan) (count : Option ℕ) → Waits h G m waiting loans count → AllLend (maps_of (set m.instances k j)) loans' (reverse m.frames) → Waits h G (with_instance m k j) waiting loans' count
    waits_lending waiting loans loans' count w lend =
        let is' = set m.instances k j in
        record {
          fits = subst (λ ss. Fits G m.group ss) (sym same_scenes) w.fits;
          still = still_set m.instances k i found j w.still (ap (λ c. c.going) code ∙ w.still k i found);
          stand =
              subst (λ cs. AllStand h G (stores_of is') cs (reverse m.frames) waiting) (sym (calls_same m.instances k i found j code))
              (subst (λ ss. AllStand h G ss (calls_of m.instances) (reverse m.frames) waiting) (sym (stores_same m.instances k i found j code)) w.stand);
          await =
              subst (λ cs. AllAwait (scenes_of is') cs (reverse m.frames) count) (sym (calls_same m.instances k i found j code))
              (subst (λ ss. AllAwait ss (calls_of m.instances) (reverse m.frames) count) (sym same_scenes) w.await);
          room = subst (λ ss. AllRoomy ss (reverse m.frames)) (sym (sizes_same m.instances k i found j (ap (λ c. c.store.memories) code))) w.room;
          lend = lend;
        }

    pub waits_on : LeavesMap i.handles j.handles → (waiting : List (Awaiting S)) (loans : List Loan) (count : Option ℕ) → Waits h G m waiting loans count → Waits h G (with_instance m k j) waiting loans count
    waits_on leaves waiting loans count w =
        waits_lending waiting loans loans count w
        (subst (λ ms. AllLend ms loans (reverse m.frames)) (sym (maps_set m.instances k i found j))
        (last_first.changes (maps_of m.instances) loans (reverse m.frames) k j.handles (λ lent x. leaves lent (subst (λ n. IsLending n lent) (map_here m.instances k i found) x)) w.lend))

    -- an operation on an instance, and the rest
    pub on_then : {A B : Type 0} (op : Config ℕ → Option (Local ℕ A)) (go : A → Act (World S) B) (a : A) → op (config_of i) ≡ Some (gives_in a (config_of j)) → so_far m (on k op >> go) ≡ so_far (with_instance m k j) (go a)
    on_then op go a e =
        ap (seen_before m.kept.seen)
        (on_some (world_of m.instances m.kept.state) m.budget k op go (gives_in a (config_of j)) (ap op (config_at m.instances k i j found) ∙ e)
        ∙ ap (λ v. go a v m.budget) (changed m.instances k i j found m.kept.state))

  pub on_trapped : {A B : Type 0} (m : Moment S) (k : ℕ) (i : Instance) (op : Config ℕ → Option (Local ℕ A)) (go : A → Act (World S) B) → slice_get m.instances k ≡ Some i → op (config_of i) ≡ None → Ends h G (so_far m (on k op >> go)) m stops.Trapped
  on_trapped m k i op go found e =
      ap (seen_before m.kept.seen) (on_none (world_of m.instances m.kept.state) m.budget k op go (ap op (config_at m.instances k i i found) ∙ e))
      ∙ ap (λ o. Over o Trapped) (append-nil m.kept.seen)

  -- two operations on an instance, and the rest
  pub on_two : {A B C : Type 0} (m : Moment S) (k : ℕ) (i j : Instance) (found : slice_get m.instances k ≡ Some i) (first : Config ℕ → Option (Local ℕ A)) (second : A → Config ℕ → Option (Local ℕ B)) (go : A → B → Act (World S) C) (a : A) (b : B) (c : Config ℕ) →
      first (config_of i) ≡ Some (gives_in a c) → second a c ≡ Some (gives_in b (config_of j)) → so_far m (on k first >> λ x. on k (second x) >> go x) ≡ so_far (with_instance m k j) (go a b)
  on_two m k i j found first second go a b c e f =
      let w : World S = world_of m.instances m.kept.state in
      ap (seen_before m.kept.seen)
      (on_some w m.budget k first (λ x. on k (second x) >> go x) (gives_in a c) (ap first (config_at m.instances k i j found) ∙ e)
      ∙ on_some (with_config w k c) m.budget k (second a) (go a) (gives_in b (config_of j)) (ap (second a) (here w k c) ∙ f)
      ∙ ap (λ v. go a b v m.budget) (world_twice w k c (config_of j) ∙ changed m.instances k i j found m.kept.state))

  pub on_three : {A B C D : Type 0} (m : Moment S) (k : ℕ) (i j : Instance) (found : slice_get m.instances k ≡ Some i) (first : Config ℕ → Option (Local ℕ A)) (second : Config ℕ → Option (Local ℕ B)) (third : Config ℕ → Option (Local ℕ C))
      (go : A → B → C → Act (World S) D) (a : A) (b : B) (x : C) (c d : Config ℕ) → first (config_of i) ≡ Some (gives_in a c) → second c ≡ Some (gives_in b d) → third d ≡ Some (gives_in x (config_of j)) →
      so_far m (on k first >> λ p. on k second >> λ q. on k third >> go p q) ≡ so_far (with_instance m k j) (go a b x)
  on_three m k i j found first second third go a b x c d e f g =
      let w : World S = world_of m.instances m.kept.state in
      let v : World S = with_config w k c in
      ap (seen_before m.kept.seen)
      (on_some w m.budget k first (λ p. on k second >> λ q. on k third >> go p q) (gives_in a c) (ap first (config_at m.instances k i j found) ∙ e)
      ∙ on_some v m.budget k second (λ q. on k third >> go a q) (gives_in b d) (ap second (here w k c) ∙ f)
      ∙ on_some (with_config v k d) m.budget k third (go a b) (gives_in x (config_of j)) (ap third (here v k d) ∙ g)
      ∙ ap (λ u. go a b x u m.budget) (world_twice v k d (config_of j) ∙ world_twice w k c (config_of j) ∙ changed m.instances k i j found m.kept.state))

  pub on_then_trapped : {A B C : Type 0} (m : Moment S) (k : ℕ) (i : Instance) (found : slice_get m.instances k ≡ Some i) (first : Config ℕ → Option (Local ℕ A)) (second : A → Config ℕ → Option (Local ℕ B)) (go : A → B → Act (World S) C) (a : A) (c : Config ℕ) →
      first (config_of i) ≡ Some (gives_in a c) → second a c ≡ None → so_far m (on k first >> λ x. on k (second x) >> go x) ≡ Over m.kept.seen Trapped
  on_then_trapped m k i found first second go a c e f =
      let w : World S = world_of m.instances m.kept.state in
      ap (seen_before m.kept.seen)
      (on_some w m.budget k first (λ x. on k (second x) >> go x) (gives_in a c) (ap first (config_at m.instances k i i found) ∙ e)
      ∙ on_none (with_config w k c) m.budget k (second a) (go a) (ap (second a) (here w k c) ∙ f))
      ∙ ap (λ o. Over o Trapped) (append-nil m.kept.seen)

  -- ---- a canonical call begins

  pub begin_then : {A : Type 0} (m : Moment S) (calls new : ℕ) (depth : Depth) (go : Unit {0} → Act (World S) A) → BeginsCall m.budget calls new (Ok depth) → so_far m (begins_call (nested calls) >> go) ≡ so_far (record m { budget = new }) (go tt)
  begin_then m calls new depth go b =
      ap (seen_before m.kept.seen)
      (after_unseen (begins_call (nested calls)) go (world_of m.instances m.kept.state) m.budget new (world_of m.instances m.kept.state) tt (begun (world_of m.instances m.kept.state) m.budget calls new (Ok depth) b).0)

  pub deeper_is : (m : Moment S) (calls new : ℕ) (depth : Depth) → BeginsCall m.budget calls new (Ok depth) → deeper (nested calls) ≡ nested depth.calls
  deeper_is m calls new depth b = (begun (world_of m.instances m.kept.state) m.budget calls new (Ok depth) b).1

  pub begin_ends : {A : Type 0} (m after : Moment S) (calls new : ℕ) (stop : Stop) (go : Unit {0} → Act (World S) A) → after.kept ≡ m.kept → BeginsCall m.budget calls new (Err stop) → Ends h G (so_far m (begins_call (nested calls) >> go)) after stop
  begin_ends m after calls new stops.Spent go same b =
      ap (seen_before m.kept.seen) (after_spent (begins_call (nested calls)) go (world_of m.instances m.kept.state) m.budget [] (begun (world_of m.instances m.kept.state) m.budget calls new (Err stops.Spent) b))
      ∙ ap (λ o. Spent o) (append-nil m.kept.seen ∙ ap (λ (x : Kept S). x.seen) (sym same))
  begin_ends m after calls new stops.TooDeep go same b =
      ap (seen_before m.kept.seen) (after_over (begins_call (nested calls)) go (world_of m.instances m.kept.state) m.budget [] TooDeep (begun (world_of m.instances m.kept.state) m.budget calls new (Err stops.TooDeep) b))
      ∙ ap (λ o. Over o TooDeep) (append-nil m.kept.seen ∙ ap (λ (x : Kept S). x.seen) (sym same))
  begin_ends m after calls new stops.Trapped go same b = absurd b
  begin_ends m after calls new stops.ScriptEnded go same b = absurd b
  begin_ends m after calls new stops.BadAnswer go same b = absurd b
  begin_ends m after calls new stops.NoMemory go same b = absurd b

  -- what waits, waits on with another number of steps
  pub waits_with : (m : Moment S) (new : ℕ) (waiting : List (Awaiting S)) (loans : List Loan) (count : Option ℕ) → Waits h G m waiting loans count → Waits h G (record m { budget = new }) waiting loans count
  waits_with m new waiting loans count w = record { fits = w.fits; still = w.still; stand = w.stand; await = w.await; room = w.room; lend = w.lend }

  -- and with another host
  pub waits_kept : (m : Moment S) (kept : Kept S) (waiting : List (Awaiting S)) (loans : List Loan) (count : Option ℕ) → Waits h G m waiting loans count → Waits h G (record m { kept = kept }) waiting loans count
  waits_kept m kept waiting loans count w = record { fits = w.fits; still = w.still; stand = w.stand; await = w.await; room = w.room; lend = w.lend }

  -- ---- one thing after the other

  module _ (waiting : List (Awaiting S)) (loans : List Loan) (count : Option ℕ) (old mid new : Moment S) (result : Result Flow Stop) (waits : Waits h G old waiting loans count) where
    pub after_does : (op : Config ℕ → Option (Local ℕ (Unit {0}))) → LeavesLent op → (k : ℕ) (go : Act (World S) (Option PlainValue)) → IsChanged op k old mid → (Waits h G mid waiting loans count → Same old mid → Leads h G (so_far mid go) mid result new) →
        Leads h G (so_far old (on k op >> λ _. go)) old result new
    after_does op stays k go d rest =
        let there : Same old mid = subst (λ x. Same old x) (sym d.is) (same_set old k d.before d.after d.found d.code) in
        leads_by (so_far old (on k op >> λ _. go)) (so_far mid go) old mid new result
        (on_then old k d.before d.after d.found d.code op (λ _. go) tt d.goes ∙ ap (λ x. so_far x go) (sym d.is))
        there
        (rest (subst (λ x. Waits h G x waiting loans count) (sym d.is) (waits_on old k d.before d.after d.found d.code (λ lent. stays (config_of d.before) (done (config_of d.after)) lent d.goes) waiting loans count waits)) there)

    -- a call begins
    pub after_begin : (calls : ℕ) (depth : Depth) (go : Act (World S) (Option PlainValue)) → BeginsCall old.budget calls mid.budget (Ok depth) → mid ≡ record old { budget = mid.budget } →
        (Waits h G mid waiting loans count → deeper (nested calls) ≡ nested depth.calls → Leads h G (so_far mid go) mid result new) → Leads h G (so_far old (begins_call (nested calls) >> λ _. go)) old result new
    after_begin calls depth go b is rest =
        leads_by (so_far old (begins_call (nested calls) >> λ _. go)) (so_far mid go) old mid new result
        (begin_then old calls mid.budget depth (λ _. go) b ∙ ap (λ x. so_far x go) (sym is))
        (subst (λ x. Same old x) (sym is) (record { group = refl; scenes = refl }))
        (rest (subst (λ x. Waits h G x waiting loans count) (sym is) (waits_with old mid.budget waiting loans count waits)) (deeper_is old calls mid.budget depth b))

  pub does_fail : {A : Type 0} (op : Config ℕ → Option (Local ℕ (Unit {0}))) (k : ℕ) (old new : Moment S) (stop : Stop) (go : Unit {0} → Act (World S) A) → Does op k old (Err stop) new → (i : Instance) → slice_get old.instances k ≡ Some i →
      Ends h G (so_far old (on k op >> go)) new stop
  does_fail op k old new stops.Trapped go d i found =
      on_trapped old k i op go found (d.1 i found) ∙ ap (λ (x : Kept S). Over x.seen Trapped) (sym d.0)
  does_fail op k old new stops.ScriptEnded go d i found = absurd d
  does_fail op k old new stops.BadAnswer go d i found = absurd d
  does_fail op k old new stops.Spent go d i found = absurd d
  does_fail op k old new stops.TooDeep go d i found = absurd d
  does_fail op k old new stops.NoMemory go d i found = tt

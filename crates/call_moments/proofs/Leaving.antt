-- Results go back, and answered calls are left.
use Rattle.std.proofs.Common.{◌≡◌, ◌<◌, ℕ, List, [], ◌∷◌, length, set, reverse, Option, Some, None, Ok, Err, true, false, refl, sym, ap, subst, ◌∙◌}
use Rattle.std.specs.Prelude.{Result, slice_get}
use Rattle.std.proofs.lemmas.List.{reverse-reverse}
use Rattle.core_store.specs.State.{State}
use Rattle.core_store.specs.declared.value.CoreValue.{CoreValue}
use Rattle.core_store.specs.Scene.{Scene}
use Rattle.wit_types.specs.PlainValue.{PlainValue}
use Rattle.host_port.specs.Hosts.{HostStep}
use Rattle.comp_worlds.specs.Acts.{Next, seen_before, Act, ◌>>◌, gives}
use Rattle.comp_worlds.specs.Groups.{Nesting, deeper, Lifting, Group, World, Due, Nothing, Served, Below}
use Rattle.comp_worlds.specs.Calls.{on, begins_call}
use Rattle.comp_worlds.specs.Locals.{done, exit, close, reopen}
use Rattle.comp_worlds.specs.Hosts.{hosted}
use Rattle.comp_frames.proofs.Heads.{before_next}
use Rattle.comp_frames.proofs.Hosting.{host_left}
use Rattle.comp_frames.specs.Frames.{Awaiting, Back, ToOutside, Returns, Destroys, instance_in, is_left, goes_back, comes_back, resumes}
use Rattle.comp_frames.proofs.Steps.{leaves_calls}
use Rattle.comp_frames.specs.Running.{running}
use Rattle.instance_state.specs.declared.instance.Instance.{Instance}
use Rattle.call_moments.specs.declared.frame.Frame.{Frame}
use Rattle.instance_state.specs.Shown.{config_of}
use Rattle.call_moments.specs.declared.end.Stop.{Stop}
use Rattle.call_moments.specs.declared.end.Stop.TheVariants as stops
use Rattle.call_moments.specs.declared.frame.Flow.{Flow}
use Rattle.call_moments.specs.declared.frame.Back.{Back as CodeBack}
use Rattle.call_moments.specs.declared.frame.Back.TheVariants as backs
use Rattle.call_moments.specs.declared.frame.Visit.{Visit}
use Rattle.call_moments.specs.declared.frame.Visit.TheVariants as visits
use Rattle.wit_types.specs.declared.value.Value.{Value}
use Rattle.wit_types.specs.PlainValue.{plain_value}
use Rattle.call_moments.specs.Shown.{back_of, visits_of}
use Rattle.call_moments.specs.Configs.{world_of}
use Rattle.call_moments.specs.CodeLaws.{nested}
use Rattle.call_moments.specs.Standing.{Calls, AllStand}
use Rattle.call_moments.specs.Held.{AllLend}
use Rattle.call_moments.proofs.Lending.{handles_stay}
use Rattle.call_moments.specs.Fits.{scenes_of}
use Rattle.call_moments.specs.Waiting.{due_back, AllAwait}
use Rattle.call_moments.specs.Leads.{Moment, stores_of, calls_of, maps_of, so_far, Same, Waits, IsDone, Leads}
use Rattle.call_moments.specs.Functions.{IsChanged, Does, back_to, behind, answer_to, Resumes, GoesBack, HasReturned, HasDestroyed}
use Rattle.call_moments.proofs.Instances.{found_at}
use Rattle.call_moments.proofs.Following.{with_instance, same_set, waits_on, leads_by, on_two, after_does}

-- where nothing outside awaits results, no code is in progress
pub none_awaits : {S : Type 0} (h : HostStep S) (G : Group) (stores : ℕ → State) (scenes : List Scene) (calls : Calls) (fs : List Frame) (waiting : List (Awaiting S)) → AllStand h G stores calls fs waiting → AllAwait scenes calls fs None →
    (fs ≡ []) × ((k : ℕ) → calls k ≡ [])
none_awaits h G stores scenes calls [] [] s a = (refl, s)
none_awaits h G stores scenes calls [] (x ∷ waiting) s a = absurd s
none_awaits h G stores scenes calls (f ∷ fs) waiting s a = absurd a

module _ {S : Type 0} (h : HostStep S) (G : Group) (m : Moment S) (waiting : List (Awaiting S)) where
  given : (value : PlainValue) → so_far m (goes_back G (hosted h) (nested 0) (instance_in waiting) (resumes G (hosted h) (nested 0) waiting) (ToOutside value)) ≡ Next m.kept.seen m.budget (world_of m.instances m.kept.state) (Some value)
  unfolding gives
  given value = before_next m.kept.seen m.budget (world_of m.instances m.kept.state) (Some value)

  pub goes_outside : (value : PlainValue) → Waits h G m waiting [] None → IsDone h G (so_far m (goes_back G (hosted h) (nested 0) (instance_in waiting) (resumes G (hosted h) (nested 0) waiting) (ToOutside value))) m (Some value)
  goes_outside value w =
      let none = none_awaits h G (stores_of m.instances) (scenes_of m.instances) (calls_of m.instances) (reverse m.frames) waiting w.stand w.await in
      record {
        rest = record {
          fits = w.fits;
          still = w.still;
          calls = none.1;
          frames = sym (reverse-reverse m.frames) ∙ ap reverse none.0;
          lend = subst (λ fs. AllLend (maps_of m.instances) [] fs) none.0 w.lend;
        };
        is = given value;
      }

  -- nothing is left to do after a host's answer
  pub left_host : (e : Nesting) (due : Due) (go : Act (World S) (Option PlainValue)) → so_far m (is_left G (hosted h) (nested 0) e (Below due) >> λ _. go) ≡ so_far m go
  left_host e due go = ap (seen_before m.kept.seen) (host_left h e (world_of m.instances m.kept.state) m.budget due (λ _. go))

  module _ (at : ℕ) (back : List CoreValue → Act (World S) (Option PlainValue)) (e : Nesting) (k : ℕ) (lifting : Lifting) (results : List CoreValue) (to : Back) where
    pub left_quietly : lifting.post ≡ None → so_far m (is_left G (hosted h) (nested 0) e (Served k lifting results) >> λ _. goes_back G (hosted h) (nested 0) at back to) ≡ so_far m (on k exit >> λ _. goes_back G (hosted h) (nested 0) at back to)
    left_quietly is = ap (so_far m) ((leaves_calls G h (nested 0)).quietly at back e k lifting results to is)

    pub left_by : (f : ℕ) → lifting.post ≡ Some f →
        so_far m (is_left G (hosted h) (nested 0) e (Served k lifting results) >> λ _. goes_back G (hosted h) (nested 0) at back to)
        ≡ so_far m (begins_call e >> λ _. on k close >> λ _. running G (hosted h) (deeper e) k f results >> comes_back G (hosted h) (nested 0) at back k (Returns to))
    left_by f is = ap (so_far m) ((leaves_calls G h (nested 0)).by_post_return at back e k lifting results to f is)

module _ {S : Type 0} (h : HostStep S) where
  pub outside_leads : (G : Group) (m : Moment S) (waiting : List (Awaiting S)) (back : CodeBack) (value : Value) → back ≡ backs.Outside value → Waits h G m waiting [] (due_back (back_of back)) →
      Same m m × IsDone h G (so_far m (answer_to h G waiting back)) m (Some (plain_value value))
  outside_leads G m waiting back value e =
      subst (λ b. Waits h G m waiting [] (due_back (back_of b)) → Same m m × IsDone h G (so_far m (answer_to h G waiting b)) m (Some (plain_value value))) (sym e)
      (λ w. (record { group = refl; scenes = refl }, goes_outside h G m waiting (plain_value value) w))

  pub exit_goes : (m new : Moment S) (k : ℕ) (stop : Stop) → k < length m.instances → Does exit k m (Err stop) new → ⊥
  exit_goes m new k stops.Trapped lt d =
      let found = found_at m.instances k lt in
      let none : exit (config_of found.0) ≡ None = d.1 found.0 found.1 in
      absurd (cc)
  exit_goes m new k stops.ScriptEnded lt d = d
  exit_goes m new k stops.BadAnswer lt d = d
  exit_goes m new k stops.Spent lt d = d
  exit_goes m new k stops.TooDeep lt d = d
  exit_goes m new k stops.NoMemory lt d = d

  pub own_leads : (old mid new : Moment S) (k : ℕ) (visit : Visit) (xs : List CoreValue) (result : Result Flow Stop) → visit ≡ visits.Own → mid ≡ old → xs ≡ [] → Resumes h mid xs result new → HasDestroyed h old k visit result new
  own_leads old mid new k visit xs result v e x r = λ G waiting results w lt.
      let there : Resumes h old [] result new = subst (λ y. Resumes h y [] result new) e (subst (λ ys. Resumes h mid ys result new) x r) in
      subst (λ u. Leads h G (so_far old (behind h G waiting k (Destroys (visits_of u)) results)) old result new) (sym v) (there G waiting w)

  pub other_leads : (old mid new : Moment S) (k : ℕ) (visit : Visit) (xs : List CoreValue) (result : Result Flow Stop) → visit ≡ visits.Other → IsChanged exit k old mid → xs ≡ [] → Resumes h mid xs result new → HasDestroyed h old k visit result new
  other_leads old mid new k visit xs result v d x r = λ G waiting results w lt.
      let there : Resumes h mid [] result new = subst (λ ys. Resumes h mid ys result new) x r in
      subst (λ u. Leads h G (so_far old (behind h G waiting k (Destroys (visits_of u)) results)) old result new) (sym v)
      (after_does h G waiting [] (Some 0) old mid new result w exit handles_stay.exits k (back_to h G waiting []) d (λ waits s. there G waiting waits))

  pub returned_leads : (old new : Moment S) (k : ℕ) (back : CodeBack) (result : Result Flow Stop) (i opened j : Instance) → slice_get old.instances k ≡ Some i → reopen (config_of i) ≡ Some (done (config_of opened)) → opened.code ≡ i.code →
      exit (config_of opened) ≡ Some (done (config_of j)) → j.code ≡ opened.code → GoesBack h (with_instance old k j) back result new → HasReturned h old k back result new
  returned_leads old new k back result i opened j found e c f d r = λ G waiting results w lt.
      leads_by h G (so_far old (behind h G waiting k (Returns (back_of back)) results)) (so_far (with_instance old k j) (answer_to h G waiting back)) old (with_instance old k j) new result
      (on_two h G old k i j found reopen (λ _. exit) (λ _ _. answer_to h G waiting back) tt tt (config_of opened) e f)
      (same_set h G old k i j found (d ∙ c))
      (r G waiting (waits_on h G old k i j found (d ∙ c) (λ lent x. handles_stay.exits (config_of opened) (done (config_of j)) lent f (handles_stay.reopens (config_of i) (done (config_of opened)) lent e x)) waiting [] (due_back (back_of back)) w))

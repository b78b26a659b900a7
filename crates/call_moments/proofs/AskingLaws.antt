-- Room is asked for while values are stored.
use Rattle.std.proofs.Common.{◌≡◌, ℕ, List, [], ◌∷◌, reverse, Option, Some, None, Ok, Err, refl, sym, ap, subst, ◌∙◌, append-nil}
use Rattle.std.specs.Prelude.{Result, IsErrAnd}
use Rattle.core_store.specs.Words.{words}
use Rattle.core_store.specs.declared.value.CoreValue.{CoreValue}
use Rattle.core_store.specs.declared.value.CoreValue.TheVariants as values
use Rattle.wit_types.specs.PlainValue.{PlainValue}
use Rattle.abi_store.specs.Plan.{Asked}
use Rattle.host_port.specs.Hosts.{HostStep}
use Rattle.comp_worlds.specs.Acts.{Trapped, Over, Act, ◌>>◌, traps}
use Rattle.comp_worlds.specs.Groups.{deeper, Group, World}
use Rattle.comp_worlds.specs.Calls.{begins_call, asks_for}
use Rattle.comp_worlds.specs.Hosts.{hosted}
use Rattle.comp_frames.specs.Running.{running}
use Rattle.comp_frames.specs.Left.{goes_granted}
use Rattle.comp_frames.specs.Frames.{Awaiting, instance_in}
use Rattle.comp_frames.proofs.Steps.{storing_goes_on}
use Rattle.instance_state.specs.Passed.{options_of}
use Rattle.call_moments.specs.declared.depth.Depth.{Depth}
use Rattle.call_moments.specs.Steps.{BeginsCall}
use Rattle.call_moments.specs.declared.end.Stop.{Stop}
use Rattle.call_moments.specs.declared.end.Stop.TheVariants as stops
use Rattle.call_moments.specs.declared.frame.Flow.{Flow}
use Rattle.call_moments.specs.declared.frame.Flow.TheVariants as flows
use Rattle.call_moments.specs.declared.frame.Purpose.TheVariants as purposes
use Rattle.call_moments.specs.declared.frame.Storing.{Storing}
use Rattle.call_moments.specs.CodeLaws.{nested}
use Rattle.call_moments.specs.Held.{loans_next}
use Rattle.call_moments.specs.Shown.{depth_of, storing_of, grants_of, purpose_of}
use Rattle.call_moments.specs.Fits.{scenes_of}
use Rattle.call_moments.specs.Waiting.{due_next, instance_of, AsksRoom}
use Rattle.call_moments.specs.Leads.{Moment, sizes_of, so_far, Waits, Leads}
use Rattle.call_moments.specs.Functions.{CanBegin, CodeBegins, CanStore, AsksFor, run, behind, back_to, storing_so}
use Rattle.call_moments.proofs.Following.{leads_by, ends_by, after_begin, begin_ends}
use Rattle.call_moments.proofs.Serves.{stays, ends_as}

-- the arguments of `realloc` for new room
abbrev pub request_of : (align len : ℕ) → List CoreValue
request_of align len = values.I32 0 ∷ values.I32 0 ∷ values.I32 align ∷ values.I32 len ∷ []

module _ {S : Type 0} (h : HostStep S) (G : Group) (waiting : List (Awaiting S)) (s : Storing) (align len : ℕ) where
  -- what is left where room is asked for by this option
  abbrev pub asks_by : Option ℕ → Act (World S) (Option PlainValue)
  asks_by realloc =
      storing_so h G waiting s (asks_for G (hosted h) (running G (hosted h)) (depth_of s.depth) s.instance realloc align len >> λ results.
      goes_granted G (hosted h) (running G (hosted h)) (depth_of s.depth) s.instance (options_of s.options) align len s.plan.left (words results))

  pub asks_traps : (m : Moment S) → so_far m (asks_by None) ≡ Over m.kept.seen Trapped
  unfolding ◌>>◌ traps
  asks_traps m = ap (λ o. Over o Trapped) (append-nil m.kept.seen)

  -- `realloc` runs, and then storing goes on
  abbrev pub runs_realloc : ℕ → Act (World S) (Option PlainValue)
  runs_realloc f = run h G (deeper (nested s.depth.calls)) s.instance f (request_of align len) >> behind h G waiting s.instance (purpose_of (purposes.Grants s))

  asked_so : (f : ℕ) → s.options.realloc ≡ Some f → s.plan.due ≡ Asked align len → asks_by s.options.realloc ≡ (begins_call (nested s.depth.calls) >> λ _. runs_realloc f)
  asked_so f some due =
      ap asks_by some
      ∙ (storing_goes_on G h (nested 0)).asking (instance_in waiting) (back_to h G waiting) s.instance (storing_of s) f align len s.plan.left
      ∙ ap (λ d. begins_call (nested s.depth.calls) >> λ _. run h G (deeper (nested s.depth.calls)) s.instance f (request_of align len) >> behind h G waiting s.instance (grants_of (storing_of s) d s.plan)) (sym due)

module _ {S : Type 0} (h : HostStep S) (s : Storing) (align len : ℕ) where
  -- nothing is there to ask
  pub asking_none : (old : Moment S) → s.options.realloc ≡ None → AsksFor h old s align len (Err stops.Trapped) old
  asking_none old none = λ G waiting can due.
      ap (λ r. so_far old (asks_by h G waiting s align len r)) none ∙ asks_traps h G waiting s align len old

  can_ask : (G : Group) (waiting : List (Awaiting S)) (m : Moment S) (f : ℕ) → s.options.realloc ≡ Some f → s.plan.due ≡ Asked align len → CanStore h G waiting m s →
      CanBegin (scenes_of m.instances) (sizes_of m.instances) (instance_of (reverse m.frames)) s.instance f 4 (purposes.Grants s)
  can_ask G waiting m f some due can =
      let there = can.fits.realloc f some in
      record {
        takes = there.0;
        fits = record { here = refl; storing = can.fits; memory = can.fits.memory (subst (λ d. AsksRoom d s.plan.left.steps) (sym due) tt); align = align; len = len; due = due };
        answers = there.1;
        room = can.room;
      }

  module _ (old mid new : Moment S) (f : ℕ) (some : s.options.realloc ≡ Some f) (result : Result Flow Stop) where
    pub asking_leads : (depth : Depth) → BeginsCall old.budget s.depth.calls mid.budget (Ok depth) → mid ≡ record old { budget = mid.budget } →
        ((G : Group) (waiting : List (Awaiting S)) → Waits h G mid waiting (loans_next s.then) (due_next s.plan.types s.then) → CanBegin (scenes_of mid.instances) (sizes_of mid.instances) (instance_of (reverse mid.frames)) s.instance f 4 (purposes.Grants s) →
        Leads h G (so_far mid (run h G (depth_of depth) s.instance f (request_of align len) >> behind h G waiting s.instance (purpose_of (purposes.Grants s)))) mid result new) → AsksFor h old s align len result new
    asking_leads depth b is rest = λ G waiting can due.
        leads_by h G (so_far old (asks_by h G waiting s align len s.options.realloc)) (so_far old (begins_call (nested s.depth.calls) >> λ _. runs_realloc h G waiting s align len f)) old old new result
        (ap (so_far old) (asked_so h G waiting s align len f some due)) (stays h old)
        (after_begin h G waiting (loans_next s.then) (due_next s.plan.types s.then) old mid new result can.waits s.depth.calls depth (runs_realloc h G waiting s align len f) b is (λ w deep.
        subst (λ e. Leads h G (so_far mid (run h G e s.instance f (request_of align len) >> behind h G waiting s.instance (purpose_of (purposes.Grants s)))) mid result new) (sym deep)
        (rest G waiting w (subst (λ (x : Moment S). CanBegin (scenes_of x.instances) (sizes_of x.instances) (instance_of (reverse x.frames)) s.instance f 4 (purposes.Grants s)) (sym is) (can_ask G waiting old f some due can)))))

    pub asking_fails : (stop : Stop) → BeginsCall old.budget s.depth.calls new.budget (Err stop) → new.kept ≡ old.kept → IsErrAnd result (λ x. x ≡ stop) → AsksFor h old s align len result new
    asking_fails stop b same e = λ G waiting can due.
        ends_as h old new G (so_far old (asks_by h G waiting s align len s.options.realloc)) stop result e
        (ends_by h G (so_far old (asks_by h G waiting s align len s.options.realloc)) (so_far old (begins_call (nested s.depth.calls) >> λ _. runs_realloc h G waiting s align len f)) new stop (ap (so_far old) (asked_so h G waiting s align len f some due))
        (begin_ends h G old new s.depth.calls new.budget stop (λ _. runs_realloc h G waiting s align len f) same b))

-- `realloc` begins, or does not
module _ {S : Type 0} (h : HostStep S) (s : Storing) (align len : ℕ) (old mid new : Moment S) (f : ℕ) (some : s.options.realloc ≡ Some f) (depth : Depth) (b : BeginsCall old.budget s.depth.calls mid.budget (Ok depth)) (is : mid ≡ record old { budget = mid.budget })
    (args : List CoreValue) (asks : args ≡ request_of align len) where
  pub asking_goes : CodeBegins h mid s.instance f args depth (purposes.Grants s) (Ok tt) new → AsksFor h old s align len (Ok flows.Goes) new
  asking_goes begins =
      let there : CodeBegins h mid s.instance f (request_of align len) depth (purposes.Grants s) (Ok tt) new = subst (λ xs. CodeBegins h mid s.instance f xs depth (purposes.Grants s) (Ok tt) new) asks begins in
      asking_leads h s align len old mid new f some (Ok flows.Goes) depth b is there

  pub asking_stops : (stop : Stop) (result : Result Flow Stop) → CodeBegins h mid s.instance f args depth (purposes.Grants s) (Err stop) new → IsErrAnd result (λ x. x ≡ stop) → AsksFor h old s align len result new
  asking_stops stop result begins e =
      let there : CodeBegins h mid s.instance f (request_of align len) depth (purposes.Grants s) (Err stop) new = subst (λ xs. CodeBegins h mid s.instance f xs depth (purposes.Grants s) (Err stop) new) asks begins in
      asking_leads h s align len old mid new f some result depth b is (λ G waiting w can. ends_as h mid new G (so_far mid (run h G (depth_of depth) s.instance f (request_of align len) >> behind h G waiting s.instance (purpose_of (purposes.Grants s)))) stop result e (there G waiting w can))

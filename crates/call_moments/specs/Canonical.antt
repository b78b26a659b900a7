-- What the answers of canonical functions say, and of core code that goes on, over every group and whatever awaits for the frames.
use Rattle.std.specs.Prelude.{◌≡◌, ◌<◌, ◌==◌, nat_eq, ℕ, List, [], ◌∷◌, length, reverse, Option, Some, None, true, false, option_map, Result, Ok, Err, slice_get, slice_set}
use Rattle.virt_base.specs.declared.core_type.CoreType.{CoreType}
use Rattle.core_store.specs.declared.value.CoreValue.{CoreValue}
use Rattle.core_store.specs.Words.{words, HaveTypes}
use Rattle.wit_types.specs.PlainValue.{PlainValue, plain_value}
use Rattle.wit_types.specs.HasType.{is_of}
use Rattle.wit_types.specs.declared.value.Value.{Value}
use Rattle.abi_layout.specs.Functions.{lifted as lifted_func}
use Rattle.indexmap.specs.IndexMap.{get}
use Rattle.host_port.specs.Hosts.{HostStep}
use Rattle.comp_worlds.specs.Acts.{Out, Act, ◌>>◌}
use Rattle.comp_worlds.specs.Passing.{params_tuple, answer_tuple, most_results, has_borrow}
use Rattle.comp_worlds.specs.Groups.{Nesting, deeper, Lifting, Func, Group, World, Answer, Nothing, Inside, Import}
use Rattle.comp_worlds.specs.Locals.{Args, gives_in, lifts, has_no_borrow}
use Rattle.comp_worlds.specs.Calls.{on, below, begins_call, performs}
use Rattle.comp_worlds.specs.Hosts.{passed_by, hosted}
use Rattle.comp_frames.specs.Running.{running}
use Rattle.comp_frames.specs.Frames.{Awaiting, instance_in}
use Rattle.comp_frames.specs.Laws.{drops_own}
use Rattle.instance_state.specs.declared.instance.Instance.{Instance}
use Rattle.instance_state.specs.Shown.{config_of}
use Rattle.instance_state.specs.declared.owners.Owner.{Owner}
use Rattle.instance_state.specs.Owning.{owner_of}
use Rattle.instance_state.specs.Passed.{needs_memory}
use Rattle.call_moments.specs.Grouped.{canon_in}
use Rattle.call_moments.specs.declared.depth.Depth.{Depth}
use Rattle.call_moments.specs.declared.end.Stop.{Stop}
use Rattle.call_moments.specs.declared.frame.Flow.{Flow}
use Rattle.call_moments.specs.declared.frame.Frame.{Frame}
use Rattle.call_moments.specs.CodeLaws.{nested}
use Rattle.call_moments.specs.Held.{loans_behind}
use Rattle.call_moments.specs.Shown.{depth_of, purpose_of}
use Rattle.call_moments.specs.Fits.{scenes_of, core_type_of, HasMemory, Takes, OwnerFits, FuncFits}
use Rattle.call_moments.specs.Waiting.{due_behind, instance_of, PurposeFits, WillAnswer, RoomOf}
use Rattle.call_moments.specs.Leads.{Moment, sizes_of, so_far, Same, Waits, GoesOn, IsDone, Ends, Leads}
use Rattle.call_moments.specs.Functions.{back_to, behind}

-- ---- the result of a lifted function

-- it was lifted, and neither it nor the table lends a handle
pub record IsResultOf {S : Type 0} (k : ℕ) (lifting : Lifting) (results : List CoreValue) (value : Value) (old new : Moment S) : Type 0 where
  pub before : Instance
  pub after : Instance
  pub found : slice_get old.instances k ≡ Some before
  pub lifted : lifts most_results (answer_tuple lifting.ty) lifting.options (words results) (config_of before) ≡ Some (gives_in (record { passed = passed_by (answer_tuple lifting.ty) (plain_value value); loans = [] }) (config_of after))
  pub none : has_borrow after.handles ≡ false
  pub typed : is_of (answer_tuple lifting.ty) (plain_value value) ≡ true
  pub code : after.code ≡ before.code
  pub is : new ≡ record old { instances = slice_set old.instances k after }

module _ {S : Type 0} (h : HostStep S) where
  -- of the types that it answers; or the run ends, whatever else would follow
  abbrev pub LiftsResult : Moment S → ℕ → Lifting → List CoreValue → Result Value Stop → Moment S → Type 0
  LiftsResult old k lifting results (Ok value) new = HaveTypes (lifted_func lifting.ty).results results → IsResultOf k lifting results value old new
  LiftsResult old k lifting results (Err stop) new =
      (G : Group) (go : Args ℕ → Act (World S) (Option PlainValue)) → k < length old.instances → (needs_memory most_results (answer_tuple lifting.ty) ≡ true → HasMemory (scenes_of old.instances) k lifting.options) →
      HaveTypes (lifted_func lifting.ty).results results →
      Ends h G (so_far old (on k (lifts most_results (answer_tuple lifting.ty) lifting.options (words results)) >> λ l. on k (has_no_borrow l.loans) >> λ _. go l)) new stop

  -- ---- the host

  -- a host answered core code, with the tuple of its result, or the run ends so; whatever else follows
  abbrev pub AsksHost : Moment S → Import → PlainValue → Result Value Stop → Moment S → Type 0
  AsksHost old import args (Ok value) new =
      ((d : Nesting) (go : Answer → Act (World S) (Option PlainValue)) →
      so_far old (below ((hosted h).ask d Inside import (passed_by (params_tuple import.ty) args)) >> go) ≡ so_far new (go (record { passed = passed_by (answer_tuple import.ty) (plain_value value); due = Nothing })))
      × (is_of (answer_tuple import.ty) (plain_value value) ≡ true)
      × (new ≡ record old { kept = new.kept })
  AsksHost old import args (Err stop) new =
      (G : Group) (d : Nesting) (go : Answer → Act (World S) (Option PlainValue)) → Ends h G (so_far old (below ((hosted h).ask d Inside import (passed_by (params_tuple import.ty) args)) >> go)) new stop

  -- ---- canonical functions

  -- a canonical function does this for core code of an instance, in which that many calls are in progress, and its results go back
  abbrev pub Performs : Moment S → ℕ → Nesting → Func → List CoreValue → Result Flow Stop → Moment S → Type 0
  Performs old k e func args result new =
      (G : Group) (waiting : List (Awaiting S)) → Waits h G old waiting [] (Some (length (core_type_of func).results)) → k ≡ instance_of (reverse old.frames) →
      FuncFits (scenes_of old.instances) G old.group.owners (λ r. get nat_eq old.group.imported r) k func → HaveTypes (core_type_of func).params args →
      Leads h G (so_far old (performs G (hosted h) (running G (hosted h)) e k (words args) (Some func) >> back_to h G waiting)) old result new

  -- core code asks for it by its number
  abbrev pub AnswersCode : Moment S → (k number calls : ℕ) → List CoreValue → Result Flow Stop → Moment S → Type 0
  AnswersCode old k number calls args result new =
      (G : Group) (waiting : List (Awaiting S)) (func : Func) → canon_in old.group.canons.items k number ≡ Some func → Waits h G old waiting [] (Some (length (core_type_of func).results)) → k ≡ instance_of (reverse old.frames) →
      HaveTypes (core_type_of func).params args →
      Leads h G (so_far old (begins_call (nested calls) >> λ _. performs G (hosted h) (running G (hosted h)) (deeper (nested calls)) k (words args) (G.canons k number) >> back_to h G waiting)) old result new

  abbrev pub DropsAtHost : Moment S → (resource rep : ℕ) → Result Flow Stop → Moment S → Type 0
  DropsAtHost old resource rep result new =
      (G : Group) (waiting : List (Awaiting S)) (e : Nesting) → Waits h G old waiting [] (Some 0) → get nat_eq old.group.imported resource ≡ Some (G.imported resource) →
      Leads h G (so_far old (below ((hosted h).drop e (G.imported resource) rep) >> λ _. back_to h G waiting [])) old result new

  -- what a handle stood for is dropped by code of the instance k
  abbrev pub Destroys : Moment S → ℕ → Depth → Owner → ℕ → Result Flow Stop → Moment S → Type 0
  Destroys old k depth owner rep result new =
      (G : Group) (waiting : List (Awaiting S)) (resource : ℕ) → Waits h G old waiting [] (Some 0) → owner.instance < length old.instances → ((f : ℕ) → owner.destructor ≡ Some f → Takes (scenes_of old.instances) owner.instance f 1) →
      Leads h G (so_far old (drops_own G h (nested 0) k (back_to h G waiting) (owner.instance == k) (depth_of depth) resource rep (Some (owner_of owner)))) old result new

  -- ---- core code goes on

  -- core code of the innermost frame came back
  abbrev pub EndsCode : Moment S → List CoreValue → Result Flow Stop → Moment S → Type 0
  EndsCode old results result new =
      (G : Group) (waiting : List (Awaiting S)) (f : Frame) (outer : List Frame) (types : List CoreType) → reverse old.frames ≡ f ∷ outer → f.instance < length old.instances →
      Waits h G (record old { frames = reverse outer }) waiting (loans_behind f.purpose) (due_behind f.purpose) → PurposeFits (scenes_of old.instances) (instance_of outer) f.instance f.purpose →
      RoomOf (sizes_of old.instances) f.purpose → WillAnswer (scenes_of old.instances) f.purpose types → HaveTypes types results →
      Leads h G (so_far old (behind h G waiting f.instance (purpose_of f.purpose) results)) old result new

  -- the innermost core code goes on to its next pause
  abbrev pub GoesToPause : Moment S → Result Flow Stop → Moment S → Type 0
  GoesToPause old result new = (G : Group) (whole : Out (World S) (Option PlainValue)) → GoesOn h G whole old → Leads h G whole old result new

  -- all goes on to the end
  abbrev pub GoesToEnd : Moment S → Result (Option Value) Stop → Moment S → Type 0
  GoesToEnd old (Ok value) new = (G : Group) (whole : Out (World S) (Option PlainValue)) → GoesOn h G whole old → Same old new × IsDone h G whole new (option_map plain_value value)
  GoesToEnd old (Err stop) new = (G : Group) (whole : Out (World S) (Option PlainValue)) → GoesOn h G whole old → Ends h G whole new stop

-- What the answer of each function of `World` says, over every group and whatever waits for the frames.
use Rattle.std.specs.Prelude.{◌≡◌, ◌<◌, ℕ, List, [], ◌∷◌, length, reverse, Option, Some, None, Bool, true, false, Result, Ok, Err, slice_get, slice_set}
use Rattle.virt_base.specs.declared.core_type.CoreType.TheVariants.{I32}
use Rattle.core_store.specs.declared.value.CoreValue.{CoreValue}
use Rattle.core_store.specs.Scene.{Scene}
use Rattle.core_store.specs.Words.{words, values_in, HaveTypes}
use Rattle.wit_types.specs.PlainValue.{PlainValue}
use Rattle.wit_types.specs.HasType.{is_of}
use Rattle.abi_layout.specs.Functions.{core_params}
use Rattle.abi_layout.specs.Storing.{Step, Ask, Write, Place, Refuse}
use Rattle.abi_store.specs.Plan as plans
use Rattle.abi_store.specs.Plan.{Asked}
use Rattle.host_port.specs.Hosts.{HostStep}
use Rattle.comp_worlds.specs.Acts.{Out, Act, ◌>>◌}
use Rattle.comp_worlds.specs.Passing.{params_tuple, answer_tuple}
use Rattle.comp_worlds.specs.Groups.{Nesting, deeper, Options, Lifting, type_of, Group, Config, World}
use Rattle.comp_worlds.specs.Locals.{Local, done, close}
use Rattle.comp_worlds.specs.Calls.{on, begins_call, asks_for}
use Rattle.comp_worlds.specs.Hosts.{passed_by, hosted}
use Rattle.comp_frames.specs.Running.{running}
use Rattle.comp_frames.specs.Left.{does_due, goes_granted}
use Rattle.comp_frames.specs.Frames.{Awaiting, FromCode, Serves, Returns, Destroys, Rest, instance_in, is_left, goes_back, is_answered, goes_next, is_storing, resumes, ends_in}
use Rattle.comp_frames.specs.Laws.{is_called, calls_lifted}
use Rattle.comp_frames.specs.Frames as defined
use Rattle.instance_state.specs.declared.instance.Instance.{Instance}
use Rattle.instance_state.specs.Shown.{config_of}
use Rattle.instance_state.specs.Passed.{options_of}
use Rattle.instance_state.specs.Targets.{target_of, lifting_of}
use Rattle.call_moments.specs.declared.depth.Depth.{Depth}
use Rattle.call_moments.specs.declared.end.Stop.{Stop}
use Rattle.call_moments.specs.declared.end.Stop.TheVariants as stops
use Rattle.call_moments.specs.declared.frame.Flow.{Flow}
use Rattle.call_moments.specs.declared.frame.Flow.TheVariants as flows
use Rattle.call_moments.specs.declared.frame.Frame.{Frame}
use Rattle.call_moments.specs.declared.frame.Purpose.{Purpose}
use Rattle.call_moments.specs.declared.frame.Purpose.TheVariants as purposes
use Rattle.call_moments.specs.declared.frame.Call.{Call}
use Rattle.call_moments.specs.declared.frame.Caller.{Caller}
use Rattle.call_moments.specs.declared.frame.Service.{Service}
use Rattle.call_moments.specs.declared.frame.Served.{Served}
use Rattle.call_moments.specs.declared.frame.Storing.{Storing}
use Rattle.call_moments.specs.declared.frame.Stored.{Stored}
use Rattle.call_moments.specs.declared.frame.Back.{Back}
use Rattle.call_moments.specs.declared.frame.Due.{Due}
use Rattle.call_moments.specs.declared.frame.Visit.{Visit}
use Rattle.call_moments.specs.CodeLaws.{nested}
use Rattle.call_moments.specs.Held.{loans_by, loans_next, loans_behind}
use Rattle.call_moments.specs.Shown.{depth_of, asker_of, caller_of, service_of, due_of, next_of, storing_of, back_of, visits_of, purpose_of}
use Rattle.call_moments.specs.Fits.{scenes_of, Takes, answers_of, HasMemory, OptionsFit, LiftingFits, PassesAlike}
use Rattle.call_moments.specs.Waiting.{due_to, due_back, due_next, due_behind, instance_of, IsDueAt, CallerFits, ServiceFits, DueFits, NextFits, StoringFits, GrantFits, PurposeFits, WillAnswer, IsRoomyFor, RoomOf}
use Rattle.call_moments.specs.Leads.{Moment, sizes_of, so_far, Same, Waits, GoesOn, Ends, Leads}

-- the instance of the innermost frame, if there is one
abbrev pub IsInnermost : List Frame → Result ℕ Stop → Type 0
IsInnermost [] (Ok k) = ⊥
IsInnermost (f ∷ fs) (Ok k) = k ≡ f.instance
IsInnermost [] (Err stop) = stop ≡ stops.Trapped
IsInnermost (f ∷ fs) (Err stop) = ⊥

-- an instance was changed so, and its code not
pub record IsChanged {S : Type 0} (op : Config ℕ → Option (Local ℕ (Unit {0}))) (k : ℕ) (old new : Moment S) : Type 0 where
  pub before : Instance
  pub after : Instance
  pub found : slice_get old.instances k ≡ Some before
  pub goes : op (config_of before) ≡ Some (done (config_of after))
  pub code : after.code ≡ before.code
  pub is : new ≡ record old { instances = slice_set old.instances k after }

abbrev pub Does : {S : Type 0} → (Config ℕ → Option (Local ℕ (Unit {0}))) → ℕ → Moment S → Result (Unit {0}) Stop → Moment S → Type 0
Does op k old (Ok u) new = IsChanged op k old new
Does op k old (Err stops.Trapped) new = (new.kept ≡ old.kept) × ((i : Instance) → slice_get old.instances k ≡ Some i → op (config_of i) ≡ None)
Does op k old (Err stops.ScriptEnded) new = ⊥
Does op k old (Err stops.BadAnswer) new = ⊥
Does op k old (Err stops.Spent) new = ⊥
Does op k old (Err stops.TooDeep) new = ⊥
Does op k old (Err stops.NoMemory) new = ⊥

-- a plan asks for room, or ends, before it comes to memory
abbrev pub ComesLater : List Step → Type 0
ComesLater [] = Unit {0}
ComesLater (Ask align len ∷ steps) = Unit {0}
ComesLater (Write base offset bytes ∷ steps) = ⊥
ComesLater (Place base offset request ∷ steps) = ⊥
ComesLater (Refuse ∷ steps) = Unit {0}

-- a function is there that takes that many values, and what is after it fits
pub record CanBegin (scenes : List Scene) (sizes : ℕ → ℕ → ℕ) (below k f count : ℕ) (purpose : Purpose) : Type 0 where
  pub takes : Takes scenes k f count
  pub fits : PurposeFits scenes below k purpose
  pub answers : WillAnswer scenes purpose (answers_of scenes k f)
  pub room : RoomOf sizes purpose

module _ {S : Type 0} (h : HostStep S) where
  -- what is left where results come to the code outside, and where core code came back
  abbrev pub back_to : (G : Group) → List (Awaiting S) → List CoreValue → Rest G (hosted h) (nested 0)
  back_to G waiting results = resumes G (hosted h) (nested 0) waiting results

  abbrev pub behind : (G : Group) → List (Awaiting S) → ℕ → defined.Purpose → List CoreValue → Rest G (hosted h) (nested 0)
  behind G waiting k purpose results = ends_in G (hosted h) (nested 0) waiting k purpose results

  abbrev pub answer_to : (G : Group) → List (Awaiting S) → Back → Rest G (hosted h) (nested 0)
  answer_to G waiting back = goes_back G (hosted h) (nested 0) (instance_in waiting) (back_to G waiting) (back_of back)

  abbrev pub run : (G : Group) → Nesting → ℕ → ℕ → List CoreValue → Act (World S) (List CoreValue)
  run G e k f args = running G (hosted h) e k f args

  abbrev pub Resumes : Moment S → List CoreValue → Result Flow Stop → Moment S → Type 0
  Resumes old results result new = (G : Group) (waiting : List (Awaiting S)) → Waits h G old waiting [] (Some (length results)) → Leads h G (so_far old (back_to G waiting results)) old result new

  abbrev pub GoesBack : Moment S → Back → Result Flow Stop → Moment S → Type 0
  GoesBack old back result new = (G : Group) (waiting : List (Awaiting S)) → Waits h G old waiting [] (due_back (back_of back)) → Leads h G (so_far old (answer_to G waiting back)) old result new

  abbrev pub HasReturned : Moment S → ℕ → Back → Result Flow Stop → Moment S → Type 0
  HasReturned old k back result new =
      (G : Group) (waiting : List (Awaiting S)) (results : List CoreValue) → Waits h G old waiting [] (due_back (back_of back)) → k < length old.instances →
      Leads h G (so_far old (behind G waiting k (Returns (back_of back)) results)) old result new

  abbrev pub HasDestroyed : Moment S → ℕ → Visit → Result Flow Stop → Moment S → Type 0
  HasDestroyed old k visit result new =
      (G : Group) (waiting : List (Awaiting S)) (results : List CoreValue) → Waits h G old waiting [] (Some 0) → k < length old.instances →
      Leads h G (so_far old (behind G waiting k (Destroys (visits_of visit)) results)) old result new

  -- core code began, and goes on
  abbrev pub LeadsOn : (G : Group) → Out (World S) (Option PlainValue) → Moment S → Result (Unit {0}) Stop → Moment S → Type 0
  LeadsOn G whole old (Ok u) new = Same old new × GoesOn h G whole new
  LeadsOn G whole old (Err stop) new = Ends h G whole new stop

  abbrev pub CodeBegins : Moment S → (k f : ℕ) → List CoreValue → Depth → Purpose → Result (Unit {0}) Stop → Moment S → Type 0
  CodeBegins old k f args depth purpose result new =
      (G : Group) (waiting : List (Awaiting S)) → Waits h G old waiting (loans_behind purpose) (due_behind purpose) → CanBegin (scenes_of old.instances) (sizes_of old.instances) (instance_of (reverse old.frames)) k f (length args) purpose →
      LeadsOn G (so_far old (run G (depth_of depth) k f args >> behind G waiting k (purpose_of purpose))) old result new

  abbrev pub IsLeft : Moment S → Due → Back → Result Flow Stop → Moment S → Type 0
  IsLeft old due back result new =
      (G : Group) (waiting : List (Awaiting S)) (e : Nesting) → Waits h G old waiting [] (due_back (back_of back)) → DueFits (scenes_of old.instances) (due_of due) → IsDueAt e due →
      Leads h G (so_far old (is_left G (hosted h) (nested 0) e (due_of due) >> λ _. answer_to G waiting back)) old result new

  abbrev pub PostReturns : Moment S → Served → ℕ → Back → Result Flow Stop → Moment S → Type 0
  PostReturns old served post back result new =
      (G : Group) (waiting : List (Awaiting S)) → Waits h G old waiting [] (due_back (back_of back)) → Takes (scenes_of old.instances) served.instance post (length served.results) →
      Leads h G
      (so_far old (begins_call (depth_of served.depth) >> λ _. on served.instance close >> λ _. run G (deeper (depth_of served.depth)) served.instance post served.results >> behind G waiting served.instance (Returns (back_of back))))
      old result new

  -- ---- lifted functions

  abbrev pub Serving : Moment S → Service → List CoreValue → Result Flow Stop → Moment S → Type 0
  Serving old service flat result new =
      (G : Group) (waiting : List (Awaiting S)) → Waits h G old waiting (loans_by service.caller) (due_to (caller_of service.caller)) → ServiceFits (scenes_of old.instances) (instance_of (reverse old.frames)) (service_of service) →
      length flat ≡ length (core_params (lifting_of service.lifting.value).ty) →
      Leads h G (so_far old (run G (depth_of service.depth) service.instance (lifting_of service.lifting.value).code flat >> behind G waiting service.instance (Serves (service_of service)))) old result new

  abbrev pub HasServed : Moment S → Service → List CoreValue → Result Flow Stop → Moment S → Type 0
  HasServed old service results result new =
      (G : Group) (waiting : List (Awaiting S)) → Waits h G old waiting (loans_by service.caller) (due_to (caller_of service.caller)) → ServiceFits (scenes_of old.instances) (instance_of (reverse old.frames)) (service_of service) →
      HaveTypes (answers_of (scenes_of old.instances) service.instance (lifting_of service.lifting.value).code) results →
      Leads h G (so_far old (behind G waiting service.instance (Serves (service_of service)) results)) old result new

  -- parameters are lowered, and the function runs
  abbrev pub ParamsLead : Moment S → Service → PlainValue → Result Flow Stop → Moment S → Type 0
  ParamsLead old service value result new =
      (G : Group) (waiting : List (Awaiting S)) → Waits h G old waiting (loans_by service.caller) (due_to (caller_of service.caller)) → ServiceFits (scenes_of old.instances) (instance_of (reverse old.frames)) (service_of service) →
      PassesAlike (scenes_of old.instances) G old.group.owners service.instance (lifting_of service.lifting.value).ty → is_of (params_tuple (lifting_of service.lifting.value).ty) value ≡ true →
      Leads h G
      (so_far old (is_called G h (nested 0) (instance_in waiting) (back_to G waiting) (caller_of service.caller) (depth_of service.depth) service.instance (lifting_of service.lifting.value) (passed_by (params_tuple (lifting_of service.lifting.value).ty) value)))
      old result new

  abbrev pub CallsLifted : Moment S → ℕ → Lifting → Caller → Depth → PlainValue → Result Flow Stop → Moment S → Type 0
  CallsLifted old callee lifting caller depth value result new =
      (G : Group) (waiting : List (Awaiting S)) → Waits h G old waiting (loans_by caller) (due_to (caller_of caller)) → LiftingFits (scenes_of old.instances) callee lifting → CallerFits (scenes_of old.instances) (instance_of (reverse old.frames)) lifting (caller_of caller) →
      PassesAlike (scenes_of old.instances) G old.group.owners callee lifting.ty → is_of (params_tuple lifting.ty) value ≡ true →
      Leads h G (so_far old (calls_lifted G h (nested 0) (instance_in waiting) (back_to G waiting) (caller_of caller) (depth_of depth) callee lifting (passed_by (params_tuple lifting.ty) value))) old result new

  -- a result is lowered, and its call is left
  abbrev pub ResultLeads : Moment S → ℕ → Call → Due → Depth → PlainValue → Result Flow Stop → Moment S → Type 0
  ResultLeads old k call due depth value result new =
      (G : Group) (waiting : List (Awaiting S)) → Waits h G old waiting call.loans.items (due_to (FromCode (asker_of call))) → k ≡ instance_of (reverse old.frames) →
      OptionsFit (scenes_of old.instances) k (options_of call.options) (type_of (target_of call.target)) → DueFits (scenes_of old.instances) (due_of due) → IsDueAt (depth_of depth) due → is_of (answer_tuple (type_of (target_of call.target))) value ≡ true →
      Leads h G
      (so_far old (is_answered G (hosted h) (nested 0) (instance_in waiting) (back_to G waiting) (FromCode (asker_of call)) (depth_of depth) (record { passed = passed_by (answer_tuple (type_of (target_of call.target))) value; due = due_of due })))
      old result new

  -- ---- storing

  abbrev pub IsStored : Moment S → Stored → List CoreValue → Result Flow Stop → Moment S → Type 0
  IsStored old then flat result new =
      (G : Group) (waiting : List (Awaiting S)) (storing : defined.Storing) (flats : List ℕ) → Waits h G old waiting (loans_next then) (due_next storing.types then) →
      NextFits (scenes_of old.instances) (instance_of (reverse old.frames)) storing.depth storing.types then → length flat ≡ length storing.types → values_in 0 storing.types flats ≡ flat →
      Leads h G (so_far old (goes_next G (hosted h) (nested 0) (instance_in waiting) (back_to G waiting) storing flats (next_of then))) old result new

  -- what is left of a plan, and what follows
  abbrev pub storing_so : (G : Group) → List (Awaiting S) → Storing → Act (World S) (List ℕ) → Rest G (hosted h) (nested 0)
  storing_so G waiting s x = is_storing G (hosted h) (nested 0) (instance_in waiting) (back_to G waiting) s.instance (storing_of s) x

  -- storing may go on
  pub record CanStore (G : Group) (waiting : List (Awaiting S)) (m : Moment S) (s : Storing) : Type 0 where
    pub waits : Waits h G m waiting (loans_next s.then) (due_next s.plan.types s.then)
    pub fits : StoringFits (scenes_of m.instances) (instance_of (reverse m.frames)) s
    pub room : IsRoomyFor (sizes_of m.instances) s

  abbrev pub Stores : Moment S → Storing → Option ℕ → Result Flow Stop → Moment S → Type 0
  Stores old s answer result new =
      (G : Group) (waiting : List (Awaiting S)) → CanStore G waiting old s → (s.writes ≡ true → HasMemory (scenes_of old.instances) s.instance (options_of s.options)) →
      (s.writes ≡ false → (s.plan.due ≡ plans.Nothing) × ComesLater s.plan.left.steps) →
      Leads h G (so_far old (storing_so G waiting s (does_due G (hosted h) (running G (hosted h)) (depth_of s.depth) s.instance (options_of s.options) s.plan.due s.plan.left answer))) old result new

  abbrev pub AsksFor : Moment S → Storing → (align len : ℕ) → Result Flow Stop → Moment S → Type 0
  AsksFor old s align len result new =
      (G : Group) (waiting : List (Awaiting S)) → CanStore G waiting old s → s.plan.due ≡ Asked align len →
      Leads h G
      (so_far old (storing_so G waiting s (asks_for G (hosted h) (running G (hosted h)) (depth_of s.depth) s.instance s.options.realloc align len >> λ results.
      goes_granted G (hosted h) (running G (hosted h)) (depth_of s.depth) s.instance (options_of s.options) align len s.plan.left (words results))))
      old result new

  abbrev pub IsGranted : Moment S → Storing → List CoreValue → Result Flow Stop → Moment S → Type 0
  IsGranted old s results result new =
      (G : Group) (waiting : List (Awaiting S)) → CanStore G waiting old s → GrantFits (scenes_of old.instances) (instance_of (reverse old.frames)) s.instance s → HaveTypes (I32 ∷ []) results →
      Leads h G (so_far old (behind G waiting s.instance (purpose_of (purposes.Grants s)) results)) old result new

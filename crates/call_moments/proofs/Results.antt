-- The core function of a lifted function answered: its result is lifted, and goes to who called.
use Rattle.std.proofs.Common.{◌≡◌, ◌≤◌, ◌<◌, ◌&&◌, ℕ, Bool, List, [], ◌∷◌, ◌++◌, length, map, set, reverse, Option, Some, None, Ok, Err, true, false, refl, sym, ap, subst, ◌∙◌, arith}
use Rattle.std.proofs.lemmas.List.{length-map}
use Rattle.std.specs.Prelude.{Result, slice_get, not}
use Rattle.std.specs.List.{All}
use Rattle.std.proofs.lemmas.List.Elements.{All-nil}
use Rattle.std.proofs.lemmas.Option.{slice_get_within}
use Rattle.core_store.specs.Scene.{scene_of}
use Rattle.virt_base.specs.declared.core_type.CoreType.{CoreType}
use Rattle.core_store.specs.Words.{words, HaveTypes}
use Rattle.core_store.specs.declared.value.CoreValue.{CoreValue}
use Rattle.wit_types.specs.Plain.{Plain}
use Rattle.wit_types.specs.PlainValue.{PlainValue, plain_value}
use Rattle.wit_types.specs.HasType.{is_of}
use Rattle.wit_types.specs.declared.value.Value.{Value}
use Rattle.abi_layout.specs.Functions.{lifted as lifted_func}
use Rattle.abi_layout.specs.Handles.{handles, renumbered}
use Rattle.host_port.specs.Hosts.{HostStep, Kept}
use Rattle.comp_worlds.specs.Acts.{Trapped, Out, Over, Act, ◌>>◌, gives}
use Rattle.comp_worlds.specs.Passing.{answer_tuple, blank, most_results, has_borrow}
use Rattle.comp_worlds.specs.Groups.{Group, Lifting, type_of, Config, World, Served as IsServed}
use Rattle.comp_worlds.specs.Locals.{Local, Args, gives_in, done, lifts, lends_nothing, has_no_borrow, also}
use Rattle.comp_worlds.specs.Calls.{on}
use Rattle.comp_worlds.specs.Hosts.{passed_by, hosted}
use Rattle.comp_frames.specs.Frames.{Awaiting, Serves, instance_in, is_left, is_answered}
use Rattle.instance_state.specs.declared.instance.Instance.{Instance}
use Rattle.instance_state.specs.Shown.{config_of}
use Rattle.instance_state.specs.Loans.{indexes_of, IsLentAs}
use Rattle.instance_state.specs.Passed.{options_of, needs_memory, IsInStore, IsLiftedAs}
use Rattle.instance_state.specs.Targets.{target_of, lifting_of}
use Rattle.instance_state.specs.declared.target.Lifting.{Lifting as CodeLifting}
use Rattle.call_moments.specs.Stores.{Lifts}
use Rattle.call_moments.specs.declared.end.Stop.{Stop}
use Rattle.call_moments.specs.declared.end.Stop.TheVariants as stops
use Rattle.call_moments.specs.declared.frame.Flow.{Flow}
use Rattle.call_moments.specs.declared.frame.Back.TheVariants as backs
use Rattle.call_moments.specs.declared.frame.Call.{Call}
use Rattle.call_moments.specs.declared.frame.Caller.{Caller}
use Rattle.call_moments.specs.declared.frame.Caller.TheVariants as callers
use Rattle.call_moments.specs.declared.frame.Due.TheVariants as dues
use Rattle.call_moments.specs.declared.frame.Frame.{Frame}
use Rattle.call_moments.specs.declared.frame.Served.{Served}
use Rattle.call_moments.specs.declared.frame.Service.{Service}
use Rattle.call_moments.specs.CodeLaws.{nested}
use Rattle.call_moments.specs.EndingLaws.{LeavesLent as LeavesMap}
use Rattle.call_moments.specs.Held.{loans_by}
use Rattle.call_moments.specs.Shown.{depth_of, caller_of, service_of}
use Rattle.call_moments.proofs.Lending.{handles_stay}
use Rattle.call_moments.proofs.Own.{numbers, own_numbers}
use Rattle.call_moments.specs.Fits.{scenes_of, Takes, HasMemory, OptionsFit, answers_of}
use Rattle.call_moments.specs.Waiting.{due_to, instance_of, HoldsNone, CallerFits, ServiceFits, DueFits}
use Rattle.call_moments.specs.Leads.{Moment, so_far, Same, Waits, Ends, Leads}
use Rattle.call_moments.specs.Functions.{IsInnermost, IsLeft, HasServed, ResultLeads, behind, back_to}
use Rattle.call_moments.specs.Canonical.{IsResultOf, LiftsResult}
use Rattle.call_moments.proofs.Insides.{has_frames}
use Rattle.call_moments.proofs.Following.{with_instance, same_set, waits_on, leads_by, on_two, on_trapped, on_then_trapped}
use Rattle.call_moments.proofs.Serves.{takes_within}
use Rattle.call_moments.proofs.StoreSteps.{in_store}

also_not : {A : Type 0} (b : Bool) (o : Option A) → b ≡ false → also b o ≡ None
also_not b o e = ap (λ c. also c o) e

-- what was lifted
pub found_so : (o : Option (Local ℕ (Args ℕ))) (after : Config ℕ) (loans : List ℕ) (ty : Plain) (value : Value) → IsLiftedAs ty o after [] loans value → o ≡ Some (gives_in (record { passed = passed_by ty (plain_value value); loans = loans }) after)
found_so None after loans ty value a = absurd a
found_so (Some x) after loans ty value a =
    ap (λ (c : Config ℕ). Some (gives_in x.answer c)) a.0
    ∙ ap (λ p. Some (gives_in (record { passed = p; loans = x.answer.loans }) after)) (sym a.1)
    ∙ ap (λ ls. Some (gives_in (record { passed = passed_by ty (plain_value value); loans = ls }) after)) (sym a.2)

module _ {S : Type 0} (h : HostStep S) (old : Moment S) (k : ℕ) (l : CodeLifting) (results : List CoreValue) where
  abbrev ty : Plain
  ty = answer_tuple (lifting_of l).ty

  abbrev lifting_op : Config ℕ → Option (Local ℕ (Args ℕ))
  lifting_op c = lifts most_results ty (options_of l.options) (words results) c

  -- they are of the types that the function answers
  abbrev AreTyped : Type 0
  AreTyped = HaveTypes (lifted_func (lifting_of l).ty).results results

  pub lift_there : length old.instances ≤ k → (new : Moment S) (stop : Stop) → LiftsResult h old k (lifting_of l) results (Err stop) new
  lift_there le new stop = λ G go lt memory typed. absurd (omega arith)

  module _ (i : Instance) (found : slice_get old.instances k ≡ Some i) where
    -- the memory is there in which values of the type lie
    abbrev memory : Type 0
    memory = needs_memory most_results ty ≡ true → IsInStore l.options.memory i.code.store

    pub lift_fails : (new : Moment S) (stop : Stop) (after : Config ℕ) (loans : List ℕ) → new.kept ≡ old.kept → (AreTyped → Lifts memory ty (lifting_op (config_of i)) after [] loans (Err stop)) → LiftsResult h old k (lifting_of l) results (Err stop) new
    lift_fails new stops.Trapped after loans same b = λ G go lt has typed.
        on_trapped h G old k i lifting_op _ found (b typed (λ e. in_store old.instances k i found l.options (has e))) ∙ ap (λ (x : Kept S). Over x.seen Trapped) (sym same)
    lift_fails new stops.ScriptEnded after loans same b = λ G go lt has typed. absurd (b typed)
    lift_fails new stops.BadAnswer after loans same b = λ G go lt has typed. absurd (b typed)
    lift_fails new stops.Spent after loans same b = λ G go lt has typed. absurd (b typed)
    lift_fails new stops.TooDeep after loans same b = λ G go lt has typed. absurd (b typed)
    lift_fails new stops.NoMemory after loans same b = λ G go lt has typed. tt

    module _ (j : Instance) (loans : List ℕ) (value : Value) (lifted : AreTyped → IsLiftedAs ty (lifting_op (config_of i)) (config_of j) [] loans value) where
      lifted_so : AreTyped → lifting_op (config_of i) ≡ Some (gives_in (record { passed = passed_by ty (plain_value value); loans = loans }) (config_of j))
      lifted_so typed = found_so (lifting_op (config_of i)) (config_of j) loans ty value (lifted typed)

      -- something is lent
      pub lift_refused : (lends_nothing loans && not (has_borrow j.handles)) ≡ false → (new : Moment S) → new.kept ≡ old.kept → LiftsResult h old k (lifting_of l) results (Err stops.Trapped) new
      lift_refused lent new same = λ G go lt has typed.
          on_then_trapped h G old k i found lifting_op (λ x. has_no_borrow x.loans) (λ x _. go x) (record { passed = passed_by ty (plain_value value); loans = loans }) (config_of j) (lifted_so typed) (also_not (lends_nothing loans && not (has_borrow j.handles)) (Some (done (config_of j))) lent)
          ∙ ap (λ (x : Kept S). Over x.seen Trapped) (sym same)

      pub lift_done : loans ≡ [] → has_borrow j.handles ≡ false → is_of ty (plain_value value) ≡ true → j.code ≡ i.code → LiftsResult h old k (lifting_of l) results (Ok value) (with_instance old k j)
      lift_done none quiet is code = λ typed. record {
        before = i;
        after = j;
        found = found;
        lifted = lifted_so typed ∙ ap (λ ls. Some (gives_in (record { passed = passed_by ty (plain_value value); loans = ls }) (config_of j))) none;
        none = quiet;
        typed = is;
        code = code;
        is = refl;
      }

same_length : (ts : List CoreType) (vs : List CoreValue) → HaveTypes ts vs → length vs ≡ length ts
same_length [] [] h = refl
same_length [] (v ∷ vs) h = absurd h
same_length (t ∷ ts) [] h = absurd h
same_length (t ∷ ts) (v ∷ vs) h = let rest = same_length ts vs h.1 in omega (arith, rest)

pub innermost_is : (fs : List Frame) (k : ℕ) → IsInnermost fs (Ok k) → k ≡ instance_of fs
innermost_is [] k i = absurd i
innermost_is (f ∷ fs) k i = i

module _ {S : Type 0} (h : HostStep S) (service : Service) (old mid : Moment S) (results : List CoreValue) (value : Value) (r : IsResultOf service.instance (lifting_of service.lifting.value) results value old mid) where
  abbrev k : ℕ
  k = service.instance

  abbrev lifting : Lifting
  lifting = lifting_of service.lifting.value

  abbrev tuple : Plain
  tuple = answer_tuple lifting.ty

  -- the call, which was answered
  abbrev served : Served
  served = record { instance = k; lifting = service.lifting; results = results; depth = service.depth }

  leaves : LeavesMap r.before.handles r.after.handles
  leaves lent x =
      handles_stay.lifts most_results tuple lifting.options (words results) (config_of r.before) (config_of r.after) value [] lent
      (subst (λ o. IsLiftedAs tuple o (config_of r.after) [] [] value) (sym r.lifted) (refl, refl, refl)) (All-nil (IsLentAs r.after.handles)) x

  module _ (G : Group) (waiting : List (Awaiting S)) where
    same : Same old mid
    same = subst (λ m. Same old m) (sym r.is) (same_set h G old k r.before r.after r.found r.code)

    waits_mid : (caller : Caller) → Waits h G old waiting (loans_by caller) (due_to (caller_of caller)) → Waits h G mid waiting (loans_by caller) (due_to (caller_of caller))
    waits_mid caller w = subst (λ m. Waits h G m waiting (loans_by caller) (due_to (caller_of caller))) (sym r.is) (waits_on h G old k r.before r.after r.found r.code leaves waiting (loans_by caller) (due_to (caller_of caller)) w)

    -- it goes to who called
    abbrev answered : Caller → Out (World S) (Option PlainValue)
    answered caller =
        so_far mid (is_answered G (hosted h) (nested 0) (instance_in waiting) (back_to h G waiting) (caller_of caller) (depth_of service.depth) (record { passed = passed_by tuple (plain_value value); due = IsServed k lifting results }))

    served_so : so_far old (behind h G waiting k (Serves (service_of service)) results) ≡ answered service.caller
    served_so =
        on_two h G old k r.before r.after r.found (lifts most_results tuple lifting.options (words results)) (λ x. has_no_borrow x.loans) _ (record { passed = passed_by tuple (plain_value value); loans = [] }) tt (config_of r.after) r.lifted
        (ap (λ b. also (not b) (Some (done (config_of r.after)))) r.none)
        ∙ ap (λ m. so_far m (is_answered G (hosted h) (nested 0) (instance_in waiting) (back_to h G waiting) (caller_of service.caller) (depth_of service.depth) (record { passed = passed_by tuple (plain_value value); due = IsServed k lifting results }))) (sym r.is)

    due_fits : ServiceFits (scenes_of old.instances) (instance_of (reverse old.frames)) (service_of service) → HaveTypes (answers_of (scenes_of old.instances) k lifting.code) results → DueFits (scenes_of mid.instances) (IsServed k lifting results)
    due_fits fits typed =
        subst (λ ss. DueFits ss (IsServed k lifting results)) (sym same.scenes) (
          subst (λ n. k < n) (sym (length-map old.instances (λ (i : Instance). scene_of i.code.store))) (slice_get_within old.instances k r.before r.found),
          λ f e. subst (λ n. Takes (scenes_of old.instances) k f n) (sym (same_length (answers_of (scenes_of old.instances) k lifting.code) results typed)) (fits.0.post f e),
        )

  outside_by : (new : Moment S) (result : Result Flow Stop) → service.caller ≡ callers.Outside → IsLeft h mid (dues.Served served) (backs.Outside value) result new → HasServed h old service results result new
  outside_by new result e left = λ G waiting w fits typed.
      let holds : HoldsNone tuple = subst (λ c. CallerFits (scenes_of old.instances) (instance_of (reverse old.frames)) lifting (caller_of c)) e fits.1 in
      let own : blank tuple (plain_value value) ≡ plain_value value = ap (λ hs. renumbered tuple (plain_value value) (numbers hs)) (sym (holds (plain_value value))) ∙ own_numbers tuple (plain_value value) in
      leads_by h G _ _ old mid new result
      (served_so G waiting ∙ ap (answered G waiting) e
      ∙ ap (λ v. so_far mid (is_left G (hosted h) (nested 0) (depth_of service.depth) (IsServed k lifting results) >> λ _. gives (Some v))) own)
      (same G waiting)
      (left G waiting (depth_of service.depth) (subst (λ c. Waits h G mid waiting (loans_by c) (due_to (caller_of c))) e (waits_mid G waiting service.caller w)) (due_fits G waiting fits typed) refl)

  inside_by : (new : Moment S) (result : Result Flow Stop) (call : Call) (below : ℕ) → service.caller ≡ callers.Inside call → IsInnermost (reverse mid.frames) (Ok below) → ResultLeads h mid below call (dues.Served served) service.depth (plain_value value) result new →
      HasServed h old service results result new
  inside_by new result call below e inner leads = λ G waiting w fits typed.
      let asks : OptionsFit (scenes_of old.instances) (instance_of (reverse old.frames)) (options_of call.options) (type_of (target_of call.target)) × (lifting.ty ≡ type_of (target_of call.target)) =
      subst (λ c. CallerFits (scenes_of old.instances) (instance_of (reverse old.frames)) lifting (caller_of c)) e fits.1 in
      let under : below ≡ instance_of (reverse mid.frames) = innermost_is (reverse mid.frames) below inner in
      let under_old : instance_of (reverse old.frames) ≡ below = ap (λ (m : Moment S). instance_of (reverse m.frames)) (sym r.is) ∙ sym under in
      leads_by h G _ _ old mid new result
      (served_so G waiting ∙ ap (answered G waiting) e
      ∙ ap (λ t. so_far mid (is_answered G (hosted h) (nested 0) (instance_in waiting) (back_to h G waiting) (caller_of (callers.Inside call)) (depth_of service.depth) (record { passed = passed_by (answer_tuple t) (plain_value value); due = IsServed k lifting results }))) asks.1)
      (same G waiting)
      (leads G waiting (subst (λ c. Waits h G mid waiting (loans_by c) (due_to (caller_of c))) e (waits_mid G waiting service.caller w)) under
      (subst (λ ss. OptionsFit ss below (options_of call.options) (type_of (target_of call.target))) (sym (same G waiting).scenes) (subst (λ n. OptionsFit (scenes_of old.instances) n (options_of call.options) (type_of (target_of call.target))) under_old asks.0))
      (due_fits G waiting fits typed) refl
      (subst (λ t. is_of (answer_tuple t) (plain_value value) ≡ true) asks.1 r.typed))

  nowhere_by : (new : Moment S) (result : Result Flow Stop) (call : Call) (stop : Stop) → service.caller ≡ callers.Inside call → IsInnermost (reverse mid.frames) (Err stop) → HasServed h old service results result new
  nowhere_by new result call stop e inner = λ G waiting w fits typed.
      absurd (has_frames h G mid waiting _ (loans_by (callers.Inside call)) (subst (λ c. Waits h G mid waiting (loans_by c) (due_to (caller_of c))) e (waits_mid G waiting service.caller w)) stop inner)

-- ---- what a lifted function answers is of its types

module _ {S : Type 0} (h : HostStep S) (service : Service) (old mid : Moment S) (results : List CoreValue) where
  abbrev IsTyped : Type 0
  IsTyped = HaveTypes (lifted_func (lifting_of service.lifting.value).ty).results results

  typed_so : ServiceFits (scenes_of old.instances) (instance_of (reverse old.frames)) (service_of service) → HaveTypes (answers_of (scenes_of old.instances) service.instance (lifting_of service.lifting.value).code) results → IsTyped
  typed_so fits typed = subst (λ ts. HaveTypes ts results) fits.0.results typed

  -- the result could not be lifted
  pub served_fails : (stop : Stop) → LiftsResult h old service.instance (lifting_of service.lifting.value) results (Err stop) mid → HasServed h old service results (Err stop) mid
  served_fails stop fails = λ G waiting w fits typed.
      fails G _ (takes_within h old service.instance (lifting_of service.lifting.value).code _ fits.0.code) fits.0.options.result (typed_so fits typed)

  module _ (value : Value) (lifts : LiftsResult h old service.instance (lifting_of service.lifting.value) results (Ok value) mid) where
    abbrev of : IsTyped → IsResultOf service.instance (lifting_of service.lifting.value) results value old mid
    of typed = lifts typed

    pub served_outside : (new : Moment S) (result : Result Flow Stop) → service.caller ≡ callers.Outside → IsLeft h mid (dues.Served (record { instance = service.instance; lifting = service.lifting; results = results; depth = service.depth })) (backs.Outside value) result new →
        HasServed h old service results result new
    served_outside new result e left = λ G waiting w fits typed. outside_by h service old mid results value (of (typed_so fits typed)) new result e left G waiting w fits typed

    pub served_inside : (new : Moment S) (result : Result Flow Stop) (call : Call) (below : ℕ) → service.caller ≡ callers.Inside call → IsInnermost (reverse mid.frames) (Ok below) →
        ResultLeads h mid below call (dues.Served (record { instance = service.instance; lifting = service.lifting; results = results; depth = service.depth })) service.depth (plain_value value) result new → HasServed h old service results result new
    served_inside new result call below e inner leads = λ G waiting w fits typed. inside_by h service old mid results value (of (typed_so fits typed)) new result call below e inner leads G waiting w fits typed

    pub served_nowhere : (new : Moment S) (result : Result Flow Stop) (call : Call) (stop : Stop) → service.caller ≡ callers.Inside call → IsInnermost (reverse mid.frames) (Err stop) → HasServed h old service results result new
    served_nowhere new result call stop e inner = λ G waiting w fits typed. nowhere_by h service old mid results value (of (typed_so fits typed)) new result call stop e inner G waiting w fits typed

-- What a function of `World` begins in an instance, said in the terms of code: by the types by which values pass, by a lifting after its
-- pointer, and by how a call that failed ends the run.
use Rattle.std.proofs.Common.{◌≡◌, ℕ, Bool, true, false, List, [], Option, Some, None, Ok, Err, refl, sym, ap, subst, ◌∙◌, length}
use Rattle.std.specs.Prelude.{Result, IsErrAnd, Vec, slice_get}
use Rattle.std.specs.Global.{Global}
use Rattle.std.specs.List.{All}
use Rattle.std.proofs.lemmas.List.Elements.{All-nil}
use Rattle.std.specs.declared.rc.Rc.{Rc}
use Rattle.core_memory.specs.declared.fault.StoreFault.{StoreFault}
use Rattle.core_memory.specs.declared.fault.StoreFault.TheVariants as faults
use Rattle.instance_state.specs.Ready.{Runs}
use Rattle.instance_state.specs.Done.{Stores as RunsStore}
use Rattle.core_store.specs.Words.{words, HaveTypes}
use Rattle.core_store.specs.declared.value.CoreValue.{CoreValue}
use Rattle.wit_types.specs.Plain.{Plain, PlainFunc, RecordType, AsRecord, plain}
use Rattle.wit_types.specs.PlainValue.{PlainValue, plain_value}
use Rattle.wit_types.specs.HasType.{is_of}
use Rattle.wit_types.specs.declared.value.Value.{Value}
use Rattle.abi_layout.specs.Functions.{core_params, lowered}
use Rattle.abi_load.specs.Lifted.{words as numbers}
use Rattle.abi_store.specs.Plan.{Plan, is_due}
use Rattle.host_port.specs.Hosts.{HostStep}
use Rattle.comp_worlds.specs.Passing.{params_tuple, answer_tuple, blank, handles_of, most_params}
use Rattle.comp_worlds.specs.Groups.{Theirs, type_of, LoweredFunc, Import}
use Rattle.comp_worlds.specs.Locals.{done, is_open, lifts, adds_handles}
use Rattle.comp_worlds.specs.Hosts.{passed_by}
use Rattle.instance_state.specs.declared.instance.Instance.{Instance}
use Rattle.instance_state.specs.Shown.{config_of}
use Rattle.instance_state.specs.declared.loan.Loan.{Loan}
use Rattle.instance_state.specs.Loans.{indexes_of, IsLentAs, AreLent}
use Rattle.instance_state.specs.Owning.{plain_for}
use Rattle.instance_state.specs.Functions.{IsPassedAs}
use Rattle.instance_state.specs.Passed.{options_of, needs_memory, IsInStore, params_plan, result_plan}
use Rattle.instance_state.specs.Targets.{target_of, lifting_of}
use Rattle.instance_state.specs.declared.options.CallOptions.{CallOptions}
use Rattle.instance_state.specs.declared.passed_func.PassedFunc.{PassedFunc}
use Rattle.instance_state.specs.declared.target.Lifting.{Lifting}
use Rattle.instance_state.specs.declared.target.Target.{Target}
use Rattle.instance_state.specs.declared.target.Target.TheVariants as targets
use Rattle.instance_state.proofs.Words.{words_same}
use Rattle.call_moments.specs.Stops.{stop_of_store}
use Rattle.call_moments.specs.Stores.{Lifts, Stores as BeginStores, without_loans}
use Rattle.call_moments.specs.Words.{word_in}
use Rattle.call_moments.specs.declared.depth.Depth.{Depth}
use Rattle.call_moments.specs.declared.end.Stop.{Stop}
use Rattle.call_moments.specs.declared.end.Stop.TheVariants as stops
use Rattle.call_moments.specs.declared.frame.Flow.{Flow}
use Rattle.call_moments.specs.declared.frame.Call.{Call}
use Rattle.call_moments.specs.declared.frame.Caller.TheVariants as callers
use Rattle.call_moments.specs.declared.frame.Due.{Due}
use Rattle.call_moments.specs.declared.frame.Due.TheVariants as dues
use Rattle.call_moments.specs.declared.frame.Service.{Service}
use Rattle.call_moments.specs.declared.frame.Storing.{Storing}
use Rattle.call_moments.specs.declared.frame.Stored.TheVariants as stored
use Rattle.call_moments.specs.Shown.{depth_of}
use Rattle.call_moments.specs.Leads.{Moment}
use Rattle.call_moments.specs.Functions.{Stores, ParamsLead, ResultLeads, CallsLifted}
use Rattle.call_moments.specs.Canonical.{LiftsResult, AsksHost, Performs}
use Rattle.call_moments.proofs.Following.{with_instance}
use Rattle.call_moments.proofs.Integers.{params_are_integers}
use Rattle.call_moments.proofs.Lowered.{params_fail, params_lead, result_fail, result_lead}
use Rattle.call_moments.proofs.Calling.{calls_stop, calls_own, calls_host, calls_host_ends}
use Rattle.comp_calls.proofs.Lifting.{lifts_as}

-- what holds at an end holds of the answer that has it
pub ends_so : {A : Type 0} (P : Result A Stop → Type 0) (stop : Stop) (result : Result A Stop) → IsErrAnd result (λ s. s ≡ stop) → P (Err stop) → P result
ends_so P stop (Ok a) e p = absurd e
ends_so P stop (Err s) e p = subst (λ x. P (Err x)) (sym e) p

-- the result of a lifted function, after its pointer
pub lifted_as : {S : Type 0} (h : HostStep S) (old new : Moment S) (k : ℕ) (results : List CoreValue) (result : Result Value Stop) (l l' : Lifting) → l ≡ l' → LiftsResult h old k (lifting_of l) results result new → LiftsResult h old k (lifting_of l') results result new
lifted_as h old new k results result l l' is r = subst (λ (x : Lifting). LiftsResult h old k (lifting_of x) results result new) is r

-- a plan goes on in code that awaits results, so only memory may be wanting
pub store_stops : {S : Type 0} (h : HostStep S) (s : Storing) (old new : Moment S) (answer : Option ℕ) (i : Instance) → slice_get old.instances s.instance ≡ Some i → (at : ℕ) (left : Plan) (runs : Runs) (fault : StoreFault) →
    RunsStore i.code s.plan at answer left runs (Err fault) → Stores h old s answer (Err (stop_of_store fault)) new
store_stops h s old new answer i found at left runs faults.Trap r = λ G waiting can writes later. absurd (let still : i.code.going ≡ false = can.waits.still s.instance i found in cc)
store_stops h s old new answer i found at left runs faults.NoMemory r = λ G waiting can writes later. tt

-- ---- parameters

module _ {S : Type 0} (h : HostStep S) (service : Service) (value : PlainValue) (old : Moment S) (i j : Instance) (found : slice_get old.instances service.instance ≡ Some i) (l : Lifting) (is : l ≡ service.lifting.value) (p : PassedFunc) (passes : IsPassedAs p l.ty) where
  abbrev k : ℕ
  k = service.instance

  abbrev begins_by : Plain → Result Plan Stop → Type 0
  begins_by ty r = BeginStores (Unit {0}) ty (blank ty value) (params_plan ty) (adds_handles (plain_for old.group.owners (Some k)) (handles_of ty (passed_by ty value)) (config_of i)) (config_of j) r

  -- a record of the parameters passes as their tuple
  begins_so : (r : Result Plan Stop) → begins_by (plain p.params.ty) r → begins_by (params_tuple (lifting_of service.lifting.value).ty) r
  begins_so r b = subst (λ ty. begins_by ty r) (passes.params ∙ ap (λ (x : Lifting). RecordType AsRecord x.ty.params) is) b

  pub params_stop : (stop : Stop) (result : Result Flow Stop) (new : Moment S) → new.kept ≡ old.kept → begins_by (plain p.params.ty) (Err stop) → IsErrAnd result (λ s. s ≡ stop) → ParamsLead h old service value result new
  params_stop stop result new same b e = ends_so (λ r. ParamsLead h old service value r new) stop result e (params_fail h service value old i j found new stop (config_of j) same (begins_so (Err stop) b))

  pub params_go : (l' : Lifting) → l' ≡ service.lifting.value → j.code ≡ i.code → (plan : Plan) → begins_by (plain p.params.ty) (Ok plan) → is_due plan.due ≡ false → (due : is_due plan.due ≡ true → false ≡ true) (new : Moment S) (result : Result Flow Stop) →
      Stores h (with_instance old k j) (record { instance = k; plan = plan; options = l'.options; depth = service.depth; writes = false; then = stored.Params service; due = due }) None result new → ParamsLead h old service value result new
  params_go l' is' code plan b waits due new result stores =
      params_lead h service value old i j found code plan (begins_so (Ok plan) b) waits due new result
      (subst (λ (x : Lifting). Stores h (with_instance old k j) (record { instance = k; plan = plan; options = x.options; depth = service.depth; writes = false; then = stored.Params service; due = due }) None result new) is' stores)

-- ---- results

module _ {S : Type 0} (h : HostStep S) (old : Moment S) (k : ℕ) (call : Call) (due : Due) (depth : Depth) (value : PlainValue) (i j : Instance) (found : slice_get old.instances k ≡ Some i) (ty : PlainFunc) (is : ty ≡ type_of (target_of call.target)) (p : PassedFunc) (passes : IsPassedAs p ty) where
  abbrev ends_by : Plain → Result Plan Stop → Type 0
  ends_by t r =
      BeginStores (AreLent call.loans.items i.handles) t (blank t value) (result_plan t call.place)
      (adds_handles (plain_for old.group.owners None) (handles_of t (passed_by t value)) (without_loans (indexes_of call.loans.items) (config_of i))) (config_of j) r

  result_so : (r : Result Plan Stop) → ends_by (plain p.result.ty) r → ends_by (answer_tuple (type_of (target_of call.target))) r
  result_so r b = subst (λ t. ends_by t r) (passes.result ∙ ap answer_tuple is) b

  pub result_stop : (stop : Stop) (result : Result Flow Stop) (new : Moment S) → new.kept ≡ old.kept → ends_by (plain p.result.ty) (Err stop) → IsErrAnd result (λ s. s ≡ stop) → ResultLeads h old k call due depth value result new
  result_stop stop result new same b e = ends_so (λ r. ResultLeads h old k call due depth value r new) stop result e (result_fail h old k call due depth value i found new stop (config_of j) same (result_so (Err stop) b))

  pub result_go : j.code ≡ i.code → (plan : Plan) → ends_by (plain p.result.ty) (Ok plan) → (writes : Bool) → is_due plan.due ≡ writes → (due' : is_due plan.due ≡ true → writes ≡ true) (new : Moment S) (result : Result Flow Stop) →
      Stores h (with_instance old k j) (record { instance = k; plan = plan; options = call.options; depth = depth; writes = writes; then = stored.Result due; due = due' }) None result new → ResultLeads h old k call due depth value result new
  result_go code plan b writes comes due' new result stores = result_lead h old k call due depth value i found j code plan (result_so (Ok plan) b) writes comes due' new result stores

-- ---- core code calls a lowered function: its arguments are lifted

-- memory may be wanting
pub call_wants : {S : Type 0} (h : HostStep S) (old new : Moment S) (k : ℕ) (depth : Depth) (target : Target) (options : CallOptions) (args : List CoreValue) (result : Result Flow Stop) → IsErrAnd result (λ s. s ≡ stops.NoMemory) →
    Performs h old k (depth_of depth) (LoweredFunc (target_of target) (options_of options)) args result new
call_wants h old new k depth target options args result e =
    ends_so (λ r. Performs h old k (depth_of depth) (LoweredFunc (target_of target) (options_of options)) args r new) stops.NoMemory result e (λ G waiting w inner fits typed. tt)

-- by the type of the function they lend what the call holds
pub record LiftsArgs (i j : Instance) (target : Target) (options : CallOptions) (args : List CoreValue) (loans : List Loan) (result : Result Value Stop) : Type 0 where
  pub ty : PlainFunc
  pub is : ty ≡ type_of (target_of target)
  pub passed : PassedFunc
  pub passes : IsPassedAs passed ty
  pub from : List Loan
  pub none : from ≡ []
  pub clause : Lifts (needs_memory passed.params.most (plain passed.params.ty) ≡ true → IsInStore options.memory i.code.store) (plain passed.params.ty) (lifts passed.params.most (plain passed.params.ty) (options_of options) (numbers args) (config_of i)) (config_of j)
      (indexes_of from) (indexes_of loans) result

module _ {S : Type 0} (h : HostStep S) (old : Moment S) (k : ℕ) (depth : Depth) (target : Target) (options : CallOptions) (args : List CoreValue) (i j : Instance) (found : slice_get old.instances k ≡ Some i) (opened : is_open (config_of i) ≡ Some (done (config_of i)))
    (loans : Vec Loan Global) (given : Result Value Stop) (l : LiftsArgs i j target options args loans.items given) where
  abbrev tuple : Plain
  tuple = params_tuple (type_of (target_of target))

  abbrev Calls : Result Flow Stop → Moment S → Type 0
  Calls result new = Performs h old k (depth_of depth) (LoweredFunc (target_of target) (options_of options)) args result new

  as_tuple : plain l.passed.params.ty ≡ RecordType AsRecord (type_of (target_of target)).params
  as_tuple = l.passes.params ∙ ap (λ (x : PlainFunc). RecordType AsRecord x.params) l.is

  -- arguments of the function's types are lifted as the definition lifts them
  abbrev AreTyped : Type 0
  AreTyped = HaveTypes (lowered (type_of (target_of target))).params args

  abbrev LiftsSo : Result Value Stop → Type 0
  LiftsSo r = Lifts (needs_memory most_params tuple ≡ true → IsInStore options.memory i.code.store) tuple (lifts most_params tuple (options_of options) (words args) (config_of i)) (config_of j) [] (indexes_of loans.items) r

  lifts_so : AreTyped → LiftsSo given
  lifts_so typed =
      subst (λ ws. Lifts (needs_memory most_params tuple ≡ true → IsInStore options.memory i.code.store) tuple (lifts most_params tuple (options_of options) ws (config_of i)) (config_of j) [] (indexes_of loans.items) given)
      (words_same args (params_are_integers (type_of (target_of target)) args typed))
      (lifts_as (IsInStore options.memory i.code.store) l.passed.params.most most_params (plain l.passed.params.ty) (RecordType AsRecord (type_of (target_of target)).params) (options_of options) (numbers args) (config_of i) (config_of j) l.from (indexes_of loans.items) given
      l.passes.most as_tuple l.none l.clause)

  pub args_stop : (stop : Stop) → given ≡ Err stop → (result : Result Flow Stop) (new : Moment S) → new.kept ≡ old.kept → IsErrAnd result (λ s. s ≡ stop) → Calls result new
  args_stop stop e result new same err = λ G waiting w inner fits typed.
      ends_so (λ r. Calls r new) stop result err
      (calls_stop h old k depth target options args i found opened new stop (config_of j) (indexes_of loans.items) same (subst LiftsSo e (lifts_so typed))) G waiting w inner fits typed

  module _ (value : Value) (is : given ≡ Ok value) (code : j.code ≡ i.code) (typed : is_of (plain l.passed.params.ty) (plain_value value) ≡ true) (lent : All (IsLentAs i.handles) l.from → All (IsLentAs j.handles) loans.items)
      (place : ℕ) (there : place ≡ word_in (slice_get args (length (core_params l.ty)))) where
    abbrev call : Call
    call = record { target = target; options = options; place = place; loans = loans }

    abbrev mid : Moment S
    mid = with_instance old k j

    lifted : AreTyped → LiftsSo (Ok value)
    lifted typed = subst LiftsSo is (lifts_so typed)

    there_so : place ≡ word_in (slice_get args (length (core_params (type_of (target_of target)))))
    there_so = there ∙ ap (λ (x : PlainFunc). word_in (slice_get args (length (core_params x)))) l.is

    all_lent : All (IsLentAs j.handles) loans.items
    all_lent = lent (subst (λ (xs : List Loan). All (IsLentAs i.handles) xs) (sym l.none) (All-nil (IsLentAs i.handles)))

    typed_so : is_of tuple (plain_value value) ≡ true
    typed_so = subst (λ t. is_of t (plain_value value) ≡ true) as_tuple typed

    -- the target is shared to ask it
    module _ (same : Target) (shared : target_of same ≡ target_of target) where
      pub own_asked : (callee : ℕ) (rc : Rc Lifting Global) → same ≡ targets.Mine callee rc → (new : Moment S) (result : Result Flow Stop) → CallsLifted h mid callee (lifting_of rc.value) (callers.Inside call) depth (plain_value value) result new →
          Calls result new
      own_asked callee rc e new result leads = λ G waiting w inner fits typed.
          calls_own h old k depth target options args i found opened j code call refl refl there_so value (lifted typed) all_lent typed_so callee rc (sym shared ∙ ap target_of e) new result leads G waiting w inner fits typed

      module _ (rc : Rc Import Global) (import : Import) (e : same ≡ targets.Theirs rc) (at : import ≡ rc.value) where
        theirs : target_of target ≡ Theirs import
        theirs = sym shared ∙ ap target_of e ∙ ap Theirs (sym at)

        pub host_ends : (new : Moment S) (stop : Stop) (result : Result Flow Stop) → AsksHost h mid import (plain_value value) (Err stop) new → IsErrAnd result (λ s. s ≡ stop) → Calls result new
        host_ends new stop result asks err = λ G waiting w inner fits typed.
            calls_host_ends h old k depth target options args i found opened j code call refl refl there_so value (lifted typed) all_lent typed_so import theirs new stop result asks err G waiting w inner fits typed

        pub host_asked : (answer : Value) (mid2 new : Moment S) (result : Result Flow Stop) → AsksHost h mid import (plain_value value) (Ok answer) mid2 → ResultLeads h mid2 k call dues.Host depth (plain_value answer) result new → Calls result new
        host_asked answer mid2 new result asks leads = λ G waiting w inner fits typed.
            calls_host h old k depth target options args i found opened j code call refl refl there_so value (lifted typed) all_lent typed_so import theirs answer mid2 new result asks leads G waiting w inner fits typed

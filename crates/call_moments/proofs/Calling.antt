-- A lifted function is called, and core code calls a lowered one.
use Rattle.std.proofs.Common.{◌≡◌, ◌≤◌, ◌<◌, ℕ, Bool, List, [], ◌∷◌, ◌++◌, length, map, set, reverse, Option, Some, None, Ok, Err, true, false, refl, sym, ap, subst, ◌∙◌, arith}
use Rattle.std.specs.Prelude.{Result, IsErrAnd, slice_get, slice_index, if◌then◌else◌}
use Rattle.std.specs.List.{All}
use Rattle.std.specs.Global.{Global}
use Rattle.std.specs.declared.rc.Rc.{Rc}
use Rattle.virt_base.specs.declared.core_type.CoreType.{CoreType}
use Rattle.virt_base.specs.declared.core_type.CoreType.TheVariants.{I32}
use Rattle.core_store.specs.Words.{words, HaveTypes}
use Rattle.core_store.specs.declared.value.CoreValue.{CoreValue}
use Rattle.core_store.specs.declared.value.CoreValue.TheVariants as values
use Rattle.wit_types.specs.Plain.{Plain, PlainFunc}
use Rattle.wit_types.specs.PlainValue.{PlainValue, plain_value}
use Rattle.wit_types.specs.HasType.{is_of}
use Rattle.wit_types.specs.declared.value.Value.{Value}
use Rattle.abi_layout.specs.Functions.{core_params, result_spills, lowered}
use Rattle.handle_space.specs.HandleMap.{HandleMap}
use Rattle.host_port.specs.declared.call.Resource.{Resource}
use Rattle.host_port.specs.Hosts.{HostStep, Kept}
use Rattle.comp_worlds.specs.Acts.{Trapped, Out, Over, Act, ◌>>◌}
use Rattle.comp_worlds.specs.Passing.{params_tuple, answer_tuple, most_params}
use Rattle.comp_worlds.specs.Groups.{Nesting, deeper, Group, Lifting, Target, Mine, Theirs, type_of, LoweredFunc, Config, World, Answer, Below, Nothing, Inside, Import}
use Rattle.comp_worlds.specs.Locals.{Local, Args, gives_in, done, is_open, enter, lifts}
use Rattle.comp_worlds.specs.Calls.{on, below, begins_call, place_in, performs}
use Rattle.comp_worlds.specs.Hosts.{passed_by, hosted}
use Rattle.comp_frames.specs.Running.{running}
use Rattle.comp_frames.specs.Frames.{Asker, Awaiting, FromCode, instance_in, is_answered}
use Rattle.comp_frames.specs.Laws.{is_called, calls_lifted, asks_target}
use Rattle.comp_frames.proofs.Steps.{calls_go_back}
use Rattle.instance_state.specs.declared.instance.Instance.{Instance}
use Rattle.instance_state.specs.Shown.{config_of}
use Rattle.instance_state.specs.declared.loan.Loan.{Loan}
use Rattle.instance_state.specs.Loans.{indexes_of, IsLentAs}
use Rattle.instance_state.specs.Passed.{options_of, needs_memory, IsInStore, IsLiftedAs}
use Rattle.instance_state.specs.Targets.{target_of, lifting_of}
use Rattle.instance_state.specs.declared.options.CallOptions.{CallOptions}
use Rattle.instance_state.specs.declared.target.Lifting.{Lifting as CodeLifting}
use Rattle.instance_state.specs.declared.target.Target.{Target as CodeTarget}
use Rattle.call_moments.specs.Stores.{Lifts}
use Rattle.call_moments.specs.Steps.{BeginsCall}
use Rattle.call_moments.specs.Words.{word_in}
use Rattle.call_moments.specs.declared.group.Group.{Group as CodeGroup}
use Rattle.call_moments.specs.declared.depth.Depth.{Depth}
use Rattle.call_moments.specs.declared.end.Stop.{Stop}
use Rattle.call_moments.specs.declared.end.Stop.TheVariants as stops
use Rattle.call_moments.specs.declared.frame.Flow.{Flow}
use Rattle.call_moments.specs.declared.frame.Call.{Call}
use Rattle.call_moments.specs.declared.frame.Caller.{Caller}
use Rattle.call_moments.specs.declared.frame.Caller.TheVariants as callers
use Rattle.call_moments.specs.declared.frame.Due.TheVariants as dues
use Rattle.call_moments.specs.declared.frame.Frame.{Frame}
use Rattle.call_moments.specs.declared.frame.Service.{Service}
use Rattle.call_moments.specs.CodeLaws.{nested}
use Rattle.call_moments.specs.Held.{Maps, with_map, AllLend, loans_by}
use Rattle.call_moments.specs.Lending.{IsLending}
use Rattle.call_moments.specs.Shown.{depth_of, asker_of, caller_of}
use Rattle.call_moments.proofs.LawsEnding.{last_first}
use Rattle.call_moments.proofs.Lending.{handles_stay}
use Rattle.call_moments.specs.Fits.{scenes_of, OptionsFit, HasMemory, LiftingFits, PassesAlike, TargetFits}
use Rattle.call_moments.specs.Waiting.{due_to, instance_of, CallerFits, AllAwait}
use Rattle.call_moments.specs.Leads.{Moment, calls_of, maps_of, so_far, Same, Waits, Ends, Leads}
use Rattle.call_moments.specs.Functions.{IsChanged, Does, ParamsLead, CallsLifted, ResultLeads, back_to}
use Rattle.call_moments.specs.Canonical.{AsksHost, Performs}
use Rattle.call_moments.proofs.Insides.{waiting_at, not_there}
use Rattle.call_moments.proofs.Instances.{map_here, maps_set, found_at}
use Rattle.call_moments.proofs.Following.{with_instance, same_after, same_set, waits_lending, waits_kept, leads_by, ends_by, on_two, on_trapped, on_then_trapped, begin_then, begin_ends, after_begin, after_does, does_fail}
use Rattle.call_moments.proofs.Serves.{takes_within, ends_as}
use Rattle.call_moments.proofs.StoreSteps.{in_store}
use Rattle.call_moments.proofs.Results.{found_so}

-- ---- a call of a lifted function begins: it takes its step, its instance is entered, and its parameters are lowered

module _ {S : Type 0} (h : HostStep S) (old new : Moment S) (callee : ℕ) (rc : Rc CodeLifting Global) (caller : Caller) (depth : Depth) (value : PlainValue) (result : Result Flow Stop) where
  abbrev lifting : Lifting
  lifting = lifting_of rc.value

  abbrev then_called : (G : Group) → List (Awaiting S) → Nesting → Act (World S) (Option PlainValue)
  then_called G waiting e = is_called G h (nested 0) (instance_in waiting) (back_to h G waiting) (caller_of caller) e callee lifting (passed_by (params_tuple lifting.ty) value)

  pub call_fails : (stop : Stop) → BeginsCall old.budget depth.calls new.budget (Err stop) → new.kept ≡ old.kept → IsErrAnd result (λ s. s ≡ stop) → CallsLifted h old callee lifting caller depth value result new
  call_fails stop b same e = λ G waiting w lf cf alike typed. ends_as h old new G _ stop result e (begin_ends h G old new depth.calls new.budget stop _ same b)

  module _ (mid : Moment S) (depth' : Depth) (b : BeginsCall old.budget depth.calls mid.budget (Ok depth')) (is : mid ≡ record old { budget = mid.budget }) where
    -- the instance is in a call already
    pub call_refused : (stop : Stop) → Does enter callee mid (Err stop) new → IsErrAnd result (λ s. s ≡ stop) → CallsLifted h old callee lifting caller depth value result new
    call_refused stop d e = λ G waiting w lf cf alike typed.
        let found = found_at mid.instances callee (subst (λ (m : Moment S). callee < length m.instances) (sym is) (takes_within h old callee lifting.code _ lf.code)) in
        ends_as h old new G _ stop result e
        (ends_by h G _ _ new stop
        (begin_then h G old depth.calls mid.budget depth' (λ _. on callee enter >> λ _. then_called G waiting (deeper (depth_of depth))) b
        ∙ ap (λ m. so_far m (on callee enter >> λ _. then_called G waiting (deeper (depth_of depth)))) (sym is))
        (does_fail h G enter callee mid new stop _ d found.0 found.1))

    pub call_leads : (mid2 : Moment S) → IsChanged enter callee mid mid2 → ParamsLead h mid2 (record { instance = callee; lifting = rc; caller = caller; depth = depth' }) value result new → CallsLifted h old callee lifting caller depth value result new
    call_leads mid2 d params = λ G waiting w lf cf alike typed.
        after_begin h G waiting (loans_by caller) (due_to (caller_of caller)) old mid new result w depth.calls depth' (on callee enter >> λ _. then_called G waiting (deeper (depth_of depth))) b is (λ w1 deep.
        after_does h G waiting (loans_by caller) (due_to (caller_of caller)) mid mid2 new result w1 enter handles_stay.enters callee (then_called G waiting (deeper (depth_of depth))) d (λ w2 same.
        let scenes : scenes_of mid2.instances ≡ scenes_of old.instances = same.scenes ∙ ap (λ (m : Moment S). scenes_of m.instances) is in
        let group : mid2.group ≡ old.group = same.group ∙ ap (λ (m : Moment S). m.group) is in
        let frames : mid2.frames ≡ old.frames = ap (λ (m : Moment S). m.frames) d.is ∙ ap (λ (m : Moment S). m.frames) is in
        subst (λ e. Leads h G (so_far mid2 (then_called G waiting e)) mid2 result new) (sym deep)
        (params G waiting w2 (
          subst (λ ss. LiftingFits ss callee lifting) (sym scenes) lf,
          subst (λ fs. CallerFits (scenes_of mid2.instances) (instance_of (reverse fs)) lifting (caller_of caller)) (sym frames) (subst (λ ss. CallerFits ss (instance_of (reverse old.frames)) lifting (caller_of caller)) (sym scenes) cf),
        )
        (subst (λ (g : CodeGroup). PassesAlike (scenes_of mid2.instances) G g.owners callee lifting.ty) (sym group) (subst (λ ss. PassesAlike ss G old.group.owners callee lifting.ty) (sym scenes) alike)) typed)))

-- ---- core code calls a lowered function

-- where the result goes, if it goes through memory
word_there : (b : Bool) (xs : List CoreType) (vs : List CoreValue) → HaveTypes (xs ++ (if b then I32 ∷ [] else [])) vs → word_in (slice_get vs (length xs)) ≡ slice_index (words vs) (length xs)
word_there true [] [] t = absurd t
word_there true [] (values.I32 n ∷ vs) t = refl
word_there true [] (values.I64 n ∷ vs) t = absurd t.0
word_there true [] (values.Ref r ∷ vs) t = absurd t.0
word_there false [] [] t = refl
word_there false [] (v ∷ vs) t = absurd t
word_there b (x ∷ xs) [] t = absurd t
word_there b (x ∷ xs) (v ∷ vs) t = word_there b xs vs t.1

module _ {S : Type 0} (h : HostStep S) (old : Moment S) (k : ℕ) (depth : Depth) (target : CodeTarget) (options : CallOptions) (args : List CoreValue) where
  abbrev ty : PlainFunc
  ty = type_of (target_of target)

  abbrev tuple : Plain
  tuple = params_tuple ty

  abbrev lifting_op : Config ℕ → Option (Local ℕ (Args ℕ))
  lifting_op c = lifts most_params tuple (options_of options) (words args) c

  abbrev Calls : Result Flow Stop → Moment S → Type 0
  Calls result new = Performs h old k (depth_of depth) (LoweredFunc (target_of target) (options_of options)) args result new

  -- what is done by the instance that calls, and then the function is asked
  abbrev asks_by : (G : Group) → List (Awaiting S) → Act (World S) (Option PlainValue)
  asks_by G waiting =
      on k is_open >> λ _.
      on k lifting_op >> λ l.
      asks_target G h (nested 0) k (back_to h G waiting) (record { target = target_of target; options = options_of options; place = place_in ty (words args); loans = l.loans }) (depth_of depth) (target_of target) l.passed

  asks_so : (G : Group) (waiting : List (Awaiting S)) → so_far old (performs G (hosted h) (running G (hosted h)) (depth_of depth) k (words args) (Some (LoweredFunc (target_of target) (options_of options))) >> back_to h G waiting) ≡ so_far old (asks_by G waiting)
  asks_so G waiting = ap (so_far old) ((calls_go_back G h (nested 0)).calling k (back_to h G waiting) (depth_of depth) (words args) (target_of target) (options_of options))

  pub calls_there : length old.instances ≤ k → (result : Result Flow Stop) (new : Moment S) → Calls result new
  calls_there le result new = λ G waiting w inner fits typed. absurd (not_there h G old waiting _ [] w k inner le)

  module _ (i : Instance) (found : slice_get old.instances k ≡ Some i) where
    pub calls_closed : is_open (config_of i) ≡ None → (result : Result Flow Stop) (new : Moment S) → new.kept ≡ old.kept → IsErrAnd result (λ s. s ≡ stops.Trapped) → Calls result new
    calls_closed none result new same e = λ G waiting w inner fits typed.
        ends_as h old new G _ stops.Trapped result e (asks_so G waiting ∙ on_trapped h G old k i is_open _ found none ∙ ap (λ (x : Kept S). Over x.seen Trapped) (sym same))

    module _ (opened : is_open (config_of i) ≡ Some (done (config_of i))) where
      abbrev memory : Type 0
      memory = needs_memory most_params tuple ≡ true → IsInStore options.memory i.code.store

      pub calls_stop : (new : Moment S) (stop : Stop) (after : Config ℕ) (loans : List ℕ) → new.kept ≡ old.kept → Lifts memory tuple (lifting_op (config_of i)) after [] loans (Err stop) → Calls (Err stop) new
      calls_stop new stops.Trapped after loans same b = λ G waiting w inner fits typed.
          asks_so G waiting
          ∙ on_then_trapped h G old k i found is_open (λ _. lifting_op) _ tt (config_of i) opened (b (λ e. in_store old.instances k i found options (fits.1.params e)))
          ∙ ap (λ (x : Kept S). Over x.seen Trapped) (sym same)
      calls_stop new stops.ScriptEnded after loans same b = absurd b
      calls_stop new stops.BadAnswer after loans same b = absurd b
      calls_stop new stops.Spent after loans same b = absurd b
      calls_stop new stops.TooDeep after loans same b = absurd b
      calls_stop new stops.NoMemory after loans same b = λ G waiting w inner fits typed. tt

      module _ (j : Instance) (code : j.code ≡ i.code) (call : Call) (shared : target_of call.target ≡ target_of target) (same_options : call.options ≡ options) (place : call.place ≡ word_in (slice_get args (length (core_params ty)))) (value : Value)
          (lifted : IsLiftedAs tuple (lifting_op (config_of i)) (config_of j) [] (indexes_of call.loans.items) value) (lent : All (IsLentAs j.handles) call.loans.items) (value_typed : is_of tuple (plain_value value) ≡ true) where
        abbrev loans : List Loan
        loans = call.loans.items

        abbrev mid : Moment S
        mid = with_instance old k j

        lifted_so : lifting_op (config_of i) ≡ Some (gives_in (record { passed = passed_by tuple (plain_value value); loans = indexes_of loans }) (config_of j))
        lifted_so = found_so (lifting_op (config_of i)) (config_of j) (indexes_of loans) tuple value lifted

        joins : (lent' : List Loan) → IsLending i.handles lent' → IsLending j.handles (loans ++ lent')
        joins lent' x = handles_stay.lifts most_params tuple (options_of options) (words args) (config_of i) (config_of j) value loans lent' lifted lent x

        module _ (G : Group) (waiting : List (Awaiting S)) (count : ℕ) (w : Waits h G old waiting [] (Some count)) (inner : k ≡ instance_of (reverse old.frames)) where
          lend_mid : AllLend (maps_of mid.instances) loans (reverse old.frames)
          lend_mid = subst (λ ms. AllLend ms loans (reverse old.frames)) (sym (maps_set old.instances k i found j)) (go (reverse old.frames) w.await inner w.lend)
            where
              go : (fs : List Frame) → AllAwait (scenes_of old.instances) (calls_of old.instances) fs (Some count) → k ≡ instance_of fs → AllLend (maps_of old.instances) [] fs → AllLend (with_map (maps_of old.instances) k j.handles) loans fs
              go [] a e l = absurd a
              go (f ∷ fs) a e l =
                  subst (λ n. AllLend (with_map (maps_of old.instances) n j.handles) loans (f ∷ fs)) (sym e)
                  (last_first.lends (maps_of old.instances) loans f fs j.handles (λ lent' x. joins lent' (subst (λ m. IsLending m lent') (ap (maps_of old.instances) (sym e) ∙ map_here old.instances k i found) x)) l)

          waits_mid : Waits h G mid waiting loans (Some count)
          waits_mid = waits_lending h G old k i j found code waiting [] loans (Some count) w lend_mid

          -- the function is asked
          abbrev asked : ℕ → Asker → Out (World S) (Option PlainValue)
          asked at asker = so_far mid (asks_target G h (nested 0) at (back_to h G waiting) asker (depth_of depth) (target_of target) (passed_by tuple (plain_value value)))

          asker_is : HaveTypes (lowered ty).params args → record { target = target_of target; options = options_of options; place = place_in ty (words args); loans = indexes_of loans } ≡ asker_of call
          asker_is typed =
              ap (λ t. record { target = t; options = options_of options; place = place_in ty (words args); loans = indexes_of loans }) (sym shared)
              ∙ ap (λ o. record { target = target_of call.target; options = options_of o; place = place_in ty (words args); loans = indexes_of loans }) (sym same_options)
              ∙ ap (λ p. record { target = target_of call.target; options = options_of call.options; place = p; loans = indexes_of loans }) (sym (place ∙ word_there (result_spills ty) (core_params ty) args typed))

          calls_so : HaveTypes (lowered ty).params args → so_far old (performs G (hosted h) (running G (hosted h)) (depth_of depth) k (words args) (Some (LoweredFunc (target_of target) (options_of options))) >> back_to h G waiting) ≡ asked (instance_in waiting) (asker_of call)
          calls_so typed =
              asks_so G waiting
              ∙ on_two h G old k i j found is_open (λ _. lifting_op) _ tt (record { passed = passed_by tuple (plain_value value); loans = indexes_of loans }) (config_of i) opened lifted_so
              ∙ ap (asked k) (asker_is typed)
              ∙ ap (λ n. asked n (asker_of call)) (inner ∙ sym (waiting_at h G old waiting count [] w))

        -- a lifted function of the group
        pub calls_own : (callee : ℕ) (rc : Rc CodeLifting Global) → target_of target ≡ Mine callee (lifting_of rc.value) → (new : Moment S) (result : Result Flow Stop) → CallsLifted h mid callee (lifting_of rc.value) (callers.Inside call) depth (plain_value value) result new → Calls result new
        calls_own callee rc mine new result leads = λ G waiting w inner fits typed.
            let same = same_set h G old k i j found code in
            let types : ty ≡ (lifting_of rc.value).ty = ap type_of mine in
            let their : TargetFits (scenes_of old.instances) G old.group.owners (Mine callee (lifting_of rc.value)) = subst (λ t. TargetFits (scenes_of old.instances) G old.group.owners t) mine fits.0 in
            leads_by h G _ _ old mid new result
            (calls_so G waiting _ w inner typed
            ∙ ap (λ t. so_far mid (asks_target G h (nested 0) (instance_in waiting) (back_to h G waiting) (asker_of call) (depth_of depth) t (passed_by (params_tuple (type_of t)) (plain_value value)))) mine)
            same
            (leads G waiting (subst (λ t. Waits h G mid waiting loans (Some (length (lowered (type_of t)).results))) (sym shared) (waits_mid G waiting _ w inner))
            (subst (λ ss. LiftingFits ss callee (lifting_of rc.value)) (sym same.scenes) their.0)
            (subst (λ ss. CallerFits ss (instance_of (reverse old.frames)) (lifting_of rc.value) (FromCode (asker_of call))) (sym same.scenes) (
              subst (λ o. OptionsFit (scenes_of old.instances) (instance_of (reverse old.frames)) (options_of o) (type_of (target_of call.target))) (sym same_options)
                  (subst (λ t. OptionsFit (scenes_of old.instances) (instance_of (reverse old.frames)) (options_of options) (type_of t)) (sym shared) (subst (λ n. OptionsFit (scenes_of old.instances) n (options_of options) ty) inner fits.1)),
              sym types ∙ ap type_of (sym shared),
            ))
            (subst (λ ss. PassesAlike ss G old.group.owners callee (lifting_of rc.value).ty) (sym same.scenes) their.1)
            (subst (λ t. is_of (params_tuple t) (plain_value value) ≡ true) types value_typed))

        -- a function of the host, which ends the run
        pub calls_host_ends : (import : Import) → target_of target ≡ Theirs import → (new : Moment S) (stop : Stop) (result : Result Flow Stop) → AsksHost h mid import (plain_value value) (Err stop) new → IsErrAnd result (λ s. s ≡ stop) → Calls result new
        calls_host_ends import theirs new stop result asks e = λ G waiting w inner fits typed.
            ends_as h old new G _ stop result e
            (ends_by h G _ _ new stop
            (calls_so G waiting _ w inner typed
            ∙ ap (λ t. so_far mid (asks_target G h (nested 0) (instance_in waiting) (back_to h G waiting) (asker_of call) (depth_of depth) t (passed_by (params_tuple (type_of t)) (plain_value value)))) theirs)
            (asks G (depth_of depth) _))

        -- or answers
        pub calls_host : (import : Import) → target_of target ≡ Theirs import → (answer : Value) (mid2 new : Moment S) (result : Result Flow Stop) → AsksHost h mid import (plain_value value) (Ok answer) mid2 →
            ResultLeads h mid2 k call dues.Host depth (plain_value answer) result new → Calls result new
        calls_host import theirs answer mid2 new result asks leads = λ G waiting w inner fits typed.
            let same = same_set h G old k i j found code in
            let types : ty ≡ import.ty = ap type_of theirs in
            let their_types : import.ty ≡ type_of (target_of call.target) = sym types ∙ ap type_of (sym shared) in
            let back : Same mid mid2 = subst (λ m. Same mid m) (sym asks.2) (record { group = refl; scenes = refl }) in
            leads_by h G _ _ old mid2 new result
            (calls_so G waiting _ w inner typed
            ∙ ap (λ t. so_far mid (asks_target G h (nested 0) (instance_in waiting) (back_to h G waiting) (asker_of call) (depth_of depth) t (passed_by (params_tuple (type_of t)) (plain_value value)))) theirs
            ∙ asks.0 (depth_of depth) _
            ∙ ap (λ t. so_far mid2 (is_answered G (hosted h) (nested 0) (instance_in waiting) (back_to h G waiting) (FromCode (asker_of call)) (depth_of depth) (record { passed = passed_by (answer_tuple t) (plain_value answer); due = Below Nothing }))) their_types)
            (same_after old mid mid2 same back)
            (leads G waiting
            (subst (λ m. Waits h G m waiting loans (due_to (FromCode (asker_of call)))) (sym asks.2)
            (waits_kept h G mid mid2.kept waiting loans (due_to (FromCode (asker_of call))) (subst (λ t. Waits h G mid waiting loans (Some (length (lowered (type_of t)).results))) (sym shared) (waits_mid G waiting _ w inner))))
            (inner ∙ sym (ap (λ (m : Moment S). instance_of (reverse m.frames)) asks.2))
            (subst (λ ss. OptionsFit ss k (options_of call.options) (type_of (target_of call.target))) (sym (back.scenes ∙ same.scenes))
            (subst (λ o. OptionsFit (scenes_of old.instances) k (options_of o) (type_of (target_of call.target))) (sym same_options) (subst (λ t. OptionsFit (scenes_of old.instances) k (options_of options) (type_of t)) (sym shared) fits.1)))
            tt tt
            (subst (λ t. is_of (answer_tuple t) (plain_value answer) ≡ true) their_types asks.1))

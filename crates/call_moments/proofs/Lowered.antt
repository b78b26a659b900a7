-- Parameters are lowered into the instance that is called, and a result into the one that called: their handles come into its table, and
-- then they are stored.
use Rattle.std.proofs.Common.{◌≡◌, ◌≤◌, ◌<◌, ◌==◌, ◌||◌, ℕ, Bool, List, [], ◌∷◌, length, map, set, reverse, Option, Some, None, Ok, Err, true, false, refl, sym, ap, subst, ◌∙◌, arith}
use Rattle.std.proofs.lemmas.List.{length-map}
use Rattle.std.specs.Prelude.{Result, slice_get, if◌then◌else◌}
use Rattle.std.proofs.Math.Path.{fun_ext}
use Rattle.std.proofs.lemmas.Bool.Decides.{nat_tests}
use Rattle.std.proofs.lemmas.Option.{slice_get_within}
use Rattle.core_store.specs.Scene.{Scene, scene_of}
use Rattle.wit_types.specs.Plain.{Plain, PlainFunc}
use Rattle.wit_types.specs.PlainValue.{PlainValue}
use Rattle.wit_types.specs.HasType.{is_of}
use Rattle.abi_layout.specs.Functions.{core_params, lowered}
use Rattle.abi_layout.specs.Loading.{has_ranges}
use Rattle.abi_layout.specs.Handles.{renumbered}
use Rattle.abi_layout.proofs.HandleLaws.{types_keep}
use Rattle.abi_store.specs.Plan.{Plan, at_plan, flat_plan, is_due}
use Rattle.host_port.specs.Hosts.{HostStep, Kept}
use Rattle.handle_space.specs.HandleMap.{HandleMap}
use Rattle.comp_worlds.specs.Acts.{Trapped, Out, Over, seen_before, Act, ◌>>◌}
use Rattle.comp_worlds.specs.Passing.{Passed, params_tuple, answer_tuple, handles_of, blank, most_params, most_results, spills_over, unlend_all}
use Rattle.comp_worlds.specs.Groups.{Group, Options, Lifting, type_of, Config, World}
use Rattle.comp_worlds.specs.Locals.{Local, gives_in, done, close, adds_handles, ends_loans}
use Rattle.comp_worlds.specs.Calls.{pick, with_config, on, borrowed, unborrowed, plainly}
use Rattle.comp_worlds.specs.Hosts.{passed_by, hosted}
use Rattle.comp_frames.proofs.Heads.{on_some}
use Rattle.comp_frames.specs.Running.{running}
use Rattle.comp_frames.specs.Left.{does_due}
use Rattle.comp_frames.proofs.Halts.{here, world_twice}
use Rattle.comp_frames.specs.Frames.{Awaiting, FromCode, Params, Result as ResultNext, Stored as StoredNext, instance_in, is_storing, is_answered}
use Rattle.comp_frames.specs.Laws.{does_plan, is_called}
use Rattle.comp_frames.proofs.Lowering.{lowers_by_plans}
use Rattle.instance_state.specs.declared.instance.Instance.{Instance}
use Rattle.instance_state.specs.Shown.{config_of}
use Rattle.instance_state.specs.declared.loan.Loan.{Loan}
use Rattle.instance_state.specs.Loans.{indexes_of, AreLent}
use Rattle.instance_state.specs.Owning.{plain_for}
use Rattle.instance_state.specs.Passed.{options_of, needs_memory, IsLoweredAs, params_plan, result_plan}
use Rattle.instance_state.specs.Targets.{target_of, lifting_of}
use Rattle.call_moments.specs.Stores.{BeginsToStore, Stores as BeginStores, without_loans}
use Rattle.call_moments.specs.declared.depth.Depth.{Depth}
use Rattle.call_moments.specs.declared.end.Stop.{Stop}
use Rattle.call_moments.specs.declared.end.Stop.TheVariants as stops
use Rattle.call_moments.specs.declared.frame.Flow.{Flow}
use Rattle.call_moments.specs.declared.frame.Frame.{Frame}
use Rattle.call_moments.specs.declared.frame.Service.{Service}
use Rattle.call_moments.specs.declared.frame.Call.{Call}
use Rattle.call_moments.specs.declared.frame.Due.{Due}
use Rattle.call_moments.specs.declared.frame.Storing.{Storing}
use Rattle.call_moments.specs.declared.frame.Stored.TheVariants as stored
use Rattle.call_moments.specs.CodeLaws.{nested}
use Rattle.call_moments.specs.Configs.{world_of}
use Rattle.call_moments.specs.EndingLaws.{LeavesLent as LeavesMap}
use Rattle.call_moments.specs.Held.{Maps, with_map, AllLend, loans_by}
use Rattle.call_moments.specs.Lending.{IsLending}
use Rattle.call_moments.specs.Shown.{depth_of, asker_of, caller_of, due_of, service_of, next_of}
use Rattle.call_moments.proofs.LawsEnding.{last_first}
use Rattle.call_moments.proofs.Lending.{handles_stay}
use Rattle.call_moments.proofs.Worlds.{config_at, changed}
use Rattle.call_moments.specs.Fits.{scenes_of, OptionsFit, HasMemory, PassesAlike}
use Rattle.call_moments.specs.Waiting.{due_to, due_next, instance_of, AsksRoom, StoringFits, NextFits, ServiceFits, DueFits, IsDueAt, AllAwait}
use Rattle.call_moments.specs.Leads.{Moment, calls_of, maps_of, sizes_of, so_far, Waits, Ends, Leads}
use Rattle.call_moments.specs.Functions.{ComesLater, CanStore, Stores, ParamsLead, ResultLeads, back_to, storing_so}
use Rattle.call_moments.proofs.Beginning.{BeginsAs, params_begin, result_begin}
use Rattle.call_moments.proofs.Insides.{waiting_at, not_there}
use Rattle.call_moments.proofs.Instances.{map_here, maps_set}
use Rattle.call_moments.proofs.Following.{with_instance, same_set, waits_lending, waits_on, leads_by, on_two, on_three, on_trapped, on_then_trapped}
use Rattle.call_moments.proofs.Rooms.{params_ask, result_asks}
use Rattle.call_moments.proofs.Serves.{post_there}

-- what begins to be stored, taken apart
pub begun_parts : (ty : Plain) (v : PlainValue) (due_plan : PlainValue → Plan) (o : Option (Local ℕ (List ℕ))) (new : Config ℕ) (plan : Plan) → BeginsToStore ty v due_plan o new plan →
    (indexes : List ℕ) × (added : Config ℕ) × (o ≡ Some (gives_in indexes added)) × (plan ≡ due_plan (renumbered ty v indexes)) × (close added ≡ Some (done new))
begun_parts ty v due_plan None new plan b = absurd b.1
begun_parts ty v due_plan (Some l) new plan b = (l.answer, b.0, ap (λ c. Some (gives_in l.answer c)) b.1.0, b.1.1, b.2)

-- the type of a value that passes is that of the value with other numbers
retyped : (ty : Plain) (v : PlainValue) (indexes : List ℕ) → is_of ty v ≡ true → is_of ty (renumbered ty (blank ty v) indexes) ≡ true
retyped ty v indexes e = types_keep ty (blank ty v) indexes ∙ types_keep ty v [] ∙ e

there_in : (is : List Instance) (k : ℕ) (i : Instance) → slice_get is k ≡ Some i → k < length (scenes_of is)
there_in is k i found = subst (λ n. k < n) (sym (length-map is (λ (x : Instance). scene_of x.code.store))) (slice_get_within is k i found)

module _ {S : Type 0} (h : HostStep S) (service : Service) (value : PlainValue) (old : Moment S) where
  abbrev k : ℕ
  k = service.instance

  abbrev lifting : Lifting
  lifting = lifting_of service.lifting.value

  abbrev tuple : Plain
  tuple = params_tuple lifting.ty

  abbrev passed : Passed ℕ
  passed = passed_by tuple value

  -- its instance is there
  pub params_there : length old.instances ≤ k → (new : Moment S) (result : Result Flow Stop) → ParamsLead h old service value result new
  params_there le new result = λ G waiting w fits alike typed. absurd (post_there h old k lifting.code (length (core_params lifting.ty)) fits.0.code le)

  module _ (i j : Instance) (found : slice_get old.instances k ≡ Some i) where
    -- parameters go into the table by the owners that code knows
    abbrev adding : Option (Local ℕ (List ℕ))
    adding = adds_handles (plain_for old.group.owners (Some k)) (handles_of tuple passed) (config_of i)

    pub params_fail : (new : Moment S) (stop : Stop) (plan : Config ℕ) → new.kept ≡ old.kept → BeginStores (Unit {0}) tuple (blank tuple value) (params_plan tuple) adding plan (Err stop) → ParamsLead h old service value (Err stop) new
    params_fail new stops.Trapped plan same b = λ G waiting w fits alike typed.
        on_trapped h G old k i (adds_handles (borrowed G plainly k) (handles_of tuple passed)) _ found (sym (alike passed (config_of i)) ∙ b tt) ∙ ap (λ (x : Kept S). Over x.seen Trapped) (sym same)
    params_fail new stops.ScriptEnded plan same b = absurd b
    params_fail new stops.BadAnswer plan same b = absurd b
    params_fail new stops.Spent plan same b = absurd b
    params_fail new stops.TooDeep plan same b = absurd b
    params_fail new stops.NoMemory plan same b = λ G waiting w fits alike typed. tt

    module _ (code : j.code ≡ i.code) (plan : Plan) (begins : BeginsToStore tuple (blank tuple value) (params_plan tuple) adding (config_of j) plan) (waits : is_due plan.due ≡ false) (due' : is_due plan.due ≡ true → false ≡ true) where
      abbrev storing : Storing
      storing = record { instance = k; plan = plan; options = service.lifting.value.options; depth = service.depth; writes = false; then = stored.Params service; due = due' }

      abbrev mid : Moment S
      mid = with_instance old k j

      abbrev parts : (indexes : List ℕ) × (added : Config ℕ) × (adding ≡ Some (gives_in indexes added)) × (plan ≡ params_plan tuple (renumbered tuple (blank tuple value) indexes)) × (close added ≡ Some (done (config_of j)))
      parts = begun_parts tuple (blank tuple value) (params_plan tuple) adding (config_of j) plan begins

      leaves : LeavesMap i.handles j.handles
      leaves lent x =
          handles_stay.closes begins.0 (done (config_of j)) lent begins.2
          (handles_stay.lowers tuple (blank tuple value) (params_plan tuple) (plain_for old.group.owners (Some k)) (handles_of tuple passed) (config_of i) begins.0 plan lent begins.1 x)

      pub params_lead : (new : Moment S) (result : Result Flow Stop) → Stores h mid storing None result new → ParamsLead h old service value result new
      params_lead new result stores = λ G waiting w fits alike typed.
          let first : BeginsAs plan (core_params lifting.ty) =
          subst (λ q. BeginsAs q (core_params lifting.ty)) (sym parts.3) (params_begin lifting.ty (renumbered tuple (blank tuple value) parts.0) (retyped tuple value parts.0 typed)) in
          -- what is left by a plan for flat values of these types
          let left = λ (q : Plan) (types : List _). so_far mid (is_storing G (hosted h) (nested 0) (instance_in waiting) (back_to h G waiting) k (record { options = lifting.options; depth = depth_of service.depth; types = types; next = Params (service_of service) })
          (does_due G (hosted h) (running G (hosted h)) (depth_of service.depth) k lifting.options q.due q.left None)) in
          let same = same_set h G old k i j found code in
          leads_by h G _ (left plan plan.types) old mid new result
          (ap (so_far old) ((lowers_by_plans G h (nested 0)).params (instance_in waiting) (back_to h G waiting) (caller_of service.caller) (depth_of service.depth) k lifting passed)
          ∙ on_two h G old k i j found (adds_handles (borrowed G plainly k) (handles_of tuple passed)) (λ _. close) _ parts.0 tt parts.1 (sym (alike passed (config_of i)) ∙ parts.2) parts.4
          ∙ ap (λ (q : Plan). left q (core_params lifting.ty)) (sym parts.3)
          ∙ ap (left plan) (sym first.types))
          same
          (stores G waiting
          (record {
            waits = waits_on h G old k i j found code leaves waiting (loans_by service.caller) (due_to (caller_of service.caller)) w;
            fits = subst (λ ss. StoringFits ss (instance_of (reverse old.frames)) storing) (sym same.scenes) (record {
              there = there_in old.instances k i found;
              next = (fits, first.types);
              realloc = fits.0.options.realloc;
              memory = λ asks. fits.0.options.params (params_ask tuple (renumbered tuple (blank tuple value) parts.0) (subst (λ (q : Plan). AsksRoom q.due q.left.steps) parts.3 asks));
              count = first.count;
              numbers = first.numbers;
            });
            room = λ x e. first.room (sizes_of mid.instances k x);
          })
          (λ e. absurd (cc)) (λ e. first.later waits))

-- ---- results

or_true : (b c : Bool) → c ≡ true → (b || c) ≡ true
or_true true c e = refl
or_true false c e = e

-- a result that comes to memory at once goes through it
comes_through : (ty : Plain) (at : ℕ) (v : PlainValue) → is_due (result_plan ty at v).due ≡ true → needs_memory most_results ty ≡ true
comes_through ty at v e = or_true (has_ranges ty) (spills_over most_results ty) (go (spills_over most_results ty) refl)
  where
    go : (b : Bool) → spills_over most_results ty ≡ b → spills_over most_results ty ≡ true
    go true s = s
    go false s = let no : false ≡ true = sym (ap (λ c. is_due (if c then at_plan at ty v else flat_plan ty v).due) s) ∙ e in absurd (cc)

map_twice : (maps : Maps) (k : ℕ) (m n : HandleMap ℕ) → with_map (with_map maps k m) k n ≡ with_map maps k n
map_twice maps k m n = fun_ext (λ j. twice (j == k) n m (maps j))
  where
    twice : {A : Type 0} (b : Bool) (x y z : A) → pick b x (pick b y z) ≡ pick b x z
    twice true x y z = refl
    twice false x y z = refl

map_at : (maps : Maps) (k : ℕ) (m : HandleMap ℕ) → with_map maps k m k ≡ m
map_at maps k m = let e : (k == k) ≡ true = grind (arith, nat_tests) in ap (λ b. pick b m (maps k)) e

module _ {S : Type 0} (h : HostStep S) (old : Moment S) (k : ℕ) (call : Call) (due : Due) (depth : Depth) (value : PlainValue) where
  abbrev ty : PlainFunc
  ty = type_of (target_of call.target)

  abbrev answer : Plain
  answer = answer_tuple ty

  abbrev given : Passed ℕ
  given = passed_by answer value

  abbrev loans : List Loan
  loans = call.loans.items

  pub result_there : length old.instances ≤ k → (result : Result Flow Stop) (new : Moment S) → ResultLeads h old k call due depth value result new
  result_there le result new = λ G waiting w inner fits due_fits due_at typed. absurd (not_there h G old waiting _ loans w k inner le)

  module _ (i : Instance) (found : slice_get old.instances k ≡ Some i) where
    abbrev ended : HandleMap ℕ
    ended = unlend_all (indexes_of loans) i.handles

    -- its loans are lent as they end, and then the frames lend what they lent
    ends_lent : (G : Group) (waiting : List (Awaiting S)) (count : ℕ) → Waits h G old waiting loans (Some count) → k ≡ instance_of (reverse old.frames) → AreLent loans i.handles × AllLend (with_map (maps_of old.instances) k ended) [] (reverse old.frames)
    ends_lent G waiting count w inner = go (reverse old.frames) w.await inner w.lend
      where
        go : (fs : List Frame) → AllAwait (scenes_of old.instances) (calls_of old.instances) fs (Some count) → k ≡ instance_of fs → AllLend (maps_of old.instances) loans fs → AreLent loans i.handles × AllLend (with_map (maps_of old.instances) k ended) [] fs
        go [] a e l = absurd a
        go (f ∷ fs) a e l =
            subst (λ m. AreLent loans m × AllLend (with_map (maps_of old.instances) k (unlend_all (indexes_of loans) m)) [] (f ∷ fs)) (map_here old.instances k i found)
            (subst (λ n. AreLent loans (maps_of old.instances n) × AllLend (with_map (maps_of old.instances) n (unlend_all (indexes_of loans) (maps_of old.instances n))) [] (f ∷ fs)) (sym e) (last_first.ends (maps_of old.instances) loans f fs l))

    abbrev putting : Option (Local ℕ (List ℕ))
    putting = adds_handles (plain_for old.group.owners None) (handles_of answer given) (without_loans (indexes_of loans) (config_of i))

    -- what is done in the instance first
    abbrev rest_of : (G : Group) → List (Awaiting S) → Act (World S) (Option PlainValue)
    rest_of G waiting = is_answered G (hosted h) (nested 0) (instance_in waiting) (back_to h G waiting) (FromCode (asker_of call)) (depth_of depth) (record { passed = given; due = due_of due })

    -- handles come into the table, and then the result is stored there
    abbrev puts_then : (G : Group) → List (Awaiting S) → ℕ → Act (World S) (Option PlainValue)
    puts_then G waiting n =
        on n (ends_loans (indexes_of loans)) >> λ _.
        on n (adds_handles unborrowed (handles_of answer given)) >> λ indexes.
        on n close >> λ _.
        is_storing G (hosted h) (nested 0) (instance_in waiting) (back_to h G waiting) n (record { options = options_of call.options; depth = depth_of depth; types = (lowered ty).results; next = ResultNext (due_of due) })
        (does_plan G h (nested 0) (depth_of depth) n (options_of call.options) (result_plan answer call.place (renumbered answer given.value indexes)))

    puts_so : (G : Group) (waiting : List (Awaiting S)) (count : ℕ) → Waits h G old waiting loans (Some count) → k ≡ instance_of (reverse old.frames) → so_far old (rest_of G waiting) ≡ so_far old (puts_then G waiting k)
    puts_so G waiting count w inner =
        ap (so_far old) ((lowers_by_plans G h (nested 0)).result (instance_in waiting) (back_to h G waiting) (asker_of call) (depth_of depth) (record { passed = given; due = due_of due }))
        ∙ ap (λ n. so_far old (puts_then G waiting n)) (waiting_at h G old waiting count loans w ∙ sym inner)

    pub result_fail : (new : Moment S) (stop : Stop) (plan : Config ℕ) → new.kept ≡ old.kept → BeginStores (AreLent loans i.handles) answer (blank answer value) (result_plan answer call.place) putting plan (Err stop) → ResultLeads h old k call due depth value (Err stop) new
    result_fail new stops.Trapped plan same b = λ G waiting w inner fits due_fits due_at typed.
        puts_so G waiting _ w inner
        ∙ on_then_trapped h G old k i found (ends_loans (indexes_of loans)) (λ _. adds_handles unborrowed (handles_of answer given)) _ tt (without_loans (indexes_of loans) (config_of i)) refl (b (ends_lent G waiting _ w inner).0)
        ∙ ap (λ (x : Kept S). Over x.seen Trapped) (sym same)
    result_fail new stops.ScriptEnded plan same b = absurd b
    result_fail new stops.BadAnswer plan same b = absurd b
    result_fail new stops.Spent plan same b = absurd b
    result_fail new stops.TooDeep plan same b = absurd b
    result_fail new stops.NoMemory plan same b = λ G waiting w inner fits due_fits due_at typed. tt

    module _ (j : Instance) (code : j.code ≡ i.code) (plan : Plan) (begins : BeginsToStore answer (blank answer value) (result_plan answer call.place) putting (config_of j) plan) (writes' : Bool) (comes : is_due plan.due ≡ writes') (due' : is_due plan.due ≡ true → writes' ≡ true) where
      abbrev result_storing : Storing
      result_storing = record { instance = k; plan = plan; options = call.options; depth = depth; writes = writes'; then = stored.Result due; due = due' }

      abbrev result_mid : Moment S
      result_mid = with_instance old k j

      abbrev result_parts : (indexes : List ℕ) × (added : Config ℕ) × (putting ≡ Some (gives_in indexes added)) × (plan ≡ result_plan answer call.place (renumbered answer (blank answer value) indexes)) × (close added ≡ Some (done (config_of j)))
      result_parts = begun_parts answer (blank answer value) (result_plan answer call.place) putting (config_of j) plan begins

      result_leaves : LeavesMap ended j.handles
      result_leaves lent x =
          handles_stay.closes begins.0 (done (config_of j)) lent begins.2
          (handles_stay.lowers answer (blank answer value) (result_plan answer call.place) (plain_for old.group.owners None) (handles_of answer given) (without_loans (indexes_of loans) (config_of i)) begins.0 plan lent begins.1 x)

      lend_after : AllLend (with_map (maps_of old.instances) k ended) [] (reverse old.frames) → AllLend (maps_of result_mid.instances) [] (reverse old.frames)
      lend_after l =
          subst (λ ms. AllLend ms [] (reverse old.frames)) (map_twice (maps_of old.instances) k ended j.handles ∙ sym (maps_set old.instances k i found j))
          (last_first.changes (with_map (maps_of old.instances) k ended) [] (reverse old.frames) k j.handles (λ lent x. result_leaves lent (subst (λ m. IsLending m lent) (map_at (maps_of old.instances) k ended) x)) l)

      pub result_lead : (new : Moment S) (result : Result Flow Stop) → Stores h result_mid result_storing None result new → ResultLeads h old k call due depth value result new
      result_lead new result stores = λ G waiting w inner fits due_fits due_at typed.
          let first : BeginsAs plan (lowered ty).results =
          subst (λ q. BeginsAs q (lowered ty).results) (sym result_parts.3) (result_begin ty call.place (renumbered answer (blank answer value) result_parts.0) (retyped answer value result_parts.0 typed)) in
          let left = λ (q : Plan) (types : List _). so_far result_mid (is_storing G (hosted h) (nested 0) (instance_in waiting) (back_to h G waiting) k (record { options = options_of call.options; depth = depth_of depth; types = types; next = ResultNext (due_of due) })
          (does_due G (hosted h) (running G (hosted h)) (depth_of depth) k (options_of call.options) q.due q.left None)) in
          let same = same_set h G old k i j found code in
          let through : writes' ≡ true → HasMemory (scenes_of old.instances) k (options_of call.options) =
          λ e. fits.result (comes_through answer call.place (renumbered answer (blank answer value) result_parts.0) (ap (λ (q : Plan). is_due q.due) (sym result_parts.3) ∙ comes ∙ e)) in
          leads_by h G _ (left plan plan.types) old result_mid new result
          (puts_so G waiting _ w inner
          ∙ on_three h G old k i j found (ends_loans (indexes_of loans)) (adds_handles unborrowed (handles_of answer given)) close _ tt result_parts.0 tt (without_loans (indexes_of loans) (config_of i)) result_parts.1 refl result_parts.2 result_parts.4
          ∙ ap (λ (q : Plan). left q (lowered ty).results) (sym result_parts.3)
          ∙ ap (left plan) (sym first.types))
          same
          (stores G waiting
          (record {
            waits = subst (λ (types : List _). Waits h G result_mid waiting [] (Some (length types))) (sym first.types) (waits_lending h G old k i j found code waiting loans [] (due_to (FromCode (asker_of call))) w (lend_after (ends_lent G waiting _ w inner).1));
            fits = subst (λ ss. StoringFits ss (instance_of (reverse old.frames)) result_storing) (sym same.scenes) (record {
              there = there_in old.instances k i found;
              next = (due_fits, due_at);
              realloc = fits.realloc;
              memory = λ asks. fits.result (result_asks answer call.place (renumbered answer (blank answer value) result_parts.0) (subst (λ (q : Plan). AsksRoom q.due q.left.steps) result_parts.3 asks));
              count = first.count;
              numbers = first.numbers;
            });
            room = λ x e. first.room (sizes_of result_mid.instances k x);
          })
          (λ e. subst (λ ss. HasMemory ss k (options_of call.options)) (sym same.scenes) (through e)) (λ e. first.later (comes ∙ e)))

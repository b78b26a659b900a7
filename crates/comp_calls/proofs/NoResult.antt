-- The result of a function that has none: nothing is stored, and the call is left with no flat values.
use Rattle.std.proofs.Common.{◌≡◌, ℕ, List, [], length, set, Option, Some, None, Ok, Err, true, false, refl, sym, ap, subst, ◌∙◌}
use Rattle.std.specs.Prelude.{Result, IsErrAnd, slice_get, unwrap_or}
use Rattle.std.proofs.lemmas.List.{set-get_or}
use Rattle.core_memory.specs.Linear.{fresh}
use Rattle.core_store.specs.State.{State, memory_at}
use Rattle.core_store.specs.declared.value.CoreValue.{CoreValue}
use Rattle.instance_state.specs.Ready.{Runs}
use Rattle.instance_state.specs.Done.{Stores as RunsStore}
use Rattle.wit_types.specs.Plain.{Plain, AsTuple, RecordType, End}
use Rattle.wit_types.specs.PlainValue.{PlainValue, BoolValue, IntValue, CharValue, StringValue, ListValue, RecordValue, VariantValue, FlagsValue, HandleValue}
use Rattle.abi_layout.specs.Storing.{nothing, on_record}
use Rattle.abi_store.specs.Plan.{Plan, Nothing as NothingDue, is_due}
use Rattle.abi_store.specs.declared.target.StoreStep.{StoreStep}
use Rattle.abi_store.specs.declared.target.StoreStep.TheVariants as steps
use Rattle.host_port.specs.Hosts.{HostStep}
use Rattle.handle_space.specs.HandleMap.{HandleMap}
use Rattle.comp_worlds.specs.Passing.{Handle, answer_parts, answer_tuple, handles_by, kinds_in, handles_of, blank, unlend_all}
use Rattle.comp_worlds.specs.Groups.{type_of, Config}
use Rattle.comp_worlds.specs.Locals.{done, reopen, adds_handles}
use Rattle.comp_worlds.specs.Hosts.{passed_by}
use Rattle.instance_state.specs.declared.instance.Instance.{Instance}
use Rattle.instance_state.specs.Shown.{config_of}
use Rattle.instance_state.specs.Loans.{indexes_of, AreLent}
use Rattle.instance_state.specs.Owning.{plain_for}
use Rattle.instance_state.specs.Passed.{IsInStore, result_plan}
use Rattle.instance_state.specs.Targets.{target_of}
use Rattle.call_moments.specs.Stores.{BeginsToStore, without_loans}
use Rattle.call_moments.specs.declared.depth.Depth.{Depth}
use Rattle.call_moments.specs.declared.end.Stop.{Stop}
use Rattle.call_moments.specs.declared.end.Stop.TheVariants as stops
use Rattle.call_moments.specs.declared.frame.Flow.{Flow}
use Rattle.call_moments.specs.declared.frame.Back.TheVariants as backs
use Rattle.call_moments.specs.declared.frame.Call.{Call}
use Rattle.call_moments.specs.declared.frame.Due.{Due}
use Rattle.call_moments.specs.declared.frame.Storing.{Storing}
use Rattle.call_moments.specs.declared.frame.Stored.TheVariants as stored
use Rattle.call_moments.proofs.Worlds.{same_place}
use Rattle.call_moments.specs.Leads.{Moment}
use Rattle.call_moments.specs.Functions.{IsLeft, IsStored, Stores, ResultLeads}
use Rattle.call_moments.proofs.Following.{with_instance}
use Rattle.call_moments.proofs.Lowered.{result_fail, result_lead}
use Rattle.call_moments.proofs.Serves.{stored_result}
use Rattle.call_moments.proofs.StoringLaws.{step_done}
use Rattle.call_moments.proofs.StoreSteps.{set_twice}
use Rattle.comp_calls.proofs.Begun.{ends_so}

abbrev no_fields : Plain
no_fields = RecordType AsTuple End

abbrev no_steps : Plan
no_steps = record { due = NothingDue; left = nothing; types = [] }

-- whatever the value is, it has no fields
without_fields : {A : Type 0} (x : A) (v : PlainValue) → on_record x (λ vs. x) v ≡ x
without_fields x (BoolValue b) = refl
without_fields x (IntValue n) = refl
without_fields x (CharValue c) = refl
without_fields x (StringValue bytes) = refl
without_fields x (ListValue vs) = refl
without_fields x (RecordValue vs) = refl
without_fields x (VariantValue n payload) = refl
without_fields x (FlagsValue bits) = refl
without_fields x (HandleValue index) = refl

-- it holds no handle, and its plan takes no step
abbrev Begins : (ty : Plain) (place : ℕ) (owned : ℕ → ℕ → Option ℕ) (value : PlainValue) (c closed : Config ℕ) → Type 0
Begins ty place owned value c closed = BeginsToStore ty (blank ty value) (result_plan ty place) (adds_handles owned (handles_of ty (passed_by ty value)) c) closed no_steps

begins : (ty : Plain) → ty ≡ no_fields → (place : ℕ) (owned : ℕ → ℕ → Option ℕ) (value : PlainValue) (c : Config ℕ) → Begins ty place owned value c (record c { closed = true })
begins ty e place owned value c =
    let begun : (hs : List (Handle ℕ)) → hs ≡ [] → BeginsToStore no_fields (blank no_fields value) (result_plan no_fields place) (adds_handles owned hs c) (record c { closed = true }) no_steps =
    λ hs none.
    subst (λ xs. BeginsToStore no_fields (blank no_fields value) (result_plan no_fields place) (adds_handles owned xs c) (record c { closed = true }) no_steps) (sym none)
    (c, (refl, ap (λ left. record { due = NothingDue; left = left; types = [] }) (sym (without_fields nothing _))), refl) in
    subst (λ t. Begins t place owned value c (record c { closed = true })) (sym e)
    (begun (handles_of no_fields (passed_by no_fields value)) (ap (λ hs. handles_by (kinds_in hs) (passed_by no_fields value).reps) (without_fields [] _)))

-- core code takes no step for it
no_step : (i : Runs) (at : ℕ) → RunsStore i no_steps at None no_steps i (Ok (steps.Done []))
no_step i at = (((refl, refl), ap (λ ms. record i.store { memories = ms }) (sym (set-get_or i.store.memories at (fresh 0 None)))), refl, refl)

-- the memory of the options, if it is there
named : (o : Option ℕ) (s : State) → IsInStore o s → o ≡ Some (unwrap_or o 0)
named None s h = absurd h
named (Some at) s h = refl

module _ {S : Type 0} (h : HostStep S) (old : Moment S) (k : ℕ) (call : Call) (due : Due) (depth : Depth) (value : PlainValue) (i : Instance) (found : slice_get old.instances k ≡ Some i) where
  -- a loan is of no handle that is lent
  pub not_lent : (AreLent call.loans.items i.handles → ⊥) → (new : Moment S) (result : Result Flow Stop) → new.kept ≡ old.kept → IsErrAnd result (λ s. s ≡ stops.Trapped) → ResultLeads h old k call due depth value result new
  not_lent never new result same e =
      ends_so (λ r. ResultLeads h old k call due depth value r new) stops.Trapped result e (result_fail h old k call due depth value i found new stops.Trapped (config_of i) same (λ lent. absurd (never lent)))

  module _ (none : (type_of (target_of call.target)).answer ≡ None) (ended : HandleMap ℕ) (ends : ended ≡ unlend_all (indexes_of call.loans.items) i.handles) (opened : Instance)
      (opens : reopen (config_of (record i { handles = ended })) ≡ Some (done (config_of opened))) (code : opened.code ≡ i.code) where
    -- as it would be while the result is stored
    abbrev closed : Instance
    closed = record i { handles = ended; closed = true }

    abbrev storing : Storing
    storing = record { instance = k; plan = no_steps; options = call.options; depth = depth; writes = false; then = stored.Result due; due = λ e. e }

    begun : Begins (answer_tuple (type_of (target_of call.target))) call.place (plain_for old.group.owners None) value (without_loans (indexes_of call.loans.items) (config_of i)) (config_of closed)
    begun =
        subst (λ m. Begins (answer_tuple (type_of (target_of call.target))) call.place (plain_for old.group.owners None) value (without_loans (indexes_of call.loans.items) (config_of i)) (record (config_of closed) { map = m })) (sym ends)
        (begins (answer_tuple (type_of (target_of call.target))) (ap (λ a. RecordType AsTuple (answer_parts a)) none) call.place (plain_for old.group.owners None) value (without_loans (indexes_of call.loans.items) (config_of i)))

    pub left_without : (flat : List CoreValue) → flat ≡ [] → (new : Moment S) (result : Result Flow Stop) → IsLeft h (with_instance old k opened) due (backs.Inside flat) result new → ResultLeads h old k call due depth value result new
    left_without flat empty new result left =
        let twice : with_instance old k opened ≡ with_instance (with_instance old k closed) k opened = ap (λ xs. record old { instances = xs }) (sym (set_twice old.instances k closed opened)) in
        let there : IsStored h (with_instance (with_instance old k closed) k opened) (stored.Result due) [] result new =
        subst (λ m. IsStored h m (stored.Result due) [] result new) twice
        (stored_result h (with_instance old k opened) new (stored.Result due) due [] result refl (subst (λ xs. IsLeft h (with_instance old k opened) due (backs.Inside xs) result new) empty left)) in
        let stores : Stores h (with_instance old k closed) storing None result new =
        step_done h storing (with_instance old k closed) None closed (same_place old.instances k i closed found) closed refl (unwrap_or call.options.memory 0) (named call.options.memory closed.code.store) no_steps (steps.Done []) (no_step closed.code (unwrap_or call.options.memory 0)) [] refl opened
        opens code new result there in
        result_lead h old k call due depth value i found closed refl no_steps begun false refl (λ e. e) new result stores

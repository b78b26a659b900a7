use Rattle.std.proofs.Common.{◌≡◌, ◌++◌, subst, sym, ◌∙◌, List, append-nil, drop}
use Rattle.std.specs.Prelude.{OnOk}
use Rattle.wit_types.specs.Plain.{plain, fields_of, types_of}
use Rattle.wit_types.specs.PlainValue.{payload_of}
use Rattle.wit_types.proofs.ValueLemmas.{plain_value-List, plain_values-Bytes}
use Rattle.abi_layout.specs.Handles.{Handle, handles}
use Rattle.value_handles.specs.Shown.{shown}
use Rattle.value_handles.proofs.Laws.{case_at, no_value_left, ended, no_handles, bytes_items, none_in_items}
use Rattle.value_handles.proofs.Only.{only-List, only-Record, only-Variant, without_handles}
use Rattle.value_handles.proofs.collecting.+collect_handles.Goals as goal

pub collect_case-returns : goal.collect_case-returns
collect_case-returns t c =
    subst (λ (hs : List Handle). OnOk c.collect_payload.result (shown c.collect_payload.new.found.items ≡ shown c.args.found.now.items ++ hs))
    (sym (case_at c.args.cases.now c.args.number c.index-cases-number.result (payload_of c.args.payload.now) c.if-number-cases.false))
    c.collect_payload.ensures

pub collect_fields_each-returns-then-i-values : goal.collect_fields_each-returns-then-i-values
collect_fields_each-returns-then-i-values t c = ended _ _ _ c.loop-i.invariant (no_value_left (fields_of (drop c.loop-i.i c.args.fields.now)) c.args.values.now c.loop-i.i c.if-i-values.true)

pub collect_parts_each-returns-then-i-values : goal.collect_parts_each-returns-then-i-values
collect_parts_each-returns-then-i-values t c = ended _ _ _ c.loop-i.invariant (no_value_left (types_of (drop c.loop-i.i c.args.types.now)) c.args.values.now c.loop-i.i c.if-i-values.true)

pub collect_list-returns-else-has_handles : goal.collect_list-returns-else-has_handles
collect_list-returns-else-has_handles t c =
    rw (c.in-List.is, plain_value-List, none_in_items (λ v. handles (plain c.args.item.now) v) (λ v. no_handles (plain c.args.item.now) v (sym c.has_handles.ensures ∙ c.if-has_handles.false))) (sym (append-nil _))

pub collect_list-returns-in_default : goal.collect_list-returns-in_default
collect_list-returns-in_default t c = only-List _ _ _ c.in_default.not-List

pub collect_record-returns-in_default : goal.collect_record-returns-in_default
collect_record-returns-in_default t c = only-Record _ _ _ c.in_default.not-Record

pub collect_tuple-returns-in_default : goal.collect_tuple-returns-in_default
collect_tuple-returns-in_default t c = only-Record _ _ _ c.in_default.not-Record

pub collect_variant-returns-in_default : goal.collect_variant-returns-in_default
collect_variant-returns-in_default t c = only-Variant _ _ _ c.in_default.not-Variant

pub collect_option-returns-in_default : goal.collect_option-returns-in_default
collect_option-returns-in_default t c = only-Variant _ _ _ c.in_default.not-Variant

pub collect_result-returns-in_default : goal.collect_result-returns-in_default
collect_result-returns-in_default t c = only-Variant _ _ _ c.in_default.not-Variant

pub collect_handles-returns-in_default : goal.collect_handles-returns-in_default
collect_handles-returns-in_default t c = without_handles _ _ _ c.in_default.not-Record c.in_default.not-Tuple c.in_default.not-Variant c.in_default.not-List c.in_default.not-Option c.in_default.not-Result c.in_default.not-Own c.in_default.not-Borrow

pub collect_items-returns-in-Bytes : goal.collect_items-returns-in-Bytes
collect_items-returns-in-Bytes t c = rw (c.in-Bytes.is, plain_values-Bytes, bytes_items (plain c.args.item.now) _) (sym (append-nil _))

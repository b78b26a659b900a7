use Rattle.std.proofs.Common.{◌≡◌, ◌∙◌, ◌+◌, [], drop, get_or, ap, sym, rules, arith}
use Rattle.std.specs.Prelude.{Some, None, string_bytes}
use Rattle.std.proofs.lemmas.List.{drop_all}
use Rattle.std.specs.Vec.Iter.{into_iter_items}
use Rattle.serde_json.specs.View.{view, members_view}
use Rattle.wit_types.specs.declared.types.Field.{out-Field}
use Rattle.wit_types.specs.declared.types.Case.{out-Case}
use Rattle.wit_types.specs.declared.types.WitType.TheFolds.{the_lemmas}
use Rattle.wit_types.specs.Plain.{plain, fields_of, types_of, cases_of, payload_of as type_of_payload, Bare, More, End}
use Rattle.wit_types.specs.PlainValue.{values_of, payload_of}
use Rattle.wit_types.proofs.PlainLemmas.{plain-List}
use Rattle.wit_types.proofs.ValueLemmas.{plain_values-Each, plain_value-Variant}
use Rattle.host_port.specs.Untyped.{reading, each_item, fields_reading, case_reading, case_named, choice_in, variant_of}
use Rattle.host_script.specs.Json.{untyped, untyped_members}
use Rattle.host_script.specs.Reads.{payload_by}
use Rattle.host_script.proofs.Joins.{then_rest, seen, each_more, part_more, parts_done, types_cut, fields_cut, all_read, nothing_left}
use Rattle.host_script.proofs.Fields.{field_missing, field_wrong, field_more, fields_done, member_left, values_fault, payload_fault, variant_is, variant_kept, null_is}
use Rattle.host_script.proofs.reading.+read_value.Goals as goal

pub read_each-loop-json-preserved : goal.read_each-loop-json-preserved
read_each-loop-json-preserved t c =
    c.loop-json.invariant
    ∙ each_more (λ u. reading (plain c.args.item.now) u) (into_iter_items c.loop-json.rest) c.in-Some.json (into_iter_items c.next.new.self) c.loop-json.values.items c.push.new.self.items c.in_ok-read_value.field-0
    c.in-Some.ensures.items c.in_ok-read_value.ensures c.in_ok-push.ensures.items

pub read_each-returns : goal.read_each-returns
read_each-returns t c =
    let none : into_iter_items c.loop-json.rest ≡ [] = nothing_left (into_iter_items c.loop-json.rest) (sym c.loop-json.rest.rest.ok.0 ∙ search (rules, c.in_default.ensures.cases, c.in_default.is, c.in_default.not-Some)) in
    c.loop-json.invariant
    ∙ (ap (λ xs. then_rest (values_of c.loop-json.values.items) (each_item (λ u. reading (plain c.args.item.now) u) (seen xs))) none ∙ all_read (values_of c.loop-json.values.items))

pub read_parts-loop-ty-preserved : goal.read_parts-loop-ty-preserved
read_parts-loop-ty-preserved t c =
    let ts = c.args.types.now in
    let i = c.loop-ty.ty-index in
    let x = c.ty-item.result in
    c.loop-ty.invariant
    ∙ part_more (types_of (drop i ts)) [] (plain x) (types_of (drop (i + 1) ts)) (into_iter_items c.loop-ty.rest) c.in-Some.json (into_iter_items c.next.new.self)
    c.loop-ty.values.items c.push.new.self.items c.in_ok-read_value.field-0 (types_cut ts i x c.loop-ty-test.true c.ty-item.is) c.in-Some.ensures.items c.in_ok-read_value.ensures c.in_ok-push.ensures.items

pub read_fields-loop-field-preserved : goal.read_fields-loop-field-preserved
read_fields-loop-field-preserved t c =
    let fs = c.args.fields.now in
    let i = c.loop-field.field-index in
    let f = c.field-item.result in
    c.loop-field.invariant
    ∙ field_more (fields_of (drop i fs)) (out-Field f).name (plain (out-Field f).ty) (fields_of (drop (i + 1) fs)) c.loop-field.others.entries c.remove.new.self.entries c.in-Some.json
    c.loop-field.values.items c.push.new.self.items c.in_ok-read_value.field-0 (fields_cut fs i f c.loop-field-test.true c.field-item.is)
    (search (rules, c.in-Some.ensures.value, c.as_str.ensures)) (search (rules, c.in-Some.ensures.entries, c.as_str.ensures)) c.in_ok-read_value.ensures c.in_ok-push.ensures.items

pub read_fields-returns-in_err-read_value : goal.read_fields-returns-in_err-read_value
read_fields-returns-in_err-read_value t c =
    let fs = c.args.fields.now in
    let i = c.loop-field.field-index in
    let f = c.field-item.result in
    values_fault (reading (plain (out-Field f).ty) (untyped (view c.in-Some.json))) (fields_reading (fields_of fs) (untyped_members (members_view c.args.members.entries))) c.in_err-read_value.field-0.0 c.from_residual.result
    c.in_err-read_value.ensures (search (rules, c.from_residual.ensures)) (λ wrong. c.loop-field.invariant
    ∙ field_wrong (fields_of (drop i fs)) (out-Field f).name (plain (out-Field f).ty) (fields_of (drop (i + 1) fs)) c.loop-field.others.entries c.in-Some.json c.loop-field.values.items
    (fields_cut fs i f c.loop-field-test.true c.field-item.is) (search (rules, c.in-Some.ensures.value, c.as_str.ensures)) wrong)

pub read_fields-returns-then-is_empty : goal.read_fields-returns-then-is_empty
read_fields-returns-then-is_empty t c =
    rw plain_values-Each (c.loop-field.invariant
    ∙ fields_done (fields_of (drop c.loop-field.field-index c.args.fields.now)) c.loop-field.others.entries c.loop-field.values.items
    (ap fields_of (drop_all c.loop-field.field-index c.args.fields.now (omega (arith, c.loop-field-test.false)))) (search (rules, c.is_empty.ensures, c.if-is_empty.true)))

pub read_fields-returns-else-is_empty : goal.read_fields-returns-else-is_empty
read_fields-returns-else-is_empty t c =
    c.loop-field.invariant
    ∙ member_left (fields_of (drop c.loop-field.field-index c.args.fields.now)) c.loop-field.others.entries c.loop-field.values.items
    (ap fields_of (drop_all c.loop-field.field-index c.args.fields.now (omega (arith, c.loop-field-test.false)))) (λ e. search (rules, c.is_empty.ensures, c.if-is_empty.false, e))

pub read_option-returns-then-is_null : goal.read_option-returns-then-is_null
read_option-returns-then-is_null t c =
    let is = null_is (view c.args.json) (search (rules, c.is_null.ensures, c.if-is_null.true)) in
    rw plain_value-Variant (ap (variant_of (λ n u. case_reading (Bare [] (More [] (plain c.args.some.now) End)) n u)) is)

pub read_parts-returns-in-None-next : goal.read_parts-returns-in-None-next
read_parts-returns-in-None-next t c =
    let ts = c.args.types.now in
    let none : into_iter_items c.loop-ty.rest ≡ [] = nothing_left (into_iter_items c.loop-ty.rest) (sym c.loop-ty.rest.rest.ok.0 ∙ c.in-None-next.ensures.cases.0) in
    rw plain_values-Each (c.loop-ty.invariant
    ∙ parts_done (types_of (drop c.loop-ty.ty-index ts)) (into_iter_items c.loop-ty.rest) c.loop-ty.values.items
    (ap types_of (drop_all c.loop-ty.ty-index ts (omega (arith, c.loop-ty-test.false)))) none)

pub read_value-returns-in-List : goal.read_value-returns-in-List
read_value-returns-in-List t c = rw (c.in-List.is, plain-List, ← c.deref-in-List.ensures) c.read_list.ensures

pub read_variant-read_payload-requires : goal.read_variant-read_payload-requires
read_variant-read_payload-requires t c = (search (rules, the_lemmas), tt)

pub read_variant-returns-in_err-payload : goal.read_variant-returns-in_err-payload
read_variant-returns-in_err-payload t c =
    let cases = c.args.cases.now in
    let n = c.in-Some.number in
    let d = c.index-cases-number.result in
    let label = string_bytes c.in_ok-label.label in
    let v = untyped (view c.in_ok-label.json) in
    let paid = payload_by (type_of_payload (out-Case (get_or cases n d)).ty) v in
    let named : Some n ≡ case_named label (cases_of cases) = search (rules, c.in-Some.ensures.value, c.as_str.ensures.value) in
    payload_fault paid (variant_of (λ m w. case_reading (cases_of cases) m w) (choice_in (λ l. case_named l (cases_of cases)) (untyped (view c.args.json)))) c.in_err-payload.field-0.0 c.from_residual-in_err-payload.result
    c.in_err-payload.ensures (search (rules, c.from_residual-in_err-payload.ensures))
    (λ wrong. variant_is cases (untyped (view c.args.json)) label v n d None c.in_ok-label.ensures named c.in-Some.ensures.within wrong)

pub read_variant-returns : goal.read_variant-returns
read_variant-returns t c =
    let cases = c.args.cases.now in
    let n = c.in-Some.number in
    let d = c.index-cases-number.result in
    let label = string_bytes c.in_ok-label.label in
    let v = untyped (view c.in_ok-label.json) in
    let named : Some n ≡ case_named label (cases_of cases) = search (rules, c.in-Some.ensures.value, c.as_str.ensures.value) in
    rw plain_value-Variant (variant_kept cases (untyped (view c.args.json)) label v n c.in_ok-number.number d (payload_of c.in_ok-payload.payload) c.in_ok-label.ensures named c.in-Some.ensures.within
    c.in_ok-payload.ensures c.in_ok-number.ensures)

pub read_fields-returns-in-None : goal.read_fields-returns-in-None
read_fields-returns-in-None t c =
    let fs = c.args.fields.now in
    let i = c.loop-field.field-index in
    let f = c.field-item.result in
    c.loop-field.invariant
    ∙ field_missing (fields_of (drop i fs)) (out-Field f).name (plain (out-Field f).ty) (fields_of (drop (i + 1) fs)) c.loop-field.others.entries c.loop-field.values.items
    (fields_cut fs i f c.loop-field-test.true c.field-item.is) (search (rules, c.in-None.ensures.value, c.as_str.ensures))

use Rattle.std.proofs.Common.{◌≡◌, ◌∙◌, ◌+◌, ◌<◌, ◌≤◌, [], drop, length, get_or, ap, sym, subst, rules, arith}
use Rattle.std.specs.Prelude.{IfOk}
use Rattle.std.proofs.lemmas.List.{drop_all, get_or_default}
use Rattle.serde_json.specs.Data.{Data, put}
use Rattle.serde_json.specs.View.{view, members_view}
use Rattle.wit_types.specs.declared.types.Field.{out-Field}
use Rattle.wit_types.specs.declared.types.Case.{out-Case}
use Rattle.wit_types.specs.Plain.{plain, fields_of, types_of, cases_of, More as Part}
use Rattle.wit_types.specs.PlainValue.{PlainValue, plain_value, plain_values, payload_of}
use Rattle.wit_types.proofs.ValueLemmas.{plain_values-Each}
use Rattle.script_lines.specs.Shown.{shown, case_shown, labelled, one_member}
use Rattle.script_lines.specs.Shows.{value_at, value_count, values_from}
use Rattle.script_lines.proofs.Views.{view-Null}
use Rattle.script_lines.proofs.Places.{types_at, fields_at, count_each, at_each, each_next, each_end, part_next, types_end, parts_end, field_next, fields_end, case_written, label_past}
use Rattle.script_lines.proofs.showing.+show_value.Goals as goal

pub show_case-returns-then-number-cases : goal.show_case-returns-then-number-cases
show_case-returns-then-number-cases t c =
    view-Null ∙ ap (λ o. labelled (λ label. one_member label (case_shown (cases_of c.args.cases.now) c.args.number (payload_of c.args.payload.now))) o) (sym (label_past c.args.cases.now c.args.number c.if-number-cases.true))

pub show_case-returns : goal.show_case-returns
show_case-returns t c =
    let cases = c.args.cases.now in
    let n = c.args.number in
    let d = c.index-cases-number.result in
    let written = case_written cases n d (payload_of c.args.payload.now) c.as_str.result.now (view c.in_ok-json.json) c.if-number-cases.false (c.as_str.ensures ∙ ap (λ x. (out-Case x).name) (get_or_default cases n c.index-cases-number-2.result d c.if-number-cases.false)) c.in_ok-json.ensures in
    subst (λ (x : Data). IfOk c.object_of.result (λ json. view json ≡ x)) written c.object_of.ensures

pub show_each-loop-place-preserved : goal.show_each-loop-place-preserved
show_each-loop-place-preserved t c =
    let vs = plain_values c.args.values.now in
    let within : c.loop-place.place < value_count vs = search (rules, c.count-place-end.ensures, c.loop-place-test.true) in
    c.loop-place.invariant
    ∙ each_next (λ v. shown (plain c.args.item.now) v) vs c.loop-place.place c.loop-place.items.items c.push.new.self.items c.in_ok-show_nth.field-0 within c.in_ok-show_nth.ensures c.in_ok-push.ensures.items

pub show_each-returns : goal.show_each-returns
show_each-returns t c =
    let vs = plain_values c.args.values.now in
    let past : value_count vs ≤ c.loop-place.place = search (rules, c.count-place-end.ensures, c.loop-place-test.false) in
    sym (c.loop-place.invariant ∙ each_end (λ v. shown (plain c.args.item.now) v) vs c.loop-place.place c.loop-place.items.items past)

pub show_parts-loop-place-preserved : goal.show_parts-loop-place-preserved
show_parts-loop-place-preserved t c =
    let ts = c.args.types.now in
    let vs = plain_values c.args.values.now in
    let i = c.loop-place.place in
    let x = c.index-types-place.result in
    let within : i < value_count vs = search (rules, c.count-count.ensures, c.if-place-count.false) in
    c.loop-place.invariant
    ∙ part_next (types_of (drop i ts)) [] (plain x) (types_of (drop (i + 1) ts)) vs i c.loop-place.items.items c.push.new.self.items c.in_ok-show_nth.field-0
    (types_at ts i x c.loop-place-test.true ∙ ap (λ y. Part [] (plain y) (types_of (drop (i + 1) ts))) (sym c.index-types-place.is)) within c.in_ok-show_nth.ensures c.in_ok-push.ensures.items

pub show_parts-returns-then-place-count : goal.show_parts-returns-then-place-count
show_parts-returns-then-place-count t c =
    let vs = plain_values c.args.values.now in
    let past : value_count vs ≤ c.loop-place.place = search (rules, c.count-count.ensures, c.if-place-count.true) in
    sym (c.loop-place.invariant ∙ types_end (drop c.loop-place.place c.args.types.now) vs c.loop-place.place c.loop-place.items.items past)

pub show_parts-returns : goal.show_parts-returns
show_parts-returns t c =
    let ts = c.args.types.now in
    let i = c.loop-place.place in
    sym (c.loop-place.invariant ∙ parts_end (types_of (drop i ts)) (values_from i (plain_values c.args.values.now)) c.loop-place.items.items (ap types_of (drop_all i ts (omega (arith, c.loop-place-test.false)))))

pub show_fields-loop-place-preserved : goal.show_fields-loop-place-preserved
show_fields-loop-place-preserved t c =
    let fs = c.args.fields.now in
    let vs = plain_values c.args.values.now in
    let i = c.loop-place.place in
    let f = c.index-fields-place.result in
    let within : i < value_count vs = search (rules, c.count-count.ensures, c.if-place-count.false) in
    c.loop-place.invariant
    ∙ field_next (fields_of (drop i fs)) (out-Field (get_or fs i f)).name (plain (out-Field (get_or fs i f)).ty) (fields_of (drop (i + 1) fs)) vs i (members_view c.loop-place.members.entries) (members_view c.put.new.map.entries) c.in_ok-json.json
    (fields_at fs i f c.loop-place-test.true) within c.in_ok-json.ensures
    (c.in_ok-put.ensures.ok ∙ ap (λ k. put k (view c.in_ok-json.json) (members_view c.loop-place.members.entries)) (c.as_str.ensures ∙ ap (λ x. (out-Field x).name) (get_or_default fs i c.index-fields-place-in-loop-place.result f c.loop-place-test.true)))

pub show_fields-returns-then-place-count : goal.show_fields-returns-then-place-count
show_fields-returns-then-place-count t c =
    let vs = plain_values c.args.values.now in
    let past : value_count vs ≤ c.loop-place.place = search (rules, c.count-count.ensures, c.if-place-count.true) in
    sym (c.loop-place.invariant ∙ fields_end (drop c.loop-place.place c.args.fields.now) vs c.loop-place.place (members_view c.loop-place.members.entries) past)

pub show_nth-returns-in-Each : goal.show_nth-returns-in-Each
show_nth-returns-in-Each t c =
    let items = c.in-Each.items in
    let count : value_count (plain_values c.args.values.now) ≡ length items.items = ap (λ v. value_count (plain_values v)) c.in-Each.is ∙ (ap value_count (plain_values-Each items) ∙ count_each items.items) in
    let within : c.args.place < length items.items = subst (λ n. c.args.place < n) count c.requires in
    let x = c.index.result.now in
    let is : x ≡ get_or items.items c.args.place x = search (rules, c.index.ensures) in
    let there = ap (value_at c.args.place) (ap plain_values c.in-Each.is ∙ plain_values-Each items) ∙ (at_each items.items c.args.place x within ∙ ap plain_value (sym is)) in
    subst (λ (v : PlainValue). IfOk c.show_value.result (λ json. view json ≡ shown (plain c.args.ty.now) v)) (sym there) c.show_value.ensures

use Rattle.std.proofs.Common.{◌≡◌, ◌∙◌, ◌+◌, ◌<◌, ◌≤◌, ◌∷◌, [], length, get_or, ap, sym, subst, rules, arith}
use Rattle.std.specs.Prelude.{OnOk}
use Rattle.json.specs.Token.{begin_array}
use Rattle.json.specs.Tree.{items_tokens}
use Rattle.serde_json.specs.Written.{items_outline}
use Rattle.wit_types.specs.Plain.{Plain, ListType, plain}
use Rattle.wit_types.specs.PlainValue.{PlainValue, PlainValues, plain_value, plain_values}
use Rattle.wit_types.proofs.PlainLemmas.{plain-List}
use Rattle.wit_types.proofs.ValueLemmas.{plain_value-List, plain_values-Each}
use Rattle.script_lines.specs.Added.{AddsData, AddsItems}
use Rattle.script_lines.specs.Shown.{shown, each_shown, list_shown}
use Rattle.script_lines.specs.Shows.{value_at, value_count, values_from}
use Rattle.script_lines.proofs.Added.{adds_item, adds_more}
use Rattle.script_lines.proofs.Places.{count_each, at_each, values_next, values_past}
use Rattle.script_lines.proofs.writing.+write_value.Goals as goal

pub write_nth-returns-in-Each : goal.write_nth-returns-in-Each
write_nth-returns-in-Each t c =
    let items = c.in-Each.items in
    let count : value_count (plain_values c.args.values.now) ≡ length items.items = ap (λ v. value_count (plain_values v)) c.in-Each.is ∙ (ap value_count (plain_values-Each items) ∙ count_each items.items) in
    let within : c.args.place < length items.items = subst (λ n. c.args.place < n) count c.requires in
    let x = c.index.result.now in
    let is : x ≡ get_or items.items c.args.place x = search (rules, c.index.ensures) in
    let there = ap (value_at c.args.place) (ap plain_values c.in-Each.is ∙ plain_values-Each items) ∙ (at_each items.items c.args.place x within ∙ ap plain_value (sym is)) in
    subst (λ (v : PlainValue). OnOk c.write_value.result (AddsData c.args.out.now c.write_value.new.out (shown (plain c.args.ty.now) v))) (sym there) c.write_value.ensures

pub write_each-loop-place-preserved : goal.write_each-loop-place-preserved
write_each-loop-place-preserved t c =
    let vs = plain_values c.args.values.now in
    let l = c.loop-place in
    let i = l.place in
    let ty = plain c.args.item.now in
    let within : i < value_count vs = search (rules, c.count-place-end.ensures, c.loop-place-test.true) in
    λ end rest. l.invariant end (subst (λ (ws : PlainValues). AddsItems l.out end (each_shown (λ v. shown ty v) ws)) (sym (values_next vs i within))
    (adds_item l.out c.write_nth.new.out end (shown ty (value_at i vs)) (each_shown (λ v. shown ty v) (values_from (i + 1) vs)) c.in_ok-write_nth.ensures rest))

pub write_each-returns : goal.write_each-returns
write_each-returns t c =
    let vs = plain_values c.args.values.now in
    let l = c.loop-place in
    let end = c.end_array.new.self in
    let past : value_count vs ≤ l.place = search (rules, c.count-place-end.ensures, c.loop-place-test.false) in
    l.invariant end (subst (λ (ws : PlainValues). AddsItems l.out end (each_shown (λ v. shown (plain c.args.item.now) v) ws)) (sym (values_past vs l.place past)) (c.in_ok-end_array.ensures.ok, c.in_ok-end_array.ensures.room.0))

pub write_list-returns-in_ok-write_each-in-List : goal.write_list-returns-in_ok-write_each-in-List
write_list-returns-in_ok-write_each-in-List t c =
    let values = c.in-List.values in
    let ty = plain c.args.item.now in
    let there = ap plain_value c.in-List.is ∙ plain_value-List values in
    subst (λ (v : PlainValue). AddsData c.args.out.now c.write_each.new.out (list_shown (λ x. shown ty x) v)) (sym there)
    (adds_more c.args.out.now c.begin_array.new.self c.write_each.new.out (begin_array ∷ []) (items_tokens (items_outline (each_shown (λ x. shown ty x) (plain_values values)))) (c.in_ok-begin_array-in-List.ensures.ok, c.in_ok-begin_array-in-List.ensures.room.0) c.in_ok-write_each-in-List.ensures)

pub write_value-returns-in-List : goal.write_value-returns-in-List
write_value-returns-in-List t c =
    let same : c.in-List.item.value ≡ c.deref.result.now = search (rules, c.deref.ensures) in
    let there = ap plain c.in-List.is ∙ (plain-List c.in-List.item ∙ ap (λ item. ListType (plain item)) same) in
    subst (λ (ty : Plain). OnOk c.write_list.result (AddsData c.args.out.now c.write_list.new.out (shown ty (plain_value c.args.value.now)))) (sym there) c.write_list.ensures

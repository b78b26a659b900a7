use Rattle.std.proofs.Common.{◌+◌, ◌<◌, ◌≤◌, drop, get_or, sym, subst, rules, arith}
use Rattle.std.proofs.lemmas.List.{drop_all}
use Rattle.wit_types.specs.declared.types.Field.{out-Field}
use Rattle.wit_types.specs.Plain.{plain, fields_of}
use Rattle.wit_types.specs.PlainValue.{plain_values}
use Rattle.script_lines.specs.Added.{AddsItems}
use Rattle.script_lines.specs.Shown.{shown, parts_shown}
use Rattle.script_lines.specs.Shows.{value_at, value_count, values_from}
use Rattle.script_lines.proofs.Added.{adds_item}
use Rattle.script_lines.proofs.Places.{arg_cut, args_done}
use Rattle.script_lines.proofs.writing.write_each_arg.Goals as goal

pub loop-place-preserved : goal.loop-place-preserved
loop-place-preserved c =
    let fs = c.args.params.now in
    let vs = plain_values c.args.args.now in
    let l = c.loop-place in
    let i = l.place in
    let f = c.index-params-place.result in
    let within : i < value_count vs = search (rules, c.count-count.ensures, c.if-place-count.false) in
    λ end rest. l.invariant end (subst (AddsItems l.out end) (sym (arg_cut fs f vs i c.loop-place-test.true within))
    (adds_item l.out c.write_nth.new.out end (shown (plain (out-Field (get_or fs i f)).ty) (value_at i vs)) (parts_shown (fields_of (drop (i + 1) fs)) (values_from (i + 1) vs)) c.in_ok-write_nth.ensures rest))

pub returns-then-place-count : goal.returns-then-place-count
returns-then-place-count c =
    let vs = plain_values c.args.args.now in
    let l = c.loop-place in
    let end = c.end_array.new.self in
    let past : value_count vs ≤ l.place = search (rules, c.count-count.ensures, c.if-place-count.true) in
    l.invariant end (subst (AddsItems l.out end) (sym (args_done c.args.params.now vs l.place past)) (c.in_ok-end_array.ensures.ok, c.in_ok-end_array.ensures.room.0))

pub returns : goal.returns
returns c =
    let fs = c.args.params.now in
    let l = c.loop-place in
    let end = c.end_array-2.new.self in
    let all = drop_all l.place fs (omega (arith, c.loop-place-test.false)) in
    l.invariant end (subst (λ ys. AddsItems l.out end (parts_shown (fields_of ys) (values_from l.place (plain_values c.args.args.now)))) (sym all) (c.in_ok-end_array-2.ensures.ok, c.in_ok-end_array-2.ensures.room.0))

use Rattle.std.proofs.Common.{◌≡◌, ◌∙◌, ◌+◌, [], drop, ap, sym, arith}
use Rattle.std.proofs.lemmas.List.{drop_all}
use Rattle.std.specs.Vec.Iter.{into_iter_items}
use Rattle.wit_types.specs.declared.types.Field.{out-Field}
use Rattle.wit_types.specs.Plain.{plain, fields_of}
use Rattle.wit_types.proofs.ValueLemmas.{plain_values-Each}
use Rattle.host_script.proofs.Joins.{part_more, parts_done, fields_cut, nothing_left}
use Rattle.host_script.proofs.reading.read_each_arg.Goals as goal

pub loop-param-preserved : goal.loop-param-preserved
loop-param-preserved c =
    let fs = c.args.params.now in
    let i = c.loop-param.param-index in
    let f = c.param-item.result in
    c.loop-param.invariant
    ∙ part_more (fields_of (drop i fs)) (out-Field f).name (plain (out-Field f).ty) (fields_of (drop (i + 1) fs)) (into_iter_items c.loop-param.rest) c.in-Some.json (into_iter_items c.next.new.self)
    c.loop-param.values.items c.push.new.self.items c.in_ok-read_value.field-0 (fields_cut fs i f c.loop-param-test.true c.param-item.is) c.in-Some.ensures.items c.in_ok-read_value.ensures c.in_ok-push.ensures.items

pub returns-in-None-next : goal.returns-in-None-next
returns-in-None-next c =
    let fs = c.args.params.now in
    let none : into_iter_items c.loop-param.rest ≡ [] = nothing_left (into_iter_items c.loop-param.rest) (sym c.loop-param.rest.rest.ok.0 ∙ c.in-None-next.ensures.cases.0) in
    rw plain_values-Each (c.loop-param.invariant
    ∙ parts_done (fields_of (drop c.loop-param.param-index fs)) (into_iter_items c.loop-param.rest) c.loop-param.values.items
    (ap fields_of (drop_all c.loop-param.param-index fs (omega (arith, c.loop-param-test.false)))) none)

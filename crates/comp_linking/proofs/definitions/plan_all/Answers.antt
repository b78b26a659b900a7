use Rattle.std.proofs.Common.{ap, subst, map, List}
use Rattle.std.proofs.lemmas.List.{nil_from_length}
use Rattle.comp_types.specs.Definitions.{Definition}
use Rattle.comp_linking.proofs.RestLemmas.{DefinitionsLeft, all_left, one_planned, none_left}
use Rattle.comp_linking.proofs.definitions.plan_all.Goals as goal

pub loop-item-init : goal.loop-item-init
loop-item-init g c = λ ms todo outer a valid h. all_left ms todo outer a (map g.T.Planned.definition c.args.items.now) c.args.planner.now valid h

pub loop-item-preserved : goal.loop-item-preserved
loop-item-preserved g c = λ ms todo outer a valid h.
    let all = map g.T.Planned.definition c.args.items.now in
    let l = subst (λ (left : List Definition). DefinitionsLeft ms todo outer a all left c.loop-item.planner) (ap (map g.T.Planned.definition) c.in-Some.ensures.cases.0) (c.loop-item.invariant ms todo outer a valid h) in
    one_planned ms todo outer a all (g.T.Planned.definition c.in-Some.item.now) (map g.T.Planned.definition c.in-Some.more.now) c.loop-item.planner c.plan.new.planner l c.in_ok-plan.ensures

pub returns : goal.returns
returns g c = λ ms todo outer a valid h.
    let all = map g.T.Planned.definition c.args.items.now in
    none_left ms todo outer a all c.loop-item.planner
    (subst (λ (left : List Definition). DefinitionsLeft ms todo outer a all left c.loop-item.planner) (ap (map g.T.Planned.definition) (nil_from_length c.loop-item.rest.now c.in_default.ensures.cases)) (c.loop-item.invariant ms todo outer a valid h))

use Rattle.type_relations.proofs.ParamSteps.{field_more}
use Rattle.type_relations.proofs.calls.add_params.Goals as goal

pub loop-param-preserved : goal.loop-param-preserved
loop-param-preserved c = λ s.
    let so = c.loop-param.invariant s in
    field_more c.loop-param.types c.add_whole.new.self c.args.params.now c.loop-param.param-index c.param-item.result c.loop-param-test.true c.param-item.is c.add_whole.ensures.grew c.in_ok-add_whole.ensures.has so.0 so.1

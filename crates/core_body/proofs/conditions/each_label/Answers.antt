use Rattle.std.proofs.Common.{◌∙◌}
use Rattle.core_body.specs.Views.{context_of}
use Rattle.core_body.proofs.ConditionLemmas.{labels-stop}
use Rattle.core_body.proofs.conditions.each_label.Goals as goal

pub returns-then-n-labels : goal.returns-then-n-labels
returns-then-n-labels c =
    labels-stop (context_of c.args.scope.now) c.args.labels c.args.ns.now c.loop-n.n-index c.loop-n-test.true c.if-n-labels.true ∙ c.loop-n.invariant

use Rattle.std.proofs.Common.{ap, ◌∙◌, sym}
use Rattle.core_body.specs.Machine.{pops}
use Rattle.core_body.specs.Stack.{level_of}
use Rattle.core_body.specs.Views.{context_of}
use Rattle.virt_base.specs.declared.core_type.CoreType.TheVariants.{I32}
use Rattle.core_body.proofs.StackLemmas.{operands-take}
use Rattle.core_body.proofs.stack.Stack.take_each.Goals as goal

pub returns-then-not-take-clause-no : goal.returns-then-not-take-clause-no
returns-then-not-take-clause-no c =
    sym c.loop-left.invariant.left
    ∙ ap (pops c.args.dead (level_of (context_of c.args.scope.now) c.loop-left.self)) (operands-take c.args.types.now c.loop-left.left I32 c.loop-left-test.true c.loop-left.invariant.within)
    ∙ c.if-not-take.ensures.no _

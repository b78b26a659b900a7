use Rattle.std.proofs.Common.{◌∙◌}
use Rattle.core_body.specs.Views.{context_at}
use Rattle.core_validate.proofs.FunctionLemmas.{functions-stop}
use Rattle.core_validate.proofs.contents.each_function.Goals as goal

pub returns-then-n-spaces : goal.returns-then-n-spaces
returns-then-n-spaces c =
    functions-stop (context_at c.args.spaces.now) c.args.ns.now c.loop-n.n-index c.loop-n-test.true c.if-n-spaces.true ∙ c.loop-n.invariant

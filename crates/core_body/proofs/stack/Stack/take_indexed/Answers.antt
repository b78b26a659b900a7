use Rattle.core_body.specs.Sources.{spelled}
use Rattle.core_body.specs.Views.{context_of}
use Rattle.core_body.proofs.stack.Stack.take_indexed.Goals as goal

pub returns-then-not-take-clause-no : goal.returns-then-not-take-clause-no
returns-then-not-take-clause-no c = c.if-not-take.ensures.no (spelled (context_of c.args.scope.now) c.args.due)

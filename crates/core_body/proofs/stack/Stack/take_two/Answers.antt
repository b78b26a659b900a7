use Rattle.std.proofs.Common.{◌∙◌, [], ◌∷◌}
use Rattle.core_body.specs.declared.operand.Operand.TheVariants.{Known}
use Rattle.core_body.proofs.stack.Stack.take_two.Goals as goal

pub returns-then-not-take-clause-no : goal.returns-then-not-take-clause-no
returns-then-not-take-clause-no c = c.if-not-take.ensures.no (Known c.args.a ∷ [])

pub returns-then-not-take-2-clause-no : goal.returns-then-not-take-2-clause-no
returns-then-not-take-2-clause-no c = c.if-not-take.ensures.yes (Known c.args.a ∷ []) ∙ c.if-not-take-2.ensures.no []

pub returns-clause-yes : goal.returns-clause-yes
returns-clause-yes c = c.if-not-take.ensures.yes (Known c.args.a ∷ []) ∙ c.if-not-take-2.ensures.yes []

use Rattle.core_body.proofs.PieceLemmas.{pops-empty, pops-lacking}
use Rattle.core_body.proofs.stack.Stack.take.Goals as goal

pub returns-in-None-clause-yes : goal.returns-in-None-clause-yes
returns-in-None-clause-yes c = pops-empty c.args.dead _ _ c.args.due c.in-None.ensures.level.0 c.in-None.ensures.level.1

pub returns-in-None-clause-no : goal.returns-in-None-clause-no
returns-in-None-clause-no c = pops-lacking c.args.dead _ c.args.due c.in-None.ensures.level.0

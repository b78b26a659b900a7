use Rattle.std.proofs.Common.{sym}
use Rattle.core_body.proofs.PlaceLemmas.{left-some, left-none}
use Rattle.core_body.proofs.stack.Stack.finish.Goals as goal

pub returns-in-Some-clause-done : goal.returns-in-Some-clause-done
returns-in-Some-clause-done c = sym (left-some _ _ _ _ c.if-not-take_all.ensures.yes c.in-Some.ensures.level)

pub returns-in-None-clause-done : goal.returns-in-None-clause-done
returns-in-None-clause-done c = sym (left-none _ _ c.if-not-take_all.ensures.yes c.in-None.ensures.level.0)

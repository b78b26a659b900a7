use Rattle.std.proofs.Common.{sym, ap}
use Rattle.core_body.specs.Machine.{top}
use Rattle.core_body.proofs.stack.Stack.look.Goals as goal

pub returns-in-Some : goal.returns-in-Some
returns-in-Some c = sym (ap top c.in-Some.ensures.found)

pub returns-in-None : goal.returns-in-None
returns-in-None c = sym (ap top c.in-None.ensures.found)

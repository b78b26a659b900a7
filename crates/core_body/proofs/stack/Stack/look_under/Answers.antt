use Rattle.std.proofs.Common.{◌∙◌, sym, ap}
use Rattle.core_body.specs.Machine.{second}
use Rattle.core_body.proofs.stack.Stack.look_under.Goals as goal

pub returns-in-Some : goal.returns-in-Some
returns-in-Some c = c.look.ensures ∙ sym (ap second c.in-Some.ensures.found)

pub returns-in-None : goal.returns-in-None
returns-in-None c = sym (ap second c.in-None.ensures.found)

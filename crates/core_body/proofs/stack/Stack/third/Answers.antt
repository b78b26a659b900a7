use Rattle.std.proofs.Common.{◌∙◌, sym, ap}
use Rattle.core_body.specs.Machine.{third}
use Rattle.core_body.proofs.stack.Stack.third.Goals as goal

pub returns-in-Some : goal.returns-in-Some
returns-in-Some c = c.look_under.ensures ∙ sym (ap third c.in-Some.ensures.found) ∙ ap third c.place.ensures.rest

pub returns-in-None : goal.returns-in-None
returns-in-None c = sym (ap third c.in-None.ensures.found) ∙ ap third c.place.ensures.rest

use Rattle.std.proofs.Common.{◌∙◌, ap}
use Rattle.core_body.specs.Machine.{top}
use Rattle.core_body.proofs.stack.Stack.top.Goals as goal

pub returns : goal.returns
returns c = c.look.ensures ∙ ap top c.place.ensures.rest

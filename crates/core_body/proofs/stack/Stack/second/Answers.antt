use Rattle.std.proofs.Common.{◌∙◌, ap}
use Rattle.core_body.specs.Machine.{second}
use Rattle.core_body.proofs.stack.Stack.second.Goals as goal

pub returns : goal.returns
returns c = c.look_under.ensures ∙ ap second c.place.ensures.rest

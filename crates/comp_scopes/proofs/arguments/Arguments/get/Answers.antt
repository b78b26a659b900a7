use Rattle.std.proofs.Common.{◌∙◌, ap}
use Rattle.comp_scopes.specs.Arguments.{given}
use Rattle.comp_scopes.proofs.arguments.Arguments.get.Goals as goal

pub returns : goal.returns
unfolding given
returns c = c.copied.ensures ∙ (c.get.ensures.value ∙ ap (given c.args.self.now) c.as_str.ensures)

use Rattle.std.proofs.Common.{rules}
use Rattle.comp_scopes.specs.Arguments.{given}
use Rattle.comp_scopes.proofs.arguments.Arguments.none.Goals as goal

pub returns : goal.returns
unfolding given
returns c = search rules

use Rattle.std.proofs.Common.{rules}
use Rattle.comp_scopes.specs.Found.{found}
use Rattle.comp_scopes.proofs.by_name.CoreMap.new.Goals as goal

pub returns : goal.returns
unfolding found
returns c = search rules

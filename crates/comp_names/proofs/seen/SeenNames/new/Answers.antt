use Rattle.std.proofs.Common.{rules}
use Rattle.comp_names.specs.Seen.{holds}
use Rattle.comp_names.proofs.seen.SeenNames.new.Goals as goal

pub returns : goal.returns
unfolding holds
returns c = search rules

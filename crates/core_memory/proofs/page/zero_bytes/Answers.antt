use Rattle.std.proofs.Common.{rules}
use Rattle.core_memory.specs.Page.{zeros}
use Rattle.core_memory.proofs.page.zero_bytes.Goals as goal

pub returns : goal.returns
unfolding zeros
returns c = search rules

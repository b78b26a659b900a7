use Rattle.std.proofs.Common.{rules}
use Rattle.wasi_table.specs.Tables.{described}
use Rattle.wasi_table.proofs.tables.describe.Goals as goal

pub returns : goal.returns
unfolding described
returns c = search rules

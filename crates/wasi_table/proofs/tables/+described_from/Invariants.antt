use Rattle.wasi_table.specs.Texts.{left}
use Rattle.wasi_table.proofs.tables.+described_from.Given as goal

abbrev pub decreases-described_from : goal.decreases-described_from
decreases-described_from l = left l.table

use Rattle.wasi_table.specs.Texts.{left}
use Rattle.wasi_table.proofs.types.+push_cases.Given as goal

abbrev pub decreases-push_cases : goal.decreases-push_cases
decreases-push_cases l = left l.lines

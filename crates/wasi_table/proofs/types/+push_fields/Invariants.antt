use Rattle.wasi_table.specs.Texts.{left}
use Rattle.wasi_table.proofs.types.+push_fields.Given as goal

abbrev pub decreases-push_fields : goal.decreases-push_fields
decreases-push_fields l = left l.lines

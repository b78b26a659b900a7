use Rattle.wasi_table.specs.Texts.{left}
use Rattle.wasi_table.proofs.types.+push_labels.Given as goal

abbrev pub decreases-push_labels : goal.decreases-push_labels
decreases-push_labels l = left l.words

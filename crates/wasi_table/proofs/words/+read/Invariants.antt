use Rattle.wasi_table.specs.Texts.{left}
use Rattle.wasi_table.proofs.words.+read.Given as goal

abbrev pub decreases-read : goal.decreases-read
decreases-read l = left l.words

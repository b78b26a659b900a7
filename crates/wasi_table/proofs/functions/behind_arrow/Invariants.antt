use Rattle.std.proofs.Common.{◌≡◌}
use Rattle.wasi_table.specs.Texts.{left, words_in}
use Rattle.wasi_table.specs.Functions.{behind_arrow}
use Rattle.wasi_table.proofs.functions.behind_arrow.Given as goal

abbrev pub invariant-loop-word : goal.invariant-loop-word
invariant-loop-word l = behind_arrow (words_in l.left) ≡ behind_arrow (words_in l.words)

abbrev pub decreases-loop-word : goal.decreases-loop-word
decreases-loop-word l = left l.left

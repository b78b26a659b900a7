use Rattle.std.proofs.Common.{◌≡◌, ◌++◌}
use Rattle.wasi_table.specs.Texts.{left, words_in}
use Rattle.wasi_table.specs.Words.{names_in}
use Rattle.wasi_table.proofs.functions.push_names.Given as goal

abbrev pub invariant-loop-word : goal.invariant-loop-word
invariant-loop-word l = l.names ++ names_in (words_in l.left) ≡ l.fn.names ++ names_in (words_in l.words)

abbrev pub decreases-loop-word : goal.decreases-loop-word
decreases-loop-word l = left l.left

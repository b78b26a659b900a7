use Rattle.std.proofs.Common.{◌≡◌, ◌++◌}
use Rattle.wasi_table.specs.Texts.{left, lines_in}
use Rattle.wasi_table.specs.Types.{names_behind}
use Rattle.wasi_table.proofs.tables.push_names_behind.Given as goal

abbrev pub invariant-loop-line : goal.invariant-loop-line
invariant-loop-line l = l.names ++ names_behind (lines_in l.left) ≡ l.fn.names ++ names_behind (lines_in l.lines)

abbrev pub decreases-loop-line : goal.decreases-loop-line
decreases-loop-line l = left l.left

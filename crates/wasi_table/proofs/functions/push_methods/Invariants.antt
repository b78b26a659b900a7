use Rattle.std.proofs.Common.{◌≡◌, ◌++◌, map}
use Rattle.wasi_table.specs.Plain.{plain_known, plain_named_func}
use Rattle.wasi_table.specs.Texts.{left, lines_in}
use Rattle.wasi_table.specs.Functions.{methods_in}
use Rattle.wasi_table.proofs.functions.push_methods.Given as goal

abbrev pub invariant-loop-line : goal.invariant-loop-line
invariant-loop-line l = map plain_named_func l.functions ++ methods_in (map plain_known l.known) l.resource (lines_in l.left) ≡ map plain_named_func l.fn.functions ++ methods_in (map plain_known l.known) l.resource (lines_in l.lines)

abbrev pub decreases-loop-line : goal.decreases-loop-line
decreases-loop-line l = left l.left

use Rattle.std.proofs.Common.{◌≡◌, ◌++◌, map}
use Rattle.wasi_table.specs.Plain.{plain_known, plain_named_func}
use Rattle.wasi_table.specs.Texts.{left, items_in}
use Rattle.wasi_table.specs.Functions.{functions_in}
use Rattle.wasi_table.proofs.functions.push_functions.Given as goal

abbrev pub invariant-loop-item : goal.invariant-loop-item
invariant-loop-item l = map plain_named_func l.functions ++ functions_in (map plain_known l.known) (items_in l.left) ≡ map plain_named_func l.fn.functions ++ functions_in (map plain_known l.known) (items_in l.items)

abbrev pub decreases-loop-item : goal.decreases-loop-item
decreases-loop-item l = left l.left

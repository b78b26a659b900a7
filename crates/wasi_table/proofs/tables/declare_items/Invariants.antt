use Rattle.std.proofs.Common.{◌≡◌, map}
use Rattle.wasi_table.specs.Plain.{plain_known}
use Rattle.wasi_table.specs.Texts.{left, items_in}
use Rattle.wasi_table.specs.Types.{declared}
use Rattle.wasi_table.proofs.tables.declare_items.Given as goal

abbrev pub invariant-loop-item : goal.invariant-loop-item
invariant-loop-item l = declared l.number (map plain_known l.known.items) (items_in l.left) ≡ declared l.number (map plain_known l.fn.known.items) (items_in l.items)

abbrev pub decreases-loop-item : goal.decreases-loop-item
decreases-loop-item l = left l.left

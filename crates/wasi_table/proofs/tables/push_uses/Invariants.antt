use Rattle.std.proofs.Common.{◌≡◌, ◌++◌, map}
use Rattle.wasi_table.specs.Plain.{plain_known}
use Rattle.wasi_table.specs.Texts.{left, items_in}
use Rattle.wasi_table.specs.Tables.{uses_in}
use Rattle.wasi_table.proofs.tables.push_uses.Given as goal

abbrev pub invariant-loop-item : goal.invariant-loop-item
invariant-loop-item l = l.uses ++ uses_in (map plain_known l.known) (items_in l.left) ≡ l.fn.uses ++ uses_in (map plain_known l.known) (items_in l.items)

abbrev pub decreases-loop-item : goal.decreases-loop-item
decreases-loop-item l = left l.left

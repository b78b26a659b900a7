use Rattle.std.proofs.Common.{◌≡◌, ◌<◌, ◌+◌, ◌^◌, map}
use Rattle.wasi_table.specs.Plain.{plain_known}
use Rattle.wasi_table.specs.Texts.{left, interfaces_in}
use Rattle.wasi_table.specs.Tables.{declared_all}
use Rattle.wasi_table.proofs.tables.declare_rest.Given as goal

abbrev pub invariant-loop-items : goal.invariant-loop-items
invariant-loop-items l = record {
  room : l.number + left l.left < 2 ^ 32;
  is : declared_all l.number (map plain_known l.known.items) (interfaces_in l.left) ≡ declared_all l.fn.number (map plain_known l.fn.known.items) (interfaces_in l.table);
}

abbrev pub decreases-loop-items : goal.decreases-loop-items
decreases-loop-items l = left l.left

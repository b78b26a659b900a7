use Rattle.std.proofs.Common.{◌≡◌, ◌<◌, ◌+◌, ◌^◌}
use Rattle.wasi_table.specs.Texts.{left, interfaces_in}
use Rattle.wasi_table.specs.Tables.{numbered}
use Rattle.wasi_table.proofs.tables.number_in.Given as goal

abbrev pub invariant-loop-items : goal.invariant-loop-items
invariant-loop-items l = record {
  room : l.number + left l.left < 2 ^ 32;
  is : numbered l.number (interfaces_in l.left) l.name ≡ numbered l.fn.number (interfaces_in l.table) l.name;
}

abbrev pub decreases-loop-items : goal.decreases-loop-items
decreases-loop-items l = left l.left

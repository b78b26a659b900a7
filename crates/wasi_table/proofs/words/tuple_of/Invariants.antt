use Rattle.std.proofs.Common.{◌≡◌, take, drop, ◌-◌}
use Rattle.wasi_table.specs.Before.{types_before}
use Rattle.wasi_table.specs.Words.{operands, types_in}
use Rattle.wasi_table.proofs.words.tuple_of.Given as goal

abbrev pub invariant-loop : goal.invariant-loop
invariant-loop l =
    (types_before l.items.items (types_in (take (l.size - l.counter) (operands l.stack.items))) ≡ types_in (take l.size (operands l.fn.stack.items)))
    × (drop (l.size - l.counter) (operands l.stack.items) ≡ drop l.size (operands l.fn.stack.items))

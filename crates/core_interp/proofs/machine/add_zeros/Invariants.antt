use Rattle.std.proofs.Common.{◌≡◌, ◌++◌}
use Rattle.std.specs.Prelude.{replicate}
use Rattle.core_slots.specs.Stacked.{with_operands}
use Rattle.core_interp.proofs.machine.add_zeros.Given as goal

abbrev pub invariant-loop : goal.invariant-loop
invariant-loop l = l.slots ≡ with_operands l.fn.slots (replicate l.counter 0 ++ l.fn.slots.operands)

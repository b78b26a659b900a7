use Rattle.std.proofs.Common.{◌≡◌, take}
use Rattle.core_instance.proofs.copies.copy_instrs.Given as goal

abbrev pub invariant-loop-instr : goal.invariant-loop-instr
invariant-loop-instr l = l.list.items ≡ take l.instr-index l.instrs

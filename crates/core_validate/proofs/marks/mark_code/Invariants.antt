use Rattle.std.proofs.Common.{◌≡◌, drop}
use Rattle.core_validate.specs.Gather.{gather}
use Rattle.core_validate.specs.Spaces.{marked, functions_in}
use Rattle.core_validate.proofs.marks.mark_code.Given as goal

abbrev pub invariant-loop-instr : goal.invariant-loop-instr
invariant-loop-instr l = marked (gather functions_in (drop l.instr-index l.code)) l.marks ≡ marked (gather functions_in l.code) l.fn.marks

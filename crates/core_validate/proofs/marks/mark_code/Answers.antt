use Rattle.std.proofs.Common.{◌≡◌, ◌∙◌, ◌+◌, ap, sym, drop}
use Rattle.core_validate.specs.Gather.{gather}
use Rattle.core_validate.specs.Spaces.{marked, functions_in}
use Rattle.core_validate.proofs.GatherLemmas.{marked-step, marked-end}
use Rattle.core_validate.proofs.marks.mark_code.Goals as goal

pub loop-instr-preserved : goal.loop-instr-preserved
loop-instr-preserved c =
    let i = c.loop-instr.instr-index in
    ap (marked (gather functions_in (drop (i + 1) c.args.code.now))) c.mark_instr.ensures
    ∙ marked-step functions_in c.args.code.now i c.instr-item.result c.loop-instr.marks c.loop-instr-test.true c.instr-item.is ∙ c.loop-instr.invariant

pub returns : goal.returns
returns c = sym (marked-end functions_in c.args.code.now c.loop-instr.instr-index c.loop-instr.marks c.loop-instr-test.false) ∙ c.loop-instr.invariant

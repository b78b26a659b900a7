use Rattle.std.proofs.Common.{◌≡◌, ◌∙◌, ◌+◌, ap, sym, drop}
use Rattle.core_validate.specs.Gather.{gather}
use Rattle.core_validate.specs.Spaces.{marked, element_functions}
use Rattle.core_validate.proofs.GatherLemmas.{marked-step, marked-end}
use Rattle.core_validate.proofs.marks.mark_segments.Goals as goal

pub loop-elements-preserved : goal.loop-elements-preserved
loop-elements-preserved c =
    let i = c.loop-elements.elements-index in
    ap (marked (gather element_functions (drop (i + 1) c.args.segments.now))) c.mark_segment.ensures
    ∙ marked-step element_functions c.args.segments.now i c.elements-item.result c.loop-elements.marks c.loop-elements-test.true c.elements-item.is ∙ c.loop-elements.invariant

pub returns : goal.returns
returns c = sym (marked-end element_functions c.args.segments.now c.loop-elements.elements-index c.loop-elements.marks c.loop-elements-test.false) ∙ c.loop-elements.invariant

use Rattle.std.proofs.lemmas.Result.{IfOk-weaker}
use Rattle.reference_step.specs.Values.{list_in}
use Rattle.ref_virtual.proofs.FilesInsideLemmas.{row_fixed}
use Rattle.ref_rules.specs.Parts.{shown}
use Rattle.ref_virtual.proofs.PollLemmas.{poll_inside}
use Rattle.ref_virtual.proofs.polling.poll_row.Goals as goal

pub returns-then-eq-clause-inside : goal.returns-then-eq-clause-inside
returns-then-eq-clause-inside c = λ nodes. row_fixed c.ready.result _ nodes c.ready.ensures

pub returns-then-eq-2-clause-inside : goal.returns-then-eq-2-clause-inside
returns-then-eq-2-clause-inside c = λ nodes. row_fixed c.block.result _ nodes c.block.ensures

pub returns-then-eq-3-clause-inside : goal.returns-then-eq-3-clause-inside
returns-then-eq-3-clause-inside c = IfOk-weaker c.poll_part.result _ _ (λ row says. λ nodes. poll_inside row c.args.live.now.handles (list_in (shown c.part_at.result)) nodes says) c.poll_part.ensures

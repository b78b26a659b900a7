use Rattle.std.proofs.Common.{ap, ◌∙◌}
use Rattle.std.proofs.lemmas.Result.{IfOk-weaker}
use Rattle.reference_step.specs.State.{returns as returning}
use Rattle.reference_step.specs.Values.{ok}
use Rattle.ref_virtual.proofs.ToldLemmas.{told_same}
use Rattle.ref_virtual.proofs.FilesInsideLemmas.{row_fixed}
use Rattle.ref_virtual.proofs.InsideLemmas.{told_fixed}
use Rattle.ref_virtual.proofs.files.file_row.Goals as goal

pub returns-in-Looks-clause-row : goal.returns-in-Looks-clause-row
returns-in-Looks-clause-row c = rw c.in-Looks.is (IfOk-weaker c.look_row.result _ _ (λ row says. λ f v t e. told_same f c.args.folder.now row _ (says f v t)) c.look_row.ensures)

pub returns-in-Changes-clause-row : goal.returns-in-Changes-clause-row
returns-in-Changes-clause-row c = rw c.in-Changes.is (IfOk-weaker c.change_row.result _ _ (λ row says. λ f v t e. says f v) c.change_row.ensures)

pub returns-in-Pairs-clause-row : goal.returns-in-Pairs-clause-row
returns-in-Pairs-clause-row c = rw c.in-Pairs.is (IfOk-weaker c.pair_row.result _ _ (λ row says. λ f v t e. told_same f c.args.folder.now row _ (says f (record v { scratch = c.args.folder.now }) c.args.may_write e)) c.pair_row.ensures.row)

pub returns-in-Syncs-clause-row : goal.returns-in-Syncs-clause-row
returns-in-Syncs-clause-row c = rw c.in-Syncs.is (λ f v t e. told_same f c.args.folder.now c.returns.result _ (c.returns.ensures f ∙ ap returning c.done.ensures))

pub returns-in_ok-ok-in-ReadDirectoryEntry-clause-row : goal.returns-in_ok-ok-in-ReadDirectoryEntry-clause-row
returns-in_ok-ok-in-ReadDirectoryEntry-clause-row c = rw c.in-ReadDirectoryEntry.is (λ f v t e. told_same f c.args.folder.now c.returns-in-ReadDirectoryEntry.result _ (c.returns-in-ReadDirectoryEntry.ensures f ∙ ap returning (c.in_ok-ok-in-ReadDirectoryEntry.ensures ∙ ap ok c.none.ensures)))

pub returns-in-Looks-clause-inside : goal.returns-in-Looks-clause-inside
returns-in-Looks-clause-inside c = IfOk-weaker c.look_row.result _ _ (λ row says. λ v nodes t. row_fixed row _ nodes (λ f. says f v t)) c.look_row.ensures

pub returns-in-Changes-clause-inside : goal.returns-in-Changes-clause-inside
returns-in-Changes-clause-inside c = IfOk-weaker c.change_row.result _ _ (λ row says. λ v nodes t. told_fixed row _ _ nodes (λ f. says f v)) c.change_row.ensures

pub returns-in-Pairs-clause-inside : goal.returns-in-Pairs-clause-inside
returns-in-Pairs-clause-inside c = IfOk-weaker c.pair_row.result _ _ (λ row is. λ v nodes t. is nodes) c.pair_row.ensures.inside

pub returns-in-Syncs-clause-inside : goal.returns-in-Syncs-clause-inside
returns-in-Syncs-clause-inside c = λ v nodes t. row_fixed c.returns.result _ nodes c.returns.ensures

pub returns-in_ok-ok-in-ReadDirectoryEntry-clause-inside : goal.returns-in_ok-ok-in-ReadDirectoryEntry-clause-inside
returns-in_ok-ok-in-ReadDirectoryEntry-clause-inside c = λ v nodes t. row_fixed c.returns-in-ReadDirectoryEntry.result _ nodes c.returns-in-ReadDirectoryEntry.ensures

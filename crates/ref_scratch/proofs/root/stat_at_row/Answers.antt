use Rattle.std.proofs.Common.{◌≡◌, ◌∙◌, sym}
use Rattle.std.proofs.lemmas.Result.{IfOk-weaker}
use Rattle.reference_step.specs.Descriptors.{stat_root, stat_file}
use Rattle.reference_step.specs.Nodes.{TheFile, lead_in}
use Rattle.ref_scratch.proofs.RowLemmas.{at_file}
use Rattle.ref_scratch.proofs.root.stat_at_row.Goals as goal

pub returns-in-File : goal.returns-in-File
returns-in-File c =
    let m = c.args.folder.now in
    let is : TheFile c.in-File.number ≡ lead_in m c.args.text.now = c.in-File.ensures.value in
    IfOk-weaker c.stat_file_row.result _ _ (λ row says. λ f v.
    says f v ∙ sym (at_file (lead_in m c.args.text.now) stat_root (λ n. stat_file (record v { scratch = m }) n) c.in-File.number is)) c.stat_file_row.ensures

use Rattle.std.proofs.Common.{◌≡◌, ◌∙◌, ap}
use Rattle.std.proofs.lemmas.Result.{IfOk-weaker}
use Rattle.reference_step.specs.Codes as code
use Rattle.reference_step.specs.Descriptors.{in_scratch, rename_to}
use Rattle.reference_step.specs.Nodes.{TheFile, lead_in}
use Rattle.reference_step.specs.State.{fails}
use Rattle.ref_rules.specs.Lives.{is_open}
use Rattle.ref_scratch.specs.Told.{settled}
use Rattle.ref_scratch.proofs.renaming.rename_row.Goals as goal

pub returns-in-File : goal.returns-in-File
returns-in-File c =
    let m = c.args.folder.now in
    let is : TheFile c.in-File.number ≡ lead_in m c.args.old.now = c.in-File.ensures.value in
    IfOk-weaker c.rename_to.result _ _ (λ row says. λ f v.
    let w = record v { scratch = m; held = λ n. is_open c.args.live.now.handles n } in
    says f v ∙ ap (λ x. settled m (in_scratch x (fails code.busy) (λ n. rename_to w n (lead_in m c.args.new.now) c.args.new.now))) is) c.rename_to.ensures

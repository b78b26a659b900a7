use Rattle.std.proofs.Common.{◌≡◌, ◌∙◌, ap}
use Rattle.std.proofs.lemmas.Result.{IfOk-weaker}
use Rattle.reference_step.specs.Descriptors.{open_scratch}
use Rattle.reference_step.specs.Nodes.{TheFile, Missing, lead_in}
use Rattle.ref_scratch.specs.Told.{settled}
use Rattle.ref_scratch.proofs.opening.open_row.Goals as goal

pub returns-in-File : goal.returns-in-File
returns-in-File c =
    let m = c.args.folder.now in
    let is : TheFile c.in-File.number ≡ lead_in m c.args.text.now = c.in-File.ensures.value in
    IfOk-weaker c.open_file.result _ _ (λ row says. λ f v.
    says f v ∙ ap (λ x. settled m (open_scratch (record v { scratch = m }) x c.args.text.now c.args.flags c.args.rights)) is) c.open_file.ensures

pub returns-in-Missing : goal.returns-in-Missing
returns-in-Missing c =
    let m = c.args.folder.now in
    let is : Missing c.in-Missing.code ≡ lead_in m c.args.text.now = c.in-Missing.ensures.value in
    IfOk-weaker c.open_missing.result _ _ (λ row says. λ f v.
    says f v ∙ ap (λ x. settled m (open_scratch (record v { scratch = m }) x c.args.text.now c.args.flags c.args.rights)) is) c.open_missing.ensures

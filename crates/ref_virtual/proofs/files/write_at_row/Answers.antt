use Rattle.std.proofs.Common.{◌∙◌}
use Rattle.std.proofs.Math.Path.{ap₂}
use Rattle.std.proofs.lemmas.Result.{IfOk-weaker}
use Rattle.reference_step.specs.Descriptors as descriptor
use Rattle.reference_step.specs.Handles.{ScratchFile}
use Rattle.ref_scratch.specs.Told.{settled}
use Rattle.ref_virtual.proofs.files.write_at_row.Goals as goal

pub returns : goal.returns
returns c =
    let m = c.args.folder.now in
    IfOk-weaker c.write_row.result _ _ (λ row says. λ f v.
    says f v ∙ ap₂ (λ b o. settled m (descriptor.write (record v { scratch = m }) (ScratchFile c.args.file c.args.may_write) b o)) (c.as_slice.ensures.value ∙ c.in_ok-bytes.ensures) c.number_at.ensures) c.write_row.ensures

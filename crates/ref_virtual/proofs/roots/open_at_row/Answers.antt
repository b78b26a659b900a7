use Rattle.std.proofs.Common.{◌∙◌}
use Rattle.std.proofs.Math.Path.{ap₂}
use Rattle.std.proofs.lemmas.Result.{IfOk-weaker}
use Rattle.wit_types.specs.PlainValue.{plain_values}
use Rattle.reference_step.specs.Descriptors as descriptor
use Rattle.reference_step.specs.Handles.{ScratchRoot}
use Rattle.reference_step.specs.Rows.{flags, text}
use Rattle.ref_scratch.specs.Told.{settled}
use Rattle.ref_virtual.proofs.roots.open_at_row.Goals as goal

pub returns : goal.returns
returns c =
    let m = c.args.folder.now in
    let a = plain_values c.args.args.now in
    IfOk-weaker c.open_row.result _ _ (λ row says. λ f v.
    says f v
    ∙ ap₂ (λ n t. settled m (descriptor.open-at (record v { scratch = m }) ScratchRoot n t c.flags_at.result c.flags_at-2.result)) c.flags_at-follow.ensures c.text_at-path.ensures
    ∙ ap₂ (λ x y. settled m (descriptor.open-at (record v { scratch = m }) ScratchRoot (flags 1 a) (text 2 a) x y)) c.flags_at.ensures c.flags_at-2.ensures) c.open_row.ensures

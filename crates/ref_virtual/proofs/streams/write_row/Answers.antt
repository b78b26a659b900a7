use Rattle.std.proofs.Common.{ap, ◌∙◌}
use Rattle.std.proofs.lemmas.Result.{IfOk-weaker}
use Rattle.reference_step.specs.OutputStreams as output
use Rattle.reference_step.specs.Handles.{ScratchOut}
use Rattle.ref_scratch.specs.Told.{settled}
use Rattle.ref_virtual.proofs.streams.write_row.Goals as goal

pub returns : goal.returns
returns c =
    let m = c.args.folder.now in
    IfOk-weaker c.write_stream_row.result _ _ (λ row says. λ f v.
    says f v ∙ ap (λ b. settled m (output.write (record v { scratch = m }) (ScratchOut c.args.file c.args.place) b)) (c.as_slice.ensures.value ∙ c.in_ok-bytes.ensures)) c.write_stream_row.ensures

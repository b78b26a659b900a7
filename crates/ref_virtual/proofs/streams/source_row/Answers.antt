use Rattle.std.proofs.Common.{ap, ◌∙◌}
use Rattle.std.proofs.lemmas.Result.{IfOk-weaker}
use Rattle.reference_step.specs.InputStreams as input
use Rattle.reference_step.specs.Handles.{ScratchIn}
use Rattle.ref_virtual.proofs.streams.source_row.Goals as goal

pub returns-in-Read : goal.returns-in-Read
returns-in-Read c =
    let m = c.args.folder.now in
    rw c.in-Read.is (IfOk-weaker c.read_stream_row.result _ _ (λ row says. λ f v. says f v ∙ ap (input.read (record v { scratch = m }) (ScratchIn c.args.file c.args.place)) c.number_at.ensures) c.read_stream_row.ensures)

pub returns-in-Skip : goal.returns-in-Skip
returns-in-Skip c =
    let m = c.args.folder.now in
    rw c.in-Skip.is (IfOk-weaker c.skip_stream_row.result _ _ (λ row says. λ f v. says f v ∙ ap (input.skip (record v { scratch = m }) (ScratchIn c.args.file c.args.place)) c.number_at-in-Skip.ensures) c.skip_stream_row.ensures)

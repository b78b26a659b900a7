use Rattle.std.proofs.Common.{ap, ◌∙◌}
use Rattle.std.proofs.lemmas.Result.{IfOk-weaker}
use Rattle.reference_step.specs.InputStreams as input
use Rattle.ref_answers.specs.Seen.{content_in}
use Rattle.ref_rules.specs.declared.content.Content.TheVariants.{FileAt}
use Rattle.tree_table.specs.Tables.{count_of}
use Rattle.ref_virtual.proofs.FilesInsideLemmas.{row_fixed}
use Rattle.reference_step.specs.Handles.{Always}
use Rattle.reference_step.specs.State.{gives as giving}
use Rattle.ref_virtual.proofs.streaming.file_input_row.Goals as goal

pub returns-in-Read-clause-row : goal.returns-in-Read-clause-row
returns-in-Read-clause-row c =
    let at = content_in c.args.table.now (FileAt c.args.node c.args.place) in
    rw c.in-Read.is (IfOk-weaker c.read_stream_row.result _ _ (λ row says. λ v h. says v h ∙ ap (input.read v at) c.number_at.ensures) c.read_stream_row.ensures.row)

pub returns-in-Skip-clause-row : goal.returns-in-Skip-clause-row
returns-in-Skip-clause-row c =
    let at = content_in c.args.table.now (FileAt c.args.node c.args.place) in
    rw c.in-Skip.is (IfOk-weaker c.skip_stream_row.result _ _ (λ row says. λ v h. says v h ∙ ap (input.skip v at) c.number_at-in-Skip.ensures) c.skip_stream_row.ensures.row)

pub returns-in-Subscribe-clause-inside : goal.returns-in-Subscribe-clause-inside
returns-in-Subscribe-clause-inside c = row_fixed c.gives.result (giving Always) (count_of c.args.table.now) c.gives.ensures

use Rattle.std.proofs.Common.{◌∙◌}
use Rattle.std.proofs.Math.Path.{ap₂}
use Rattle.std.proofs.lemmas.Result.{IfOk-weaker}
use Rattle.wit_types.specs.PlainValue.{plain_values}
use Rattle.reference_step.specs.Descriptors as descriptor
use Rattle.reference_step.specs.Rows.{flags, text}
use Rattle.ref_virtual.specs.Views.{node_in}
use Rattle.ref_virtual.proofs.nodes.open_at_row.Goals as goal

pub returns-clause-row : goal.returns-clause-row
returns-clause-row c =
    let at = node_in c.args.table.now c.args.node in
    let a = plain_values c.args.args.now in
    IfOk-weaker c.open_row.result _ _ (λ row says. λ v h.
    says v h ∙ ap₂ (λ n t. descriptor.open-at v at n t c.flags_at.result c.flags_at-2.result) c.flags_at-follow.ensures c.bytes_at-path.ensures
    ∙ ap₂ (descriptor.open-at v at (flags 1 a) (text 2 a)) c.flags_at.ensures c.flags_at-2.ensures) c.open_row.ensures.row

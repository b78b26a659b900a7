use Rattle.std.proofs.Common.{ap, ◌∙◌}
use Rattle.std.proofs.lemmas.Result.{IfOk-weaker}
use Rattle.reference_step.specs.Descriptors as descriptor
use Rattle.reference_step.specs.Values.{nth, id_in, text_in}
use Rattle.reference_step.specs.State.{fails, returns as returning}
use Rattle.wit_types.specs.PlainValue.{BoolValue, plain_values}
use Rattle.wit_types.proofs.ValueLemmas.{plain_value-Bool}
use Rattle.ref_virtual.specs.Views.{node_in}
use Rattle.ref_virtual.specs.Others.{crossing, same_as}
use Rattle.ref_virtual.proofs.HandleLemmas.{looked}
use Rattle.ref_virtual.proofs.NodeLemmas.{link_is, rename_is, same_is}
use Rattle.tree_table.specs.Tables.{count_of}
use Rattle.ref_virtual.proofs.FilesInsideLemmas.{row_fixed, fixed_inside}
use Rattle.ref_virtual.proofs.nodes.pair_row.Goals as goal

pub returns-in-LinkAt-clause-row : goal.returns-in-LinkAt-clause-row
returns-in-LinkAt-clause-row c =
    let f = c.args.table.now in
    let at = node_in f c.args.node in
    let id = id_in (nth 3 (plain_values c.args.args.now)) in
    rw c.in-LinkAt.is (IfOk-weaker c.crossing_row.result _ _ (λ row says. λ v h e.
    says f ∙ ap (λ o. fails (crossing o)) c.node_of.ensures
    ∙ link_is f c.args.node c.content_at.result
    ∙ ap (descriptor.link-at at) (looked f v c.args.live.now.handles id c.content_at.result e c.content_at.ensures)) c.crossing_row.ensures)

pub returns-in-RenameAt-clause-row : goal.returns-in-RenameAt-clause-row
returns-in-RenameAt-clause-row c =
    let f = c.args.table.now in
    let at = node_in f c.args.node in
    let a = plain_values c.args.args.now in
    let old = text_in (nth 1 a) in
    let new = text_in (nth 3 a) in
    let id = id_in (nth 2 a) in
    let other = c.content_at-in-RenameAt.result in
    rw c.in-RenameAt.is (IfOk-weaker c.crossing_row-in-RenameAt.result _ _ (λ row says. λ v h e.
    says f ∙ ap (λ o. fails (crossing o)) c.node_of-in-RenameAt.ensures
    ∙ rename_is f v old new c.args.node other
    ∙ ap (λ o. descriptor.rename-at v at o old new) (looked f v c.args.live.now.handles id other e c.content_at-in-RenameAt.ensures)) c.crossing_row-in-RenameAt.ensures)

pub returns-in-IsSameObject-clause-row : goal.returns-in-IsSameObject-clause-row
returns-in-IsSameObject-clause-row c = rw c.in-IsSameObject.is (λ v h e.
    let f = c.args.table.now in
    let at = node_in f c.args.node in
    let id = id_in (nth 1 (plain_values c.args.args.now)) in
    let other = c.content_at-in-IsSameObject.result in
    c.returns.ensures f ∙ ap returning (plain_value-Bool c.is_same.result)
    ∙ ap (λ b. returning (BoolValue b))
    (c.is_same.ensures v h ∙ ap (same_as f c.args.node) c.node_of-other.ensures
    ∙ same_is f c.args.node other
    ∙ ap (descriptor.are_same at) (looked f v c.args.live.now.handles id other e c.content_at-in-IsSameObject.ensures)))

pub returns-in-LinkAt-clause-inside : goal.returns-in-LinkAt-clause-inside
returns-in-LinkAt-clause-inside c = fixed_inside c.crossing_row.result _ (count_of c.args.table.now) c.crossing_row.ensures

pub returns-in-RenameAt-clause-inside : goal.returns-in-RenameAt-clause-inside
returns-in-RenameAt-clause-inside c = fixed_inside c.crossing_row-in-RenameAt.result _ (count_of c.args.table.now) c.crossing_row-in-RenameAt.ensures

pub returns-in-IsSameObject-clause-inside : goal.returns-in-IsSameObject-clause-inside
returns-in-IsSameObject-clause-inside c = row_fixed c.returns.result _ (count_of c.args.table.now) c.returns.ensures

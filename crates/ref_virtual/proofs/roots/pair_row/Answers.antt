use Rattle.std.proofs.Common.{ap, ◌∙◌}
use Rattle.std.proofs.lemmas.Result.{IfOk-weaker}
use Rattle.wit_types.specs.PlainValue.{BoolValue, plain_values}
use Rattle.wit_types.proofs.ValueLemmas.{plain_value-Bool}
use Rattle.reference_step.specs.Descriptors as descriptor
use Rattle.reference_step.specs.Descriptors.{link_pair, rename_pair, with_root}
use Rattle.reference_step.specs.State.{returns as returning}
use Rattle.reference_step.specs.Values.{nth, id_in, text_in}
use Rattle.ref_rules.specs.Lives.{is_open}
use Rattle.ref_virtual.proofs.HandleLemmas.{looked}
use Rattle.ref_scratch.specs.Told.{settled}
use Rattle.ref_virtual.specs.Besides.{is_root, root_pair}
use Rattle.ref_virtual.proofs.BesideLemmas.{root_with, root_same}
use Rattle.ref_virtual.proofs.ToldLemmas.{told_same}
use Rattle.ref_virtual.proofs.FilesInsideLemmas.{row_fixed}
use Rattle.ref_virtual.proofs.InsideLemmas.{told_fixed}
use Rattle.ref_virtual.proofs.roots.pair_row.Goals as goal

pub returns-in-LinkAt-clause-row : goal.returns-in-LinkAt-clause-row
returns-in-LinkAt-clause-row c =
    let m = c.args.folder.now in
    let handles = c.args.live.now.handles in
    let id = id_in (nth 3 (plain_values c.args.args.now)) in
    rw c.in-LinkAt.is (IfOk-weaker c.link_row.result _ _ (λ row says. λ f v e.
    told_same f m row _ (says f ∙ ap (λ b. link_pair (root_pair b)) c.beside_of.ensures
    ∙ ap link_pair (root_with f c.content_at.result ∙ ap with_root (looked f v handles id c.content_at.result e c.content_at.ensures)))) c.link_row.ensures)

pub returns-in-RenameAt-clause-row : goal.returns-in-RenameAt-clause-row
returns-in-RenameAt-clause-row c =
    let m = c.args.folder.now in
    let handles = c.args.live.now.handles in
    let a = plain_values c.args.args.now in
    let other = c.content_at-in-RenameAt.result in
    rw c.in-RenameAt.is (IfOk-weaker c.rename_beside.result _ _ (λ row says. λ f v e.
    says f v
    ∙ ap (λ p. settled m (rename_pair (record v { scratch = m; held = λ k. is_open handles k }) p (text_in (nth 1 a)) (text_in (nth 3 a))))
    (ap root_pair c.beside_of-beside.ensures ∙ root_with f other ∙ ap with_root (looked f v handles (id_in (nth 2 a)) other e c.content_at-in-RenameAt.ensures))) c.rename_beside.ensures)

pub returns-in-IsSameObject-clause-row : goal.returns-in-IsSameObject-clause-row
returns-in-IsSameObject-clause-row c = rw c.in-IsSameObject.is (λ f v e.
    let handles = c.args.live.now.handles in
    let id = id_in (nth 1 (plain_values c.args.args.now)) in
    let other = c.content_at-in-IsSameObject.result in
    told_same f c.args.folder.now c.returns.result _ (c.returns.ensures f ∙ ap returning (plain_value-Bool c.is_root.result)
    ∙ ap (λ b. returning (BoolValue b))
    (c.is_root.ensures ∙ ap is_root c.beside_of-other.ensures ∙ root_same f other
    ∙ ap descriptor.is_root (looked f v handles id other e c.content_at-in-IsSameObject.ensures))))

pub returns-in-LinkAt-clause-inside : goal.returns-in-LinkAt-clause-inside
returns-in-LinkAt-clause-inside c = IfOk-weaker c.link_row.result _ _ (λ row says. λ v nodes. row_fixed row _ nodes says) c.link_row.ensures

pub returns-in-RenameAt-clause-inside : goal.returns-in-RenameAt-clause-inside
returns-in-RenameAt-clause-inside c = IfOk-weaker c.rename_beside.result _ _ (λ row says. λ v nodes. told_fixed row _ _ nodes (λ f. says f v)) c.rename_beside.ensures

pub returns-in-IsSameObject-clause-inside : goal.returns-in-IsSameObject-clause-inside
returns-in-IsSameObject-clause-inside c = λ v nodes. row_fixed c.returns.result _ nodes c.returns.ensures

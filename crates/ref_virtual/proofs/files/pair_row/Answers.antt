use Rattle.std.proofs.Common.{ap, ◌∙◌}
use Rattle.std.proofs.lemmas.Result.{IfOk-weaker}
use Rattle.wit_types.specs.PlainValue.{BoolValue, plain_values}
use Rattle.wit_types.proofs.ValueLemmas.{plain_value-Bool}
use Rattle.reference_step.specs.Descriptors.{link_pair, rename_pair, with_file, same_file}
use Rattle.reference_step.specs.State.{returns as returning}
use Rattle.reference_step.specs.Values.{nth, id_in, text_in}
use Rattle.ref_virtual.proofs.HandleLemmas.{looked}
use Rattle.ref_virtual.specs.Besides.{is_file, file_pair}
use Rattle.ref_virtual.proofs.BesideLemmas.{file_with, file_same, rename_file}
use Rattle.ref_virtual.proofs.FilesInsideLemmas.{row_fixed}
use Rattle.ref_virtual.proofs.files.pair_row.Goals as goal

pub returns-in-LinkAt-clause-row : goal.returns-in-LinkAt-clause-row
returns-in-LinkAt-clause-row c =
    let handles = c.args.live.now.handles in
    let id = id_in (nth 3 (plain_values c.args.args.now)) in
    rw c.in-LinkAt.is (IfOk-weaker c.joined_row.result _ _ (λ row says. λ f v w e.
    says f ∙ ap (λ b. link_pair (file_pair b)) c.beside_of.ensures
    ∙ ap link_pair (file_with f c.content_at.result ∙ ap with_file (looked f v handles id c.content_at.result e c.content_at.ensures))) c.joined_row.ensures)

pub returns-in-RenameAt-clause-row : goal.returns-in-RenameAt-clause-row
returns-in-RenameAt-clause-row c =
    let handles = c.args.live.now.handles in
    let a = plain_values c.args.args.now in
    let old = text_in (nth 1 a) in
    let new = text_in (nth 3 a) in
    let other = c.content_at-in-RenameAt.result in
    rw c.in-RenameAt.is (IfOk-weaker c.joined_row-in-RenameAt.result _ _ (λ row says. λ f v w e.
    says f ∙ rename_file v old new c.beside_of-in-RenameAt.result
    ∙ ap (λ p. rename_pair v p old new)
    (ap file_pair c.beside_of-in-RenameAt.ensures ∙ file_with f other ∙ ap with_file (looked f v handles (id_in (nth 2 a)) other e c.content_at-in-RenameAt.ensures))) c.joined_row-in-RenameAt.ensures)

pub returns-in-IsSameObject-clause-row : goal.returns-in-IsSameObject-clause-row
returns-in-IsSameObject-clause-row c = rw c.in-IsSameObject.is (λ f v w e.
    let handles = c.args.live.now.handles in
    let id = id_in (nth 1 (plain_values c.args.args.now)) in
    let other = c.content_at-in-IsSameObject.result in
    c.returns.ensures f ∙ ap returning (plain_value-Bool c.is_file.result)
    ∙ ap (λ b. returning (BoolValue b))
    (c.is_file.ensures ∙ ap (λ b. is_file b c.args.file) c.beside_of-other.ensures ∙ file_same f c.args.file other
    ∙ ap (same_file c.args.file) (looked f v handles id other e c.content_at-in-IsSameObject.ensures)))

pub returns-in-LinkAt-clause-inside : goal.returns-in-LinkAt-clause-inside
returns-in-LinkAt-clause-inside c = IfOk-weaker c.joined_row.result _ _ (λ row says. λ nodes. row_fixed row _ nodes says) c.joined_row.ensures

pub returns-in-RenameAt-clause-inside : goal.returns-in-RenameAt-clause-inside
returns-in-RenameAt-clause-inside c = IfOk-weaker c.joined_row-in-RenameAt.result _ _ (λ row says. λ nodes. row_fixed row _ nodes says) c.joined_row-in-RenameAt.ensures

pub returns-in-IsSameObject-clause-inside : goal.returns-in-IsSameObject-clause-inside
returns-in-IsSameObject-clause-inside c = λ nodes. row_fixed c.returns.result _ nodes c.returns.ensures

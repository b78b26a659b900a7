use Rattle.std.proofs.Common.{◌≡◌, ◌∙◌, arith, ap, sym, subst, Some, slice_get}
use Rattle.std.specs.Prelude.{option_map}
use Rattle.std.proofs.lemmas.Bool.{OnTrue_at, OnTrue_from}
use Rattle.wit_types.specs.Plain.{plain}
use Rattle.type_table.specs.Slots.{slots_of, form_number}
use Rattle.type_table.specs.Tables.{trees, AreLinks}
use Rattle.type_table.specs.Nodes.{placed}
use Rattle.type_table.proofs.HasLaws.{tree_at}
use Rattle.type_table.proofs.SlotLemmas.{same-type}
use Rattle.type_table.proofs.table.TypeTable.is_same.Goals as goal

pub returns : goal.returns
returns c = λ sound links.
    let self = c.args.self.now in
    let node = c.in-Some.node.now in
    let ty = plain c.args.ty.now in
    let other = plain c.ty-other.result.now in
    let at : slice_get self c.args.at ≡ Some (placed node) = sym c.node.ensures.node ∙ ap (option_map (λ n. placed n.now)) c.in-Some.is in
    let is : other ≡ node.known.value = c.ty-other.ensures ∙ c.deref.ensures in
    let its : AreLinks (trees self) c.as_slice.result.now (slots_of other) =
    subst (λ ls. AreLinks (trees self) ls (slots_of other)) (sym c.as_slice.ensures) (subst (λ p. AreLinks (trees self) node.links (slots_of p)) (sym is) (sound.linked c.args.at (placed node) at)) in
    let forms : form_number ty ≡ form_number other = omega arith in
    OnTrue_from c.in_ok-same-2.same (slice_get (trees self) c.args.at ≡ Some ty)
    (λ on. tree_at self c.args.at (placed node) at ∙ ap Some (sym is ∙ sym (same-type ty other forms (λ z. absurd (omega arith)) (OnTrue_at on (c.in_ok-same-2.ensures links its)))))

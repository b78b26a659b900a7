use Rattle.std.proofs.Common.{◌≡◌, ◌∙◌, ap, sym, subst, Some, slice_get}
use Rattle.std.specs.Prelude.{option_map}
use Rattle.std.proofs.lemmas.Bool.{OnTrue_at}
use Rattle.std.proofs.lemmas.Option.{same_Some}
use Rattle.type_table.specs.Slots.{slots_of}
use Rattle.type_table.specs.Tables.{trees, AreLinks}
use Rattle.type_table.specs.Nodes.{placed}
use Rattle.type_table.proofs.HasLaws.{tree_at}
use Rattle.type_table.proofs.NodeLemmas.{contains-got}
use Rattle.type_table.proofs.table.TypeTable.known_at.Goals as goal

pub returns-in_ok-same-in-Some : goal.returns-in_ok-same-in-Some
returns-in_ok-same-in-Some c = λ sound links.
    let self = c.args.self.now in
    let known = c.args.known.now in
    let node = c.in-Some.node.now in
    let same = OnTrue_at c.if-not-branch.false (c.in_ok-is_same.ensures sound (subst (λ p. AreLinks (trees self) c.args.links.now (slots_of p)) (sym c.ty.ensures) links)) in
    let there : slice_get (trees self) c.args.at ≡ Some known = same ∙ ap Some c.ty.ensures in
    let at : slice_get self c.args.at ≡ Some (placed node) = sym c.node.ensures.node ∙ ap (option_map (λ n. placed n.now)) c.in-Some.is in
    let is : node.known.value ≡ known = same_Some node.known.value known (sym (tree_at self c.args.at (placed node) at) ∙ there) in
    (c.in_ok-same-in-Some.ensures ∙ is, contains-got (trees self) c.args.at known there)

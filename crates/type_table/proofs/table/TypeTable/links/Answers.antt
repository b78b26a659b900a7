use Rattle.std.proofs.Common.{◌≡◌, ◌∙◌, ◌+◌, ◌<◌, ◌≤◌, arith, ap, sym, subst, drop, take, length, Option, []}
use Rattle.std.specs.Prelude.{option_map, slice_index}
use Rattle.std.proofs.lemmas.List.{take_all}
use Rattle.wit_types.specs.Plain.{Plain, plain}
use Rattle.type_table.specs.Slots.{slots_of}
use Rattle.type_table.specs.Tables.{trees, AreLinks}
use Rattle.type_table.specs.Nodes.{AreBelow, IsKeyOf, count_types, type_at}
use Rattle.type_table.proofs.SlotLemmas.{of-keys}
use Rattle.type_table.proofs.NodeLemmas.{below-push, keys-front, linked, part-count}
use Rattle.type_table.proofs.table.TypeTable.links.Goals as goal

pub loop-index-init : goal.loop-index-init
loop-index-init c = record {
  few = omega arith;
  below = subst (AreBelow (length c.args.self.now)) (sym c.empty-links.ensures) tt;
  keys = c.keys-keys.ensures ∙ of-keys c.args.known.now;
  links = λ h. subst (λ links. AreLinks (trees c.args.self.now) links []) (sym c.empty-links.ensures) tt;
}

pub loop-index-preserved : goal.loop-index-preserved
loop-index-preserved c =
    let parts = slots_of c.args.known.now in
    let i = c.loop-index.index in
    let o : Option Plain = option_map (λ t. plain t.now) c.part_type-part.result in
    let e : type_at parts i ≡ o = ap (λ p. type_at (slots_of p) i) (sym c.ty-in-loop-index.ensures) ∙ sym c.part_type-part.ensures in
    let front = keys-front parts i c.keys-keys.result.now c.loop-index.typed c.loop-index.invariant.keys in
    let key : IsKeyOf o c.key_at.result = subst (IsKeyOf o) (sym c.key_at.ensures) (subst (λ x. IsKeyOf x (slice_index c.keys-keys.result.now c.loop-index.typed)) e front.0) in
    let lt : i < length parts = omega (arith, ap (λ p. length (slots_of p)) c.ty.ensures) in
    record {
      few = omega (arith, part-count o);
      below = subst (AreBelow (length c.args.self.now)) (sym c.in_ok-push.ensures.ok) (below-push (length c.args.self.now) c.loop-index.links c.link.result c.loop-index.invariant.below c.link.ensures.below);
      keys = ap (λ n. drop (c.loop-index.typed + n) c.keys-keys.result.now) (c.count_types-typed.ensures ∙ ap count_types (sym e)) ∙ front.1;
      links = λ h. subst (λ links. AreLinks (trees c.args.self.now) links (take (i + 1) parts)) (sym c.in_ok-push.ensures.ok)
          (linked c.args.self.now c.args.known.now i c.loop-index.links lt c.loop-index.invariant.links c.link.result o e (λ has. c.link.ensures.leads key has) h);
    }

pub returns-clause-links : goal.returns-clause-links
returns-clause-links c = λ h.
    let parts = slots_of c.args.known.now in
    let all : length parts ≤ c.loop-index.index = omega (arith, ap (λ p. length (slots_of p)) c.ty.ensures) in
    subst (AreLinks (trees c.args.self.now) c.loop-index.links) (take_all c.loop-index.index parts all) (c.loop-index.invariant.links h)

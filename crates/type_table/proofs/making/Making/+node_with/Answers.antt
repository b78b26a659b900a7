use Rattle.std.proofs.Common.{◌≡◌, ◌∙◌, ◌+◌, ◌<◌, ◌++◌, ◌∷◌, [], arith, ap, sym, subst, take, length, false, Option, Some, slice_get}
use Rattle.std.specs.Prelude.{IfSome, option_map}
use Rattle.std.specs.Global.{Global}
use Rattle.std.specs.declared.rc.Rc.{Rc}
use Rattle.std.proofs.lemmas.List.{map-append}
use Rattle.wit_types.specs.Plain.{Plain, plain}
use Rattle.comp_facts.specs.Handles.{has_handle}
use Rattle.comp_types.specs.Substitution.{partner_in, answer_with, value_with}
use Rattle.type_table.specs.Slots.{slots_of}
use Rattle.type_table.specs.Tables.{trees, Leads, AreLinks, IsSound, Has}
use Rattle.type_table.specs.Nodes.{placed, IsBelow, HasEach, type_at}
use Rattle.type_table.specs.Retyped.{Fits, value_of, values_of}
use Rattle.type_table.specs.Walks.{Walk}
use Rattle.type_table.specs.Made.{MadeOf}
use Rattle.type_table.proofs.HasLaws.{grew_then}
use Rattle.type_table.proofs.NodeLemmas.{below-at}
use Rattle.type_table.proofs.AddLemmas.{longer_then}
use Rattle.type_table.proofs.RetypedLemmas.{values-more, each-push, each-grew}
use Rattle.type_table.proofs.MakingLemmas.{made-is, fits-more, part-leads, node-links, node-contains, node-made, node-is, stays-made, rebuilt-made}
use Rattle.type_table.proofs.making.Making.+node_with.Goals as goal

pub parts_with-slot_with-requires : goal.parts_with-slot_with-requires
parts_with-slot_with-requires t c =
    let below = subst (IsBelow c.args.below) (sym c.link_at.ensures) (below-at c.args.below c.args.links.now c.loop-index.index c.requires) in
    (omega (arith, c.decreases), below)

pub parts_with-loop-index-preserved : goal.parts_with-loop-index-preserved
parts_with-loop-index-preserved t c =
    let ps = slots_of (plain c.args.ty.now) in
    let i = c.loop-index.index in
    let old = c.args.self.now in
    let mid = c.loop-index.self in
    let new = c.slot_with.new.self in
    let links = c.args.links.now in
    let items = c.loop-index.parts.items in
    let part = c.in_ok-part.part in
    let o : Option Plain = option_map (λ t. plain t.now) c.part_type.result in
    let is : type_at ps i ≡ o = sym c.part_type.ensures in
    let lt : i < length ps = omega arith in
    let more : values_of c.push.new.self.items ≡ values_of items ++ value_of part ∷ [] = ap values_of c.in_ok-push.ensures.items ∙ map-append value_of items (part ∷ []) in
    record {
      by = c.slot_with.ensures.by ∙ c.loop-index.invariant.by;
      longer = longer_then old.types mid.types new.types c.loop-index.invariant.longer c.slot_with.ensures.longer;
      grew = λ s. let g = c.loop-index.invariant.grew s in grew_then old.types mid.types new.types g (c.slot_with.ensures.grew (g.sound s));
      fits = subst (Fits (take (i + 1) ps)) (sym more) (fits-more ps i lt o is (values_of items) (value_of part) c.in_ok-part.ensures.fits c.loop-index.invariant.fits);
      made = λ s l.
          let g = c.loop-index.invariant.grew s in
          let leads = subst (λ k. Leads (trees mid.types) k o) (sym c.link_at.ensures) (part-leads ps i lt o is old.types mid.types links g l) in
          more
          ∙ values-more ps i lt (values_of items) (value_of part) (partner_in old.by) (c.loop-index.invariant.made s l)
          (c.in_ok-part.ensures.made (g.sound s) leads ∙ (ap (λ by. answer_with (partner_in by) o) c.loop-index.invariant.by ∙ ap (answer_with (partner_in old.by)) (sym is)));
      has = λ s.
          let g = c.loop-index.invariant.grew s in
          let h = c.slot_with.ensures.grew (g.sound s) in
          subst (HasEach new.types) (sym more) (each-push new.types (values_of items) (value_of part) (each-grew mid.types new.types (values_of items) h (c.loop-index.invariant.has s)) (c.in_ok-part.ensures.has (g.sound s)));
    }

pub slot_with-returns-in_ok-new-in-Some-clause-made : goal.slot_with-returns-in_ok-new-in-Some-clause-made
slot_with-returns-in_ok-new-in-Some-clause-made t c = λ s leads.
    let old = c.args.self.now in
    let is : option_map (λ t. plain t.now) c.args.ty ≡ Some (plain c.in-Some.ty.now) = ap (option_map (λ t. plain t.now)) c.in-Some.is in
    ap Some (c.in_ok-new-in-Some.ensures.made s (subst (Leads (trees old.types) c.args.link) is leads)) ∙ ap (answer_with (partner_in old.by)) (sym is)

pub node_with-returns-in-Some-clause-made : goal.node_with-returns-in-Some-clause-made
node_with-returns-in-Some-clause-made t c = λ s e.
    let old = c.args.self.now in
    let found : IsSound old.types → MadeOf old.types (partner_in old.by) c.args.at c.in-Some.new.value =
    subst (λ (o : Option (Rc Plain Global)). IfSome o (λ (new : Rc Plain Global). IsSound old.types → MadeOf old.types (partner_in old.by) c.args.at new.value)) c.in-Some.is c.in_ok-new.ensures in
    made-is old.types (partner_in old.by) c.args.at (plain c.args.ty.now) c.in-Some.new.value (found s) e

pub node_with-keep-requires : goal.node_with-keep-requires
node_with-keep-requires t c =
    let old = c.args.self.now in
    let mid = c.known_with.new.self in
    let at = c.args.at in
    let node = c.in-Some-2.node in
    let new = c.in_ok-new-3.new.value in
    let is : slice_get old.types at ≡ Some (placed node) = sym c.in_ok-node.ensures.node ∙ ap (option_map placed) c.in-Some-2.is in
    subst (λ by. IsSound mid.types → MadeOf mid.types (partner_in by) at c.in_ok-share.field-0.value) (sym c.known_with.ensures.by)
    (subst (λ (x : Plain). IsSound mid.types → MadeOf mid.types (partner_in old.by) at x) (sym c.in_ok-share.ensures)
    (node-made old.types at node is mid.types (partner_in old.by) new c.known_with.ensures.longer c.known_with.ensures.grew
    (λ s. c.in_ok-new-3.ensures.made s (subst (λ links. AreLinks (trees old.types) links (slots_of node.known.value)) (sym c.as_slice.ensures) (node-links old.types at node is s)))
    (λ s. c.in_ok-new-3.ensures.has s (node-contains old.types at node is))))

pub node_with-returns-clause-made : goal.node_with-returns-clause-made
node_with-returns-clause-made t c = λ s e.
    let old = c.args.self.now in
    let node = c.in-Some-2.node in
    let is : slice_get old.types c.args.at ≡ Some (placed node) = sym c.in_ok-node.ensures.node ∙ ap (option_map placed) c.in-Some-2.is in
    c.in_ok-new-3.ensures.made s (subst (λ links. AreLinks (trees old.types) links (slots_of node.known.value)) (sym c.as_slice.ensures) (node-links old.types c.args.at node is s))
    ∙ ap (value_with (partner_in old.by)) (node-is old.types c.args.at node is (plain c.args.ty.now) e)

pub node_with-returns-clause-has : goal.node_with-returns-clause-has
node_with-returns-clause-has t c = λ s.
    let old = c.args.self.now in
    let node = c.in-Some-2.node in
    let is : slice_get old.types c.args.at ≡ Some (placed node) = sym c.in_ok-node.ensures.node ∙ ap (option_map placed) c.in-Some-2.is in
    subst (λ (w : Walk). Has w.types c.in_ok-new-3.new.value) (sym c.keep.ensures) (c.in_ok-new-3.ensures.has s (node-contains old.types c.args.at node is))

pub known_with-returns-then-not-facts-clause-made : goal.known_with-returns-then-not-facts-clause-made
known_with-returns-then-not-facts-clause-made t c = λ s links.
    let bare : has_handle c.args.known.now.value ≡ false = sym (c.facts-facts.ensures.handles ∙ ap has_handle c.deref.ensures) ∙ c.if-not-facts.true in
    stays-made (partner_in c.args.self.now.by) c.args.known.now.value c.in_ok-same.same.value bare c.in_ok-same.ensures

pub known_with-returns-clause-made : goal.known_with-returns-clause-made
known_with-returns-clause-made t c = λ s links.
    let old = c.args.self.now in
    let f = partner_in old.by in
    let ty = plain c.ty-ty.result.now in
    let is : ty ≡ c.args.known.now.value = c.ty-ty.ensures ∙ c.deref-2.ensures in
    let slice = ap values_of c.as_slice.ensures.value in
    let sound = (c.parts_with.ensures.grew s).sound s in
    let has = subst (HasEach c.parts_with.new.self.types) (sym slice) (c.in_ok-parts.ensures.has s) in
    let parts = c.in_ok-parts.ensures.made s (subst (λ p. AreLinks (trees old.types) c.args.links.now (slots_of p)) (sym is) links) in
    rebuilt-made f ty c.in_ok-new-2.new.value (values_of c.as_slice.result.now) (λ zero. c.if-form_number-eq0.false (c.form_number.ensures ∙ zero)) (slice ∙ parts) (c.in_ok-new-2.ensures.made sound has)
    ∙ ap (value_with f) is

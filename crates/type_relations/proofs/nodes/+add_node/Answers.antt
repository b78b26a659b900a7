use Rattle.std.proofs.Common.{◌≡◌, ◌∙◌, ◌<◌, arith, ap, refl, sym, subst, length, Option, Some, slice_get}
use Rattle.std.specs.Prelude.{option_map}
use Rattle.wit_types.specs.Plain.{Plain, plain}
use Rattle.comp_types.specs.GivenResources.{named_in_value}
use Rattle.type_table.specs.Slots.{slots_of}
use Rattle.type_table.specs.Nodes.{IsBelow, placed}
use Rattle.type_table.specs.Tables.{trees, Leads}
use Rattle.type_table.proofs.NodeLemmas.{below-at}
use Rattle.type_table.proofs.WalkParts.{links-as, no-node, tree_is}
use Rattle.type_relations.specs.Once.{and_each}
use Rattle.type_relations.specs.Searches.{Finds}
use Rattle.type_relations.proofs.SearchLemmas.{finds-written, finds-searched, finds-marked}
use Rattle.type_relations.proofs.SlotLemmas.{finds-led, finds-parts, going-part, going-parts}
use Rattle.type_relations.proofs.nodes.+add_node.Goals as goal

-- ---- a part

pub add_part-returns-in_ok-add_written-in-None : goal.add_part-returns-in_ok-add_written-in-None
add_part-returns-in_ok-add_written-in-None t c = λ sound leads. c.in_ok-add_written-in-None.ensures (trees c.args.types.now)

pub add_part-returns-in_ok-add_node-in-Some : goal.add_part-returns-in_ok-add_node-in-Some
add_part-returns-in_ok-add_node-in-Some t c = λ sound leads.
    let tys = trees c.args.types.now in
    let o : Option Plain = option_map (λ (x : _). plain x.now) c.args.ty in
    finds-led tys c.args.search.now c.add_node.new.search c.in-Some.at o (subst (λ l. Leads tys l o) c.in-Some.is leads) (c.in_ok-add_node-in-Some.ensures sound)

-- ---- all parts

pub add_parts-loop-index-init : goal.add_parts-loop-index-init
add_parts-loop-index-init t c = λ sound links h. (refl, h)

pub add_parts-add_part-requires : goal.add_parts-add_part-requires
add_parts-add_part-requires t c =
    let below = subst (IsBelow c.args.at) (sym c.link_at.ensures) (below-at c.args.at c.args.links.now c.loop-index.index c.requires) in
    (omega (arith, c.decreases), below)

pub add_parts-loop-index-preserved : goal.add_parts-loop-index-preserved
add_parts-loop-index-preserved t c = λ sound links.
    let parts = slots_of (plain c.args.ty.now) in
    let within : c.loop-index.index < length parts = omega (arith, c.loop-index-test.true, c.slot_count-index-end.ensures) in
    going-part (trees c.args.types.now) c.args.search.now c.loop-index.search c.add_part.new.search c.args.links.now parts c.loop-index.index within c.link_at.result c.link_at.ensures
    (option_map (λ (x : _). plain x.now) c.part_type.result) c.part_type.ensures links (c.in_ok-add_part.ensures sound) (c.loop-index.invariant sound links)

pub add_parts-returns : goal.add_parts-returns
add_parts-returns t c = λ sound links.
    let parts = slots_of (plain c.args.ty.now) in
    let end : c.loop-index.index ≡ length parts = omega arith in
    going-parts (trees c.args.types.now) c.args.search.now c.loop-index.search parts c.loop-index.index end (c.loop-index.invariant sound links)

-- ---- a type

pub add_unsearched-returns-then-form_number-eq0 : goal.add_unsearched-returns-then-form_number-eq0
add_unsearched-returns-then-form_number-eq0 t c = λ sound at.
    let old = c.args.search.now in
    let tree : plain c.ty-ty.result.now ≡ c.args.node.now.known.value = c.ty-ty.ensures ∙ c.deref.ensures in
    finds-written (trees c.args.types.now) old (record old { found = c.add_value.new.found }) (named_in_value c.args.node.now.known.value)
    (c.in_ok-add_value.ensures ∙ ap (λ p. and_each old.found (named_in_value p)) tree) refl

pub add_unsearched-returns : goal.add_unsearched-returns
add_unsearched-returns t c = λ sound at.
    let tys = trees c.args.types.now in
    let node = c.args.node.now in
    let p = plain c.ty-ty.result.now in
    let tree : p ≡ node.known.value = c.ty-ty.ensures ∙ c.deref.ensures in
    finds-parts tys c.args.search.now c.add_parts.new.search node.known.value p tree (λ zero. c.if-form_number-eq0.false (c.form_number.ensures ∙ zero))
    (c.in_ok-add_parts.ensures sound (links-as tys node.links c.as_slice.result.now node.known.value p c.as_slice.ensures tree (sound.linked c.args.at (placed node) at)))

-- ---- the type at a place

pub add_node-returns-then-has_searched : goal.add_node-returns-then-has_searched
add_node-returns-then-has_searched t c = λ sound ty e.
    finds-searched (trees c.args.types.now) c.args.search.now c.args.at (sym c.has_searched.ensures ∙ c.if-has_searched.true) ty e

pub add_node-returns-in_default : goal.add_node-returns-in_default
add_node-returns-in_default t c = λ sound ty e. absurd (no-node c.node.result c.args.types.now c.args.at ty c.in_default.not-Some c.node.ensures.node e)

pub add_node-returns : goal.add_node-returns
add_node-returns t c = λ sound ty e.
    let types = c.args.types.now in
    let node = c.in-Some.node.now in
    let at : slice_get types c.args.at ≡ Some (placed node) = sym c.node.ensures.node ∙ ap (option_map (λ (n : _). placed n.now)) c.in-Some.is in
    finds-marked (trees types) c.args.search.now c.add_unsearched.new.search c.mark.new.self c.args.at c.mark.ensures.found c.in_ok-mark.ensures.searched ty e
    (subst (λ p. Finds (trees types) c.args.search.now c.add_unsearched.new.search (named_in_value p)) (tree_is types c.args.at (placed node) ty at e) (c.in_ok-add_unsearched.ensures sound at))

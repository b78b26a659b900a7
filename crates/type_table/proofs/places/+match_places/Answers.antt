use Rattle.std.proofs.Common.{◌≡◌, ◌∙◌, ◌<◌, arith, ap, sym, subst, length, false, Option, Some, slice_get}
use Rattle.std.specs.Prelude.{option_map}
use Rattle.std.proofs.lemmas.Bool.{OnTrue_at}
use Rattle.wit_types.specs.Plain.{Plain, plain}
use Rattle.comp_facts.specs.Handles.{has_handle}
use Rattle.comp_types.specs.Matching.{matched_value}
use Rattle.type_table.specs.Slots.{slots_of, form_number, part_of}
use Rattle.type_table.specs.Nodes.{IsBelow, placed}
use Rattle.type_table.specs.Tables.{trees, Leads}
use Rattle.type_table.proofs.NodeLemmas.{below-at, leads-at}
use Rattle.type_table.proofs.HasLaws.{tree_at}
use Rattle.type_table.proofs.WalkParts.{walks-led, walks-both, walks-again, walks-itself, walks-of, walks-failed, walks-marked, walks-slots, walks-counts, links-as, keeps-sound, keeps-walk, no-node, no-slot, tree_is, other-name, other-type, same-part, all-parts}
use Rattle.type_table.proofs.places.+match_places.Goals as goal

pub match_nodes-returns-in_ok-same-2 : goal.match_nodes-returns-in_ok-same-2
match_nodes-returns-in_ok-same-2 t c = λ sound links others.
    let types = c.args.types.now in
    let a = c.args.a.now.known.value in
    let b = c.args.b.now.known.value in
    let p = plain c.ty-else-form-eq0.result.now in
    let q = plain c.ty-else-form-eq0-2.result.now in
    let x : p ≡ a = c.ty-else-form-eq0.ensures ∙ c.deref-else-form-eq0.ensures in
    let y : q ≡ b = c.ty-else-form-eq0-2.ensures ∙ c.deref-else-form-eq0-2.ensures in
    let form : c.form_number-form.result ≡ form_number a = c.form_number-form.ensures ∙ ap form_number (c.ty.ensures ∙ c.deref.ensures) in
    let other : c.form_number.result ≡ form_number b = c.form_number.ensures ∙ ap form_number (c.ty-2.ensures ∙ c.deref-2.ensures) in
    walks-slots types c.args.walked.now c.match_slots.new.walked c.in_ok-same-2.same a b p q x y (omega (arith, form, other)) (λ zero. c.if-form-eq0.false (form ∙ zero))
    (c.in_ok-same-2.ensures sound (links-as (trees types) c.args.a.now.links c.as_slice.result.now a p c.as_slice.ensures x links)
    (links-as (trees types) c.args.b.now.links c.as_slice-else-form-eq0.result.now b q c.as_slice-else-form-eq0.ensures y others))

pub match_parts-returns-in_ok-same-in-Some-Some-2-clause-met :
    goal.match_parts-returns-in_ok-same-in-Some-Some-2-clause-met
match_parts-returns-in_ok-same-in-Some-Some-2-clause-met t c = λ sound l k.
    let p : Option Plain = option_map (λ (x : _). plain x.now) c.args.a in
    let q : Option Plain = option_map (λ (x : _). plain x.now) c.args.b in
    walks-led c.args.types.now c.args.walked.now c.match_places.new.walked c.in_ok-same-in-Some-Some-2.same p q (plain c.in-Some-Some.a.now) (plain c.in-Some-Some.b.now) c.args.link c.args.other c.in-Some-Some-2.at c.in-Some-Some-2.other
    (ap (option_map (λ (x : _). plain x.now)) c.in-Some-Some.is-0) (ap (option_map (λ (x : _). plain x.now)) c.in-Some-Some.is-1) c.in-Some-Some-2.is-0 c.in-Some-Some-2.is-1 l k (c.in_ok-same-in-Some-Some-2.ensures.met sound)

pub match_parts-returns-in_ok-same-in-Some-None-2-clause-met :
    goal.match_parts-returns-in_ok-same-in-Some-None-2-clause-met
match_parts-returns-in_ok-same-in-Some-None-2-clause-met t c = λ sound l k.
    let p : Option Plain = option_map (λ (x : _). plain x.now) c.args.a in
    let q : Option Plain = option_map (λ (x : _). plain x.now) c.args.b in
    walks-both c.args.types.now c.args.walked.now c.match_written.new.walked c.in_ok-same-in-Some-None-2.same p q (plain c.in-Some-Some.a.now) (plain c.in-Some-Some.b.now)
    (ap (option_map (λ (x : _). plain x.now)) c.in-Some-Some.is-0) (ap (option_map (λ (x : _). plain x.now)) c.in-Some-Some.is-1) (c.in_ok-same-in-Some-None-2.ensures c.args.types.now)

pub match_parts-returns-in_ok-same-in-None-Some-2-clause-met :
    goal.match_parts-returns-in_ok-same-in-None-Some-2-clause-met
match_parts-returns-in_ok-same-in-None-Some-2-clause-met t c = λ sound l k.
    let p : Option Plain = option_map (λ (x : _). plain x.now) c.args.a in
    let q : Option Plain = option_map (λ (x : _). plain x.now) c.args.b in
    walks-both c.args.types.now c.args.walked.now c.match_written-in-None-Some-2.new.walked c.in_ok-same-in-None-Some-2.same p q (plain c.in-Some-Some.a.now) (plain c.in-Some-Some.b.now)
    (ap (option_map (λ (x : _). plain x.now)) c.in-Some-Some.is-0) (ap (option_map (λ (x : _). plain x.now)) c.in-Some-Some.is-1) (c.in_ok-same-in-None-Some-2.ensures c.args.types.now)

pub match_parts-returns-in_ok-same-in-None-None-2-clause-met :
    goal.match_parts-returns-in_ok-same-in-None-None-2-clause-met
match_parts-returns-in_ok-same-in-None-None-2-clause-met t c = λ sound l k.
    let p : Option Plain = option_map (λ (x : _). plain x.now) c.args.a in
    let q : Option Plain = option_map (λ (x : _). plain x.now) c.args.b in
    walks-both c.args.types.now c.args.walked.now c.match_written-in-None-None-2.new.walked c.in_ok-same-in-None-None-2.same p q (plain c.in-Some-Some.a.now) (plain c.in-Some-Some.b.now)
    (ap (option_map (λ (x : _). plain x.now)) c.in-Some-Some.is-0) (ap (option_map (λ (x : _). plain x.now)) c.in-Some-Some.is-1) (c.in_ok-same-in-None-None-2.ensures c.args.types.now)

pub match_places-returns-then-has_met-clause-met :
    goal.match_places-returns-then-has_met-clause-met
match_places-returns-then-has_met-clause-met t c = λ sound a b e f.
    walks-again c.args.types.now c.args.at c.args.other a b e f c.args.walked.now sound (OnTrue_at c.if-has_met.true c.has_met.ensures)

pub match_places-returns-in_default-clause-met : goal.match_places-returns-in_default-clause-met
match_places-returns-in_default-clause-met t c = λ sound a b e f.
    absurd (no-node c.node.result c.args.types.now c.args.at a c.in_default.not-Some c.node.ensures.node e)

pub match_places-returns-in_default-node-clause-met :
    goal.match_places-returns-in_default-node-clause-met
match_places-returns-in_default-node-clause-met t c = λ sound a b e f.
    absurd (no-node c.node-2.result c.args.types.now c.args.other b c.in_default-node.not-Some c.node-2.ensures.node f)

pub match_places-returns-then-not-facts-clause-met :
    goal.match_places-returns-then-not-facts-clause-met
match_places-returns-then-not-facts-clause-met t c = λ sound a b e f.
    let types = c.args.types.now in
    let x = c.in-Some.a.now in
    let at : slice_get types c.args.at ≡ Some (placed x) = sym c.node.ensures.node ∙ ap (option_map (λ (n : _). placed n.now)) c.in-Some.is in
    let bare : has_handle a ≡ false = sym (c.facts.ensures.handles ∙ ap has_handle (c.deref.ensures ∙ tree_is types c.args.at (placed x) a at e)) ∙ c.if-not-facts.true in
    walks-itself types c.args.at c.args.other a b e f c.args.walked.now c.if-at-other.true bare

pub match_places-returns-then-not-branch-clause-met :
    goal.match_places-returns-then-not-branch-clause-met
match_places-returns-then-not-branch-clause-met t c = λ sound a b e f.
    let types = c.args.types.now in
    let x = c.in-Some.a.now in
    let y = c.in-Some-node.b.now in
    let at : slice_get types c.args.at ≡ Some (placed x) = sym c.node.ensures.node ∙ ap (option_map (λ (n : _). placed n.now)) c.in-Some.is in
    let to : slice_get types c.args.other ≡ Some (placed y) = sym c.node-2.ensures.node ∙ ap (option_map (λ (n : _). placed n.now)) c.in-Some-node.is in
    walks-failed types c.args.walked.now c.match_nodes.new.walked c.match_nodes.new.walked _ (matched_value c.args.walked.now.by a b)
    (walks-of types c.args.walked.now c.match_nodes.new.walked _ a b x.known.value y.known.value (tree_is types c.args.at (placed x) a at e) (tree_is types c.args.other (placed y) b to f)
    (c.in_ok-match_nodes.ensures sound (sound.linked c.args.at (placed x) at) (sound.linked c.args.other (placed y) to)))
    c.if-not-branch.true

pub match_places-returns-clause-kept : goal.match_places-returns-clause-kept
match_places-returns-clause-kept t c =
    let types = c.args.types.now in
    let old = c.args.walked.now in
    let mid = c.match_nodes.new.walked in
    let new = c.mark.new.self in
    let x = c.in-Some.a.now in
    let y = c.in-Some-node.b.now in
    let at : slice_get types c.args.at ≡ Some (placed x) = sym c.node.ensures.node ∙ ap (option_map (λ (n : _). placed n.now)) c.in-Some.is in
    let to : slice_get types c.args.other ≡ Some (placed y) = sym c.node-2.ensures.node ∙ ap (option_map (λ (n : _). placed n.now)) c.in-Some-node.is in
    keeps-sound types old new _ (λ sound. keeps-walk types old new _ (matched_value old.by x.known.value y.known.value)
    (walks-marked types c.args.at c.args.other x.known.value y.known.value (tree_at types c.args.at (placed x) at) (tree_at types c.args.other (placed y) to) old mid new _
    (c.in_ok-match_nodes.ensures sound (sound.linked c.args.at (placed x) at) (sound.linked c.args.other (placed y) to))
    c.if-not-branch.false c.in_ok-mark.ensures.met c.mark.ensures.by))

pub match_places-returns-clause-met : goal.match_places-returns-clause-met
match_places-returns-clause-met t c = λ sound a b e f.
    let types = c.args.types.now in
    let old = c.args.walked.now in
    let mid = c.match_nodes.new.walked in
    let x = c.in-Some.a.now in
    let y = c.in-Some-node.b.now in
    let at : slice_get types c.args.at ≡ Some (placed x) = sym c.node.ensures.node ∙ ap (option_map (λ (n : _). placed n.now)) c.in-Some.is in
    let to : slice_get types c.args.other ≡ Some (placed y) = sym c.node-2.ensures.node ∙ ap (option_map (λ (n : _). placed n.now)) c.in-Some-node.is in
    walks-marked types c.args.at c.args.other a b e f old mid c.mark.new.self _
    (walks-of types old mid _ a b x.known.value y.known.value (tree_is types c.args.at (placed x) a at e) (tree_is types c.args.other (placed y) b to f)
    (c.in_ok-match_nodes.ensures sound (sound.linked c.args.at (placed x) at) (sound.linked c.args.other (placed y) to)))
    c.if-not-branch.false c.in_ok-mark.ensures.met c.mark.ensures.by

pub match_slots-returns-then-count-slot_count : goal.match_slots-returns-then-count-slot_count
match_slots-returns-then-count-slot_count t c = λ sound l k.
    walks-counts c.args.types.now c.args.walked.now c.args.walked.now (slots_of (plain c.args.a.now)) (slots_of (plain c.args.b.now))
    (λ e. c.if-count-slot_count.true (c.slot_count-count.ensures ∙ (e ∙ sym c.slot_count.ensures)))

pub match_slots-returns-in_default : goal.match_slots-returns-in_default
match_slots-returns-in_default t c = λ sound l k.
    let ps = slots_of (plain c.args.a.now) in
    let lt : c.loop-index.index < length ps = omega arith in
    absurd (no-slot c.slot_at.result ps c.loop-index.index c.in_default.not-Some c.slot_at.ensures lt)

pub match_slots-returns-in_default-slot_at : goal.match_slots-returns-in_default-slot_at
match_slots-returns-in_default-slot_at t c = λ sound l k.
    let qs = slots_of (plain c.args.b.now) in
    let lt : c.loop-index.index < length qs = omega (arith, c.loop-index.invariant.as_many) in
    absurd (no-slot c.slot_at-in-loop-index.result qs c.loop-index.index c.in_default-slot_at.not-Some c.slot_at-in-loop-index.ensures lt)

pub match_slots-returns-then-not-same_name : goal.match_slots-returns-then-not-same_name
match_slots-returns-then-not-same_name t c = λ sound l k.
    let types = c.args.types.now in
    let ps = slots_of (plain c.args.a.now) in
    let qs = slots_of (plain c.args.b.now) in
    let i = c.loop-index.index in
    let p = part_of c.in-Some.x in
    let q = part_of c.in-Some-slot_at.y in
    let is : slice_get ps i ≡ Some p = sym c.slot_at.ensures ∙ ap (option_map part_of) c.in-Some.is in
    let other : slice_get qs i ≡ Some q = sym c.slot_at-in-loop-index.ensures ∙ ap (option_map part_of) c.in-Some-slot_at.is in
    other-name types c.args.walked.now c.loop-index.walked ps qs i (c.loop-index.invariant.met sound l k) p q is other c.loop-index.walked (sym c.same_name.ensures ∙ c.if-not-same_name.true)

pub match_slots-match_parts-requires : goal.match_slots-match_parts-requires
match_slots-match_parts-requires t c =
    let below = subst (IsBelow c.args.at) (sym c.link_at.ensures) (below-at c.args.at c.args.links.now c.loop-index.index c.requires) in
    (omega (arith, c.decreases), below)

pub match_slots-returns-then-not-branch : goal.match_slots-returns-then-not-branch
match_slots-returns-then-not-branch t c = λ sound l k.
    let types = c.args.types.now in
    let ps = slots_of (plain c.args.a.now) in
    let qs = slots_of (plain c.args.b.now) in
    let i = c.loop-index.index in
    let p = part_of c.in-Some.x in
    let q = part_of c.in-Some-slot_at.y in
    let is : slice_get ps i ≡ Some p = sym c.slot_at.ensures ∙ ap (option_map part_of) c.in-Some.is in
    let other : slice_get qs i ≡ Some q = sym c.slot_at-in-loop-index.ensures ∙ ap (option_map part_of) c.in-Some-slot_at.is in
    let first = subst (λ o. Leads (trees types) o p.1) (sym c.link_at.ensures) (leads-at (trees types) c.args.links.now ps i p l is) in
    let second = subst (λ o. Leads (trees types) o q.1) (sym c.link_at-in-loop-index.ensures) (leads-at (trees types) c.args.others.now qs i q k other) in
    other-type types c.args.walked.now c.loop-index.walked ps qs i (c.loop-index.invariant.met sound l k) p q is other c.match_parts.new.walked _
    (c.in_ok-match_parts.ensures.met sound first second) c.if-not-branch.true

pub match_slots-loop-index-preserved : goal.match_slots-loop-index-preserved
match_slots-loop-index-preserved t c = record {
  as_many = c.loop-index.invariant.as_many;
  met = λ sound l k.
      let types = c.args.types.now in
      let ps = slots_of (plain c.args.a.now) in
      let qs = slots_of (plain c.args.b.now) in
      let i = c.loop-index.index in
      let p = part_of c.in-Some.x in
      let q = part_of c.in-Some-slot_at.y in
      let is : slice_get ps i ≡ Some p = sym c.slot_at.ensures ∙ ap (option_map part_of) c.in-Some.is in
      let other : slice_get qs i ≡ Some q = sym c.slot_at-in-loop-index.ensures ∙ ap (option_map part_of) c.in-Some-slot_at.is in
      let first = subst (λ o. Leads (trees types) o p.1) (sym c.link_at.ensures) (leads-at (trees types) c.args.links.now ps i p l is) in
      let second = subst (λ o. Leads (trees types) o q.1) (sym c.link_at-in-loop-index.ensures) (leads-at (trees types) c.args.others.now qs i q k other) in
      same-part types c.args.walked.now c.loop-index.walked ps qs i (c.loop-index.invariant.met sound l k) p q is other c.match_parts.new.walked _
      (c.in_ok-match_parts.ensures.met sound first second) (sym c.same_name.ensures ∙ c.if-not-same_name.false) c.if-not-branch.false;
}

pub match_slots-returns : goal.match_slots-returns
match_slots-returns t c = λ sound l k.
    let ps = slots_of (plain c.args.a.now) in
    let qs = slots_of (plain c.args.b.now) in
    let first : c.loop-index.index ≡ length ps = omega arith in
    let second : c.loop-index.index ≡ length qs = omega (arith, c.loop-index.invariant.as_many) in
    all-parts c.args.types.now c.args.walked.now c.loop-index.walked ps qs c.loop-index.index (c.loop-index.invariant.met sound l k) first second

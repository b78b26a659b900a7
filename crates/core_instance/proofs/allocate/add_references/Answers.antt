use Rattle.std.proofs.Common.{length, ap, sym, subst, ◌∙◌}
use Rattle.core_instance.specs.Constants.{refs_of}
use Rattle.core_store.specs.Table.{AreRefs}
use Rattle.core_instance.proofs.PlaceLemmas.{refs_there}
use Rattle.core_instance.proofs.GrowLemmas.{elements_more, grown_length}
use Rattle.core_instance.proofs.RangeLemmas.{places_more}
use Rattle.core_instance.proofs.allocate.add_references.Goals as goal

pub loop-segment-preserved : goal.loop-segment-preserved
loop-segment-preserved c =
    let i = c.loop-segment.segment-index in
    let s = c.args.store.now in
    let count = grown_length (refs_of c.args.names.now) s.elements c.args.segments.now i _ c.loop-segment-test.true (ap (λ s. s.elements) c.loop-segment.invariant.0) in (
      elements_more (refs_of c.args.names.now) s c.loop-segment.store _ c.args.segments.now i c.segment-item.result _ c.loop-segment-test.true (c.in_ok-refs.ensures ∙ ap (refs_of c.args.names.now) c.segment-item.is) c.loop-segment.invariant.0 c.in_ok-at.ensures.2,
      places_more c.args.places.now c.loop-segment.places _ (length s.elements) i c.in_ok-at.at c.loop-segment.invariant.1 (c.in_ok-at.ensures.0 ∙ count) c.in_ok-push.ensures.ok,
    )

pub add_elements-requires : goal.add_elements-requires
add_elements-requires c =
    let count = ap (λ s. length s.functions) c.loop-segment.invariant.0 in
    let there = refs_there (length c.args.store.now.functions) c.args.names.now c.segment-item.result c.requires in
    subst (λ n. AreRefs n c.in_ok-refs.refs) (sym count) (subst (AreRefs (length c.args.store.now.functions)) (sym c.in_ok-refs.ensures) there)

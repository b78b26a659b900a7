use Rattle.std.proofs.Common.{length, ap, ◌∙◌}
use Rattle.core_instance.specs.Instantiation.{bytes_of}
use Rattle.core_instance.proofs.GrowLemmas.{segments_more, grown_length}
use Rattle.core_instance.proofs.RangeLemmas.{places_more}
use Rattle.core_instance.proofs.allocate.add_segments.Goals as goal

pub loop-segment-preserved : goal.loop-segment-preserved
loop-segment-preserved c =
    let i = c.loop-segment.segment-index in
    let s = c.args.store.now in
    let count = grown_length (bytes_of) s.segments c.args.segments.now i _ c.loop-segment-test.true (ap (λ s. s.segments) c.loop-segment.invariant.0) in (
      segments_more (bytes_of) s c.loop-segment.store _ c.args.segments.now i c.segment-item.result _ c.loop-segment-test.true (c.bytes_of.ensures ∙ ap bytes_of c.segment-item.is) c.loop-segment.invariant.0 c.in_ok-at.ensures.2,
      places_more c.args.places.now c.loop-segment.places _ (length s.segments) i c.in_ok-at.at c.loop-segment.invariant.1 (c.in_ok-at.ensures.0 ∙ count) c.in_ok-push.ensures.ok,
    )

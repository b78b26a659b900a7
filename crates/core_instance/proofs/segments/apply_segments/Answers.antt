use Rattle.std.proofs.Common.{rules, length, ◌∙◌}
use Rattle.core_instance.proofs.LoopLemmas.{place_is, segments_begin, segments_held, segments_go_on, segments_stop, leaves_as}
use Rattle.core_instance.proofs.segments.apply_segments.Goals as goal

pub loop-index-init : goal.loop-index-init
loop-index-init c = segments_begin c.args.places.now c.args.names.now c.args.store.now _ c.args.segments.now c.requires.held

pub bounds-as_slice-index : goal.bounds-as_slice-index
bounds-as_slice-index c = (place_is c.as_slice.result.now _ (length c.args.segments.now) c.loop-index.index 0 (c.as_slice.ensures ∙ c.requires.places) c.loop-index-test.true).0

pub apply_data-requires-clause-there : goal.apply_data-requires-clause-there
apply_data-requires-clause-there c =
    let place = place_is c.as_slice.result.now _ (length c.args.segments.now) c.loop-index.index 0 (c.as_slice.ensures ∙ c.requires.places) c.loop-index-test.true in
    (segments_held c.args.places.now c.args.names.now c.args.store.now c.loop-index.store _ c.loop-index.index _ c.args.segments.now c.index-segments-index.result place.1 c.loop-index-test.true c.index-segments-index.is c.loop-index.invariant).0

pub apply_data-requires-clause-held : goal.apply_data-requires-clause-held
apply_data-requires-clause-held c =
    let place = place_is c.as_slice.result.now _ (length c.args.segments.now) c.loop-index.index 0 (c.as_slice.ensures ∙ c.requires.places) c.loop-index-test.true in
    (segments_held c.args.places.now c.args.names.now c.args.store.now c.loop-index.store _ c.loop-index.index _ c.args.segments.now c.index-segments-index.result place.1 c.loop-index-test.true c.index-segments-index.is c.loop-index.invariant).1

pub loop-index-preserved : goal.loop-index-preserved
loop-index-preserved c =
    let place = place_is c.as_slice.result.now _ (length c.args.segments.now) c.loop-index.index 0 (c.as_slice.ensures ∙ c.requires.places) c.loop-index-test.true in
    segments_go_on c.args.places.now c.args.names.now c.args.store.now c.loop-index.store _ _ c.loop-index.index _ c.args.segments.now c.index-segments-index.result place.1 c.loop-index-test.true c.index-segments-index.is c.loop-index.invariant c.in_ok-apply_data.ensures

pub returns-in_err-apply_data : goal.returns-in_err-apply_data
returns-in_err-apply_data c =
    let place = place_is c.as_slice.result.now _ (length c.args.segments.now) c.loop-index.index 0 (c.as_slice.ensures ∙ c.requires.places) c.loop-index-test.true in
    leaves_as _ _ _ c.from_residual.result c.in_err-apply_data.field-0.0 (search (rules, c.from_residual.ensures)) c.in_err-apply_data.ensures (segments_stop c.args.places.now c.args.names.now c.args.store.now c.loop-index.store _ _ c.loop-index.index _ c.args.segments.now c.index-segments-index.result place.1 c.loop-index-test.true c.index-segments-index.is c.loop-index.invariant)

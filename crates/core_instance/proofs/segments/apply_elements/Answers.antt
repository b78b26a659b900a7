use Rattle.std.proofs.Common.{length, ◌∙◌}
use Rattle.core_instance.proofs.LoopLemmas.{place_is, elements_begin, elements_held, elements_go_on, elements_stop, leaves_err}
use Rattle.core_instance.proofs.segments.apply_elements.Goals as goal

pub loop-index-init : goal.loop-index-init
loop-index-init c = elements_begin c.args.places.now c.args.names.now c.args.store.now _ c.args.segments.now c.requires.held

pub bounds-as_slice-index : goal.bounds-as_slice-index
bounds-as_slice-index c = (place_is c.as_slice.result.now _ (length c.args.segments.now) c.loop-index.index 0 (c.as_slice.ensures ∙ c.requires.places) c.loop-index-test.true).0

pub apply_element-requires-clause-there : goal.apply_element-requires-clause-there
apply_element-requires-clause-there c =
    let place = place_is c.as_slice.result.now _ (length c.args.segments.now) c.loop-index.index 0 (c.as_slice.ensures ∙ c.requires.places) c.loop-index-test.true in
    (elements_held c.args.places.now c.args.names.now c.args.store.now c.loop-index.store _ c.loop-index.index _ c.args.segments.now c.index-segments-index.result place.1 c.loop-index-test.true c.index-segments-index.is c.loop-index.invariant).0

pub apply_element-requires-clause-held : goal.apply_element-requires-clause-held
apply_element-requires-clause-held c =
    let place = place_is c.as_slice.result.now _ (length c.args.segments.now) c.loop-index.index 0 (c.as_slice.ensures ∙ c.requires.places) c.loop-index-test.true in
    (elements_held c.args.places.now c.args.names.now c.args.store.now c.loop-index.store _ c.loop-index.index _ c.args.segments.now c.index-segments-index.result place.1 c.loop-index-test.true c.index-segments-index.is c.loop-index.invariant).1

pub loop-index-preserved : goal.loop-index-preserved
loop-index-preserved c =
    let place = place_is c.as_slice.result.now _ (length c.args.segments.now) c.loop-index.index 0 (c.as_slice.ensures ∙ c.requires.places) c.loop-index-test.true in
    elements_go_on c.args.places.now c.args.names.now c.args.store.now c.loop-index.store _ _ c.loop-index.index _ c.args.segments.now c.index-segments-index.result place.1 c.loop-index-test.true c.index-segments-index.is c.loop-index.invariant c.in_ok-apply_element.ensures

pub returns-in_err-apply_element : goal.returns-in_err-apply_element
returns-in_err-apply_element c =
    let place = place_is c.as_slice.result.now _ (length c.args.segments.now) c.loop-index.index 0 (c.as_slice.ensures ∙ c.requires.places) c.loop-index-test.true in
    leaves_err _ _ c.from_residual.result c.from_residual.ensures.0 (elements_stop c.args.places.now c.args.names.now c.args.store.now c.loop-index.store _ _ c.loop-index.index _ c.args.segments.now c.index-segments-index.result place.1 c.loop-index-test.true c.index-segments-index.is c.loop-index.invariant c.in_err-apply_element.ensures)

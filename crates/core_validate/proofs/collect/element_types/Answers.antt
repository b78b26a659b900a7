use Rattle.std.proofs.Common.{◌≡◌, ◌∙◌, ap, sym, ◌++◌, [], ◌∷◌, map, take}
use Rattle.core_validate.specs.Spaces.{element_type}
use Rattle.core_validate.proofs.GatherLemmas.{map-step, map-all}
use Rattle.core_validate.proofs.collect.element_types.Goals as goal

pub loop-elements-preserved : goal.loop-elements-preserved
loop-elements-preserved c =
    let x = c.elements-item.result in
    let i = c.loop-elements.elements-index in
    c.in_ok-push.ensures.items ∙ ap (λ l. l ++ c.element_type.result ∷ []) c.loop-elements.invariant
    ∙ ap (λ y. map element_type (take i c.args.segments.now) ++ y ∷ []) c.element_type.ensures
    ∙ sym (map-step element_type c.args.segments.now i x c.loop-elements-test.true c.elements-item.is)

pub returns : goal.returns
returns c = c.loop-elements.invariant ∙ map-all element_type c.args.segments.now c.loop-elements.elements-index c.loop-elements-test.false

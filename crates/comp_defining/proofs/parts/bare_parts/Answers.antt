use Rattle.std.proofs.Common.{◌≡◌, ◌∙◌, ◌+◌, ◌∷◌, ◌++◌, [], ap, sym, subst, take}
use Rattle.std.proofs.lemmas.List.{take_more}
use Rattle.wit_types.specs.Plain.{Name, Parts, bare}
use Rattle.comp_types.specs.Known.{AreKnownOf}
use Rattle.comp_defining.proofs.PartLemmas.{bare-and}
use Rattle.comp_defining.proofs.parts.bare_parts.Goals as goal

pub loop-label-preserved : goal.loop-label-preserved
loop-label-preserved c =
    let labels = c.args.labels.now in
    let i = c.loop-label.label-index in
    let x = c.label-item.result in
    let name : c.bytes.result.now ≡ x = c.bytes.ensures.value in
    let more : take (i + 1) labels ≡ take i labels ++ x ∷ [] = take_more labels i x c.loop-label-test.true ∙ ap (λ (y : Name). take i labels ++ y ∷ []) (sym c.label-item.is) in
    subst (λ (ps : Parts). AreKnownOf ps c.add_bare.new.self) (bare-and (take i labels) c.bytes.result.now ∙ (ap (λ (y : Name). bare (take i labels ++ y ∷ [])) name ∙ ap bare (sym more)))
    (c.add_bare.ensures (bare (take i labels)) c.loop-label.invariant)

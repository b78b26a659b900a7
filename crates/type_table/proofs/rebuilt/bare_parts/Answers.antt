use Rattle.std.proofs.Common.{◌≡◌, ◌∙◌, ◌+◌, ap, sym, subst, [], ◌∷◌, ◌++◌, take}
use Rattle.std.proofs.lemmas.List.{take_more}
use Rattle.wit_types.specs.Plain.{Parts, bare}
use Rattle.comp_facts.specs.Facts.{and_bare}
use Rattle.comp_types.specs.Known.{AreKnownOf}
use Rattle.type_table.proofs.RebuiltLemmas.{labels-and}
use Rattle.type_table.proofs.rebuilt.bare_parts.Goals as goal

pub loop-label-preserved : goal.loop-label-preserved
loop-label-preserved c =
    let labels = c.args.labels.now in
    let i = c.loop-label.label-index in
    let x = c.label-item.result in
    let more : take (i + 1) labels ≡ take i labels ++ x ∷ [] = take_more labels i x c.loop-label-test.true ∙ ap (λ y. take i labels ++ y ∷ []) (sym c.label-item.is) in
    let is : bare (take (i + 1) labels) ≡ and_bare (bare (take i labels)) c.bytes.result.now = ap bare more ∙ (labels-and (take i labels) x ∙ ap (and_bare (bare (take i labels))) (sym c.bytes.ensures.value)) in
    subst (λ (ps : Parts). AreKnownOf ps c.add_bare.new.self) (sym is) (c.add_bare.ensures (bare (take i labels)) c.loop-label.invariant)

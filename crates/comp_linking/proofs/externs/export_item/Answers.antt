use Rattle.comp_link.specs.Plans.{Exports, just}
use Rattle.comp_linking.proofs.externs.export_item.Goals as goal

pub returns : goal.returns
returns c = λ ms cs s h covers.
    let d = c.in_ok-stated.ensures s h covers in
    (λ i. just (Exports (c.in_ok-name.ensures i) (c.item_at-item.ensures s h i) (d.0 i)), d.1)

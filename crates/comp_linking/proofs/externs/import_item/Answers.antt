use Rattle.comp_link.specs.Plans.{Imports, just}
use Rattle.comp_linking.proofs.externs.import_item.Goals as goal

pub returns : goal.returns
returns c = λ ms cs s h covers.
    let d = c.in_ok-item.ensures s h covers in
    (λ i. just (Imports (c.in_ok-name.ensures i) (d.0 i)), d.1)

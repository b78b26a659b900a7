use Rattle.comp_linking.proofs.externs.described.Goals as goal

pub returns : goal.returns
returns c = λ s h covers.
    let d = c.in_ok-described.ensures s h covers in
    (d.is.item, d.grew)

use Rattle.std.proofs.Common.{◌+◌, take, drop, ◌∷◌, sym, ap, ◌∙◌, add-one}
use Rattle.std.proofs.lemmas.List.{take_rest}
use Rattle.tree_table.specs.Paths.{parts_of}
use Rattle.tree_table.proofs.PartLemmas.{parts-all, parts-first, position-none, position-some}
use Rattle.tree_table.proofs.parts.first_part.Goals as goal

pub returns-in-Some-clause-more : goal.returns-in-Some-clause-more
returns-in-Some-clause-more c =
    let there = position-some c.args.text.now c.in-Some.at (sym c.slash.ensures ∙ c.in-Some.is) in
    parts-first c.args.text.now c.in-Some.at there.0 there.1
    ∙ ap (λ n. take c.in-Some.at c.args.text.now ∷ parts_of (drop n c.args.text.now)) (sym (add-one c.in-Some.at))
    ∙ ap (λ rest. take c.in-Some.at c.args.text.now ∷ parts_of rest) (sym (take_rest c.args.text.now (c.in-Some.at + 1)))

pub returns-in-None-clause-last : goal.returns-in-None-clause-last
returns-in-None-clause-last c = parts-all c.args.text.now (position-none c.args.text.now (sym c.slash.ensures ∙ c.in-None.is))

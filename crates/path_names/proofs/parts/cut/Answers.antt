use Rattle.std.proofs.Common.{◌∙◌, ap, sym, take, drop, ◌∷◌}
use Rattle.std.specs.Prelude.{Some, option_map, ◌+◌}
use Rattle.path_names.specs.Parts.{parts_of}
use Rattle.path_names.proofs.PartLemmas.{all_behind, part_ends, last_part}
use Rattle.path_names.proofs.parts.cut.Goals as goal

pub returns-in-None-clause-parts : goal.returns-in-None-clause-parts
returns-in-None-clause-parts c = last_part c.args.byte c.args.text.now (sym c.place_of.ensures.place ∙ c.in-None.is)

pub returns-in-Some-clause-parts : goal.returns-in-Some-clause-parts
returns-in-Some-clause-parts c =
    part_ends c.args.byte c.args.text.now c.in-Some.place (sym c.place_of.ensures.place ∙ c.in-Some.is)
    ∙ ap (λ more. take c.in-Some.place c.args.text.now ∷ parts_of c.args.byte more) (sym (all_behind c.args.text.now (c.in-Some.place + 1)))

pub returns-in-Some-clause-value : goal.returns-in-Some-clause-value
returns-in-Some-clause-value c =
    ap (λ more. Some (take c.in-Some.place c.args.text.now, more)) (all_behind c.args.text.now (c.in-Some.place + 1))
    ∙ ap (λ o. option_map (λ place. (take place c.args.text.now, drop (place + 1) c.args.text.now)) o) (sym c.in-Some.is ∙ c.place_of.ensures.place)

use Rattle.std.proofs.Common.{◌∙◌, ap, []}
use Rattle.wit_types.specs.Plain.{types_of}
use Rattle.comp_facts.specs.Facts.{and_part}
use Rattle.comp_defining.proofs.PartLemmas.{types-and}
use Rattle.comp_defining.proofs.parts.push_type.Goals as goal

pub returns : goal.returns
returns c =
    ap types_of c.in_ok-push.ensures.items
    ∙ (types-and c.args.types.now.items c.in_ok-ty.ty
    ∙ ap (and_part (types_of c.args.types.now.items) []) (c.in_ok-ty.ensures ∙ c.ty.ensures))

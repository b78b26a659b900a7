use Rattle.std.proofs.Common.{◌∙◌, ap, []}
use Rattle.wit_types.specs.Plain.{types_of}
use Rattle.comp_facts.specs.Facts.{and_part}
use Rattle.type_table.proofs.RebuiltLemmas.{types-and}
use Rattle.type_table.proofs.rebuilt.push_type.Goals as goal

pub returns : goal.returns
returns c =
    let old = c.args.types.now.items in
    ap types_of c.in_ok-push.ensures.items ∙ (types-and old _ ∙ ap (and_part (types_of old) []) (c.in_ok-ty.ensures ∙ c.ty.ensures))

use Rattle.std.proofs.Common.{◌∙◌, ap}
use Rattle.wit_types.specs.Plain.{fields_of, plain}
use Rattle.comp_facts.specs.Facts.{and_part}
use Rattle.comp_defining.proofs.PartLemmas.{fields-and}
use Rattle.comp_defining.proofs.parts.push_field.Goals as goal

pub returns : goal.returns
returns c =
    ap fields_of c.in_ok-push.ensures.items
    ∙ (fields-and c.args.fields.now.items _
    ∙ (ap (λ n. and_part (fields_of c.args.fields.now.items) n (plain c.in_ok-ty.ty)) c.in_ok-name.ensures
    ∙ ap (and_part (fields_of c.args.fields.now.items) c.args.name.now) (c.in_ok-ty.ensures ∙ c.ty.ensures)))

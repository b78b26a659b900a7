use Rattle.std.proofs.Common.{◌∙◌, ap}
use Rattle.wit_types.specs.Plain.{fields_of}
use Rattle.type_table.proofs.RebuiltLemmas.{field-more}
use Rattle.type_table.proofs.rebuilt.push_field.Goals as goal

pub returns : goal.returns
returns c = ap fields_of c.in_ok-push.ensures.items ∙ field-more c.args.fields.now.items _ c.args.name.now c.args.value.now c.in_ok-name.ensures (c.in_ok-ty.ensures ∙ c.ty.ensures)

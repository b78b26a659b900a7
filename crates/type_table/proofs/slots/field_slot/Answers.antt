use Rattle.std.proofs.Common.{◌∙◌, ap, Some}
use Rattle.wit_types.specs.declared.types.Field.{Field, out-Field}
use Rattle.wit_types.specs.Plain.{Name, plain}
use Rattle.type_table.proofs.SlotLemmas.{got-none, got-some, field-slots}
use Rattle.type_table.proofs.slots.field_slot.Goals as goal

pub returns-in-None : goal.returns-in-None
returns-in-None c = got-none (λ (f : Field). ((out-Field f).name, Some (plain (out-Field f).ty))) _ c.get.result c.args.fields.now c.args.index (field-slots c.args.fields.now c.args.index) c.get.ensures.lookup.0 c.get.ensures.lookup.1 c.in-None.is

pub returns-in-Some : goal.returns-in-Some
returns-in-Some c = ap (λ (n : Name). Some (n, Some (plain (out-Field c.in-Some.field.now).ty))) c.bytes.ensures.value ∙ got-some (λ (f : Field). ((out-Field f).name, Some (plain (out-Field f).ty))) _ c.get.result c.args.fields.now c.args.index c.in-Some.field (field-slots c.args.fields.now c.args.index) c.get.ensures.lookup.0 c.get.ensures.lookup.1 c.in-Some.is

use Rattle.std.proofs.Common.{◌≡◌, take}
use Rattle.wit_types.specs.Plain.{fields_of}
use Rattle.wit_types.proofs.type_copies.copy_fields.Given as goal

abbrev pub invariant-loop-field : goal.invariant-loop-field
invariant-loop-field l = fields_of l.items.items ≡ fields_of (take l.field-index l.fields)

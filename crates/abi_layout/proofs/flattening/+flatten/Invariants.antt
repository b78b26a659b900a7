use Rattle.std.proofs.Common.{◌≡◌, drop}
use Rattle.abi_layout.specs.Flat.{types_of, within, add_within, join_within}
use Rattle.wit_types.specs.Layout.{flat_fields, flat_cases}
use Rattle.wit_types.specs.Plain.{fields_of, cases_of, types_of as parts_of}
use Rattle.abi_layout.proofs.flattening.+flatten.Given as goal

abbrev pub invariant-flatten_fields-loop-field : goal.invariant-flatten_fields-loop-field
invariant-flatten_fields-loop-field l = add_within (types_of l.all) (flat_fields (fields_of (drop l.field-index l.fields))) ≡ within (flat_fields (fields_of l.fields))

abbrev pub invariant-flatten_types-loop-ty : goal.invariant-flatten_types-loop-ty
invariant-flatten_types-loop-ty l = add_within (types_of l.all) (flat_fields (parts_of (drop l.ty-index l.types))) ≡ within (flat_fields (parts_of l.types))

abbrev pub invariant-flatten_cases-loop-case : goal.invariant-flatten_cases-loop-case
invariant-flatten_cases-loop-case l = join_within (types_of l.all) (within (flat_cases (cases_of (drop l.case-index l.cases)))) ≡ within (flat_cases (cases_of l.cases))

use Rattle.std.proofs.Common.{◌≡◌, ◌+◌, drop}
use Rattle.wit_types.specs.Plain.{fields_of, types_of, cases_of}
use Rattle.wit_types.specs.Limits.{all_parts}
use Rattle.abi_layout.proofs.limits.+left_of.Given as goal

abbrev pub invariant-left_of_fields-loop-field : goal.invariant-left_of_fields-loop-field
invariant-left_of_fields-loop-field l = l.rest + all_parts (fields_of l.fields) ≡ l.left + all_parts (fields_of (drop l.field-index l.fields))

abbrev pub invariant-left_of_types-loop-ty : goal.invariant-left_of_types-loop-ty
invariant-left_of_types-loop-ty l = l.rest + all_parts (types_of l.types) ≡ l.left + all_parts (types_of (drop l.ty-index l.types))

abbrev pub invariant-left_of_cases-loop-case : goal.invariant-left_of_cases-loop-case
invariant-left_of_cases-loop-case l = l.rest + all_parts (cases_of l.cases) ≡ l.left + all_parts (cases_of (drop l.case-index l.cases))

use Rattle.std.proofs.Common.{◌≡◌, drop}
use Rattle.wit_types.specs.Plain.{fields_of, types_of, cases_of}
use Rattle.abi_layout.specs.Loading.{parts_have_ranges}
use Rattle.instance_state.proofs.ranges.+has_ranges.Given as goal

abbrev pub invariant-have_fields-loop-field : goal.invariant-have_fields-loop-field
invariant-have_fields-loop-field l = parts_have_ranges (fields_of (drop l.field-index l.fields)) ≡ parts_have_ranges (fields_of l.fields)

abbrev pub invariant-have_types-loop-ty : goal.invariant-have_types-loop-ty
invariant-have_types-loop-ty l = parts_have_ranges (types_of (drop l.ty-index l.types)) ≡ parts_have_ranges (types_of l.types)

abbrev pub invariant-have_cases-loop-case : goal.invariant-have_cases-loop-case
invariant-have_cases-loop-case l = parts_have_ranges (cases_of (drop l.case-index l.cases)) ≡ parts_have_ranges (cases_of l.cases)

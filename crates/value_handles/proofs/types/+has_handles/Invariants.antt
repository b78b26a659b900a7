use Rattle.std.proofs.Common.{◌≡◌, drop}
use Rattle.wit_types.specs.Plain.{fields_of, types_of, cases_of}
use Rattle.value_handles.specs.Whether.{parts_have_handles}
use Rattle.value_handles.proofs.types.+has_handles.Given as goal

abbrev pub invariant-have_fields-loop-field : goal.invariant-have_fields-loop-field
invariant-have_fields-loop-field l = parts_have_handles (fields_of (drop l.field-index l.fields)) ≡ parts_have_handles (fields_of l.fields)

abbrev pub invariant-have_types-loop-ty : goal.invariant-have_types-loop-ty
invariant-have_types-loop-ty l = parts_have_handles (types_of (drop l.ty-index l.types)) ≡ parts_have_handles (types_of l.types)

abbrev pub invariant-have_cases-loop-case : goal.invariant-have_cases-loop-case
invariant-have_cases-loop-case l = parts_have_handles (cases_of (drop l.case-index l.cases)) ≡ parts_have_handles (cases_of l.cases)

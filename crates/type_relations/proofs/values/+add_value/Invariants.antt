use Rattle.std.proofs.Common.{◌≡◌, drop}
use Rattle.wit_types.specs.Plain.{fields_of, types_of, cases_of}
use Rattle.comp_types.specs.GivenResources.{named_in_parts}
use Rattle.type_relations.specs.Once.{and_each}
use Rattle.type_relations.proofs.values.+add_value.Given as goal

abbrev pub invariant-add_types-loop-ty : goal.invariant-add_types-loop-ty
invariant-add_types-loop-ty l = and_each l.fn.found (named_in_parts (types_of l.types)) ≡ and_each l.found (named_in_parts (types_of (drop l.ty-index l.types)))

abbrev pub invariant-add_fields-loop-field : goal.invariant-add_fields-loop-field
invariant-add_fields-loop-field l = and_each l.fn.found (named_in_parts (fields_of l.fields)) ≡ and_each l.found (named_in_parts (fields_of (drop l.field-index l.fields)))

abbrev pub invariant-add_cases-loop-case : goal.invariant-add_cases-loop-case
invariant-add_cases-loop-case l = and_each l.fn.found (named_in_parts (cases_of l.cases)) ≡ and_each l.found (named_in_parts (cases_of (drop l.case-index l.cases)))

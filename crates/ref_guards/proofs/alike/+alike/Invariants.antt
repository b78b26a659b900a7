use Rattle.std.proofs.Common.{◌≡◌, drop}
use Rattle.wit_types.specs.Plain.{fields_of, types_of, cases_of}
use Rattle.reference_step.specs.Rules.{alike_parts}
use Rattle.ref_guards.proofs.alike.+alike.Given as goal

abbrev pub invariant-are_fields-loop-i : goal.invariant-are_fields-loop-i
invariant-are_fields-loop-i l = alike_parts (fields_of (drop l.i l.fields)) (fields_of (drop l.i l.others)) ≡ alike_parts (fields_of l.fields) (fields_of l.others)

abbrev pub invariant-are_types-loop-i : goal.invariant-are_types-loop-i
invariant-are_types-loop-i l = alike_parts (types_of (drop l.i l.types)) (types_of (drop l.i l.others)) ≡ alike_parts (types_of l.types) (types_of l.others)

abbrev pub invariant-are_cases-loop-i : goal.invariant-are_cases-loop-i
invariant-are_cases-loop-i l = alike_parts (cases_of (drop l.i l.cases)) (cases_of (drop l.i l.others)) ≡ alike_parts (cases_of l.cases) (cases_of l.others)

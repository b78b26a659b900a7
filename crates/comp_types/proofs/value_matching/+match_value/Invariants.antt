use Rattle.std.proofs.Common.{◌≡◌, drop, length}
use Rattle.wit_types.specs.Plain.{fields_of, types_of, cases_of}
use Rattle.comp_types.specs.Matching.{matched_parts}
use Rattle.comp_types.proofs.value_matching.+match_value.Given as goal

abbrev pub invariant-match_fields-loop-i : goal.invariant-match_fields-loop-i
invariant-match_fields-loop-i l = (length l.a ≡ length l.b) × (matched_parts l.fn.by (fields_of l.a) (fields_of l.b) ≡ matched_parts l.by (fields_of (drop l.i l.a)) (fields_of (drop l.i l.b)))

abbrev pub invariant-match_types-loop-i : goal.invariant-match_types-loop-i
invariant-match_types-loop-i l = (length l.a ≡ length l.b) × (matched_parts l.fn.by (types_of l.a) (types_of l.b) ≡ matched_parts l.by (types_of (drop l.i l.a)) (types_of (drop l.i l.b)))

abbrev pub invariant-match_cases-loop-i : goal.invariant-match_cases-loop-i
invariant-match_cases-loop-i l = (length l.a ≡ length l.b) × (matched_parts l.fn.by (cases_of l.a) (cases_of l.b) ≡ matched_parts l.by (cases_of (drop l.i l.a)) (cases_of (drop l.i l.b)))

use Rattle.std.proofs.Common.{◌≡◌, drop, length}
use Rattle.wit_types.specs.Plain.{fields_of}
use Rattle.comp_types.specs.Matching.{matched_parameters}
use Rattle.comp_types.proofs.func_matching.match_parameters.Given as goal

abbrev pub invariant-loop-i : goal.invariant-loop-i
invariant-loop-i l = (length l.a ≡ length l.b) × (matched_parameters l.fn.by (fields_of l.a) (fields_of l.b) ≡ matched_parameters l.by (fields_of (drop l.i l.a)) (fields_of (drop l.i l.b)))

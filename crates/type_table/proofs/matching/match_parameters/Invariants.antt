use Rattle.std.proofs.Common.{◌≡◌, length, true}
use Rattle.wit_types.specs.Plain.{fields_of}
use Rattle.type_table.specs.Tables.{HasParts}
use Rattle.type_table.specs.Walked.{Keeps}
use Rattle.type_table.proofs.WalkParts.{ComesOn}
use Rattle.type_table.proofs.matching.match_parameters.Given as goal

abbrev pub invariant-loop-i : goal.invariant-loop-i
invariant-loop-i l = record {
  as_many : length l.a ≡ length l.b;
  kept : Keeps l.types l.fn.walked l.walked true;
  met : HasParts l.types (fields_of l.a) → HasParts l.types (fields_of l.b) → ComesOn l.types l.fn.walked l.walked l.a l.b l.i;
}

use Rattle.std.proofs.Common.{◌≡◌, ◌+◌, length}
use Rattle.wit_types.specs.Plain.{cases_of}
use Rattle.comp_types.specs.Known.{AreKnownOf}
use Rattle.type_table.specs.Retyped.{values_of}
use Rattle.type_table.proofs.RebuiltLemmas.{AreRetyped}
use Rattle.type_table.proofs.rebuilt.cases_as.Given as goal

abbrev pub invariant-loop-case : goal.invariant-loop-case
invariant-loop-case l = record {
  count : l.index + length l.rest ≡ length l.cases;
  retyped : AreRetyped (cases_of l.cases) (values_of l.parts) (cases_of l.items.items) (cases_of l.rest) l.index;
  kept : AreKnownOf (cases_of l.items.items) l.known;
}

abbrev pub decreases-loop-case : goal.decreases-loop-case
decreases-loop-case l = length l.rest

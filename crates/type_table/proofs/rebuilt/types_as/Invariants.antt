use Rattle.std.proofs.Common.{◌≡◌, ◌+◌, length}
use Rattle.wit_types.specs.Plain.{types_of}
use Rattle.comp_types.specs.Known.{AreKnownOf}
use Rattle.type_table.specs.Retyped.{values_of}
use Rattle.type_table.proofs.RebuiltLemmas.{AreRetyped}
use Rattle.type_table.proofs.rebuilt.types_as.Given as goal

abbrev pub invariant-loop-first : goal.invariant-loop-first
invariant-loop-first l = record {
  count : l.index + length l.rest ≡ length l.types;
  retyped : AreRetyped (types_of l.types) (values_of l.parts) (types_of l.items.items) (types_of l.rest) l.index;
  kept : AreKnownOf (types_of l.items.items) l.known;
}

abbrev pub decreases-loop-first : goal.decreases-loop-first
decreases-loop-first l = length l.rest

use Rattle.std.proofs.Common.{◌≡◌, ◌+◌, length}
use Rattle.wit_types.specs.Plain.{fields_of}
use Rattle.comp_types.specs.Known.{AreKnownOf}
use Rattle.type_table.specs.Retyped.{values_of}
use Rattle.type_table.proofs.RebuiltLemmas.{AreRetyped}
use Rattle.type_table.proofs.rebuilt.fields_as.Given as goal

abbrev pub invariant-loop-field : goal.invariant-loop-field
invariant-loop-field l = record {
  count : l.index + length l.rest ≡ length l.fields;
  retyped : AreRetyped (fields_of l.fields) (values_of l.parts) (fields_of l.items.items) (fields_of l.rest) l.index;
  kept : AreKnownOf (fields_of l.items.items) l.known;
}

abbrev pub decreases-loop-field : goal.decreases-loop-field
decreases-loop-field l = length l.rest

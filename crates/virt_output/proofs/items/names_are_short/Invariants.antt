use Rattle.std.proofs.Common.{length}
use Rattle.comp_types.specs.Views.{entries_of}
use Rattle.virt_output.specs.Bytes.{AreShort}
use Rattle.virt_output.proofs.items.names_are_short.Given as goal

abbrev pub invariant-loop-entry : goal.invariant-loop-entry
invariant-loop-entry l = (AreShort (entries_of l.rest) → AreShort (entries_of l.entries)) × (AreShort (entries_of l.entries) → AreShort (entries_of l.rest))

abbrev pub decreases-loop-entry : goal.decreases-loop-entry
decreases-loop-entry l = length l.rest

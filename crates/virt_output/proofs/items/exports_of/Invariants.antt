use Rattle.std.proofs.Common.{length}
use Rattle.wasm_ast.specs.ComponentItems.{component_export}
use Rattle.comp_types.specs.Views.{entries_of}
use Rattle.comp_types.specs.Items.{names}
use Rattle.virt_output.specs.Output.{exports_from, exports_of}
use Rattle.virt_output.proofs.FitLemmas.{SoFar, Room}
use Rattle.virt_output.proofs.items.exports_of.Given as goal

abbrev pub invariant-loop-entry : goal.invariant-loop-entry
invariant-loop-entry l = SoFar component_export.Fits l.list (exports_from l.counts (entries_of l.rest)) (exports_of (entries_of l.entries)) (entries_of l.rest) × Room l.counts (length (names (entries_of l.rest)))

abbrev pub decreases-loop-entry : goal.decreases-loop-entry
decreases-loop-entry l = length l.rest

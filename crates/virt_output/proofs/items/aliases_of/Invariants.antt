use Rattle.std.proofs.Common.{length}
use Rattle.wasm_ast.specs.ComponentItems.{alias}
use Rattle.comp_types.specs.Views.{entries_of}
use Rattle.virt_output.specs.Output.{aliases_of}
use Rattle.virt_output.proofs.FitLemmas.{SoFar}
use Rattle.virt_output.proofs.items.aliases_of.Given as goal

abbrev pub invariant-loop-entry : goal.invariant-loop-entry
invariant-loop-entry l = SoFar alias.Fits l.list (aliases_of (entries_of l.rest)) (aliases_of (entries_of l.entries)) (entries_of l.rest)

abbrev pub decreases-loop-entry : goal.decreases-loop-entry
decreases-loop-entry l = length l.rest

use Rattle.std.proofs.Common.{◌≡◌, drop}
use Rattle.comp_types.specs.Views.{entries_of}
use Rattle.component_judge.specs.Types.{are_plain}
use Rattle.component_judge.proofs.types.are_plain.Given as goal

abbrev pub invariant-loop-entry : goal.invariant-loop-entry
invariant-loop-entry l = are_plain (entries_of l.entries) ≡ are_plain (entries_of (drop l.entry-index l.entries))

use Rattle.std.proofs.Common.{◌≡◌, drop}
use Rattle.comp_types.specs.Views.{entries_of}
use Rattle.component_judge.specs.Types.{first_handle}
use Rattle.component_judge.proofs.types.first_handle.Given as goal

abbrev pub invariant-loop-export : goal.invariant-loop-export
invariant-loop-export l = first_handle (entries_of l.exports) ≡ first_handle (entries_of (drop l.export-index l.exports))

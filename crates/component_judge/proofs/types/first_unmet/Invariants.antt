use Rattle.std.proofs.Common.{◌≡◌, drop}
use Rattle.comp_types.specs.Views.{entries_of}
use Rattle.component_judge.specs.Types.{first_unmet}
use Rattle.component_judge.proofs.types.first_unmet.Given as goal

abbrev pub invariant-loop-import : goal.invariant-loop-import
invariant-loop-import l = first_unmet (entries_of l.imports) ≡ first_unmet (entries_of (drop l.import-index l.imports))

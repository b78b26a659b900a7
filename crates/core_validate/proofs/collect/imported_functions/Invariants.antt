use Rattle.std.proofs.Common.{◌≡◌, take}
use Rattle.core_validate.specs.Gather.{gather}
use Rattle.core_validate.specs.Spaces.{functions_of}
use Rattle.core_validate.proofs.collect.imported_functions.Given as goal

abbrev pub invariant-loop-import : goal.invariant-loop-import
invariant-loop-import l = l.list.items ≡ gather (λ i. functions_of i.item) (take l.import-index l.imports)

use Rattle.std.proofs.Common.{◌≡◌, take}
use Rattle.core_validate.specs.Gather.{gather}
use Rattle.core_validate.specs.Spaces.{tables_of}
use Rattle.core_validate.proofs.collect.imported_tables.Given as goal

abbrev pub invariant-loop-import : goal.invariant-loop-import
invariant-loop-import l = l.list.items ≡ gather (λ i. tables_of i.item) (take l.import-index l.imports)

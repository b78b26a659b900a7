use Rattle.std.proofs.Common.{◌≡◌, map, length, take}
use Rattle.std.specs.List.{All}
use Rattle.std.specs.Prelude.{slice_index_or}
use Rattle.core_store.specs.declared.value.CoreValue.TheVariants.{I32}
use Rattle.core_store.specs.State.{IsStoreValue}
use Rattle.core_instance.proofs.allocate.imported_values.Given as goal

abbrev pub invariant-loop-at : goal.invariant-loop-at
invariant-loop-at l =
    (l.list.items ≡ map (λ at. slice_index_or l.store.globals at (I32 0)) (take l.at-index l.globals))
    × All (IsStoreValue (length l.store.functions)) l.list.items

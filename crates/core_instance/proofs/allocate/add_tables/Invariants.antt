use Rattle.std.proofs.Common.{◌≡◌, ◌++◌, length, map, take}
use Rattle.std.specs.List.{range_with_len}
use Rattle.core_store.specs.Table.{nulls}
use Rattle.core_instance.proofs.allocate.add_tables.Given as goal

abbrev pub invariant-loop-table : goal.invariant-loop-table
invariant-loop-table l =
    (l.store ≡ record l.fn.store { tables = l.fn.store.tables ++ map (λ t. nulls t.limits.min t.limits.max) (take l.table-index l.tables) })
    × (l.places ≡ l.fn.places ++ range_with_len (length l.fn.store.tables) l.table-index)

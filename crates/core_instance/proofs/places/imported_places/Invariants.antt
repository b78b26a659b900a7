use Rattle.std.proofs.Common.{◌≡◌, take}
use Rattle.std.specs.List.{flat_map}
use Rattle.core_instance.specs.Spaces.{functions_of, tables_of, memories_of, globals_of}
use Rattle.core_instance.proofs.places.imported_places.Given as goal

abbrev pub invariant-loop-item : goal.invariant-loop-item
invariant-loop-item l =
    (l.functions ≡ flat_map functions_of (take l.item-index l.imports))
    × (l.tables ≡ flat_map tables_of (take l.item-index l.imports))
    × (l.memories ≡ flat_map memories_of (take l.item-index l.imports))
    × (l.globals ≡ flat_map globals_of (take l.item-index l.imports))

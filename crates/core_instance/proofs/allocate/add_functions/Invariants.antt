use Rattle.std.proofs.Common.{◌≡◌, ◌++◌, length, take}
use Rattle.std.specs.List.{range_with_len}
use Rattle.core_instance.specs.Instantiation.{functions_from}
use Rattle.core_instance.proofs.allocate.add_functions.Given as goal

abbrev pub invariant-loop-index : goal.invariant-loop-index
invariant-loop-index l =
    (l.store ≡ record l.fn.store { functions = l.fn.store.functions ++ functions_from l.core l.instance 0 (take l.index l.core.code) })
    × (l.places ≡ l.fn.places ++ range_with_len (length l.fn.store.functions) l.index)

use Rattle.std.proofs.Common.{◌≡◌, ◌++◌, length, map, take}
use Rattle.std.specs.List.{range_with_len}
use Rattle.core_instance.specs.Constants.{constant}
use Rattle.core_instance.proofs.allocate.add_globals.Given as goal

abbrev pub invariant-loop-global : goal.invariant-loop-global
invariant-loop-global l =
    (l.store ≡ record l.fn.store { globals = l.fn.store.globals ++ map (λ g. constant l.names g.init) (take l.global-index l.globals) })
    × (l.places ≡ l.fn.places ++ range_with_len (length l.fn.store.globals) l.global-index)

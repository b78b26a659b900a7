use Rattle.std.proofs.Common.{◌≡◌, ◌++◌, drop, map}
use Rattle.std.specs.List.{flat_map}
use Rattle.wasi_table.specs.Plain.{plain_interface}
use Rattle.adapter_world.specs.Behind.{named_through}
use Rattle.adapter_world.proofs.reach.reach_function.Given as goal

abbrev pub invariant-loop-i : goal.invariant-loop-i
invariant-loop-i l = l.names ++ flat_map (named_through (map plain_interface l.all) l.interface) (drop l.i l.labels) ≡ l.fn.names ++ flat_map (named_through (map plain_interface l.all) l.interface) l.labels

use Rattle.std.proofs.Common.{◌≡◌, ◌-◌, ◌++◌, drop, map}
use Rattle.std.specs.List.{flat_map}
use Rattle.wasi_table.specs.Plain.{plain_interface}
use Rattle.adapter_world.specs.Behind.{reached}
use Rattle.adapter_world.proofs.reach.+reach.Given as goal

abbrev pub decreases-reach : goal.decreases-reach
decreases-reach l = l.left

abbrev pub invariant-loop-i : goal.invariant-loop-i
invariant-loop-i l = l.names ++ flat_map (reached (map plain_interface l.all) (l.left - 1)) (drop l.i l.more) ≡ l.fn.names ++ reached (map plain_interface l.all) l.left l.name

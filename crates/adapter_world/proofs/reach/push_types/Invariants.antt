use Rattle.std.proofs.Common.{◌≡◌, ◌++◌, drop, map}
use Rattle.std.specs.List.{flat_map}
use Rattle.wasi_table.specs.Plain.{plain_named}
use Rattle.adapter_world.specs.Behind.{written_with}
use Rattle.adapter_world.proofs.reach.push_types.Given as goal

abbrev pub invariant-loop-i : goal.invariant-loop-i
invariant-loop-i l = l.names ++ flat_map (written_with l.interface l.name) (map plain_named (drop l.i l.types)) ≡ l.fn.names ++ flat_map (written_with l.interface l.name) (map plain_named l.types)

use Rattle.std.proofs.Common.{◌≡◌, ◌++◌, drop}
use Rattle.std.specs.List.{flat_map}
use Rattle.adapter_world.specs.Behind.{defined_by}
use Rattle.adapter_world.proofs.reach.push_uses.Given as goal

abbrev pub invariant-loop-i : goal.invariant-loop-i
invariant-loop-i l = l.names ++ flat_map (defined_by l.name) (drop l.i l.uses) ≡ l.fn.names ++ flat_map (defined_by l.name) l.uses

use Rattle.std.proofs.Common.{◌≡◌, ◌++◌, drop}
use Rattle.std.specs.List.{flat_map}
use Rattle.adapter_world.specs.Behind.{named_by}
use Rattle.adapter_world.proofs.reach.push_labels.Given as goal

abbrev pub invariant-loop-i : goal.invariant-loop-i
invariant-loop-i l = l.names ++ flat_map (named_by l.interface) (drop l.i l.labels) ≡ l.fn.names ++ flat_map (named_by l.interface) l.labels

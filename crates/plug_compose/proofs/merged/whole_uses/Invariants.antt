use Rattle.std.proofs.Common.{◌≡◌}
use Rattle.adapter_world.specs.Behind.{below}
use Rattle.plug_compose.specs.Merged.{whole_use}
use Rattle.plug_compose.proofs.merged.whole_uses.Given as goal

abbrev pub invariant-loop-interface : goal.invariant-loop-interface
invariant-loop-interface l = l.whole ≡ below (whole_use l.uses) l.interface

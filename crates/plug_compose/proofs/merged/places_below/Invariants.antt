use Rattle.std.proofs.Common.{◌≡◌}
use Rattle.adapter_world.specs.Behind.{below}
use Rattle.plug_compose.specs.Merged.{if_asked}
use Rattle.plug_compose.proofs.merged.places_below.Given as goal

abbrev pub invariant-loop-place : goal.invariant-loop-place
invariant-loop-place l = l.places ≡ below (if_asked l.uses l.interface) l.place

use Rattle.std.proofs.Common.{◌≡◌, length}
use Rattle.adapter_world.specs.Needed.{needed_in}
use Rattle.adapter_world.specs.Behind.{below}
use Rattle.adapter_world.proofs.needs.count_needed.Given as goal

abbrev pub invariant-loop-number : goal.invariant-loop-number
invariant-loop-number l = l.count ≡ length (below (needed_in l.policy l.uses) l.number)

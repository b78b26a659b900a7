use Rattle.std.proofs.Common.{◌≡◌, ◌+◌, length}
use Rattle.comp_linking.specs.Firsts.{taken}
use Rattle.comp_linking.proofs.types.first_length.Given as goal

abbrev pub invariant-loop-item : goal.invariant-loop-item
invariant-loop-item l = (l.count + taken l.due l.rest ≡ taken 1 l.items) × (l.count + length l.rest ≡ length l.items)

abbrev pub decreases-loop-item : goal.decreases-loop-item
decreases-loop-item l = length l.rest

use Rattle.std.proofs.Common.{◌≡◌, None, replicate}
use Rattle.ref_rules.proofs.kinds.free_places.Given as goal

abbrev pub invariant-loop-kind : goal.invariant-loop-kind
invariant-loop-kind l = l.kinds.items ≡ replicate l._kind (replicate l.fn.slots None)

use Rattle.std.proofs.Common.{◌≡◌, ◌+◌, drop}
use Rattle.reference_step.specs.Atoms.{weight}
use Rattle.ref_guards.specs.Noted.{shown_all}
use Rattle.ref_guards.proofs.weight.left_behind.Given as goal

abbrev pub invariant-loop-atom : goal.invariant-loop-atom
invariant-loop-atom l = l.limit + weight (shown_all (drop l.atom-index l.noted)) ≡ l.left + weight (shown_all l.noted)

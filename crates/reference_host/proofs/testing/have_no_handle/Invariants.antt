use Rattle.std.proofs.Common.{◌≡◌, drop}
use Rattle.reference_step.specs.Atoms.{handles}
use Rattle.reference_step.specs.Steps.{is_none_given}
use Rattle.ref_guards.specs.Noted.{shown_all}
use Rattle.reference_host.proofs.testing.have_no_handle.Given as goal

abbrev pub invariant-loop-atom : goal.invariant-loop-atom
invariant-loop-atom g l = is_none_given g.H.Host.step (handles (shown_all (drop l.atom-index l.noted))) ≡ is_none_given g.H.Host.step (handles (shown_all l.noted))

use Rattle.std.proofs.Common.{◌≡◌, ◌++◌, drop}
use Rattle.tree_table.specs.Tables.{Forest}
use Rattle.reference_step.specs.Atoms.{handles}
use Rattle.reference_step.specs.Steps.{host_ids}
use Rattle.ref_answers.specs.Seen.{live_in}
use Rattle.ref_guards.specs.Noted.{shown_all}
use Rattle.ref_host_calls.proofs.numbers.host_ids.Given as goal

abbrev pub invariant-loop-atom : goal.invariant-loop-atom
invariant-loop-atom g l = (f : Forest) → l.ids.items ++ host_ids g.H.Host.step (live_in f l.live.handles) (handles (shown_all (drop l.atom-index l.noted))) ≡ host_ids g.H.Host.step (live_in f l.live.handles) (handles (shown_all l.noted))

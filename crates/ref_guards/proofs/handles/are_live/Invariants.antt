use Rattle.std.proofs.Common.{◌≡◌, drop}
use Rattle.tree_table.specs.Tables.{Forest}
use Rattle.reference_step.specs.Atoms.{handles}
use Rattle.reference_step.specs.Rules.{are_live}
use Rattle.ref_answers.specs.Seen.{live_in}
use Rattle.ref_guards.specs.Noted.{shown_all}
use Rattle.ref_guards.proofs.handles.are_live.Given as goal

abbrev pub invariant-loop-atom : goal.invariant-loop-atom
invariant-loop-atom l = (f : Forest) → are_live (live_in f l.live.handles) (handles (shown_all (drop l.atom-index l.noted))) ≡ are_live (live_in f l.live.handles) (handles (shown_all l.noted))

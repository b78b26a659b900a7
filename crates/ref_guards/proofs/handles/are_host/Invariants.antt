use Rattle.std.proofs.Common.{◌≡◌, drop}
use Rattle.std.specs.List.{list_all}
use Rattle.tree_table.specs.Tables.{Forest}
use Rattle.reference_step.specs.Atoms.{handles}
use Rattle.reference_step.specs.Handles.{content_of, is_host}
use Rattle.ref_answers.specs.Seen.{live_in}
use Rattle.ref_guards.specs.Noted.{shown_all}
use Rattle.ref_guards.proofs.handles.are_host.Given as goal

abbrev pub invariant-loop-atom : goal.invariant-loop-atom
invariant-loop-atom l = (f : Forest) → list_all (λ g. is_host (content_of (live_in f l.live.handles) g.1)) (handles (shown_all (drop l.atom-index l.noted))) ≡ list_all (λ g. is_host (content_of (live_in f l.live.handles) g.1)) (handles (shown_all l.noted))

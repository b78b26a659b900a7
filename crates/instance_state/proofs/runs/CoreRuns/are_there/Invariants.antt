use Rattle.std.proofs.Common.{ℕ, ◌<◌, slice_index_or}
use Rattle.core_instance.specs.declared.external.Extern.{Extern}
use Rattle.core_instance.specs.Spaces.{IsThere}
use Rattle.instance_state.proofs.runs.CoreRuns.are_there.Given as goal

-- those before are there
abbrev pub invariant-loop-item : goal.invariant-loop-item
invariant-loop-item l = (k : ℕ) (d : Extern) → k < l.item-index → IsThere l.self.store (slice_index_or l.items k d)

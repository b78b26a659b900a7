use Rattle.std.proofs.Common.{◌≡◌, ◌+◌, ◌*◌, drop}
use Rattle.adapter_code.specs.Code.{Stop, before, code_of, followed_by}
use Rattle.adapter_code.specs.Placed.{placed}
use Rattle.adapter_code.proofs.Codes.{size}
use Rattle.table_bytes.proofs.places.+placed_at.Given as goal

abbrev pub invariant-placed_at-loop-statement : goal.invariant-placed_at-loop-statement
invariant-placed_at-loop-statement l = record {
  so_far : followed_by (code_of l.new.items) (placed l.places (code_of (drop l.statement-index l.list))) ≡ placed l.places (code_of l.list);
}

abbrev pub decreases-placed_at : goal.decreases-placed_at
decreases-placed_at l = 4 * size (code_of l.list.now) + 1

abbrev pub decreases-one_at : goal.decreases-one_at
decreases-one_at l = 4 * size (before l.statement.now Stop)

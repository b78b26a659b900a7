use Rattle.std.proofs.Common.{◌≤◌, ◌+◌, ◌*◌, drop}
use Rattle.adapter_code.specs.Code.{Stop, before, code_of}
use Rattle.adapter_code.proofs.Codes.{size}
use Rattle.adapter_compile.specs.Bounds.{brackets}
use Rattle.adapter_compile.proofs.bounds.+is_shallow.Given as goal

abbrev pub invariant-list_is_within-loop-statement : goal.invariant-list_is_within-loop-statement
invariant-list_is_within-loop-statement l = record {
  so_far : brackets (code_of (drop l.statement-index l.list)) ≤ l.most → brackets (code_of l.list) ≤ l.most;
}

abbrev pub decreases-list_is_within : goal.decreases-list_is_within
decreases-list_is_within l = 4 * size (code_of l.list.now) + 1

abbrev pub decreases-one_is_within : goal.decreases-one_is_within
decreases-one_is_within l = 4 * size (before l.statement.now Stop)

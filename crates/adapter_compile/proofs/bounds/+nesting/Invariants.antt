use Rattle.std.proofs.Common.{◌≡◌, ◌+◌, ◌*◌, max, drop}
use Rattle.adapter_code.specs.Code.{Stop, before, code_of}
use Rattle.adapter_code.proofs.Codes.{size}
use Rattle.adapter_compile.specs.Bounds.{nesting}
use Rattle.adapter_compile.proofs.bounds.+nesting.Given as goal

abbrev pub invariant-nesting_of-loop-statement : goal.invariant-nesting_of-loop-statement
invariant-nesting_of-loop-statement l = record {
  left : max l.most (nesting (code_of (drop l.statement-index l.list))) ≡ nesting (code_of l.list);
}

abbrev pub decreases-nesting_of : goal.decreases-nesting_of
decreases-nesting_of l = 4 * size (code_of l.list.now) + 1

abbrev pub decreases-nesting_in : goal.decreases-nesting_in
decreases-nesting_in l = 4 * size (before l.statement.now Stop)

use Rattle.std.proofs.Common.{◌≡◌, drop}
use Rattle.std.specs.Prelude.{nat_le, sum_by}
use Rattle.core_body.proofs.check.few_locals.Given as goal

abbrev pub invariant-loop-run : goal.invariant-loop-run
invariant-loop-run l = nat_le (sum_by (λ r. r.count) (drop l.run-index l.runs)) l.left ≡ nat_le (sum_by (λ r. r.count) l.runs) 50000

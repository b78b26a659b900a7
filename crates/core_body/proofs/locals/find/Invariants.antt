use Rattle.std.proofs.Common.{◌≡◌, ◌≤◌, ◌<◌, ◌-◌, length, drop, get_or}
use Rattle.core_body.specs.declared.locals.RunEnd.{RunEnd}
use Rattle.core_body.specs.Runs.{run_at}
use Rattle.core_body.proofs.locals.find.Given as goal

abbrev pub invariant-loop-low : goal.invariant-loop-low
invariant-loop-low l = record {
  ordered : l.low ≤ l.high;
  within : l.high ≤ length l.ends;
  skipped : run_at l.n (drop l.low l.ends) ≡ run_at l.n l.ends;
  above : (d : RunEnd) → l.high < length l.ends → l.n < (get_or l.ends l.high d).end;
}

abbrev pub decreases-loop-low : goal.decreases-loop-low
decreases-loop-low l = l.high - l.low

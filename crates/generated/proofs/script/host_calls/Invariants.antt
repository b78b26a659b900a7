use Rattle.std.proofs.Common.{◌≡◌, ◌≤◌, ◌*◌}
use Rattle.generated.specs.Scripts.{host_calls}
use Rattle.generated.proofs.script.host_calls.Given as goal

abbrev pub invariant-loop-i : goal.invariant-loop-i
invariant-loop-i l = (l.calls ≡ host_calls l.i) × (l.calls ≤ l.i * 3)

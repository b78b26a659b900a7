use Rattle.std.proofs.Common.{map, drop}
use Rattle.host_script.specs.Script.{call_seen, exports_seen}
use Rattle.std.specs.Prelude.{None}
use Rattle.call_moments.specs.declared.end.RunEnd.TheVariants.{Returned}
use Rattle.virt_engine.specs.Runners.{Came}
use Rattle.virt_engine.proofs.runner.Runner.go.Given as goal

abbrev pub invariant-loop-call : goal.invariant-loop-call
invariant-loop-call g l = Came g.H.Host.step g.H.Host.kept (exports_seen l.exports) (map call_seen l.calls) (map call_seen (drop l.call-index l.calls)) l.fn.self (Returned None) l.self

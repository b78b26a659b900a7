use Rattle.std.proofs.Common.{◌≡◌, map, drop}
use Rattle.host_port.specs.Calls.{plain_observation}
use Rattle.virt_engine.specs.Tallies.{all_seen}
use Rattle.virt_engine.proofs.tally.Tally.count_all.Given as goal

abbrev pub invariant-loop-observation : goal.invariant-loop-observation
invariant-loop-observation l = all_seen l.self (map plain_observation (drop l.observation-index l.seen)) ≡ all_seen l.fn.self (map plain_observation l.seen)

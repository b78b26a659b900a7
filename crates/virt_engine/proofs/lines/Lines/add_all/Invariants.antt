use Rattle.std.proofs.Common.{◌≡◌, ◌++◌, None, map, drop}
use Rattle.host_port.specs.Calls.{plain_observation}
use Rattle.script_lines.specs.Lines.{line_text}
use Rattle.virt_engine.proofs.lines.Lines.add_all.Given as goal

abbrev pub invariant-loop-observation : goal.invariant-loop-observation
invariant-loop-observation l =
    l.self ++ map (line_text None) (map plain_observation (drop l.observation-index l.seen)) ≡ l.fn.self ++ map (line_text None) (map plain_observation l.seen)

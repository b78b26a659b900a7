-- The state in which a host is that answers by a script, with what was seen of it.
use Rattle.std.specs.Prelude.{map}
use Rattle.host_port.specs.Calls.{plain_observation}
use Rattle.host_port.specs.Hosts.{Kept}
use Rattle.host_port.specs.Scripts.{Script}
use Rattle.host_script.specs.declared.host.ScriptHost.{ScriptHost}
use Rattle.host_script.specs.Script.{item_seen}

abbrev pub kept_by : ScriptHost → Kept Script
kept_by h = record { state = map item_seen h.left; seen = map plain_observation h.seen }

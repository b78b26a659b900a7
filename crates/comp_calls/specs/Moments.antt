-- A world of code at a moment.
use Rattle.host_port.specs.Hosts.{Kept}
use Rattle.call_moments.specs.Leads.{Moment}
use Rattle.comp_calls.specs.declared.world.World.{World}

-- its host as it is kept
abbrev pub at : {H S : Type 0} → (H → Kept S) → World H → Moment S
at kept w = record { kept = kept w.host; group = w.group; instances = w.instances.items; frames = w.frames.items; budget = w.budget }

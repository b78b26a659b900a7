use Rattle.std.proofs.Common.{take}
use Rattle.wit_types.specs.Plain.{bare}
use Rattle.comp_types.specs.Known.{AreKnownOf}
use Rattle.comp_defining.proofs.parts.bare_parts.Given as goal

abbrev pub invariant-loop-label : goal.invariant-loop-label
invariant-loop-label l = AreKnownOf (bare (take l.label-index l.labels)) l.known

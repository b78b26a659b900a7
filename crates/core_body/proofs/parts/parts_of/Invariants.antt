use Rattle.std.proofs.Common.{take}
use Rattle.core_body.specs.Parts.{AreLaid}
use Rattle.core_body.proofs.parts.parts_of.Given as goal

abbrev pub invariant-loop-f : goal.invariant-loop-f
invariant-loop-f l = AreLaid l.text.items (take l.f-index l.types) l.places.items

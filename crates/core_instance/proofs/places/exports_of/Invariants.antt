use Rattle.std.proofs.Common.{◌≡◌, map, take}
use Rattle.core_instance.specs.Spaces.{named_extern}
use Rattle.core_instance.proofs.places.exports_of.Given as goal

abbrev pub invariant-loop-export : goal.invariant-loop-export
invariant-loop-export l = l.list.items ≡ map (named_extern l.spaces) (take l.export-index l.exports)

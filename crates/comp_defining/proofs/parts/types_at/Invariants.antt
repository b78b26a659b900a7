use Rattle.std.proofs.Common.{◌≡◌, length, map}
use Rattle.wit_types.specs.Plain.{types_of}
use Rattle.comp_types.specs.Known.{AreKnownOf}
use Rattle.comp_types.specs.Spaces.{Space}
use Rattle.comp_types.specs.Types.{unnamed, value_of}
use Rattle.comp_scopes.specs.Stands.{Stands}
use Rattle.comp_defining.proofs.PartLemmas.{and_parts}
use Rattle.comp_defining.proofs.parts.types_at.Given as goal

abbrev pub invariant-loop-value : goal.invariant-loop-value
invariant-loop-value l = record {
  due : (s : Space) → Stands s l.scope → and_parts (types_of l.types.items) (unnamed (map (value_of s) l.rest)) ≡ unnamed (map (value_of s) l.values);
  kept : AreKnownOf (types_of l.types.items) l.known;
}

abbrev pub decreases-loop-value : goal.decreases-loop-value
decreases-loop-value l = length l.rest

use Rattle.std.proofs.Common.{◌≡◌, length}
use Rattle.wit_types.specs.Plain.{fields_of}
use Rattle.comp_types.specs.Known.{AreKnownOf}
use Rattle.comp_types.specs.Spaces.{Space}
use Rattle.comp_types.specs.Types.{fields_of as fields_due}
use Rattle.comp_scopes.specs.Stands.{Stands}
use Rattle.comp_defining.proofs.PartLemmas.{and_parts}
use Rattle.comp_defining.proofs.parts.fields_at.Given as goal

abbrev pub invariant-loop-label : goal.invariant-loop-label
invariant-loop-label l = record {
  due : (s : Space) → Stands s l.scope → and_parts (fields_of l.fields.items) (fields_due s l.rest) ≡ fields_due s l.labels;
  kept : AreKnownOf (fields_of l.fields.items) l.known;
}

abbrev pub decreases-loop-label : goal.decreases-loop-label
decreases-loop-label l = length l.rest

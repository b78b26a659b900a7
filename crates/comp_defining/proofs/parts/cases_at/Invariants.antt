use Rattle.std.proofs.Common.{◌≡◌, length}
use Rattle.wit_types.specs.Plain.{cases_of}
use Rattle.comp_types.specs.Known.{AreKnownOf}
use Rattle.comp_types.specs.Spaces.{Space}
use Rattle.comp_types.specs.Types.{cases_of as cases_due}
use Rattle.comp_scopes.specs.Stands.{Stands}
use Rattle.comp_defining.proofs.PartLemmas.{and_parts}
use Rattle.comp_defining.proofs.parts.cases_at.Given as goal

abbrev pub invariant-loop-label : goal.invariant-loop-label
invariant-loop-label l = record {
  due : (s : Space) → Stands s l.scope → and_parts (cases_of l.cases.items) (cases_due s l.rest) ≡ cases_due s l.labels;
  kept : AreKnownOf (cases_of l.cases.items) l.known;
}

abbrev pub decreases-loop-label : goal.decreases-loop-label
decreases-loop-label l = length l.rest

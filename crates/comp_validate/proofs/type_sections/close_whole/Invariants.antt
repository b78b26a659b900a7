use Rattle.std.proofs.Common.{List, length}
use Rattle.comp_types.specs.Declarations.{Declarations}
use Rattle.comp_types.specs.Spaces.{Space}
use Rattle.comp_defining.specs.Around.{StandAll}
use Rattle.comp_validate.specs.Rest.{Rest, Leads}
use Rattle.comp_validate.proofs.type_sections.close_whole.Given as goal

abbrev pub invariant-loop-count : goal.invariant-loop-count
invariant-loop-count l = (around : List Space) → (s : Space) → (ds : Declarations) → StandAll around s l.fn.scopes → Leads (Rest l.fn.counts around s ds) l.counts ds l.scopes

abbrev pub decreases-loop-count : goal.decreases-loop-count
decreases-loop-count l = length l.counts

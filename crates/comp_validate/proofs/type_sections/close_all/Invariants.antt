use Rattle.std.proofs.Common.{List, length}
use Rattle.comp_types.specs.Declarations.{Done}
use Rattle.comp_types.specs.Spaces.{Space}
use Rattle.comp_defining.specs.Around.{StandAll}
use Rattle.comp_validate.specs.Rest.{Rest, Leads}
use Rattle.comp_validate.proofs.type_sections.close_all.Given as goal

abbrev pub invariant-loop-left : goal.invariant-loop-left
invariant-loop-left l = (around : List Space) → (s : Space) → StandAll around s l.fn.scopes → Leads (Rest l.fn.counts around s Done) l.counts Done l.scopes

abbrev pub decreases-loop-left : goal.decreases-loop-left
decreases-loop-left l = length l.counts

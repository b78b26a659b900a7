use Rattle.std.proofs.Common.{List, [], length}
use Rattle.comp_types.specs.Declarations.{grouped}
use Rattle.comp_types.specs.Spaces.{Space}
use Rattle.comp_defining.specs.Around.{StandAll}
use Rattle.comp_validate.specs.Rest.{Rest, Leads}
use Rattle.comp_validate.proofs.type_sections.define_types.Given as goal

abbrev pub invariant-loop-item : goal.invariant-loop-item
invariant-loop-item l = (around : List Space) → (s : Space) → StandAll around s l.fn.scopes → Leads (Rest [] around s (grouped l.items)) l.counts (grouped l.rest) l.scopes

abbrev pub decreases-loop-item : goal.decreases-loop-item
decreases-loop-item l = length l.rest

use Rattle.std.proofs.Common.{List, map, length}
use Rattle.comp_types.specs.Spaces.{Space}
use Rattle.comp_defining.specs.Around.{StandAll}
use Rattle.comp_validate.proofs.EachLemmas.{LeadsAll}
use Rattle.comp_validate.proofs.definitions.define_all.Given as goal

abbrev pub invariant-loop-item : goal.invariant-loop-item
invariant-loop-item g l = (around : List Space) → (s : Space) → StandAll around s l.fn.scopes → LeadsAll around s (map g.T.Defines.definition l.items) (map g.T.Defines.definition l.rest) l.scopes

abbrev pub decreases-loop-item : goal.decreases-loop-item
decreases-loop-item g l = length l.rest

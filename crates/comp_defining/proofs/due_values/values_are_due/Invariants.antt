use Rattle.std.proofs.Common.{◌≡◌, length}
use Rattle.std.specs.List.{list_all}
use Rattle.comp_types.specs.Rules.{value_is_due}
use Rattle.comp_types.specs.Spaces.{Space}
use Rattle.comp_scopes.specs.Stands.{Stands}
use Rattle.comp_defining.proofs.due_values.values_are_due.Given as goal

abbrev pub invariant-loop-value : goal.invariant-loop-value
invariant-loop-value l = (s : Space) → Stands s l.scope → list_all (value_is_due s) l.values ≡ list_all (value_is_due s) l.rest

abbrev pub decreases-loop-value : goal.decreases-loop-value
decreases-loop-value l = length l.rest

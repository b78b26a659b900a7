use Rattle.std.proofs.Common.{◌≡◌, length}
use Rattle.std.specs.List.{list_all}
use Rattle.comp_types.specs.Rules.{value_is_due}
use Rattle.comp_types.specs.Spaces.{Space}
use Rattle.comp_scopes.specs.Stands.{Stands}
use Rattle.comp_defining.proofs.due_values.labels_are_due.Given as goal

abbrev pub invariant-loop-label : goal.invariant-loop-label
invariant-loop-label l = (s : Space) → Stands s l.scope → list_all (λ f. value_is_due s f.ty) l.labels ≡ list_all (λ f. value_is_due s f.ty) l.rest

abbrev pub decreases-loop-label : goal.decreases-loop-label
decreases-loop-label l = length l.rest

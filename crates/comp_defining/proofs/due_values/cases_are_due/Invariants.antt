use Rattle.std.proofs.Common.{◌≡◌, length}
use Rattle.std.specs.List.{list_all}
use Rattle.comp_types.specs.Rules.{if_there, value_is_due}
use Rattle.comp_types.specs.Spaces.{Space}
use Rattle.comp_scopes.specs.Stands.{Stands}
use Rattle.comp_defining.proofs.due_values.cases_are_due.Given as goal

abbrev pub invariant-loop-case : goal.invariant-loop-case
invariant-loop-case l = (s : Space) → Stands s l.scope → list_all (λ c. if_there (value_is_due s) c.ty) l.cases ≡ list_all (λ c. if_there (value_is_due s) c.ty) l.rest

abbrev pub decreases-loop-case : goal.decreases-loop-case
decreases-loop-case l = length l.rest

use Rattle.std.proofs.Common.{◌≡◌, ◌++◌, ℕ, List, drop}
use Rattle.comp_types.specs.GivenResources.{without}
use Rattle.comp_scopes.specs.Numbers.{HasNumbers}
use Rattle.comp_instances.proofs.numbering.those_without.Given as goal

abbrev pub invariant-loop-number : goal.invariant-loop-number
invariant-loop-number l = (rs : List ℕ) → HasNumbers rs l.others → l.own ++ without rs (drop l.number-index l.these) ≡ without rs l.these

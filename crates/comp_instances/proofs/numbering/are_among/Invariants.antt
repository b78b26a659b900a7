use Rattle.std.proofs.Common.{◌≡◌, ℕ, List, drop}
use Rattle.std.specs.List.{list_all}
use Rattle.comp_types.specs.GivenResources.{is_among}
use Rattle.comp_scopes.specs.Numbers.{HasNumbers}
use Rattle.comp_instances.proofs.numbering.are_among.Given as goal

abbrev pub invariant-loop-number : goal.invariant-loop-number
invariant-loop-number l = (rs : List ℕ) → HasNumbers rs l.others → list_all (is_among rs) l.these ≡ list_all (is_among rs) (drop l.number-index l.these)

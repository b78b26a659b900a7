-- Types whose cases are labels alone.
use Rattle.std.proofs.Common.{◌≡◌, List, [], ◌∷◌, false, refl}
use Rattle.wit_types.specs.Plain.{Name, bare}
use Rattle.wit_types.proofs.PlainLemmas.{plains}
use Rattle.abi_layout.specs.Loading.{parts_have_ranges}

pub no_label_ranges : (labels : List Name) → parts_have_ranges (bare labels) ≡ false
no_label_ranges [] = refl
no_label_ranges (l ∷ ls) = no_label_ranges ls

pub ruleset ranges_of = (plains, no_label_ranges)

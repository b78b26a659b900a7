-- What is kept of numbers of resources.
use Rattle.std.specs.Prelude.{◌≡◌, ℕ, List, is_some}
use Rattle.std.specs.BTreeMap.{get}
use Rattle.std.specs.Ordering.{nat_cmp}
use Rattle.comp_types.specs.GivenResources.{is_among}
use Rattle.comp_scopes.specs.declared.numbers.Numbers.{Numbers}

pub record HasNumbers (rs : List ℕ) (n : Numbers) : Type 0 where
  pub list : n.list.items ≡ rs
  pub places : (r : ℕ) → is_some (get nat_cmp n.places r) ≡ is_among rs r

-- Pairs of resources that say the same of partners.
use Rattle.std.specs.Prelude.{ℕ, List}
use Rattle.comp_types.specs.Subtyping.{Takes}

-- whoever takes each resource of the one list to its partner does so by the other
pub record TakesAlike (these those : List (ℕ × ℕ)) : Type 0 where
  pub onward : (partner : ℕ → ℕ) → Takes partner these → Takes partner those
  pub back : (partner : ℕ → ℕ) → Takes partner those → Takes partner these

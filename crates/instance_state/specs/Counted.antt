-- What is kept of a table: how many of its handles are borrowed.
use Rattle.std.specs.Prelude.{◌≡◌, ◌≤◌, ◌<◌, ◌^◌, ℕ, List, [], ◌∷◌, length}
use Rattle.std.specs.List.{count_by}
use Rattle.handle_space.specs.HandleMap.{HandleMap}
use Rattle.comp_worlds.specs.Passing.{is_borrow}

abbrev pub AreBelow : ℕ → List ℕ → Type 0
AreBelow n [] = Unit {0}
AreBelow n (i ∷ is) = (i < n) × AreBelow n is

pub record IsCounted (m : HandleMap ℕ) (n : ℕ) : Type 0 where
  pub count : count_by is_borrow m.entries ≡ n
  -- an index that was freed was used
  pub freed : AreBelow (length m.entries) m.freed
  pub few : length m.entries ≤ 2 ^ 32

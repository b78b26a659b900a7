-- What contracts see of a table: the handle map that its cells stand for.
use Rattle.std.specs.Prelude.{◌≡◌, ℕ, zero, suc, ◌+◌, ◌≤◌, true, false, List, [], ◌∷◌, map, length, count_by, Option, Some, None, is_some, slice_get}
use Rattle.handle_space.specs.declared.cell.Cell.{Cell}
use Rattle.handle_space.specs.declared.cell.Cell.TheVariants.{Free, Own, Borrow}
use Rattle.handle_space.specs.HandleMap.{Entry, HandleMap, most_live}

-- the entry of a cell
abbrev pub entry_in : Cell → Option (Entry ℕ)
entry_in (Free next) = None
entry_in (Own resource rep lent) = Some (record { resource = resource; rep = rep; owned = true; lent = lent })
entry_in (Borrow resource rep) = Some (record { resource = resource; rep = rep; owned = false; lent = 0 })

-- the cell that a free one names
abbrev pub next_in : Option Cell → Option ℕ
next_in None = None
next_in (Some (Free next)) = next
next_in (Some (Own resource rep lent)) = None
next_in (Some (Borrow resource rep)) = None

-- the indexes of that many cells, from this one on, of which each names the next
abbrev pub freed_from : List Cell → Option ℕ → ℕ → List ℕ
freed_from cells at zero = []
freed_from cells None (suc count) = []
freed_from cells (Some at) (suc count) = suc at ∷ freed_from cells (next_in (slice_get cells at)) count

-- From this cell on, that many free cells each name the next, and the last names none.
abbrev pub IsChain : List Cell → Option ℕ → ℕ → Type 0
IsChain cells None zero = Unit {0}
IsChain cells None (suc count) = ⊥
IsChain cells (Some at) zero = ⊥
IsChain cells (Some at) (suc count) = (next : Option ℕ) × (slice_get cells at ≡ Some (Free next)) × IsChain cells next count

-- The list from `freed` holds every free cell, and there are no more cells than a table may have.
pub record IsSound (cells : List Cell) (freed : Option ℕ) (free : ℕ) : Type 0 where
  pub linked : IsChain cells freed free
  pub total : free + count_by is_some (map entry_in cells) ≡ length cells
  pub few : length cells ≤ most_live

abbrev pub shown : List Cell → Option ℕ → ℕ → HandleMap ℕ
shown cells freed free = record { entries = None ∷ map entry_in cells; freed = freed_from cells freed free }

-- How free places are linked.
use Rattle.std.specs.Prelude.{◌≡◌, ℕ, zero, suc, ◌+◌, List, map, length, Option, Some, None, slice_get}
use Rattle.slot_tables.specs.Entries.{live_count}
use Rattle.slot_tables.specs.declared.cells.Place.{Place}
use Rattle.slot_tables.specs.declared.cells.Place.TheVariants.{Free, Used}

module _ {E : Type 0} where
  -- the entry of a place, if it has one
  abbrev pub entry_of : Place E → Option E
  entry_of (Free _) = None
  entry_of (Used entry) = Some entry

  -- from this place on, that many free places each name the next, and the last names none
  abbrev pub IsChain : List (Place E) → Option ℕ → ℕ → Type 0
  IsChain places None zero = Unit {0}
  IsChain places None (suc count) = ⊥
  IsChain places (Some at) zero = ⊥
  IsChain places (Some at) (suc count) = (next : Option ℕ) × (slice_get places at ≡ Some (Free next)) × IsChain places next count

  -- the list from `first` holds every free place
  pub record IsSound (places : List (Place E)) (first : Option ℕ) (free : ℕ) : Type 0 where
    pub linked : IsChain places first free
    pub total : free + live_count (map entry_of places) ≡ length places

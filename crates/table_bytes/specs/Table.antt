-- A slot table in a byte memory: a word that names the first free place, four bytes that are not used, and then sixteen
-- bytes for each place. A place has a tag in its first byte, a word from its fifth and a long word from its ninth.
use Rattle.std.specs.Prelude.{◌≡◌, ℕ, zero, suc, ◌+◌, ◌*◌, ◌≤◌, ◌<◌, ◌^◌, ◌==◌, if◌then◌else◌, List, map, length, Option, Some, None, slice_set}
use Rattle.std.specs.List.{range_with_len}
use Rattle.slot_tables.specs.declared.cells.Place.{Place}
use Rattle.slot_tables.specs.declared.cells.Place.TheVariants.{Free, Used}
use Rattle.slot_tables.specs.Places.{IsSound}
use Rattle.adapter_code.specs.Number.{word}
use Rattle.adapter_code.specs.Keeps.{Keeps}
use Rattle.table_bytes.specs.declared.entry.Entry.{Entry}
use Rattle.table_bytes.specs.Entries.{entry_of}

-- the place after the last is none
abbrev pub upto : ℕ → ℕ → Option ℕ
upto capacity at = if at == capacity then None else Some at

-- a link of 0 names the next place, and any other the place of one less; so bytes of zeros link every place
abbrev pub link_of : ℕ → ℕ → ℕ → Option ℕ
link_of capacity next zero = upto capacity next
link_of capacity next (suc at) = upto capacity at

-- eight bytes before a place begins, in the form in which the routines compute it
abbrev pub spot : ℕ → ℕ → ℕ
spot base at = at * 16 + base

-- what a place is, by its tag, its word and its long word
abbrev pub place_of : ℕ → ℕ → ℕ → ℕ → ℕ → Place Entry
place_of capacity at tag w long = if tag == 0 then Free (link_of capacity (at + 1) w) else Used (entry_of tag w long)

-- a place, as its bytes say
unfoldable pub place_at : List ℕ → ℕ → ℕ → ℕ → Place Entry
place_at memory base capacity at = place_of capacity at (word memory (spot base at + 8) 1) (word memory (spot base at + 12) 4) (word memory (spot base at + 16) 8)

-- the places of a table
unfoldable pub places_of : List ℕ → ℕ → ℕ → List (Place Entry)
places_of memory base capacity = map (place_at memory base capacity) (range_with_len 0 capacity)

-- the first free place
abbrev pub first_of : List ℕ → ℕ → ℕ → Option ℕ
first_of memory base capacity = link_of capacity 0 (word memory (base + 0) 4)

-- how many bytes a table has
abbrev pub table_len : ℕ → ℕ
table_len capacity = 8 + 16 * capacity

-- the bytes are a table, of which that many places are free
pub record IsTable (memory : List ℕ) (base capacity free : ℕ) : Type 0 where
  pub sound : IsSound (places_of memory base capacity) (first_of memory base capacity) free
  pub within : base + table_len capacity ≤ length memory
  pub small : base + table_len capacity < 2 ^ 32

-- one place of a table was changed, and no other byte of the memory
pub record Changed (old new : List ℕ) (base capacity free at : ℕ) (place : Place Entry) : Type 0 where
  pub table : IsTable new base capacity free
  pub places : places_of new base capacity ≡ slice_set (places_of old base capacity) at place
  pub keeps : Keeps old new base (table_len capacity)

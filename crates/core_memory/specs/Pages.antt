-- A memory as its pages in order.
use Rattle.std.specs.Prelude.{ℕ, ◌≡◌, ◌+◌, ◌/◌, ◌<◌, ◌≤◌, ◌^◌, Bool, true, false, Option, List, map, length, slice_index_or}
use Rattle.std.specs.List.{flat_map}
use Rattle.core_memory.specs.Page.{Content}
use Rattle.core_memory.specs.Linear.{Linear}
use Rattle.core_memory.specs.Replaced.{replaced}

abbrev pub bytes_in : List Content → List ℕ
bytes_in ps = flat_map (λ (p : Content). p.bytes) ps

abbrev pub made_in : List Content → List Bool
made_in ps = map (λ (p : Content). p.made) ps

abbrev pub linear : List Content → Option ℕ → Linear
linear ps max = record { bytes = bytes_in ps; made = made_in ps; max = max }

-- each page has its length
pub record IsPaged (ps : List Content) : Type 0 where
  pub each : (k : ℕ) (d : Content) → k < length ps → length (slice_index_or ps k d).bytes ≡ 65536

-- bytes at a place are replaced, on pages that are made
pub record Edits (ps qs : List Content) (at : ℕ) (new : List ℕ) : Type 0 where
  pub bytes : bytes_in qs ≡ replaced (bytes_in ps) at new
  pub made : made_in qs ≡ made_in ps
  pub paged : IsPaged qs
  pub count : length qs ≡ length ps

-- the pages of a memory, whose number fits 32 bits
pub record IsMemory (ps : List Content) : Type 0 where
  pub paged : IsPaged ps
  pub few : length ps < 2 ^ 32

-- the pages on which that many bytes lie are made
pub record Ready (made : List Bool) (at len : ℕ) : Type 0 where
  pub each : (place : ℕ) → at ≤ place → place < at + len → slice_index_or made (place / 65536) false ≡ true

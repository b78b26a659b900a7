-- Linear memories (WebAssembly Core 2.0, section 4.2.8), and what the memory instructions do (section 4.4.7).
use Rattle.std.specs.Prelude.{ℕ, ◌≡◌, ◌+◌, ◌-◌, ◌*◌, ◌/◌, ◌<◌, ◌≤◌, ◌==◌, ◌&&◌, ◌⊎◌, ◌++◌, nat_le, if◌then◌else◌, Bool, true, false, Option, unwrap_or, List, length, take, drop, replicate, slice_index_or, Result, Ok, Err, ℤ, pos, negsuc}
use Rattle.std.specs.List.{count_by}
use Rattle.virt_base.specs.declared.fault.Trap.{Trap as TrapType}
use Rattle.virt_base.specs.declared.fault.NoMemory.{NoMemory as NoMemoryType}
use Rattle.core_memory.specs.declared.fault.StoreFault.{StoreFault}
use Rattle.core_memory.specs.declared.fault.StoreFault.TheVariants.{Trap, NoMemory}
use Rattle.core_memory.specs.Page.{zeros}
use Rattle.core_memory.specs.Number.{number}
use Rattle.core_memory.specs.Replaced.{replaced}

-- a memory: its bytes, the greatest number of pages of its type, and for each page whether memory was taken for it
pub record Linear : Type 0 where
  pub bytes : List ℕ
  pub made : List Bool
  pub max : Option ℕ

-- that many pages of zeros
abbrev pub fresh : ℕ → Option ℕ → Linear
fresh pages max = record { bytes = zeros (65536 * pages); made = replicate pages false; max = max }

-- the integer of that many bytes at a place, or a trap past the end
abbrev pub loaded : Linear → ℕ → ℕ → Result ℕ TrapType
loaded m at width = if nat_le (at + width) (length m.bytes) then Ok (number (take width (drop at m.bytes))) else Err (record {})

-- on how many pages that many bytes lie, of which there is one at least
abbrev pub pages_of : ℕ → ℕ → ℕ
pages_of at len = (at + len - 1) / 65536 + 1 - at / 65536

-- a write of bytes takes memory for the pages on which they lie
abbrev pub touched : List Bool → ℕ → ℕ → List Bool
touched made at len = if len == 0 then made else replaced made (at / 65536) (replicate (pages_of at len) true)

-- the memory after a write of bytes at a place
abbrev pub written : Linear → ℕ → List ℕ → Linear
written m at new = record { bytes = replaced m.bytes at new; made = touched m.made at (length new); max = m.max }

-- Of that many pages from the first on, some were made, and one of them had not been.
pub record MakesSome (old new : List Bool) (first count : ℕ) : Type 0 where
  pub some : (n : ℕ) × (n < count) × (new ≡ replaced old first (replicate n true)) × (slice_index_or old (first + n) false ≡ false)

-- where memory ran out each byte is as before
pub record RunsOut (old new : Linear) (at len : ℕ) : Type 0 where
  pub bytes : new.bytes ≡ old.bytes
  pub max : new.max ≡ old.max
  pub some : 0 < len
  pub made : MakesSome old.made new.made (at / 65536) (pages_of at len)

-- What a write of bytes at a place did: they are there; or the place and the length pass the end, and nothing changed; or memory ran out.
abbrev pub Writes : Linear → Linear → ℕ → List ℕ → Result (Unit {0}) StoreFault → Type 0
Writes old new at bytes (Ok done) = (at + length bytes ≤ length old.bytes) × (new ≡ written old at bytes)
Writes old new at bytes (Err Trap) = (length old.bytes < at + length bytes) × (new ≡ old)
Writes old new at bytes (Err NoMemory) = (at + length bytes ≤ length old.bytes) × RunsOut old new at (length bytes)

-- the number of pages
abbrev pub size : Linear → ℕ
size m = length m.made

-- a memory may have this many more pages: neither its type's maximum nor 4,096 is passed
abbrev pub can_grow : Linear → ℕ → Bool
can_grow m pages = nat_le (size m + pages) 4096 && nat_le (size m + pages) (unwrap_or m.max 4096)

abbrev pub grown : Linear → ℕ → Linear
grown m pages = record { bytes = m.bytes ++ zeros (65536 * pages); made = m.made ++ replicate pages false; max = m.max }

-- What growing did: the old size is answered; or -1, and nothing changed; or memory ran out, and nothing changed.
abbrev pub Grows : Linear → Linear → ℕ → Result ℤ NoMemoryType → Type 0
Grows old new pages (Ok answer) =
    (answer ≡ (if can_grow old pages then pos (size old) else negsuc 0)) × (new ≡ (if can_grow old pages then grown old pages else old))
Grows old new pages (Err e) = new ≡ old

-- how many pages are made
abbrev pub made_of : Linear → ℕ
made_of m = count_by (λ made. made) m.made

-- the bytes from a place on
abbrev pub range : Linear → ℕ → ℕ → List ℕ
range m at len = take len (drop at m.bytes)

-- What reading bytes answered: those from the place on; or the place and the length pass the end; or memory ran out.
abbrev pub Reads : Linear → ℕ → ℕ → Result (List ℕ) StoreFault → Type 0
Reads m at len (Ok bytes) = (at + len ≤ length m.bytes) × (bytes ≡ range m at len)
Reads m at len (Err Trap) = length m.bytes < at + len
Reads m at len (Err NoMemory) = at + len ≤ length m.bytes

-- What a copy from a list of bytes did: the source and the target are within, and the source's bytes are at the target; or one of them passes the end, and nothing changed; or memory ran out.
abbrev pub Moves : List ℕ → Linear → Linear → ℕ → ℕ → ℕ → Result (Unit {0}) StoreFault → Type 0
Moves source old new to from len (Ok done) = (from + len ≤ length source) × (to + len ≤ length old.bytes) × (new ≡ written old to (take len (drop from source)))
Moves source old new to from len (Err Trap) = ((length source < from + len) ⊎ (length old.bytes < to + len)) × (new ≡ old)
Moves source old new to from len (Err NoMemory) = (from + len ≤ length source) × (to + len ≤ length old.bytes) × RunsOut old new to len

-- a copy within a memory takes its old bytes
abbrev pub Copies : Linear → Linear → ℕ → ℕ → ℕ → Result (Unit {0}) StoreFault → Type 0
Copies old new to from len result = Moves old.bytes old new to from len result

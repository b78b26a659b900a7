-- Tables (WebAssembly Core 2.0, section 4.2.7), and what the table instructions do (section 4.4.6).
use Rattle.std.specs.Prelude.{ℕ, ◌≡◌, ◌+◌, ◌<◌, ◌≤◌, ◌&&◌, ◌⊎◌, ◌++◌, nat_lt, nat_le, if◌then◌else◌, Bool, Option, unwrap_or, List, length, take, drop, slice_set, slice_index_or, Result, Ok, Err, ℤ, pos, negsuc}
use Rattle.std.specs.List.{All}
use Rattle.virt_base.specs.declared.fault.Trap.{Trap}
use Rattle.virt_base.specs.declared.fault.NoMemory.{NoMemory}
use Rattle.core_store.specs.declared.value.CoreRef.{CoreRef}
use Rattle.core_store.specs.declared.value.CoreRef.TheVariants.{Null, Func}
use Rattle.core_memory.specs.Replaced.{replaced, repeated}

-- a table: its elements, and the greatest number of them of its type
pub record Entries : Type 0 where
  pub refs : List CoreRef
  pub max : Option ℕ

-- a reference is null or names one of that many functions
abbrev pub IsRef : ℕ → CoreRef → Type 0
IsRef functions Null = Unit {0}
IsRef functions (Func f) = f < functions

abbrev pub AreRefs : ℕ → List CoreRef → Type 0
AreRefs functions refs = All (IsRef functions) refs

-- that many null references
abbrev pub nulls : ℕ → Option ℕ → Entries
nulls count max = record { refs = repeated count Null; max = max }

-- the element at a place, or a trap past the end
abbrev pub got : Entries → ℕ → Result CoreRef Trap
got t at = if nat_lt at (length t.refs) then Ok (slice_index_or t.refs at Null) else Err (record {})

-- What a write of an element did.
abbrev pub Sets : Entries → Entries → ℕ → CoreRef → Result (Unit {0}) Trap → Type 0
Sets old new at value (Ok done) = (at < length old.refs) × (new ≡ record old { refs = slice_set old.refs at value })
Sets old new at value (Err trap) = (length old.refs ≤ at) × (new ≡ old)

-- What a write of one value to that many elements did.
abbrev pub Fills : Entries → Entries → ℕ → CoreRef → ℕ → Result (Unit {0}) Trap → Type 0
Fills old new at value len (Ok done) = (at + len ≤ length old.refs) × (new ≡ record old { refs = replaced old.refs at (repeated len value) })
Fills old new at value len (Err trap) = (length old.refs < at + len) × (new ≡ old)

-- What a copy from a list of references did: the source and the target are within, and the source's references are at the target; or one of them passes the end, and nothing changed.
abbrev pub Moves : List CoreRef → Entries → Entries → ℕ → ℕ → ℕ → Result (Unit {0}) Trap → Type 0
Moves source old new to from len (Ok done) = (from + len ≤ length source) × (to + len ≤ length old.refs) × (new ≡ record old { refs = replaced old.refs to (take len (drop from source)) })
Moves source old new to from len (Err trap) = ((length source < from + len) ⊎ (length old.refs < to + len)) × (new ≡ old)

-- a table may have this many more elements: neither its type's maximum nor 1,048,576 is passed
abbrev pub can_grow : Entries → ℕ → Bool
can_grow t by = nat_le (length t.refs + by) 1048576 && nat_le (length t.refs + by) (unwrap_or t.max 1048576)

-- What growing did: the old size is answered; or -1, and nothing changed; or memory ran out, and nothing changed.
abbrev pub Grows : Entries → Entries → ℕ → CoreRef → Result ℤ NoMemory → Type 0
Grows old new by value (Ok answer) =
    (answer ≡ (if can_grow old by then pos (length old.refs) else negsuc 0))
    × (new ≡ (if can_grow old by then record old { refs = old.refs ++ repeated by value } else old))
Grows old new by value (Err e) = new ≡ old

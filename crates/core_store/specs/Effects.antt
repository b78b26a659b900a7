-- What instructions do to memories and tables (WebAssembly Core 2.0, sections 4.4.6 and 4.4.7): the store after them, or none where they trap.
use Rattle.std.specs.Prelude.{ℕ, ◌+◌, ◌-◌, ◌^◌, ◌&&◌, nat_le, nat_lt, if◌then◌else◌, List, length, take, drop, slice_set, ◌++◌, Option, Some, None}
use Rattle.core_memory.specs.Replaced.{replaced, repeated}
use Rattle.core_memory.specs.Linear.{Linear, written, grown, can_grow, size}
use Rattle.core_store.specs.declared.value.CoreRef.{CoreRef}
use Rattle.core_store.specs.Table.{Entries, can_grow as table_can_grow}
use Rattle.core_store.specs.State.{State, memory_at, table_at}

abbrev pub with_memory : State → ℕ → Linear → State
with_memory s k m = record s { memories = slice_set s.memories k m }

abbrev pub with_table : State → ℕ → Entries → State
with_table s k t = record s { tables = slice_set s.tables k t }

-- bytes are written at a place of a memory
abbrev pub put_bytes : State → ℕ → ℕ → List ℕ → Option State
put_bytes s k at bytes =
    if nat_le (at + length bytes) (length (memory_at s k).bytes) then Some (with_memory s k (written (memory_at s k) at bytes)) else None

-- a part of a list of bytes is written
abbrev pub move_bytes : List ℕ → State → ℕ → ℕ → ℕ → ℕ → Option State
move_bytes source s k to from len =
    if nat_le (from + len) (length source) && nat_le (to + len) (length (memory_at s k).bytes)
    then Some (with_memory s k (written (memory_at s k) to (take len (drop from source)))) else None

abbrev pub with_refs : State → ℕ → List CoreRef → State
with_refs s k refs = with_table s k (record { refs = refs; max = (table_at s k).max })

abbrev pub set_ref : State → ℕ → ℕ → CoreRef → Option State
set_ref s k at r = if nat_lt at (length (table_at s k).refs) then Some (with_refs s k (slice_set (table_at s k).refs at r)) else None

abbrev pub fill_refs : State → ℕ → ℕ → CoreRef → ℕ → Option State
fill_refs s k at r len =
    if nat_le (at + len) (length (table_at s k).refs) then Some (with_refs s k (replaced (table_at s k).refs at (repeated len r))) else None

abbrev pub move_refs : List CoreRef → State → ℕ → ℕ → ℕ → ℕ → Option State
move_refs source s k to from len =
    if nat_le (from + len) (length source) && nat_le (to + len) (length (table_at s k).refs)
    then Some (with_refs s k (replaced (table_at s k).refs to (take len (drop from source)))) else None

-- what growing leaves as an i32: the old size, or -1
abbrev pub grown_size : State → ℕ → ℕ → ℕ
grown_size s k pages = if can_grow (memory_at s k) pages then size (memory_at s k) else 2 ^ 32 - 1

abbrev pub grow_memory : State → ℕ → ℕ → State
grow_memory s k pages = with_memory s k (if can_grow (memory_at s k) pages then grown (memory_at s k) pages else memory_at s k)

abbrev pub grown_table_size : State → ℕ → ℕ → ℕ
grown_table_size s k by = if table_can_grow (table_at s k) by then length (table_at s k).refs else 2 ^ 32 - 1

abbrev pub grow_table : State → ℕ → ℕ → CoreRef → State
grow_table s k by r =
    with_table s k (if table_can_grow (table_at s k) by then record (table_at s k) { refs = (table_at s k).refs ++ repeated by r } else table_at s k)

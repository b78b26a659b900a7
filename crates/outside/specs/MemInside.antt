-- How files in memory are kept.
use Rattle.std.specs.Prelude.{ℕ, length, true, List, Bool, Option, Some, None, is_some, is_none, not, ◌&&◌, if◌then◌else◌, String}
use Rattle.std.specs.BTreeMap.{BTreeMap, get_by_text}
use Rattle.std.specs.declared.alloc.Global.{Global}
use Rattle.outside.specs.Files.{Held}
use Rattle.outside.specs.declared.files.Entry.{Entry}
use Rattle.outside.specs.declared.mem_tables.MemFile.{MemFile}

-- the bytes of a file that is there
abbrev pub shown : Option MemFile → Option (List ℕ)
shown None = None
shown (Some f) = if f.there then Some f.held.bytes else None

abbrev pub room_of : Option MemFile → ℕ
room_of None = 0
room_of (Some f) = f.held.room

-- neither there nor noted
abbrev pub is_no_place : Option MemFile → Bool
is_no_place found = not (is_some found) && is_none (shown found)

abbrev pub held_by : (List ℕ → Option MemFile) → (List ℕ → Option (List Entry)) → Held
held_by find folder = record { file = λ n. shown (find n); folder = folder; noted = λ n. is_some (find n); room = λ n. room_of (find n) }

abbrev pub held_in : BTreeMap (String Global) MemFile → BTreeMap (String Global) (List Entry) → Held
held_in files folders = held_by (λ n. get_by_text files n) (λ n. get_by_text folders n)

-- a file that is there from the start
abbrev pub full : List ℕ → MemFile
full bytes = record { held = record { bytes = bytes; room = length bytes }; there = true }

-- How files stand in memory: one after the other in order of their numbers, each in whole blocks.
use Rattle.std.specs.Prelude.{◌≡◌, ℕ, ◌+◌, ◌*◌, ◌≤◌, ◌<◌, ◌^◌, Bool, false, List, [], ◌∷◌, length, take, drop, Option, Some, None, option_map}
use Rattle.std.specs.Option.{option_map_or}
use Rattle.std.specs.Str.{bytes_eq}
use Rattle.tree_table.specs.Scratches.{ScratchFile, ScratchMap, blocks_of}

-- the name of a file, and its length
pub record Entry : Type 0 where
  pub name : List ℕ
  pub len : ℕ

-- a name stands at the front of its bytes
abbrev pub entry_of : List ℕ → ℕ → Option ℕ → Option Entry
entry_of bytes named None = None
entry_of bytes named (Some len) = Some (record { name = take named bytes; len = len })

-- a name has a room of 255 bytes
pub record IsSlot (bytes : List ℕ) (named : ℕ) (file : Option ℕ) : Type 0 where
  pub room : length bytes ≡ 255
  pub short : named ≤ 255
  pub few : option_map_or (λ len. len) file 0 < 2 ^ 48

abbrev pub len_of : Option Entry → ℕ
len_of entry = option_map_or (λ e. e.len) entry 0

abbrev pub as_long : ℕ → Entry → Entry
as_long len e = record e { len = len }

abbrev pub with_len : ℕ → Option Entry → Option Entry
with_len len entry = option_map (as_long len) entry

abbrev pub is_named : List ℕ → Option Entry → Bool
is_named name None = false
is_named name (Some e) = bytes_eq e.name name

abbrev pub entry_blocks : Option Entry → ℕ
entry_blocks None = 0
entry_blocks (Some e) = blocks_of e.len

-- the blocks that files take
abbrev pub blocks_in : List (Option Entry) → ℕ
blocks_in [] = 0
blocks_in (entry ∷ entries) = entry_blocks entry + blocks_in entries

abbrev pub piece_of : Option Entry → List ℕ → Option ScratchFile
piece_of None bytes = None
piece_of (Some e) bytes = Some (record { name = e.name; content = take e.len bytes })

-- the files, whose bytes stand one after the other
abbrev pub pieces : List (Option Entry) → List ℕ → List (Option ScratchFile)
pieces [] bytes = []
pieces (entry ∷ entries) bytes = piece_of entry bytes ∷ pieces entries (drop (entry_blocks entry * 4096) bytes)

-- the files with their quota
abbrev pub map_of : ℕ → List (Option Entry) → List ℕ → ScratchMap
map_of blocks entries bytes = record { blocks = blocks; files = pieces entries bytes }

-- the files are within the bytes, which are those of the quota
pub record IsKept (blocks : ℕ) (entries : List (Option Entry)) (bytes : List ℕ) : Type 0 where
  pub quota : length bytes ≡ blocks * 4096
  pub within : blocks_in entries ≤ blocks
  pub few : blocks < 2 ^ 32
  pub numbered : length entries < 2 ^ 32

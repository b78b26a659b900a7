-- A scratch folder: a flat map from numbers to files, with a quota in blocks of 4,096 bytes.
use Rattle.std.specs.Prelude.{◌≡◌, ℕ, ◌+◌, ◌-◌, ◌/◌, ◌≤◌, ◌==◌, nat_le, Bool, false, List, [], ◌∷◌, ◌++◌, length, take, drop, replicate, max, position, slice_get, slice_set, slice_index_or, Option, Some, None, is_none, option_map, if◌then◌else◌}
use Rattle.std.specs.Option.{option_map_or}
use Rattle.std.specs.List.{splice}
use Rattle.std.specs.Str.{bytes_eq}
use Rattle.tree_table.specs.declared.entries.Node.{Node}
use Rattle.tree_table.specs.declared.entries.Node.TheVariants.{Folder, File}

-- a file: its name and its bytes
pub record ScratchFile : Type 0 where
  pub name : List ℕ
  pub content : List ℕ

-- how many blocks the files may take, and the file of each number, if it has one
pub record ScratchMap : Type 0 where
  pub blocks : ℕ
  pub files : List (Option ScratchFile)

-- the place of insufficient-space in the enum error-code of wasi:filesystem/types 0.2
abbrev pub insufficient_space : ℕ
insufficient_space = 23

-- that many bytes in blocks, rounded up
abbrev pub blocks_of : ℕ → ℕ
blocks_of n = (n + 4095) / 4096

abbrev pub file_blocks : Option ScratchFile → ℕ
file_blocks None = 0
file_blocks (Some file) = blocks_of (length file.content)

-- the blocks that files take
abbrev pub use_of : List (Option ScratchFile) → ℕ
use_of [] = 0
use_of (file ∷ files) = file_blocks file + use_of files

abbrev pub empty_scratch : ℕ → ℕ → ScratchMap
empty_scratch blocks files = record { blocks = blocks; files = replicate files None }

-- ---- reading

abbrev pub file_at : ScratchMap → ℕ → Option ScratchFile
file_at m number = slice_index_or m.files number None

abbrev pub name_at : ScratchMap → ℕ → Option (List ℕ)
name_at m number = option_map (λ f. f.name) (file_at m number)

abbrev pub content_at : ScratchMap → ℕ → List ℕ
content_at m number = option_map_or (λ f. f.content) (file_at m number) []

abbrev pub has_name : List ℕ → Option ScratchFile → Bool
has_name name None = false
has_name name (Some file) = bytes_eq file.name name

-- the number of the file of a name
abbrev pub find_file : ScratchMap → List ℕ → Option ℕ
find_file m name = position (has_name name) m.files

-- the least number without a file
abbrev pub free_number : ScratchMap → Option ℕ
free_number m = position is_none m.files

-- the next bytes from a place on, that many at most
abbrev pub read_at : List ℕ → ℕ → ℕ → List ℕ
read_at content at len = take len (drop at content)

-- its tree: the root with these files
abbrev pub scratch_tree : ScratchMap → List (List ℕ) → Option Node
scratch_tree m [] = Some Folder
scratch_tree m (name ∷ []) = option_map (λ number. File (content_at m number)) (find_file m name)
scratch_tree m (name ∷ above ∷ more) = None

-- ---- changing

-- the number has this file, or none
abbrev pub with_file : ScratchMap → ℕ → Option ScratchFile → ScratchMap
with_file m number file = record m { files = slice_set m.files number file }

abbrev pub holding : List ℕ → ScratchFile → ScratchFile
holding content file = record file { content = content }

abbrev pub called : List ℕ → ScratchFile → ScratchFile
called name file = record file { name = name }

abbrev pub with_content : ScratchMap → ℕ → List ℕ → ScratchMap
with_content m number content = with_file m number (option_map (holding content) (file_at m number))

abbrev pub with_name : ScratchMap → ℕ → List ℕ → ScratchMap
with_name m number name = with_file m number (option_map (called name) (file_at m number))

-- whether the other files' blocks and those of that many bytes are within the quota
abbrev pub has_room : ScratchMap → ℕ → ℕ → Bool
has_room m number len = nat_le (use_of (slice_set m.files number None) + blocks_of len) m.blocks

-- a new file without bytes
abbrev pub created : ScratchMap → ℕ → List ℕ → ScratchMap
created m number name = with_file m number (Some (record { name = name; content = [] }))

abbrev pub removed : ScratchMap → ℕ → ScratchMap
removed m number = with_file m number None

abbrev pub without_other : ScratchMap → ℕ → Option ℕ → ScratchMap
without_other m number None = m
without_other m number (Some other) = if other == number then m else removed m other

-- the file of the number has the name, and no other file has it
abbrev pub renamed : ScratchMap → ℕ → List ℕ → ScratchMap
renamed m number name = with_name (without_other m number (find_file m name)) number name

-- with zeros after it, where it is shorter
abbrev pub grown : List ℕ → ℕ → List ℕ
grown content len = content ++ replicate (len - length content) 0

-- cut, or grown by zeros
abbrev pub resized : List ℕ → ℕ → List ℕ
resized content len = take len (grown content len)

-- the bytes stand from a place on; where there are none, nothing changes
abbrev pub overwritten : List ℕ → ℕ → List ℕ → List ℕ
overwritten content at [] = content
overwritten content at (b ∷ bytes) = splice (grown content (at + length (b ∷ bytes))) at (at + length (b ∷ bytes)) (b ∷ bytes)

-- where a change keeps the quota
abbrev pub within_quota : Bool → ScratchMap → Option ScratchMap
within_quota fits m = if fits then Some m else None

-- the file has this size, unless that is past the quota
abbrev pub sized : ScratchMap → ℕ → ℕ → Option ScratchMap
sized m number len = within_quota (has_room m number len) (with_content m number (resized (content_at m number) len))

-- the bytes are written into the file, unless that is past the quota
abbrev pub written : ScratchMap → ℕ → ℕ → List ℕ → Option ScratchMap
written m number at [] = Some m
written m number at (b ∷ bytes) = within_quota (has_room m number (max (length (content_at m number)) (at + length (b ∷ bytes)))) (with_content m number (overwritten (content_at m number) at (b ∷ bytes)))

-- ---- what every call keeps

pub record IsScratch (m : ScratchMap) : Type 0 where
  pub quota : use_of m.files ≤ m.blocks
  pub distinct : (i j : ℕ) (f g : ScratchFile) → slice_get m.files i ≡ Some (Some f) → slice_get m.files j ≡ Some (Some g) → f.name ≡ g.name → i ≡ j

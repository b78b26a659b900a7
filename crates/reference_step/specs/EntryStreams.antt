-- wasi:filesystem/types, resource directory-entry-stream: what its method does where the stream is not the host's.
use Rattle.std.specs.Prelude.{ℕ, ◌+◌, [], ◌∷◌, Option, Some, None, unwrap_or}
use Rattle.tree_table.specs.Scratches.{ScratchMap, name_at}
use Rattle.reference_step.specs.Codes as code
use Rattle.reference_step.specs.Handles.{Content, DirectoryEntry, Entries, ScratchEntries}
use Rattle.reference_step.specs.Values.{ok, some, none}
use Rattle.reference_step.specs.Nodes.{next_file, entry_value}
use Rattle.reference_step.specs.State.{View, Row, returns, moves}

-- the file of a number, of which its name is told
abbrev pub file_entry : ScratchMap → ℕ → DirectoryEntry
file_entry m n = record { ty = code.regular_file; name = unwrap_or (name_at m n) [] }

abbrev pub next_entry : ScratchMap → Option ℕ → Row
next_entry m None = returns (ok none)
next_entry m (Some n) = moves (ScratchEntries (n + 1)) (ok (some (entry_value (file_entry m n))))

abbrev pub read-directory-entry : View → Content → Row
read-directory-entry v (Entries (e ∷ rest)) = moves (Entries rest) (ok (some (entry_value e)))
read-directory-entry v (ScratchEntries from) = next_entry v.scratch (next_file v.scratch from)
read-directory-entry v _ = returns (ok none)

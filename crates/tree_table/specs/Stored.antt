-- What stored nodes stand for: entries, each of which keeps its own name and the number of its folder.
use Rattle.std.specs.Prelude.{◌≡◌, ℕ, suc, zero, ◌<◌, ◌≤◌, List, [], ◌∷◌, ◌++◌, Some, length, slice_get, slice_index_or}
use Rattle.tree_table.specs.declared.entries.Node.{Node}
use Rattle.tree_table.specs.declared.entries.Node.TheVariants.{Folder}
use Rattle.tree_table.specs.declared.entries.Entry.{Entry}
use Rattle.tree_table.specs.declared.nodes.Kept.{Kept}

abbrev pub root_entry : Entry
root_entry = record { path = []; node = Folder }

-- the entry of a number; the root, where there is none
abbrev pub entry_at : List Entry → ℕ → Entry
entry_at entries number = slice_index_or entries number root_entry

abbrev pub path_at : List Entry → ℕ → List (List ℕ)
path_at entries number = (entry_at entries number).path

abbrev pub node_at : List Entry → ℕ → Node
node_at entries number = (entry_at entries number).node

-- an entry of this name in the folder of a number
abbrev pub entry_in : List Entry → ℕ → List ℕ → Node → Entry
entry_in entries folder name node = record { path = path_at entries folder ++ name ∷ []; node = node }

-- the entries before, and one for each node that is kept
abbrev pub entries_from : List Entry → List Kept → List Entry
entries_from before [] = before
entries_from before (k ∷ kept) = entries_from (before ++ entry_in before k.folder k.name k.node ∷ []) kept

-- what is kept of the node of a number
pub record IsKept (entries : List Entry) (number : ℕ) (kept : Kept) : Type 0 where
  pub inside : number < length entries
  pub above : kept.folder < number
  pub shallow : kept.depth ≤ number
  pub depth : kept.depth ≡ length (path_at entries number)
  pub is : entry_at entries number ≡ entry_in entries kept.folder kept.name kept.node

abbrev pub AreKept : List Entry → List Kept → Type 0
AreKept entries kept = (i : ℕ) (k : Kept) → slice_get kept i ≡ Some k → IsKept entries (suc i) k

abbrev pub numbers_upto : ℕ → List ℕ
numbers_upto zero = []
numbers_upto (suc n) = numbers_upto n ++ n ∷ []

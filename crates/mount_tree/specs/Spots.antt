-- Where a path goes in a tree in the making.
use Rattle.std.specs.Prelude.{◌≡◌, ℕ, List, [], ◌∷◌, ◌++◌, Option}
use Rattle.tree_table.specs.declared.entries.Entry.{Entry}
use Rattle.path_names.specs.Paths.{names_of}
use Rattle.mount_tree.specs.Growing.{IsAt}

-- the number of the path's folder, and its last name
pub record IsSpot (there : List Entry) (path : List ℕ) (folder : Option ℕ) (name : List ℕ) : Type 0 where
  pub above : List (List ℕ)
  pub names : names_of path ≡ above ++ name ∷ []
  pub at : IsAt there above folder

-- What the test of trees finds.
use Rattle.std.specs.Prelude.{◌≡◌, ℕ, List, Some, All, slice_get}
use Rattle.std.specs.declared.cmp.Ordering.TheVariants.{Less}
use Rattle.tree_table.specs.declared.entries.Entry.{Entry}
use Rattle.tree_table.specs.declared.entries.Node.TheVariants.{Folder}
use Rattle.tree_table.specs.Trees.{IsShort, path_cmp}
use Rattle.tree_table.specs.Linked.{IsLonger}

-- among entries stands the folder of a path
pub record HasFolder (entries : List Entry) (path : List (List ℕ)) : Type 0 where
  pub at : ℕ
  pub entry : Entry
  pub there : slice_get entries at ≡ Some entry
  pub folder : entry.node ≡ Folder
  pub above : IsLonger entry.path path

-- an entry comes after these, and its folder is one of them
pub record Fits (before : List Entry) (entry : Entry) : Type 0 where
  pub ordered : All (λ e. path_cmp e.path entry.path ≡ Less) before
  pub housed : HasFolder before entry.path
  pub short : All IsShort entry.path

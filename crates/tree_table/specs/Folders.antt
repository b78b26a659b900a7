-- What a reader of names says of a folder.
use Rattle.std.specs.Prelude.{◌≡◌, ◌≢◌, ℕ, ◌<◌, ◌≤◌, List, ◌∷◌, Option, None, IsSome}
use Rattle.std.specs.Ordering.{nat_cmp}
use Rattle.std.specs.Cmp.Lexicographic.{slice_cmp}
use Rattle.std.specs.declared.cmp.Ordering.TheVariants.{Less}
use Rattle.tree_table.specs.declared.entries.Node.{Node}

-- The nodes from `from` up to `to` are all that is in the folder, in byte order of their names.
pub record AreChildren (look : ℕ → List (List ℕ) → Option Node) (tree : ℕ → ℕ) (path : ℕ → List (List ℕ)) (name : ℕ → List ℕ) (nodes node from to : ℕ) : Type 0 where
  pub ordered : from ≤ to
  pub inside : to ≤ nodes
  pub trees : (i : ℕ) → from ≤ i → i < to → tree i ≡ tree node
  pub paths : (i : ℕ) → from ≤ i → i < to → path i ≡ name i ∷ path node
  pub sorted : (i j : ℕ) → from ≤ i → i < j → j < to → slice_cmp nat_cmp (name i) (name j) ≡ Less
  pub there : (i : ℕ) → from ≤ i → i < to → IsSome (look (tree node) (path i))
  pub whole : (part : List ℕ) → ((i : ℕ) → from ≤ i → i < to → name i ≢ part) → look (tree node) (part ∷ path node) ≡ None

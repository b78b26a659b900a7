-- A walk over the nodes of a table, step by step: each step takes one part of the path, by halves among a folder's children.
use Rattle.std.specs.Prelude.{◌≡◌, ℕ, zero, suc, ◌+◌, ◌*◌, ◌<◌, not, ◌&&◌, List, [], ◌∷◌, ◌++◌, Bool, Option, Some, None, Result, Ok, Err, length, nat_eq, if◌then◌else◌}
use Rattle.tree_table.specs.declared.entries.Node.{Node}
use Rattle.tree_table.specs.declared.entries.Node.TheVariants.{Folder, File, Link}
use Rattle.tree_table.specs.Paths.{Answer, At, Fails, Part, Stay, Up, Named, part_of, parts_of, is_file, is_rooted, is_empty, loop, no_entry, not_directory, not_permitted, resolve_parts, follow_link}
use Rattle.tree_table.specs.Tables.{Forest, count_of, tree_of, name_of, parent_of, from_of, to_of, node_of, path_of, map_of, longest_of}
use Rattle.mount_tree.specs.Halves.{child_of}

-- Where a walk is: at a node, with that many links that may still be followed and the parts that are left; or it has ended at a node, or
-- with the number of an error code.
pub data Walk : Type 0 where
  On : ℕ → ℕ → List (List ℕ) → Walk
  Ended : ℕ → Walk
  Failed : ℕ → Walk

-- The walk began at the node `start`. That many probes are made among the children of a folder.
module _ (f : Forest) (digits start : ℕ) (follow : Bool) where
  -- a link is followed: its target's parts come before those that are left
  abbrev pub along : ℕ → List ℕ → ℕ → List (List ℕ) → Walk
  along node target zero parts = Failed loop
  along node target (suc more) parts = if is_rooted target then Failed not_permitted else On node more (parts_of target ++ parts)

  -- into a child; a link is the end where it is the last part and isn't to be followed
  abbrev pub into : Node → ℕ → ℕ → ℕ → List (List ℕ) → Walk
  into Folder node child more parts = On child more parts
  into (File content) node child more parts = On child more parts
  into (Link target) node child more parts = if is_empty parts && not follow then Ended child else along node target more parts

  abbrev pub into_found : Option ℕ → ℕ → ℕ → List (List ℕ) → Walk
  into_found None node more parts = Failed no_entry
  into_found (Some child) node more parts = into (node_of f child) node child more parts

  -- to the folder's folder, but not above the start
  abbrev pub upward : ℕ → ℕ → List (List ℕ) → Walk
  upward node more parts = if nat_eq node start then Failed not_permitted else On (parent_of f node) more parts

  abbrev pub by_kind : Part → ℕ → List ℕ → ℕ → List (List ℕ) → Walk
  by_kind Stay node part more parts = On node more parts
  by_kind Up node part more parts = upward node more parts
  by_kind Named node part more parts = into_found (child_of (name_of f) digits (from_of f node) (to_of f node) part) node more parts

  -- one step
  abbrev pub step : Walk → Walk
  step (On node more []) = Ended node
  step (On node more (part ∷ parts)) = if is_file (Some (node_of f node)) then Failed not_directory else by_kind (part_of part) node part more parts
  step (Ended node) = Ended node
  step (Failed code) = Failed code

  -- that many steps
  unfoldable pub steps : ℕ → Walk → Walk
  steps zero w = w
  steps (suc n) w = steps n (step w)

  -- a walk that begins
  abbrev pub begins : List ℕ → Walk
  begins path =
      if is_file (Some (node_of f start)) then Failed not_directory
      else if is_empty path then Failed no_entry
      else if is_rooted path then Failed not_permitted
      else On start 40 (parts_of path)

  -- ---- what a walk leads to, in terms of the path map

  -- a node of the tree in which the walk began
  abbrev pub IsHome : ℕ → Type 0
  IsHome node = (node < count_of f) × (tree_of f node ≡ tree_of f start)

  abbrev pub Leads : Walk → Answer → Type 0
  Leads (On node more parts) answer = IsHome node × ((below : List (List ℕ)) × (path_of f node ≡ below ++ path_of f start)
      × (resolve_parts (map_of f (tree_of f start)) (path_of f start) follow (follow_link (map_of f (tree_of f start)) (path_of f start) follow more) below parts ≡ answer))
  Leads (Ended node) answer = IsHome node × (answer ≡ At (path_of f node))
  Leads (Failed code) answer = answer ≡ Fails code

  -- how many steps are left at most
  abbrev pub left : Walk → ℕ
  left (On node more parts) = suc (length parts + more * longest_of f)
  left (Ended node) = 0
  left (Failed code) = 0

  -- that many steps are enough for a path
  abbrev pub enough : List ℕ → ℕ
  enough path = suc (length (parts_of path) + 40 * longest_of f)

  -- the walk has ended, with this answer
  abbrev pub HasEnded : Walk → Answer → Type 0
  HasEnded (On node more parts) answer = ⊥
  HasEnded (Ended node) answer = IsHome node × (answer ≡ At (path_of f node))
  HasEnded (Failed code) answer = answer ≡ Fails code

-- a node, or the number of an error code
abbrev pub ended_by : Result ℕ ℕ → Walk
ended_by (Ok node) = Ended node
ended_by (Err code) = Failed code

-- what `walk` of `tree_table` promises of its answer
abbrev pub IsWalked : Forest → ℕ → Answer → Result ℕ ℕ → Type 0
IsWalked f start answer (Ok node) = (node < count_of f) × (tree_of f node ≡ tree_of f start) × (answer ≡ At (path_of f node))
IsWalked f start answer (Err code) = answer ≡ Fails code

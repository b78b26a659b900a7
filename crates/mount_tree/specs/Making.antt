-- A tree in the making: the paths so far, and what each leads to.
use Rattle.std.specs.Prelude.{ℕ, ◌+◌, List, [], ◌∷◌, ◌++◌, Result, Ok, Err, length, min, codes, nat_lt, if◌then◌else◌}
use Rattle.tree_table.specs.declared.entries.Entry.{Entry}
use Rattle.tree_table.specs.declared.entries.Node.{Node}
use Rattle.tree_table.specs.declared.entries.Node.TheVariants.{File}
use Rattle.tree_table.specs.Linked.{end_name}
use Rattle.path_names.specs.Paths.{names_of}
use Rattle.mount_tree.specs.declared.forest.Forest.{Forest}
use Rattle.mount_tree.specs.declared.fault.TreeFault.{TreeFault}
use Rattle.mount_tree.specs.declared.fault.TreeFault.TheVariants.{OverLimit}
use Rattle.mount_tree.specs.Growing.{above_of, is_free, with_folders, with_node}

-- the trees before this one, how many bytes files have so far, and its entries in the order in which they were made, the root first
pub record Sofar : Type 0 where
  pub before : Forest
  pub bytes : ℕ
  pub there : List Entry

-- with a path, where its folder is there and it is not
abbrev pub with_path : List Entry → List ℕ → Node → List Entry
with_path there path node = with_node there (above_of (names_of path)) (end_name (names_of path)) node

-- ---- limits

-- what is there, and a path that may be added
abbrev pub count_with : Sofar → List ℕ → ℕ
count_with sofar path = (sofar.before.nodes + length sofar.there) + (if is_free sofar.there (above_of (names_of path)) (end_name (names_of path)) then 1 else 0)

-- with the folders above a path, from the root on
abbrev pub with_above : Sofar → List ℕ → Sofar
with_above sofar path = record { before = sofar.before; bytes = sofar.bytes; there = with_folders sofar.there [] (names_of path) }

abbrev pub few_nodes : ℕ → Sofar → Result Sofar TreeFault
few_nodes count sofar = if nat_lt 65536 count then Err (OverLimit (codes "tree-nodes") count) else Ok sofar

-- a place for a path, with the folders above it: at most 64 names, then at most 65,536 nodes
abbrev pub reached : Sofar → List ℕ → Result Sofar TreeFault
reached sofar path =
    if nat_lt 64 (length (names_of path)) then Err (OverLimit (codes "tree-depth") (length (names_of path)))
    else few_nodes (count_with (with_above sofar path) path) (with_above sofar path)

-- bytes of one more file: at most 67,108,864 together
abbrev pub fitting : ℕ → List ℕ → Result (List ℕ) TreeFault
fitting used bytes =
    if nat_lt 67108864 (used + length bytes) then Err (OverLimit (codes "embedded-bytes") (min (used + length bytes) 18446744073709551615)) else Ok bytes

abbrev pub with_file : Sofar → List ℕ → List ℕ → Sofar
with_file sofar path bytes = record { before = sofar.before; bytes = sofar.bytes + length bytes; there = with_path sofar.there path (File bytes) }

-- a folder or a link
abbrev pub with_other : Sofar → List ℕ → Node → Sofar
with_other sofar path node = record { before = sofar.before; bytes = sofar.bytes; there = with_path sofar.there path node }

-- ---- a tree that was made

-- it stands under its name after those before it
abbrev pub with_tree : Sofar → List ℕ → Forest
with_tree made name = record {
  nodes = made.before.nodes + length made.there;
  bytes = made.bytes;
  trees = made.before.trees ++ record { name = name; nodes = made.there } ∷ [];
}

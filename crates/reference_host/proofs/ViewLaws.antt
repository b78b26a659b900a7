-- A view is sound where its parts are as code knows them.
use Rattle.std.proofs.Common.{◌≡◌, ℕ, zero, suc, ◌+◌, ◌<◌, ◌≤◌, ◌^◌, nat_eq, Bool, true, false, ◌&&◌, List, [], ◌∷◌, length, map, get_or, slice_get, All, Option, Some, None, IsSome, sym, subst, ltb-true, true≢false, lit<, arith}
use Rattle.std.specs.Prelude.{if◌then◌else◌}
use Rattle.std.specs.Option.{option_map_or}
use Rattle.std.proofs.lemmas.List.Elements.{All-nil, All-cons, All-drop}
use Rattle.policy_data.specs.declared.policy.Policy.{Policy}
use Rattle.tree_table.specs.declared.entries.Entry.{Entry}
use Rattle.tree_table.specs.declared.entries.Node.{Node as TreeNode}
use Rattle.tree_table.specs.declared.entries.Node.TheVariants.{Folder, File, Link}
use Rattle.tree_table.specs.declared.entries.NamedTree.{NamedTree}
use Rattle.tree_table.specs.Forests.{look_in}
use Rattle.tree_table.specs.Paths.{Path}
use Rattle.tree_table.specs.Scratches.{ScratchMap, ScratchFile}
use Rattle.tree_table.specs.Tables.{Forest, Row, count_of, tree_of, place_of, path_of, node_of, content_of}
use Rattle.tree_table.specs.Trees.{node_count, entries_of, same_path}
use Rattle.reference_step.specs.Nodes.{type_of}
use Rattle.ref_rules.specs.declared.content.Content.{Content}
use Rattle.ref_rules.specs.declared.content.Content.TheVariants.{Node, Entries, ScratchFile as ScratchFile'}
use Rattle.ref_rules.specs.declared.content.Handle.{Handle}
use Rattle.ref_answers.specs.Seen.{content_in, entry_of_row, children_of, entries_of_node}
use Rattle.ref_virtual.specs.Inside.{node_inside}
use Rattle.ref_virtual.specs.Held.{content_held}
use Rattle.ref_virtual.proofs.HandleLemmas.{content_is}
use Rattle.ref_virtual.specs.Known.{file_open}
use Rattle.reference_host.specs.Sound.{AreFileBytes, IsSoundNode, IsSoundEntry, IsSoundContent, IsSound}
use Rattle.reference_host.specs.Views.{AreParts, seen_view, ViewsAreSound}

-- ---- trees

entries_count : (trees : List NamedTree) (t : ℕ) → length (entries_of trees t) ≤ node_count trees
entries_count [] t = omega arith
entries_count (tree ∷ trees) zero = omega arith
entries_count (tree ∷ trees) (suc t) = omega (arith, entries_count trees t)

-- an entry is of a tree that is there
tree_there : (trees : List NamedTree) (t place : ℕ) (e : Entry) → slice_get (entries_of trees t) place ≡ Some e → t < length trees
tree_there [] t place e there = cc
tree_there (tree ∷ trees) zero place e there = omega arith
tree_there (tree ∷ trees) (suc t) place e there = omega (arith, tree_there trees t place e there)

-- ---- nodes

node_sound : (node : TreeNode) → AreFileBytes (content_of node) → IsSoundNode (Some node)
node_sound Folder are = tt
node_sound (File content) are = are
node_sound (Link target) are = are.count

looked : (tree : ℕ → ℕ) (path : ℕ → Path) (kind : ℕ → TreeNode) (n t : ℕ) (p : Path) → ((i : ℕ) → IsSoundNode (Some (kind i))) → IsSoundNode (look_in tree path kind n t p)
looked tree path kind zero t p each = tt
looked tree path kind (suc n) t p each = by (nat_eq (tree n) t && same_path (path n) p) (looked tree path kind n t p each)
  where
    by : (b : Bool) → IsSoundNode (look_in tree path kind n t p) → IsSoundNode (if b then Some (kind n) else look_in tree path kind n t p)
    by true later = each n
    by false later = later

-- ---- contents

type_small : (node : TreeNode) → type_of (Some node) < 8
type_small Folder = lit< tt
type_small (File content) = lit< tt
type_small (Link target) = lit< tt

rows_sound : (rows : List Row) → All IsSoundEntry (map entry_of_row rows)
rows_sound [] = All-nil IsSoundEntry
rows_sound (row ∷ rows) = All-cons IsSoundEntry (entry_of_row row) (map entry_of_row rows) (type_small row.node) (rows_sound rows)

listed_sound : (f : Forest) (o : Option Row) → All IsSoundEntry (option_map_or (children_of f) o [])
listed_sound f None = All-nil IsSoundEntry
listed_sound f (Some row) = rows_sound _

file_inside : (files : List (Option ScratchFile)) (n : ℕ) → IsSome (get_or files n None) → n < length files
file_inside [] n some = absurd (true≢false (sym some))
file_inside (file ∷ files) zero some = omega arith
file_inside (file ∷ files) (suc n) some = omega (arith, file_inside files n some)

module _ (policy : Policy) (trees : List NamedTree) (f : Forest) (m : ScratchMap) (handles : List (Option Handle)) (are : AreParts policy trees f m handles) where
  entries_few : (t : ℕ) → length (entries_of trees t) < 2 ^ 64
  entries_few t = omega (arith, entries_count trees t, are.sorted.nodes)

  trees_few : length trees + 1 < 2 ^ 64
  trees_few = omega (arith, are.holds.roots, are.holds.count, are.holds.forest.some, are.sorted.nodes)

  node_few : (node : ℕ) → node < count_of f → tree_of f node + 1 < 2 ^ 64
  node_few node inside =
      let entry = are.holds.entries node inside in
      omega (arith, trees_few, tree_there trees (tree_of f node) (place_of f node) entry.entry entry.there)

  sound_content : (c : Content) → node_inside (count_of f) c ≡ true → file_open m c → IsSoundContent (content_in f c)
  sound_content (Node node) inside there = node_few node (ltb-true node (count_of f) inside)
  sound_content (ScratchFile' number may_write) inside there = omega (arith, file_inside m.files number there, are.numbers)
  sound_content (Entries node place) inside there = All-drop IsSoundEntry place (entries_of_node f node) (listed_sound f (slice_get f.rows node))
  sound_content _ inside there = tt

  view_sound : IsSound (seen_view policy trees f m handles)
  view_sound = record {
    limit = are.words.limit;
    wall = are.words.wall;
    monotonic = are.words.monotonic;
    trees = trees_few;
    entries = entries_few;
    nodes = λ tree path. subst IsSoundNode (are.holds.maps tree path) (looked (tree_of f) (path_of f) (node_of f) (count_of f) tree path (λ i. node_sound (node_of f i) (are.contents i)));
    numbers = are.numbers;
    files = are.files;
    contents = λ id. subst IsSoundContent (content_is f handles id) (sound_content (content_held handles id) (are.nodes id) (are.open_files id));
  }

pub views_are_sound : ViewsAreSound
views_are_sound policy trees f m handles are = view_sound policy trees f m handles are

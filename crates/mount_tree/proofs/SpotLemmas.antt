-- A tree in the making with one more path.
use Rattle.std.proofs.Common.{◌≡◌, ℕ, ◌+◌, ◌<◌, ◌≤◌, List, [], ◌∷◌, ◌++◌, Bool, true, false, cond, nat_lt, Option, Ok, Err, length, refl, sym, ap, ◌∙◌, arith, length-append}
use Rattle.std.proofs.lemmas.Bool.Decides.{nat_tests}
use Rattle.tree_table.specs.declared.entries.Node.{Node}
use Rattle.tree_table.specs.declared.entries.Entry.{Entry}
use Rattle.tree_table.specs.Linked.{end_name}
use Rattle.tree_table.proofs.BuildLemmas.{end-longer}
use Rattle.path_names.specs.Paths.{names_of}
use Rattle.mount_tree.specs.declared.fault.TreeFault.TheVariants.{OverLimit}
use Rattle.mount_tree.specs.Growing.{above_of, is_free, with_folders, with_node}
use Rattle.mount_tree.specs.Making.{Sofar, count_with, few_nodes, reached, with_above, with_path}
use Rattle.mount_tree.specs.Spots.{IsSpot}
use Rattle.mount_tree.proofs.GrowLemmas.{above-last}
use Rattle.std.specs.Prelude.{codes}

module _ (there : List Entry) (path : List ℕ) (folder : Option ℕ) (name : List ℕ) (s : IsSpot there path folder name) where
  above-is : above_of (names_of path) ≡ s.above
  above-is = ap above_of s.names ∙ above-last s.above name

  name-is : end_name (names_of path) ≡ name
  name-is = ap end_name s.names ∙ end-longer s.above name

  pub spot-added : (node : Node) → with_node there s.above name node ≡ with_path there path node
  spot-added node = ap (λ a. with_node there a name node) (sym above-is) ∙ ap (λ n. with_node there (above_of (names_of path)) n node) (sym name-is)

  pub spot-free : is_free there s.above name ≡ is_free there (above_of (names_of path)) (end_name (names_of path))
  spot-free = ap (λ a. is_free there a name) (sym above-is) ∙ ap (λ n. is_free there (above_of (names_of path)) n) (sym name-is)

length-by : (b : Bool) (there : List Entry) (e : Entry) → length (cond b (there ++ e ∷ []) there) ≡ length there + cond b 1 0
length-by true there e = length-append there (e ∷ [])
length-by false there e = omega arith

-- the count with a path keeps its limit after it
pub room : (before : ℕ) (there ps : List Entry) (path : List ℕ) (node : Node) → ps ≡ with_path there path node
    → (before + length there) + cond (is_free there (above_of (names_of path)) (end_name (names_of path))) 1 0 ≤ 65536 → before + length ps ≤ 65536
room before there ps path node is few =
    let free = is_free there (above_of (names_of path)) (end_name (names_of path)) in
    let size : length ps ≡ length there + cond free 1 0 = ap length is ∙ length-by free there (record { path = above_of (names_of path) ++ end_name (names_of path) ∷ []; node = node }) in
    omega (arith, size, few)

-- ---- reaching a path

module _ (sofar : Sofar) (path : List ℕ) (ps : List Entry) (few : length (names_of path) ≤ 64) (is : ps ≡ with_folders sofar.there [] (names_of path)) where
  abbrev made : Sofar
  made = record { before = sofar.before; bytes = sofar.bytes; there = ps }

  made-is : with_above sofar path ≡ made
  made-is = ap (λ (es : List Entry). record { before = sofar.before; bytes = sofar.bytes; there = es }) (sym is)

  reached-by : (b : Bool) → nat_lt 64 (length (names_of path)) ≡ b → b ≡ false → reached sofar path ≡ few_nodes (count_with made path) made
  reached-by b deep low = rw (deep ∙ low) (ap (λ (m : Sofar). few_nodes (count_with m path) m) made-is)

  pub reached-is : reached sofar path ≡ few_nodes (count_with made path) made
  reached-is = reached-by (nat_lt 64 (length (names_of path))) refl (grind (arith, nat_tests, few))

  pub reached-ok : count_with made path ≤ 65536 → reached sofar path ≡ Ok made
  reached-ok small = reached-is ∙ few-ok (count_with made path) small
    where
      few-ok : (n : ℕ) → n ≤ 65536 → few_nodes n made ≡ Ok made
      few-ok n h = let low : nat_lt 65536 n ≡ false = grind (arith, nat_tests, h) in rw (low) refl

  pub reached-past : (n : ℕ) → n ≡ count_with made path → 65536 < n → reached sofar path ≡ Err (OverLimit (codes "tree-nodes") n)
  reached-past n same past = reached-is ∙ ap (λ k. few_nodes k made) (sym same) ∙ few-past past
    where
      few-past : 65536 < n → few_nodes n made ≡ Err (OverLimit (codes "tree-nodes") n)
      few-past h = let high : nat_lt 65536 n ≡ true = grind (arith, nat_tests, h) in rw (high) refl

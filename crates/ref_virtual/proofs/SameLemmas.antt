-- Two nodes are the same file or folder where they have one path of one tree.
use Rattle.std.proofs.Common.{◌≡◌, ◌≢◌, ℕ, ◌<◌, Bool, true, false, ◌&&◌, refl, sym, ap, ◌∙◌, arith}
use Rattle.std.specs.Prelude.{◌==◌}
use Rattle.tree_table.specs.Tables.{Forest, count_of, tree_of, path_of}
use Rattle.tree_table.specs.Trees.{same_path}
use Rattle.tree_table.proofs.ForestLemmas.{same_path-is, same_path-self}
use Rattle.reference_step.specs.Descriptors.{are_same}
use Rattle.ref_virtual.proofs.TreeLaws.{tables_agree}
use Rattle.reference_step.specs.State.{View}
use Rattle.ref_virtual.specs.Views.{HoldsTrees, node_in}

is_equal : (m n : ℕ) → (m == n) ≡ true → m ≡ n
is_equal m n e = grind (arith, e)

eq_same : (n : ℕ) → (n == n) ≡ true
eq_same n = grind arith

eq_differ : (m n : ℕ) → m ≢ n → (m == n) ≡ false
eq_differ m n h = grind (arith, h)

first_true : (a b : Bool) → (a && b) ≡ true → a ≡ true
first_true true b e = refl
first_true false b e = e

second_true : (a b : Bool) → (a && b) ≡ true → b ≡ true
second_true true b e = e
second_true false b e = cc

both_true : (a b : Bool) → a ≡ true → b ≡ true → (a && b) ≡ true
both_true a b p q = rw (p, q) refl

module _ (f : Forest) (v : View) (h : HoldsTrees f v) (a b : ℕ) (wa : a < count_of f) (wb : b < count_of f) where
  abbrev same_tree : Bool
  same_tree = tree_of f a == tree_of f b

  abbrev same_name : Bool
  same_name = same_path (path_of f a) (path_of f b)

  found_same : (same_tree && same_name) ≡ true → a ≡ b
  found_same e =
      let tree = is_equal (tree_of f a) (tree_of f b) (first_true same_tree same_name e) in
      let path = same_path-is (path_of f a) (path_of f b) (second_true same_tree same_name e) in
      sym ((tables_agree v.trees f h.trees h.holds a wa).alone b wb (sym tree) (sym path))

  same_found : a ≡ b → (same_tree && same_name) ≡ true
  same_found e =
      both_true same_tree same_name
      (ap (λ n. tree_of f n == tree_of f b) e ∙ eq_same (tree_of f b))
      (ap (λ n. same_path (path_of f n) (path_of f b)) e ∙ same_path-self (path_of f b))

  by_test : (t : Bool) → (same_tree && same_name) ≡ t → (a == b) ≡ (same_tree && same_name)
  by_test true e = ap (λ n. n == b) (found_same e) ∙ eq_same b ∙ sym e
  by_test false e = eq_differ a b (λ same. let clash : true ≡ false = sym (same_found same) ∙ e in cc) ∙ sym e

  pub same_nodes : (a == b) ≡ are_same (node_in f a) (node_in f b)
  same_nodes = by_test (same_tree && same_name) refl

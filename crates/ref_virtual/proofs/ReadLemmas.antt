-- The next bytes of a file, as the code takes them.
use Rattle.std.proofs.Common.{◌≡◌, ℕ, ◌+◌, ◌-◌, ◌<◌, Bool, true, false, nat_le, List, Some, length, take, drop, min, refl, sym, ap, ◌∙◌, inl, inr, arith}
use Rattle.std.proofs.lemmas.Bool.{cases_lt, leb-true}
use Rattle.std.proofs.lemmas.List.{length-drop, length-take-le, take_all}
use Rattle.tree_table.specs.Scratches.{read_at}
use Rattle.tree_table.specs.Tables.{Forest, count_of, tree_of, path_of, node_of}
use Rattle.reference_step.specs.Handles.{Content, FileAt}
use Rattle.reference_step.specs.InputStreams as input
use Rattle.reference_step.specs.InputStreams.{reads, skips}
use Rattle.reference_step.specs.Nodes.{file_bytes}
use Rattle.reference_step.specs.State.{View, moves}
use Rattle.reference_step.specs.Values.{number, numbers, ok}
use Rattle.ref_virtual.specs.Views.{HoldsTrees}
use Rattle.ref_virtual.proofs.SeenLemmas.{seen_node}

module _ (bs : List ℕ) (place len count : ℕ) (less : place < length bs) (is : count ≡ min len (length bs - place)) where
  abbrev left : List ℕ
  left = drop place bs

  same_bytes : take len left ≡ take count left
  same_bytes = elim (cases_lt len (length bs - place)) [
    | inl few ↦ ap (λ n. take n left) (omega (arith, few, is))
    | inr most ↦ take_all len left (omega (arith, most, length-drop place bs)) ∙ sym (take_all count left (omega (arith, most, is, length-drop place bs)))
  ]

  same_count : length (read_at bs place len) ≡ count
  same_count = ap length same_bytes ∙ length-take-le count left (omega (arith, is, length-drop place bs))

  open_yet : (b : Bool) → nat_le (length bs) place ≡ b → b ≡ false
  open_yet true e = absurd (omega (arith, less, leb-true _ _ e))
  open_yet false e = refl

  still : nat_le (length bs) place ≡ false
  still = open_yet (nat_le (length bs) place) refl

  pub reads_next : (at : ℕ → Content) → reads bs place len at ≡ moves (at (place + count)) (ok (numbers (take count left)))
  reads_next at = rw still (ap (λ n. moves (at (place + n)) (ok (numbers (read_at bs place len)))) same_count ∙ ap (λ xs. moves (at (place + count)) (ok (numbers xs))) same_bytes)

  pub skips_next : (at : ℕ → Content) → skips bs place len at ≡ moves (at (place + count)) (ok (number count))
  skips_next at = rw still (ap (λ n. moves (at (place + n)) (ok (number n))) same_count)

-- of a file of a tree
module _ (f : Forest) (v : View) (h : HoldsTrees f v) (node : ℕ) (w : node < count_of f) (bs : List ℕ) (of_node : bs ≡ file_bytes (Some (node_of f node))) (place len count : ℕ) (less : place < length bs) (is : count ≡ min len (length bs - place)) where
  pub read_tree : moves (FileAt (tree_of f node) (path_of f node) (place + count)) (ok (numbers (take count (drop place bs)))) ≡ input.read v (FileAt (tree_of f node) (path_of f node) place) len
  read_tree =
      sym (reads_next bs place len count less is (FileAt (tree_of f node) (path_of f node)))
      ∙ ap (λ xs. reads xs place len (FileAt (tree_of f node) (path_of f node))) (of_node ∙ sym (ap file_bytes (seen_node f v h node w)))

  pub skip_tree : moves (FileAt (tree_of f node) (path_of f node) (place + count)) (ok (number count)) ≡ input.skip v (FileAt (tree_of f node) (path_of f node) place) len
  skip_tree =
      sym (skips_next bs place len count less is (FileAt (tree_of f node) (path_of f node)))
      ∙ ap (λ xs. skips xs place len (FileAt (tree_of f node) (path_of f node))) (of_node ∙ sym (ap file_bytes (seen_node f v h node w)))

-- Slots keep what they stand for as bytes are put after.
use Rattle.std.proofs.Common.{◌≡◌, ℕ, ◌+◌, ◌-◌, ◌≤◌, List, [], ◌∷◌, ◌++◌, length, take, drop, map, get_or, refl, sym, ap, subst, ◌∙◌, arith, length-append, length-drop, append_assoc, IsUtf8, suc}
use Rattle.std.proofs.lemmas.List.{take_at, take_all, drop_at, take-append-le, drop-append-le}
use Rattle.tree_table.specs.declared.entries.Node.{Node}
use Rattle.tree_table.specs.declared.entries.Node.TheVariants.{Folder, File, Link}
use Rattle.tree_table.specs.declared.slot.Span.{Span}
use Rattle.tree_table.specs.declared.slot.Slot.{Slot}
use Rattle.tree_table.specs.Tables.{Row, content_of}
use Rattle.tree_table.specs.Slots.{kind_of, node_from, part, row_of, IsWithin, AreWithin}
use Rattle.tree_table.specs.Linked.{end_name}

pub end-is : (p : List (List ℕ)) (d : List ℕ) → 1 ≤ length p → end_name p ≡ get_or p (length p - 1) d
end-is [] d some = absurd (omega arith)
end-is (x ∷ []) d some = refl
end-is (x ∷ y ∷ p) d some =
    let less : length p + 1 - 0 ≡ length (x ∷ y ∷ p) - 1 = omega arith in
    let rest = end-is (y ∷ p) d (omega arith) in
    let at : length (x ∷ y ∷ p) - 1 ≡ (length (y ∷ p) - 1) + 1 = omega arith in
    rest ∙ behind x (y ∷ p) d (length (y ∷ p) - 1) ∙ ap (λ n. get_or (x ∷ y ∷ p) n d) (sym at)
  where
    behind : (x : List ℕ) (p : List (List ℕ)) (d : List ℕ) (n : ℕ) → get_or p n d ≡ get_or (x ∷ p) (n + 1) d
    behind x p d n = let more : n + 1 ≡ suc n = omega arith in ap (λ m. get_or (x ∷ p) m d) (sym more)

-- what was put in between, and at the end
pub part-mid : (a b c : List ℕ) (from to : ℕ) → from ≡ length a → to ≡ length (a ++ b) → take (to - from) (drop from ((a ++ b) ++ c)) ≡ b
part-mid a b c from to low high =
    let size : length b ≡ to - from = omega (arith, length-append a b) in
    ap (λ (xs : List ℕ). take (to - from) (drop from xs)) (append_assoc a b c) ∙ ap (take (to - from)) (drop_at a (b ++ c) from (sym low)) ∙ take_at b c (to - from) size

pub part-end : (a b : List ℕ) (from to : ℕ) → from ≡ length a → to ≡ length (a ++ b) → take (to - from) (drop from (a ++ b)) ≡ b
part-end a b from to low high =
    ap (take (to - from)) (drop_at a b from (sym low)) ∙ take_all (to - from) b (omega (arith, length-append a b))

pub node-same : (node : Node) → node_from (kind_of node) (content_of node) ≡ node
node-same Folder = refl
node-same (File content) = refl
node-same (Link target) = refl

module _ (b more : List ℕ) where
  pub part-keep : (span : Span) → span.from ≤ span.to → span.to ≤ length b → part (b ++ more) span ≡ part b span
  part-keep span low high =
      let size = length-drop span.from b in
      ap (take (span.to - span.from)) (drop-append-le span.from b more (omega arith)) ∙ take-append-le (span.to - span.from) (drop span.from b) more (omega arith)

  keeps : (slot : Slot) → IsWithin b slot → IsWithin (b ++ more) slot
  keeps slot w = record {
    name_ordered = w.name_ordered;
    name_inside = omega (arith, w.name_inside, length-append b more);
    content_ordered = w.content_ordered;
    content_inside = omega (arith, w.content_inside, length-append b more);
    utf8 = subst IsUtf8 (sym (part-keep slot.name w.name_ordered w.name_inside)) w.utf8;
  }

  same-row : (slot : Slot) → IsWithin b slot → row_of (b ++ more) slot ≡ row_of b slot
  same-row slot w =
      let P : List ℕ → List ℕ → Row = λ n c. record { tree = slot.tree; place = slot.place; name = n; parent = slot.parent; from = slot.from; to = slot.to; node = node_from slot.kind c } in
      ap (λ (n : List ℕ). P n (part (b ++ more) slot.content)) (part-keep slot.name w.name_ordered w.name_inside) ∙ ap (P (part b slot.name)) (part-keep slot.content w.content_ordered w.content_inside)

  pub within-keep : (slots : List Slot) → AreWithin b slots → AreWithin (b ++ more) slots
  within-keep [] all = tt
  within-keep (slot ∷ slots) all = (keeps slot all.0, within-keep slots all.1)

  pub rows-keep : (slots : List Slot) → AreWithin b slots → map (row_of (b ++ more)) slots ≡ map (row_of b) slots
  rows-keep [] all = refl
  rows-keep (slot ∷ slots) all = ap (λ (r : Row). r ∷ map (row_of (b ++ more)) slots) (same-row slot all.0) ∙ ap (λ (rs : List Row). row_of b slot ∷ rs) (rows-keep slots all.1)

pub within-push : (b : List ℕ) (slots : List Slot) (slot : Slot) → AreWithin b slots → IsWithin b slot → AreWithin b (slots ++ slot ∷ [])
within-push b [] slot all w = (w, tt)
within-push b (x ∷ slots) slot all w = (all.0, within-push b slots slot all.1 w)

pub rows-push : (f : Slot → Row) (slots : List Slot) (slot : Slot) → map f (slots ++ slot ∷ []) ≡ map f slots ++ f slot ∷ []
rows-push f [] slot = refl
rows-push f (x ∷ slots) slot = ap (λ (rs : List Row). f x ∷ rs) (rows-push f slots slot)

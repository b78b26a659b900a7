-- What a row of a table says of its node.
use Rattle.std.proofs.Common.{◌≡◌, ℕ, zero, suc, ◌<◌, ◌≤◌, List, [], ◌∷◌, Some, length, map, slice_get, get_or, refl, sym, ap, subst, ◌∙◌, arith}
use Rattle.std.specs.Option.{option_map, option_map_or}
use Rattle.std.proofs.lemmas.List.{length-map}
use Rattle.std.proofs.lemmas.Option.{slice_get_within, slice_get_read, slice_get-map}
use Rattle.tree_table.specs.declared.entries.Node.TheVariants.{Folder}
use Rattle.tree_table.specs.declared.slot.Slot.{Slot}
use Rattle.tree_table.specs.Tables.{Forest, Row, IsSound, HasChildren, count_of, tree_of, place_of, name_of, parent_of, from_of, to_of, node_of, path_of, map_of, longest_of, longest_among, target_parts, last_name}
use Rattle.tree_table.specs.Slots.{row_of, IsWithin, AreWithin}
use Rattle.tree_table.proofs.ForestLemmas.{children, one_path, folder_of, name-root, path-inner, is_map, IsMapOf}

-- all that a row says of the node of this number
pub record Reads (f : Forest) (i : ℕ) (row : Row) : Type 0 where
  pub within : i < count_of f
  pub tree : tree_of f i ≡ row.tree
  pub place : place_of f i ≡ row.place
  pub name : name_of f i ≡ row.name
  pub last : last_name (path_of f i) ≡ row.name
  pub short : length row.name ≤ 255
  pub node : node_of f i ≡ row.node
  pub look : map_of f (tree_of f i) (path_of f i) ≡ Some row.node
  pub children : HasChildren f i row.from row.to
  pub folder : (name : List ℕ) (above : List (List ℕ)) → path_of f i ≡ name ∷ above → (row.parent < count_of f) × (tree_of f row.parent ≡ tree_of f i) × (path_of f row.parent ≡ above)
  pub alone : (other : ℕ) → other < count_of f → tree_of f other ≡ tree_of f i → path_of f other ≡ path_of f i → other ≡ i
  pub parts : target_parts row.node ≤ longest_of f

longest-has : (rows : List Row) (i : ℕ) (row : Row) → slice_get rows i ≡ Some row → target_parts row.node ≤ longest_among rows
longest-has [] i row found = cc
longest-has (x ∷ rows) zero row found = let same : x ≡ row = cc in subst (λ y. target_parts y.node ≤ longest_among (x ∷ rows)) same (omega arith)
longest-has (x ∷ rows) (suc i) row found = omega (arith, longest-has rows i row found)

module _ (f : Forest) (t : IsSound f) (i : ℕ) (row : Row) (found : slice_get f.rows i ≡ Some row) where
  inside : i < length f.rows
  inside = slice_get_within f.rows i row found

  maps : IsMapOf (length f.rows) f.roots (tree_of f) (name_of f) (parent_of f) (from_of f) (to_of f) (map_of f) (node_of f)
  maps = is_map (length f.rows) f.roots (tree_of f) (name_of f) (parent_of f) (from_of f) (to_of f) (node_of f) t

  is-node : node_of f i ≡ row.node
  is-node = ap (λ o. option_map_or (λ row. row.node) o Folder) found

  has-children : HasChildren f i row.from row.to
  has-children =
      let all = children (length f.rows) f.roots (tree_of f) (name_of f) (parent_of f) (from_of f) (to_of f) (map_of f) (node_of f) t maps i inside in
      let low : from_of f i ≡ row.from = ap (λ o. option_map_or (λ row. row.from) o 0) found in
      let high : to_of f i ≡ row.to = ap (λ o. option_map_or (λ row. row.to) o 0) found in
      subst (λ h. HasChildren f i row.from h) high (subst (λ l. HasChildren f i l (to_of f i)) low all)

  has-folder : (name : List ℕ) (above : List (List ℕ)) → path_of f i ≡ name ∷ above → (row.parent < count_of f) × (tree_of f row.parent ≡ tree_of f i) × (path_of f row.parent ≡ above)
  has-folder name above is =
      let up : parent_of f i ≡ row.parent = ap (λ o. option_map_or (λ row. row.parent) o 0) found in
      let there = folder_of (length f.rows) f.roots (tree_of f) (name_of f) (parent_of f) (from_of f) (to_of f) t i inside name above is in
      let before = t.up i there.0 inside in
      let P : ℕ → Type 0 = λ p. (p < count_of f) × (tree_of f p ≡ tree_of f i) × (path_of f p ≡ above) in
      subst P up (omega (arith, inside), t.home i there.0 inside, there.1)

  is-last : (p : List (List ℕ)) → path_of f i ≡ p → last_name p ≡ name_of f i
  is-last [] is = sym (name-root (length f.rows) f.roots (tree_of f) (name_of f) (parent_of f) (from_of f) (to_of f) t i is inside)
  is-last (name ∷ above) is =
      let there = folder_of (length f.rows) f.roots (tree_of f) (name_of f) (parent_of f) (from_of f) (to_of f) t i inside name above is in
      let long = path-inner (length f.rows) f.roots (tree_of f) (name_of f) (parent_of f) (from_of f) (to_of f) t i there.0 inside in
      let both : name ∷ above ≡ name_of f i ∷ path_of f (parent_of f i) = sym is ∙ long in
      let first : name ≡ name_of f i = cc in
      first

  pub reads : Reads f i row
  reads =
      let named : name_of f i ≡ row.name = ap (λ o. option_map_or (λ row. row.name) o []) found in
      record {
        within = inside;
        tree = ap (λ o. option_map_or (λ row. row.tree) o 0) found;
        place = ap (λ o. option_map_or (λ row. row.place) o 0) found;
        name = named;
        last = is-last (path_of f i) refl ∙ named;
        short = subst (λ (n : List ℕ). length n ≤ 255) named (t.short i inside);
        node = is-node;
        look = maps.here i inside ∙ ap Some is-node;
        children = has-children;
        folder = has-folder;
        alone = λ other w home same. one_path (length f.rows) f.roots (tree_of f) (name_of f) (parent_of f) (from_of f) (to_of f) t other i w inside home same;
        parts = longest-has f.rows i row found;
      }

-- the forest that a table's fields stand for
abbrev pub forest : ℕ → List ℕ → List Slot → Forest
forest roots bytes slots = record { roots = roots; rows = map (row_of bytes) slots }

pub within-at : (bytes : List ℕ) (slots : List Slot) (i : ℕ) (slot : Slot) → AreWithin bytes slots → slice_get slots i ≡ Some slot → IsWithin bytes slot
within-at bytes [] i slot all found = cc
within-at bytes (x ∷ slots) zero slot all found = let same : x ≡ slot = cc in subst (IsWithin bytes) same all.0
within-at bytes (x ∷ slots) (suc i) slot all found = within-at bytes slots i slot all.1 found

pub in-slots : (roots : ℕ) (bytes : List ℕ) (slots : List Slot) (i : ℕ) → i < count_of (forest roots bytes slots) → i < length slots
in-slots roots bytes slots i within = subst (λ n. i < n) (length-map slots (row_of bytes)) within

-- what is read of the slot of a node
pub record Opens (roots : ℕ) (bytes : List ℕ) (slots : List Slot) (i : ℕ) (slot : Slot) : Type 0 where
  pub reads : Reads (forest roots bytes slots) i (row_of bytes slot)
  pub within : IsWithin bytes slot

pub opens : (roots : ℕ) (bytes : List ℕ) (slots : List Slot) (i : ℕ) (slot : Slot) → IsSound (forest roots bytes slots) × AreWithin bytes slots → i < count_of (forest roots bytes slots) → slot ≡ get_or slots i slot → Opens roots bytes slots i slot
opens roots bytes slots i slot kept within is =
    let there : slice_get slots i ≡ Some slot = slice_get_read slots (length slots) i slot refl (in-slots roots bytes slots i within) is in
    record {
      reads = reads (forest roots bytes slots) kept.0 i (row_of bytes slot) (slice_get-map (row_of bytes) slots i ∙ ap (option_map (row_of bytes)) there);
      within = within-at bytes slots i slot kept.1 there;
    }

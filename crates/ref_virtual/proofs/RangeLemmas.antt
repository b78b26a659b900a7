-- The range of a folder's children is one, and its entries come one by one.
use Rattle.std.proofs.Common.{◌≡◌, ◌≢◌, ℕ, Bool, true, false, cond, nat_lt, ◌+◌, ◌-◌, ◌<◌, ◌≤◌, List, [], ◌∷◌, take, drop, map, get_or, length, min, slice_get, Option, Some, None, IsSome, refl, sym, ap, subst, ◌∙◌, inl, inr, arith}
use Rattle.std.proofs.lemmas.Bool.{cases_lt, ltb-true, ltb-false}
use Rattle.std.proofs.lemmas.List.{drop_more, drop_all, get_or-take, get_or-drop, length-take, length-drop, length-map}
use Rattle.std.proofs.lemmas.Option.{slice_get-get_or}
use Rattle.std.proofs.Math.ListN.{get_or-map}
use Rattle.std.specs.Option.{option_map_or}
use Rattle.tree_table.specs.declared.entries.Node.{Node}
use Rattle.tree_table.specs.declared.entries.Node.TheVariants.{Folder}
use Rattle.tree_table.specs.Tables.{Forest, Row, HasChildren, IsSound, count_of, tree_of, path_of, name_of, map_of, last_name}
use Rattle.tree_table.proofs.RowLemmas.{Reads, reads}
use Rattle.std.specs.Prelude.{if◌then◌else◌}
use Rattle.reference_step.specs.EntryStreams.{read-directory-entry}
use Rattle.reference_step.specs.Handles.{DirectoryEntry, Entries}
use Rattle.reference_step.specs.Nodes.{type_of, entry_value}
use Rattle.reference_step.specs.State.{View, moves, returns}
use Rattle.reference_step.specs.Values.{ok, some, none}
use Rattle.ref_answers.specs.Seen.{entry_of_row, children_of, entries_of_node}
use Rattle.ref_virtual.specs.Views.{node_entry}

abbrev blank : Row
blank = record { tree = 0; place = 0; name = []; parent = 0; from = 0; to = 0; node = Folder }

abbrev row_at : Forest → ℕ → Row
row_at f i = get_or f.rows i blank

there_at : (f : Forest) (i : ℕ) → i < count_of f → slice_get f.rows i ≡ Some (row_at f i)
there_at f i w = slice_get-get_or f.rows i blank w

reads_at : (f : Forest) → IsSound f → (i : ℕ) → i < count_of f → Reads f i (row_at f i)
reads_at f s i w = reads f s i (row_at f i) (there_at f i w)

-- ---- one range

module _ (f : Forest) (s : IsSound f) (node a b c d : ℕ) (one : HasChildren f node a b) (other : HasChildren f node c d) where
  -- a child of the one range is one of the other
  in_other : (j : ℕ) → a ≤ j → j < b → (c ≤ j) × (j < d)
  in_other j low high =
      elim (cases_lt j c) [
        | inl less ↦ absurd (outside (λ i from to same. omega (arith, from, less, found i from to same)))
        | inr least ↦ elim (cases_lt j d) [
          | inl less ↦ (least, less)
          | inr most ↦ absurd (outside (λ i from to same. omega (arith, to, most, found i from to same)))
        ]
      ]
    where
      within : j < count_of f
      within = omega (arith, high, one.inside)

      found : (i : ℕ) → c ≤ i → i < d → name_of f i ≡ name_of f j → i ≡ j
      found i from to same =
          let home : tree_of f i ≡ tree_of f j = other.trees i from to ∙ sym (one.trees j low high) in
          let path : path_of f i ≡ path_of f j = other.paths i from to ∙ ap (λ n. n ∷ path_of f node) same ∙ sym (one.paths j low high) in
          (reads_at f s j within).alone i (omega (arith, to, other.inside)) home path

      outside : ((i : ℕ) → c ≤ i → i < d → name_of f i ≢ name_of f j) → ⊥
      outside missed =
          let missing : map_of f (tree_of f node) (name_of f j ∷ path_of f node) ≡ None = other.whole (name_of f j) missed in
          let gone : map_of f (tree_of f node) (path_of f j) ≡ None = ap (map_of f (tree_of f node)) (one.paths j low high) ∙ missing in
          let some : IsSome (map_of f (tree_of f node) (path_of f j)) = one.there j low high in
          let clash : false ≡ true = subst IsSome gone some in
          cc

module _ (f : Forest) (s : IsSound f) (node a b c d n : ℕ) (one : HasChildren f node a b) (other : HasChildren f node c d) where
  -- a place of the one range is a place of the other, and the same node stands there
  same_place : n < b - a → (n < d - c) × (a + n ≡ c + n)
  same_place less =
      let first = in_other f s node a b c d one other a (omega arith) (omega (arith, less)) in
      let last = in_other f s node a b c d one other (b - 1) (omega (arith, less)) (omega (arith, less)) in
      let back = in_other f s node c d a b other one c (omega arith) (omega (arith, first.0, first.1)) in
      (omega (arith, less, first.0, back.0, last.1), omega (arith, first.0, back.0))

-- ---- what is listed

abbrev entry : Node → List ℕ → DirectoryEntry
entry node name = record { ty = type_of (Some node); name = name }

entry_at : (f : Forest) → IsSound f → (i : ℕ) → i < count_of f → entry_of_row (row_at f i) ≡ node_entry f i
entry_at f s i w =
    let r = reads_at f s i w in
    ap (entry (row_at f i).node) (sym r.last) ∙ ap (λ n. entry n (last_name (path_of f i))) (sym r.node)

module _ (f : Forest) (s : IsSound f) (node : ℕ) (w : node < count_of f) where
  abbrev row : Row
  row = row_at f node

  abbrev rows : List Row
  rows = take (row.to - row.from) (drop row.from f.rows)

  listed : entries_of_node f node ≡ map entry_of_row rows
  listed = ap (λ o. option_map_or (children_of f) o []) (there_at f node w)

  kids : HasChildren f node row.from row.to
  kids = (reads_at f s node w).children

  long : length (map entry_of_row rows) ≡ row.to - row.from
  long =
      length-map rows entry_of_row
      ∙ length-take (row.to - row.from) (drop row.from f.rows)
      ∙ ap (λ n. min (row.to - row.from) n) (length-drop row.from f.rows)
      ∙ omega (arith, kids.inside)

  module _ (place : ℕ) where
    here : place < row.to - row.from → drop place (map entry_of_row rows) ≡ node_entry f (row.from + place) ∷ drop (place + 1) (map entry_of_row rows)
    here less =
        let blank_entry : DirectoryEntry = entry_of_row blank in
        let is : get_or (map entry_of_row rows) place blank_entry ≡ node_entry f (row.from + place) =
        get_or-map entry_of_row rows place blank
        ∙ ap entry_of_row (get_or-take (row.to - row.from) (drop row.from f.rows) place blank less ∙ get_or-drop row.from f.rows place blank)
        ∙ entry_at f s (row.from + place) (omega (arith, less, kids.inside)) in
        drop_more (map entry_of_row rows) place blank_entry (omega (arith, less, long))
        ∙ ap (λ e. e ∷ drop (place + 1) (map entry_of_row rows)) is

    module _ (from to : ℕ) (children : HasChildren f node from to) where
      -- an entry is left
      pub next_entry : place < to - from → drop place (entries_of_node f node) ≡ node_entry f (from + place) ∷ drop (place + 1) (entries_of_node f node)
      next_entry less =
          let same = same_place f s node from to row.from row.to place children kids less in
          ap (drop place) listed ∙ here same.0
          ∙ ap (λ i. node_entry f i ∷ drop (place + 1) (map entry_of_row rows)) (sym same.1)
          ∙ ap (λ es. node_entry f (from + place) ∷ drop (place + 1) es) (sym listed)

      -- none is left
      pub no_entry : to - from ≤ place → drop place (entries_of_node f node) ≡ []
      no_entry past =
          ap (drop place) listed ∙ drop_all place (map entry_of_row rows) (elim (cases_lt place (row.to - row.from)) [
            | inl less ↦ absurd (omega (arith, past, (same_place f s node row.from row.to from to place kids children less).0))
            | inr most ↦ omega (arith, most, long)
          ])

-- ---- the next entry, as the code finds it

module _ (from to place : ℕ) where
  entry_some : (b : Bool) (at : ℕ) → nat_lt place (to - from) ≡ b → Some at ≡ cond b (Some (from + place)) None → (place < to - from) × (at ≡ from + place)
  entry_some true at less e = (ltb-true _ _ less, cc)
  entry_some false at most e = absurd (cc)

  entry_none : (b : Bool) → nat_lt place (to - from) ≡ b → None ≡ cond b (Some (from + place)) None → to - from ≤ place
  entry_none true less e = absurd (cc)
  entry_none false most e = ltb-false _ _ most

module _ (f : Forest) (s : IsSound f) (v : View) (node place from to : ℕ) (w : node < count_of f) (children : HasChildren f node from to) where
  abbrev Next : Option ℕ
  Next = if nat_lt place (to - from) then Some (from + place) else None

  pub some_row : (at : ℕ) → Some at ≡ Next → moves (Entries (drop (place + 1) (entries_of_node f node))) (ok (some (entry_value (node_entry f at)))) ≡ read-directory-entry v (Entries (drop place (entries_of_node f node)))
  some_row at e =
      let found = entry_some from to place (nat_lt place (to - from)) at refl e in
      ap (λ i. moves (Entries (drop (place + 1) (entries_of_node f node))) (ok (some (entry_value (node_entry f i))))) found.1
      ∙ ap (λ es. read-directory-entry v (Entries es)) (sym (next_entry f s node w place from to children found.0))

  pub none_row : None ≡ Next → returns (ok none) ≡ read-directory-entry v (Entries (drop place (entries_of_node f node)))
  none_row e =
      let past = entry_none from to place (nat_lt place (to - from)) refl e in
      ap (λ es. read-directory-entry v (Entries es)) (sym (no_entry f s node w place from to children past))

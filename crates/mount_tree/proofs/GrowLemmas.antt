-- Trees in the making: what is found in them by names, and what one more entry does.
use Rattle.std.proofs.Common.{◌≡◌, ◌≢◌, ℕ, zero, suc, ◌+◌, ◌<◌, ◌≤◌, List, [], ◌∷◌, ◌++◌, Bool, true, false, not, ◌&&◌, ◌||◌, cond, nat_eq, Option, Some, None, length, get_or, slice_set, refl, sym, ap, subst, ◌∙◌, true≢false, inl, inr, arith, length-append}
use Rattle.std.specs.List.{list_any}
use Rattle.std.specs.Str.{bytes_eq}
use Rattle.std.specs.BTreeMap.{BTreeMap, get_by_text}
use Rattle.std.specs.Prelude.{String}
use Rattle.std.proofs.lemmas.Bool.{cases_eq}
use Rattle.std.proofs.lemmas.Bool.Decides.{nat_tests}
use Rattle.std.proofs.lemmas.Slice.Eq.{bytes_eq-Decides}
use Rattle.std.proofs.lemmas.List.{get_or_append_left, get_or-append-add}
use Rattle.tree_table.specs.declared.entries.Node.{Node}
use Rattle.tree_table.specs.declared.entries.Node.TheVariants.{Folder, File, Link}
use Rattle.tree_table.specs.declared.entries.Entry.{Entry}
use Rattle.tree_table.specs.Trees.{same_path}
use Rattle.tree_table.specs.Stored.{entry_at, entry_in, node_at, path_at, root_entry}
use Rattle.tree_table.proofs.ForestLemmas.{same_path-is, same_path-self}
use Rattle.mount_tree.specs.Growing.{IsAt, IsGrown, IsHoused, IsIndex, above_of, child_in, holds, houses, is_folder, is_free, with_folders, with_node}

-- ---- tests on entries

pub any-at : (p : Entry → Bool) (es : List Entry) (k : ℕ) → k < length es → p (entry_at es k) ≡ true → list_any p es ≡ true
any-at p [] k w is = absurd (omega arith)
any-at p (e ∷ es) zero w is = rw (is) refl
any-at p (e ∷ es) (suc k) w is = by (p e) (any-at p es k (omega arith) is)
  where
    by : (b : Bool) → list_any p es ≡ true → (b || list_any p es) ≡ true
    by true h = refl
    by false h = h

pub any-where : (p : Entry → Bool) (es : List Entry) → list_any p es ≡ true → (k : ℕ) × (k < length es) × (p (entry_at es k) ≡ true)
any-where p [] h = absurd (true≢false (sym h))
any-where p (e ∷ es) h = by (p e) refl h (λ g. any-where p es g)
  where
    by : (b : Bool) → p e ≡ b → (b || list_any p es) ≡ true → (list_any p es ≡ true → (k : ℕ) × (k < length es) × (p (entry_at es k) ≡ true)) → (k : ℕ) × (k < length (e ∷ es)) × (p (entry_at (e ∷ es) k) ≡ true)
    by true is h deeper = (0, omega arith, is)
    by false is h deeper = let rest = deeper h in (suc rest.0, omega (arith, rest.1), rest.2)

not-true : (b : Bool) → b ≢ true → b ≡ false
not-true true h = absurd (h refl)
not-true false h = refl

pub holds-at : (es : List Entry) (k : ℕ) (path : List (List ℕ)) → k < length es → path_at es k ≡ path → holds es path ≡ true
holds-at es k path w is = any-at (λ e. same_path e.path path) es k w (subst (λ (p : List (List ℕ)). same_path (path_at es k) p ≡ true) is (same_path-self (path_at es k)))

pub holds-where : (es : List Entry) (path : List (List ℕ)) → holds es path ≡ true → (k : ℕ) × (k < length es) × (path_at es k ≡ path)
holds-where es path h = let found = any-where (λ e. same_path e.path path) es h in (found.0, found.1, same_path-is (path_at es found.0) path found.2)

pub holds-none : (es : List Entry) (path : List (List ℕ)) → ((k : ℕ) → k < length es → path_at es k ≢ path) → holds es path ≡ false
holds-none es path none = not-true (holds es path) (λ h. let found = holds-where es path h in none found.0 found.1 found.2)

folder-is : (node : Node) → is_folder node ≡ true → node ≡ Folder
folder-is Folder h = refl
folder-is (File bytes) h = absurd (true≢false (sym h))
folder-is (Link target) h = absurd (true≢false (sym h))

both : (a b : Bool) → (a && b) ≡ true → (a ≡ true) × (b ≡ true)
both true true h = (refl, refl)
both true false h = absurd (true≢false (sym h))
both false b h = absurd (true≢false (sym h))

pub houses-at : (es : List Entry) (k : ℕ) (path : List (List ℕ)) → k < length es → path_at es k ≡ path → node_at es k ≡ Folder → houses es path ≡ true
houses-at es k path w is folder =
    any-at (λ e. same_path e.path path && is_folder e.node) es k w
    (subst (λ (n : Node). (same_path (path_at es k) path && is_folder n) ≡ true) (sym folder) (rw (subst (λ (p : List (List ℕ)). same_path (path_at es k) p ≡ true) is (same_path-self (path_at es k))) refl))

pub houses-where : (es : List Entry) (path : List (List ℕ)) → houses es path ≡ true → (k : ℕ) × (k < length es) × (path_at es k ≡ path) × (node_at es k ≡ Folder)
houses-where es path h =
    let found = any-where (λ e. same_path e.path path && is_folder e.node) es h in
    let parts = both (same_path (path_at es found.0) path) (is_folder (node_at es found.0)) found.2 in
    (found.0, found.1, same_path-is (path_at es found.0) path parts.0, folder-is (node_at es found.0) parts.1)

-- ---- paths

pub same-ends : (p q : List (List ℕ)) (x y : List ℕ) → p ++ x ∷ [] ≡ q ++ y ∷ [] → (p ≡ q) × (x ≡ y)
same-ends [] [] x y e = (refl, cc)
same-ends [] (b ∷ q) x y e = absurd (omega (arith, ap length e, length-append q (y ∷ [])))
same-ends (a ∷ p) [] x y e = absurd (omega (arith, ap length e, length-append p (x ∷ [])))
same-ends (a ∷ p) (b ∷ q) x y e =
    let first : a ≡ b = cc in
    let rest : p ++ x ∷ [] ≡ q ++ y ∷ [] = cc in
    let more = same-ends p q x y rest in
    (ap (λ c. c ∷ p) first ∙ ap (λ r. b ∷ r) more.0, more.1)

pub above-last : (above : List (List ℕ)) (x : List ℕ) → above_of (above ++ x ∷ []) ≡ above
above-last [] x = refl
above-last (a ∷ []) x = refl
above-last (a ∷ b ∷ above) x = ap (λ p. a ∷ p) (above-last (b ∷ above) x)

pub folders-step : (there : List Entry) (above : List (List ℕ)) (name : List ℕ) (names : List (List ℕ)) → 1 ≤ length names
    → with_folders there above (name ∷ names) ≡ with_folders (with_node there above name Folder) (above ++ name ∷ []) names
folders-step there above name [] some = absurd (omega (arith, some))
folders-step there above name (next ∷ names) some = refl

not-empty : (p : List (List ℕ)) (x : List ℕ) → p ++ x ∷ [] ≢ []
not-empty [] x e = cc
not-empty (a ∷ p) x e = cc

-- ---- maps of children

module _ {Y : Type 0} where
  pub child-within : (maps : List (BTreeMap (String Y) ℕ)) (f : ℕ) (name : List ℕ) (k : ℕ) → child_in maps f name ≡ Some k → f < length maps
  child-within [] f name k is = cc
  child-within (m ∷ maps) zero name k is = omega arith
  child-within (m ∷ maps) (suc f) name k is = omega (arith, child-within maps f name k is)

  pub child-set : (maps : List (BTreeMap (String Y) ℕ)) (folder : ℕ) (m : BTreeMap (String Y) ℕ) (name : List ℕ) → folder < length maps → child_in (slice_set maps folder m) folder name ≡ get_by_text m name
  child-set [] folder m name w = absurd (omega arith)
  child-set (x ∷ maps) zero m name w = refl
  child-set (x ∷ maps) (suc folder) m name w = child-set maps folder m name (omega arith)

  pub child-other : (maps : List (BTreeMap (String Y) ℕ)) (folder : ℕ) (m : BTreeMap (String Y) ℕ) (f : ℕ) (name : List ℕ) → f ≢ folder → child_in (slice_set maps folder m) f name ≡ child_in maps f name
  child-other [] folder m f name other = refl
  child-other (x ∷ maps) zero m zero name other = absurd (other refl)
  child-other (x ∷ maps) zero m (suc f) name other = refl
  child-other (x ∷ maps) (suc folder) m zero name other = refl
  child-other (x ∷ maps) (suc folder) m (suc f) name other = child-other maps folder m f name (λ e. other (ap suc e))

  pub child-here : (maps : List (BTreeMap (String Y) ℕ)) (folder : ℕ) (d : BTreeMap (String Y) ℕ) (name : List ℕ) → folder < length maps → child_in maps folder name ≡ get_by_text (get_or maps folder d) name
  child-here [] folder d name w = absurd (omega arith)
  child-here (x ∷ maps) zero d name w = refl
  child-here (x ∷ maps) (suc folder) d name w = child-here maps folder d name (omega arith)

  pub child-push : (maps : List (BTreeMap (String Y) ℕ)) (e : BTreeMap (String Y) ℕ) (f : ℕ) (name : List ℕ) → get_by_text e name ≡ None → child_in (maps ++ e ∷ []) f name ≡ child_in maps f name
  child-push [] e zero name none = none
  child-push [] e (suc f) name none = refl
  child-push (x ∷ maps) e zero name none = refl
  child-push (x ∷ maps) e (suc f) name none = child-push maps e f name none

-- ---- one more entry

module _ {Y : Type 0} (there : List Entry) (maps : List (BTreeMap (String Y) ℕ)) (h : IsIndex there maps) (f : ℕ) (name : List ℕ) (node : Node) (within : f < length there) (folder : node_at there f ≡ Folder) (none : child_in maps f name ≡ None) where
  abbrev more : List Entry
  more = there ++ entry_in there f name node ∷ []

  front : (k : ℕ) → k < length there → entry_at more k ≡ entry_at there k
  front k w = get_or_append_left there (entry_in there f name node ∷ []) root_entry k w

  last : (k : ℕ) → k ≡ length there → entry_at more k ≡ entry_in there f name node
  last k is = ap (λ n. entry_at more n) (is ∙ omega arith) ∙ get_or-append-add there (entry_in there f name node ∷ []) 0 root_entry

  size : length more ≡ length there + 1
  size = length-append there (entry_in there f name node ∷ [])

  -- nothing has the new path
  new : (k : ℕ) → k < length there → path_at there k ≢ path_at there f ++ name ∷ []
  new k w is = let found = h.each f k name within w is in cc

  grown-housed : (k : ℕ) → 0 < k → k < length more → IsHoused more k
  grown-housed k some w =
      elim (cases_eq k (length there)) [
        | inl is ↦ record {
          folder = f;
          before = omega (arith, is, within);
          node = ap (λ (e : Entry). e.node) (front f within) ∙ folder;
          path = record { name = name; is = ap (λ (e : Entry). e.path) (last k is) ∙ ap (λ (e : Entry). e.path ++ name ∷ []) (sym (front f within)) };
        }
        | inr other ↦
            let low : k < length there = omega (arith, other, w, size) in
            let old = h.grown.housed k some low in
            let above : old.folder < length there = omega (arith, old.before, low) in
            record {
              folder = old.folder;
              before = old.before;
              node = ap (λ (e : Entry). e.node) (front old.folder above) ∙ old.node;
              path = record { name = old.path.name; is = ap (λ (e : Entry). e.path) (front k low) ∙ old.path.is ∙ ap (λ (e : Entry). e.path ++ old.path.name ∷ []) (sym (front old.folder above)) };
            }
      ]

  paths-front : (k : ℕ) → k < length there → path_at more k ≡ path_at there k
  paths-front k w = ap (λ (e : Entry). e.path) (front k w)

  path-last : (k : ℕ) → k ≡ length there → path_at more k ≡ path_at there f ++ name ∷ []
  path-last k is = ap (λ (e : Entry). e.path) (last k is)

  grown-distinct : (i j : ℕ) → i < length more → j < length more → path_at more i ≡ path_at more j → i ≡ j
  grown-distinct i j wi wj same =
      elim (cases_eq i (length there)) [
        | inl ei ↦ elim (cases_eq j (length there)) [
          | inl ej ↦ ei ∙ sym ej
          | inr oj ↦ let low : j < length there = omega (arith, oj, wj, size) in absurd (new j low (sym (paths-front j low) ∙ sym same ∙ path-last i ei))
        ]
        | inr oi ↦
            let lowi : i < length there = omega (arith, oi, wi, size) in
            elim (cases_eq j (length there)) [
              | inl ej ↦ absurd (new i lowi (sym (paths-front i lowi) ∙ same ∙ path-last j ej))
              | inr oj ↦ let lowj : j < length there = omega (arith, oj, wj, size) in h.grown.distinct i j lowi lowj (sym (paths-front i lowi) ∙ same ∙ paths-front j lowj)
            ]
      ]

  grown-more : IsGrown more
  grown-more = record {
    some = omega (arith, size);
    root = front 0 h.grown.some ∙ h.grown.root;
    housed = grown-housed;
    distinct = grown-distinct;
  }

  -- with the new number under its name
  module _ (maps' : List (BTreeMap (String Y) ℕ)) (put : (g : ℕ) (n : List ℕ) → child_in maps' g n ≡ cond (nat_eq g f && bytes_eq name n) (Some (length there)) (child_in maps g n)) where
    found-by : (b : Bool) (g : ℕ) (n : List ℕ) (k : ℕ) → (nat_eq g f && bytes_eq name n) ≡ b → cond b (Some (length there)) (child_in maps g n) ≡ Some k → (k < length more) × (path_at more k ≡ path_at more g ++ n ∷ [])
    found-by true g n k is e =
        let last-one : length there ≡ k = cc in
        let parts = both (nat_eq g f) (bytes_eq name n) is in
        let g-is : g ≡ f = grind (arith, nat_tests, parts.0) in
        let n-is : name ≡ n = (bytes_eq-Decides name n).0 parts.1 in (
          omega (arith, last-one, size),
          path-last k (sym last-one) ∙ ap (λ x. path_at there f ++ x ∷ []) n-is ∙ ap (λ p. p ++ n ∷ []) (sym (paths-front f within)) ∙ ap (λ i. path_at more i ++ n ∷ []) (sym g-is),
        )
    found-by false g n k is e =
        let old = h.found g n k e in
        let low : g < length there = omega (arith, child-within maps g n k e, h.size) in (
          omega (arith, old.0, size),
          paths-front k old.0 ∙ old.1 ∙ ap (λ p. p ++ n ∷ []) (sym (paths-front g low)),
        )

    -- nothing is in the new entry
    nothing-in : (k : ℕ) (n : List ℕ) → k < length there → path_at there k ≢ (path_at there f ++ name ∷ []) ++ n ∷ []
    nothing-in zero n w is = not-empty (path_at there f ++ name ∷ []) n (sym is ∙ ap (λ (e : Entry). e.path) h.grown.root)
    nothing-in (suc k) n w is =
        let home = h.grown.housed (suc k) (omega arith) w in
        let above = same-ends (path_at there home.folder) (path_at there f ++ name ∷ []) home.path.name n (sym home.path.is ∙ is) in
        new home.folder (omega (arith, home.before, w)) above.0

    each-by : (b : Bool) (g k : ℕ) (n : List ℕ) → (nat_eq g f && bytes_eq name n) ≡ b → g < length more → k < length more → path_at more k ≡ path_at more g ++ n ∷ [] → cond b (Some (length there)) (child_in maps g n) ≡ Some k
    each-by true g k n is wg wk path =
        let parts = both (nat_eq g f) (bytes_eq name n) is in
        let g-is : g ≡ f = grind (arith, nat_tests, parts.0) in
        let n-is : name ≡ n = (bytes_eq-Decides name n).0 parts.1 in
        let here : path_at more k ≡ path_at there f ++ name ∷ [] = path ∙ ap (λ i. path_at more i ++ n ∷ []) g-is ∙ ap (λ p. p ++ n ∷ []) (paths-front f within) ∙ ap (λ x. path_at there f ++ x ∷ []) (sym n-is) in
        elim (cases_eq k (length there)) [
          | inl ek ↦ ap Some (sym ek)
          | inr ok ↦ let low : k < length there = omega (arith, ok, wk, size) in absurd (new k low (sym (paths-front k low) ∙ here))
        ]
    each-by false g k n is wg wk path =
        elim (cases_eq g (length there)) [
          | inl eg ↦
              let here : path_at more k ≡ (path_at there f ++ name ∷ []) ++ n ∷ [] = path ∙ ap (λ p. p ++ n ∷ []) (path-last g eg) in
              elim (cases_eq k (length there)) [
                | inl ek ↦
                    let long = ap length (sym (path-last k ek) ∙ here) in
                    absurd (omega (arith, long, length-append (path_at there f ++ name ∷ []) (n ∷ [])))
                | inr ok ↦ let low : k < length there = omega (arith, ok, wk, size) in absurd (nothing-in k n low (sym (paths-front k low) ∙ here))
              ]
          | inr og ↦
              let lowg : g < length there = omega (arith, og, wg, size) in
              let here : path_at more k ≡ path_at there g ++ n ∷ [] = path ∙ ap (λ p. p ++ n ∷ []) (paths-front g lowg) in
              elim (cases_eq k (length there)) [
                | inl ek ↦
                    let ends = same-ends (path_at there f) (path_at there g) name n (sym (path-last k ek) ∙ here) in
                    let g-is : f ≡ g = h.grown.distinct f g within lowg ends.0 in
                    let one : nat_eq g f ≡ true = grind (arith, nat_tests, g-is) in
                    let two : bytes_eq name n ≡ true = subst (λ x. bytes_eq name x ≡ true) ends.1 ((bytes_eq-Decides name name).1 refl) in
                    absurd (true≢false (sym (rw (one, two) refl) ∙ is))
                | inr ok ↦ let low : k < length there = omega (arith, ok, wk, size) in h.each g k n lowg low (sym (paths-front k low) ∙ here)
              ]
        ]

    pub index-more : length maps' ≡ length maps + 1 → IsIndex (there ++ entry_in there f name node ∷ []) maps'
    index-more long = record {
      grown = grown-more;
      size = long ∙ ap (λ n. n + 1) h.size ∙ sym size;
      found = λ g n k is. found-by (nat_eq g f && bytes_eq name n) g n k refl (sym (put g n) ∙ is);
      each = λ g k n wg wk path. put g n ∙ each-by (nat_eq g f && bytes_eq name n) g k n refl wg wk path;
    }

-- ---- what is found tells what is free

some_not_none : (k : ℕ) → Some k ≢ None
some_not_none k e = cc

module _ {Y : Type 0} (there : List Entry) (maps : List (BTreeMap (String Y) ℕ)) (h : IsIndex there maps) (f : ℕ) (name : List ℕ) (above : List (List ℕ)) (at : IsAt there above (Some f)) where
  path-is : path_at there f ++ name ∷ [] ≡ above ++ name ∷ []
  path-is = ap (λ p. p ++ name ∷ []) at.1

  absent : child_in maps f name ≡ None → (k : ℕ) → k < length there → path_at there k ≢ above ++ name ∷ []
  absent none k w is = some_not_none k (sym (h.each f k name at.0 w (is ∙ sym path-is)) ∙ none)

  pub free-name : child_in maps f name ≡ None → is_free there above name ≡ true
  free-name none =
      let home = houses-at there f above at.0 at.1 at.2 in
      let new = holds-none there (above ++ name ∷ []) (absent none) in
      rw (home, new) refl

  pub taken-name : (k : ℕ) → child_in maps f name ≡ Some k → is_free there above name ≡ false
  taken-name k is =
      let found = h.found f name k is in
      let old = holds-at there k (above ++ name ∷ []) found.0 (found.1 ∙ path-is) in
      rw (old) (by (houses there above))
    where
      by : (b : Bool) → (b && not true) ≡ false
      by true = refl
      by false = refl

  pub no-child : child_in maps f name ≡ None → houses there (above ++ name ∷ []) ≡ false
  no-child none =
      not-true (houses there (above ++ name ∷ [])) (λ yes. let found = houses-where there (above ++ name ∷ []) yes in absent none found.0 found.1 found.2)

  pub other-child : (k : ℕ) → child_in maps f name ≡ Some k → node_at there k ≢ Folder → houses there (above ++ name ∷ []) ≡ false
  other-child k is other =
      let here = h.found f name k is in
      not-true (houses there (above ++ name ∷ [])) (λ yes.
      let found = houses-where there (above ++ name ∷ []) yes in
      let same : k ≡ found.0 = h.grown.distinct k found.0 here.0 found.1 (here.1 ∙ path-is ∙ sym found.2) in
      other (ap (node_at there) same ∙ found.3))

pub nowhere : (there : List Entry) → IsGrown there → (above : List (List ℕ)) (name : List ℕ) → houses there above ≡ false → houses there (above ++ name ∷ []) ≡ false
nowhere there grown above name none = not-true (houses there (above ++ name ∷ [])) (λ yes. let found = houses-where there (above ++ name ∷ []) yes in by found.0 found.1 found.2)
  where
    by : (k : ℕ) → k < length there → path_at there k ≡ above ++ name ∷ [] → ⊥
    by zero w is = not-empty above name (sym is ∙ ap (λ (e : Entry). e.path) grown.root)
    by (suc k) w is =
        let home = grown.housed (suc k) (omega arith) w in
        let same = same-ends (path_at there home.folder) above home.path.name name (sym home.path.is ∙ is) in
        true≢false (sym (houses-at there home.folder above (omega (arith, home.before, w)) same.0 home.node) ∙ none)

pub not-free : (there : List Entry) (above : List (List ℕ)) (name : List ℕ) → houses there above ≡ false → is_free there above name ≡ false
not-free there above name none = rw (none) refl

pub node-added : (there : List Entry) (f : ℕ) (above : List (List ℕ)) (name : List ℕ) (node : Node) → path_at there f ≡ above → is_free there above name ≡ true
    → there ++ entry_in there f name node ∷ [] ≡ with_node there above name node
node-added there f above name node is free = rw (free) (ap (λ p. there ++ record { path = p ++ name ∷ []; node = node } ∷ []) is)

pub node-kept : (there : List Entry) (above : List (List ℕ)) (name : List ℕ) (node : Node) → is_free there above name ≡ false → there ≡ with_node there above name node
node-kept there above name node taken = rw (taken) refl

-- a folder is where it was
pub at-stays : (there : List Entry) (above : List (List ℕ)) (folder : Option ℕ) (name : List ℕ) (node : Node) → IsAt there above folder → IsAt (with_node there above name node) above folder
at-stays there above None name node at = subst (λ (es : List Entry). houses es above ≡ false) (node-kept there above name node (not-free there above name at)) at
at-stays there above (Some f) name node at = by (is_free there above name) refl
  where
    e : Entry
    e = record { path = above ++ name ∷ []; node = node }

    same : entry_at (there ++ e ∷ []) f ≡ entry_at there f
    same = get_or_append_left there (e ∷ []) root_entry f at.0

    by : (b : Bool) → is_free there above name ≡ b → IsAt (cond b (there ++ e ∷ []) there) above (Some f)
    by true is = (omega (arith, at.0, length-append there (e ∷ [])), ap (λ (x : Entry). x.path) same ∙ at.1, ap (λ (x : Entry). x.node) same ∙ at.2)
    by false is = at

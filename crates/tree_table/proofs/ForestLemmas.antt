-- Nodes of trees in which each folder's children stand together in order: what they owe a walk.
use Rattle.std.proofs.Common.{◌≡◌, ◌≢◌, ℕ, zero, suc, ◌<◌, ◌≤◌, List, [], ◌∷◌, Option, Some, None, IsSome, nat_cmp, nat_eq, Ordering, Bool, true, false, ◌&&◌, cond, true≢false, refl, sym, ap, subst, ◌∙◌, inl, inr, arith}
use Rattle.std.specs.Cmp.Lexicographic.{slice_cmp}
use Rattle.std.specs.declared.cmp.Ordering.TheVariants.{Less, Equal, Greater}
use Rattle.std.proofs.lemmas.Bool.{cases_lt, cases_eq, lt-ltb, le-ltb}
use Rattle.std.proofs.lemmas.Map.Lookups.{exact_bytes}
use Rattle.std.proofs.lemmas.Cmp.{nat_list_cmp_total, tied_itself}
use Rattle.std.specs.Ordering.{is_eq}
use Rattle.tree_table.specs.declared.entries.Node.{Node}
use Rattle.tree_table.specs.Trees.{same_path}
use Rattle.tree_table.specs.Folders.{AreChildren}
use Rattle.tree_table.specs.Forests.{IsForest, steps_up, path_by, look_in}
use Rattle.tree_table.proofs.Search.{never_itself}

module _ (n roots : ℕ) (tree : ℕ → ℕ) (name : ℕ → List ℕ) (parent from to : ℕ → ℕ) where
  abbrev pub path_up : ℕ → ℕ → List (List ℕ)
  path_up steps i = steps_up roots name parent steps i

  abbrev pub path : ℕ → List (List ℕ)
  path i = path_by roots name parent i

  abbrev pub Fits : Type 0
  Fits = IsForest n roots tree name parent from to

  -- a root has no names, and another node its name and those of its folder
  pub up-root : (steps i : ℕ) → i < roots → path_up steps i ≡ []
  up-root zero i low = refl
  up-root (suc steps) i low = rw (lt-ltb _ _ low) refl

  pub up-inner : (steps i : ℕ) → roots ≤ i → path_up (suc steps) i ≡ name i ∷ path_up steps (parent i)
  up-inner steps i high = rw (le-ltb _ _ high) refl

  pub path-steps : Fits → (f g i : ℕ) → i < n → i ≤ f → i ≤ g → path_up f i ≡ path_up g i
  path-steps t zero zero i w a b = refl
  path-steps t zero (suc g) i w a b =
      elim (cases_lt i roots) [
        | inl low ↦ sym (up-root (suc g) i low)
        | inr high ↦ let above = t.up i high w in absurd (omega arith)
      ]
  path-steps t (suc f) zero i w a b =
      elim (cases_lt i roots) [
        | inl low ↦ up-root (suc f) i low
        | inr high ↦ let above = t.up i high w in absurd (omega arith)
      ]
  path-steps t (suc f) (suc g) i w a b =
      elim (cases_lt i roots) [
        | inl low ↦ up-root (suc f) i low ∙ sym (up-root (suc g) i low)
        | inr high ↦
            let above = t.up i high w in
            up-inner f i high ∙ ap (λ p. name i ∷ p) (path-steps t f g (parent i) (omega arith) (omega arith) (omega arith)) ∙ sym (up-inner g i high)
      ]

  pub path-root : (i : ℕ) → i < roots → path i ≡ []
  path-root i low = up-root i i low

  pub path-inner : Fits → (i : ℕ) → roots ≤ i → i < n → path i ≡ name i ∷ path (parent i)
  path-inner t zero high w = let above = t.up zero high w in absurd (omega arith)
  path-inner t (suc i) high w =
      let above = t.up (suc i) high w in
      up-inner i (suc i) high ∙ ap (λ p. name (suc i) ∷ p) (path-steps t i (parent (suc i)) (parent (suc i)) (omega arith) (omega arith) (omega arith))

  pub child_path : Fits → (i j : ℕ) → i < n → from i ≤ j → j < to i → path j ≡ name j ∷ path i
  child_path t i j w low high =
      let behind = t.behind i w in
      let inside = t.inside i w in
      path-inner t j (omega arith) (omega arith) ∙ ap (λ k. name j ∷ path k) (t.own i j w low high)

  pub child_tree : Fits → (i j : ℕ) → i < n → from i ≤ j → j < to i → tree j ≡ tree i
  child_tree t i j w low high =
      let behind = t.behind i w in
      let inside = t.inside i w in
      sym (t.home j (omega arith) (omega arith)) ∙ ap tree (t.own i j w low high)

  same_child : Fits → (i a b : ℕ) → i < n → from i ≤ a → a < to i → from i ≤ b → b < to i → name a ≡ name b → a ≡ b
  same_child t i a b w la ha lb hb same =
      elim (cases_lt a b) [
        | inl less ↦ absurd (never_itself Less (λ e. cc) (name a) (name b) (t.sorted i a b w la less hb) same)
        | inr more ↦ elim (cases_eq a b) [
          | inl is ↦ is
          | inr other ↦ absurd (never_itself Less (λ e. cc) (name b) (name a) (t.sorted i b a w lb (omega arith) ha) (sym same))
        ]
      ]

  one_step : Fits → (i j : ℕ) → i < n → j < n → tree i ≡ tree j → path i ≡ path j → (parent i < i → parent j < n → tree (parent i) ≡ tree (parent j) → path (parent i) ≡ path (parent j) → parent i ≡ parent j) → i ≡ j
  one_step t i j wi wj home e deeper =
      elim (cases_lt i roots) [
        | inl li ↦ elim (cases_lt j roots) [
          | inl lj ↦ sym (t.roots_trees i li) ∙ home ∙ t.roots_trees j lj
          | inr hj ↦ let p = path-root i li in let q = path-inner t j hj wj in cc
        ]
        | inr hi ↦ elim (cases_lt j roots) [
          | inl lj ↦ let p = path-root j lj in let q = path-inner t i hi wi in cc
          | inr hj ↦
              let both : name i ∷ path (parent i) ≡ name j ∷ path (parent j) = sym (path-inner t i hi wi) ∙ e ∙ path-inner t j hj wj in
              let names : name i ≡ name j = cc in
              let folders : path (parent i) ≡ path (parent j) = cc in
              let up = t.up i hi wi in
              let up2 = t.up j hj wj in
              let trees : tree (parent i) ≡ tree (parent j) = t.home i hi wi ∙ home ∙ sym (t.home j hj wj) in
              let one : parent i ≡ parent j = deeper up (omega arith) trees folders in
              let low : from (parent i) ≤ j = subst (λ k. from k ≤ j) (sym one) (t.above_from j hj wj) in
              let high : j < to (parent i) = subst (λ k. j < to k) (sym one) (t.below_to j hj wj) in
              same_child t (parent i) i j (omega arith) (t.above_from i hi wi) (t.below_to i hi wi) low high names
        ]
      ]

  path_twice : Fits → (f i j : ℕ) → i ≤ f → i < n → j < n → tree i ≡ tree j → path i ≡ path j → i ≡ j
  path_twice t zero i j a wi wj home e = one_step t i j wi wj home e (λ less within trees folders. absurd (omega arith))
  path_twice t (suc f) i j a wi wj home e = one_step t i j wi wj home e (λ less within trees folders. path_twice t f (parent i) (parent j) (omega arith) (omega arith) within trees folders)

  -- no two nodes of a tree have one path
  pub one_path : Fits → (i j : ℕ) → i < n → j < n → tree i ≡ tree j → path i ≡ path j → i ≡ j
  one_path t i j wi wj home e = path_twice t i i j (omega arith) wi wj home e

  -- the path maps have the nodes' paths and no others
  pub record IsMapOf (look : ℕ → List (List ℕ) → Option Node) (kind : ℕ → Node) : Type 0 where
    pub here : (i : ℕ) → i < n → look (tree i) (path i) ≡ Some (kind i)
    pub none : (t : ℕ) (p : List (List ℕ)) → ((i : ℕ) → i < n → tree i ≡ t → path i ≢ p) → look t p ≡ None

  -- a folder's range is what a walk asks of it
  pub children : (look : ℕ → List (List ℕ) → Option Node) (kind : ℕ → Node) → Fits → IsMapOf look kind → (node : ℕ) → node < n → AreChildren look tree path name n node (from node) (to node)
  children look kind t m node w = record {
    ordered = t.ordered node w;
    inside = t.inside node w;
    trees = λ i low high. child_tree t node i w low high;
    paths = λ i low high. child_path t node i w low high;
    sorted = λ i j low less high. t.sorted node i j w low less high;
    there = λ i low high. subst IsSome (sym (subst (λ h. look h (path i) ≡ Some (kind i)) (child_tree t node i w low high) (m.here i (omega (arith, t.inside node w))))) refl;
    whole = λ part other. m.none (tree node) (part ∷ path node) (λ i wi home same. out part other i wi home same);
  }
    where
      out : (part : List ℕ) → ((i : ℕ) → from node ≤ i → i < to node → name i ≢ part) → (i : ℕ) → i < n → tree i ≡ tree node → path i ≡ part ∷ path node → ⊥
      out part other i wi home same =
          elim (cases_lt i roots) [
            | inl low ↦ let p = path-root i low in cc
            | inr high ↦
                let both : name i ∷ path (parent i) ≡ part ∷ path node = sym (path-inner t i high wi) ∙ same in
                let names : name i ≡ part = cc in
                let folders : path (parent i) ≡ path node = cc in
                let up = t.up i high wi in
                let one : parent i ≡ node = one_path t (parent i) node (omega arith) w (t.home i high wi ∙ home) folders in
                other i (subst (λ k. from k ≤ i) one (t.above_from i high wi)) (subst (λ k. i < to k) one (t.below_to i high wi)) names
          ]

  -- a node's folder
  pub folder_of : Fits → (i : ℕ) → i < n → (first : List ℕ) (above : List (List ℕ)) → path i ≡ first ∷ above → (roots ≤ i) × (path (parent i) ≡ above)
  folder_of t i w first above e =
      elim (cases_lt i roots) [
        | inl low ↦ let p = path-root i low in cc
        | inr high ↦ let long = path-inner t i high w in let is : path (parent i) ≡ above = cc in (high, is)
      ]

  -- a node's own name is the last of its path
  pub name-root : Fits → (i : ℕ) → path i ≡ [] → i < n → name i ≡ []
  name-root t i e w =
      elim (cases_lt i roots) [
        | inl low ↦ t.roots_names i low
        | inr high ↦ let long = path-inner t i high w in cc
      ]

pub same_path-is : (p q : List (List ℕ)) → same_path p q ≡ true → p ≡ q
same_path-is [] [] e = refl
same_path-is [] (y ∷ ys) e = cc
same_path-is (x ∷ xs) [] e = cc
same_path-is (x ∷ xs) (y ∷ ys) e = by (slice_cmp nat_cmp x y) refl e (λ k. same_path-is xs ys k)
  where
    by : (o : Ordering) → slice_cmp nat_cmp x y ≡ o → (is_eq o && same_path xs ys) ≡ true → (same_path xs ys ≡ true → xs ≡ ys) → x ∷ xs ≡ y ∷ ys
    by Less is e deeper = cc
    by Equal is e deeper = let first = exact_bytes x y is in let rest = deeper e in cc
    by Greater is e deeper = cc

pub same_path-self : (p : List (List ℕ)) → same_path p p ≡ true
same_path-self [] = refl
same_path-self (x ∷ xs) = rw (tied_itself nat_list_cmp_total x) (same_path-self xs)

-- a test of two numbers
pub eq-is : (a b : ℕ) → nat_eq a b ≡ true → a ≡ b
eq-is a b e = elim (cases_eq a b) [ inl is ↦ is | inr other ↦ grind (arith, e) ]

pub eq-self : (a : ℕ) → nat_eq a a ≡ true
eq-self a = grind arith

module _ (tree : ℕ → ℕ) (path : ℕ → List (List ℕ)) (kind : ℕ → Node) where
  -- whether a node has a path of a tree
  abbrev at_it : ℕ → ℕ → List (List ℕ) → Bool
  at_it i t p = nat_eq (tree i) t && same_path (path i) p

  at-is : (i t : ℕ) (p : List (List ℕ)) → at_it i t p ≡ true → (tree i ≡ t) × (path i ≡ p)
  at-is i t p e = by (nat_eq (tree i) t) (same_path (path i) p) refl refl e
    where
      by : (a b : Bool) → nat_eq (tree i) t ≡ a → same_path (path i) p ≡ b → (a && b) ≡ true → (tree i ≡ t) × (path i ≡ p)
      by true true x y e = (eq-is (tree i) t x, same_path-is (path i) p y)
      by true false x y e = cc
      by false b x y e = cc

  at-self : (i : ℕ) → at_it i (tree i) (path i) ≡ true
  at-self i = rw (eq-self (tree i), same_path-self (path i)) refl

  pub look-none : (n t : ℕ) (p : List (List ℕ)) → ((i : ℕ) → i < n → tree i ≡ t → path i ≢ p) → look_in tree path kind n t p ≡ None
  look-none zero t p other = refl
  look-none (suc n) t p other = by (at_it n t p) refl (look-none n t p (λ i w. other i (omega arith)))
    where
      by : (b : Bool) → at_it n t p ≡ b → look_in tree path kind n t p ≡ None → cond b (Some (kind n)) (look_in tree path kind n t p) ≡ None
      by true is rest = let both = at-is n t p is in absurd (other n (omega arith) both.0 both.1)
      by false is rest = rest

  pub look-here : (n i : ℕ) → ((j k : ℕ) → j < n → k < n → tree j ≡ tree k → path j ≡ path k → j ≡ k) → i < n → look_in tree path kind n (tree i) (path i) ≡ Some (kind i)
  look-here zero i one w = absurd (omega arith)
  look-here (suc n) i one w = by (at_it n (tree i) (path i)) refl (λ less. look-here n i (λ j k wj wk a e. one j k (omega arith) (omega arith) a e) less)
    where
      by : (b : Bool) → at_it n (tree i) (path i) ≡ b → (i < n → look_in tree path kind n (tree i) (path i) ≡ Some (kind i)) → cond b (Some (kind n)) (look_in tree path kind n (tree i) (path i)) ≡ Some (kind i)
      by true is rest = let both = at-is n (tree i) (path i) is in ap (λ k. Some (kind k)) (one n i (omega arith) w both.0 both.1)
      by false is rest =
          let other : n ≢ i = λ same. true≢false (sym (at-self i) ∙ ap (λ k. at_it k (tree i) (path i)) (sym same) ∙ is) in
          rest (omega (arith, other))

pub is_map : (n roots : ℕ) (tree : ℕ → ℕ) (name : ℕ → List ℕ) (parent from to : ℕ → ℕ) (kind : ℕ → Node) → IsForest n roots tree name parent from to → IsMapOf n roots tree name parent from to (λ t p. look_in tree (path_by roots name parent) kind n t p) kind
is_map n roots tree name parent from to kind t = record {
  here = λ i w. look-here tree (path_by roots name parent) kind n i (λ j k wj wk a e. one_path n roots tree name parent from to t j k wj wk a e) w;
  none = λ h p other. look-none tree (path_by roots name parent) kind n h p other;
}

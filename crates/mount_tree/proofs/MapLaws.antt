-- What entries say of a path, in whatever order they stand.
use Rattle.std.proofs.Common.{◌≡◌, ◌≢◌, ◌∙◌, refl, sym, ap, subst, ℕ, zero, suc, ◌<◌, List, [], ◌∷◌, Bool, true, false, Some, None, Option, Contains, cond, length, reverse, slice_get, get_or, inl, inr, arith, true≢false}
use Rattle.std.specs.List.Sorted.{IsPermutation}
use Rattle.std.specs.declared.cmp.Ordering.TheVariants.{Less}
use Rattle.std.proofs.lemmas.Bool.{cases_lt}
use Rattle.std.proofs.lemmas.List.{reverse-reverse, get_or_default}
use Rattle.std.proofs.lemmas.List.Sorted.{Contains-permutation, IsPermutation-sym}
use Rattle.std.proofs.lemmas.Cmp.{lists_total, nat_list_cmp_total, tied_itself}
use Rattle.std.proofs.lemmas.Option.{slice_get-get_or}
use Rattle.tree_table.specs.declared.entries.Node.{Node}
use Rattle.tree_table.specs.declared.entries.Entry.{Entry}
use Rattle.tree_table.specs.Trees.{IsTree, path_cmp, same_path, tree_map}
use Rattle.tree_table.proofs.ForestLemmas.{same_path-is, same_path-self}

-- an entry at this path, whose innermost name comes first
pub record HasAt (es : List Entry) (path : List (List ℕ)) (node : Node) : Type 0 where
  entry : Entry
  there : Contains es entry
  at : reverse entry.path ≡ path
  leads : entry.node ≡ node

behind : (e : Entry) (es : List Entry) (path : List (List ℕ)) (node : Node) → HasAt es path node → HasAt (e ∷ es) path node
behind e es path node h = record { entry = h.entry; there = (suc h.there.0, omega (arith, h.there.1), h.there.2); at = h.at; leads = h.leads }

found : (es : List Entry) (path : List (List ℕ)) (node : Node) → tree_map es path ≡ Some node → HasAt es path node
found [] path node is = cc
found (e ∷ es) path node is = by (same_path (reverse e.path) path) refl is (λ h. found es path node h)
  where
    by : (b : Bool) → same_path (reverse e.path) path ≡ b → cond b (Some e.node) (tree_map es path) ≡ Some node → (tree_map es path ≡ Some node → HasAt es path node) → HasAt (e ∷ es) path node
    by true same is deeper = let leads : e.node ≡ node = cc in record { entry = e; there = (0, omega arith, refl); at = same_path-is (reverse e.path) path same; leads = leads }
    by false same is deeper = behind e es path node (deeper is)

-- where an entry is at a path, entries say something of it
said-by : (b : Bool) (es : List Entry) (path : List (List ℕ)) (node : Node) → (n : Node) × (tree_map es path ≡ Some n) → (n : Node) × (cond b (Some node) (tree_map es path) ≡ Some n)
said-by true es path node rest = (node, refl)
said-by false es path node rest = rest

said-at : (es : List Entry) (path : List (List ℕ)) (x : Entry) (k : ℕ) → k < length es → get_or es k x ≡ x → reverse x.path ≡ path → (n : Node) × (tree_map es path ≡ Some n)
said-at [] path x k w is at = absurd (omega (arith, w))
said-at (e ∷ es) path x zero w is at =
    let here : same_path (reverse e.path) path ≡ true = subst (λ p. same_path (reverse e.path) p ≡ true) (ap (λ (y : Entry). reverse y.path) is ∙ at) (same_path-self (reverse e.path)) in
    (e.node, rw (here) refl)
said-at (e ∷ es) path x (suc k) w is at = said-by (same_path (reverse e.path) path) es path e.node (said-at es path x k (omega (arith, w)) is at)

said : (es : List Entry) (path : List (List ℕ)) (node : Node) → HasAt es path node → (n : Node) × (tree_map es path ≡ Some n)
said es path node h = said-at es path h.entry h.there.0 h.there.1 h.there.2 h.at

-- ---- entries of a tree differ in their paths

not-itself : (p q : List (List ℕ)) → path_cmp p q ≡ Less → p ≢ q
not-itself p q less same =
    let tied = tied_itself (lists_total nat_list_cmp_total) p in
    let here : path_cmp p p ≡ Less = subst (λ x. path_cmp p x ≡ Less) (sym same) less in
    cc

one-place : (es : List Entry) → IsTree es → (a b : Entry) → Contains es a → Contains es b → a.path ≡ b.path → a ≡ b
one-place es sound a b (i, wi, ai) (j, wj, bj) same =
    elim (cases_lt i j) [
      | inl less ↦ absurd (not-itself a.path b.path (sound.ordered i j a b less (at i a wi ai) (at j b wj bj)) same)
      | inr more ↦ elim (cases_lt j i) [
        | inl less ↦ absurd (not-itself b.path a.path (sound.ordered j i b a less (at j b wj bj) (at i a wi ai)) (sym same))
        | inr equal ↦
            let one : i ≡ j = omega (arith, more, equal) in
            sym ai ∙ ap (λ k. get_or es k a) one ∙ get_or_default es j a b wj ∙ bj
      ]
    ]
  where
    at : (k : ℕ) (x : Entry) → k < length es → get_or es k x ≡ x → slice_get es k ≡ Some x
    at k x w is = slice_get-get_or es k x w ∙ ap Some is

same-path : (a b : Entry) (path : List (List ℕ)) → reverse a.path ≡ path → reverse b.path ≡ path → a.path ≡ b.path
same-path a b path x y = sym (reverse-reverse a.path) ∙ ap reverse (x ∙ sym y) ∙ reverse-reverse b.path

-- ---- in another order

module _ (made entries : List Entry) (sound : IsTree entries) (same : IsPermutation made entries) (path : List (List ℕ)) where
  over : (node : Node) → HasAt made path node → HasAt entries path node
  over node h = record { entry = h.entry; there = Contains-permutation made entries h.entry same h.there; at = h.at; leads = h.leads }

  back : (node : Node) → HasAt entries path node → HasAt made path node
  back node h = record { entry = h.entry; there = Contains-permutation entries made h.entry (IsPermutation-sym made entries same) h.there; at = h.at; leads = h.leads }

  both : (m n : Node) → HasAt entries path m → HasAt entries path n → m ≡ n
  both m n h g = sym h.leads ∙ ap (λ (e : Entry). e.node) (one-place entries sound h.entry g.entry h.there g.there (same-path h.entry g.entry path h.at g.at)) ∙ g.leads

  by : (o p : Option Node) → tree_map entries path ≡ o → tree_map made path ≡ p → o ≡ p
  by None None e m = refl
  by (Some x) (Some y) e m = ap Some (both x y (found entries path x e) (over y (found made path y m)))
  by None (Some y) e m = let some = said entries path y (over y (found made path y m)) in cc
  by (Some x) None e m = let some = said made path x (back x (found entries path x e)) in cc

  pub same_map : tree_map entries path ≡ tree_map made path
  same_map = by (tree_map entries path) (tree_map made path) refl refl

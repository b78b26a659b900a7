-- Halves find the node of a name.
use Rattle.std.proofs.Common.{◌≡◌, ℕ, zero, suc, ◌-◌, ◌^◌, ◌<◌, ◌≤◌, Bool, true, false, ltb, List, ◌∷◌, Option, Some, None, ◌⊎◌, inl, inr, refl, sym, ap, ◌∙◌, arith}
use Rattle.std.proofs.Math.Nat.{pow-suc}
use Rattle.std.specs.declared.cmp.Ordering.{Ordering}
use Rattle.std.specs.declared.cmp.Ordering.TheVariants.{Less, Equal, Greater}
use Rattle.std.proofs.lemmas.Bool.{cases_lt, ltb-true, ltb-false}
use Rattle.std.proofs.lemmas.Map.Lookups.{exact_bytes}
use Rattle.tree_table.specs.declared.entries.Node.{Node}
use Rattle.tree_table.specs.Folders.{AreChildren}
use Rattle.tree_table.proofs.Search.{all_below, all_above, never_itself}
use Rattle.mount_tree.specs.Halves.{Search, Among, Found, middle_of, by_order, probe, probes, found, compared, child_of, IsSorted, IsChild, LeadsTo}

le_refl : (n : ℕ) → n ≤ n
le_refl n = omega arith

truth : (b : Bool) → (b ≡ true) ⊎ (b ≡ false)
truth true = inl refl
truth false = inr refl

-- What a search has learned: names before what is left are less, and names after it greater.
abbrev Learned : (ℕ → List ℕ) → ℕ → ℕ → List ℕ → Search → Type 0
Learned name from to part (Among low high) = (from ≤ low) × (high ≤ to) × ((i : ℕ) → from ≤ i → i < low → compared name part i ≡ Less) × ((i : ℕ) → high ≤ i → i < to → compared name part i ≡ Greater)
Learned name from to part (Found at) = (from ≤ at) × (at < to) × (name at ≡ part)

abbrev left_of : Search → ℕ
left_of (Among low high) = high - low
left_of (Found at) = 0

learned_by : (name : ℕ → List ℕ) (from to : ℕ) (part : List ℕ) (low middle high : ℕ) → IsSorted name from to → low ≤ middle → middle < high → Learned name from to part (Among low high) → (o : Ordering) → compared name part middle ≡ o → Learned name from to part (by_order o low middle high)
learned_by name from to part low middle high sorted up down h Less e =
    let from_low : from ≤ low = h.0 in
    let high_to : high ≤ to = h.1 in
    (omega (arith, from_low, up), high_to, λ i first before. all_below name part from to middle i sorted (omega (arith, down, high_to)) e first (omega (arith, before)), h.3)
learned_by name from to part low middle high sorted up down h Equal e =
    let from_low : from ≤ low = h.0 in
    let high_to : high ≤ to = h.1 in
    (omega (arith, from_low, up), omega (arith, down, high_to), exact_bytes (name middle) part e)
learned_by name from to part low middle high sorted up down h Greater e =
    let from_low : from ≤ low = h.0 in
    let high_to : high ≤ to = h.1 in
    (from_low, omega (arith, down, high_to), h.2, λ i behind within. all_above name part from to middle i sorted (omega (arith, from_low, up)) e behind within)

learned_more : (name : ℕ → List ℕ) (from to : ℕ) (part : List ℕ) (s : Search) → IsSorted name from to → Learned name from to part s → Learned name from to part (probe (compared name part) s)
learned_more name from to part (Found at) sorted h = h
learned_more name from to part (Among low high) sorted h =
    elim (truth (ltb low high)) [
      | inl below ↦
          let some : low < high = ltb-true low high below in
          rw below (learned_by name from to part low (middle_of low high) high sorted (omega arith) (omega (arith, some)) h (compared name part (middle_of low high)) refl)
      | inr other ↦ rw other h
    ]

-- a probe leaves half at most
half_by : (n low high : ℕ) → low < high → high - low < 2 ^ suc n → (o : Ordering) → left_of (by_order o low (middle_of low high) high) < 2 ^ n
half_by n low high some few Less = let twice = pow-suc 2 n in omega (arith, some, few, twice)
half_by n low high some few Equal = let twice = pow-suc 2 n in omega (arith, some, few, twice)
half_by n low high some few Greater = let twice = pow-suc 2 n in omega (arith, some, few, twice)

half_left : (order : ℕ → Ordering) (n : ℕ) (s : Search) → left_of s < 2 ^ suc n → left_of (probe order s) < 2 ^ n
half_left order n (Found at) few = let twice = pow-suc 2 n in omega (arith, few, twice)
half_left order n (Among low high) few =
    elim (truth (ltb low high)) [
      | inl below ↦ rw below (half_by n low high (ltb-true low high below) few (order (middle_of low high)))
      | inr other ↦
          let none : high ≤ low = ltb-false low high other in
          let twice = pow-suc 2 n in
          rw other (omega (arith, none, few, twice))
    ]

-- where nothing is left, the search has its answer
answered : (name : ℕ → List ℕ) (from to : ℕ) (part : List ℕ) (s : Search) → Learned name from to part s → left_of s < 2 ^ zero → IsChild name from to part (found s)
answered name from to part (Found at) h few = h
answered name from to part (Among low high) h few = λ i first within same.
    let none : high ≤ low = omega (arith, few) in
    elim (cases_lt i low) [
      | inl before ↦ never_itself Less (λ e. cc) (name i) part (h.2 i first before) same
      | inr behind ↦ never_itself Greater (λ e. cc) (name i) part (h.3 i (omega (arith, none, behind)) within) same
    ]

searched : (name : ℕ → List ℕ) (from to : ℕ) (part : List ℕ) → IsSorted name from to → (digits : ℕ) (s : Search) → Learned name from to part s → left_of s < 2 ^ digits → IsChild name from to part (found (probes (compared name part) digits s))
unfolding probes
searched name from to part sorted zero s h few = answered name from to part s h few
searched name from to part sorted (suc n) s h few =
    searched name from to part sorted n (probe (compared name part) s) (learned_more name from to part s sorted h) (half_left (compared name part) n s few)

pub finds : (name : ℕ → List ℕ) (digits from to : ℕ) (part : List ℕ) → IsSorted name from to → to - from < 2 ^ digits → IsChild name from to part (child_of name digits from to part)
finds name digits from to part sorted few =
    searched name from to part sorted digits (Among from to) (le_refl from, le_refl to, λ i first before. absurd (omega (arith, first, before)), λ i behind within. absurd (omega (arith, behind, within))) few

-- ---- there is one child of a name

-- of two nodes of one name none stands in front
not_before : (name : ℕ → List ℕ) (from to : ℕ) (part : List ℕ) (a b : ℕ) → IsSorted name from to → from ≤ a → b < to → name a ≡ part → name b ≡ part → a < b → ⊥
not_before name from to part a b sorted low high x y less = never_itself Less (λ e. cc) (name a) (name b) (sorted a b low less high) (x ∙ sym y)

same_node : (name : ℕ → List ℕ) (from to : ℕ) (part : List ℕ) (a b : ℕ) → IsSorted name from to → IsChild name from to part (Some a) → IsChild name from to part (Some b) → a ≡ b
same_node name from to part a b sorted x y =
    elim (cases_lt a b) [
      | inl less ↦ absurd (not_before name from to part a b sorted x.0 y.1 x.2 y.2 less)
      | inr rest ↦
          elim (cases_lt b a) [
            | inl less ↦ absurd (not_before name from to part b a sorted y.0 x.1 y.2 x.2 less)
            | inr other ↦ omega (arith, rest, other)
          ]
    ]

pub one : (name : ℕ → List ℕ) (from to : ℕ) (part : List ℕ) (a b : Option ℕ) → IsSorted name from to → IsChild name from to part a → IsChild name from to part b → a ≡ b
one name from to part (Some a) (Some b) sorted x y = ap (λ (k : ℕ). Some k) (same_node name from to part a b sorted x y)
one name from to part (Some a) None sorted x y = absurd (y a x.0 x.1 x.2)
one name from to part None (Some b) sorted x y = absurd (x b y.0 y.1 y.2)
one name from to part None None sorted x y = refl

-- ---- the child is what the tree has there

leads_by : (look : ℕ → List (List ℕ) → Option Node) (tree : ℕ → ℕ) (path : ℕ → List (List ℕ)) (name : ℕ → List ℕ) (nodes node from to : ℕ) (part : List ℕ) (child : Option ℕ) → AreChildren look tree path name nodes node from to → IsChild name from to part child
    → LeadsTo look tree path nodes node part child
leads_by look tree path name nodes node from to part (Some at) c x =
    let within : at < to = x.1 in
    (omega (arith, within, c.inside), c.trees at x.0 x.1, c.paths at x.0 x.1 ∙ ap (λ (z : List ℕ). z ∷ path node) x.2)
leads_by look tree path name nodes node from to part None c x = c.whole part x

pub leads : (look : ℕ → List (List ℕ) → Option Node) (tree : ℕ → ℕ) (path : ℕ → List (List ℕ)) (name : ℕ → List ℕ) (nodes node digits from to : ℕ) (part : List ℕ) → AreChildren look tree path name nodes node from to → to - from < 2 ^ digits
    → LeadsTo look tree path nodes node part (child_of name digits from to part)
leads look tree path name nodes node digits from to part c few =
    leads_by look tree path name nodes node from to part (child_of name digits from to part) c (finds name digits from to part c.sorted few)

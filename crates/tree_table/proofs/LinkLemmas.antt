-- One more node is linked.
use Rattle.std.proofs.Common.{◌≡◌, ℕ, zero, suc, ◌<◌, ◌≤◌, List, [], ◌∷◌, ◌++◌, length, get_or, refl, sym, ap, subst, ◌∙◌, inl, inr, arith}
use Rattle.std.proofs.lemmas.Bool.{cases_lt, cases_eq}
use Rattle.std.proofs.lemmas.List.{get_or_append_left, get_or_push, get_or_default, get_or_past}
use Rattle.tree_table.specs.declared.entries.NamedTree.{NamedTree}
use Rattle.tree_table.specs.declared.order.Key.{Key}
use Rattle.tree_table.specs.Linked.{IsFolderOf, IsLinked}

-- the default once more at the end changes nothing
pub push-default : (fs : List ℕ) (k a : ℕ) → get_or (fs ++ k ∷ []) a k ≡ get_or fs a k
push-default [] k zero = refl
push-default [] k (suc a) = refl
push-default (x ∷ fs) k zero = refl
push-default (x ∷ fs) k (suc a) = push-default fs k a

module _ (trees : List NamedTree) (R : ℕ) (key : ℕ → Key) where
  abbrev pub Linked : ℕ → List ℕ → List ℕ → Type 0
  Linked n parents first = IsLinked trees n R key (λ i. get_or parents i 0) (λ a. get_or first a n)

  pub first-moves : (n : ℕ) (parents first : List ℕ) → Linked n parents first → Linked n parents (first ++ n ∷ [])
  first-moves n parents first l = subst (λ (f : ℕ → ℕ). IsLinked trees n R key (λ i. get_or parents i 0) f) (sym (λ i a. push-default first n a i)) l

  alone : (a : ℕ) → get_or (R ∷ []) a R ≡ R
  alone zero = refl
  alone (suc a) = refl

  -- the roots alone
  pub linked-roots : (parents : List ℕ) → Linked R parents (R ∷ [])
  linked-roots parents = record {
    up = λ i low high. absurd (omega arith);
    folder = λ i low high. absurd (omega arith);
    low = λ i low high. absurd (omega arith);
    high = λ i low high. absurd (omega arith);
    rising = λ a b le. omega (arith, alone a, alone b);
    inside = λ a. omega (arith, alone a);
    behind = λ a. omega (arith, alone a);
    own = λ a j low high. absurd (omega (arith, alone a, alone (suc a)));
  }

  module _ (k p : ℕ) (parents first : List ℕ) (l : Linked k parents first) (enough : R ≤ k) (size : length parents ≡ k) (moved : length first ≡ suc p) (below : p < k) (is : IsFolderOf trees (key p) (key k)) where
    parent' : ℕ → ℕ
    parent' i = get_or (parents ++ p ∷ []) i 0

    first' : ℕ → ℕ
    first' a = get_or first a (suc k)

    old-parent : (i : ℕ) → i < k → get_or (parents ++ p ∷ []) i 0 ≡ get_or parents i 0
    old-parent i w = get_or_append_left parents (p ∷ []) 0 i (omega arith)

    new-parent : get_or (parents ++ p ∷ []) k 0 ≡ p
    new-parent = get_or_push parents p 0 k size

    old-first : (a : ℕ) → a < suc p → get_or first a (suc k) ≡ get_or first a k
    old-first a w = get_or_default first a (suc k) k (omega arith)

    past-first : (a : ℕ) → suc p ≤ a → get_or first a k ≡ k
    past-first a w = get_or_past first a k (omega arith)

    new-first : (a : ℕ) → suc p ≤ a → get_or first a (suc k) ≡ suc k
    new-first a w = get_or_past first a (suc k) (omega arith)

    up' : (i : ℕ) → R ≤ i → i < suc k → get_or (parents ++ p ∷ []) i 0 < i
    up' i low high =
        elim (cases_lt i k) [
          | inl before ↦ omega (arith, old-parent i before, l.up i low before)
          | inr at ↦ let same : k ≡ i = omega arith in subst (λ j. get_or (parents ++ p ∷ []) j 0 < j) same (omega (arith, new-parent))
        ]

    folder' : (i : ℕ) → R ≤ i → i < suc k → IsFolderOf trees (key (get_or (parents ++ p ∷ []) i 0)) (key i)
    folder' i low high =
        elim (cases_lt i k) [
          | inl before ↦ subst (λ q. IsFolderOf trees (key q) (key i)) (sym (old-parent i before)) (l.folder i low before)
          | inr at ↦ let same : k ≡ i = omega arith in subst (λ j. IsFolderOf trees (key (get_or (parents ++ p ∷ []) j 0)) (key j)) same (subst (λ q. IsFolderOf trees (key q) (key k)) (sym new-parent) is)
        ]

    -- no folder so far stands after p
    early : (i : ℕ) → R ≤ i → i < k → get_or parents i 0 < suc p
    early i low before =
        elim (cases_lt (get_or parents i 0) (suc p)) [
          | inl fine ↦ fine
          | inr late ↦ absurd (omega (arith, l.low i low before, past-first (get_or parents i 0) late))
        ]

    low' : (i : ℕ) → R ≤ i → i < suc k → get_or first (get_or (parents ++ p ∷ []) i 0) (suc k) ≤ i
    low' i low high =
        elim (cases_lt i k) [
          | inl before ↦
              let e = early i low before in
              subst (λ q. get_or first q (suc k) ≤ i) (sym (old-parent i before)) (omega (arith, old-first (get_or parents i 0) e, l.low i low before))
          | inr at ↦
              let same : k ≡ i = omega arith in
              subst (λ j. get_or first (get_or (parents ++ p ∷ []) j 0) (suc k) ≤ j) same (subst (λ q. get_or first q (suc k) ≤ k) (sym new-parent) (omega (arith, old-first p (omega arith), l.inside p)))
        ]

    high' : (i : ℕ) → R ≤ i → i < suc k → i < get_or first (suc (get_or (parents ++ p ∷ []) i 0)) (suc k)
    high' i low high =
        elim (cases_lt i k) [
          | inl before ↦ subst (λ q. i < get_or first (suc q) (suc k)) (sym (old-parent i before)) (
              elim (cases_lt (suc (get_or parents i 0)) (suc p)) [
                | inl early ↦ omega (arith, old-first (suc (get_or parents i 0)) early, l.high i low before)
                | inr late ↦ omega (arith, new-first (suc (get_or parents i 0)) late)
              ])
          | inr at ↦
              let same : k ≡ i = omega arith in
              subst (λ j. j < get_or first (suc (get_or (parents ++ p ∷ []) j 0)) (suc k)) same (subst (λ q. k < get_or first (suc q) (suc k)) (sym new-parent) (omega (arith, new-first (suc p) (omega arith))))
        ]

    inside' : (a : ℕ) → get_or first a (suc k) ≤ suc k
    inside' a =
        elim (cases_lt a (suc p)) [
          | inl early ↦ omega (arith, old-first a early, l.inside a)
          | inr late ↦ omega (arith, new-first a late)
        ]

    rising' : (a b : ℕ) → a ≤ b → get_or first a (suc k) ≤ get_or first b (suc k)
    rising' a b le =
        elim (cases_lt b (suc p)) [
          | inl early ↦ omega (arith, old-first a (omega arith), old-first b early, l.rising a b le)
          | inr late ↦ omega (arith, new-first b late, inside' a)
        ]

    behind' : (a : ℕ) → R ≤ get_or first a (suc k)
    behind' a =
        elim (cases_lt a (suc p)) [
          | inl early ↦ omega (arith, old-first a early, l.behind a)
          | inr late ↦ omega (arith, new-first a late)
        ]

    own' : (a j : ℕ) → get_or first a (suc k) ≤ j → j < get_or first (suc a) (suc k) → get_or (parents ++ p ∷ []) j 0 ≡ a
    own' a j low high =
        elim (cases_lt (suc a) (suc p)) [
          | inl early ↦
              let one = old-first a (omega arith) in
              let two = old-first (suc a) early in
              let within = l.inside (suc a) in
              old-parent j (omega arith) ∙ l.own a j (omega arith) (omega arith)
          | inr late ↦ elim (cases_eq a p) [
            | inl at ↦ elim (cases_lt j k) [
              | inl before ↦
                  let one = old-first a (omega arith) in
                  let two = past-first (suc a) late in
                  old-parent j before ∙ l.own a j (omega arith) (omega arith)
              | inr here ↦
                  let top = inside' (suc a) in
                  let same : k ≡ j = omega arith in
                  ap (λ i. get_or (parents ++ p ∷ []) i 0) (sym same) ∙ new-parent ∙ sym at
            ]
            | inr behind ↦ absurd (omega (arith, new-first a (omega arith), inside' (suc a)))
          ]
        ]

    pub linked-more : Linked (suc k) (parents ++ p ∷ []) first
    linked-more = record { up = up'; folder = folder'; low = low'; high = high'; rising = rising'; inside = inside'; behind = behind'; own = own' }

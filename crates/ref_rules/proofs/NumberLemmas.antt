-- The least free number, and how taking and freeing a number keeps the keys.
use Rattle.std.proofs.Common.{◌≡◌, ◌≢◌, ℕ, zero, suc, ◌+◌, ◌-◌, ◌<◌, ◌≤◌, List, [], ◌∷◌, ◌++◌, length, set, get_or, Option, Some, None, IsSome, Bool, true, false, ◌&&◌, nat_le, nat_eq, cond, refl, sym, ap, ◌∙◌, arith, inl, inr}
use Rattle.std.specs.Prelude.{All, IsPermutation, slice_get}
use Rattle.std.proofs.lemmas.Bool.{cases_eq}
use Rattle.std.proofs.lemmas.Bool.Decides.{nat_tests}
use Rattle.std.specs.List.{sum_by}
use Rattle.std.proofs.lemmas.List.Sums.{sum_by-cons}
use Rattle.std.proofs.lemmas.List.Sorted.{sum_by-IsPermutation}
use Rattle.reference_step.specs.Handles.{first_free, with_entry}
use Rattle.ref_rules.specs.Numbers.{is_free, is_free_key, copies}

module _ {E : Type 0} where
  -- the first at which nothing stands
  pub free_first : (ps : List (Option E)) (n : ℕ) → is_free ps n ≡ true → ((m : ℕ) → m < n → is_free ps m ≡ false) → first_free ps ≡ n
  free_first [] n free below = absurd cc
  free_first (None ∷ ps) zero free below = refl
  free_first (None ∷ ps) (suc n) free below = let here : true ≡ false = below 0 (omega arith) in absurd cc
  free_first (Some e ∷ ps) zero free below = absurd cc
  free_first (Some e ∷ ps) (suc n) free below = ap suc (free_first ps n free (λ m h. below (suc m) (omega arith)))

  pub entry_first : (ps : List (Option E)) (n : ℕ) (new : E) → is_free ps n ≡ true → ((m : ℕ) → m < n → is_free ps m ≡ false) → with_entry ps new ≡ set ps n (Some new)
  entry_first [] n new free below = absurd cc
  entry_first (None ∷ ps) zero new free below = refl
  entry_first (None ∷ ps) (suc n) new free below = let here : true ≡ false = below 0 (omega arith) in absurd cc
  entry_first (Some e ∷ ps) zero new free below = absurd cc
  entry_first (Some e ∷ ps) (suc n) new free below = ap (λ rest. Some e ∷ rest) (entry_first ps n new free (λ m h. below (suc m) (omega arith)))

  -- nothing is free
  pub free_none : (ps : List (Option E)) → ((m : ℕ) → is_free ps m ≡ false) → first_free ps ≡ length ps
  free_none [] below = refl
  free_none (None ∷ ps) below = let here : true ≡ false = below 0 in absurd cc
  free_none (Some e ∷ ps) below = ap suc (free_none ps (λ m. below (suc m)))

  pub entry_none : (ps : List (Option E)) (new : E) → ((m : ℕ) → is_free ps m ≡ false) → with_entry ps new ≡ ps ++ Some new ∷ []
  entry_none [] new below = refl
  entry_none (None ∷ ps) new below = let here : true ≡ false = below 0 in absurd cc
  entry_none (Some e ∷ ps) new below = ap (λ rest. Some e ∷ rest) (entry_none ps new (λ m. below (suc m)))

  -- what is free after a write
  pub is_free-set : (ps : List (Option E)) (n m : ℕ) (e : E) → n ≢ m → is_free (set ps n (Some e)) m ≡ is_free ps m
  is_free-set [] n m e other = refl
  is_free-set (p ∷ ps) zero zero e other = absurd (other refl)
  is_free-set (None ∷ ps) zero (suc m) e other = refl
  is_free-set (Some x ∷ ps) zero (suc m) e other = refl
  is_free-set (None ∷ ps) (suc n) zero e other = refl
  is_free-set (Some x ∷ ps) (suc n) zero e other = refl
  is_free-set (None ∷ ps) (suc n) (suc m) e other = is_free-set ps n m e (λ same. other (ap suc same))
  is_free-set (Some x ∷ ps) (suc n) (suc m) e other = is_free-set ps n m e (λ same. other (ap suc same))

  pub is_free-set_same : (ps : List (Option E)) (n : ℕ) (e : E) → is_free (set ps n (Some e)) n ≡ false
  is_free-set_same [] n e = refl
  is_free-set_same (p ∷ ps) zero e = refl
  is_free-set_same (None ∷ ps) (suc n) e = is_free-set_same ps n e
  is_free-set_same (Some x ∷ ps) (suc n) e = is_free-set_same ps n e

  is_free-freed : (ps : List (Option E)) (n m : ℕ) → n ≢ m → is_free (set ps n None) m ≡ is_free ps m
  is_free-freed [] n m other = refl
  is_free-freed (p ∷ ps) zero zero other = absurd (other refl)
  is_free-freed (None ∷ ps) zero (suc m) other = refl
  is_free-freed (Some x ∷ ps) zero (suc m) other = refl
  is_free-freed (None ∷ ps) (suc n) zero other = refl
  is_free-freed (Some x ∷ ps) (suc n) zero other = refl
  is_free-freed (None ∷ ps) (suc n) (suc m) other = is_free-freed ps n m (λ same. other (ap suc same))
  is_free-freed (Some x ∷ ps) (suc n) (suc m) other = is_free-freed ps n m (λ same. other (ap suc same))

  is_free-freed_same : (ps : List (Option E)) (n : ℕ) → n < length ps → is_free (set ps n None) n ≡ true
  is_free-freed_same [] n within = absurd (omega arith)
  is_free-freed_same (p ∷ ps) zero within = refl
  is_free-freed_same (None ∷ ps) (suc n) within = is_free-freed_same ps n (omega arith)
  is_free-freed_same (Some x ∷ ps) (suc n) within = is_free-freed_same ps n (omega arith)

  is_free-push : (ps : List (Option E)) (n : ℕ) (e : E) → is_free (ps ++ Some e ∷ []) n ≡ is_free ps n
  is_free-push [] zero e = refl
  is_free-push [] (suc n) e = refl
  is_free-push (None ∷ ps) zero e = refl
  is_free-push (Some x ∷ ps) zero e = refl
  is_free-push (None ∷ ps) (suc n) e = is_free-push ps n e
  is_free-push (Some x ∷ ps) (suc n) e = is_free-push ps n e

  -- what stands there is not free
  pub is_free-live : (ps : List (Option E)) (n : ℕ) → IsSome (get_or ps n None) → is_free ps n ≡ false
  is_free-live [] n live = refl
  is_free-live (None ∷ ps) zero live = absurd cc
  is_free-live (Some x ∷ ps) zero live = refl
  is_free-live (None ∷ ps) (suc n) live = is_free-live ps n live
  is_free-live (Some x ∷ ps) (suc n) live = is_free-live ps n live

  pub is_free-within : (ps : List (Option E)) (n : ℕ) → is_free ps n ≡ true → n < length ps
  is_free-within [] n free = absurd cc
  is_free-within (None ∷ ps) zero free = omega arith
  is_free-within (Some x ∷ ps) zero free = absurd cc
  is_free-within (None ∷ ps) (suc n) free = let rest = is_free-within ps n free in omega arith
  is_free-within (Some x ∷ ps) (suc n) free = let rest = is_free-within ps n free in omega arith

-- ---- keys

copies-sum : (keys : List ℕ) (key : ℕ) → copies key keys ≡ sum_by (λ k. cond (nat_eq k key) 1 0) keys
copies-sum [] key = refl
copies-sum (k ∷ keys) key = ap (λ n. cond (nat_eq k key) 1 0 + n) (copies-sum keys key) ∙ sym (sum_by-cons (λ k'. cond (nat_eq k' key) 1 0) k keys)

copies-moved : (xs ys : List ℕ) (key : ℕ) → IsPermutation xs ys → copies key ys ≡ copies key xs
copies-moved xs ys key moved = copies-sum ys key ∙ sum_by-IsPermutation (λ k. cond (nat_eq k key) 1 0) xs ys moved ∙ sym (copies-sum xs key)

copies_above : (keys : List ℕ) (top key : ℕ) → All (λ k. k ≤ top) keys → top < key → copies key keys ≡ 0
copies_above [] top key all above = refl
copies_above (k ∷ keys) top key all above =
    let here : k ≤ top = all 0 0 (omega arith) in
    let rest : copies key keys ≡ 0 = copies_above keys top key (λ j d within. all (suc j) d (omega arith)) above in
    let other : nat_eq k key ≡ false = grind (arith, nat_tests) in
    rw (other, rest) refl

pub copies_first : (keys : List ℕ) (key : ℕ) → slice_get keys 0 ≡ Some key → 0 < copies key keys
copies_first [] key first = absurd cc
copies_first (k ∷ keys) key first =
    let same : k ≡ key = cc in
    let here : nat_eq k key ≡ true = grind (arith, nat_tests) in
    rw here (omega arith)

pub copies_lookup : (keys : List ℕ) (key : ℕ) → key ≡ get_or keys 0 key → 0 < length keys → 0 < copies key keys
copies_lookup [] key first some = absurd (omega arith)
copies_lookup (k ∷ keys) key first some = copies_first (k ∷ keys) key (ap Some (sym first))

if_none : (b : Bool) → cond {A = ℕ} b 1 0 ≡ 0 → b ≡ false
if_none true e = absurd (omega arith)
if_none false e = refl

if_some : (b : Bool) → 0 < cond {A = ℕ} b 1 0 → b ≡ true
if_some true e = refl
if_some false e = absurd (omega arith)

bool_cases : (b : Bool) → (b ≡ true → b ≡ false) → b ≡ false
bool_cases true f = f refl
bool_cases false f = refl

and_false : (a : Bool) → (a && false) ≡ false
and_false true = refl
and_false false = refl

and_when : (a b c : Bool) → (a ≡ true → b ≡ c) → (a && b) ≡ (a && c)
and_when true b c same = same refl
and_when false b c same = refl

at_most_one : (b : Bool) → cond {A = ℕ} b 1 0 ≤ 1
at_most_one true = omega arith
at_most_one false = omega arith

and_left : (a b : Bool) → (a && b) ≡ true → a ≡ true
and_left true b e = refl
and_left false b e = absurd cc

and_right : (a b : Bool) → (a && b) ≡ true → b ≡ true
and_right true b e = e
and_right false b e = absurd cc

-- each free number is kept once, and no other
abbrev pub Kept : {E : Type 0} → ℕ → List (Option E) → List ℕ → Type 0
Kept most ps keys = (key : ℕ) → copies key keys ≡ cond (is_free_key most ps key) 1 0

module _ {E : Type 0} where
  -- the greatest key stands for the least free number
  pub key_within : (most : ℕ) (ps : List (Option E)) (keys : List ℕ) (key : ℕ) → Kept most ps keys → 0 < copies key keys → key ≤ most
  key_within most ps keys key kept some =
      let free : is_free_key most ps key ≡ true = if_some _ (rw (← kept key) some) in
      let low : nat_le key most ≡ true = and_left _ _ free in
      grind (arith, nat_tests)

  pub key_free : (most : ℕ) (ps : List (Option E)) (keys : List ℕ) (key : ℕ) → Kept most ps keys → 0 < copies key keys → is_free ps (most - key) ≡ true
  key_free most ps keys key kept some =
      let free : is_free_key most ps key ≡ true = if_some _ (rw (← kept key) some) in
      and_right (nat_le key most) _ free

  pub key_first : (most : ℕ) (ps : List (Option E)) (keys : List ℕ) (key : ℕ) → Kept most ps keys → All (λ k. k ≤ key) keys → (m : ℕ) → m < most - key → is_free ps m ≡ false
  key_first most ps keys key kept all m below =
      let none : copies (most - m) keys ≡ 0 = copies_above keys key (most - m) all (omega arith) in
      let not_kept : is_free_key most ps (most - m) ≡ false = if_none _ (sym (kept (most - m)) ∙ none) in
      let back : most - (most - m) ≡ m = omega arith in
      let low : nat_le (most - m) most ≡ true = grind (arith, nat_tests) in
      let shown : (nat_le (most - m) most && is_free ps m) ≡ false = rw back at not_kept in
      rw low at shown

  pub none_kept : (most : ℕ) (ps : List (Option E)) → Kept most ps [] → length ps ≤ most → (m : ℕ) → is_free ps m ≡ false
  none_kept most ps kept within m =
      bool_cases (is_free ps m) (λ free.
      let inside = is_free-within ps m free in
      let back : most - (most - m) ≡ m = omega arith in
      let low : nat_le (most - m) most ≡ true = grind (arith, nat_tests) in
      let none : 0 ≡ cond (nat_le (most - m) most && is_free ps m) 1 0 = rw back at (kept (most - m)) in
      let one : 0 ≡ 1 = rw (low, free) at none in
      absurd (omega arith))

  -- taking the least free number
  pub kept-take : (most : ℕ) (ps : List (Option E)) (keys rest : List ℕ) (key : ℕ) (e : E) → Kept most ps keys → IsPermutation keys (key ∷ rest) → Kept most (set ps (most - key) (Some e)) rest
  kept-take most ps keys rest key e kept moved k =
      let count : cond (nat_eq key k) 1 0 + copies k rest ≡ copies k keys = copies-moved keys (key ∷ rest) k moved in
      let was = kept k in
      let first : cond (nat_eq key key) 1 0 + copies key rest ≡ copies key keys = copies-moved keys (key ∷ rest) key moved in
      let refl_key : nat_eq key key ≡ true = grind (arith, nat_tests) in
      let some : 0 < copies key keys = omega (arith, rw refl_key at first) in
      let low = key_within most ps keys key kept some in
      elim (cases_eq key k) [
        | inl same ↦
            let here : nat_eq key k ≡ true = grind (arith, nat_tests) in
            let gone : is_free (set ps (most - key) (Some e)) (most - k) ≡ false = rw (← same) (is_free-set_same ps (most - key) e) in
            let not_free : is_free_key most (set ps (most - key) (Some e)) k ≡ false = rw gone (and_false _) in
            let at_most : cond {A = ℕ} (is_free_key most ps k) 1 0 ≤ 1 = at_most_one _ in
            let counted : 1 + copies k rest ≡ copies k keys = rw here at count in
            rw not_free (omega arith)
        | inr other ↦
            let here : nat_eq key k ≡ false = grind (arith, nat_tests) in
            let counted : 0 + copies k rest ≡ copies k keys = rw here at count in
            let same : copies k rest ≡ copies k keys = omega arith in
            same ∙ was ∙ ap (λ b. cond b 1 0) (sym (and_when (nat_le k most) _ _ (λ below. let fits : k ≤ most = grind (arith, nat_tests) in is_free-set ps (most - key) (most - k) e (λ eq. other (omega arith)))))
      ]

  pub kept-push : (most : ℕ) (ps : List (Option E)) (e : E) (keys : List ℕ) → Kept most ps keys → Kept most (ps ++ Some e ∷ []) keys
  kept-push most ps e keys kept k = rw (is_free-push ps (most - k) e) (kept k)

  -- freeing a number
  pub kept-free : (most : ℕ) (ps : List (Option E)) (keys new : List ℕ) (n : ℕ) → Kept most ps keys → length ps ≤ most → n < length ps → IsSome (get_or ps n None) → IsPermutation ((most - n) ∷ keys) new → Kept most (set ps n None) new
  kept-free most ps keys new n kept within inside live moved k =
      let count : copies k new ≡ cond (nat_eq (most - n) k) 1 0 + copies k keys = copies-moved ((most - n) ∷ keys) new k moved in
      let was = kept k in
      elim (cases_eq (most - n) k) [
        | inl same ↦
            let here : nat_eq (most - n) k ≡ true = grind (arith, nat_tests) in
            let back : most - k ≡ n = omega arith in
            let low : nat_le k most ≡ true = grind (arith, nat_tests) in
            let taken : is_free ps (most - k) ≡ false = rw back (is_free-live ps n live) in
            let not_free : is_free_key most ps k ≡ false = rw taken (and_false _) in
            let none : copies k keys ≡ 0 = was ∙ ap (λ b. cond b 1 0) not_free in
            let free : is_free (set ps n None) (most - k) ≡ true = rw back (is_free-freed_same ps n inside) in
            rw (count, here, none, low, free) refl
        | inr other ↦
            let here : nat_eq (most - n) k ≡ false = grind (arith, nat_tests) in
            let counted : copies k new ≡ 0 + copies k keys = rw here at count in
            let same : copies k new ≡ copies k keys = omega arith in
            same ∙ was ∙ ap (λ b. cond b 1 0) (sym (and_when (nat_le k most) _ _ (λ below. let fits : k ≤ most = grind (arith, nat_tests) in is_free-freed ps n (most - k) (λ eq. other (omega arith)))))
      ]

  pub first_by_key : (most : ℕ) (ps : List (Option E)) (keys : List ℕ) (key : ℕ) → Kept most ps keys → 0 < copies key keys → All (λ k. k ≤ key) keys → first_free ps ≡ most - key
  first_by_key most ps keys key kept some all = free_first ps (most - key) (key_free most ps keys key kept some) (key_first most ps keys key kept all)

  pub entry_by_key : (most : ℕ) (ps : List (Option E)) (keys : List ℕ) (key : ℕ) (new : E) → Kept most ps keys → 0 < copies key keys → All (λ k. k ≤ key) keys → with_entry ps new ≡ set ps (most - key) (Some new)
  entry_by_key most ps keys key new kept some all = entry_first ps (most - key) new (key_free most ps keys key kept some) (key_first most ps keys key kept all)

  pub first_without_keys : (most : ℕ) (ps : List (Option E)) → Kept most ps [] → length ps ≤ most → first_free ps ≡ length ps
  first_without_keys most ps kept within = free_none ps (none_kept most ps kept within)

  pub entry_without_keys : (most : ℕ) (ps : List (Option E)) (new : E) → Kept most ps [] → length ps ≤ most → with_entry ps new ≡ ps ++ Some new ∷ []
  entry_without_keys most ps new kept within = entry_none ps new (none_kept most ps kept within)

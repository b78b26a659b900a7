-- Counts over places, and how many live handles there may be.
use Rattle.std.proofs.Common.{◌≡◌, ◌≢◌, ℕ, zero, suc, ◌+◌, ◌<◌, ◌≤◌, List, [], ◌∷◌, set, get_or, Option, Some, None, IsSome, is_some, Bool, true, false, ◌||◌, nat_lt, cond, refl, ap, arith, inl, inr}
use Rattle.std.specs.Prelude.{count_by}
use Rattle.std.specs.List.{list_any}
use Rattle.std.proofs.lemmas.Bool.{cases_eq}
use Rattle.std.proofs.lemmas.Bool.Decides.{nat_tests}
use Rattle.std.proofs.lemmas.List.Sums.{sum_by-set, sum_by-cons, sum_by-le-sum_by, get_or-le-sum_by}
use Rattle.slot_tables.specs.Entries.{live_count}
use Rattle.reference_step.specs.Handles.{first_free, with_entry}
use Rattle.ref_rules.specs.declared.content.Handle.{Handle}
use Rattle.ref_rules.specs.Lives.{of_kind, count_of_kind, many}
use Rattle.ref_rules.proofs.KeptLemmas.{some_within}

one_more : (b : Bool) (n : ℕ) → (b || nat_lt 0 n) ≡ nat_lt 0 (cond b 1 0 + n)
one_more true n = grind (arith, nat_tests)
one_more false n = grind (arith, nat_tests)

at_most_one : (b : Bool) → cond {A = ℕ} b 1 0 ≤ 1
at_most_one true = omega arith
at_most_one false = omega arith

module _ {E : Type 0} (p : Option E → Bool) where
  count-cons : (x : Option E) (ps : List (Option E)) → count_by p (x ∷ ps) ≡ cond (p x) 1 0 + count_by p ps
  count-cons x ps = sum_by-cons (λ o. cond (p o) 1 0) x ps

  pub count-with_entry : p None ≡ false → (ps : List (Option E)) (e : E) → count_by p (with_entry ps e) ≡ count_by p ps + cond (p (Some e)) 1 0
  count-with_entry none [] e = refl
  count-with_entry none (None ∷ ps) e =
      let new = count-cons (Some e) ps in
      let old = count-cons None ps in
      let zero_here : cond {A = ℕ} (p None) 1 0 ≡ 0 = ap (λ b. cond b 1 0) none in
      omega (arith, new, old, zero_here)
  count-with_entry none (Some x ∷ ps) e =
      let new = count-cons (Some x) (with_entry ps e) in
      let old = count-cons (Some x) ps in
      let rest = count-with_entry none ps e in
      omega (arith, new, old, rest)

  -- a write where something stands
  pub count-set : (ps : List (Option E)) (n : ℕ) (old : E) (new : Option E) → get_or ps n None ≡ Some old → count_by p (set ps n new) + cond (p (Some old)) 1 0 ≡ count_by p ps + cond (p new) 1 0
  count-set ps n old new there =
      let live : IsSome (get_or ps n None) = rw there refl in
      let counted : count_by p (set ps n new) + cond (p (get_or ps n None)) 1 0 ≡ count_by p ps + cond (p new) 1 0 = sum_by-set (λ o. cond (p o) 1 0) ps n new None (some_within ps n live) in
      rw there at counted

  pub count-at : (ps : List (Option E)) (n : ℕ) (old : E) → get_or ps n None ≡ Some old → cond {A = ℕ} (p (Some old)) 1 0 ≤ count_by p ps
  count-at ps n old there =
      let live : IsSome (get_or ps n None) = rw there refl in
      let one : cond {A = ℕ} (p (get_or ps n None)) 1 0 ≤ count_by p ps = get_or-le-sum_by (λ o. cond (p o) 1 0) ps n None (some_within ps n live) in
      let same : cond {A = ℕ} (p (get_or ps n None)) 1 0 ≡ cond (p (Some old)) 1 0 = ap (λ o. cond (p o) 1 0) there in
      omega (arith, one, same)

  pub count_any : (ps : List (Option E)) → list_any p ps ≡ nat_lt 0 (count_by p ps)
  count_any [] = grind (arith, nat_tests)
  count_any (x ∷ ps) = rw (count-cons x ps, count_any ps) (one_more (p x) (count_by p ps))

module _ {E : Type 0} where
  pub get-with_entry_same : (ps : List (Option E)) (e : E) → get_or (with_entry ps e) (first_free ps) None ≡ Some e
  get-with_entry_same [] e = refl
  get-with_entry_same (None ∷ ps) e = refl
  get-with_entry_same (Some x ∷ ps) e = get-with_entry_same ps e

  pub get-with_entry_other : (ps : List (Option E)) (e : E) (n : ℕ) → n ≢ first_free ps → get_or (with_entry ps e) n None ≡ get_or ps n None
  get-with_entry_other [] e zero other = absurd (other refl)
  get-with_entry_other [] e (suc n) other = refl
  get-with_entry_other (None ∷ ps) e zero other = absurd (other refl)
  get-with_entry_other (None ∷ ps) e (suc n) other = refl
  get-with_entry_other (Some x ∷ ps) e zero other = refl
  get-with_entry_other (Some x ∷ ps) e (suc n) other = get-with_entry_other ps e n (λ same. other (ap suc same))

  pub first_free-le : (ps : List (Option E)) → first_free ps ≤ live_count ps
  first_free-le [] = omega arith
  first_free-le (None ∷ ps) = omega arith
  first_free-le (Some x ∷ ps) =
      let here : live_count (Some x ∷ ps) ≡ 1 + live_count ps = sum_by-cons (λ o. cond (is_some o) 1 0) (Some x) ps in
      let rest = first_free-le ps in
      omega (arith, here, rest)

  each_le : (p : Option E → Bool) → p None ≡ false → (x : Option E) → cond {A = ℕ} (p x) 1 0 ≤ cond {A = ℕ} (is_some x) 1 0
  each_le p none None = rw none (omega arith)
  each_le p none (Some e) = at_most_one (p (Some e))

  -- a test that passes for no free place passes at most as often as places are taken
  pub count-le-live : (p : Option E → Bool) → p None ≡ false → (ps : List (Option E)) → count_by p ps ≤ live_count ps
  count-le-live p none ps = sum_by-le-sum_by (λ o. cond (p o) 1 0) (λ o. cond (is_some o) 1 0) ps (each_le p none)

-- ---- the kinds together

below : ℕ → Option Handle → Bool
below m None = false
below m (Some h) = nat_lt h.kind m

split_kind : (m : ℕ) (x : Option Handle) → cond {A = ℕ} (below (suc m) x) 1 0 ≡ cond (below m x) 1 0 + cond (of_kind m x) 1 0
unfolding below
split_kind m None = refl
split_kind m (Some h) = grind (arith, nat_tests)

count_below_more : (m : ℕ) (hs : List (Option Handle)) → count_by (below (suc m)) hs ≡ count_by (below m) hs + count_by (of_kind m) hs
count_below_more m [] = refl
count_below_more m (x ∷ hs) =
    let a = count-cons (below (suc m)) x hs in
    let b = count-cons (below m) x hs in
    let d = count-cons (of_kind m) x hs in
    omega (arith, a, b, d, split_kind m x, count_below_more m hs)

none_below : (x : Option Handle) → below 0 x ≡ false
unfolding below
none_below None = refl
none_below (Some h) = grind (arith, nat_tests)

count_below_none : (hs : List (Option Handle)) → count_by (below 0) hs ≡ 0
count_below_none [] = refl
count_below_none (x ∷ hs) =
    let a = count-cons (below 0) x hs in
    let zero_here : cond {A = ℕ} (below 0 x) 1 0 ≡ 0 = ap (λ b. cond b 1 0) (none_below x) in
    omega (arith, a, zero_here, count_below_none hs)

count_below_most : (hs : List (Option Handle)) (slots bound : ℕ) → ((k : ℕ) → k < bound → count_of_kind k hs ≤ slots) → (m : ℕ) → m ≤ bound → count_by (below m) hs ≤ many m slots
count_below_most hs slots bound each zero le = omega (arith, count_below_none hs)
count_below_most hs slots bound each (suc m) le = omega (arith, count_below_more m hs, each m (omega arith), count_below_most hs slots bound each m (omega arith))

count_below_less : (hs : List (Option Handle)) (slots bound kind : ℕ) → ((k : ℕ) → k < bound → count_of_kind k hs ≤ slots) → count_of_kind kind hs < slots → (m : ℕ) → m ≤ bound → kind < m → count_by (below m) hs < many m slots
count_below_less hs slots bound kind each room zero le lt = absurd (omega arith)
count_below_less hs slots bound kind each room (suc m) le lt =
    elim (cases_eq kind m) [
      | inl same ↦
          let here : count_of_kind m hs < slots = rw (← same) room in
          omega (arith, count_below_more m hs, here, count_below_most hs slots bound each m (omega arith))
      | inr other ↦ omega (arith, count_below_more m hs, each m (omega arith), count_below_less hs slots bound kind each room m (omega arith) (omega arith))
    ]

is_below : (m : ℕ) (x : Option Handle) → ((h : Handle) → x ≡ Some h → h.kind < m) → below m x ≡ is_some x
unfolding below
is_below m None all = refl
is_below m (Some h) all = let lt : h.kind < m = all h refl in grind (arith, nat_tests)

live-below : (m : ℕ) (hs : List (Option Handle)) → ((id : ℕ) (h : Handle) → get_or hs id None ≡ Some h → h.kind < m) → count_by (below m) hs ≡ live_count hs
live-below m [] all = refl
live-below m (x ∷ hs) all =
    let a = count-cons (below m) x hs in
    let here : cond {A = ℕ} (below m x) 1 0 ≡ cond (is_some x) 1 0 = ap (λ b. cond b 1 0) (is_below m x (λ h e. all 0 h e)) in
    let b : live_count (x ∷ hs) ≡ cond (is_some x) 1 0 + live_count hs = sum_by-cons (λ o. cond (is_some o) 1 0) x hs in
    omega (arith, a, b, here, live-below m hs (λ id h e. all (suc id) h e))

pub live_most : (hs : List (Option Handle)) (slots bound : ℕ) → ((id : ℕ) (h : Handle) → get_or hs id None ≡ Some h → h.kind < bound) → ((k : ℕ) → k < bound → count_of_kind k hs ≤ slots) → live_count hs ≤ many bound slots
live_most hs slots bound kinds each = rw (← live-below bound hs kinds) (count_below_most hs slots bound each bound (omega arith))

pub live_less : (hs : List (Option Handle)) (slots bound kind : ℕ) → ((id : ℕ) (h : Handle) → get_or hs id None ≡ Some h → h.kind < bound) → ((k : ℕ) → k < bound → count_of_kind k hs ≤ slots) → kind < bound → count_of_kind kind hs < slots → live_count hs < many bound slots
live_less hs slots bound kind kinds each lt room = rw (← live-below bound hs kinds) (count_below_less hs slots bound kind each room bound (omega arith) lt)

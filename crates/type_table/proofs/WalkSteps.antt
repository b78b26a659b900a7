-- Steps of a walk through the parts of two types, one after another, and what it remembers.
use Rattle.std.proofs.Common.{◌≡◌, ◌∙◌, ap, refl, ℕ, zero, suc, ◌+◌, arith, List, [], ◌∷◌, ◌++◌, drop, length, Bool, true, false, Option, Some, None, slice_get}
use Rattle.std.specs.Prelude.{All, ◌⊎◌}
use Rattle.std.proofs.lemmas.List.Elements.{All-push, All-same}
use mathlib.Core.Logic.{⊎_elim}
use Rattle.wit_types.specs.Plain.{Plain}
use Rattle.comp_types.specs.Items.{same_name}
use Rattle.comp_types.specs.Matching.{Pairs, onward, only_if, matched_value, matched_answer}
use Rattle.type_table.specs.Slots.{Part, matched_slots}
use Rattle.type_table.specs.Tables.{Types}
use Rattle.type_table.specs.Met.{HaveMet}
use Rattle.type_table.proofs.MatchLaws.{value-behind, behind-grows, if_true, after}
use Rattle.type_table.proofs.MetLaws.{all_met-later}

-- ---- lists

pub front : {A : Type 0} (xs : List A) (i : ℕ) (x : A) → slice_get xs i ≡ Some x → drop i xs ≡ x ∷ drop (i + 1) xs
front [] i x e = cc
front (y ∷ xs) zero x e = let same : y ≡ x = cc in ap (λ z. z ∷ xs) same
front (y ∷ xs) (suc i) x e = let next : suc i + 1 ≡ suc (i + 1) = omega arith in rw next (front xs i x e)

-- ---- parts

-- a walk with these pairs comes to the parts from this index on
abbrev pub ComesTo : Pairs → List Part → List Part → ℕ → Pairs → Type 0
ComesTo by ps qs i mid = matched_slots by ps qs ≡ matched_slots mid (drop i ps) (drop i qs)

module _ (by : Pairs) (ps qs : List Part) where
  pub comes-start : ComesTo by ps qs 0 by
  comes-start = refl

  part : (i : ℕ) (mid : Pairs) (p q : Part) → ComesTo by ps qs i mid → slice_get ps i ≡ Some p → slice_get qs i ≡ Some q
      → matched_slots by ps qs ≡ only_if (same_name p.0 q.0) (onward (λ more. matched_slots more (drop (i + 1) ps) (drop (i + 1) qs)) (matched_answer mid p.1 q.1))
  part i mid p q c e f = c ∙ (λ k. matched_slots mid (front ps i p e k) (front qs i q f k))

  pub comes-on : (i : ℕ) (mid more : Pairs) (p q : Part) → ComesTo by ps qs i mid → slice_get ps i ≡ Some p → slice_get qs i ≡ Some q → same_name p.0 q.0 ≡ true → matched_answer mid p.1 q.1 ≡ Some more → ComesTo by ps qs (i + 1) more
  comes-on i mid more p q c e f n m =
      part i mid p q c e f
      ∙ (if_true (same_name p.0 q.0) (onward (λ then. matched_slots then (drop (i + 1) ps) (drop (i + 1) qs)) (matched_answer mid p.1 q.1)) n
      ∙ after (λ then. matched_slots then (drop (i + 1) ps) (drop (i + 1) qs)) (matched_answer mid p.1 q.1) more m)

  -- another name
  pub comes-other : (i : ℕ) (mid : Pairs) (p q : Part) → ComesTo by ps qs i mid → slice_get ps i ≡ Some p → slice_get qs i ≡ Some q → same_name p.0 q.0 ≡ false → matched_slots by ps qs ≡ None
  comes-other i mid p q c e f n = part i mid p q c e f ∙ ap (λ b. only_if b (onward (λ then. matched_slots then (drop (i + 1) ps) (drop (i + 1) qs)) (matched_answer mid p.1 q.1))) n

  none_if : (b : Bool) → only_if b None ≡ None
  none_if true = refl
  none_if false = refl

  -- another type
  pub comes-apart : (i : ℕ) (mid : Pairs) (p q : Part) → ComesTo by ps qs i mid → slice_get ps i ≡ Some p → slice_get qs i ≡ Some q → matched_answer mid p.1 q.1 ≡ None → matched_slots by ps qs ≡ None
  comes-apart i mid p q c e f m =
      part i mid p q c e f
      ∙ (ap (λ o. only_if (same_name p.0 q.0) (onward (λ then. matched_slots then (drop (i + 1) ps) (drop (i + 1) qs)) o)) m ∙ none_if (same_name p.0 q.0))

  past : {A : Type 0} (xs : List A) (i : ℕ) → i ≡ length xs → drop i xs ≡ []
  past [] i e = rw e refl
  past (x ∷ xs) i e = rw e (past xs (length xs) refl)

  pub comes-end : (i : ℕ) (mid : Pairs) → ComesTo by ps qs i mid → i ≡ length ps → i ≡ length qs → matched_slots by ps qs ≡ Some mid
  comes-end i mid c e f = c ∙ (λ k. matched_slots mid (past ps i e k) (past qs i f k))

none_if_any : (b : Bool) → only_if b None ≡ None
none_if_any true = refl
none_if_any false = refl

on-none : (o : Option Pairs) (f : Pairs → Option Pairs) → ((by : Pairs) → f by ≡ None) → onward f o ≡ None
on-none None f h = refl
on-none (Some by) f h = h by

-- as many parts
pub counts-apart : (by : Pairs) (ps qs : List Part) → (length ps ≡ length qs → ⊥) → matched_slots by ps qs ≡ None
counts-apart by [] [] h = absurd (h refl)
counts-apart by [] (q ∷ qs) h = refl
counts-apart by (p ∷ ps) [] h = refl
counts-apart by (p ∷ ps) (q ∷ qs) h =
    ap (only_if (same_name p.0 q.0)) (on-none (matched_answer by p.1 q.1) (λ more. matched_slots more ps qs) (λ more. counts-apart more ps qs (λ e. h (ap suc e)))) ∙ none_if_any (same_name p.0 q.0)

-- ---- what is remembered

-- after a match of types as they are written out
pub written-kept : (types : Types) (by more : Pairs) (met : List (ℕ × ℕ)) (a b : Plain) → matched_value by a b ≡ Some more → All (HaveMet types by) met → All (HaveMet types more) met
written-kept types by more met a b e h = all_met-later types by more met (behind-grows by more (value-behind by more a b e)) h

-- with one more, or with that which was there
pub marked-kept : (types : Types) (by : Pairs) (old new : List (ℕ × ℕ)) (p : ℕ × ℕ) → (new ≡ old) ⊎ (new ≡ old ++ p ∷ []) → All (HaveMet types by) old → HaveMet types by p → All (HaveMet types by) new
marked-kept types by old new p marked h k =
    ⊎_elim (λ e. All-same (HaveMet types by) new old e h) (λ e. All-same (HaveMet types by) new (old ++ p ∷ []) e (All-push (HaveMet types by) old p h k)) marked

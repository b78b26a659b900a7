-- The scopes around a definition by their places in the list that is kept.
use Rattle.std.proofs.Common.{◌≡◌, ◌∙◌, ◌<◌, ◌+◌, ◌-◌, ap, sym, refl, subst, ℕ, zero, suc, List, [], ◌∷◌, ◌++◌, length, reverse, Bool, true, false, Option, Some, None, slice_get, get_or, arith, inl, inr}
use Rattle.std.specs.Prelude.{option_map, nat_lt, if◌then◌else◌, ◌||◌}
use Rattle.std.proofs.lemmas.Bool.Decides.{nat_tests}
use Rattle.std.proofs.lemmas.List.{reverse-append, length-reverse, get_or-reverse}
use Rattle.std.proofs.lemmas.Option.{slice_get_past, slice_get_cases, slice_get-get_or}
use Rattle.comp_types.specs.Spaces.{Space}
use Rattle.comp_types.specs.Rules.{leaves_component}
use Rattle.comp_scopes.specs.Found.{EachSome}
use Rattle.comp_scopes.specs.Stands.{Stands}
use Rattle.comp_defining.specs.declared.scopes.Level.{Level}
use Rattle.comp_defining.specs.declared.scopes.Scopes.{Scopes}
use Rattle.comp_defining.specs.Around.{border, StandEach, StandAll}

-- ---- a list from its end

pub rev_at : {A : Type 0} (xs : List A) (k c : ℕ) → k + (c + 1) ≡ length xs → slice_get (reverse xs) c ≡ slice_get xs k
rev_at xs k c e = elim (slice_get_cases xs k).1 [
  | inl h ↦ (let at : length xs - 1 - c ≡ k = omega arith in
      slice_get-get_or (reverse xs) c h.0 (omega (arith, length-reverse xs)) ∙ (ap Some (get_or-reverse xs c h.0 (omega arith) ∙ (ap (λ j. get_or xs j h.0) at ∙ h.3)) ∙ sym h.2))
  | inr h ↦ absurd (omega (arith, h.0))
]

pub rev_push : {A : Type 0} (xs : List A) (x : A) → reverse (xs ++ x ∷ []) ≡ x ∷ reverse xs
rev_push xs x = reverse-append xs (x ∷ [])

pub empty_is : {A : Type 0} (xs : List A) → length xs ≡ 0 → xs ≡ []
empty_is [] e = refl
empty_is (x ∷ xs) e = absurd (omega arith)

-- ---- scopes further out

each_at : (spaces : List Space) (levels : List Level) → StandEach spaces levels → (i : ℕ) → EachSome Stands (slice_get spaces i) (option_map (λ (l : Level). l.scope) (slice_get levels i))
each_at [] [] h i = tt
each_at [] (l ∷ levels) h i = absurd h
each_at (s ∷ spaces) [] h i = absurd h
each_at (s ∷ spaces) (l ∷ levels) h zero = h.0
each_at (s ∷ spaces) (l ∷ levels) h (suc i) = each_at spaces levels h.2 i

each_count : (spaces : List Space) (levels : List Level) → StandEach spaces levels → length spaces ≡ length levels
each_count [] [] h = refl
each_count [] (l ∷ levels) h = absurd h
each_count (s ∷ spaces) [] h = absurd h
each_count (s ∷ spaces) (l ∷ levels) h = ap suc (each_count spaces levels h.2)

pub how_many : (around : List Space) (s : Space) (x : Scopes) → StandAll around s x → length around ≡ length x.outer.items
how_many around s x h = each_count around (reverse x.outer.items) h.outer ∙ length-reverse x.outer.items

pub scope_found : (around : List Space) (s : Space) (x : Scopes) (count index : ℕ) → StandAll around s x → index + count ≡ length x.outer.items → 0 < count
    → EachSome Stands (slice_get (s ∷ around) count) (option_map (λ (l : Level). l.scope) (slice_get x.outer.items index))
scope_found around s x zero index h e lt = absurd (omega arith)
scope_found around s x (suc k) index h e lt =
    subst (λ (o : Option Level). EachSome Stands (slice_get around k) (option_map (λ (l : Level). l.scope) o)) (rev_at x.outer.items index k (omega arith)) (each_at around (reverse x.outer.items) h.outer k)

pub scope_past : (around : List Space) (s : Space) (x : Scopes) (count : ℕ) → StandAll around s x → length x.outer.items < count → slice_get (s ∷ around) count ≡ None
scope_past around s x zero h lt = absurd (omega arith)
scope_past around s x (suc k) h lt = slice_get_past around k (omega (arith, how_many around s x h))

-- ---- the border of a component

none_below : (n : ℕ) → nat_lt n 0 ≡ false
none_below n = grind (arith, nat_tests)

zero_below : (k : ℕ) → nat_lt 0 (k + 1) ≡ true
zero_below k = grind (arith, nat_tests)

both_more : (n k : ℕ) → nat_lt (n + 1) (k + 1) ≡ nat_lt n k
both_more n k = grind (arith, nat_tests)

suc_is : (k : ℕ) → suc k ≡ k + 1
suc_is k = omega arith

more_inside : (b : Bool) (n k : ℕ) (r : Bool) → nat_lt n k ≡ r → nat_lt (if b then 0 else n + 1) (suc k) ≡ (b || r)
more_inside true n k r e = ap (nat_lt 0) (suc_is k) ∙ zero_below k
more_inside false n k r e = ap (nat_lt (n + 1)) (suc_is k) ∙ (both_more n k ∙ e)

pub leaves_is : (spaces : List Space) (count : ℕ) → count < length spaces → nat_lt (border spaces) count ≡ leaves_component spaces count
leaves_is [] count h = absurd (omega arith)
leaves_is (s ∷ around) zero h = none_below (border (s ∷ around))
leaves_is (s ∷ around) (suc k) h = more_inside s.is_component (border around) k (leaves_component around k) (leaves_is around k (omega arith))

-- ---- opening and closing

pub pushed : (around : List Space) (s : Space) (x : Scopes) (levels : List Level) (l : Level) → StandAll around s x → l.scope ≡ x.inner → l.inside ≡ x.inside → levels ≡ x.outer.items ++ l ∷ [] → StandEach (s ∷ around) (reverse levels)
pushed around s x levels l h e i p =
    subst (StandEach (s ∷ around)) (sym (ap reverse p ∙ rev_push x.outer.items l)) (subst (Stands s) (sym e) h.inner, i ∙ h.inside, h.outer)

pub popped : (around : List Space) (t s : Space) (x : Scopes) (levels : List Level) (l : Level) → StandAll (t ∷ around) s x → x.outer.items ≡ levels ++ l ∷ [] → StandEach (t ∷ around) (l ∷ reverse levels)
popped around t s x levels l h p = subst (StandEach (t ∷ around)) (ap reverse p ∙ rev_push levels l) h.outer

pub none_popped : (around : List Space) (t s : Space) (x : Scopes) → StandAll (t ∷ around) s x → x.outer.items ≡ [] → ⊥
none_popped around t s x h e = subst (StandEach (t ∷ around)) (ap reverse e) h.outer

pub some_popped : (s : Space) (x : Scopes) (levels : List Level) (l : Level) → StandAll [] s x → x.outer.items ≡ levels ++ l ∷ [] → ⊥
some_popped s x levels l h e = subst (StandEach []) (ap reverse e ∙ rev_push levels l) h.outer

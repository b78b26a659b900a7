-- The resources in the exports of an application have numbers of their own in its instance: no two get the same.
use Rattle.std.proofs.Common.{◌≡◌, ◌∙◌, refl, sym, ap, subst, ℕ, ◌+◌, ◌≤◌, List, [], ◌∷◌, Bool, true, false, arith}
use Rattle.std.specs.Prelude.{nat_eq, not, ◌||◌, ◌==◌, if◌then◌else◌}
use Rattle.std.specs.List.{filter}
use Rattle.std.proofs.lemmas.Bool.{eqb-true, eq-eqb, false≢true, false_from_ne_true}
use Rattle.comp_types.specs.Substitution.{partner_in}
use Rattle.comp_types.specs.GivenResources.{is_among, without, distinct, numbered}

-- ---- numbers from the next one on

later_or : (b rest : Bool) → b ≡ false → (b || rest) ≡ true → rest ≡ true
later_or true rest e h = absurd (false≢true (sym e))
later_or false rest e h = h

-- where the first is it, its number; else that of the others
at_least_by : (b : Bool) (n p : ℕ) → (b ≡ false → n + 1 ≤ p) → n ≤ (if b then n else p)
at_least_by true n p h = omega arith
at_least_by false n p h = omega (arith, h refl)

at_least : (rs : List ℕ) (n x : ℕ) → is_among rs x ≡ true → n ≤ partner_in (numbered rs n) x
at_least [] n x h = absurd (false≢true h)
at_least (r ∷ rs) n x h = at_least_by (nat_eq r x) n (partner_in (numbered rs (n + 1)) x) (λ e. at_least rs (n + 1) x (later_or (nat_eq r x) (is_among rs x) e h))

apart_by : (b c : Bool) (n p q r x y : ℕ) → nat_eq r x ≡ b → nat_eq r y ≡ c → (b ≡ false → n + 1 ≤ p) → (c ≡ false → n + 1 ≤ q) → (b ≡ false → c ≡ false → p ≡ q → x ≡ y)
    → (if b then n else p) ≡ (if c then n else q) → x ≡ y
apart_by true true n p q r x y e f low high same h = sym (eqb-true r x e) ∙ eqb-true r y f
apart_by true false n p q r x y e f low high same h = absurd (omega (arith, h, high refl))
apart_by false true n p q r x y e f low high same h = absurd (omega (arith, h, low refl))
apart_by false false n p q r x y e f low high same h = same refl refl h

pub apart : (rs : List ℕ) (n x y : ℕ) → is_among rs x ≡ true → is_among rs y ≡ true → partner_in (numbered rs n) x ≡ partner_in (numbered rs n) y → x ≡ y
apart [] n x y h k e = absurd (false≢true h)
apart (r ∷ rs) n x y h k e =
    let first = λ (other : nat_eq r x ≡ false). later_or (nat_eq r x) (is_among rs x) other h in
    let second = λ (other : nat_eq r y ≡ false). later_or (nat_eq r y) (is_among rs y) other k in
    apart_by (nat_eq r x) (nat_eq r y) n (partner_in (numbered rs (n + 1)) x) (partner_in (numbered rs (n + 1)) y) r x y refl refl
    (λ low. at_least rs (n + 1) x (first low)) (λ low. at_least rs (n + 1) y (second low)) (λ low none. apart rs (n + 1) x y (first low) (second none)) e

-- ---- each resource once

passed_by : (p : ℕ → Bool) (b c rest : Bool) (y x : ℕ) (ys : List ℕ) → p y ≡ b → (y == x) ≡ c → p x ≡ true → (c || rest) ≡ true → (rest ≡ true → is_among ys x ≡ true) → is_among (if b then y ∷ ys else ys) x ≡ true
passed_by p true true rest y x ys e f keep h next = ap (λ (b : Bool). b || is_among ys x) f
passed_by p true false rest y x ys e f keep h next = ap (λ (b : Bool). b || is_among ys x) f ∙ next h
passed_by p false true rest y x ys e f keep h next = absurd (false≢true (sym e ∙ ap p (eqb-true y x f) ∙ keep))
passed_by p false false rest y x ys e f keep h next = next h

among_filter : (p : ℕ → Bool) (ys : List ℕ) (x : ℕ) → p x ≡ true → is_among ys x ≡ true → is_among (filter p ys) x ≡ true
among_filter p [] x keep h = absurd (false≢true h)
among_filter p (y ∷ ys) x keep h = passed_by p (p y) (y == x) (is_among ys x) y x (filter p ys) refl refl keep h (λ r. among_filter p ys x keep r)

turned : (r x : ℕ) → (r == x) ≡ false → (x == r) ≡ false
turned r x e = false_from_ne_true (x == r) (λ f. false≢true (sym e ∙ eq-eqb r x (sym (eqb-true x r f))))

other : (r x : ℕ) → (r == x) ≡ false → (ys : List ℕ) → is_among ys x ≡ true → is_among (filter (λ y. not (y == r)) ys) x ≡ true
other r x e ys h = among_filter (λ y. not (y == r)) ys x (ap not (turned r x e)) h

once_by : (b rest : Bool) (r x : ℕ) (ys : List ℕ) → (r == x) ≡ b → (b || rest) ≡ true → (rest ≡ true → is_among ys x ≡ true) → (b || is_among (filter (λ y. not (y == r)) ys) x) ≡ true
once_by true rest r x ys e h next = refl
once_by false rest r x ys e h next = other r x e ys (next h)

among_distinct : (xs : List ℕ) (x : ℕ) → is_among xs x ≡ true → is_among (distinct xs) x ≡ true
among_distinct [] x h = h
among_distinct (r ∷ xs) x h = once_by (r == x) (is_among xs x) r x (distinct xs) refl h (λ k. among_distinct xs x k)

-- what imports give is left out, and nothing was imported
pub among_own : (imported named : List ℕ) (x : ℕ) → imported ≡ [] → is_among named x ≡ true → is_among (without imported (distinct named)) x ≡ true
among_own imported named x none h =
    subst (λ (is : List ℕ). is_among (without is (distinct named)) x ≡ true) (sym none) (among_filter (λ r. not (is_among [] r)) (distinct named) x refl (among_distinct named x h))

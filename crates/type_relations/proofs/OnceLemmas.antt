-- Lists with further resources, each once.
use Rattle.std.proofs.Common.{◌≡◌, ◌∙◌, ◌+◌, ◌<◌, ap, refl, sym, subst, ℕ, zero, suc, List, [], ◌∷◌, ◌++◌, Bool, true, false, not, drop, get_or, length, append_assoc, arith}
use Rattle.std.specs.Prelude.{◌||◌, ◌&&◌, ◌==◌, nat_eq, if◌then◌else◌}
use Rattle.std.specs.List.{filter, list_any}
use Rattle.std.proofs.lemmas.Bool.Decides.{Decides-eqb}
use mathlib.Core.Path.{fun_ext}
use Rattle.comp_types.specs.GivenResources.{is_among, without, distinct}
use Rattle.comp_types.specs.Rules.{is_filled}
use Rattle.type_relations.specs.Once.{and_once, and_each}

-- ---- one after another

pub each-append : (rs xs ys : List ℕ) → and_each rs (xs ++ ys) ≡ and_each (and_each rs xs) ys
each-append rs [] ys = refl
each-append rs (x ∷ xs) ys = each-append (and_once rs x) xs ys

pub onward : (all found new first rest : List ℕ) → all ≡ and_each found (first ++ rest) → new ≡ and_each found first → all ≡ and_each new rest
onward all found new first rest e n = e ∙ (each-append found first rest ∙ ap (λ rs. and_each rs rest) (sym n))

pub next_is : {A : Type 0} (xs : List A) (i : ℕ) (x : A) → i < length xs → x ≡ get_or xs i x → drop i xs ≡ x ∷ drop (i + 1) xs
next_is [] i x lt e = absurd (omega arith)
next_is (y ∷ ys) zero x lt e = ap (λ z. z ∷ ys) (sym e)
next_is (y ∷ ys) (suc i) x lt e = let next : suc i + 1 ≡ suc (i + 1) = omega arith in rw next (next_is ys i x (omega arith) e)

-- ---- which are there

or_false : (b : Bool) → (b || false) ≡ b
or_false true = refl
or_false false = refl

or_assoc : (a b c : Bool) → ((a || b) || c) ≡ (a || (b || c))
or_assoc true b c = refl
or_assoc false b c = refl

turned : (a b : Bool) → (a ≡ true → b ≡ true) → (b ≡ true → a ≡ true) → a ≡ b
turned true b f g = sym (f refl)
turned false true f g = g refl
turned false false f g = refl

eq-sym : (x y : ℕ) → (x == y) ≡ (y == x)
eq-sym x y = turned (x == y) (y == x) (λ h. (Decides-eqb y x).1 (sym ((Decides-eqb x y).0 h))) (λ h. (Decides-eqb x y).1 (sym ((Decides-eqb y x).0 h)))

-- a set asks the other way round
pub among-is : (rs : List ℕ) (r : ℕ) → list_any (nat_eq r) rs ≡ is_among rs r
among-is rs r = ap (λ test. list_any test rs) (fun_ext (λ x. eq-sym r x))

pub once-set : (ks new : List ℕ) (r : ℕ) → new ≡ (if list_any (nat_eq r) ks then ks else ks ++ r ∷ []) → new ≡ and_once ks r
once-set ks new r h = h ∙ ap (λ b. if b then ks else ks ++ r ∷ []) (among-is ks r)

pub set-has : (ks : List ℕ) (r : ℕ) (b : Bool) → b ≡ list_any (nat_eq r) ks → b ≡ is_among ks r
set-has ks r b h = h ∙ among-is ks r

among-and : (rs : List ℕ) (x r : ℕ) → is_among (rs ++ x ∷ []) r ≡ (is_among rs r || (x == r))
among-and [] x r = or_false (x == r)
among-and (y ∷ rs) x r = ap (λ b. (y == r) || b) (among-and rs x r) ∙ sym (or_assoc (y == r) (is_among rs r) (x == r))

absorbed : (a e : Bool) → (e ≡ true → a ≡ true) → a ≡ (a || e)
absorbed true e f = refl
absorbed false true f = f refl
absorbed false false f = refl

chosen : (b : Bool) (rs : List ℕ) (x r : ℕ) → is_among rs x ≡ b → is_among (if b then rs else rs ++ x ∷ []) r ≡ (is_among rs r || (x == r))
chosen false rs x r h = among-and rs x r
chosen true rs x r h = absorbed (is_among rs r) (x == r) (λ e. subst (λ y. is_among rs y ≡ true) ((Decides-eqb x r).0 e) h)

pub once-among : (rs : List ℕ) (x r : ℕ) → is_among (and_once rs x) r ≡ (is_among rs r || (x == r))
once-among rs x r = chosen (is_among rs x) rs x r refl

pub each-among : (rs xs : List ℕ) (r : ℕ) → is_among (and_each rs xs) r ≡ (is_among rs r || is_among xs r)
each-among rs [] r = sym (or_false (is_among rs r))
each-among rs (x ∷ xs) r = each-among (and_once rs x) xs r ∙ (ap (λ b. b || is_among xs r) (once-among rs x r) ∙ or_assoc (is_among rs r) (x == r) (is_among xs r))

-- ---- tests one after another

step : (p : ℕ → Bool) (y : ℕ) (c b : Bool) (rs qs : List ℕ) → c ≡ (b && p y) → rs ≡ filter p qs → (if c then y ∷ rs else rs) ≡ filter p (if b then y ∷ qs else qs)
step p y c true rs qs e h = ap (λ k. if k then y ∷ rs else rs) e ∙ ap (λ zs. if p y then y ∷ zs else zs) h
step p y c false rs qs e h = ap (λ k. if k then y ∷ rs else rs) e ∙ h

filtered : (p q r : ℕ → Bool) → ((y : ℕ) → r y ≡ (q y && p y)) → (ys : List ℕ) → filter r ys ≡ filter p (filter q ys)
filtered p q r e [] = refl
filtered p q r e (y ∷ ys) = step p y (r y) (q y) (filter r ys) (filter q ys) (e y) (filtered p q r e ys)

and_comm : (a b : Bool) → (a && b) ≡ (b && a)
and_comm true true = refl
and_comm true false = refl
and_comm false true = refl
and_comm false false = refl

commute : (p q : ℕ → Bool) (ys : List ℕ) → filter p (filter q ys) ≡ filter q (filter p ys)
commute p q ys = sym (filtered p q (λ y. q y && p y) (λ y. refl) ys) ∙ filtered q p (λ y. q y && p y) (λ y. and_comm (q y) (p y)) ys

pub filter-all : (ys : List ℕ) → filter (λ y. true) ys ≡ ys
filter-all [] = refl
filter-all (y ∷ ys) = ap (λ zs. y ∷ zs) (filter-all ys)

-- ---- each number once

only : (a e : Bool) → (e ≡ true → a ≡ true) → not a ≡ (not e && not a)
only a false f = refl
only true true f = refl
only false true f = sym (f refl)

neither : (a e : Bool) → not (a || e) ≡ (not e && not a)
neither true true = refl
neither true false = refl
neither false true = refl
neither false false = refl

first : (acc : List ℕ) (x : ℕ) (ds : List ℕ) (b : Bool) → is_among acc x ≡ b
    → (if b then acc else acc ++ x ∷ []) ++ without (if b then acc else acc ++ x ∷ []) ds ≡ acc ++ without acc (x ∷ filter (λ y. not (y == x)) ds)
first acc x ds true h =
    let rest = without acc (filter (λ y. not (y == x)) ds) in
    ap (λ zs. acc ++ zs)
    (filtered (λ r. not (is_among acc r)) (λ y. not (y == x)) (λ r. not (is_among acc r)) (λ y. only (is_among acc y) (y == x) (λ e. subst (λ z. is_among acc z ≡ true) (sym ((Decides-eqb y x).0 e)) h)) ds
    ∙ sym (ap (λ k. if not k then x ∷ rest else rest) h))
first acc x ds false h =
    let rest = without acc (filter (λ y. not (y == x)) ds) in
    append_assoc acc (x ∷ []) (without (acc ++ x ∷ []) ds)
    ∙ ap (λ zs. acc ++ zs)
    (ap (λ ws. x ∷ ws) (filtered (λ r. not (is_among acc r)) (λ y. not (y == x)) (λ r. not (is_among (acc ++ x ∷ []) r))
    (λ y. ap not (among-and acc x y ∙ ap (λ b. is_among acc y || b) (eq-sym x y)) ∙ neither (is_among acc y) (y == x)) ds)
    ∙ sym (ap (λ k. if not k then x ∷ rest else rest) h))

append_nil : (xs : List ℕ) → xs ++ [] ≡ xs
append_nil [] = refl
append_nil (x ∷ xs) = ap (λ zs. x ∷ zs) (append_nil xs)

each-distinct : (acc xs : List ℕ) → and_each acc xs ≡ acc ++ without acc (distinct xs)
each-distinct acc [] = sym (append_nil acc)
each-distinct acc (x ∷ xs) = each-distinct (and_once acc x) xs ∙ first acc x (distinct xs) (is_among acc x) refl

pub each-of_none : (xs : List ℕ) → and_each [] xs ≡ distinct xs
each-of_none xs = each-distinct [] xs ∙ filter-all (distinct xs)

-- ---- but for some

skip_one : (g : List ℕ) (x z : ℕ) (zs : List ℕ) (b : Bool) → (z == x) ≡ b → is_among g x ≡ true
    → ((k : List ℕ) → is_among k x ≡ true → and_each k (filter (λ y. not (y == x)) zs) ≡ and_each k zs)
    → and_each g (if not b then z ∷ filter (λ y. not (y == x)) zs else filter (λ y. not (y == x)) zs) ≡ and_each (and_once g z) zs
skip_one g x z zs true e h rest =
    rest g h ∙ ap (λ k. and_each (if k then g else g ++ z ∷ []) zs) (sym (subst (λ y. is_among g y ≡ true) (sym ((Decides-eqb z x).0 e)) h))
skip_one g x z zs false e h rest = rest (and_once g z) (once-among g z x ∙ ap (λ b. b || (z == x)) h)

skip : (x : ℕ) (zs g : List ℕ) → is_among g x ≡ true → and_each g (filter (λ y. not (y == x)) zs) ≡ and_each g zs
skip x [] g h = refl
skip x (z ∷ zs) g h = skip_one g x z zs (z == x) refl h (λ k i. skip x zs k i)

passes : (a e : Bool) → (e ≡ true → a ≡ false) → a ≡ (not e && a)
passes a false f = refl
passes true true f = f refl
passes false true f = refl

or_true : (b : Bool) → (b || true) ≡ true
or_true true = refl
or_true false = refl

pub once-has : (g : List ℕ) (x : ℕ) → is_among (and_once g x) x ≡ true
once-has g x = once-among g x x ∙ (ap (λ b. is_among g x || b) ((Decides-eqb x x).1 refl) ∙ or_true (is_among g x))

head : (p : ℕ → Bool) (f : List ℕ) (x : ℕ) (ds xs : List ℕ) (b : Bool) → p x ≡ b → ((g : List ℕ) → and_each g (filter p ds) ≡ and_each g (filter p xs))
    → and_each f (if b then x ∷ filter p (filter (λ y. not (y == x)) ds) else filter p (filter (λ y. not (y == x)) ds)) ≡ and_each f (if b then x ∷ filter p xs else filter p xs)
head p f x ds xs true e rest =
    ap (and_each (and_once f x)) (commute p (λ y. not (y == x)) ds) ∙ (skip x (filter p ds) (and_once f x) (once-has f x) ∙ rest (and_once f x))
head p f x ds xs false e rest =
    ap (and_each f) (sym (filtered p (λ y. not (y == x)) p (λ y. passes (p y) (y == x) (λ k. subst (λ z. p z ≡ false) (sym ((Decides-eqb y x).0 k)) e)) ds)) ∙ rest f

each-filter : (p : ℕ → Bool) (xs f : List ℕ) → and_each f (filter p (distinct xs)) ≡ and_each f (filter p xs)
each-filter p [] f = refl
each-filter p (x ∷ xs) f = head p f x (distinct xs) xs (p x) refl (λ g. each-filter p xs g)

-- what an instance type names but does not declare
pub each-without : (f own inside : List ℕ) → and_each f (without (and_each [] own) (and_each [] inside)) ≡ and_each f (without own inside)
each-without f own inside =
    ap (λ test. and_each f (filter test (and_each [] inside))) (fun_ext (λ r. ap not (each-among [] own r)))
    ∙ (ap (λ xs. and_each f (without own xs)) (each-of_none inside) ∙ each-filter (λ r. not (is_among own r)) inside f)

-- ---- whether there is one

not_zero : (n : ℕ) (b : Bool) → (suc n == 0) ≡ b → b ≡ false
not_zero n true e = let never : suc n ≡ 0 = (Decides-eqb (suc n) 0).0 e in absurd (omega arith)
not_zero n false e = refl

pub empty-is : (xs : List ℕ) → (length xs == 0) ≡ not (is_filled xs)
empty-is [] = refl
empty-is (x ∷ xs) = not_zero (length xs) (suc (length xs) == 0) refl

pub filled-distinct : (xs : List ℕ) → is_filled (distinct xs) ≡ is_filled xs
filled-distinct [] = refl
filled-distinct (x ∷ xs) = refl

-- ---- one of those that are asked

one_asked : (b : Bool) (r : ℕ) (zs : List ℕ) → (if b then r ∷ zs else zs) ≡ (if b then r ∷ [] else []) ++ zs
one_asked true r zs = refl
one_asked false r zs = refl

pub without-first : (others : List ℕ) (r : ℕ) (rest : List ℕ) → without others (r ∷ rest) ≡ without others (r ∷ []) ++ without others rest
without-first others r rest = one_asked (not (is_among others r)) r (without others rest)

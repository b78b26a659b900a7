-- Acts one after the other.
use Rattle.std.proofs.Common.{◌≡◌, ℕ, List, [], ◌++◌, refl, sym, ◌∙◌, ap, append_assoc}
use Rattle.host_port.specs.Calls.{PlainObservation}
use Rattle.comp_worlds.specs.Acts.{Out, Next, Over, Spent, seen_before, then_do, Act, ◌>>◌, gives}

pub nothing_before : {W A : Type 0} → (x : Out W A) → seen_before [] x ≡ x
nothing_before (Next o l w a) = refl
nothing_before (Over o e) = refl
nothing_before (Spent o) = refl

before_before : {W A : Type 0} → (o o' : List PlainObservation) (x : Out W A) → seen_before (o ++ o') x ≡ seen_before o (seen_before o' x)
before_before o o' (Next o'' l w a) = ap (λ z. Next z l w a) (append_assoc o o' o'')
before_before o o' (Over o'' e) = ap (λ z. Over z e) (append_assoc o o' o'')
before_before o o' (Spent o'') = ap Spent (append_assoc o o' o'')

before_then : {W A B : Type 0} → (o : List PlainObservation) (x : Out W A) (go : A → W → ℕ → Out W B) → then_do (seen_before o x) go ≡ seen_before o (then_do x go)
before_then o (Next o' l w a) go = before_before o o' (go a w l)
before_then o (Over o' e) go = refl
before_then o (Spent o') go = refl

pub then_then : {W A B C : Type 0} → (x : Act W A) (f : A → Act W B) (g : B → Act W C) (w : W) (n : ℕ) → ((x >> f) >> g) w n ≡ (x >> λ a. f a >> g) w n
unfolding ◌>>◌
then_then {W} {A} x f g w n = at (x w n)
  where
    at : (u : Out W A) → then_do (then_do u f) g ≡ then_do u (λ a w' l. then_do (f a w' l) g)
    at (Next o l w' a) = before_then o (f a w' l) g
    at (Over o e) = refl
    at (Spent o) = refl

pub then_same : {W A B : Type 0} → (x : Act W A) (f g : A → Act W B) (w : W) (n : ℕ) → ((a : A) (w' : W) (l : ℕ) → f a w' l ≡ g a w' l) → (x >> f) w n ≡ (x >> g) w n
unfolding ◌>>◌
then_same {W} {A} x f g w n h = at (x w n)
  where
    at : (u : Out W A) → then_do u f ≡ then_do u g
    at (Next o l w' a) = ap (seen_before o) (h a w' l)
    at (Over o e) = refl
    at (Spent o) = refl

-- one after the other, and what comes after both
pub after_both : {W A B C D : Type 0} → (x : Act W A) (f : A → Act W B) (g : B → Act W D) (f' : A → Act W C) (g' : C → Act W D) (w : W) (n : ℕ) → ((a : A) (w' : W) (l : ℕ) → (f a >> g) w' l ≡ (f' a >> g') w' l) →
    ((x >> f) >> g) w n ≡ ((x >> f') >> g') w n
after_both x f g f' g' w n h = then_then x f g w n ∙ then_same x (λ a. f a >> g) (λ a. f' a >> g') w n h ∙ sym (then_then x f' g' w n)

-- what is given goes on at once
pub gives_then : {W A B : Type 0} → (a : A) (f : A → Act W B) (w : W) (n : ℕ) → (gives a >> f) w n ≡ f a w n
unfolding ◌>>◌ gives
gives_then a f w n = nothing_before (f a w n)

pub then_first : {W A B : Type 0} → (x y : Act W A) (f : A → Act W B) (w : W) (n : ℕ) → x w n ≡ y w n → (x >> f) w n ≡ (y >> f) w n
unfolding ◌>>◌
then_first x y f w n h = ap (λ u. then_do u f) h

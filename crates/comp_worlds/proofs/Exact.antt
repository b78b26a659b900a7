-- Two processes that do the same in as many steps.
use Rattle.std.proofs.Common.{◌≡◌, ℕ, zero, suc, ◌+◌, ◌≤◌, ◌<◌, List, [], ◌++◌, Bool, true, false, refl, sym, ◌∙◌, ap, subst, arith, append-nil}
use Rattle.host_port.specs.Calls.{PlainObservation}
use Rattle.comp_worlds.specs.Acts.{Out, Next, Over, Spent, seen_before, then_do, Act, ◌>>◌, gives, traps, takes_step, with_more}
use Rattle.comp_worlds.specs.Groups.{Nesting, has_room}
use Rattle.comp_worlds.specs.Calls.{too_deep, if_room, finds_room, begins_call}

-- they come out alike, and of n steps no more are left
abbrev pub Equals : {W A V B : Type 0} → ℕ → (W → A → V → B → Type 0) → Out W A → Out V B → Type 0
Equals n P (Next o l w a) (Next o' l' v b) = (o ≡ o') × (l ≡ l') × (l ≤ n) × P w a v b
Equals n P (Over o e) (Over o' e') = (o ≡ o') × (e ≡ e')
Equals n P (Spent o) (Spent o') = o ≡ o'
Equals n P (Next o l w a) (Over o' e) = ⊥
Equals n P (Next o l w a) (Spent o') = ⊥
Equals n P (Over o e) (Next o' l' v b) = ⊥
Equals n P (Over o e) (Spent o') = ⊥
Equals n P (Spent o) (Next o' l' v b) = ⊥
Equals n P (Spent o) (Over o' e) = ⊥

-- in less than b steps
abbrev pub Exact : {W A V B : Type 0} → ℕ → (W → A → V → B → Type 0) → (ℕ → Out W A) → (ℕ → Out V B) → Type 0
Exact b P x y = (n : ℕ) → n < b → Equals n P (x n) (y n)

module _ {W A V B : Type 0} where
  pub equals_before : (n m : ℕ) (P : W → A → V → B → Type 0) (o o' : List PlainObservation) (x : Out W A) (y : Out V B) → o ≡ o' → m ≤ n → Equals m P x y → Equals n P (seen_before o x) (seen_before o' y)
  equals_before n m P o o' (Next o1 l w a) (Next o2 l' v b) e le h = (ap (λ z. z ++ o1) e ∙ ap (λ z. o' ++ z) h.0, h.1, let a : l ≤ m = h.2 in omega arith, h.3)
  equals_before n m P o o' (Over o1 e1) (Over o2 e2) e le h = (ap (λ z. z ++ o1) e ∙ ap (λ z. o' ++ z) h.0, h.1)
  equals_before n m P o o' (Spent o1) (Spent o2) e le h = ap (λ z. z ++ o1) e ∙ ap (λ z. o' ++ z) h
  equals_before n m P o o' (Next o1 l w a) (Over o2 e2) e le h = absurd h
  equals_before n m P o o' (Next o1 l w a) (Spent o2) e le h = absurd h
  equals_before n m P o o' (Over o1 e1) (Next o2 l' v b) e le h = absurd h
  equals_before n m P o o' (Over o1 e1) (Spent o2) e le h = absurd h
  equals_before n m P o o' (Spent o1) (Next o2 l' v b) e le h = absurd h
  equals_before n m P o o' (Spent o1) (Over o2 e2) e le h = absurd h

  pub exact_less : (b b' : ℕ) (P : W → A → V → B → Type 0) (x : ℕ → Out W A) (y : ℕ → Out V B) → b' ≤ b → Exact b P x y → Exact b' P x y
  exact_less b b' P x y le h n lt = h n (omega arith)

pub exact_then : {W A V B A' B' : Type 0} → (b : ℕ) (P : W → A → V → B → Type 0) (Q : W → A' → V → B' → Type 0) (x : Act W A) (go : A → Act W A') (y : Act V B) (go' : B → Act V B') (w : W) (v : V) → Exact b P (x w) (y v) → ((w' : W) (a : A) (v' : V) (b' : B) → P w' a v' b' → Exact b Q (go a w') (go' b' v')) → Exact b Q ((x >> go) w) ((y >> go') v)
unfolding ◌>>◌
exact_then {W} {A} {V} {B} b P Q x go y go' w v h each n lt = at (x w n) (y v n) (h n lt)
  where
    at : (u : Out W A) (t : Out V B) → Equals n P u t → Equals n Q (then_do u go) (then_do t go')
    at (Next o l w' a) (Next o' l' v' b') k =
        let le : l ≤ n = k.2 in
        equals_before n l Q o o' (go a w' l) (go' b' v' l') k.0 le (subst (λ i. Equals l Q (go a w' l) (go' b' v' i)) k.1 (each w' a v' b' k.3 l (omega arith)))
    at (Over o e) (Over o' e') k = k
    at (Spent o) (Spent o') k = k
    at (Next o l w' a) (Over o' e) k = absurd k
    at (Next o l w' a) (Spent o') k = absurd k
    at (Over o e) (Next o' l' v' b') k = absurd k
    at (Over o e) (Spent o') k = absurd k
    at (Spent o) (Next o' l' v' b') k = absurd k
    at (Spent o) (Over o' e) k = absurd k

pub exact_gives : {W A V B : Type 0} → (b : ℕ) (P : W → A → V → B → Type 0) (a : A) (b' : B) (w : W) (v : V) → P w a v b' → Exact b P (gives a w) (gives b' v)
unfolding gives
exact_gives b P a b' w v h n lt = (refl, refl, omega arith, h)

-- a step, and then
pub exact_step : {W V A B : Type 0} → (b : ℕ) (Q : W → A → V → B → Type 0) (go : Unit {0} → Act W A) (go' : Unit {0} → Act V B) (w : W) (v : V) → Exact b Q (go tt w) (go' tt v) → Exact (suc b) Q ((takes_step >> go) w) ((takes_step >> go') v)
unfolding ◌>>◌ takes_step
exact_step b Q go go' w v h zero lt = refl
exact_step b Q go go' w v h (suc n) lt = equals_before (suc n) n Q [] [] (go tt w n) (go' tt v n) refl (omega arith) (h n (omega arith))

-- the same, where more steps may be left
abbrev pub Loose : {W A V B : Type 0} → ℕ → ℕ → (W → A → V → B → Type 0) → (ℕ → Out W A) → (ℕ → Out V B) → Type 0
Loose b more P x y = (n : ℕ) → n < b → Equals (more + n) P (x n) (y n)

pub loose_then : {W A V B A' B' : Type 0} → (b s : ℕ) (P : W → A → V → B → Type 0) (Q : W → A' → V → B' → Type 0) (x : Act W A) (go : A → Act W A') (y : Act V B) (go' : B → Act V B') (w : W) (v : V) → Exact b P (x w) (y v) → ((w' : W) (a : A) (v' : V) (b' : B) → P w' a v' b' → Loose b s Q (go a w') (go' b' v')) → Loose b s Q ((x >> go) w) ((y >> go') v)
unfolding ◌>>◌
loose_then {W} {A} {V} {B} b s P Q x go y go' w v h each n lt = at (x w n) (y v n) (h n lt)
  where
    at : (u : Out W A) (t : Out V B) → Equals n P u t → Equals (s + n) Q (then_do u go) (then_do t go')
    at (Next o l w' a) (Next o' l' v' b') k =
        let le : l ≤ n = k.2 in
        equals_before (s + n) (s + l) Q o o' (go a w' l) (go' b' v' l') k.0 (omega arith) (subst (λ i. Equals (s + l) Q (go a w' l) (go' b' v' i)) k.1 (each w' a v' b' k.3 l (omega arith)))
    at (Over o e) (Over o' e') k = k
    at (Spent o) (Spent o') k = k
    at (Next o l w' a) (Over o' e) k = absurd k
    at (Next o l w' a) (Spent o') k = absurd k
    at (Over o e) (Next o' l' v' b') k = absurd k
    at (Over o e) (Spent o') k = absurd k
    at (Spent o) (Next o' l' v' b') k = absurd k
    at (Spent o) (Over o' e) k = absurd k

pub loose_step : {W V A B : Type 0} → (b s : ℕ) (Q : W → A → V → B → Type 0) (go : Unit {0} → Act W A) (go' : Unit {0} → Act V B) (w : W) (v : V) → Loose b s Q (go tt w) (go' tt v) → Loose (suc b) s Q ((takes_step >> go) w) ((takes_step >> go') v)
unfolding ◌>>◌ takes_step
loose_step b s Q go go' w v h zero lt = refl
loose_step b s Q go go' w v h (suc n) lt = equals_before (s + suc n) (s + n) Q [] [] (go tt w n) (go' tt v n) refl (omega arith) (h n (omega arith))

-- with that many steps more
pub loose_more : {W V A B : Type 0} → (b b' used : ℕ) (Q : W → A → V → B → Type 0) (x : Act W A) (y : Act V B) (w : W) (v : V) → used + b ≤ b' → Exact b' Q (x w) (y v) → Loose b used Q (with_more used x w) (with_more used y v)
unfolding with_more
loose_more b b' used Q x y w v le h n lt = h (used + n) (omega arith)

module _ {W A V B C : Type 0} (b : ℕ) (P : W → A → V → B → Type 0) where
  -- one of the two answers something else
  pub exact_gives_second : (Q : W → A → V → C → Type 0) (x : Act W A) (y : Act V B) (g : B → C) (w : W) (v : V) → ((w' : W) (a : A) (v' : V) (c : B) → P w' a v' c → Q w' a v' (g c)) → Exact b P (x w) (y v) → Exact b Q (x w) ((y >> λ c. gives (g c)) v)
  unfolding ◌>>◌ gives
  exact_gives_second Q x y g w v f h n lt = at (x w n) (y v n) (h n lt)
    where
      at : (u : Out W A) (t : Out V B) → Equals n P u t → Equals n Q u (then_do t (λ c v' l. Next [] l v' (g c)))
      at (Next o l w' a) (Next o' l' v' c) k = (k.0 ∙ sym (append-nil o'), k.1, k.2, f w' a v' c k.3)
      at (Over o e) (Over o' e') k = k
      at (Spent o) (Spent o') k = k
      at (Next o l w' a) (Over o' e) k = absurd k
      at (Next o l w' a) (Spent o') k = absurd k
      at (Over o e) (Next o' l' v' b') k = absurd k
      at (Over o e) (Spent o') k = absurd k
      at (Spent o) (Next o' l' v' b') k = absurd k
      at (Spent o) (Over o' e) k = absurd k

  pub exact_gives_first : (Q : W → C → V → B → Type 0) (x : Act W A) (y : Act V B) (g : A → C) (w : W) (v : V) → ((w' : W) (a : A) (v' : V) (c : B) → P w' a v' c → Q w' (g a) v' c) → Exact b P (x w) (y v) → Exact b Q ((x >> λ a. gives (g a)) w) (y v)
  unfolding ◌>>◌ gives
  exact_gives_first Q x y g w v f h n lt = at (x w n) (y v n) (h n lt)
    where
      at : (u : Out W A) (t : Out V B) → Equals n P u t → Equals n Q (then_do u (λ a w' l. Next [] l w' (g a))) t
      at (Next o l w' a) (Next o' l' v' c) k = (append-nil o ∙ k.0, k.1, k.2, f w' a v' c k.3)
      at (Over o e) (Over o' e') k = k
      at (Spent o) (Spent o') k = k
      at (Next o l w' a) (Over o' e) k = absurd k
      at (Next o l w' a) (Spent o') k = absurd k
      at (Over o e) (Next o' l' v' b') k = absurd k
      at (Over o e) (Spent o') k = absurd k
      at (Spent o) (Next o' l' v' b') k = absurd k
      at (Spent o) (Over o' e) k = absurd k

pub exact_traps : {W A V B : Type 0} → (b : ℕ) (P : W → A → V → B → Type 0) (w : W) (v : V) → Exact b P (traps w) (traps v)
unfolding traps
exact_traps b P w v n lt = (refl, refl)

-- a canonical call begins, and then
pub exact_call : {W V A B : Type 0} → (b : ℕ) (d : Nesting) (Q : W → A → V → B → Type 0) (go : Unit {0} → Act W A) (go' : Unit {0} → Act V B) (w : W) (v : V) → Exact b Q (go tt w) (go' tt v) → Exact (suc b) Q ((begins_call d >> go) w) ((begins_call d >> go') v)
unfolding ◌>>◌ takes_step finds_room
exact_call b d Q go go' w v h zero lt = refl
exact_call {W} {V} b d Q go go' w v h (suc n) lt = at (has_room d)
  where
    too : (m : ℕ) → Equals (suc n) Q (then_do (seen_before [] (too_deep {W = W} m)) (λ x. go x)) (then_do (seen_before [] (too_deep {W = V} m)) (λ x. go' x))
    too zero = refl
    too (suc m) = (refl, refl)

    at : (c : Bool) → Equals (suc n) Q (then_do (seen_before [] (if_room c w n)) (λ x. go x)) (then_do (seen_before [] (if_room c v n)) (λ x. go' x))
    at true = equals_before (suc n) n Q [] [] (go tt w n) (go' tt v n) refl (omega arith) (h n (omega arith))
    at false = too n

pub loose_call : {W V A B : Type 0} → (b s : ℕ) (d : Nesting) (Q : W → A → V → B → Type 0) (go : Unit {0} → Act W A) (go' : Unit {0} → Act V B) (w : W) (v : V) → Loose b s Q (go tt w) (go' tt v) → Loose (suc b) s Q ((begins_call d >> go) w) ((begins_call d >> go') v)
unfolding ◌>>◌ takes_step finds_room
loose_call b s d Q go go' w v h zero lt = refl
loose_call {W} {V} b s d Q go go' w v h (suc n) lt = at (has_room d)
  where
    too : (m : ℕ) → Equals (s + suc n) Q (then_do (seen_before [] (too_deep {W = W} m)) (λ x. go x)) (then_do (seen_before [] (too_deep {W = V} m)) (λ x. go' x))
    too zero = refl
    too (suc m) = (refl, refl)

    at : (c : Bool) → Equals (s + suc n) Q (then_do (seen_before [] (if_room c w n)) (λ x. go x)) (then_do (seen_before [] (if_room c v n)) (λ x. go' x))
    at true = equals_before (s + suc n) (s + n) Q [] [] (go tt w n) (go' tt v n) refl (omega arith) (h n (omega arith))
    at false = too n

-- Outcomes that are equal, with no more steps left than there were.
use Rattle.std.proofs.Common.{◌≡◌, ℕ, zero, suc, ◌≤◌, ◌<◌, List, [], Option, Some, None, Bool, true, false, refl, ◌∙◌, ap, arith}
use Rattle.core_store.specs.State.{State}
use Rattle.host_port.specs.Calls.{PlainObservation}
use Rattle.comp_worlds.specs.Acts.{Out, Next, Over, Spent, seen_before, then_do, Act, ◌>>◌, gives, traps, takes_step}
use Rattle.comp_worlds.specs.Groups.{Nesting, has_room, Config, World}
use Rattle.comp_worlds.specs.Locals.{Local}
use Rattle.comp_worlds.specs.Calls.{on_end, on, below_end, below, store_of, too_deep, if_room, finds_room, begins_call}
use Rattle.comp_worlds.proofs.Fair.{Left}

abbrev pub Matches : {W A : Type 0} → ℕ → Out W A → Out W A → Type 0
Matches n u v = (u ≡ v) × Left n u

-- acts that do the same in less than b steps
abbrev pub Same : {W A : Type 0} → ℕ → Act W A → Act W A → Type 0
Same {W} b x y = (w : W) (n : ℕ) → n < b → Matches n (x w n) (y w n)

pub left_less : {W A : Type 0} → (l n : ℕ) (u : Out W A) → l ≤ n → Left l u → Left n u
left_less l n (Next o i w a) le h = omega arith
left_less l n (Over o e) le h = tt
left_less l n (Spent o) le h = tt

left_seen : {W A : Type 0} → (n : ℕ) (o : List PlainObservation) (u : Out W A) → Left n u → Left n (seen_before o u)
left_seen n o (Next o' l w a) h = h
left_seen n o (Over o' e) h = tt
left_seen n o (Spent o') h = tt

pub matches_seen : {W A : Type 0} → (n : ℕ) (o : List PlainObservation) (u v : Out W A) → Matches n u v → Matches n (seen_before o u) (seen_before o v)
matches_seen n o u v h = (ap (seen_before o) h.0, left_seen n o u h.1)

pub matches_then : {W A B : Type 0} → (c m : ℕ) (x y : Out W A) (go go' : A → W → ℕ → Out W B) → Matches m x y → ((a : A) (w : W) (l : ℕ) → l ≤ m → Matches c (go a w l) (go' a w l)) → Matches c (then_do x go) (then_do y go')
matches_then {W} {A} c m x y go go' h each = let first = at x h.1 in (first.0 ∙ ap (λ u. then_do u go') h.0, first.1)
  where
    at : (u : Out W A) → Left m u → Matches c (then_do u go) (then_do u go')
    at (Next o l w a) le = matches_seen c o (go a w l) (go' a w l) (each a w l le)
    at (Over o e) le = (refl, tt)
    at (Spent o) le = (refl, tt)

pub same_less : {W A : Type 0} → (b b' : ℕ) (x y : Act W A) → b' ≤ b → Same b x y → Same b' x y
same_less b b' x y le h w n lt = h w n (omega arith)

pub same_then : {W A B : Type 0} → (b : ℕ) (x y : Act W A) (go go' : A → Act W B) → Same b x y → ((a : A) → Same b (go a) (go' a)) → Same b (x >> go) (y >> go')
unfolding ◌>>◌
same_then b x y go go' h each w n lt =
    matches_then n n (x w n) (y w n) go go' (h w n lt)
    (λ a w' l le. let k = each a w' l (omega arith) in (k.0, left_less l n (go a w' l) le k.1))

-- what leaves no more steps does as it does
pub same_fair : {W A : Type 0} → (b : ℕ) (x : Act W A) → ((w : W) (n : ℕ) → Left n (x w n)) → Same b x x
same_fair b x h w n lt = (refl, h w n)

pub same_gives : {W A : Type 0} → (b : ℕ) (a : A) → Same {W = W} b (gives a) (gives a)
unfolding gives
same_gives b a w n lt = (refl, omega arith)

pub same_traps : {W A : Type 0} → (b : ℕ) → Same {W = W} {A = A} b traps traps
unfolding traps
same_traps b w n lt = (refl, tt)

pub same_step : {W : Type 0} → (b : ℕ) → Same {W = W} b takes_step takes_step
unfolding takes_step
same_step b w zero lt = (refl, tt)
same_step b w (suc n) lt = (refl, omega arith)

pub same_on : {S A : Type 0} → (b k : ℕ) (op : Config ℕ → Option (Local ℕ A)) → Same {W = World S} b (on k op) (on k op)
unfolding on
same_on {S} {A} b k op w n lt = (refl, at (op (w.configs k)))
  where
    at : (o : Option (Local ℕ A)) → Left n (on_end w k n o)
    at None = tt
    at (Some l) = omega arith

pub same_below : {S A : Type 0} → (b : ℕ) (x : Act S A) → ((s : S) (n : ℕ) → Left n (x s n)) → Same b (below x) (below x)
unfolding below
same_below {S} {A} b x h w n lt = (refl, at (x w.below n) (h w.below n))
  where
    at : (u : Out S A) → Left n u → Left n (below_end w u)
    at (Next o l s a) le = le
    at (Over o e) le = tt
    at (Spent o) le = tt

pub same_store : {S A : Type 0} → (b k : ℕ) (go go' : State → Act (World S) A) → ((store : State) → Same b (go store) (go' store)) → Same b (store_of k >> go) (store_of k >> go')
unfolding store_of
same_store b k go go' each = same_then b (store_of k) (store_of k) go go' (λ w n lt. (refl, omega arith)) each

-- a canonical call takes a step as it begins
pub matches_call : {W A : Type 0} → (c n : ℕ) (d : Nesting) (go go' : Unit {0} → Act W A) (w : W) → ((l : ℕ) → l < n → Matches c (go tt w l) (go' tt w l)) → Matches c ((begins_call d >> go) w n) ((begins_call d >> go') w n)
unfolding ◌>>◌ takes_step finds_room
matches_call c zero d go go' w each = (refl, tt)
matches_call {W} {A} c (suc n) d go go' w each = at (has_room d)
  where
    too : (m : ℕ) → Matches {W = W} {A = A} c (then_do (seen_before [] (too_deep {W = W} m)) (λ x. go x)) (then_do (seen_before [] (too_deep {W = W} m)) (λ x. go' x))
    too zero = (refl, tt)
    too (suc m) = (refl, tt)

    at : (r : Bool) → Matches c (then_do (seen_before [] (if_room r w n)) (λ x. go x)) (then_do (seen_before [] (if_room r w n)) (λ x. go' x))
    at true = matches_seen c [] (go tt w n) (go' tt w n) (each n (omega arith))
    at false = too n

pub same_call : {W A : Type 0} → (b : ℕ) (d : Nesting) (go go' : Unit {0} → Act W A) → Same b (go tt) (go' tt) → Same b (begins_call d >> go) (begins_call d >> go')
same_call b d go go' h w n lt = matches_call n n d go go' w (λ l less. let k = h w l (omega arith) in (k.0, left_less l n (go tt w l) (omega arith) k.1))

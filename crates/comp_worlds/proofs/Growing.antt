-- With more steps, and deeper, the same is done.
use Rattle.std.proofs.Common.{◌≡◌, ℕ, zero, suc, ◌+◌, List, [], ◌∷◌, ◌++◌, refl, sym, ◌∙◌, ap, subst, arith, append_assoc, append-nil}
use Rattle.host_port.specs.Calls.{PlainObservation}
use Rattle.comp_worlds.specs.Acts.{end_item, Out, Next, Over, Spent, seen_of, IsPrefixOf, seen_before, then_do, Act, ◌>>◌, gives, traps, spent, takes_step, with_more, shows, Extends}

-- ---- beginnings of what is seen

pub prefix_refl : (o : List PlainObservation) → IsPrefixOf o o
prefix_refl o = ([], append-nil o)

pub prefix_nil : (o : List PlainObservation) → IsPrefixOf [] o
prefix_nil o = (o, refl)

pub prefix_trans : (a b c : List PlainObservation) → IsPrefixOf a b → IsPrefixOf b c → IsPrefixOf a c
prefix_trans a b c p q = (p.0 ++ q.0, sym (append_assoc a p.0 q.0) ∙ ap (λ z. z ++ q.0) p.1 ∙ q.1)

pub prefix_after : (o a b : List PlainObservation) → IsPrefixOf a b → IsPrefixOf (o ++ a) (o ++ b)
prefix_after o a b p = (p.0, append_assoc o a p.0 ∙ ap (λ z. o ++ z) p.1)

pub prefix_append : (o a : List PlainObservation) → IsPrefixOf o (o ++ a)
prefix_append o a = (a, refl)

module _ {W A : Type 0} where
  pub seen_of-before : (o : List PlainObservation) (x : Out W A) → seen_of (seen_before o x) ≡ o ++ seen_of x
  seen_of-before o (Next o' l w a) = refl
  seen_of-before o (Over o' e) = append_assoc o o' (end_item e ∷ [])
  seen_of-before o (Spent o') = refl

  pub extends_seen : (k : ℕ) (x y : Out W A) → Extends k x y → IsPrefixOf (seen_of x) (seen_of y)
  extends_seen k (Next o l w a) y h = subst (λ z. IsPrefixOf o (seen_of z)) (sym h) (prefix_refl o)
  extends_seen k (Over o e) y h = subst (λ z. IsPrefixOf (o ++ end_item e ∷ []) (seen_of z)) (sym h) (prefix_refl (o ++ end_item e ∷ []))
  extends_seen k (Spent o) y h = h

  pub extends_before : (o : List PlainObservation) (k : ℕ) (x y : Out W A) → Extends k x y → Extends k (seen_before o x) (seen_before o y)
  extends_before o k (Next o' l w a) y h = ap (seen_before o) h
  extends_before o k (Over o' e) y h = ap (seen_before o) h
  extends_before o k (Spent o') y h = subst (IsPrefixOf (o ++ o')) (sym (seen_of-before o y)) (prefix_after o _ _ h)

  module _ {B : Type 0} where
    pub seen_then : (x : Out W A) (go : A → W → ℕ → Out W B) → IsPrefixOf (seen_of x) (seen_of (then_do x go))
    seen_then (Next o l w a) go = subst (IsPrefixOf o) (sym (before o (go a w l))) (prefix_append o _)
      where
        before : (o : List PlainObservation) (x : Out W B) → seen_of (seen_before o x) ≡ o ++ seen_of x
        before o (Next o' l w a) = refl
        before o (Over o' e) = append_assoc o o' (end_item e ∷ [])
        before o (Spent o') = refl
    seen_then (Over o e) go = prefix_refl _
    seen_then (Spent o) go = prefix_refl o

-- ---- acts

-- with more steps the second does what the first does
pub record Longer {W A : Type 0} (x y : Act W A) : Type 0 where
  pub each : (w : W) (n k : ℕ) → Extends k (x w n) (y w (k + n))

-- an act does the same with more steps
abbrev pub Same : {W A : Type 0} → Act W A → Type 0
Same x = Longer x x

module _ {W A : Type 0} where
  pub then_longer : {B : Type 0} → (x y : Act W A) (go go' : A → Act W B) → Longer x y → ((a : A) → Longer (go a) (go' a)) → Longer (x >> go) (y >> go')
  unfolding ◌>>◌
  then_longer x y go go' first each = record { each = λ w n k. at k (x w n) (y w (k + n)) (first.each w n k) }
    where
      at : (k : ℕ) (u v : Out W A) → Extends k u v → Extends k (then_do u go) (then_do v go')
      at k (Next o l w' a) v e =
          subst (λ z. Extends k (seen_before o (go a w' l)) (then_do z go')) (sym e)
          (extends_before o k (go a w' l) (go' a w' (k + l)) ((each a).each w' l k))
      at k (Over o e') v e = ap (λ z. then_do z go') e
      at k (Spent o) v e = prefix_trans o _ _ e (seen_then v go')

  pub spent_longer : (y : Act W A) → Longer spent y
  unfolding spent
  spent_longer y = record { each = λ w n k. prefix_nil _ }

  pub more_longer : (used : ℕ) (x y : Act W A) → Longer x y → Longer (with_more used x) (with_more used y)
  unfolding with_more
  more_longer used x y h = record { each = λ w n k. subst (λ i. Extends k (x w (used + n)) (y w i)) (omega arith) (h.each w (used + n) k) }

pub step_longer : {W : Type 0} → Same (takes_step {W = W})
unfolding takes_step
step_longer {W} = record { each = at }
  where
    at : (w : W) (n k : ℕ) → Extends k (takes_step w n) (takes_step w (k + n))
    at w zero k = prefix_nil _
    at w (suc n) k = let e : k + suc n ≡ suc (k + n) = omega arith in ap (takes_step w) e

pub shows_longer : {W : Type 0} → (o : List PlainObservation) → Same (shows {W = W} o)
unfolding shows
shows_longer o = record { each = λ w n k. refl }

pub gives_longer : {W A : Type 0} → (a : A) → Same (gives {W = W} a)
unfolding gives
gives_longer a = record { each = λ w n k. refl }

pub traps_longer : (W A : Type 0) → Same (traps {W = W} {A = A})
unfolding traps
traps_longer W A = record { each = λ w n k. refl }

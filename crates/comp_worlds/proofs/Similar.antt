-- Two processes that show the same, whatever steps each takes.
use Rattle.std.proofs.Common.{◌≡◌, ℕ, zero, suc, ◌+◌, ◌≤◌, List, [], ◌∷◌, ◌++◌, refl, sym, ap, subst, subst₂, arith}
use Rattle.host_port.specs.Calls.{PlainObservation}
use Rattle.comp_worlds.specs.Acts.{End, end_item, Out, Next, Over, Spent, seen_of, IsPrefixOf, seen_before, then_do, Act, ◌>>◌, gives, traps, spent, takes_step, with_more, Extends}
use Rattle.comp_worlds.specs.Groups.{Endless}
use Rattle.comp_worlds.specs.Calls.{finds_room, begins_call}
use Rattle.comp_worlds.proofs.Growing.{prefix_refl, prefix_nil, prefix_trans, prefix_after, seen_of-before, extends_seen, extends_before, seen_then}

-- what the first has shown, the second has shown too, and where the first is done, the second is done alike
abbrev pub Matches : {W A V B : Type 0} → (W → A → V → B → Type 0) → Out W A → Out V B → Type 0
Matches P (Next o l w a) (Next o' l' v b) = (o ≡ o') × P w a v b
Matches P (Over o e) (Over o' e') = (o ≡ o') × (e ≡ e')
Matches P (Spent o) y = IsPrefixOf o (seen_of y)
Matches P (Next o l w a) (Over o' e) = ⊥
Matches P (Next o l w a) (Spent o') = ⊥
Matches P (Over o e) (Next o' l w a) = ⊥
Matches P (Over o e) (Spent o') = ⊥

abbrev pub Flip : {W A V B : Type 0} → (W → A → V → B → Type 0) → V → B → W → A → Type 0
Flip P v b w a = P w a v b

-- a process grows with its steps, from depth D on
abbrev pub Grows : {W A : Type 0} → ℕ → (ℕ → ℕ → Out W A) → Type 0
Grows D x = (D' n k : ℕ) → D ≤ D' → Extends k (x D n) (x D' (k + n))

-- the second shows what the first shows
abbrev pub Follows : {W A V B : Type 0} → (W → A → V → B → Type 0) → (ℕ → Out W A) → (ℕ → Out V B) → Type 0
Follows P x y = (n : ℕ) → (m : ℕ) × Matches P (x n) (y m)

-- two processes, by depth and steps, show the same at depth D, and P relates their ends
pub record Similar {W A V B : Type 0} (D : ℕ) (P : W → A → V → B → Type 0) (x : ℕ → ℕ → Out W A) (y : ℕ → ℕ → Out V B) : Type 0 where
  pub first : Follows P (x D) (y D)
  pub second : Follows (Flip P) (y D) (x D)
  pub grows : Grows D x
  pub grows' : Grows D y

module _ {W A V B : Type 0} (P : W → A → V → B → Type 0) where
  pub matches_seen : (x : Out W A) (y : Out V B) → Matches P x y → IsPrefixOf (seen_of x) (seen_of y)
  matches_seen (Next o l w a) (Next o' l' v b) h = subst (IsPrefixOf o) h.0 (prefix_refl o)
  matches_seen (Over o e) (Over o' e') h = subst₂ (λ u z. IsPrefixOf (o ++ end_item e ∷ []) (u ++ end_item z ∷ [])) h.0 h.1 (prefix_refl _)
  matches_seen (Spent o) y h = h
  matches_seen (Next o l w a) (Over o' e) h = absurd h
  matches_seen (Next o l w a) (Spent o') h = absurd h
  matches_seen (Over o e) (Next o' l w a) h = absurd h
  matches_seen (Over o e) (Spent o') h = absurd h

  pub matches_before : (o : List PlainObservation) (x : Out W A) (y : Out V B) → Matches P x y → Matches P (seen_before o x) (seen_before o y)
  matches_before o (Next o' l w a) (Next o'' l' v b) h = (ap (λ z. o ++ z) h.0, h.1)
  matches_before o (Over o' e) (Over o'' e') h = (ap (λ z. o ++ z) h.0, h.1)
  matches_before o (Spent o') y h = subst (IsPrefixOf (o ++ o')) (sym (seen_of-before o y)) (prefix_after o _ _ h)
  matches_before o (Next o' l w a) (Over o'' e) h = absurd h
  matches_before o (Next o' l w a) (Spent o'') h = absurd h
  matches_before o (Over o' e) (Next o'' l w a) h = absurd h
  matches_before o (Over o' e) (Spent o'') h = absurd h

  pub matches_extends : (k : ℕ) (x : Out W A) (y z : Out V B) → Matches P x y → Extends k y z → Matches P x z
  matches_extends k (Next o l w a) (Next o' l' v b) z h e = subst (Matches P (Next o l w a)) (sym e) h
  matches_extends k (Over o e') (Over o' e'') z h e = subst (Matches P (Over o e')) (sym e) h
  matches_extends k (Spent o) y z h e = prefix_trans o (seen_of y) (seen_of z) h (extends_seen k y z e)
  matches_extends k (Next o l w a) (Over o' e') z h e = absurd h
  matches_extends k (Next o l w a) (Spent o') z h e = absurd h
  matches_extends k (Over o e') (Next o' l w a) z h e = absurd h
  matches_extends k (Over o e') (Spent o') z h e = absurd h

module _ {W A V B A' B' : Type 0} (D : ℕ) (P : W → A → V → B → Type 0) (Q : W → A' → V → B' → Type 0) where
  follows_then : (x : ℕ → Out W A) (go : A → W → ℕ → Out W A') (y : ℕ → ℕ → Out V B) (go' : ℕ → B → V → ℕ → Out V B') → Follows P x (y D) → Grows D y → ((w : W) (a : A) (v : V) (b : B) → P w a v b → Follows Q (go a w) (go' D b v) × Grows D (λ d. go' d b v)) → Follows Q (λ n. then_do (x n) go) (λ n. then_do (y D n) (go' D))
  follows_then x go y go' f grows each n = at (x n) (f n).0 (f n).1
    where
      next : (o : List PlainObservation) (l : ℕ) (w : W) (a : A) (m : ℕ) (o' : List PlainObservation) (l' : ℕ) (v : V) (b : B) → y D m ≡ Next o' l' v b → o ≡ o' → P w a v b → (m' : ℕ) × Matches Q (seen_before o (go a w l)) (then_do (y D m') (go' D))
      next o l w a m o' l' v b is e h =
          let k = each w a v b h in
          let r = k.0 l in
          let more : y D (r.0 + m) ≡ Next o' (r.0 + l') v b = subst (λ z. Extends r.0 z (y D (r.0 + m))) is (grows D m r.0 (omega arith)) in
          let later : Extends l' (go' D b v r.0) (go' D b v (r.0 + l')) = subst (λ i. Extends l' (go' D b v r.0) (go' D b v i)) (omega arith) (k.1 D r.0 l' (omega arith)) in (
            r.0 + m,
            subst₂ (λ z u. Matches Q (seen_before o (go a w l)) (then_do z (go' D))) (sym more) e
                (subst (λ z. Matches Q (seen_before o (go a w l)) (seen_before z (go' D b v (r.0 + l')))) e
                (matches_before Q o _ _ (matches_extends Q l' (go a w l) (go' D b v r.0) (go' D b v (r.0 + l')) r.1 later))),
          )

      done : (o : List PlainObservation) (l : ℕ) (w : W) (a : A) (m : ℕ) (u : Out V B) → y D m ≡ u → Matches P (Next o l w a) u → (m' : ℕ) × Matches Q (seen_before o (go a w l)) (then_do (y D m') (go' D))
      done o l w a m (Next o' l' v b) is h = next o l w a m o' l' v b is h.0 h.1
      done o l w a m (Over o' e) is h = absurd h
      done o l w a m (Spent o') is h = absurd h

      ends : (o : List PlainObservation) (e : End) (m : ℕ) (u : Out V B) → y D m ≡ u → Matches P (Over o e) u → (m' : ℕ) × Matches Q (Over o e) (then_do (y D m') (go' D))
      ends o e m (Over o' e') is h = (m, subst (λ z. Matches Q (Over o e) (then_do z (go' D))) (sym is) h)
      ends o e m (Next o' l' v b) is h = absurd h
      ends o e m (Spent o') is h = absurd h

      at : (u : Out W A) (m : ℕ) → Matches P u (y D m) → (m' : ℕ) × Matches Q (then_do u go) (then_do (y D m') (go' D))
      at (Next o l w a) m h = done o l w a m (y D m) refl h
      at (Over o e) m h = ends o e m (y D m) refl h
      at (Spent o) m h = (m, prefix_trans o (seen_of (y D m)) _ h (seen_then (y D m) (go' D)))

  grows_then : (x : ℕ → ℕ → Out W A) (go : ℕ → A → W → ℕ → Out W A') (y : ℕ → Out V B) → Follows P (x D) y → Grows D x → ((w : W) (a : A) (v : V) (b : B) → P w a v b → Grows D (λ d. go d a w)) → Grows D (λ d n. then_do (x d n) (go d))
  grows_then x go y f grows each D' n k le = at (x D n) (y (f n).0) (f n).1 (grows D' n k le)
    where
      at : (u : Out W A) (t : Out V B) → Matches P u t → Extends k u (x D' (k + n)) → Extends k (then_do u (go D)) (then_do (x D' (k + n)) (go D'))
      at (Next o l w a) (Next o' l' v b) h e =
          subst (λ z. Extends k (seen_before o (go D a w l)) (then_do z (go D'))) (sym e)
          (extends_before o k (go D a w l) (go D' a w (k + l)) (each w a v b h.1 D' l k le))
      at (Over o e') t h e = ap (λ z. then_do z (go D')) e
      at (Spent o) t h e = prefix_trans o _ _ e (seen_then (x D' (k + n)) (go D'))
      at (Next o l w a) (Over o' e') h e = absurd h
      at (Next o l w a) (Spent o') h e = absurd h

-- one after the other
pub similar_then : {W A V B A' B' : Type 0} → (D : ℕ) (P : W → A → V → B → Type 0) (Q : W → A' → V → B' → Type 0) (x : ℕ → Act W A) (go : ℕ → A → Act W A') (y : ℕ → Act V B) (go' : ℕ → B → Act V B') (w : W) (v : V) → Similar D P (λ d. x d w) (λ d. y d v) → ((w' : W) (a : A) (v' : V) (b : B) → P w' a v' b → Similar D Q (λ d. go d a w') (λ d. go' d b v')) → Similar D Q (λ d. (x d >> go d) w) (λ d. (y d >> go' d) v)
unfolding ◌>>◌
similar_then D P Q x go y go' w v h each = record {
  first = follows_then D P Q (x D w) (go D) (λ d. y d v) go' h.first h.grows' (λ w' a v' b k. let s = each w' a v' b k in (s.first, s.grows'));
  second = follows_then D (Flip P) (Flip Q) (y D v) (go' D) (λ d. x d w) go h.second h.grows (λ v' b w' a k. let s = each w' a v' b k in (s.second, s.grows));
  grows = grows_then D P Q (λ d. x d w) go (y D v) h.first h.grows (λ w' a v' b k. (each w' a v' b k).grows);
  grows' = grows_then D (Flip P) (Flip Q) (λ d. y d v) go' (x D w) h.second h.grows' (λ v' b w' a k. (each w' a v' b k).grows');
}

module _ {W A V B : Type 0} where
  matches_weaken : (P Q : W → A → V → B → Type 0) (x : Out W A) (y : Out V B) → ((w : W) (a : A) (v : V) (b : B) → P w a v b → Q w a v b) → Matches P x y → Matches Q x y
  matches_weaken P Q (Next o l w a) (Next o' l' v b) f h = (h.0, f w a v b h.1)
  matches_weaken P Q (Over o e) (Over o' e') f h = h
  matches_weaken P Q (Spent o) y f h = h
  matches_weaken P Q (Next o l w a) (Over o' e) f h = absurd h
  matches_weaken P Q (Next o l w a) (Spent o') f h = absurd h
  matches_weaken P Q (Over o e) (Next o' l w a) f h = absurd h
  matches_weaken P Q (Over o e) (Spent o') f h = absurd h

pub similar_weaken : {W A V B : Type 0} → (D : ℕ) (P Q : W → A → V → B → Type 0) (x : ℕ → ℕ → Out W A) (y : ℕ → ℕ → Out V B) → Similar D P x y → ((w : W) (a : A) (v : V) (b : B) → P w a v b → Q w a v b) → Similar D Q x y
similar_weaken D P Q x y h f = record {
  first = λ n. let r = h.first n in (r.0, matches_weaken P Q (x D n) (y D r.0) f r.1);
  second = λ n. let r = h.second n in (r.0, matches_weaken (Flip P) (Flip Q) (y D n) (x D r.0) (λ v b w a. f w a v b) r.1);
  grows = h.grows;
  grows' = h.grows';
}

module _ {W A V B : Type 0} (D : ℕ) (P : W → A → V → B → Type 0) where
  pub similar_gives : (a : A) (b : B) (w : W) (v : V) → P w a v b → Similar D P (λ d. gives a w) (λ d. gives b v)
  unfolding gives
  similar_gives a b w v h = record {
    first = λ n. (n, (refl, h));
    second = λ n. (n, (refl, h));
    grows = λ D' n k le. refl;
    grows' = λ D' n k le. refl;
  }

  -- at depth 0 a process has shown nothing yet
  pub similar_spent : (x : ℕ → ℕ → Out W A) (y : ℕ → ℕ → Out V B) (w : W) (v : V) → x 0 ≡ spent w → y 0 ≡ spent v → Similar 0 P x y
  unfolding spent
  similar_spent x y w v e e' = record {
    first = λ n. (n, subst (λ z. Matches P (z n) (y 0 n)) (sym e) (prefix_nil _));
    second = λ n. (n, subst (λ z. Matches (Flip P) (z n) (x 0 n)) (sym e') (prefix_nil _));
    grows = λ D' n k le. subst (λ z. Extends k (z n) (x D' (k + n))) (sym e) (prefix_nil _);
    grows' = λ D' n k le. subst (λ z. Extends k (z n) (y D' (k + n))) (sym e') (prefix_nil _);
  }

  -- one level deeper
  pub similar_deeper : (x : ℕ → ℕ → Out W A) (y : ℕ → ℕ → Out V B) → Similar D P (λ d. x (suc d)) (λ d. y (suc d)) → Similar (suc D) P x y
  similar_deeper x y h = record { first = h.first; second = h.second; grows = at x h.grows; grows' = at y h.grows' }
    where
      at : {U C : Type 0} → (z : ℕ → ℕ → Out U C) → Grows D (λ d. z (suc d)) → Grows (suc D) z
      at z g zero n k le = absurd (omega arith)
      at z g (suc D') n k le = g D' n k (omega arith)

  -- with that many steps more
  pub similar_more : (used : ℕ) (x : ℕ → Act W A) (y : ℕ → Act V B) (w : W) (v : V) → Similar D P (λ d. x d w) (λ d. y d v) → Similar D P (λ d. with_more used (x d) w) (λ d. with_more used (y d) v)
  unfolding with_more
  similar_more used x y w v h = record {
    first = λ n. let r = h.first (used + n) in (r.0, matches_extends P used (x D w (used + n)) (y D v r.0) (y D v (used + r.0)) r.1 (h.grows' D r.0 used (omega arith)));
    second = λ n. let r = h.second (used + n) in (r.0, matches_extends (Flip P) used (y D v (used + n)) (x D w r.0) (x D w (used + r.0)) r.1 (h.grows D r.0 used (omega arith)));
    grows = λ D' n k le. subst (λ i. Extends k (x D w (used + n)) (x D' w i)) (omega arith) (h.grows D' (used + n) k le);
    grows' = λ D' n k le. subst (λ i. Extends k (y D v (used + n)) (y D' v i)) (omega arith) (h.grows' D' (used + n) k le);
  }

pub similar_step : {W V : Type 0} → (D : ℕ) (P : W → Unit {0} → V → Unit {0} → Type 0) (w : W) (v : V) → P w tt v tt → Similar D P (λ d. takes_step w) (λ d. takes_step v)
unfolding takes_step
similar_step {W} {V} D P w v h = record { first = first; second = second; grows = λ D' n k le. grows n k w; grows' = λ D' n k le. grows n k v }
  where
    first : Follows P (takes_step w) (takes_step v)
    first zero = (0, prefix_nil [])
    first (suc n) = (1, (refl, h))

    second : Follows (Flip P) (takes_step v) (takes_step w)
    second zero = (0, prefix_nil [])
    second (suc n) = (1, (refl, h))

    grows : {U : Type 0} → (n k : ℕ) (u : U) → Extends k (takes_step u n) (takes_step u (k + n))
    grows zero k u = prefix_nil _
    grows (suc n) k u = let e : k + suc n ≡ suc (k + n) = omega arith in ap (takes_step u) e

abbrev Waits : {W V : Type 0} → W → V → W → Unit {0} → V → Unit {0} → Type 0
Waits w v w' a v' b = (w' ≡ w) × (v' ≡ v)

-- a step, and then
pub then_step : {W V A B : Type 0} → (D : ℕ) (Q : W → A → V → B → Type 0) (go : ℕ → Unit {0} → Act W A) (go' : ℕ → Unit {0} → Act V B) (w : W) (v : V) → Similar D Q (λ d. go d tt w) (λ d. go' d tt v) → Similar D Q (λ d. (takes_step >> go d) w) (λ d. (takes_step >> go' d) v)
then_step D Q go go' w v h =
    similar_then D (Waits w v) Q (λ d. takes_step) go (λ d. takes_step) go' w v (similar_step D (Waits w v) w v (refl, refl))
    (λ w' a v' b e. subst₂ (λ x y. Similar D Q (λ d. go d tt x) (λ d. go' d tt y)) (sym e.0) (sym e.1) h)

-- a canonical call begins where calls have no limit, and then
pub then_call : {W V A B : Type 0} → (D : ℕ) (Q : W → A → V → B → Type 0) (go : ℕ → Unit {0} → Act W A) (go' : ℕ → Unit {0} → Act V B) (w : W) (v : V) → Similar D Q (λ d. go d tt w) (λ d. go' d tt v) → Similar D Q (λ d. (begins_call Endless >> go d) w) (λ d. (begins_call Endless >> go' d) v)
unfolding finds_room
then_call D Q go go' w v h =
    similar_then D (Waits w v) Q (λ d. begins_call Endless) go (λ d. begins_call Endless) go' w v
    (then_step D (Waits w v) (λ d x. finds_room Endless) (λ d x. finds_room Endless) w v
    (record { first = λ n. (n, (refl, (refl, refl))); second = λ n. (n, (refl, (refl, refl))); grows = λ D' n k le. refl; grows' = λ D' n k le. refl }))
    (λ w' a v' b e. subst₂ (λ x y. Similar D Q (λ d. go d tt x) (λ d. go' d tt y)) (sym e.0) (sym e.1) h)

-- both trap
pub similar_traps : {W A V B : Type 0} → (D : ℕ) (Q : W → A → V → B → Type 0) (w : W) (v : V) → Similar D Q (λ d. traps w) (λ d. traps v)
unfolding traps
similar_traps D Q w v = record { first = λ n. (n, (refl, refl)); second = λ n. (n, (refl, refl)); grows = λ D' n k le. refl; grows' = λ D' n k le. refl }

-- nothing comes of it
abbrev pub Never : {W A V B : Type 0} → W → A → V → B → Type 0
Never w a v b = ⊥

pub similar_stop : {W V A B A' B' : Type 0} → (D : ℕ) (Q : W → A' → V → B' → Type 0) (x : ℕ → Act W A) (go : ℕ → A → Act W A') (y : ℕ → Act V B) (go' : ℕ → B → Act V B') (w : W) (v : V) → Similar D Never (λ d. x d w) (λ d. y d v) → Similar D Q (λ d. (x d >> go d) w) (λ d. (y d >> go' d) v)
similar_stop D Q x go y go' w v h = similar_then D Never Q x go y go' w v h (λ w' a v' b n. absurd n)

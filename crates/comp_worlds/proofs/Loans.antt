-- What lifting takes and lends, and what ends with the loans of a call.
use Rattle.std.proofs.Common.{◌≡◌, ◌≢◌, ℕ, zero, suc, ◌+◌, ◌-◌, ◌==◌, ◌⊎◌, inl, inr, List, [], ◌∷◌, Some, Bool, true, false, set, cond, refl, sym, ◌∙◌, ap, subst, subst₂, arith}
use Rattle.std.specs.Option.{option_map}
use Rattle.std.proofs.lemmas.Bool.{eqb-true, eq-eqb}
use Rattle.handle_space.specs.HandleMap.{Entry, HandleMap, Answered, Held, entry_at, lent_less, lend, unlend, take_own}
use Rattle.comp_worlds.specs.Passing.{Handle, Own, Borrow, Named, OwnAt, BorrowAt, Lifted, and_loan, and_lifted, lift_handles, unlend_all}
use Rattle.comp_worlds.specs.Related.{Gives, Lends, EachHandle, OnceEach, LentApart}
use Rattle.comp_worlds.proofs.Maps.{and_then_is, map_is, some_is, one_if, hit_yes, hit_no, one_true, one_false, at, made_of, relent, Has, Holds, Free, Sound, set_at, set_keeps, set_there, all_less, Taken, Lent, take_own_from, lend_from, EachOnce}

-- no handle of `host` is borrowed where it may be given away
abbrev pub Clear : {R : Type 0} → (ℕ → Bool) → HandleMap R → Type 0
Clear {R} host m = (i j r : ℕ) (x : R) → host r ≡ true → Has false m i r x → Free m j r x → ⊥

-- how often an index was lent
abbrev pub count : ℕ → List ℕ → ℕ
count j [] = 0
count j (i ∷ is) = one_if (i == j) + count j is

count_loan : (o : Bool) (i j : ℕ) (is : List ℕ) → count j (and_loan o i is) ≡ cond o (one_if (i == j)) 0 + count j is
count_loan true i j is = refl
count_loan false i j is = omega arith

no_hits : (o : Bool) (i j : ℕ) → i ≢ j → cond o (one_if (i == j)) 0 ≡ 0
no_hits true i j d = hit_no i j d
no_hits false i j d = refl

same_hits : (o : Bool) (i j : ℕ) → i ≡ j → one_if o ≡ cond o (one_if (i == j)) 0
same_hits true i j e = one_true ∙ sym (hit_yes i j e)
same_hits false i j e = one_false

-- an entry was there before, lent another number of times
pub record Before {R : Type 0} (m : HandleMap R) (j : ℕ) (e : Entry R) (lent : ℕ → ℕ) : Type 0 where
  pub entry : Entry R
  pub there : entry_at m j ≡ Some entry
  pub is : e ≡ relent entry (lent entry.lent)

no_true : {A : Type 0} → (b : Bool) (n : ℕ) → true ≡ b → 0 ≡ n + one_if b → A
no_true true n e z = let o = one_true in absurd (omega arith)
no_true false n e z = absurd (cc)

-- one loan
module _ {R : Type 0} (m : HandleMap R) (i r : ℕ) (a : Answered R (Held R)) (k : Lent m i r a) where
  pub lent_stays : (b : Bool) (j r' : ℕ) (x : R) → Has b a.map j r' x → Has b m j r' x
  lent_stays b j r' x h = elim (k.back j (made_of b r' x h.0) h.1) [
    | inl p ↦ (h.0, p.1)
    | inr p ↦ (
      k.came.0,
      ap (entry_at m) (sym p.0) ∙ k.came.1 ∙ (λ q. Some (made_of ((ap (λ z. z.owned) (sym p.1)) q) ((ap (λ z. z.resource) (sym p.1)) q) ((ap (λ z. z.rep) (sym p.1)) q) k.came.0)),
    )
  ]

  pub lent_frees : (j r' : ℕ) (x : R) → Free a.map j r' x → (i ≢ j) × Free m j r' x
  lent_frees j r' x h = elim (k.back j (made_of true r' x 0) h) [
    | inl p ↦ p
    | inr p ↦ no_true a.answer.owned k.came.0 (ap (λ z. z.owned) p.1) (ap (λ z. z.lent) p.1)
  ]

  pub lent_before : (j : ℕ) (e : Entry R) → entry_at a.map j ≡ Some e → Before m j e (λ n. n + cond a.answer.owned (one_if (i == j)) 0)
  lent_before j e h = elim (k.back j e h) [
    | inl p ↦ let z = no_hits a.answer.owned i j p.0 in record { entry = e; there = p.1; is = ap (relent e) (omega arith) }
    | inr p ↦ record {
      entry = made_of a.answer.owned r a.answer.rep k.came.0;
      there = ap (entry_at m) (sym p.0) ∙ k.came.1;
      is = p.1 ∙ ap (λ n. made_of a.answer.owned r a.answer.rep (k.came.0 + n)) (same_hits a.answer.owned i j p.0);
    }
  ]

-- ---- what was lifted

-- each handle was in the map, and what was given is not there any more
pub record LiftedFrom {R : Type 0} (host : ℕ → Bool) (m : HandleMap R) (l : Lifted R) : Type 0 where
  pub stays : (b : Bool) (j r : ℕ) (x : R) → Has b l.map j r x → Has b m j r x
  pub held : EachHandle (λ r x. (b : Bool) × (j : ℕ) × Has b m j r x) l.handles
  pub lent : (r : ℕ) (x : R) → Lends l.handles r x → (b : Bool) × (j : ℕ) × Has b m j r x
  pub gave : (r : ℕ) (x : R) → Gives l.handles r x → (j : ℕ) × Free m j r x
  pub gone : (j r : ℕ) (x : R) → host r ≡ true → Gives l.handles r x → Holds l.map j r x → ⊥
  pub apart : OnceEach host l.handles
  pub lent_apart : LentApart host l.handles
  -- what was lent may not be given away
  pub locked : (r : ℕ) (x : R) → host r ≡ true → Lends l.handles r x → (j : ℕ) → Free l.map j r x → ⊥

-- what the loans leave as it was
pub record Lending {R : Type 0} (m : HandleMap R) (l : Lifted R) : Type 0 where
  pub sound : Sound m → Sound l.map
  pub there : Sound m → (j : ℕ) (e : Entry R) → entry_at m j ≡ Some e → e.lent ≢ 0 → entry_at l.map j ≡ Some (relent e (e.lent + count j l.loans))
  pub lent : Sound m → (j : ℕ) → count j l.loans ≢ 0 → (e : Entry R) × (entry_at l.map j ≡ Some e)
  pub before : (j : ℕ) (e : Entry R) → entry_at l.map j ≡ Some e → Before m j e (λ n. n + count j l.loans)

module _ {R : Type 0} where
  pub each_handle_map : (P Q : ℕ → R → Type 0) (hs : List (Handle R)) → ((r : ℕ) (x : R) → P r x → Q r x) → EachHandle P hs → EachHandle Q hs
  each_handle_map P Q [] f h = tt
  each_handle_map P Q (Own r x ∷ hs) f h = (f r x h.0, each_handle_map P Q hs f h.1)
  each_handle_map P Q (Borrow r x ∷ hs) f h = (f r x h.0, each_handle_map P Q hs f h.1)

  pub free_holds : (m : HandleMap R) (i r : ℕ) (x : R) → Free m i r x → Holds m i r x
  free_holds m i r x h = (0, h)

  free_before : (m : HandleMap R) (j r : ℕ) (x : R) (e : Entry R) (n : ℕ) → entry_at m j ≡ Some e → made_of true r x 0 ≡ relent e n → e.lent ≡ 0 → Free m j r x
  free_before m j r x e n there is none = there ∙ (λ k. Some (record { resource = (sym (ap (λ z. z.resource) is)) k; rep = (sym (ap (λ z. z.rep) is)) k; owned = (sym (ap (λ z. z.owned) is)) k; lent = none k }))

  -- what may be given away after values were lifted could be given away before
  pub counted_free : (m : HandleMap R) (l : Lifted R) → Lending m l → (j r : ℕ) (x : R) → Free l.map j r x → Free m j r x
  counted_free m l h j r x f =
      let b = h.before j (made_of true r x 0) f in
      let e : 0 ≡ b.entry.lent + count j l.loans = ap (λ z. z.lent) b.is in
      free_before m j r x b.entry (b.entry.lent + count j l.loans) b.there b.is (omega arith)

  -- one handle at two places
  twice : (host : ℕ → Bool) (m : HandleMap R) → EachOnce host m → Clear host m → (b : Bool) (i j r : ℕ) (x : R) → host r ≡ true → Has b m i r x → Free m j r x → (i ≢ j) → ⊥
  twice host m once clear true i j r x hr hi hj d = d (once i j r x hr hi (free_holds m j r x hj))
  twice host m once clear false i j r x hr hi hj d = clear i j r x hr hi hj

  own_lifted : (host : ℕ → Bool) (m : HandleMap R) → EachOnce host m → Clear host m → (i r : ℕ) (y : R) (m1 : HandleMap R) (k : Taken m i r y m1) (l : Lifted R) → LiftedFrom host m1 l → LiftedFrom host m (and_lifted (Own r y) false i l)
  own_lifted host m once clear i r y m1 k l h = record {
    stays = λ b j r' x z. (back b j r' x (h.stays b j r' x z)).1;
    held = ((true, i, free_holds m i r y k.came), each_handle_map _ _ l.handles (λ r' x p. (p.0, p.1, (back p.0 p.1 r' x p.2).1)) h.held);
    lent = λ r' x g. let p = h.lent r' x g in (p.0, p.1, (back p.0 p.1 r' x p.2).1);
    gave = λ r' x g. elim g [
      | inl p ↦ (i, subst₂ (λ a b. Free m i a b) p.0 p.1 k.came)
      | inr g' ↦ let p = h.gave r' x g' in (p.0, (k.stays p.0 _ p.1).1)
    ];
    gone = λ j r' x hr g z. elim g [
      | inl p ↦ let q = back true j r' x (h.stays true j r' x z) in q.0 (once i j r' x hr (free_holds m i r' x (subst₂ (λ a b. Free m i a b) p.0 p.1 k.came)) q.1)
      | inr g' ↦ h.gone j r' x hr g' z
    ];
    apart = (λ hr g. let p = h.gave r y g in let q = k.stays p.0 _ p.1 in q.0 (once i p.0 r y hr (free_holds m i r y k.came) (free_holds m p.0 r y q.1)), h.apart);
    lent_apart = λ r' x hr n g. elim g [
      | inl p ↦ let u = h.lent r' x n in let q = back u.0 u.1 r' x u.2 in
          twice host m once clear u.0 u.1 i r' x hr q.1 (subst₂ (λ a b. Free m i a b) p.0 p.1 k.came) (λ e. q.0 (sym e))
      | inr g' ↦ h.lent_apart r' x hr n g'
    ];
    locked = h.locked;
  }
    where
      back : (b : Bool) (j r' : ℕ) (x : R) → Has b m1 j r' x → (i ≢ j) × Has b m j r' x
      back b j r' x h' = let p = k.stays j (made_of b r' x h'.0) h'.1 in (p.0, (h'.0, p.1))

  borrow_lifted : (host : ℕ → Bool) (m : HandleMap R) → EachOnce host m → Clear host m → (i r : ℕ) (a : Answered R (Held R)) (k : Lent m i r a) (l : Lifted R) → LiftedFrom host a.map l → Lending a.map l → LiftedFrom host m (and_lifted (Borrow r a.answer.rep) a.answer.owned i l)
  borrow_lifted host m once clear i r a k l h lending = record {
    stays = λ b j r' x y. lent_stays m i r a k b j r' x (h.stays b j r' x y);
    held = ((a.answer.owned, i, k.came), each_handle_map _ _ l.handles (λ r' x p. (p.0, p.1, lent_stays m i r a k p.0 p.1 r' x p.2)) h.held);
    lent = λ r' x g. elim g [
      | inl p ↦ (a.answer.owned, i, subst₂ (λ u v. Has a.answer.owned m i u v) p.0 p.1 k.came)
      | inr g' ↦ let p = h.lent r' x g' in (p.0, p.1, lent_stays m i r a k p.0 p.1 r' x p.2)
    ];
    gave = λ r' x g. let p = h.gave r' x g in (p.0, (lent_frees m i r a k p.0 r' x p.1).1);
    gone = h.gone;
    apart = h.apart;
    lent_apart = λ r' x hr n g. elim n [
      | inl p ↦ let u = h.gave r' x g in let q = lent_frees m i r a k u.0 r' x u.1 in
          twice host m once clear a.answer.owned i u.0 r' x hr (subst₂ (λ u v. Has a.answer.owned m i u v) p.0 p.1 k.came) q.1 q.0
      | inr n' ↦ h.lent_apart r' x hr n' g
    ];
    locked = λ r' x hr n j f. elim n [
      | inl p ↦ let g = lent_frees m i r a k j r' x (counted_free a.map l lending j r' x f) in
          twice host m once clear a.answer.owned i j r' x hr (subst₂ (λ u v. Has a.answer.owned m i u v) p.0 p.1 k.came) g.1 g.0
      | inr n' ↦ h.locked r' x hr n' j f
    ];
  }

  own_lending : (m : HandleMap R) (i r : ℕ) (y : R) (m1 : HandleMap R) (k : Taken m i r y m1) (l : Lifted R) → Lending m1 l → Lending m (and_lifted (Own r y) false i l)
  own_lending m i r y m1 k l h = record {
    sound = λ s. h.sound (k.keeps.sound s);
    there = λ s j e is n. h.there (k.keeps.sound s) j e (k.keeps.lent s j e is n) n;
    lent = λ s. h.lent (k.keeps.sound s);
    before = λ j e is. let b = h.before j e is in record { entry = b.entry; there = (k.stays j b.entry b.there).1; is = b.is };
  }

  borrow_lending : (m : HandleMap R) (i r : ℕ) (a : Answered R (Held R)) (k : Lent m i r a) (l : Lifted R) → Lending a.map l → Lending m (and_lifted (Borrow r a.answer.rep) a.answer.owned i l)
  borrow_lending m i r a k l h = record {
    sound = λ s. h.sound (k.sound s);
    there = λ s j e is n.
        let c = count_loan a.answer.owned i j l.loans in
        h.there (k.sound s) j (relent e (e.lent + cond a.answer.owned (one_if (i == j)) 0)) (k.there j e is) (λ z. n (omega arith)) ∙ ap (λ q. Some (relent e q)) (omega arith);
    lent = λ s j n. found s j (λ z. n (count_loan a.answer.owned i j l.loans ∙ z)) a.answer.owned refl (i == j) refl;
    before = λ j e is.
        let c = count_loan a.answer.owned i j l.loans in
        let b = h.before j e is in
        let q = lent_before m i r a k j b.entry b.there in
        record { entry = q.entry; there = q.there; is = b.is ∙ ap (λ z. relent z (z.lent + count j l.loans)) q.is ∙ ap (relent q.entry) (omega arith) };
  }
    where
      found : Sound m → (j : ℕ) → (cond a.answer.owned (one_if (i == j)) 0 + count j l.loans ≢ 0) → (o : Bool) → a.answer.owned ≡ o → (b : Bool) → (i == j) ≡ b → (e : Entry R) × (entry_at l.map j ≡ Some e)
      found s j n true own true hit =
          let e = made_of a.answer.owned r a.answer.rep k.came.0 in
          let at_j : entry_at m j ≡ Some e = ap (entry_at m) (sym (eqb-true i j hit)) ∙ k.came.1 in
          let one : cond a.answer.owned (one_if (i == j)) 0 ≡ 1 = ap (λ z. cond z (one_if (i == j)) 0) own ∙ hit_yes i j (eqb-true i j hit) in
          (_, h.there (k.sound s) j (relent e (e.lent + cond a.answer.owned (one_if (i == j)) 0)) (k.there j e at_j) (λ z. absurd (omega arith)))
      found s j n true own false hit =
          let none : cond a.answer.owned (one_if (i == j)) 0 ≡ 0 = ap (λ z. cond z (one_if (i == j)) 0) own ∙ ap one_if hit ∙ one_false in
          h.lent (k.sound s) j (λ z. n (omega arith))
      found s j n false own b hit =
          let none : cond a.answer.owned (one_if (i == j)) 0 ≡ 0 = ap (λ z. cond z (one_if (i == j)) 0) own in
          h.lent (k.sound s) j (λ z. n (omega arith))

  pub lift_lending : (ns : List Named) (m : HandleMap R) (l : Lifted R) → lift_handles ns m ≡ Some l → Lending m l
  lift_lending [] m l h =
      subst (Lending m) (some_is (record { handles = []; map = m; loans = [] }) l h)
      (record { sound = λ s. s; there = λ s j e is n. is ∙ ap (λ q. Some (relent e q)) (omega arith); lent = λ s j n. absurd (n refl); before = λ j e is. record { entry = e; there = is; is = ap (relent e) (omega arith) } })
  lift_lending (OwnAt r i ∷ ns) m l h =
      let p = and_then_is (λ (a : Answered R R). option_map (and_lifted (Own r a.answer) false i) (lift_handles ns a.map)) (take_own m i r) l h in
      let q = map_is (and_lifted (Own r p.0.answer) false i) (lift_handles ns p.0.map) l p.2 in
      subst (Lending m) q.2 (own_lending m i r p.0.answer p.0.map (take_own_from m r i p.0 p.1) q.0 (lift_lending ns p.0.map q.0 q.1))
  lift_lending (BorrowAt r i ∷ ns) m l h =
      let p = and_then_is (λ (a : Answered R (Held R)). option_map (and_lifted (Borrow r a.answer.rep) a.answer.owned i) (lift_handles ns a.map)) (lend m i r) l h in
      let q = map_is (and_lifted (Borrow r p.0.answer.rep) p.0.answer.owned i) (lift_handles ns p.0.map) l p.2 in
      subst (Lending m) q.2 (borrow_lending m i r p.0 (lend_from m r i p.0 p.1) q.0 (lift_lending ns p.0.map q.0 q.1))

  pub lift_from : (host : ℕ → Bool) (ns : List Named) (m : HandleMap R) (l : Lifted R) → lift_handles ns m ≡ Some l → EachOnce host m → Clear host m → LiftedFrom host m l
  lift_from host [] m l h once clear =
      subst (LiftedFrom host m) (some_is (record { handles = []; map = m; loans = [] }) l h)
      (record { stays = λ b j r x y. y; held = tt; lent = λ r x g. absurd g; gave = λ r x g. absurd g; gone = λ j r x hr g y. g; apart = tt; lent_apart = λ r x hr n g. n; locked = λ r x hr n j f. n })
  lift_from host (OwnAt r i ∷ ns) m l h once clear =
      let p = and_then_is (λ (a : Answered R R). option_map (and_lifted (Own r a.answer) false i) (lift_handles ns a.map)) (take_own m i r) l h in
      let q = map_is (and_lifted (Own r p.0.answer) false i) (lift_handles ns p.0.map) l p.2 in
      let k = take_own_from m r i p.0 p.1 in
      subst (LiftedFrom host m) q.2
      (own_lifted host m once clear i r p.0.answer p.0.map k q.0
      (lift_from host ns p.0.map q.0 q.1
      (λ u v r' x hr hu hv. once u v r' x hr (hu.0, (k.stays u _ hu.1).1) (hv.0, (k.stays v _ hv.1).1))
      (λ u v r' x hr f g. clear u v r' x hr (f.0, (k.stays u _ f.1).1) (k.stays v _ g).1)))
  lift_from host (BorrowAt r i ∷ ns) m l h once clear =
      let p = and_then_is (λ (a : Answered R (Held R)). option_map (and_lifted (Borrow r a.answer.rep) a.answer.owned i) (lift_handles ns a.map)) (lend m i r) l h in
      let q = map_is (and_lifted (Borrow r p.0.answer.rep) p.0.answer.owned i) (lift_handles ns p.0.map) l p.2 in
      let k = lend_from m r i p.0 p.1 in
      subst (LiftedFrom host m) q.2
      (borrow_lifted host m once clear i r p.0 k q.0
      (lift_from host ns p.0.map q.0 q.1
      (λ u v r' x hr hu hv. once u v r' x hr (lent_stays m i r p.0 k true u r' x hu) (lent_stays m i r p.0 k true v r' x hv))
      (λ u v r' x hr f g. clear u v r' x hr (lent_stays m i r p.0 k false u r' x f) (lent_frees m i r p.0 k v r' x g).1))
      (lift_lending ns p.0.map q.0 q.1))

  -- ---- loans end

  less_is : (e e' : Entry R) → lent_less e ≡ e' → e' ≡ relent e (e.lent - 1)
  less_is e e' h = sym h

  unlend_one : (m : HandleMap R) (i j : ℕ) (e' : Entry R) → entry_at (unlend m i) j ≡ Some e' → Before m j e' (λ n. n - one_if (i == j))
  unlend_one m i j e' h = elim (set_at m.entries i j (option_map lent_less (entry_at m i)) e' h) [
    | inl p ↦ let z = hit_no i j p.0 in record { entry = e'; there = p.1; is = ap (relent e') (omega arith) }
    | inr p ↦
        let q = map_is lent_less (entry_at m i) e' p.1 in
        let z = hit_yes i j p.0 in
        record { entry = q.0; there = ap (entry_at m) (sym p.0) ∙ q.1; is = sym q.2 ∙ ap (λ n. relent q.0 (q.0.lent - n)) (sym z) }
  ]

  pub unlend_before : (is : List ℕ) (m : HandleMap R) (j : ℕ) (e : Entry R) → entry_at (unlend_all is m) j ≡ Some e → Before m j e (λ n. n - count j is)
  unlend_before [] m j e h = record { entry = e; there = h; is = ap (relent e) (omega arith) }
  unlend_before (i ∷ is) m j e h =
      let a = unlend_before is (unlend m i) j e h in
      let b = unlend_one m i j a.entry a.there in
      record { entry = b.entry; there = b.there; is = a.is ∙ ap (λ z. relent z (z.lent - count j is)) b.is ∙ ap (relent b.entry) (omega arith) }

  pub unlend_stays : (is : List ℕ) (m : HandleMap R) (b : Bool) (j r : ℕ) (x : R) → Has b (unlend_all is m) j r x → Has b m j r x
  unlend_stays is m b j r x h =
      let a = unlend_before is m j (made_of b r x h.0) h.1 in
      (a.entry.lent, a.there ∙ (λ k. Some (made_of ((sym (ap (λ z. z.owned) a.is)) k) ((sym (ap (λ z. z.resource) a.is)) k) ((sym (ap (λ z. z.rep) a.is)) k) a.entry.lent)))

  unlend_at : (m : HandleMap R) (i j : ℕ) (e : Entry R) → entry_at m j ≡ Some e → (b : Bool) → (i == j) ≡ b → entry_at (unlend m i) j ≡ Some (relent e (e.lent - one_if b))
  unlend_at m i j e there true hit =
      let same : i ≡ j = eqb-true i j hit in
      let at_i : entry_at m i ≡ Some e = ap (entry_at m) same ∙ there in
      ap (at (set m.entries i (option_map lent_less (entry_at m i)))) (sym same) ∙ set_there m.entries i (option_map lent_less (entry_at m i)) e at_i ∙ ap (option_map lent_less) at_i
      ∙ ap (λ n. Some (relent e (e.lent - n))) (sym one_true)
  unlend_at m i j e there false hit =
      set_keeps m.entries i j (option_map lent_less (entry_at m i)) e there (λ s. let q : true ≡ false = sym (eq-eqb i j (sym s)) ∙ hit in cc)
      ∙ (let o = one_false in ap (λ n. Some (relent e n)) (omega arith))

  -- each entry stays, lent less often
  pub unlend_there : (is : List ℕ) (m : HandleMap R) (j : ℕ) (e : Entry R) → entry_at m j ≡ Some e → entry_at (unlend_all is m) j ≡ Some (relent e (e.lent - count j is))
  unlend_there [] m j e there = there ∙ ap (λ n. Some (relent e n)) (omega arith)
  unlend_there (i ∷ is) m j e there =
      unlend_there is (unlend m i) j (relent e (e.lent - one_if (i == j))) (unlend_at m i j e there (i == j) refl) ∙ ap (λ n. Some (relent e n)) (omega arith)

  pub unlend_sound : (is : List ℕ) (m : HandleMap R) → Sound m → Sound (unlend_all is m)
  unlend_sound [] m s = s
  unlend_sound (i ∷ is) m s = unlend_sound is (unlend m i) (all_less m.entries m.freed i s)

  -- a map that kept what was lent: when the loans have ended, what may be given away could be given away then, or before
  pub given_back : (m : HandleMap R) (l : Lifted R) → Sound m → Lending m l → (m' : HandleMap R) → ((j : ℕ) (e : Entry R) → entry_at l.map j ≡ Some e → e.lent ≢ 0 → entry_at m' j ≡ Some e) → (j r : ℕ) (x : R) → Free (unlend_all l.loans m') j r x → Free m' j r x ⊎ Free m j r x
  given_back m l s lending m' kept j r x free = at_count (count j l.loans) refl
    where
      at_count : (n : ℕ) → count j l.loans ≡ n → Free m' j r x ⊎ Free m j r x
      at_count zero is =
          let a = unlend_before l.loans m' j (made_of true r x 0) free in
          let e : 0 ≡ a.entry.lent - count j l.loans = ap (λ z. z.lent) a.is in
          inl (free_before m' j r x a.entry (a.entry.lent - count j l.loans) a.there a.is (omega arith))
      at_count (suc n) is =
          let f = lending.lent s j (λ z. absurd (omega arith)) in
          let b = lending.before j f.0 f.1 in
          let more : f.0.lent ≡ b.entry.lent + count j l.loans = ap (λ z. z.lent) b.is in
          let there = kept j f.0 f.1 (λ z. absurd (omega arith)) in
          let a = unlend_before l.loans m' j (made_of true r x 0) free in
          let same : a.entry ≡ f.0 = some_is a.entry f.0 (sym a.there ∙ there) in
          let e : 0 ≡ a.entry.lent - count j l.loans = ap (λ z. z.lent) a.is in
          let e' : a.entry.lent ≡ f.0.lent = ap (λ z. z.lent) same in
          inr (free_before m j r x b.entry (b.entry.lent + count j l.loans - count j l.loans) b.there (a.is ∙ ap (λ z. relent z (z.lent - count j l.loans)) same ∙ ap (λ z. relent z (z.lent - count j l.loans)) b.is) (omega arith))

  -- what was lent before is lent as often when the loans have ended
  pub lent_still : (m : HandleMap R) (l : Lifted R) → Sound m → Lending m l → (m' : HandleMap R) → ((j : ℕ) (e : Entry R) → entry_at l.map j ≡ Some e → e.lent ≢ 0 → entry_at m' j ≡ Some e) → (j : ℕ) (e : Entry R) → entry_at m j ≡ Some e → e.lent ≢ 0 → entry_at (unlend_all l.loans m') j ≡ Some e
  lent_still m l s lending m' kept j e there n =
      unlend_there l.loans m' j (relent e (e.lent + count j l.loans)) (kept j (relent e (e.lent + count j l.loans)) (lending.there s j e there n) (λ z. n (omega arith)))
      ∙ ap (λ q. Some (relent e q)) (omega arith)

-- Whose handles a map holds after each operation, and what it keeps.
use Rattle.std.proofs.Common.{◌≡◌, ◌≢◌, ℕ, zero, suc, ◌+◌, ◌==◌, ◌⊎◌, inl, inr, List, [], ◌∷◌, ◌++◌, Option, Some, None, Bool, true, false, length, set, get_or, cond, refl, sym, ◌∙◌, ap, subst, subst₂, arith}
use Rattle.std.specs.Option.{option_map, option_and_then}
use Rattle.std.proofs.lemmas.Bool.{eqb-true, eq-eqb}
use Rattle.handle_space.specs.HandleMap.{Entry, HandleMap, Answered, Held, most_live, answered, entry_at, entry_of, live_count, own_entry, borrow_entry, with_entry, without, added, add, lent_less, lend, take_own}
use Rattle.handle_space.proofs.MapLaws.{entry_of_is, lend_is, take_own_is}
use Rattle.comp_worlds.specs.Passing.{Handle, Own, Borrow, lower_borrow, add_handle, and_index, add_handles}
use Rattle.comp_worlds.specs.Related.{Gives, Lends, OnceEach}

-- ---- options and tests

pub and_then_is : {A B : Type 0} → (f : A → Option B) (o : Option A) (b : B) → option_and_then f o ≡ Some b → (a : A) × (o ≡ Some a) × (f a ≡ Some b)
and_then_is f None b h = absurd (cc)
and_then_is f (Some a) b h = (a, refl, h)

pub map_is : {A B : Type 0} → (f : A → B) (o : Option A) (b : B) → option_map f o ≡ Some b → (a : A) × (o ≡ Some a) × (f a ≡ b)
map_is f None b h = absurd (cc)
map_is f (Some a) b h = (a, refl, cc)

pub some_is : {A : Type 0} → (x y : A) → Some x ≡ Some y → x ≡ y
some_is x y h = cc

pub one_if : Bool → ℕ
one_if true = 1
one_if false = 0

pub hit_yes : (i j : ℕ) → i ≡ j → one_if (i == j) ≡ 1
unfolding one_if
hit_yes i j e = ap one_if (eq-eqb i j e)

pub hit_no : (i j : ℕ) → i ≢ j → one_if (i == j) ≡ 0
unfolding one_if
hit_no i j d = go (i == j) refl
  where
    go : (b : Bool) → (i == j) ≡ b → one_if b ≡ 0
    go true e = absurd (d (eqb-true i j e))
    go false e = refl

pub one_true : one_if true ≡ 1
unfolding one_if
one_true = refl

pub one_false : one_if false ≡ 0
unfolding one_if
one_false = refl

-- ---- entries in a list

abbrev pub at : {R : Type 0} → List (Option (Entry R)) → ℕ → Option (Entry R)
at xs i = get_or xs i None

abbrev pub made_of : {R : Type 0} → Bool → ℕ → R → ℕ → Entry R
made_of own r x n = record { resource = r; rep = x; owned = own; lent = n }

abbrev pub relent : {R : Type 0} → Entry R → ℕ → Entry R
relent e n = record { resource = e.resource; rep = e.rep; owned = e.owned; lent = n }

-- the entry at an index is this, own or borrowed, lent so often
abbrev pub Has : {R : Type 0} → Bool → HandleMap R → ℕ → ℕ → R → Type 0
Has own m i r x = (n : ℕ) × (entry_at m i ≡ Some (made_of own r x n))

abbrev pub Holds : {R : Type 0} → HandleMap R → ℕ → ℕ → R → Type 0
Holds m i r x = Has true m i r x

-- it may be given away
abbrev pub Free : {R : Type 0} → HandleMap R → ℕ → ℕ → R → Type 0
Free m i r x = entry_at m i ≡ Some (made_of true r x 0)

abbrev pub Member : ℕ → List ℕ → Type 0
Member i [] = ⊥
Member i (j ∷ js) = (j ≡ i) ⊎ Member i js

-- a place of a list with nothing in it
abbrev pub Vacant : {R : Type 0} → List (Option (Entry R)) → ℕ → Type 0
Vacant [] i = ⊥
Vacant (x ∷ xs) zero = x ≡ None
Vacant (x ∷ xs) (suc i) = Vacant xs i

abbrev pub AllVacant : {R : Type 0} → List (Option (Entry R)) → List ℕ → Type 0
AllVacant xs [] = Unit {0}
AllVacant xs (i ∷ is) = Vacant xs i × (Member i is → ⊥) × AllVacant xs is

-- freed places are vacant, and differ
abbrev pub Sound : {R : Type 0} → HandleMap R → Type 0
Sound m = AllVacant m.entries m.freed

module _ {R : Type 0} where
  pub set_at : (xs : List (Option (Entry R))) (i j : ℕ) (y : Option (Entry R)) (e : Entry R) → at (set xs i y) j ≡ Some e → ((i ≢ j) × (at xs j ≡ Some e)) ⊎ ((i ≡ j) × (y ≡ Some e))
  set_at [] i j y e h = absurd (let q : None ≡ Some e = h in cc)
  set_at (x ∷ xs) zero zero y e h = inr (refl, h)
  set_at (x ∷ xs) zero (suc j) y e h = inl (omega arith, h)
  set_at (x ∷ xs) (suc i) zero y e h = inl (omega arith, h)
  set_at (x ∷ xs) (suc i) (suc j) y e h =
      elim (set_at xs i j y e h)
      [ inl p ↦ inl (let d : i ≢ j = p.0 in omega arith, p.1) | inr p ↦ inr (ap suc p.0, p.1) ]

  pub push_at : (xs : List (Option (Entry R))) (j : ℕ) (y e : Entry R) → at (xs ++ Some y ∷ []) j ≡ Some e → (at xs j ≡ Some e) ⊎ ((length xs ≡ j) × (y ≡ e))
  push_at [] zero y e h = inr (refl, some_is y e h)
  push_at [] (suc j) y e h = absurd (let q : None ≡ Some e = h in cc)
  push_at (x ∷ xs) zero y e h = inl h
  push_at (x ∷ xs) (suc j) y e h = elim (push_at xs j y e h) [ inl p ↦ inl p | inr p ↦ inr (ap suc p.0, p.1) ]

  pub set_keeps : (xs : List (Option (Entry R))) (i j : ℕ) (y : Option (Entry R)) (e : Entry R) → at xs j ≡ Some e → j ≢ i → at (set xs i y) j ≡ Some e
  set_keeps [] i j y e is d = absurd (let q : None ≡ Some e = is in cc)
  set_keeps (x ∷ xs) zero zero y e is d = absurd (d refl)
  set_keeps (x ∷ xs) zero (suc j) y e is d = is
  set_keeps (x ∷ xs) (suc i) zero y e is d = is
  set_keeps (x ∷ xs) (suc i) (suc j) y e is d = set_keeps xs i j y e is (λ s. d (ap suc s))

  pub set_there : (xs : List (Option (Entry R))) (i : ℕ) (y : Option (Entry R)) (e : Entry R) → at xs i ≡ Some e → at (set xs i y) i ≡ y
  set_there [] i y e is = absurd (let q : None ≡ Some e = is in cc)
  set_there (x ∷ xs) zero y e is = refl
  set_there (x ∷ xs) (suc i) y e is = set_there xs i y e is

  pub push_keeps : (xs ys : List (Option (Entry R))) (j : ℕ) (e : Entry R) → at xs j ≡ Some e → at (xs ++ ys) j ≡ Some e
  push_keeps [] ys j e is = absurd (let q : None ≡ Some e = is in cc)
  push_keeps (x ∷ xs) ys zero e is = is
  push_keeps (x ∷ xs) ys (suc j) e is = push_keeps xs ys j e is

  -- ---- vacant places

  vacant_set : (xs : List (Option (Entry R))) (i j : ℕ) (y : Option (Entry R)) → Vacant xs i → j ≢ i → Vacant (set xs j y) i
  vacant_set [] i j y h d = absurd h
  vacant_set (x ∷ xs) zero zero y h d = absurd (d refl)
  vacant_set (x ∷ xs) zero (suc j) y h d = h
  vacant_set (x ∷ xs) (suc i) zero y h d = h
  vacant_set (x ∷ xs) (suc i) (suc j) y h d = vacant_set xs i j y h (λ e. d (ap suc e))

  vacant_some : (xs : List (Option (Entry R))) (i : ℕ) (e : Entry R) → Vacant xs i → at xs i ≡ Some e → ⊥
  vacant_some [] i e h is = h
  vacant_some (x ∷ xs) zero e h is = let q : None ≡ Some e = sym h ∙ is in cc
  vacant_some (x ∷ xs) (suc i) e h is = vacant_some xs i e h is

  vacant_made : (xs : List (Option (Entry R))) (i : ℕ) (e : Entry R) → at xs i ≡ Some e → Vacant (set xs i None) i
  vacant_made [] i e is = absurd (let q : None ≡ Some e = is in cc)
  vacant_made (x ∷ xs) zero e is = refl
  vacant_made (x ∷ xs) (suc i) e is = vacant_made xs i e is

  vacant_less : (xs : List (Option (Entry R))) (i j : ℕ) → Vacant xs j → Vacant (set xs i (option_map lent_less (at xs i))) j
  vacant_less [] i j h = h
  vacant_less (x ∷ xs) zero zero h = ap (option_map lent_less) h
  vacant_less (x ∷ xs) zero (suc j) h = h
  vacant_less (x ∷ xs) (suc i) zero h = h
  vacant_less (x ∷ xs) (suc i) (suc j) h = vacant_less xs i j h

  pub all_less : (xs : List (Option (Entry R))) (is : List ℕ) (i : ℕ) → AllVacant xs is → AllVacant (set xs i (option_map lent_less (at xs i))) is
  all_less xs [] i h = tt
  all_less xs (j ∷ js) i h = (vacant_less xs i j h.0, h.1, all_less xs js i h.2)

  all_set : (xs : List (Option (Entry R))) (is : List ℕ) (j : ℕ) (y : Option (Entry R)) → AllVacant xs is → (Member j is → ⊥) → AllVacant (set xs j y) is
  all_set xs [] j y h no_member = tt
  all_set xs (i ∷ is) j y h no_member = (vacant_set xs i j y h.0 (λ e. no_member (inl (sym e))), h.1, all_set xs is j y h.2 (λ m. no_member (inr m)))

  some_apart : (xs : List (Option (Entry R))) (is : List ℕ) (j : ℕ) (e : Entry R) → AllVacant xs is → at xs j ≡ Some e → Member j is → ⊥
  some_apart xs [] j e h there m = m
  some_apart xs (i ∷ is) j e h there m = elim m [ inl same ↦ vacant_some xs i e h.0 (ap (at xs) same ∙ there) | inr m' ↦ some_apart xs is j e h.2 there m' ]

-- a change of a map that keeps it sound, and keeps each entry that is lent
pub record Keeps {R : Type 0} (m m' : HandleMap R) : Type 0 where
  pub sound : Sound m → Sound m'
  pub lent : Sound m → (j : ℕ) (e : Entry R) → entry_at m j ≡ Some e → e.lent ≢ 0 → entry_at m' j ≡ Some e

pub keeps_refl : {R : Type 0} → (m m' : HandleMap R) → m' ≡ m → Keeps m m'
keeps_refl m m' is = record { sound = λ s. subst Sound (sym is) s; lent = λ s j e there l. ap (λ z. entry_at z j) is ∙ there }

pub keeps_trans : {R : Type 0} → (m m' m'' : HandleMap R) → Keeps m m' → Keeps m' m'' → Keeps m m''
keeps_trans m m' m'' a b = record { sound = λ s. b.sound (a.sound s); lent = λ s j e there l. b.lent (a.sound s) j e (a.lent s j e there l) l }

module _ {R : Type 0} where
  -- ---- taking

  pub without_at : (m : HandleMap R) (i j : ℕ) (e : Entry R) → entry_at (without m i) j ≡ Some e → (i ≢ j) × (entry_at m j ≡ Some e)
  without_at m i j e h = elim (set_at m.entries i j None e h) [ inl p ↦ p | inr p ↦ absurd (let q : None ≡ Some e = p.1 in cc) ]

  pub without_keeps : (m : HandleMap R) (i : ℕ) (e : Entry R) → entry_at m i ≡ Some e → e.lent ≡ 0 → Keeps m (without m i)
  without_keeps m i e is none = record {
    sound = λ s. (vacant_made m.entries i e is, some_apart m.entries m.freed i e s is, all_set m.entries m.freed i None s (some_apart m.entries m.freed i e s is));
    lent = λ s j e' there l. set_keeps m.entries i j None e' there (λ same. l (sym (ap (λ u. u.lent) (some_is e e' (sym is ∙ ap (at m.entries) (sym same) ∙ there))) ∙ none));
  }

  -- an entry that is found is what its fields say
  pub found_is : (m : HandleMap R) (i r : ℕ) (e : Entry R) → entry_of m i r ≡ Some e → entry_at m i ≡ Some (made_of e.owned r e.rep e.lent)
  found_is m i r e h =
      let f = entry_of_is m i r e h in
      f.0 ∙ ap (λ k. Some (made_of e.owned k e.rep e.lent)) f.1

-- an own entry left the map
pub record Taken {R : Type 0} (m : HandleMap R) (i r : ℕ) (x : R) (m' : HandleMap R) : Type 0 where
  pub came : Free m i r x
  pub stays : (j : ℕ) (e : Entry R) → entry_at m' j ≡ Some e → (i ≢ j) × (entry_at m j ≡ Some e)
  pub keeps : Keeps m m'

-- an entry was lent, where it is an own one
pub record Lent {R : Type 0} (m : HandleMap R) (i r : ℕ) (a : Answered R (Held R)) : Type 0 where
  pub came : Has a.answer.owned m i r a.answer.rep
  pub there : (j : ℕ) (e : Entry R) → entry_at m j ≡ Some e → entry_at a.map j ≡ Some (relent e (e.lent + cond a.answer.owned (one_if (i == j)) 0))
  pub back : (j : ℕ) (e : Entry R) → entry_at a.map j ≡ Some e → ((i ≢ j) × (entry_at m j ≡ Some e)) ⊎ ((i ≡ j) × (e ≡ made_of a.answer.owned r a.answer.rep (came.0 + one_if a.answer.owned)))
  pub sound : Sound m → Sound a.map

module _ {R : Type 0} where
  pub take_own_from : (m : HandleMap R) (r i : ℕ) (a : Answered R R) → take_own m i r ≡ Some a → Taken m i r a.answer a.map
  take_own_from m r i a h =
      let t = take_own_is m i r a h in
      let e = t.0 in
      let there = entry_of_is m i r e t.1 in
      let map_is = ap (λ z. z.map) t.4 in
      record {
        came = found_is m i r e t.1 ∙ (λ k. Some (made_of (t.2 k) r ((sym (ap (λ z. z.answer) t.4)) k) (t.3 k)));
        stays = λ j e' is. without_at m i j e' (ap (λ z. entry_at z j) (sym map_is) ∙ is);
        keeps = keeps_trans m (without m i) a.map (without_keeps m i e there.0 t.3) (keeps_refl (without m i) a.map map_is);
      }

  more_is : (e more : Entry R) → (e.owned ≡ true → more ≡ record e { lent = e.lent + 1 }) → (e.owned ≡ false → more ≡ e) → (b : Bool) → e.owned ≡ b → more ≡ relent e (e.lent + one_if b)
  unfolding one_if
  more_is e more own borrow true is = own is
  more_is e more own borrow false is = borrow is ∙ ap (relent e) (let q : e.lent ≡ e.lent + 0 = omega arith in q)

  with_there : (m : HandleMap R) (i j : ℕ) (e0 e : Entry R) → entry_at m i ≡ Some e0 → entry_at m j ≡ Some e → (o : Bool) (b : Bool) → (i == j) ≡ b → entry_at (with_entry m i (relent e0 (e0.lent + one_if o))) j ≡ Some (relent e (e.lent + cond o (one_if b) 0))
  unfolding one_if
  with_there m i j e0 e at_i at_j o true hit =
      let same : i ≡ j = eqb-true i j hit in
      let one : e0 ≡ e = some_is e0 e (sym at_i ∙ ap (at m.entries) same ∙ at_j) in
      ap (at (set m.entries i (Some (relent e0 (e0.lent + one_if o))))) (sym same) ∙ set_there m.entries i (Some (relent e0 (e0.lent + one_if o))) e0 at_i
      ∙ ap (λ z. Some (relent z (z.lent + one_if o))) one ∙ ap (λ n. Some (relent e (e.lent + n))) (count o)
    where
      count : (o : Bool) → one_if o ≡ cond o 1 0
      count true = refl
      count false = refl
  with_there m i j e0 e at_i at_j o false hit =
      set_keeps m.entries i j (Some (relent e0 (e0.lent + one_if o))) e at_j (λ s. let q : true ≡ false = sym (eq-eqb i j (sym s)) ∙ hit in cc)
      ∙ ap (λ n. Some (relent e n)) (none o)
    where
      none : (o : Bool) → e.lent ≡ e.lent + cond o 0 0
      none true = omega arith
      none false = omega arith

  pub lend_from : (m : HandleMap R) (r i : ℕ) (a : Answered R (Held R)) → lend m i r ≡ Some a → Lent m i r a
  lend_from m r i a h =
      let l = lend_is m i r a h in
      let e0 = l.entry in
      let there = entry_of_is m i r e0 l.found in
      let more = more_is e0 l.more l.own l.borrow e0.owned refl in
      let map_is : a.map ≡ with_entry m i (relent e0 (e0.lent + one_if e0.owned)) = ap (λ z. z.map) l.is ∙ ap (with_entry m i) more in
      let form : e0.owned ≡ a.answer.owned = sym (ap (λ z. z.answer.owned) l.is) in
      let rep : e0.rep ≡ a.answer.rep = sym (ap (λ z. z.answer.rep) l.is) in
      record {
        came = (e0.lent, found_is m i r e0 l.found ∙ (λ k. Some (made_of (form k) r (rep k) e0.lent)));
        there = λ j e at_j. ap (λ z. entry_at z j) map_is ∙ with_there m i j e0 e there.0 at_j e0.owned (i == j) refl ∙ ap (λ o. Some (relent e (e.lent + cond o (one_if (i == j)) 0))) form;
        back = λ j e at_j. elim (set_at m.entries i j (Some (relent e0 (e0.lent + one_if e0.owned))) e (ap (λ z. entry_at z j) (sym map_is) ∙ at_j)) [
          | inl p ↦ inl p
          | inr p ↦ inr (p.0, sym (some_is (relent e0 (e0.lent + one_if e0.owned)) e p.1) ∙ (λ k. made_of (form k) (there.1 k) (rep k) (e0.lent + one_if (form k))))
        ];
        sound = λ s. subst Sound (sym map_is) (all_set m.entries m.freed i _ s (some_apart m.entries m.freed i e0 s there.0));
      }

-- ---- adding: what was there, or the new handle at one place

pub record Added {R : Type 0} (m : HandleMap R) (e : Entry R) (m' : HandleMap R) : Type 0 where
  pub place : ℕ
  pub each : (j : ℕ) (e' : Entry R) → entry_at m' j ≡ Some e' → (entry_at m j ≡ Some e') ⊎ ((place ≡ j) × (e ≡ e'))
  pub keeps : Keeps m m'

abbrev pub OfHandle : {R : Type 0} → Handle R → Bool → ℕ → R → Type 0
OfHandle (Own r' x') b r x = (true ≡ b) × (r' ≡ r) × (x' ≡ x)
OfHandle (Borrow r' x') b r x = (false ≡ b) × (r' ≡ r) × (x' ≡ x)

pub record AddedOne {R : Type 0} (h : Handle R) (m m' : HandleMap R) : Type 0 where
  pub place : ℕ
  pub each : (b : Bool) (j r : ℕ) (x : R) → Has b m' j r x → Has b m j r x ⊎ ((place ≡ j) × OfHandle h b r x)
  pub free : (j r : ℕ) (x : R) → Free m' j r x → Free m j r x ⊎ OfHandle h true r x
  pub keeps : Keeps m m'

module _ {R : Type 0} where
  added_from : (m : HandleMap R) (e : Entry R) (is : List ℕ) → m.freed ≡ is → Added m e (added e m.entries is).map
  added_from m e [] is = record {
    place = length m.entries;
    each = λ j e' h. push_at m.entries j e e' h;
    keeps = record { sound = λ s. tt; lent = λ s j e' there l. push_keeps m.entries (Some e ∷ []) j e' there };
  }
  added_from m e (i ∷ is) same = record {
    place = i;
    each = λ j e' h. elim (set_at m.entries i j (Some e) e' h) [ inl p ↦ inl p.1 | inr p ↦ inr (p.0, some_is e e' p.1) ];
    keeps = record {
      sound = λ s. let s' = subst (AllVacant m.entries) same s in all_set m.entries is i (Some e) s'.2 s'.1;
      lent = λ s j e' there l. let s' = subst (AllVacant m.entries) same s in set_keeps m.entries i j (Some e) e' there (λ at_i. vacant_some m.entries i e' s'.0 (ap (at m.entries) (sym at_i) ∙ there));
    };
  }

  pub add_from : (m : HandleMap R) (e : Entry R) (a : Answered R ℕ) → add m e ≡ Some a → Added m e a.map
  add_from m e a h = at_test (live_count m == most_live) h
    where
      at_test : (b : Bool) → cond b None (Some (added e m.entries m.freed)) ≡ Some a → Added m e a.map
      at_test true h' = absurd (cc)
      at_test false h' = subst (λ z. Added m e z.map) (some_is (added e m.entries m.freed) a h') (added_from m e m.freed refl)

  pub added_has : (m m' : HandleMap R) (e : Entry R) (f : Added m e m') (b : Bool) (j r : ℕ) (x : R) → Has b m' j r x → Has b m j r x ⊎ ((f.place ≡ j) × ((e.owned ≡ b) × (e.resource ≡ r) × (e.rep ≡ x)))
  added_has m m' e f b j r x h =
      elim (f.each j (made_of b r x h.0) h.1)
      [ inl p ↦ inl (h.0, p) | inr p ↦ inr (p.0, (ap (λ z. z.owned) p.1, ap (λ z. z.resource) p.1, ap (λ z. z.rep) p.1)) ]

  pub added_free : (m m' : HandleMap R) (e : Entry R) (f : Added m e m') (j r : ℕ) (x : R) → Free m' j r x → Free m j r x ⊎ ((e.owned ≡ true) × (e.resource ≡ r) × (e.rep ≡ x))
  added_free m m' e f j r x h =
      elim (f.each j (made_of true r x 0) h)
      [ inl p ↦ inl p | inr p ↦ inr (ap (λ z. z.owned) p.1, ap (λ z. z.resource) p.1, ap (λ z. z.rep) p.1) ]

  borrow_from : (o : Option ℕ) (r : ℕ) (x : R) (m : HandleMap R) (a : Answered R ℕ) → lower_borrow o r x m ≡ Some a → AddedOne (Borrow r x) m a.map
  borrow_from (Some n) r x m a h =
      let same : m ≡ a.map = ap (λ z. z.map) (some_is (answered n m) a h) in
      record { place = 0; each = λ b j r' x' y. inl (subst (λ z. Has b z j r' x') (sym same) y); free = λ j r' x' y. inl (subst (λ z. Free z j r' x') (sym same) y); keeps = keeps_refl m a.map (sym same) }
  borrow_from None r x m a h =
      let f = add_from m (borrow_entry r x) a h in
      record { place = f.place; each = λ b j r' x' y. added_has m a.map (borrow_entry r x) f b j r' x' y; free = λ j r' x' y. added_free m a.map (borrow_entry r x) f j r' x' y; keeps = f.keeps }

  pub add_handle_from : (plain : ℕ → R → Option ℕ) (h : Handle R) (m : HandleMap R) (a : Answered R ℕ) → add_handle plain h m ≡ Some a → AddedOne h m a.map
  add_handle_from plain (Own r x) m a h =
      let f = add_from m (own_entry r x) a h in
      record { place = f.place; each = λ b j r' x' y. added_has m a.map (own_entry r x) f b j r' x' y; free = λ j r' x' y. added_free m a.map (own_entry r x) f j r' x' y; keeps = f.keeps }
  add_handle_from plain (Borrow r x) m a h = borrow_from (plain r x) r x m a h

-- values were lowered
pub record AddedAll {R : Type 0} (hs : List (Handle R)) (m m' : HandleMap R) : Type 0 where
  pub holds : (j r : ℕ) (x : R) → Holds m' j r x → Holds m j r x ⊎ Gives hs r x
  pub free : (j r : ℕ) (x : R) → Free m' j r x → Free m j r x ⊎ Gives hs r x
  pub lent : (j r : ℕ) (x : R) → Has false m' j r x → Has false m j r x ⊎ Lends hs r x
  pub keeps : Keeps m m'

abbrev pub EachOnce : {R : Type 0} → (ℕ → Bool) → HandleMap R → Type 0
EachOnce {R} host m = (i j r : ℕ) (x : R) → host r ≡ true → Holds m i r x → Holds m j r x → i ≡ j

true_false : {A : Type 0} → true ≡ false → A
true_false h = absurd (cc)

module _ {R : Type 0} where
  one_all : (h : Handle R) (hs : List (Handle R)) (m m1 m' : HandleMap R) → AddedOne h m m1 → AddedAll hs m1 m' → AddedAll (h ∷ hs) m m'
  one_all (Own r' x') hs m m1 m' f g = record {
    holds = λ j r x y. elim (g.holds j r x y) [ inl old ↦ elim (f.each true j r x old) [ inl older ↦ inl older | inr new ↦ inr (inl (new.1.1, new.1.2)) ] | inr z ↦ inr (inr z) ];
    free = λ j r x y. elim (g.free j r x y) [ inl old ↦ elim (f.free j r x old) [ inl older ↦ inl older | inr new ↦ inr (inl (new.1, new.2)) ] | inr z ↦ inr (inr z) ];
    lent = λ j r x y. elim (g.lent j r x y) [ inl old ↦ elim (f.each false j r x old) [ inl older ↦ inl older | inr new ↦ true_false new.1.0 ] | inr z ↦ inr z ];
    keeps = keeps_trans m m1 m' f.keeps g.keeps;
  }
  one_all (Borrow r' x') hs m m1 m' f g = record {
    holds = λ j r x y. elim (g.holds j r x y) [ inl old ↦ elim (f.each true j r x old) [ inl older ↦ inl older | inr new ↦ true_false (sym new.1.0) ] | inr z ↦ inr z ];
    free = λ j r x y. elim (g.free j r x y) [ inl old ↦ elim (f.free j r x old) [ inl older ↦ inl older | inr new ↦ true_false (sym new.0) ] | inr z ↦ inr z ];
    lent = λ j r x y. elim (g.lent j r x y) [ inl old ↦ elim (f.each false j r x old) [ inl older ↦ inl older | inr new ↦ inr (inl (new.1.1, new.1.2)) ] | inr z ↦ inr (inr z) ];
    keeps = keeps_trans m m1 m' f.keeps g.keeps;
  }

  pub add_all_from : (plain : ℕ → R → Option ℕ) (hs : List (Handle R)) (m : HandleMap R) (a : Answered R (List ℕ)) → add_handles plain hs m ≡ Some a → AddedAll hs m a.map
  add_all_from plain [] m a h =
      let same : m ≡ a.map = ap (λ z. z.map) (some_is (answered [] m) a h) in
      record { holds = λ j r x y. inl (subst (λ z. Holds z j r x) (sym same) y); free = λ j r x y. inl (subst (λ z. Free z j r x) (sym same) y); lent = λ j r x y. inl (subst (λ z. Has false z j r x) (sym same) y); keeps = keeps_refl m a.map (sym same) }
  add_all_from plain (h ∷ hs) m a is =
      let p = and_then_is (λ (o : Answered R ℕ). option_map (and_index o.answer) (add_handles plain hs o.map)) (add_handle plain h m) a is in
      let q = map_is (and_index p.0.answer) (add_handles plain hs p.0.map) a p.2 in
      subst (AddedAll (h ∷ hs) m) (ap (λ z. z.map) q.2) (one_all h hs m p.0.map q.0.map (add_handle_from plain h m p.0 p.1) (add_all_from plain hs p.0.map q.0 q.1))

  -- where each borrow becomes a number, nothing is borrowed anew
  pub add_all_none : (hs : List (Handle R)) (m : HandleMap R) (a : Answered R (List ℕ)) → add_handles (λ r x. Some 0) hs m ≡ Some a → (j r : ℕ) (x : R) → Has false a.map j r x → Has false m j r x
  add_all_none [] m a h j r x y = subst (λ z. Has false z j r x) (sym (ap (λ z. z.map) (some_is (answered [] m) a h))) y
  add_all_none (h ∷ hs) m a is j r x y =
      let p = and_then_is (λ (o : Answered R ℕ). option_map (and_index o.answer) (add_handles (λ r x. Some 0) hs o.map)) (add_handle (λ r x. Some 0) h m) a is in
      let q = map_is (and_index p.0.answer) (add_handles (λ r x. Some 0) hs p.0.map) a p.2 in
      first h p.0 p.1 (add_all_none hs p.0.map q.0 q.1 j r x (subst (λ z. Has false z j r x) (sym (ap (λ z. z.map) q.2)) y))
    where
      first : (h : Handle R) (o : Answered R ℕ) → add_handle (λ r x. Some 0) h m ≡ Some o → Has false o.map j r x → Has false m j r x
      first (Own r' x') o e y' = elim ((add_handle_from (λ r x. Some 0) (Own r' x') m o e).each false j r x y') [ inl old ↦ old | inr new ↦ true_false new.1.0 ]
      first (Borrow r' x') o e y' = subst (λ z. Has false z j r x) (sym (ap (λ z. z.map) (some_is (answered 0 m) o e))) y'

  borrowed_back : (r' : ℕ) (x' : R) (m m' : HandleMap R) → AddedOne (Borrow r' x') m m' → (j r : ℕ) (x : R) → Holds m' j r x → Holds m j r x
  borrowed_back r' x' m m' f j r x y = elim (f.each true j r x y) [ inl old ↦ old | inr new ↦ true_false (sym new.1.0) ]

  -- handles that are new stay apart
  pub add_all_once : (host : ℕ → Bool) (plain : ℕ → R → Option ℕ) (hs : List (Handle R)) (m : HandleMap R) (a : Answered R (List ℕ)) → add_handles plain hs m ≡ Some a → EachOnce host m → OnceEach host hs → ((j r : ℕ) (x : R) → host r ≡ true → Gives hs r x → Holds m j r x → ⊥) → EachOnce host a.map
  add_all_once host plain [] m a h once apart fresh = subst (EachOnce host) (ap (λ z. z.map) (some_is (answered [] m) a h)) once
  add_all_once host plain (h ∷ hs) m a is once apart fresh =
      let p = and_then_is (λ (o : Answered R ℕ). option_map (and_index o.answer) (add_handles plain hs o.map)) (add_handle plain h m) a is in
      let q = map_is (and_index p.0.answer) (add_handles plain hs p.0.map) a p.2 in
      subst (EachOnce host) (ap (λ z. z.map) q.2) (first h p.0 (add_handle_from plain h m p.0 p.1) apart fresh q.0.map (λ once' apart' fresh'. add_all_once host plain hs p.0.map q.0 q.1 once' apart' fresh'))
    where
      first : (h : Handle R) (o : Answered R ℕ) → AddedOne h m o.map → OnceEach host (h ∷ hs) → ((j r : ℕ) (x : R) → host r ≡ true → Gives (h ∷ hs) r x → Holds m j r x → ⊥) →
          (m' : HandleMap R) → (EachOnce host o.map → OnceEach host hs → ((j r : ℕ) (x : R) → host r ≡ true → Gives hs r x → Holds o.map j r x → ⊥) → EachOnce host m') → EachOnce host m'
      first (Own r' x') o f apart' fresh' m' again =
          again
          (λ i j r x hr hi hj. elim (f.each true i r x hi) [
            | inl oi ↦ elim (f.each true j r x hj) [
              | inl oj ↦ once i j r x hr oi oj
              | inr nj ↦ absurd (fresh' i r x hr (inl (nj.1.1, nj.1.2)) oi)
            ]
            | inr ni ↦ elim (f.each true j r x hj) [
              | inl oj ↦ absurd (fresh' j r x hr (inl (ni.1.1, ni.1.2)) oj)
              | inr nj ↦ sym ni.0 ∙ nj.0
            ]
          ])
          apart'.1
          (λ j r x hr g y. elim (f.each true j r x y) [
            | inl old ↦ fresh' j r x hr (inr g) old
            | inr new ↦ apart'.0 (ap host new.1.1 ∙ hr) (subst₂ (λ r'' x''. Gives hs r'' x'') (sym new.1.1) (sym new.1.2) g)
          ])
      first (Borrow r' x') o f apart' fresh' m' again =
          again
          (λ i j r x hr hi hj. once i j r x hr (borrowed_back r' x' m o.map f i r x hi) (borrowed_back r' x' m o.map f j r x hj))
          apart' (λ j r x hr g y. fresh' j r x hr g (borrowed_back r' x' m o.map f j r x y))

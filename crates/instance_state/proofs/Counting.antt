-- How many handles of a table are borrowed, after each call.
use Rattle.std.proofs.Common.{◌≡◌, ◌≤◌, ◌<◌, ◌^◌, ℕ, zero, suc, ◌+◌, ◌==◌, ◌||◌, nat_lt, Bool, true, false, not, List, [], ◌∷◌, ◌++◌, length, get_or, set, Option, Some, None, cond, refl, sym, ap, ◌∙◌, subst, arith, length-set}
use Rattle.std.specs.List.{count_by, list_any}
use Rattle.std.specs.Option.{option_map}
use Rattle.std.proofs.lemmas.List.{length-append}
use Rattle.std.proofs.lemmas.List.Sums.{sum_by-cons, sum_by-set, sum_by-append, count_by-le-length}
use Rattle.std.proofs.lemmas.Bool.Decides.{nat_tests}
use Rattle.handle_space.specs.HandleMap.{Entry, HandleMap, Answered, Held, most_live, empty, own_entry, answered, entry_at, with_entry, without, added, add, lent_less, lend, IsLent, unlend, take, take_own}
use Rattle.handle_space.proofs.MapLaws.{entry_of_is, lend_is, take_is, take_own_is}
use Rattle.comp_worlds.specs.Passing.{is_borrow, has_borrow}
use Rattle.instance_state.specs.Counted.{IsCounted, AreBelow}

abbrev pub Entries : Type 0
Entries = List (Option (Entry ℕ))

abbrev weight : Option (Entry ℕ) → ℕ
weight o = cond (is_borrow o) 1 0

set_count : (es : Entries) (i : ℕ) (o : Option (Entry ℕ)) → i < length es → count_by is_borrow (set es i o) + weight (get_or es i None) ≡ count_by is_borrow es + weight o
set_count es i o lt = sum_by-set weight es i o None lt

push_count : (es : Entries) (o : Option (Entry ℕ)) → count_by is_borrow (es ++ o ∷ []) ≡ count_by is_borrow es + weight o
push_count es o = omega (arith, sum_by-append weight es (o ∷ []))

there : (es : Entries) (i : ℕ) (e : Entry ℕ) → get_or es i None ≡ Some e → i < length es
there [] i e h = absurd (cc)
there (x ∷ es) zero e h = omega arith
there (x ∷ es) (suc i) e h = let rest = there es i e h in omega arith

still : (es : Entries) (i : ℕ) (o : Option (Entry ℕ)) (is : List ℕ) → AreBelow (length es) is → AreBelow (length (set es i o)) is
still es i o is h = subst (λ n. AreBelow (n) is) (sym (length-set es i o)) h

later : (n : ℕ) (is : List ℕ) → AreBelow (n) is → AreBelow (n + 1) is
later n [] h = tt
later n (i ∷ is) h = (omega (arith, h.0), later n is h.1)

pub counted_empty : IsCounted empty 0
counted_empty = record { count = refl; freed = tt; few = omega arith }

-- another entry at an index that has one, borrowed or not as before
counted_set : (m : HandleMap ℕ) (n i : ℕ) (e : Entry ℕ) (o : Option (Entry ℕ)) → IsCounted m n → entry_at m i ≡ Some e → is_borrow o ≡ not e.owned → IsCounted (record { entries = set m.entries i o; freed = m.freed }) n
counted_set m n i e o c at same =
    let lt = there m.entries i e at in
    let count = set_count m.entries i o lt in
    let before : weight (get_or m.entries i None) ≡ cond (not e.owned) 1 0 = ap weight at in
    let behind : weight o ≡ cond (not e.owned) 1 0 = ap (λ b. cond b 1 0) same in
    record { count = omega (arith, count, before, behind, c.count); freed = still m.entries i o m.freed c.freed; few = omega (arith, length-set m.entries i o, c.few) }

-- an entry leaves
counted_less : (m : HandleMap ℕ) (n i : ℕ) (e : Entry ℕ) → IsCounted m n → entry_at m i ≡ Some e → (k : ℕ) → k + cond (not e.owned) 1 0 ≡ n → IsCounted (without m i) k
counted_less m n i e c at k left =
    let lt = there m.entries i e at in
    let count = set_count m.entries i None lt in
    let before : weight (get_or m.entries i None) ≡ cond (not e.owned) 1 0 = ap weight at in
    let none : weight None ≡ 0 = refl in
    let length_is = length-set m.entries i (let o : Option (Entry ℕ) = None in o) in
    record { count = omega (arith, count, before, none, c.count, left); freed = (omega (arith, lt, length_is), still m.entries i None m.freed c.freed); few = omega (arith, length_is, c.few) }

owned_same : (e more : Entry ℕ) (b : Bool) → e.owned ≡ b → (e.owned ≡ true → more ≡ record e { lent = e.lent + 1 }) → (e.owned ≡ false → more ≡ e) → more.owned ≡ e.owned
owned_same e more true is own borrow = ap (λ (x : Entry ℕ). x.owned) (own is)
owned_same e more false is own borrow = ap (λ (x : Entry ℕ). x.owned) (borrow is)

pub counted_lend : (m m' : HandleMap ℕ) (n i r : ℕ) (h : Held ℕ) → IsCounted m n → lend m i r ≡ Some (answered h m') → IsCounted m' n
counted_lend m m' n i r h c e =
    let l = lend_is m i r (answered h m') e in
    let at = (entry_of_is m i r l.entry l.found).0 in
    let map_is : m' ≡ with_entry m i l.more = ap (λ (a : Answered ℕ (Held ℕ)). a.map) l.is in
    let same : l.more.owned ≡ l.entry.owned = owned_same l.entry l.more l.entry.owned refl l.own l.borrow in
    subst (λ x. IsCounted x n) (sym map_is) (counted_set m n i l.entry (Some l.more) c at (ap not same))

pub counted_unlend : (m : HandleMap ℕ) (n i : ℕ) → IsCounted m n → IsLent m i → IsCounted (unlend m i) n
counted_unlend m n i c lent = at (entry_at m i) refl
  where
    at : (o : Option (Entry ℕ)) → entry_at m i ≡ o → IsCounted (unlend m i) n
    at None e = absurd (rw e at lent)
    at (Some x) e = counted_set m n i x (option_map lent_less (entry_at m i)) c e (rw e refl)

pub counted_take_own : (m m' : HandleMap ℕ) (n i r x : ℕ) → IsCounted m n → take_own m i r ≡ Some (answered x m') → IsCounted m' n
counted_take_own m m' n i r x c e =
    let t = take_own_is m i r (answered x m') e in
    let at = (entry_of_is m i r t.0 t.1).0 in
    let map_is : m' ≡ without m i = ap (λ (a : Answered ℕ ℕ). a.map) t.4 in
    let none : weight (Some t.0) ≡ 0 = ap (λ b. cond (not b) 1 0) t.2 in
    subst (λ y. IsCounted y n) (sym map_is) (counted_less m n i t.0 c at n (omega (arith, none)))

pub counted_take : (m m' : HandleMap ℕ) (n i r k : ℕ) (h : Held ℕ) → IsCounted m n → take m i r ≡ Some (answered h m') → k + cond (not h.owned) 1 0 ≡ n → IsCounted m' k
counted_take m m' n i r k h c e left =
    let t = take_is m i r (answered h m') e in
    let at = (entry_of_is m i r t.0 t.1).0 in
    let map_is : m' ≡ without m i = ap (λ (a : Answered ℕ (Held ℕ)). a.map) t.3 in
    let form : h.owned ≡ t.0.owned = ap (λ (a : Answered ℕ (Held ℕ)). a.answer.owned) t.3 in
    subst (λ y. IsCounted y k) (sym map_is) (counted_less m n i t.0 c at k (ap (λ b. k + cond (not b) 1 0) (sym form) ∙ left))

-- a borrowed handle that is taken was counted
pub borrowed_counts : (m m' : HandleMap ℕ) (n i r : ℕ) (h : Held ℕ) → IsCounted m n → take m i r ≡ Some (answered h m') → h.owned ≡ false → 0 < n
borrowed_counts m m' n i r h c e owned =
    let t = take_is m i r (answered h m') e in
    let at = (entry_of_is m i r t.0 t.1).0 in
    let form : h.owned ≡ t.0.owned = ap (λ (a : Answered ℕ (Held ℕ)). a.answer.owned) t.3 in
    let lt = there m.entries i t.0 at in
    let count = set_count m.entries i None lt in
    let before : weight (get_or m.entries i None) ≡ 1 = ap weight at ∙ ap (λ b. cond (not b) 1 0) (sym form ∙ owned) in
    omega (arith, count, before, c.count)

counted_added : (m m' : HandleMap ℕ) (n i : ℕ) (e : Entry ℕ) (fs : List ℕ) → m.freed ≡ fs → IsCounted m n → entry_at m i ≡ None → i < 2 ^ 32 → added e m.entries fs ≡ answered i m' → IsCounted m' (n + cond (not e.owned) 1 0)
counted_added m m' n i e [] f c free small is =
    let place : length m.entries ≡ i = ap (λ (a : Answered ℕ ℕ). a.answer) is in
    let map_is : record { entries = m.entries ++ Some e ∷ []; freed = [] } ≡ m' = ap (λ (a : Answered ℕ ℕ). a.map) is in
    let count = push_count m.entries (Some e) in
    let long = length-append m.entries (Some e ∷ []) in
    subst (λ x. IsCounted x (n + cond (not e.owned) 1 0)) map_is (record { count = omega (arith, count, c.count); freed = tt; few = omega (arith, long, place, small) })
counted_added m m' n i e (j ∷ fs) f c free small is =
    let place : j ≡ i = ap (λ (a : Answered ℕ ℕ). a.answer) is in
    let map_is : record { entries = set m.entries j (Some e); freed = fs } ≡ m' = ap (λ (a : Answered ℕ ℕ). a.map) is in
    let all : AreBelow (length m.entries) (j ∷ fs) = subst (λ (ks : List ℕ). AreBelow (length m.entries) ks) f c.freed in
    let count = set_count m.entries j (Some e) all.0 in
    let none : weight (get_or m.entries j None) ≡ 0 = ap weight (ap (λ k. get_or m.entries k None) place ∙ free) in
    subst (λ x. IsCounted x (n + cond (not e.owned) 1 0)) map_is (record { count = omega (arith, count, none, c.count); freed = still m.entries j (Some e) fs all.1; few = omega (arith, length-set m.entries j (Some e), c.few) })

pub counted_add : (m m' : HandleMap ℕ) (n i : ℕ) (e : Entry ℕ) → IsCounted m n → entry_at m i ≡ None → i < 2 ^ 32 → add m e ≡ Some (answered i m') → IsCounted m' (n + cond (not e.owned) 1 0)
counted_add m m' n i e c free small is = counted_added m m' n i e m.freed refl c free small (room (count_by_live == most_live) is)
  where
    count_by_live : ℕ
    count_by_live = count_by (λ (o : Option (Entry ℕ)). elim o [ None ↦ false | Some x ↦ true ]) m.entries

    room : (b : Bool) → cond b None (Some (added e m.entries m.freed)) ≡ Some (answered i m') → added e m.entries m.freed ≡ answered i m'
    room true h = absurd (cc)
    room false h = cc

pub counted_own : (m m' : HandleMap ℕ) (n i r x : ℕ) → IsCounted m n → entry_at m i ≡ None → i < 2 ^ 32 → add m (own_entry r x) ≡ Some (answered i m') → IsCounted m' n
counted_own m m' n i r x c free small is = subst (λ k. IsCounted m' k) (omega arith) (counted_add m m' n i (own_entry r x) c free small is)

-- how many there are at most
pub counted_few : (m : HandleMap ℕ) (n : ℕ) → IsCounted m n → n ≤ 2 ^ 32
counted_few m n c = omega (arith, count_by-le-length is_borrow m.entries, c.count, c.few)

any_step : (b r : Bool) (n k : ℕ) → r ≡ not (n == 0) → k ≡ cond b 1 0 + n → (b || r) ≡ not (k == 0)
any_step true r n k h e = grind (arith, nat_tests)
any_step false r n k h e = h ∙ ap (λ j. not (j == 0)) (let same : n ≡ k = omega arith in same)

any_is : (es : Entries) → list_any is_borrow es ≡ not (count_by is_borrow es == 0)
any_is [] = refl
any_is (e ∷ es) = any_step (is_borrow e) (list_any is_borrow es) (count_by is_borrow es) _ (any_is es) (sum_by-cons weight e es)

above : (n : ℕ) → nat_lt 0 n ≡ not (n == 0)
above n = grind (arith, nat_tests)

pub has_is : (m : HandleMap ℕ) (n : ℕ) → IsCounted m n → nat_lt 0 n ≡ has_borrow m
has_is m n c = above n ∙ ap (λ k. not (k == 0)) (sym c.count) ∙ sym (any_is m.entries)

pub ruleset counts = (counted_empty, counted_lend, counted_unlend, counted_take_own, has_is)

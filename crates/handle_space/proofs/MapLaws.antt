-- What the operations on a handle map do to its entries, and that they are the same over whatever the handles stand for.
use Rattle.std.proofs.Common.{◌≡◌, ◌≢◌, ℕ, zero, suc, ◌+◌, ◌-◌, ◌<◌, ◌==◌, ◌&&◌, Bool, true, false, nat_lt, List, [], ◌∷◌, ◌++◌, map, length, get_or, set, Option, Some, None, is_some, IsSome, count_by, cond, true≢false, refl, sym, ap, ◌∙◌, arith}
use Rattle.std.specs.Option.{option_map, option_and_then}
use Rattle.std.proofs.lemmas.Bool.{eqb-true}
use Rattle.std.proofs.lemmas.List.{set-set, set-get_or, map-set, length-map, map_push, get_or-set_same, get_or-set_other, get_or_past}
use Rattle.std.proofs.lemmas.List.Sums.{sum_by-cons}
use Rattle.handle_space.specs.HandleMap.{Entry, HandleMap, Answered, Held, most_live, most_loans, answered, held, entry_at, entry_of, live_count, with_entry, without, added, add, lent_more, lent_less, lend, IsLent, unlend, take, take_own, rep_of, entry_over, held_over, map_over, answered_over}

-- ---- options and tests

and_then_is : {A B : Type 0} (f : A → Option B) (o : Option A) (b : B) → option_and_then f o ≡ Some b → (a : A) × (o ≡ Some a) × (f a ≡ Some b)
and_then_is f None b h = absurd (cc)
and_then_is f (Some a) b h = (a, refl, h)

map_is : {A B : Type 0} (f : A → B) (o : Option A) (b : B) → option_map f o ≡ Some b → (a : A) × (o ≡ Some a) × (f a ≡ b)
map_is f None b h = absurd (cc)
map_is f (Some a) b h = (a, refl, cc)

chosen : {A : Type 0} (test : Bool) (x y : A) → cond test (Some x) None ≡ Some y → (test ≡ true) × (x ≡ y)
chosen true x y h = (refl, cc)
chosen false x y h = absurd (cc)

both : (a b : Bool) → (a && b) ≡ true → (a ≡ true) × (b ≡ true)
both true b h = (refl, h)
both false b h = absurd (true≢false (sym h))

module _ {R : Type 0} where
  -- an index with an entry is one of the map's
  entry_within : (m : HandleMap R) (index : ℕ) → IsSome (entry_at m index) → index < length m.entries
  entry_within m index live = grind (arith, get_or_past)

  -- ---- the entries after a write

  pub entry_at-with_entry_same : (m : HandleMap R) (index : ℕ) (e : Entry R) → IsSome (entry_at m index) → entry_at (with_entry m index e) index ≡ Some e
  entry_at-with_entry_same m index e live = get_or-set_same m.entries index (Some e) None (entry_within m index live)

  pub entry_at-with_entry_other : (m : HandleMap R) (index other : ℕ) (e : Entry R) → other ≢ index → entry_at (with_entry m index e) other ≡ entry_at m other
  entry_at-with_entry_other m index other e apart = get_or-set_other m.entries index other (Some e) None apart

  pub entry_at-without_other : (m : HandleMap R) (index other : ℕ) → other ≢ index → entry_at (without m index) other ≡ entry_at m other
  entry_at-without_other m index other apart = get_or-set_other m.entries index other None None apart

  none-set : (es : List (Option (Entry R))) (index : ℕ) → get_or (set es index None) index None ≡ None
  none-set [] index = refl
  none-set (e ∷ es) zero = refl
  none-set (e ∷ es) (suc index) = none-set es index

  pub entry_at-without_same : (m : HandleMap R) (index : ℕ) → entry_at (without m index) index ≡ None
  entry_at-without_same m index = none-set m.entries index

  pub entry_at-unlend_other : (m : HandleMap R) (index other : ℕ) → other ≢ index → entry_at (unlend m index) other ≡ entry_at m other
  entry_at-unlend_other m index other apart = get_or-set_other m.entries index other (option_map lent_less (entry_at m index)) None apart

  -- ---- what an operation that does not trap found, and what it answers

  pub entry_of_is : (m : HandleMap R) (index resource : ℕ) (e : Entry R) → entry_of m index resource ≡ Some e → (entry_at m index ≡ Some e) × (e.resource ≡ resource)
  entry_of_is m index resource e h =
      let found = and_then_is (λ (x : Entry R). cond (x.resource == resource) (Some x) None) (entry_at m index) e h in
      let same = chosen (found.0.resource == resource) found.0 e found.2 in
      (found.1 ∙ ap Some same.1, ap (λ z. z.resource) (sym same.1) ∙ eqb-true found.0.resource resource same.0)

  lent_more_of : (e more : Entry R) (owned few : Bool) → cond owned (cond few (Some (record e { lent = e.lent + 1 })) None) (Some e) ≡ Some more → (owned ≡ true → more ≡ record e { lent = e.lent + 1 }) × (owned ≡ false → more ≡ e)
  lent_more_of e more true true h = (λ is. cc, λ is. absurd (true≢false is))
  lent_more_of e more true false h = absurd (cc)
  lent_more_of e more false few h = (λ is. absurd (true≢false (sym is)), λ is. cc)

  -- what lending does: an own entry's count rises by one, and a borrow entry stays
  pub record Lends (m : HandleMap R) (index resource : ℕ) (a : Answered R (Held R)) : Type 0 where
    pub entry : Entry R
    pub more : Entry R
    pub found : entry_of m index resource ≡ Some entry
    pub own : entry.owned ≡ true → more ≡ record entry { lent = entry.lent + 1 }
    pub borrow : entry.owned ≡ false → more ≡ entry
    pub is : a ≡ answered (held entry) (with_entry m index more)

  pub lend_is : (m : HandleMap R) (index resource : ℕ) (a : Answered R (Held R)) → lend m index resource ≡ Some a → Lends m index resource a
  lend_is m index resource a h =
      let found = and_then_is (λ (e : Entry R). option_map (λ more. answered (held e) (with_entry m index more)) (lent_more e)) (entry_of m index resource) a h in
      let lent = map_is (λ (more : Entry R). answered (held found.0) (with_entry m index more)) (lent_more found.0) a found.2 in
      let more = lent_more_of found.0 lent.0 found.0.owned (nat_lt found.0.lent most_loans) lent.1 in
      record { entry = found.0; more = lent.0; found = found.1; own = more.0; borrow = more.1; is = sym lent.2 }

  same_entries : (m : HandleMap R) (es : List (Option (Entry R))) → es ≡ m.entries → record { entries = es; freed = m.freed } ≡ m
  same_entries m es same = ap (λ x. record { entries = x; freed = m.freed }) same

  some_live : (m : HandleMap R) (index : ℕ) (e : Entry R) → entry_at m index ≡ Some e → IsSome (entry_at m index)
  some_live m index e is = rw is refl

  -- a borrow entry that is lent stays
  pub lend-borrow : (m : HandleMap R) (index resource : ℕ) (a : Answered R (Held R)) → lend m index resource ≡ Some a → a.answer.owned ≡ false → a.map ≡ m
  lend-borrow m index resource a h borrowed =
      let l = lend_is m index resource a h in
      let at = (entry_of_is m index resource l.entry l.found).0 in
      let form : l.entry.owned ≡ false = ap (λ z. z.answer.owned) (sym l.is) ∙ borrowed in
      ap (λ z. z.map) l.is ∙ same_entries m _ (ap (λ e. set m.entries index (Some e)) (l.borrow form) ∙ ap (set m.entries index) (sym at) ∙ set-get_or m.entries index None)

  -- an own entry is lent after a loan of it, and the map is as before when the loan ends
  pub lend-lent : (m : HandleMap R) (index resource : ℕ) (a : Answered R (Held R)) → lend m index resource ≡ Some a → a.answer.owned ≡ true → IsLent a.map index × (unlend a.map index ≡ m)
  lend-lent m index resource a h owned =
      let l = lend_is m index resource a h in
      let at = (entry_of_is m index resource l.entry l.found).0 in
      let form : l.entry.owned ≡ true = ap (λ z. z.answer.owned) (sym l.is) ∙ owned in
      let more = l.own form in
      let map_is : a.map ≡ with_entry m index l.more = ap (λ z. z.map) l.is in
      let now : entry_at (with_entry m index l.more) index ≡ Some l.more = entry_at-with_entry_same m index l.more (some_live m index l.entry at) in
      let less : lent_less l.more ≡ l.entry = ap lent_less more ∙ ap (λ n. record l.entry { lent = n }) (let back : l.entry.lent + 1 - 1 ≡ l.entry.lent = omega arith in back) in (
        rw (map_is, now, more) (omega arith),
        rw (map_is, now) (same_entries m _ (set-set m.entries index (Some l.more) (Some (lent_less l.more)) ∙ ap (λ e. set m.entries index (Some e)) less ∙ ap (set m.entries index) (sym at) ∙ set-get_or m.entries index None)),
      )

  -- what leaves a table was not lent
  pub take_is : (m : HandleMap R) (index resource : ℕ) (a : Answered R (Held R)) → take m index resource ≡ Some a → (e : Entry R) × (entry_of m index resource ≡ Some e) × (e.lent ≡ 0) × (a ≡ answered (held e) (without m index))
  take_is m index resource a h =
      let found = and_then_is (λ (e : Entry R). cond (e.lent == 0) (Some (answered (held e) (without m index))) None) (entry_of m index resource) a h in
      let idle = chosen (found.0.lent == 0) (answered (held found.0) (without m index)) a found.2 in
      (found.0, found.1, eqb-true found.0.lent 0 idle.0, sym idle.1)

  pub take_own_is : (m : HandleMap R) (index resource : ℕ) (a : Answered R R) → take_own m index resource ≡ Some a → (e : Entry R) × (entry_of m index resource ≡ Some e) × (e.owned ≡ true) × (e.lent ≡ 0) × (a ≡ answered e.rep (without m index))
  take_own_is m index resource a h =
      let found = and_then_is (λ (e : Entry R). cond (e.owned && e.lent == 0) (Some (answered e.rep (without m index))) None) (entry_of m index resource) a h in
      let idle = chosen (found.0.owned && found.0.lent == 0) (answered found.0.rep (without m index)) a found.2 in
      let parts = both found.0.owned (found.0.lent == 0) idle.0 in
      (found.0, found.1, parts.0, eqb-true found.0.lent 0 parts.1, sym idle.1)

  pub rep_of_is : (m : HandleMap R) (index resource : ℕ) (rep : R) → rep_of m index resource ≡ Some rep → (e : Entry R) × (entry_of m index resource ≡ Some e) × (e.rep ≡ rep)
  rep_of_is m index resource rep h = map_is (λ (e : Entry R). e.rep) (entry_of m index resource) rep h

-- ---- the same over whatever the handles stand for

module _ {R Q : Type 0} where
  get_or-over : (f : R → Q) (es : List (Option (Entry R))) (i : ℕ) → get_or (map (option_map (entry_over f)) es) i None ≡ option_map (entry_over f) (get_or es i None)
  get_or-over f [] i = refl
  get_or-over f (e ∷ es) zero = refl
  get_or-over f (e ∷ es) (suc i) = get_or-over f es i

  pub entry_at-map_over : (f : R → Q) (m : HandleMap R) (index : ℕ) → entry_at (map_over f m) index ≡ option_map (entry_over f) (entry_at m index)
  entry_at-map_over f m index = get_or-over f m.entries index

  choose-over : (f : R → Q) (test : Bool) (e : Entry R) → cond test (Some (entry_over f e)) None ≡ option_map (entry_over f) (cond test (Some e) None)
  choose-over f true e = refl
  choose-over f false e = refl

  of-over : (f : R → Q) (resource : ℕ) (o : Option (Entry R)) → option_and_then (λ e. cond (e.resource == resource) (Some e) None) (option_map (entry_over f) o) ≡ option_map (entry_over f) (option_and_then (λ e. cond (e.resource == resource) (Some e) None) o)
  of-over f resource None = refl
  of-over f resource (Some e) = choose-over f (e.resource == resource) e

  pub entry_of-map_over : (f : R → Q) (m : HandleMap R) (index resource : ℕ) → entry_of (map_over f m) index resource ≡ option_map (entry_over f) (entry_of m index resource)
  entry_of-map_over f m index resource =
      ap (option_and_then (λ (e : Entry Q). cond (e.resource == resource) (Some e) None)) (entry_at-map_over f m index) ∙ of-over f resource (entry_at m index)

  pub with_entry-map_over : (f : R → Q) (m : HandleMap R) (index : ℕ) (e : Entry R) → with_entry (map_over f m) index (entry_over f e) ≡ map_over f (with_entry m index e)
  with_entry-map_over f m index e = ap (λ es. record { entries = es; freed = m.freed }) (sym (map-set (option_map (entry_over f)) m.entries index (Some e)))

  pub without-map_over : (f : R → Q) (m : HandleMap R) (index : ℕ) → without (map_over f m) index ≡ map_over f (without m index)
  without-map_over f m index = ap (λ es. record { entries = es; freed = index ∷ m.freed }) (sym (map-set (option_map (entry_over f)) m.entries index None))

  less-over : (f : R → Q) (o : Option (Entry R)) → option_map lent_less (option_map (entry_over f) o) ≡ option_map (entry_over f) (option_map lent_less o)
  less-over f None = refl
  less-over f (Some e) = refl

  pub unlend-map_over : (f : R → Q) (m : HandleMap R) (index : ℕ) → unlend (map_over f m) index ≡ map_over f (unlend m index)
  unlend-map_over f m index =
      ap (λ o. record { entries = set (map (option_map (entry_over f)) m.entries) index o; freed = m.freed })
      (ap (option_map lent_less) (entry_at-map_over f m index) ∙ less-over f (entry_at m index))
      ∙ ap (λ es. record { entries = es; freed = m.freed }) (sym (map-set (option_map (entry_over f)) m.entries index (option_map lent_less (entry_at m index))))

  lent-over : (f : R → Q) (m : HandleMap R) (index : ℕ) (e : Entry R) (owned few : Bool) → option_map (λ more. answered (held (entry_over f e)) (with_entry (map_over f m) index more)) (cond owned (cond few (Some (record (entry_over f e) { lent = e.lent + 1 })) None) (Some (entry_over f e))) ≡ option_map (answered_over f (held_over f)) (option_map (λ more. answered (held e) (with_entry m index more)) (cond owned (cond few (Some (record e { lent = e.lent + 1 })) None) (Some e)))
  lent-over f m index e true true = ap (λ x. Some (answered (held (entry_over f e)) x)) (with_entry-map_over f m index (record e { lent = e.lent + 1 }))
  lent-over f m index e true false = refl
  lent-over f m index e false few = ap (λ x. Some (answered (held (entry_over f e)) x)) (with_entry-map_over f m index e)

  lend_found : (f : R → Q) (m : HandleMap R) (index : ℕ) (o : Option (Entry R)) → option_and_then (λ (e : Entry Q). option_map (λ more. answered (held e) (with_entry (map_over f m) index more)) (lent_more e)) (option_map (entry_over f) o) ≡ option_map (answered_over f (held_over f)) (option_and_then (λ (e : Entry R). option_map (λ more. answered (held e) (with_entry m index more)) (lent_more e)) o)
  lend_found f m index None = refl
  lend_found f m index (Some e) = lent-over f m index e e.owned (nat_lt e.lent most_loans)

  pub lend-map_over : (f : R → Q) (m : HandleMap R) (index resource : ℕ) → lend (map_over f m) index resource ≡ option_map (answered_over f (held_over f)) (lend m index resource)
  lend-map_over f m index resource =
      ap (option_and_then (λ (e : Entry Q). option_map (λ more. answered (held e) (with_entry (map_over f m) index more)) (lent_more e))) (entry_of-map_over f m index resource)
      ∙ lend_found f m index (entry_of m index resource)

  idle-over : {A B : Type 0} (f : R → Q) (g : A → B) (m : HandleMap R) (index : ℕ) (answer : A) (test : Bool) → cond test (Some (answered (g answer) (without (map_over f m) index))) None ≡ option_map (answered_over f g) (cond test (Some (answered answer (without m index))) None)
  idle-over f g m index answer true = ap (λ x. Some (answered (g answer) x)) (without-map_over f m index)
  idle-over f g m index answer false = refl

  take_found : (f : R → Q) (m : HandleMap R) (index : ℕ) (o : Option (Entry R)) → option_and_then (λ (e : Entry Q). cond (e.lent == 0) (Some (answered (held e) (without (map_over f m) index))) None) (option_map (entry_over f) o) ≡ option_map (answered_over f (held_over f)) (option_and_then (λ (e : Entry R). cond (e.lent == 0) (Some (answered (held e) (without m index))) None) o)
  take_found f m index None = refl
  take_found f m index (Some e) = idle-over f (held_over f) m index (held e) (e.lent == 0)

  pub take-map_over : (f : R → Q) (m : HandleMap R) (index resource : ℕ) → take (map_over f m) index resource ≡ option_map (answered_over f (held_over f)) (take m index resource)
  take-map_over f m index resource =
      ap (option_and_then (λ (e : Entry Q). cond (e.lent == 0) (Some (answered (held e) (without (map_over f m) index))) None)) (entry_of-map_over f m index resource)
      ∙ take_found f m index (entry_of m index resource)

  take_own_found : (f : R → Q) (m : HandleMap R) (index : ℕ) (o : Option (Entry R)) → option_and_then (λ (e : Entry Q). cond (e.owned && e.lent == 0) (Some (answered e.rep (without (map_over f m) index))) None) (option_map (entry_over f) o) ≡ option_map (answered_over f f) (option_and_then (λ (e : Entry R). cond (e.owned && e.lent == 0) (Some (answered e.rep (without m index))) None) o)
  take_own_found f m index None = refl
  take_own_found f m index (Some e) = idle-over f f m index e.rep (e.owned && e.lent == 0)

  pub take_own-map_over : (f : R → Q) (m : HandleMap R) (index resource : ℕ) → take_own (map_over f m) index resource ≡ option_map (answered_over f f) (take_own m index resource)
  take_own-map_over f m index resource =
      ap (option_and_then (λ (e : Entry Q). cond (e.owned && e.lent == 0) (Some (answered e.rep (without (map_over f m) index))) None)) (entry_of-map_over f m index resource)
      ∙ take_own_found f m index (entry_of m index resource)

  rep_found : (f : R → Q) (o : Option (Entry R)) → option_map (λ e. e.rep) (option_map (entry_over f) o) ≡ option_map f (option_map (λ e. e.rep) o)
  rep_found f None = refl
  rep_found f (Some e) = refl

  pub rep_of-map_over : (f : R → Q) (m : HandleMap R) (index resource : ℕ) → rep_of (map_over f m) index resource ≡ option_map f (rep_of m index resource)
  rep_of-map_over f m index resource = ap (option_map (λ e. e.rep)) (entry_of-map_over f m index resource) ∙ rep_found f (entry_of m index resource)

  count-over : (f : R → Q) (es : List (Option (Entry R))) → count_by is_some (map (option_map (entry_over f)) es) ≡ count_by is_some es
  count-over f [] = refl
  count-over f (None ∷ es) = sum_by-cons (λ o. cond (is_some o) 1 0) None (map (option_map (entry_over f)) es) ∙ ap (λ n. 0 + n) (count-over f es) ∙ sym (sum_by-cons (λ o. cond (is_some o) 1 0) None es)
  count-over f (Some e ∷ es) = sum_by-cons (λ o. cond (is_some o) 1 0) (Some (entry_over f e)) (map (option_map (entry_over f)) es) ∙ ap (λ n. 1 + n) (count-over f es) ∙ sym (sum_by-cons (λ o. cond (is_some o) 1 0) (Some e) es)

  pub live_count-map_over : (f : R → Q) (m : HandleMap R) → live_count (map_over f m) ≡ live_count m
  live_count-map_over f m = count-over f m.entries

  pub added-map_over : (f : R → Q) (e : Entry R) (es : List (Option (Entry R))) (freed : List ℕ) → added (entry_over f e) (map (option_map (entry_over f)) es) freed ≡ answered_over f (λ i. i) (added e es freed)
  added-map_over f e es [] =
      ap (λ n. answered n (record { entries = map (option_map (entry_over f)) es ++ Some (entry_over f e) ∷ []; freed = [] })) (length-map es (option_map (entry_over f)))
      ∙ ap (λ xs. answered (length es) (record { entries = xs; freed = [] })) (sym (map_push (option_map (entry_over f)) es (Some e)))
  added-map_over f e es (index ∷ freed) =
      ap (λ xs. answered index (record { entries = xs; freed = freed })) (sym (map-set (option_map (entry_over f)) es index (Some e)))

  room-over : (f : R → Q) (test : Bool) (a : Answered R ℕ) → cond test None (Some (answered_over f (λ i. i) a)) ≡ option_map (answered_over f (λ i. i)) (cond test None (Some a))
  room-over f true a = refl
  room-over f false a = refl

  pub add-map_over : (f : R → Q) (m : HandleMap R) (e : Entry R) → add (map_over f m) (entry_over f e) ≡ option_map (answered_over f (λ i. i)) (add m e)
  add-map_over f m e =
      ap (λ n. cond (n == most_live) None (Some (added (entry_over f e) (map (option_map (entry_over f)) m.entries) m.freed))) (live_count-map_over f m)
      ∙ ap (λ a. cond (live_count m == most_live) None (Some a)) (added-map_over f e m.entries m.freed)
      ∙ room-over f (live_count m == most_live) (added e m.entries m.freed)

-- Handle tables, with other numbers for the resources of their entries.
use Rattle.std.proofs.Common.{◌≡◌, ℕ, zero, suc, ◌+◌, ◌==◌, ◌&&◌, ◌||◌, not, Bool, true, false, nat_lt, List, [], ◌∷◌, ◌++◌, map, length, get_or, set, Option, Some, None, is_some, count_by, cond, refl, sym, ◌∙◌, ap}
use Rattle.std.specs.Option.{option_map, option_and_then}
use Rattle.std.specs.List.{list_any}
use Rattle.std.proofs.lemmas.Bool.{eqb-true, eqb-false}
use Rattle.std.proofs.lemmas.List.{map-set, length-map, map_push}
use Rattle.std.proofs.lemmas.List.Sums.{sum_by-cons}
use Rattle.wit_types.specs.Plain.{Plain, BoolType, SignedType, UnsignedType, CharType, StringType, ListType, RecordType, VariantType, FlagsType, OwnType, BorrowType}
use Rattle.abi_layout.specs.Handles as abi
use Rattle.handle_space.specs.HandleMap.{Entry, HandleMap, Answered, Held, most_live, most_loans, answered, held, own_entry, borrow_entry, entry_at, entry_of, live_count, with_entry, without, added, add, lent_more, lent_less, lend, unlend, take, take_own, rep_of}
use Rattle.comp_types.specs.Substitution.{value_with}
use Rattle.comp_worlds.specs.Passing.{Handle, Own, Borrow, rep_in, reps_in, Kind, IsOwn, IsBorrow, and_kind, kinds_in, handle_by, handles_by, Named, OwnAt, BorrowAt, and_named, named_in, Lifted, and_lifted, lift_handles, unlend_all, lower_borrow, add_handle, and_index, add_handles, is_borrow, has_borrow}
use Rattle.comp_inside.proofs.Types.{handle_type_with}

-- ---- handles on their way

abbrev pub handle_to : {R : Type 0} → (ℕ → ℕ) → Handle R → Handle R
handle_to f (Own r x) = Own (f r) x
handle_to f (Borrow r x) = Borrow (f r) x

abbrev pub kind_to : (ℕ → ℕ) → Kind → Kind
kind_to f (IsOwn r) = IsOwn (f r)
kind_to f (IsBorrow r) = IsBorrow (f r)

abbrev pub named_to : (ℕ → ℕ) → Named → Named
named_to f (OwnAt r i) = OwnAt (f r) i
named_to f (BorrowAt r i) = BorrowAt (f r) i

module _ (f : ℕ → ℕ) where
  and_kind_to : (ty : Plain) (ks : List Kind) → and_kind (value_with f ty) (map (kind_to f) ks) ≡ map (kind_to f) (and_kind ty ks)
  and_kind_to BoolType ks = refl
  and_kind_to (SignedType width) ks = refl
  and_kind_to (UnsignedType width) ks = refl
  and_kind_to CharType ks = refl
  and_kind_to StringType ks = refl
  and_kind_to (ListType item) ks = refl
  and_kind_to (RecordType form fields) ks = refl
  and_kind_to (VariantType form cases) ks = refl
  and_kind_to (FlagsType labels) ks = refl
  and_kind_to (OwnType r) ks = refl
  and_kind_to (BorrowType r) ks = refl

  pub kinds_to : (hs : List abi.Handle) → kinds_in (map (handle_type_with f) hs) ≡ map (kind_to f) (kinds_in hs)
  kinds_to [] = refl
  kinds_to (h ∷ hs) = ap (and_kind (value_with f h.ty)) (kinds_to hs) ∙ and_kind_to h.ty (kinds_in hs)

  and_named_to : (ty : Plain) (i : ℕ) (ns : List Named) → and_named (value_with f ty) i (map (named_to f) ns) ≡ map (named_to f) (and_named ty i ns)
  and_named_to BoolType i ns = refl
  and_named_to (SignedType width) i ns = refl
  and_named_to (UnsignedType width) i ns = refl
  and_named_to CharType i ns = refl
  and_named_to StringType i ns = refl
  and_named_to (ListType item) i ns = refl
  and_named_to (RecordType form fields) i ns = refl
  and_named_to (VariantType form cases) i ns = refl
  and_named_to (FlagsType labels) i ns = refl
  and_named_to (OwnType r) i ns = refl
  and_named_to (BorrowType r) i ns = refl

  pub all_named_to : (hs : List abi.Handle) → named_in (map (handle_type_with f) hs) ≡ map (named_to f) (named_in hs)
  all_named_to [] = refl
  all_named_to (h ∷ hs) = ap (and_named (value_with f h.ty) h.number) (all_named_to hs) ∙ and_named_to h.ty h.number (named_in hs)

  by_to : {R : Type 0} → (k : Kind) (x : R) → handle_by (kind_to f k) x ≡ handle_to f (handle_by k x)
  by_to (IsOwn r) x = refl
  by_to (IsBorrow r) x = refl

  pub all_by_to : {R : Type 0} → (ks : List Kind) (xs : List R) → handles_by (map (kind_to f) ks) xs ≡ map (handle_to f) (handles_by ks xs)
  all_by_to [] xs = refl
  all_by_to (k ∷ ks) [] = refl
  all_by_to (k ∷ ks) (x ∷ xs) = ap (λ h. h ∷ handles_by (map (kind_to f) ks) xs) (by_to k x) ∙ ap (λ hs. handle_to f (handle_by k x) ∷ hs) (all_by_to ks xs)

  rep_to : {R : Type 0} → (h : Handle R) → rep_in (handle_to f h) ≡ rep_in h
  rep_to (Own r x) = refl
  rep_to (Borrow r x) = refl

  pub reps_to : {R : Type 0} → (hs : List (Handle R)) → reps_in (map (handle_to f) hs) ≡ reps_in hs
  reps_to [] = refl
  reps_to (h ∷ hs) = ap (λ x. x ∷ reps_in (map (handle_to f) hs)) (rep_to h) ∙ ap (λ xs. rep_in h ∷ xs) (reps_to hs)

-- ---- tables

abbrev pub entry_to : {R : Type 0} → (ℕ → ℕ) → Entry R → Entry R
entry_to f e = record { resource = f e.resource; rep = e.rep; owned = e.owned; lent = e.lent }

abbrev pub entries_to : {R : Type 0} → (ℕ → ℕ) → List (Option (Entry R)) → List (Option (Entry R))
entries_to f es = map (option_map (entry_to f)) es

abbrev pub map_to : {R : Type 0} → (ℕ → ℕ) → HandleMap R → HandleMap R
map_to f m = record { entries = entries_to f m.entries; freed = m.freed }

abbrev pub answered_to : {R A : Type 0} → (ℕ → ℕ) → Answered R A → Answered R A
answered_to f a = answered a.answer (map_to f a.map)

abbrev pub lifted_to : {R : Type 0} → (ℕ → ℕ) → Lifted R → Lifted R
lifted_to f l = record { handles = map (handle_to f) l.handles; map = map_to f l.map; loans = l.loans }

module _ {R : Type 0} (f : ℕ → ℕ) where
  get_to : (es : List (Option (Entry R))) (i : ℕ) → get_or (entries_to f es) i None ≡ option_map (entry_to f) (get_or es i None)
  get_to [] i = refl
  get_to (e ∷ es) zero = refl
  get_to (e ∷ es) (suc i) = get_to es i

  entry_at_to : (m : HandleMap R) (i : ℕ) → entry_at (map_to f m) i ≡ option_map (entry_to f) (entry_at m i)
  entry_at_to m i = get_to m.entries i

  with_entry_to : (m : HandleMap R) (i : ℕ) (e : Entry R) → with_entry (map_to f m) i (entry_to f e) ≡ map_to f (with_entry m i e)
  with_entry_to m i e = ap (λ es. record { entries = es; freed = m.freed }) (sym (map-set (option_map (entry_to f)) m.entries i (Some e)))

  without_to : (m : HandleMap R) (i : ℕ) → without (map_to f m) i ≡ map_to f (without m i)
  without_to m i = ap (λ es. record { entries = es; freed = i ∷ m.freed }) (sym (map-set (option_map (entry_to f)) m.entries i None))

  less_to : (o : Option (Entry R)) → option_map lent_less (option_map (entry_to f) o) ≡ option_map (entry_to f) (option_map lent_less o)
  less_to None = refl
  less_to (Some e) = refl

  unlend_to : (m : HandleMap R) (i : ℕ) → unlend (map_to f m) i ≡ map_to f (unlend m i)
  unlend_to m i =
      ap (λ o. record { entries = set (entries_to f m.entries) i o; freed = m.freed }) (ap (option_map lent_less) (entry_at_to m i) ∙ less_to (entry_at m i))
      ∙ ap (λ es. record { entries = es; freed = m.freed }) (sym (map-set (option_map (entry_to f)) m.entries i (option_map lent_less (entry_at m i))))

  pub unlend_all_to : (is : List ℕ) (m : HandleMap R) → unlend_all is (map_to f m) ≡ map_to f (unlend_all is m)
  unlend_all_to [] m = refl
  unlend_all_to (i ∷ is) m = ap (unlend_all is) (unlend_to m i) ∙ unlend_all_to is (unlend m i)

  any_to : (es : List (Option (Entry R))) → list_any is_borrow (entries_to f es) ≡ list_any is_borrow es
  any_to [] = refl
  any_to (None ∷ es) = ap (λ b. false || b) (any_to es)
  any_to (Some e ∷ es) = ap (λ b. not e.owned || b) (any_to es)

  pub has_borrow_to : (m : HandleMap R) → has_borrow (map_to f m) ≡ has_borrow m
  has_borrow_to m = any_to m.entries

  -- ---- adding

  count_to : (es : List (Option (Entry R))) → count_by is_some (entries_to f es) ≡ count_by is_some es
  count_to [] = refl
  count_to (None ∷ es) = sum_by-cons (λ o. cond (is_some o) 1 0) None (entries_to f es) ∙ ap (λ n. 0 + n) (count_to es) ∙ sym (sum_by-cons (λ o. cond (is_some o) 1 0) None es)
  count_to (Some e ∷ es) = sum_by-cons (λ o. cond (is_some o) 1 0) (Some (entry_to f e)) (entries_to f es) ∙ ap (λ n. 1 + n) (count_to es) ∙ sym (sum_by-cons (λ o. cond (is_some o) 1 0) (Some e) es)

  added_to : (e : Entry R) (es : List (Option (Entry R))) (freed : List ℕ) → added (entry_to f e) (entries_to f es) freed ≡ answered_to f (added e es freed)
  added_to e es [] =
      ap (λ n. answered n (record { entries = entries_to f es ++ Some (entry_to f e) ∷ []; freed = [] })) (length-map es (option_map (entry_to f)))
      ∙ ap (λ xs. answered (length es) (record { entries = xs; freed = [] })) (sym (map_push (option_map (entry_to f)) es (Some e)))
  added_to e es (i ∷ freed) = ap (λ xs. answered i (record { entries = xs; freed = freed })) (sym (map-set (option_map (entry_to f)) es i (Some e)))

  room_to : (test : Bool) (a : Answered R ℕ) → cond test None (Some (answered_to f a)) ≡ option_map (answered_to f) (cond test None (Some a))
  room_to true a = refl
  room_to false a = refl

  pub add_to : (m : HandleMap R) (e : Entry R) → add (map_to f m) (entry_to f e) ≡ option_map (answered_to f) (add m e)
  add_to m e =
      ap (λ n. cond (n == most_live) None (Some (added (entry_to f e) (entries_to f m.entries) m.freed))) (count_to m.entries)
      ∙ ap (λ a. cond (live_count m == most_live) None (Some a)) (added_to e m.entries m.freed)
      ∙ room_to (live_count m == most_live) (added e m.entries m.freed)

  lower_to : (o : Option ℕ) (r : ℕ) (x : R) (m : HandleMap R) → lower_borrow o (f r) x (map_to f m) ≡ option_map (answered_to f) (lower_borrow o r x m)
  lower_to (Some n) r x m = refl
  lower_to None r x m = add_to m (borrow_entry r x)

  add_one_to : (plain plain' : ℕ → R → Option ℕ) → ((r : ℕ) (x : R) → plain' (f r) x ≡ plain r x) → (h : Handle R) (m : HandleMap R) → add_handle plain' (handle_to f h) (map_to f m) ≡ option_map (answered_to f) (add_handle plain h m)
  add_one_to plain plain' same (Own r x) m = add_to m (own_entry r x)
  add_one_to plain plain' same (Borrow r x) m = ap (λ o. lower_borrow o (f r) x (map_to f m)) (same r x) ∙ lower_to (plain r x) r x m

  index_to : (i : ℕ) (o : Option (Answered R (List ℕ))) → option_map (and_index i) (option_map (answered_to f) o) ≡ option_map (answered_to f) (option_map (and_index i) o)
  index_to i None = refl
  index_to i (Some a) = refl

  rest_to : (plain plain' : ℕ → R → Option ℕ) (hs : List (Handle R)) (o : Option (Answered R ℕ)) → ((m : HandleMap R) → add_handles plain' (map (handle_to f) hs) (map_to f m) ≡ option_map (answered_to f) (add_handles plain hs m)) →
      option_and_then (λ (a : Answered R ℕ). option_map (and_index a.answer) (add_handles plain' (map (handle_to f) hs) a.map)) (option_map (answered_to f) o)
      ≡ option_map (answered_to f) (option_and_then (λ (a : Answered R ℕ). option_map (and_index a.answer) (add_handles plain hs a.map)) o)
  rest_to plain plain' hs None h = refl
  rest_to plain plain' hs (Some a) h = ap (option_map (and_index a.answer)) (h a.map) ∙ index_to a.answer (add_handles plain hs a.map)

  pub add_all_to : (plain plain' : ℕ → R → Option ℕ) → ((r : ℕ) (x : R) → plain' (f r) x ≡ plain r x) → (hs : List (Handle R)) (m : HandleMap R) → add_handles plain' (map (handle_to f) hs) (map_to f m) ≡ option_map (answered_to f) (add_handles plain hs m)
  add_all_to plain plain' same [] m = refl
  add_all_to plain plain' same (h ∷ hs) m =
      ap (option_and_then (λ (a : Answered R ℕ). option_map (and_index a.answer) (add_handles plain' (map (handle_to f) hs) a.map))) (add_one_to plain plain' same h m)
      ∙ rest_to plain plain' hs (add_handle plain h m) (λ z. add_all_to plain plain' same hs z)

-- ---- finding: no two resources have one number

module _ (f : ℕ → ℕ) (once : (r s : ℕ) → f r ≡ f s → r ≡ s) where
  same_test : (r s : ℕ) → (f r == f s) ≡ (r == s)
  same_test r s = at (r == s) refl (f r == f s) refl
    where
      at : (a : Bool) → (r == s) ≡ a → (b : Bool) → (f r == f s) ≡ b → b ≡ a
      at true is true is' = refl
      at false is false is' = refl
      at true is false is' = absurd (eqb-false (f r) (f s) is' (ap f (eqb-true r s is)))
      at false is true is' = absurd (eqb-false r s is (once r s (eqb-true (f r) (f s) is')))

module _ {R : Type 0} (f : ℕ → ℕ) (once : (r s : ℕ) → f r ≡ f s → r ≡ s) where
  chosen_to : (test : Bool) (e : Entry R) → cond test (Some (entry_to f e)) None ≡ option_map (entry_to f) (cond test (Some e) None)
  chosen_to true e = refl
  chosen_to false e = refl

  of_to : (r : ℕ) (o : Option (Entry R)) → option_and_then (λ (e : Entry R). cond (e.resource == f r) (Some e) None) (option_map (entry_to f) o) ≡ option_map (entry_to f) (option_and_then (λ (e : Entry R). cond (e.resource == r) (Some e) None) o)
  of_to r None = refl
  of_to r (Some e) = ap (λ b. cond b (Some (entry_to f e)) None) (same_test f once e.resource r) ∙ chosen_to (e.resource == r) e

  entry_of_to : (m : HandleMap R) (i r : ℕ) → entry_of (map_to f m) i (f r) ≡ option_map (entry_to f) (entry_of m i r)
  entry_of_to m i r = ap (option_and_then (λ (e : Entry R). cond (e.resource == f r) (Some e) None)) (entry_at_to f m i) ∙ of_to r (entry_at m i)

  lent_to : (m : HandleMap R) (i : ℕ) (e : Entry R) (owned few : Bool) →
      option_map (λ more. answered (held e) (with_entry (map_to f m) i more)) (cond owned (cond few (Some (record (entry_to f e) { lent = e.lent + 1 })) None) (Some (entry_to f e)))
      ≡ option_map (answered_to f) (option_map (λ more. answered (held e) (with_entry m i more)) (cond owned (cond few (Some (record e { lent = e.lent + 1 })) None) (Some e)))
  lent_to m i e true true = ap (λ x. Some (answered (held e) x)) (with_entry_to f m i (record e { lent = e.lent + 1 }))
  lent_to m i e true false = refl
  lent_to m i e false few = ap (λ x. Some (answered (held e) x)) (with_entry_to f m i e)

  lend_on : (m : HandleMap R) (i : ℕ) (o : Option (Entry R)) →
      option_and_then (λ (e : Entry R). option_map (λ more. answered (held e) (with_entry (map_to f m) i more)) (lent_more e)) (option_map (entry_to f) o)
      ≡ option_map (answered_to f) (option_and_then (λ (e : Entry R). option_map (λ more. answered (held e) (with_entry m i more)) (lent_more e)) o)
  lend_on m i None = refl
  lend_on m i (Some e) = lent_to m i e e.owned (nat_lt e.lent most_loans)

  lend_to : (m : HandleMap R) (i r : ℕ) → lend (map_to f m) i (f r) ≡ option_map (answered_to f) (lend m i r)
  lend_to m i r = ap (option_and_then (λ (e : Entry R). option_map (λ more. answered (held e) (with_entry (map_to f m) i more)) (lent_more e))) (entry_of_to m i r) ∙ lend_on m i (entry_of m i r)

  idle_to : {A : Type 0} → (m : HandleMap R) (i : ℕ) (answer : A) (test : Bool) → cond test (Some (answered answer (without (map_to f m) i))) None ≡ option_map (answered_to f) (cond test (Some (answered answer (without m i))) None)
  idle_to m i answer true = ap (λ x. Some (answered answer x)) (without_to f m i)
  idle_to m i answer false = refl

  take_on : (m : HandleMap R) (i : ℕ) (o : Option (Entry R)) →
      option_and_then (λ (e : Entry R). cond (e.lent == 0) (Some (answered (held e) (without (map_to f m) i))) None) (option_map (entry_to f) o)
      ≡ option_map (answered_to f) (option_and_then (λ (e : Entry R). cond (e.lent == 0) (Some (answered (held e) (without m i))) None) o)
  take_on m i None = refl
  take_on m i (Some e) = idle_to m i (held e) (e.lent == 0)

  pub take_to : (m : HandleMap R) (i r : ℕ) → take (map_to f m) i (f r) ≡ option_map (answered_to f) (take m i r)
  take_to m i r = ap (option_and_then (λ (e : Entry R). cond (e.lent == 0) (Some (answered (held e) (without (map_to f m) i))) None)) (entry_of_to m i r) ∙ take_on m i (entry_of m i r)

  own_on : (m : HandleMap R) (i : ℕ) (o : Option (Entry R)) →
      option_and_then (λ (e : Entry R). cond (e.owned && e.lent == 0) (Some (answered e.rep (without (map_to f m) i))) None) (option_map (entry_to f) o)
      ≡ option_map (answered_to f) (option_and_then (λ (e : Entry R). cond (e.owned && e.lent == 0) (Some (answered e.rep (without m i))) None) o)
  own_on m i None = refl
  own_on m i (Some e) = idle_to m i e.rep (e.owned && e.lent == 0)

  take_own_to : (m : HandleMap R) (i r : ℕ) → take_own (map_to f m) i (f r) ≡ option_map (answered_to f) (take_own m i r)
  take_own_to m i r = ap (option_and_then (λ (e : Entry R). cond (e.owned && e.lent == 0) (Some (answered e.rep (without (map_to f m) i))) None)) (entry_of_to m i r) ∙ own_on m i (entry_of m i r)

  rep_on : (o : Option (Entry R)) → option_map (λ (e : Entry R). e.rep) (option_map (entry_to f) o) ≡ option_map (λ (e : Entry R). e.rep) o
  rep_on None = refl
  rep_on (Some e) = refl

  pub rep_of_to : (m : HandleMap R) (i r : ℕ) → rep_of (map_to f m) i (f r) ≡ rep_of m i r
  rep_of_to m i r = ap (option_map (λ (e : Entry R). e.rep)) (entry_of_to m i r) ∙ rep_on (entry_of m i r)

  -- ---- lifting

  onto_to : (h : Handle R) (b : Bool) (i : ℕ) (o : Option (Lifted R)) → option_map (and_lifted (handle_to f h) b i) (option_map (lifted_to f) o) ≡ option_map (lifted_to f) (option_map (and_lifted h b i) o)
  onto_to h b i None = refl
  onto_to h b i (Some l) = refl

  owns_on : (ns : List Named) (r i : ℕ) (o : Option (Answered R R)) → ((m : HandleMap R) → lift_handles (map (named_to f) ns) (map_to f m) ≡ option_map (lifted_to f) (lift_handles ns m)) →
      option_and_then (λ (a : Answered R R). option_map (and_lifted (Own (f r) a.answer) false i) (lift_handles (map (named_to f) ns) a.map)) (option_map (answered_to f) o)
      ≡ option_map (lifted_to f) (option_and_then (λ (a : Answered R R). option_map (and_lifted (Own r a.answer) false i) (lift_handles ns a.map)) o)
  owns_on ns r i None h = refl
  owns_on ns r i (Some a) h = ap (option_map (and_lifted (Own (f r) a.answer) false i)) (h a.map) ∙ onto_to (Own r a.answer) false i (lift_handles ns a.map)

  borrows_on : (ns : List Named) (r i : ℕ) (o : Option (Answered R (Held R))) → ((m : HandleMap R) → lift_handles (map (named_to f) ns) (map_to f m) ≡ option_map (lifted_to f) (lift_handles ns m)) →
      option_and_then (λ (a : Answered R (Held R)). option_map (and_lifted (Borrow (f r) a.answer.rep) a.answer.owned i) (lift_handles (map (named_to f) ns) a.map)) (option_map (answered_to f) o)
      ≡ option_map (lifted_to f) (option_and_then (λ (a : Answered R (Held R)). option_map (and_lifted (Borrow r a.answer.rep) a.answer.owned i) (lift_handles ns a.map)) o)
  borrows_on ns r i None h = refl
  borrows_on ns r i (Some a) h = ap (option_map (and_lifted (Borrow (f r) a.answer.rep) a.answer.owned i)) (h a.map) ∙ onto_to (Borrow r a.answer.rep) a.answer.owned i (lift_handles ns a.map)

  pub lift_to : (ns : List Named) (m : HandleMap R) → lift_handles (map (named_to f) ns) (map_to f m) ≡ option_map (lifted_to f) (lift_handles ns m)
  lift_to [] m = refl
  lift_to (OwnAt r i ∷ ns) m =
      ap (option_and_then (λ (a : Answered R R). option_map (and_lifted (Own (f r) a.answer) false i) (lift_handles (map (named_to f) ns) a.map))) (take_own_to m i r)
      ∙ owns_on ns r i (take_own m i r) (λ z. lift_to ns z)
  lift_to (BorrowAt r i ∷ ns) m =
      ap (option_and_then (λ (a : Answered R (Held R)). option_map (and_lifted (Borrow (f r) a.answer.rep) a.answer.owned i) (lift_handles (map (named_to f) ns) a.map))) (lend_to m i r)
      ∙ borrows_on ns r i (lend m i r) (λ z. lift_to ns z)

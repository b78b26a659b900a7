-- Handles pass alike where each resource that a type names is owned alike.
use Rattle.std.proofs.Common.{◌≡◌, ℕ, zero, suc, List, [], ◌∷◌, ◌++◌, Option, Some, None, refl, ap, ◌∙◌}
use Rattle.std.specs.Option.{option_map, option_and_then}
use Rattle.wit_types.specs.Plain.{Plain, Parts, BoolType, SignedType, UnsignedType, CharType, StringType, ListType, RecordType, VariantType, FlagsType, OwnType, BorrowType, End, More, Bare}
use Rattle.wit_types.specs.PlainValue.{PlainValue, PlainValues, Payload, ListValue, RecordValue, VariantValue, HandleValue, End as NoValues, More as Values, Without, With}
use Rattle.abi_layout.specs.Handles as abi
use Rattle.abi_layout.specs.Handles.{item_handles, handles, field_handles, case_handles}
use Rattle.handle_space.specs.HandleMap.{HandleMap, Answered, own_entry, add}
use Rattle.comp_types.specs.GivenResources.{named_in_value, named_in_parts, named_in_answer}
use Rattle.comp_worlds.specs.Passing.{Handle, Kind, IsOwn, IsBorrow, and_kind, kinds_in, handles_by, params_tuple, lower_borrow, and_index, add_handles}
use Rattle.comp_worlds.specs.Locals.{with_map}
use Rattle.comp_inside.specs.Linked.{Each}
use Rattle.comp_joins.proofs.Names.{each_first, each_second}
use Rattle.comp_joins.specs.Settled.{PassAlike}

-- ---- the handles of a value are of resources that its type names

module _ (Q : ℕ → Type 0) where
  abbrev KindIs : Kind → Type 0
  KindIs (IsOwn r) = Unit {0}
  KindIs (IsBorrow r) = Q r

  abbrev KindsAre : List Kind → Type 0
  KindsAre [] = Unit {0}
  KindsAre (k ∷ ks) = KindIs k × KindsAre ks

  -- one handle in front
  and_kind_are : (ty : Plain) (ks ls : List Kind) → (KindsAre ks → KindsAre ls) → KindsAre (and_kind ty ks) → KindsAre (and_kind ty ls)
  and_kind_are (OwnType r) ks ls rest h = (tt, rest h.1)
  and_kind_are (BorrowType r) ks ls rest h = (h.0, rest h.1)
  and_kind_are BoolType ks ls rest h = rest h
  and_kind_are (SignedType w) ks ls rest h = rest h
  and_kind_are (UnsignedType w) ks ls rest h = rest h
  and_kind_are CharType ks ls rest h = rest h
  and_kind_are StringType ks ls rest h = rest h
  and_kind_are (ListType t) ks ls rest h = rest h
  and_kind_are (RecordType f ps) ks ls rest h = rest h
  and_kind_are (VariantType f ps) ks ls rest h = rest h
  and_kind_are (FlagsType l) ks ls rest h = rest h

  kinds_append : (hs is : List abi.Handle) → KindsAre (kinds_in hs) → KindsAre (kinds_in is) → KindsAre (kinds_in (hs ++ is))
  kinds_append [] is h k = k
  kinds_append (x ∷ hs) is h k = and_kind_are x.ty (kinds_in hs) (kinds_in (hs ++ is)) (λ rest. kinds_append hs is rest k) h

  of_items : (find : PlainValue → List abi.Handle) → ((v : PlainValue) → KindsAre (kinds_in (find v))) → (vs : PlainValues) → KindsAre (kinds_in (item_handles find vs))
  of_items find h NoValues = tt
  of_items find h (Values v vs) = kinds_append (find v) (item_handles find vs) (h v) (of_items find h vs)

  mutual
    of_value : (ty : Plain) → Each Q (named_in_value ty) → (v : PlainValue) → KindsAre (kinds_in (handles ty v))
    of_value BoolType h v = tt
    of_value (SignedType w) h v = tt
    of_value (UnsignedType w) h v = tt
    of_value CharType h v = tt
    of_value StringType h v = tt
    of_value (FlagsType l) h v = tt
    of_value (ListType item) h (ListValue vs) = of_items (λ x. handles item x) (λ x. of_value item h x) vs
    of_value (ListType item) h _ = tt
    of_value (RecordType f fields) h (RecordValue vs) = of_fields fields h vs
    of_value (RecordType f fields) h _ = tt
    of_value (VariantType f cases) h (VariantValue n payload) = of_case cases h n payload
    of_value (VariantType f cases) h _ = tt
    of_value (OwnType r) h (HandleValue n) = (tt, tt)
    of_value (OwnType r) h _ = tt
    of_value (BorrowType r) h (HandleValue n) = (h.0, tt)
    of_value (BorrowType r) h _ = tt

    of_fields : (ps : Parts) → Each Q (named_in_parts ps) → (vs : PlainValues) → KindsAre (kinds_in (field_handles ps vs))
    of_fields End h vs = tt
    of_fields (More name ty rest) h NoValues = tt
    of_fields (More name ty rest) h (Values v vs) =
        kinds_append (handles ty v) (field_handles rest vs) (of_value ty (each_first Q (named_in_value ty) (named_in_parts rest) h) v) (of_fields rest (each_second Q (named_in_value ty) (named_in_parts rest) h) vs)
    of_fields (Bare name rest) h vs = of_fields rest h vs

    of_case : (ps : Parts) → Each Q (named_in_parts ps) → (n : ℕ) (payload : Payload) → KindsAre (kinds_in (case_handles ps n payload))
    of_case End h n payload = tt
    of_case (More name ty rest) h zero Without = tt
    of_case (More name ty rest) h zero (With v) = of_value ty (each_first Q (named_in_value ty) (named_in_parts rest) h) v
    of_case (More name ty rest) h (suc n) payload = of_case rest (each_second Q (named_in_value ty) (named_in_parts rest) h) n payload
    of_case (Bare name rest) h zero payload = tt
    of_case (Bare name rest) h (suc n) payload = of_case rest h n payload

-- ---- handles of such resources are added alike

module _ (f g : ℕ → ℕ → Option ℕ) where
  abbrev Alike : ℕ → Type 0
  Alike r = (x : ℕ) → f r x ≡ g r x

  and_then_alike : {A B : Type 0} → (p q : A → Option B) → ((a : A) → p a ≡ q a) → (o : Option A) → option_and_then p o ≡ option_and_then q o
  and_then_alike p q h None = refl
  and_then_alike p q h (Some a) = h a

  one_alike : (k : Kind) (x : ℕ) → KindIs Alike k → (hs hs' : List (Handle ℕ)) → ((m : HandleMap ℕ) → add_handles f hs m ≡ add_handles g hs' m) → (m : HandleMap ℕ) →
      add_handles f (handles_by (k ∷ []) (x ∷ []) ++ hs) m ≡ add_handles g (handles_by (k ∷ []) (x ∷ []) ++ hs') m
  one_alike (IsOwn r) x is hs hs' rest m =
      and_then_alike (λ a. option_map (and_index a.answer) (add_handles f hs a.map)) (λ a. option_map (and_index a.answer) (add_handles g hs' a.map)) (λ a. ap (option_map (and_index a.answer)) (rest a.map)) (add m (own_entry r x))
  one_alike (IsBorrow r) x is hs hs' rest m =
      ap (λ o. option_and_then (λ (a : Answered ℕ ℕ). option_map (and_index a.answer) (add_handles f hs a.map)) (lower_borrow o r x m)) (is x)
      ∙ and_then_alike (λ a. option_map (and_index a.answer) (add_handles f hs a.map)) (λ a. option_map (and_index a.answer) (add_handles g hs' a.map)) (λ a. ap (option_map (and_index a.answer)) (rest a.map)) (lower_borrow (g r x) r x m)

  all_alike : (ks : List Kind) (xs : List ℕ) → KindsAre Alike ks → (m : HandleMap ℕ) → add_handles f (handles_by ks xs) m ≡ add_handles g (handles_by ks xs) m
  all_alike [] xs h m = refl
  all_alike (k ∷ ks) [] h m = refl
  all_alike (k ∷ ks) (x ∷ xs) h m = one_alike k x h.0 (handles_by ks xs) (handles_by ks xs) (all_alike ks xs h.1) m

pub pass_alike : PassAlike
pass_alike f g ty h passed c =
    ap (option_map (λ a. record { config = with_map c a.map; answer = a.answer }))
    (all_alike f g (kinds_in (handles (params_tuple ty) passed.value)) passed.reps (of_value (Alike f g) (params_tuple ty) (each_first (Alike f g) (named_in_parts ty.params) (named_in_answer ty.answer) h) passed.value) c.map)

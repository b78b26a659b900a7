-- The handles of an answer enter as a row's run adds them.
use Rattle.std.proofs.Common.{◌≡◌, ◌∙◌, refl, ap, ℕ, zero, suc, List, [], ◌∷◌, ◌++◌, drop, map, Option, Some, None}
use Rattle.std.specs.Option.{option_map, option_and_then}
use Rattle.wit_types.specs.Plain.{Plain, Parts, PlainFunc, BoolType, SignedType, UnsignedType, CharType, StringType, ListType, RecordType, VariantType, FlagsType, OwnType, BorrowType, End, More, Bare}
use Rattle.wit_types.specs.PlainValue.{PlainValue, PlainValues, Payload, ListValue, RecordValue, VariantValue, HandleValue, End as NoValues, More as Values, Without, With}
use Rattle.abi_layout.specs.Handles.{Handle, item_handles, handles, field_handles, case_handles, with_numbers}
use Rattle.abi_layout.proofs.HandleLaws.{handles_keep}
use Rattle.handle_space.specs.HandleMap.{HandleMap, Answered, own_entry, add}
use Rattle.comp_types.specs.Substitution.{value_with}
use Rattle.comp_worlds.specs.Calls.{unborrowed}
use Rattle.comp_worlds.specs.Groups.{Config}
use Rattle.comp_worlds.specs.Hosts.{passed_by}
use Rattle.comp_worlds.specs.Locals.{Local, adds_handles, with_map}
use Rattle.comp_worlds.specs.Passing.{Handle as Given, Passed, blank, kinds_in, and_kind, handles_by, handles_of, and_index, add_handles}
use Rattle.comp_inside.proofs.Locals.{handles_of_to}
use Rattle.comp_inside.proofs.Tables.{answered_to, handle_to, add_all_to}
use Rattle.comp_inside.proofs.Types.{handle_type_with, handles_with, renumbered_with}
use Rattle.row_runs.specs.Passing.{answer_tuple, named_in, and_answer, adds}
use Rattle.adapter_calls.specs.Handling.{map_to}
use Rattle.adapter_calls.specs.Lifting.{AreOwn}
use Rattle.adapter_calls.specs.Entering.{entered, EntersAsAdded}

-- ---- each handle of a value is of a handle's type

abbrev IsHandleType : Plain → Type 0
IsHandleType (OwnType r) = Unit {0}
IsHandleType (BorrowType r) = Unit {0}
IsHandleType _ = ⊥

abbrev AreTyped : List Handle → Type 0
AreTyped [] = Unit {0}
AreTyped (h ∷ hs) = IsHandleType h.ty × AreTyped hs

both_typed : (xs ys : List Handle) → AreTyped xs → AreTyped ys → AreTyped (xs ++ ys)
both_typed [] ys x y = y
both_typed (h ∷ xs) ys x y = (x.0, both_typed xs ys x.1 y)

items_typed : (find : PlainValue → List Handle) → ((v : PlainValue) → AreTyped (find v)) → (vs : PlainValues) → AreTyped (item_handles find vs)
items_typed find typed NoValues = tt
items_typed find typed (Values v vs) = both_typed (find v) (item_handles find vs) (typed v) (items_typed find typed vs)

mutual
  all_typed : (ty : Plain) (v : PlainValue) → AreTyped (handles ty v)
  all_typed BoolType v = tt
  all_typed (SignedType _) v = tt
  all_typed (UnsignedType _) v = tt
  all_typed CharType v = tt
  all_typed StringType v = tt
  all_typed (ListType item) (ListValue vs) = items_typed (λ x. handles item x) (λ x. all_typed item x) vs
  all_typed (ListType item) _ = tt
  all_typed (RecordType _ fields) (RecordValue vs) = fields_typed fields vs
  all_typed (RecordType _ fields) _ = tt
  all_typed (VariantType _ cases) (VariantValue n payload) = case_typed cases n payload
  all_typed (VariantType _ cases) _ = tt
  all_typed (FlagsType _) v = tt
  all_typed (OwnType _) (HandleValue n) = (tt, tt)
  all_typed (OwnType _) _ = tt
  all_typed (BorrowType _) (HandleValue n) = (tt, tt)
  all_typed (BorrowType _) _ = tt

  fields_typed : (ps : Parts) (vs : PlainValues) → AreTyped (field_handles ps vs)
  fields_typed End vs = tt
  fields_typed (More _ ty rest) NoValues = tt
  fields_typed (More _ ty rest) (Values v vs) = both_typed (handles ty v) (field_handles rest vs) (all_typed ty v) (fields_typed rest vs)
  fields_typed (Bare _ rest) vs = fields_typed rest vs

  case_typed : (ps : Parts) (n : ℕ) (payload : Payload) → AreTyped (case_handles ps n payload)
  case_typed End n payload = tt
  case_typed (More _ ty rest) zero Without = tt
  case_typed (More _ ty rest) zero (With v) = all_typed ty v
  case_typed (More _ ty rest) (suc n) payload = case_typed rest n payload
  case_typed (Bare _ rest) zero payload = tt
  case_typed (Bare _ rest) (suc n) payload = case_typed rest n payload

-- ---- they enter

abbrev numbers_in : List Handle → List ℕ
numbers_in hs = map (λ (h : Handle). h.number) hs

abbrev given_in : List Handle → List (Given ℕ)
given_in hs = handles_by (kinds_in hs) (numbers_in hs)

abbrev Enter : List Handle → Type 0
Enter hs = AreOwn (named_in hs) → (m : HandleMap ℕ) → add_handles unborrowed (given_in hs) m ≡ adds (named_in hs) m

own_enters : (r n : ℕ) (hs : List Handle) → Enter hs → AreOwn (named_in hs) → (o : Option (Answered ℕ ℕ)) →
    option_and_then (λ (a : Answered ℕ ℕ). option_map (and_index a.answer) (add_handles unborrowed (given_in hs) a.map)) o ≡ option_and_then (λ (a : Answered ℕ ℕ). option_map (and_answer a.answer) (adds (named_in hs) a.map)) o
own_enters r n hs rest own None = refl
own_enters r n hs rest own (Some a) = ap (option_map (and_index a.answer)) (rest own a.map)

one_enters : (ty : Plain) (n : ℕ) (hs : List Handle) → IsHandleType ty → Enter hs → Enter (record { ty = ty; number = n } ∷ hs)
one_enters (OwnType r) n hs typed rest own m = own_enters r n hs rest own (add m (own_entry r n))
one_enters (BorrowType r) n hs typed rest own m = absurd own
one_enters BoolType n hs typed rest own m = absurd typed
one_enters (SignedType _) n hs typed rest own m = absurd typed
one_enters (UnsignedType _) n hs typed rest own m = absurd typed
one_enters CharType n hs typed rest own m = absurd typed
one_enters StringType n hs typed rest own m = absurd typed
one_enters (ListType item) n hs typed rest own m = absurd typed
one_enters (RecordType _ fields) n hs typed rest own m = absurd typed
one_enters (VariantType _ cases) n hs typed rest own m = absurd typed
one_enters (FlagsType _) n hs typed rest own m = absurd typed

all_enter : (hs : List Handle) → AreTyped hs → Enter hs
all_enter [] typed own m = refl
all_enter (h ∷ hs) typed own m = one_enters h.ty h.number hs typed.0 (λ rest k. all_enter hs typed.1 rest k) own m

-- ---- the whole

same_kinds : (hs : List Handle) (ns : List ℕ) → kinds_in (with_numbers hs ns) ≡ kinds_in hs
same_kinds [] ns = refl
same_kinds (h ∷ hs) ns = ap (and_kind h.ty) (same_kinds hs (drop 1 ns))

same_numbers : (to : ℕ → ℕ) (hs : List Handle) → numbers_in (map (handle_type_with to) hs) ≡ numbers_in hs
same_numbers to [] = refl
same_numbers to (h ∷ hs) = ap (λ ns. h.number ∷ ns) (same_numbers to hs)

module _ (to : ℕ → ℕ) (ty : PlainFunc) (v : PlainValue) where
  abbrev T : Plain
  T = answer_tuple ty

  abbrev passing : PlainValue → List ℕ → Passed ℕ
  passing x ns = record { value = x; reps = ns }

  passed_so : passed_by (value_with to T) v ≡ passing (blank T v) (numbers_in (handles T v))
  passed_so =
      ap (λ x. passing x (numbers_in (handles (value_with to T) v))) (renumbered_with to T v [])
      ∙ ap (passing (blank T v)) (ap numbers_in (handles_with to T v) ∙ same_numbers to (handles T v))

  handles_so : handles_of (value_with to T) (passed_by (value_with to T) v) ≡ map (handle_to to) (given_in (handles T v))
  handles_so =
      ap (handles_of (value_with to T)) passed_so
      ∙ handles_of_to to T (passing (blank T v) (numbers_in (handles T v)))
      ∙ ap (λ ks. map (handle_to to) (handles_by ks (numbers_in (handles T v)))) (ap kinds_in (handles_keep T v []) ∙ same_kinds (handles T v) [])

  abbrev into : Config ℕ → Answered ℕ (List ℕ) → Local ℕ (List ℕ)
  into c a = record { config = with_map c a.map; answer = a.answer }

  at_numbers : (c : Config ℕ) (o : Option (Answered ℕ (List ℕ))) → option_map (into c) (option_map (answered_to to) o) ≡ option_map (entered to c) o
  at_numbers c None = refl
  at_numbers c (Some a) = refl

  pub enters_so : (c : Config ℕ) (table : HandleMap ℕ) → c.map ≡ map_to to table → AreOwn (named_in (handles T v)) → adds_handles unborrowed (handles_of (value_with to T) (passed_by (value_with to T) v)) c ≡ option_map (entered to c) (adds (named_in (handles T v)) table)
  enters_so c table is own =
      ap (λ hs. adds_handles unborrowed hs c) handles_so
      ∙ ap (λ m. option_map (into c) (add_handles unborrowed (map (handle_to to) (given_in (handles T v))) m)) is
      ∙ ap (option_map (into c)) (add_all_to to unborrowed unborrowed (λ r x. refl) (given_in (handles T v)) table ∙ ap (option_map (answered_to to)) (all_enter (handles T v) (all_typed T v) own table))
      ∙ at_numbers c (adds (named_in (handles T v)) table)

pub enters_as_added_law : EntersAsAdded
enters_as_added_law to ty v c table is own = enters_so to ty v c table is own

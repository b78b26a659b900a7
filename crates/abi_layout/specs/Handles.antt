-- The handles of a value, in their order, and the value with other numbers in their places. Handles are exchanged with the tables
-- of instances in one pass: all of them before the first request of a store, and after the last load.
use Rattle.std.specs.Prelude.{ℕ, ◌≡◌, List, [], ◌∷◌, ◌++◌, drop, length, slice_index}
use Rattle.wit_types.specs.Plain.{Plain, Parts, BoolType, SignedType, UnsignedType, CharType, StringType, ListType, RecordType, VariantType, FlagsType, OwnType, BorrowType, End, More, Bare}
use Rattle.wit_types.specs.PlainValue.{PlainValue, PlainValues, Payload, ListValue, RecordValue, VariantValue, HandleValue, End as NoValues, More as Values, With}
use Rattle.wit_types.specs.HasType.{is_of}
use Rattle.abi_layout.specs.Loading.{first_or_later}
use Rattle.abi_layout.specs.Storing.{on_list, on_record, on_variant, on_first, on_payload}

-- a handle in a value: its type, which is one of `own` or `borrow`, and its number
pub record Handle : Type 0 where
  pub ty : Plain
  pub number : ℕ

abbrev pub on_handle : {A : Type 0} → A → (ℕ → A) → PlainValue → A
on_handle none f (HandleValue number) = f number
on_handle none f _ = none

abbrev pub handle_of : Plain → PlainValue → List Handle
handle_of ty v = on_handle [] (λ number. record { ty = ty; number = number } ∷ []) v

-- those of each item, in order
abbrev pub item_handles : (PlainValue → List Handle) → PlainValues → List Handle
item_handles find NoValues = []
item_handles find (Values v vs) = find v ++ item_handles find vs

abbrev mutual
  -- The handles of a value of a type.
  pub handles : Plain → PlainValue → List Handle
  handles BoolType v = []
  handles (SignedType _) v = []
  handles (UnsignedType _) v = []
  handles CharType v = []
  handles StringType v = []
  handles (ListType item) v = on_list [] (λ vs. item_handles (λ x. handles item x) vs) v
  handles (RecordType _ fields) v = on_record [] (λ vs. field_handles fields vs) v
  handles (VariantType _ cases) v = on_variant [] (λ n payload. case_handles cases n payload) v
  handles (FlagsType _) v = []
  handles (OwnType resource) v = handle_of (OwnType resource) v
  handles (BorrowType resource) v = handle_of (BorrowType resource) v

  pub field_handles : Parts → PlainValues → List Handle
  field_handles End vs = []
  field_handles (More _ ty rest) vs = on_first [] (λ v ws. handles ty v ++ field_handles rest ws) vs
  field_handles (Bare _ rest) vs = field_handles rest vs

  pub case_handles : Parts → ℕ → Payload → List Handle
  case_handles End n payload = []
  case_handles (More _ ty rest) n payload = first_or_later (on_payload [] (λ v. handles ty v) payload) (λ m. case_handles rest m payload) n
  case_handles (Bare _ rest) n payload = first_or_later [] (λ m. case_handles rest m payload) n

-- ---- other numbers in their places

abbrev pub renumbered_handle : PlainValue → List ℕ → PlainValue
renumbered_handle v numbers = on_handle v (λ _. HandleValue (slice_index numbers 0)) v

abbrev pub renumbered_items : (PlainValue → List Handle) → (PlainValue → List ℕ → PlainValue) → PlainValues → List ℕ → PlainValues
renumbered_items find change NoValues numbers = NoValues
renumbered_items find change (Values v vs) numbers = Values (change v numbers) (renumbered_items find change vs (drop (length (find v)) numbers))

abbrev mutual
  -- The value with these numbers for its handles, in their order.
  pub renumbered : Plain → PlainValue → List ℕ → PlainValue
  renumbered BoolType v numbers = v
  renumbered (SignedType _) v numbers = v
  renumbered (UnsignedType _) v numbers = v
  renumbered CharType v numbers = v
  renumbered StringType v numbers = v
  renumbered (ListType item) v numbers = on_list v (λ vs. ListValue (renumbered_items (λ x. handles item x) (λ x ns. renumbered item x ns) vs numbers)) v
  renumbered (RecordType _ fields) v numbers = on_record v (λ vs. RecordValue (renumbered_fields fields vs numbers)) v
  renumbered (VariantType _ cases) v numbers = on_variant v (λ n payload. VariantValue n (renumbered_case cases n payload numbers)) v
  renumbered (FlagsType _) v numbers = v
  renumbered (OwnType _) v numbers = renumbered_handle v numbers
  renumbered (BorrowType _) v numbers = renumbered_handle v numbers

  pub renumbered_fields : Parts → PlainValues → List ℕ → PlainValues
  renumbered_fields End vs numbers = vs
  renumbered_fields (More _ ty rest) vs numbers =
      on_first vs (λ v ws. Values (renumbered ty v numbers) (renumbered_fields rest ws (drop (length (handles ty v)) numbers))) vs
  renumbered_fields (Bare _ rest) vs numbers = renumbered_fields rest vs numbers

  pub renumbered_case : Parts → ℕ → Payload → List ℕ → Payload
  renumbered_case End n payload numbers = payload
  renumbered_case (More _ ty rest) n payload numbers =
      first_or_later (on_payload payload (λ v. With (renumbered ty v numbers)) payload) (λ m. renumbered_case rest m payload numbers) n
  renumbered_case (Bare _ rest) n payload numbers = first_or_later payload (λ m. renumbered_case rest m payload numbers) n

-- the handles with these numbers
abbrev pub with_numbers : List Handle → List ℕ → List Handle
with_numbers [] numbers = []
with_numbers (h ∷ hs) numbers = record { ty = h.ty; number = slice_index numbers 0 } ∷ with_numbers hs (drop 1 numbers)

-- Other numbers leave as many handles, in the same order and of the same types.
abbrev pub HandlesKeep : Type 0
HandlesKeep = (ty : Plain) (v : PlainValue) (numbers : List ℕ) → handles ty (renumbered ty v numbers) ≡ with_numbers (handles ty v) numbers

-- Other numbers leave a value of its type.
abbrev pub TypesKeep : Type 0
TypesKeep = (ty : Plain) (v : PlainValue) (numbers : List ℕ) → is_of ty (renumbered ty v numbers) ≡ is_of ty v

-- What storing a value asks for and writes, as a list of steps (Component Model, CanonicalABI.md, "Storing" and "Flat Lowering").
-- It is a function of the value and its type alone: the answers to the requests count in it by their numbers. A handle is stored
-- as the index that it is.
use Rattle.std.specs.Prelude.{ℕ, ◌+◌, ◌-◌, ◌*◌, ◌^◌, nat_lt, nat_le, if◌then◌else◌, List, [], ◌∷◌, ◌++◌, length, replicate}
use Rattle.core_memory.specs.Number.{bytes_of}
use Rattle.wit_types.specs.Plain.{Width, OneByte, TwoBytes, FourBytes, EightBytes, Plain, Parts, BoolType, SignedType, UnsignedType, CharType, StringType, ListType, RecordType, VariantType, FlagsType, OwnType, BorrowType, End, More, Bare}
use Rattle.wit_types.specs.PlainValue.{PlainValue, PlainValues, Payload, StringValue, ListValue, RecordValue, VariantValue, End as NoValues, More as Values, Without, With}
use Rattle.wit_types.specs.Layout.{alignment, discriminant_size, align_to, count, size, flat_cases}
use Rattle.abi_layout.specs.Numbers.{number_of, is_number}
use Rattle.abi_layout.specs.Loading.{payload_offset, first_or_later}

-- where an offset counts from: the place at which the value is stored, or the answer to a request, which are counted from 0
pub data Base : Type 0 where
  Target : Base
  Answer : (request : ℕ) → Base

pub data Step : Type 0 where
  -- `realloc(0, 0, align, len)` is asked
  Ask : (align len : ℕ) → Step
  Write : (base : Base) → (offset : ℕ) → (bytes : List ℕ) → Step
  -- the answer to a request is written as four bytes
  Place : (base : Base) → (offset : ℕ) → (request : ℕ) → Step
  -- the length is refused
  Refuse : Step

-- how many requests the steps make
abbrev pub requests : List Step → ℕ
requests [] = 0
requests (Ask _ _ ∷ steps) = requests steps + 1
requests (Write _ _ _ ∷ steps) = requests steps
requests (Place _ _ _ ∷ steps) = requests steps
requests (Refuse ∷ steps) = requests steps

-- ---- values by their forms; a value of another form is stored by no step

abbrev pub on_string : {A : Type 0} → A → (List ℕ → A) → PlainValue → A
on_string none f (StringValue bytes) = f bytes
on_string none f _ = none

abbrev pub on_list : {A : Type 0} → A → (PlainValues → A) → PlainValue → A
on_list none f (ListValue values) = f values
on_list none f _ = none

abbrev pub on_record : {A : Type 0} → A → (PlainValues → A) → PlainValue → A
on_record none f (RecordValue values) = f values
on_record none f _ = none

abbrev pub on_variant : {A : Type 0} → A → (ℕ → Payload → A) → PlainValue → A
on_variant none f (VariantValue number payload) = f number payload
on_variant none f _ = none

abbrev pub on_first : {A : Type 0} → A → (PlainValue → PlainValues → A) → PlainValues → A
on_first none f NoValues = none
on_first none f (Values v vs) = f v vs

abbrev pub on_payload : {A : Type 0} → A → (PlainValue → A) → Payload → A
on_payload none f Without = none
on_payload none f (With v) = f v

abbrev pub count_values : PlainValues → ℕ
count_values NoValues = 0
count_values (Values _ vs) = count_values vs + 1

-- ---- what strings and lists hold; `k` requests were made before

-- a value that is one number, in that many bytes
abbrev pub number_bytes : ℕ → PlainValue → List ℕ
number_bytes size v = bytes_of size (number_of (2 ^ 64) v)

-- numbers one after the other
abbrev pub run_bytes : ℕ → PlainValues → List ℕ
run_bytes size NoValues = []
run_bytes size (Values v vs) = number_bytes size v ++ run_bytes size vs

abbrev pub string_steps : List ℕ → ℕ → List Step
string_steps bytes k = if nat_le (length bytes) 2147483647 then Ask 1 (length bytes) ∷ Write (Answer k) 0 bytes ∷ [] else Refuse ∷ []

-- items of one size, one after the other
abbrev pub item_steps : (PlainValue → Base → ℕ → ℕ → List Step) → ℕ → PlainValues → Base → ℕ → ℕ → List Step
item_steps store size NoValues base at k = []
item_steps store size (Values v vs) base at k = store v base at k ++ item_steps store size vs base (at + size) (k + requests (store v base at k))

-- the items of a list; numbers are written as one run of bytes
abbrev pub list_steps : (PlainValue → Base → ℕ → ℕ → List Step) → Plain → PlainValues → ℕ → List Step
list_steps store item vs k =
    if nat_lt (count_values vs * size item) (2 ^ 32)
    then Ask (alignment item) (count_values vs * size item)
    ∷ (if is_number item then Write (Answer k) 0 (run_bytes (size item) vs) ∷ [] else item_steps store (size item) vs (Answer k) 0 (k + 1))
    else Refuse ∷ []

-- the place of what the request `k` is for, and a length after it
abbrev pub place_and_length : Base → ℕ → ℕ → ℕ → List Step
place_and_length base at k len = Place base at k ∷ Write base (at + 4) (bytes_of 4 len) ∷ []

-- ---- into memory

abbrev mutual
  -- The steps that store a value at an offset.
  pub stores_at : Plain → PlainValue → Base → ℕ → ℕ → List Step
  stores_at BoolType v base at k = Write base at (number_bytes 1 v) ∷ []
  stores_at (SignedType width) v base at k = Write base at (number_bytes (size (SignedType width)) v) ∷ []
  stores_at (UnsignedType width) v base at k = Write base at (number_bytes (size (UnsignedType width)) v) ∷ []
  stores_at CharType v base at k = Write base at (number_bytes 4 v) ∷ []
  stores_at StringType v base at k = on_string [] (λ bytes. string_steps bytes k ++ place_and_length base at k (length bytes)) v
  stores_at (ListType item) v base at k =
      on_list [] (λ vs. list_steps (λ x b o j. stores_at item x b o j) item vs k ++ place_and_length base at k (count_values vs)) v
  stores_at (RecordType _ fields) v base at k = on_record [] (λ vs. field_steps fields vs base at 0 k) v
  stores_at (VariantType _ cases) v base at k =
      on_variant [] (λ n payload. Write base at (bytes_of (discriminant_size (count cases)) n) ∷ case_steps cases n payload base (at + payload_offset cases) k) v
  stores_at (FlagsType labels) v base at k = Write base at (number_bytes (size (FlagsType labels)) v) ∷ []
  stores_at (OwnType _) v base at k = Write base at (number_bytes 4 v) ∷ []
  stores_at (BorrowType _) v base at k = Write base at (number_bytes 4 v) ∷ []

  -- the fields of a record, of which the first lies at this offset in it, or after it
  pub field_steps : Parts → PlainValues → Base → ℕ → ℕ → ℕ → List Step
  field_steps End vs base at offset k = []
  field_steps (More _ ty rest) vs base at offset k =
      on_first []
      (λ v ws. stores_at ty v base (at + align_to offset (alignment ty)) k
      ++ field_steps rest ws base at (align_to offset (alignment ty) + size ty) (k + requests (stores_at ty v base (at + align_to offset (alignment ty)) k)))
      vs
  field_steps (Bare _ rest) vs base at offset k = field_steps rest vs base at offset k

  -- the payload of the case of this number
  pub case_steps : Parts → ℕ → Payload → Base → ℕ → ℕ → List Step
  case_steps End n payload base at k = []
  case_steps (More _ ty rest) n payload base at k =
      first_or_later (on_payload [] (λ v. stores_at ty v base at k) payload) (λ m. case_steps rest m payload base at k) n
  case_steps (Bare _ rest) n payload base at k = first_or_later [] (λ m. case_steps rest m payload base at k) n

-- The steps that store a value at a place of the caller's.
abbrev pub stores : Plain → PlainValue → List Step
stores ty v = stores_at ty v Target 0 0

-- The steps that store a value for which room is asked first.
abbrev pub spills : Plain → PlainValue → List Step
spills ty v = Ask (alignment ty) (size ty) ∷ stores_at ty v (Answer 0) 0 1

-- ---- flat values

-- a flat value: a number, or the answer to a request
pub data FlatItem : Type 0 where
  Number : ℕ → FlatItem
  AnswerTo : (request : ℕ) → FlatItem

-- what lowering asks for and writes, and the flat values
pub record Lowered : Type 0 where
  pub steps : List Step
  pub flats : List FlatItem

abbrev pub nothing : Lowered
nothing = record { steps = []; flats = [] }

abbrev pub one_number : ℕ → Lowered
one_number n = record { steps = []; flats = Number n ∷ [] }

-- how many numbers a core integer has that holds one of this width
abbrev pub core_numbers : Width → ℕ
core_numbers OneByte = 2 ^ 32
core_numbers TwoBytes = 2 ^ 32
core_numbers FourBytes = 2 ^ 32
core_numbers EightBytes = 2 ^ 64

abbrev pub both : Lowered → Lowered → Lowered
both one other = record { steps = one.steps ++ other.steps; flats = one.flats ++ other.flats }

-- the number of a case, its flat values, and 0 for those that other cases have more
abbrev pub of_case : ℕ → ℕ → Lowered → Lowered
of_case width n payload = record { steps = payload.steps; flats = Number n ∷ (payload.flats ++ replicate (width - length payload.flats) (Number 0)) }

abbrev mutual
  -- The steps and the flat values of a value.
  pub lower_flat : Plain → PlainValue → ℕ → Lowered
  lower_flat BoolType v k = one_number (number_of (2 ^ 32) v)
  lower_flat (SignedType width) v k = one_number (number_of (core_numbers width) v)
  lower_flat (UnsignedType width) v k = one_number (number_of (core_numbers width) v)
  lower_flat CharType v k = one_number (number_of (2 ^ 32) v)
  lower_flat StringType v k =
      on_string nothing (λ bytes. record { steps = string_steps bytes k; flats = AnswerTo k ∷ Number (length bytes) ∷ [] }) v
  lower_flat (ListType item) v k =
      on_list nothing (λ vs. record { steps = list_steps (λ x b o j. stores_at item x b o j) item vs k; flats = AnswerTo k ∷ Number (count_values vs) ∷ [] }) v
  lower_flat (RecordType _ fields) v k = on_record nothing (λ vs. lower_fields fields vs k) v
  lower_flat (VariantType _ cases) v k = on_variant nothing (λ n payload. of_case (length (flat_cases cases)) n (lower_case cases n payload k)) v
  lower_flat (FlagsType _) v k = one_number (number_of (2 ^ 32) v)
  lower_flat (OwnType _) v k = one_number (number_of (2 ^ 32) v)
  lower_flat (BorrowType _) v k = one_number (number_of (2 ^ 32) v)

  -- one field after another
  pub lower_fields : Parts → PlainValues → ℕ → Lowered
  lower_fields End vs k = nothing
  lower_fields (More _ ty rest) vs k =
      on_first nothing (λ v ws. both (lower_flat ty v k) (lower_fields rest ws (k + requests (lower_flat ty v k).steps))) vs
  lower_fields (Bare _ rest) vs k = lower_fields rest vs k

  pub lower_case : Parts → ℕ → Payload → ℕ → Lowered
  lower_case End n payload k = nothing
  lower_case (More _ ty rest) n payload k =
      first_or_later (on_payload nothing (λ v. lower_flat ty v k) payload) (λ m. lower_case rest m payload k) n
  lower_case (Bare _ rest) n payload k = first_or_later nothing (λ m. lower_case rest m payload k) n

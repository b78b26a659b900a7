-- The values of a type (Component Model, Explainer.md, "Fundamental value types" and "Specialized value types"), by recursion on
-- the type.
use Rattle.std.specs.Prelude.{ℕ, ℤ, pos, neg_ℤ, int_le, int_lt, zero, suc, ◌^◌, Bool, true, false, nat_lt, nat_le, ◌&&◌, ◌||◌, IsTrue, length, Option as Opt, Some, None}
use Rattle.wit_types.specs.declared.types.WitType.{WitType}
use Rattle.wit_types.specs.declared.value.Value.{Value}
use Rattle.wit_types.specs.Plain.{Width, OneByte, TwoBytes, FourBytes, EightBytes, Plain, Parts, BoolType, SignedType, UnsignedType, CharType, StringType, ListType, RecordType, VariantType, FlagsType, OwnType, BorrowType, End, More, Bare, plain}
use Rattle.wit_types.specs.PlainValue.{PlainValue, PlainValues, Payload, BoolValue, IntValue, CharValue, StringValue, ListValue, RecordValue, VariantValue, FlagsValue, HandleValue, End as NoValues, More as Values, Without, With, plain_value}

-- how many integers of a width there are
abbrev pub integers : Width → ℕ
integers OneByte = 2 ^ 8
integers TwoBytes = 2 ^ 16
integers FourBytes = 2 ^ 32
integers EightBytes = 2 ^ 64

-- how many of them are negative, where they have a sign
abbrev pub negatives : Width → ℕ
negatives OneByte = 2 ^ 7
negatives TwoBytes = 2 ^ 15
negatives FourBytes = 2 ^ 31
negatives EightBytes = 2 ^ 63

-- A Unicode scalar value is a code point that is no surrogate.
abbrev pub is_scalar : ℕ → Bool
is_scalar c = nat_lt c 0xD800 || (nat_le 0xE000 c && nat_lt c 0x110000)

-- ---- values of each form

abbrev pub is_bool : PlainValue → Bool
is_bool (BoolValue _) = true
is_bool _ = false

-- an integer from low to end - 1
abbrev pub is_integer : ℤ → ℤ → PlainValue → Bool
is_integer low end (IntValue n) = int_le low n && int_lt n end
is_integer low end _ = false

abbrev pub is_char : PlainValue → Bool
is_char (CharValue code) = is_scalar code
is_char _ = false

abbrev pub is_string : PlainValue → Bool
is_string (StringValue _) = true
is_string _ = false

abbrev pub all_pass : (PlainValue → Bool) → PlainValues → Bool
all_pass test NoValues = true
all_pass test (Values v vs) = test v && all_pass test vs

-- a list whose items pass
abbrev pub is_list : (PlainValue → Bool) → PlainValue → Bool
is_list test (ListValue values) = all_pass test values
is_list test _ = false

-- a record whose fields pass together
abbrev pub is_record : (PlainValues → Bool) → PlainValue → Bool
is_record test (RecordValue values) = test values
is_record test _ = false

-- a variant whose number and payload pass together
abbrev pub is_variant : (ℕ → Payload → Bool) → PlainValue → Bool
is_variant test (VariantValue number payload) = test number payload
is_variant test _ = false

-- each bit is that of one of that many flags
abbrev pub is_flags : ℕ → PlainValue → Bool
is_flags n (FlagsValue bits) = nat_lt bits (2 ^ n)
is_flags n _ = false

-- Every number of 32 bits is one, which is what a `Handle` holds.
abbrev pub is_handle : PlainValue → Bool
is_handle (HandleValue _) = true
is_handle _ = false

abbrev pub is_without : Payload → Bool
is_without Without = true
is_without (With _) = false

-- a payload that is there and passes
abbrev pub is_with : (PlainValue → Bool) → Payload → Bool
is_with test Without = false
is_with test (With v) = test v

-- the first value passes, and the rest together
abbrev pub first_and_rest : (PlainValue → Bool) → (PlainValues → Bool) → PlainValues → Bool
first_and_rest first rest NoValues = false
first_and_rest first rest (Values v vs) = first v && rest vs

abbrev pub is_none_left : PlainValues → Bool
is_none_left NoValues = true
is_none_left (Values _ _) = false

-- case 0 with its payload, or a later one
abbrev pub case_or_later : (Payload → Bool) → (ℕ → Payload → Bool) → ℕ → Payload → Bool
case_or_later this later zero payload = this payload
case_or_later this later (suc n) payload = later n payload

-- ---- values of each type

abbrev mutual
  pub is_of : Plain → PlainValue → Bool
  is_of BoolType v = is_bool v
  is_of (SignedType width) v = is_integer (neg_ℤ (pos (negatives width))) (pos (negatives width)) v
  is_of (UnsignedType width) v = is_integer (pos 0) (pos (integers width)) v
  is_of CharType v = is_char v
  is_of StringType v = is_string v
  is_of (ListType item) v = is_list (λ x. is_of item x) v
  is_of (RecordType _ fields) v = is_record (λ xs. are_of fields xs) v
  is_of (VariantType _ cases) v = is_variant (λ n x. is_of_case cases n x) v
  is_of (FlagsType labels) v = is_flags (length labels) v
  is_of (OwnType _) v = is_handle v
  is_of (BorrowType _) v = is_handle v

  -- one value for each field, in order
  pub are_of : Parts → PlainValues → Bool
  are_of End xs = is_none_left xs
  are_of (More _ ty fields) xs = first_and_rest (λ x. is_of ty x) (λ ys. are_of fields ys) xs
  are_of (Bare _ fields) xs = are_of fields xs

  -- the number is that of a case, and the payload is of its type, if it has one
  pub is_of_case : Parts → ℕ → Payload → Bool
  is_of_case End n x = false
  is_of_case (More _ ty cases) n x = case_or_later (λ y. is_with (λ v. is_of ty v) y) (λ m y. is_of_case cases m y) n x
  is_of_case (Bare _ cases) n x = case_or_later is_without (λ m y. is_of_case cases m y) n x

-- a payload is of the type of its case, if it has one
abbrev pub is_of_payload : Opt Plain → Payload → Bool
is_of_payload None payload = is_without payload
is_of_payload (Some ty) payload = is_with (λ v. is_of ty v) payload

-- The value has the type.
abbrev pub HasType : Value → WitType → Type 0
HasType value ty = IsTrue (is_of (plain ty) (plain_value value))

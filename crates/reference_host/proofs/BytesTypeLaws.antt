-- Values of a list type hold bytes where its items are bytes or no numbers.
use Rattle.std.proofs.Common.{◌≡◌, ◌<◌, ◌^◌, ℕ, Bool, true, false, refl, pos, negsuc, All, arith}
use Rattle.std.specs.Prelude.{ℤ, ◌&&◌, int_le, nat_abs, nat_lt}
use Rattle.std.proofs.lemmas.Bool.{ltb-true}
use Rattle.std.proofs.lemmas.List.Elements.{All-nil, All-cons}
use Rattle.wit_types.specs.Plain.{Width, OneByte, TwoBytes, FourBytes, EightBytes, Plain, Parts, BoolType, SignedType, UnsignedType, CharType, StringType, ListType, RecordType, VariantType, FlagsType, OwnType, BorrowType, End as NoParts, More as Part, Bare}
use Rattle.wit_types.specs.PlainValue.{PlainValue, PlainValues, BoolValue, IntValue, CharValue, StringValue, ListValue, RecordValue, VariantValue, FlagsValue, HandleValue, End, More}
use Rattle.wit_types.specs.HasType.{is_of, are_of, all_pass}
use Rattle.reference_step.specs.Values.{nth, number_in, numbers_in, numbers_of, items}
use Rattle.ref_virtual.specs.Known.{AreBytes}

-- ---- types of bytes, and of what is no number

abbrev is_byte_width : Width → Bool
is_byte_width OneByte = true
is_byte_width TwoBytes = false
is_byte_width FourBytes = false
is_byte_width EightBytes = false

abbrev is_byte : Plain → Bool
is_byte (SignedType width) = false
is_byte (UnsignedType width) = is_byte_width width
is_byte _ = true

-- a list of such items, or no list
abbrev is_bytes : Plain → Bool
is_bytes (ListType item) = is_byte item
is_bytes _ = true

abbrev first_bytes : Parts → Bool
first_bytes NoParts = true
first_bytes (Part name ty rest) = is_bytes ty
first_bytes (Bare name rest) = first_bytes rest

abbrev pub second_bytes : Parts → Bool
second_bytes NoParts = true
second_bytes (Part name ty rest) = first_bytes rest
second_bytes (Bare name rest) = second_bytes rest

-- ---- their values

left : (a b : Bool) → (a && b) ≡ true → a ≡ true
left true b is = refl
left false b is = is

right : (a b : Bool) → (a && b) ≡ true → b ≡ true
right true b is = is
right false b is = cc

pos_below : (n : ℕ) → (int_le (pos 0) (pos n) && nat_lt n (2 ^ 8)) ≡ true → n < 256
pos_below n is = let below : n < 2 ^ 8 = ltb-true n (2 ^ 8) (right (int_le (pos 0) (pos n)) (nat_lt n (2 ^ 8)) is) in omega (arith, below)

unsigned : (w : Width) (n : ℤ) → is_byte_width w ≡ true → is_of (UnsignedType w) (IntValue n) ≡ true → nat_abs n < 256
unsigned OneByte (pos n) byte is = pos_below n is
unsigned OneByte (negsuc n) byte is = cc
unsigned TwoBytes n byte is = cc
unsigned FourBytes n byte is = cc
unsigned EightBytes n byte is = cc

integer : (ty : Plain) (n : ℤ) → is_byte ty ≡ true → is_of ty (IntValue n) ≡ true → nat_abs n < 256
integer BoolType n byte is = cc
integer (SignedType w) n byte is = cc
integer (UnsignedType w) n byte is = unsigned w n byte is
integer CharType n byte is = cc
integer StringType n byte is = cc
integer (ListType item) n byte is = cc
integer (RecordType form fields) n byte is = cc
integer (VariantType form cases) n byte is = cc
integer (FlagsType labels) n byte is = cc
integer (OwnType kind) n byte is = cc
integer (BorrowType kind) n byte is = cc

item_byte : (ty : Plain) (v : PlainValue) → is_byte ty ≡ true → is_of ty v ≡ true → number_in v < 256
item_byte ty (BoolValue b) byte is = omega arith
item_byte ty (IntValue n) byte is = integer ty n byte is
item_byte ty (CharValue code) byte is = omega arith
item_byte ty (StringValue bytes) byte is = omega arith
item_byte ty (ListValue values) byte is = omega arith
item_byte ty (RecordValue values) byte is = omega arith
item_byte ty (VariantValue number payload) byte is = omega arith
item_byte ty (FlagsValue bits) byte is = omega arith
item_byte ty (HandleValue index) byte is = omega arith

abbrev Byte : ℕ → Type 0
Byte n = n < 256

items_bytes : (ty : Plain) (vs : PlainValues) → is_byte ty ≡ true → all_pass (λ x. is_of ty x) vs ≡ true → All Byte (numbers_of (items vs))
items_bytes ty End byte is = All-nil Byte
items_bytes ty (More v vs) byte is =
    All-cons Byte (number_in v) (numbers_of (items vs)) (item_byte ty v byte (left (is_of ty v) (all_pass (λ x. is_of ty x) vs) is)) (items_bytes ty vs byte (right (is_of ty v) (all_pass (λ x. is_of ty x) vs) is))

list_bytes : (ty : Plain) (vs : PlainValues) → is_bytes ty ≡ true → is_of ty (ListValue vs) ≡ true → All Byte (numbers_of (items vs))
list_bytes BoolType vs bytes is = cc
list_bytes (SignedType w) vs bytes is = cc
list_bytes (UnsignedType w) vs bytes is = cc
list_bytes CharType vs bytes is = cc
list_bytes StringType vs bytes is = cc
list_bytes (ListType item) vs bytes is = items_bytes item vs bytes is
list_bytes (RecordType form fields) vs bytes is = cc
list_bytes (VariantType form cases) vs bytes is = cc
list_bytes (FlagsType labels) vs bytes is = cc
list_bytes (OwnType kind) vs bytes is = cc
list_bytes (BorrowType kind) vs bytes is = cc

value_bytes : (ty : Plain) (v : PlainValue) → is_bytes ty ≡ true → is_of ty v ≡ true → All Byte (numbers_in v)
value_bytes ty (BoolValue b) bytes is = All-nil Byte
value_bytes ty (IntValue n) bytes is = All-nil Byte
value_bytes ty (CharValue code) bytes is = All-nil Byte
value_bytes ty (StringValue text) bytes is = All-nil Byte
value_bytes ty (ListValue values) bytes is = list_bytes ty values bytes is
value_bytes ty (RecordValue values) bytes is = All-nil Byte
value_bytes ty (VariantValue number payload) bytes is = All-nil Byte
value_bytes ty (FlagsValue bits) bytes is = All-nil Byte
value_bytes ty (HandleValue index) bytes is = All-nil Byte

-- ---- arguments

first_typed : (params : Parts) (args : PlainValues) → first_bytes params ≡ true → are_of params args ≡ true → All Byte (numbers_in (nth 0 args))
first_typed NoParts End bytes is = All-nil Byte
first_typed NoParts (More v vs) bytes is = cc
first_typed (Part name ty rest) End bytes is = cc
first_typed (Part name ty rest) (More v vs) bytes is = value_bytes ty v bytes (left (is_of ty v) (are_of rest vs) is)
first_typed (Bare name rest) args bytes is = first_typed rest args bytes is

pub second_typed : (params : Parts) (args : PlainValues) → second_bytes params ≡ true → are_of params args ≡ true → AreBytes args
second_typed NoParts End bytes is = All-nil Byte
second_typed NoParts (More v vs) bytes is = cc
second_typed (Part name ty rest) End bytes is = cc
second_typed (Part name ty rest) (More v vs) bytes is = first_typed rest vs bytes (right (is_of ty v) (are_of rest vs) is)
second_typed (Bare name rest) args bytes is = second_typed rest args bytes is

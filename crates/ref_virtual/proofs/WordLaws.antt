-- Arguments that have the types of parameters hold integers of 64 bits at most.
use Rattle.std.proofs.Common.{◌≡◌, ◌<◌, ◌≤◌, ◌^◌, ◌+◌, ℕ, zero, suc, Bool, true, false, refl, pos, negsuc, arith}
use Rattle.std.specs.Prelude.{ℤ, ◌&&◌, int_le, int_lt, neg_ℤ, nat_abs, nat_lt, nat_le}
use Rattle.std.proofs.lemmas.Bool.{ltb-true, leb-true}
use Rattle.wit_types.specs.Plain.{Width, OneByte, TwoBytes, FourBytes, EightBytes, Plain, Parts, BoolType, SignedType, UnsignedType, CharType, StringType, ListType, RecordType, VariantType, FlagsType, OwnType, BorrowType, End as NoParts, More as Part, Bare}
use Rattle.wit_types.specs.PlainValue.{PlainValue, PlainValues, BoolValue, IntValue, CharValue, StringValue, ListValue, RecordValue, VariantValue, FlagsValue, HandleValue, End, More}
use Rattle.wit_types.specs.HasType.{is_of, are_of, negatives}
use Rattle.reference_step.specs.Values.{number_in}
use Rattle.ref_virtual.specs.Held.{AreWords}

left : (a b : Bool) → (a && b) ≡ true → a ≡ true
left true b is = refl
left false b is = is

right : (a b : Bool) → (a && b) ≡ true → b ≡ true
right true b is = is
right false b is = cc

-- an integer that is not negative, and one that is
pos_below : (n k : ℕ) (low : ℤ) → k ≤ 2 ^ 64 → (int_le low (pos n) && int_lt (pos n) (pos k)) ≡ true → nat_abs (pos n) < 2 ^ 64
pos_below n k low small is = let below : n < k = ltb-true n k (right (int_le low (pos n)) (nat_lt n k) is) in omega (arith, below, small)

neg_below : (n k : ℕ) (end : ℤ) → k + 1 < 2 ^ 64 → (int_le (negsuc k) (negsuc n) && int_lt (negsuc n) end) ≡ true → nat_abs (negsuc n) < 2 ^ 64
neg_below n k end small is = let below : n ≤ k = leb-true n k (left (nat_le n k) (int_lt (negsuc n) end) is) in omega (arith, below, small)

signed : (w : Width) (n : ℤ) → is_of (SignedType w) (IntValue n) ≡ true → nat_abs n < 2 ^ 64
signed OneByte (pos n) is = pos_below n (2 ^ 7) (neg_ℤ (pos (negatives OneByte))) (omega arith) is
signed OneByte (negsuc n) is = neg_below n 127 (pos (negatives OneByte)) (omega arith) is
signed TwoBytes (pos n) is = pos_below n (2 ^ 15) (neg_ℤ (pos (negatives TwoBytes))) (omega arith) is
signed TwoBytes (negsuc n) is = neg_below n 32767 (pos (negatives TwoBytes)) (omega arith) is
signed FourBytes (pos n) is = pos_below n (2 ^ 31) (neg_ℤ (pos (negatives FourBytes))) (omega arith) is
signed FourBytes (negsuc n) is = neg_below n 2147483647 (pos (negatives FourBytes)) (omega arith) is
signed EightBytes (pos n) is = pos_below n (2 ^ 63) (neg_ℤ (pos (negatives EightBytes))) (omega arith) is
signed EightBytes (negsuc n) is = neg_below n 9223372036854775807 (pos (negatives EightBytes)) (omega arith) is

unsigned : (w : Width) (n : ℤ) → is_of (UnsignedType w) (IntValue n) ≡ true → nat_abs n < 2 ^ 64
unsigned OneByte (pos n) is = pos_below n (2 ^ 8) (pos 0) (omega arith) is
unsigned OneByte (negsuc n) is = cc
unsigned TwoBytes (pos n) is = pos_below n (2 ^ 16) (pos 0) (omega arith) is
unsigned TwoBytes (negsuc n) is = cc
unsigned FourBytes (pos n) is = pos_below n (2 ^ 32) (pos 0) (omega arith) is
unsigned FourBytes (negsuc n) is = cc
unsigned EightBytes (pos n) is = pos_below n (2 ^ 64) (pos 0) (omega arith) is
unsigned EightBytes (negsuc n) is = cc

integer : (ty : Plain) (n : ℤ) → is_of ty (IntValue n) ≡ true → nat_abs n < 2 ^ 64
integer BoolType n is = cc
integer (SignedType w) n is = signed w n is
integer (UnsignedType w) n is = unsigned w n is
integer CharType n is = cc
integer StringType n is = cc
integer (ListType item) n is = cc
integer (RecordType form fields) n is = cc
integer (VariantType form cases) n is = cc
integer (FlagsType labels) n is = cc
integer (OwnType kind) n is = cc
integer (BorrowType kind) n is = cc

word : (ty : Plain) (v : PlainValue) → is_of ty v ≡ true → number_in v < 2 ^ 64
word ty (BoolValue b) is = omega arith
word ty (IntValue n) is = integer ty n is
word ty (CharValue code) is = omega arith
word ty (StringValue bytes) is = omega arith
word ty (ListValue values) is = omega arith
word ty (RecordValue values) is = omega arith
word ty (VariantValue number payload) is = omega arith
word ty (FlagsValue bits) is = omega arith
word ty (HandleValue index) is = omega arith

pub typed_words : (params : Parts) (args : PlainValues) → are_of params args ≡ true → AreWords args
typed_words NoParts End is place = omega arith
typed_words NoParts (More v vs) is place = cc
typed_words (Part name ty rest) End is place = cc
typed_words (Part name ty rest) (More v vs) is zero = word ty v (left (is_of ty v) (are_of rest vs) is)
typed_words (Part name ty rest) (More v vs) is (suc place) = typed_words rest vs (right (is_of ty v) (are_of rest vs) is) place
typed_words (Bare name rest) args is place = typed_words rest args is place

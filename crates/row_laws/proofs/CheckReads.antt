-- The answers of `check-write` as they lie in memory.
use Rattle.std.proofs.Common.{◌≡◌, ℕ, ℤ, pos, negsuc, zero, suc, ◌%◌, ◌^◌, ◌<◌, ◌≤◌, ◌&&◌, nat_le, Bool, true, false, List, length, Some, refl, ap, arith}
use Rattle.std.specs.Prelude.{int_le, int_lt}
use Rattle.std.proofs.lemmas.Bool.{le-leb, ltb-true}
use Rattle.wit_types.specs.Plain.{Name, UnsignedType, EightBytes}
use Rattle.wit_types.specs.PlainValue.{PlainValue, Payload, IntValue, HandleValue, RecordValue, VariantValue, BoolValue, CharValue, StringValue, ListValue, FlagsValue, End as NoValues, More as Values, Without, With}
use Rattle.wit_types.specs.HasType.{is_of}
use Rattle.abi_layout.specs.Loading.{loads}
use Rattle.adapter_code.specs.Number.{word}
use Rattle.row_runs.specs.Passing.{answer_tuple}
use Rattle.row_laws.specs.Check.{stream_error, check_answer, check_type}

abbrev pub succeeded : ℕ → PlainValue
succeeded n = VariantValue 0 (With (IntValue (pos n)))

abbrev pub failed : ℕ → PlainValue
failed id = VariantValue 1 (With (VariantValue 0 (With (HandleValue id))))

abbrev pub closed : PlainValue
closed = VariantValue 1 (With (VariantValue 1 Without))

abbrev pub one_value : PlainValue → PlainValue
one_value v = RecordValue (Values v NoValues)

module _ (self : Name) (m : List ℕ) (long : 16 ≤ length m) where
  first : nat_le 1 (length m) ≡ true
  first = le-leb 1 (length m) (omega arith)

  ninth : nat_le 9 (length m) ≡ true
  ninth = le-leb 9 (length m) (omega arith)

  last : nat_le 16 (length m) ≡ true
  last = le-leb 16 (length m) long

  pub loads_succeeded : (n : ℕ) → word m 0 1 ≡ 0 → word m 8 8 ≡ n → loads m (answer_tuple (check_type self)) 0 ≡ Some (one_value (succeeded (n % 2 ^ 64)))
  unfolding word
  loads_succeeded n a b = rw (last, first, a, b) refl

  pub loads_closed : word m 0 1 ≡ 1 → word m 8 1 ≡ 1 → loads m (answer_tuple (check_type self)) 0 ≡ Some (one_value closed)
  unfolding word
  loads_closed a b = rw (last, first, a, ninth, b) refl

  pub loads_failed : (i : ℕ) → word m 0 1 ≡ 1 → word m 8 1 ≡ 0 → word m 12 4 ≡ i → loads m (answer_tuple (check_type self)) 0 ≡ Some (one_value (failed i))
  unfolding word
  loads_failed i a b d = rw (last, first, a, ninth, b, d) refl

-- ---- the values of the type

pub data Shape (v : PlainValue) : Type 0 where
  Succeeded : (n : ℕ) (small : n < 2 ^ 64) (is : v ≡ succeeded n) → Shape v
  Failed : (id : ℕ) (is : v ≡ failed id) → Shape v
  Closed : (is : v ≡ closed) → Shape v

second_true : (a b : Bool) → (a && b) ≡ true → b ≡ true
second_true true b e = e
second_true false b e = cc

below : (n : ℤ) → is_of (UnsignedType EightBytes) (IntValue n) ≡ true → (k : ℕ) × (k < 2 ^ 64) × (n ≡ pos k)
below (pos k) e = (k, ltb-true k (2 ^ 64) (second_true (int_le (pos 0) (pos k)) (int_lt (pos k) (pos (2 ^ 64))) e), refl)
below (negsuc k) e = cc

succeeds : (p : Payload) → is_of check_answer (VariantValue 0 p) ≡ true → Shape (VariantValue 0 p)
succeeds Without e = cc
succeeds (With (IntValue n)) e = let b = below n e in Succeeded b.0 b.1 (ap (λ k. VariantValue 0 (With (IntValue k))) b.2)
succeeds (With (BoolValue b)) e = cc
succeeds (With (CharValue b)) e = cc
succeeds (With (StringValue b)) e = cc
succeeds (With (ListValue b)) e = cc
succeeds (With (RecordValue b)) e = cc
succeeds (With (VariantValue n b)) e = cc
succeeds (With (FlagsValue b)) e = cc
succeeds (With (HandleValue b)) e = cc

fails_open : (p : Payload) → is_of stream_error (VariantValue 0 p) ≡ true → Shape (VariantValue 1 (With (VariantValue 0 p)))
fails_open Without e = cc
fails_open (With (HandleValue id)) e = Failed id refl
fails_open (With (IntValue n)) e = cc
fails_open (With (BoolValue b)) e = cc
fails_open (With (CharValue b)) e = cc
fails_open (With (StringValue b)) e = cc
fails_open (With (ListValue b)) e = cc
fails_open (With (RecordValue b)) e = cc
fails_open (With (VariantValue n b)) e = cc
fails_open (With (FlagsValue b)) e = cc

fails_closed : (p : Payload) → is_of stream_error (VariantValue 1 p) ≡ true → Shape (VariantValue 1 (With (VariantValue 1 p)))
fails_closed Without e = Closed refl
fails_closed (With v) e = cc

fails_by : (n : ℕ) (p : Payload) → is_of stream_error (VariantValue n p) ≡ true → Shape (VariantValue 1 (With (VariantValue n p)))
fails_by zero p e = fails_open p e
fails_by (suc zero) p e = fails_closed p e
fails_by (suc (suc n)) p e = cc

fails : (p : Payload) → is_of check_answer (VariantValue 1 p) ≡ true → Shape (VariantValue 1 p)
fails Without e = cc
fails (With (VariantValue n p)) e = fails_by n p e
fails (With (IntValue n)) e = cc
fails (With (BoolValue b)) e = cc
fails (With (CharValue b)) e = cc
fails (With (StringValue b)) e = cc
fails (With (ListValue b)) e = cc
fails (With (RecordValue b)) e = cc
fails (With (FlagsValue b)) e = cc
fails (With (HandleValue b)) e = cc

by_case : (n : ℕ) (p : Payload) → is_of check_answer (VariantValue n p) ≡ true → Shape (VariantValue n p)
by_case zero p e = succeeds p e
by_case (suc zero) p e = fails p e
by_case (suc (suc n)) p e = cc

pub shape : (v : PlainValue) → is_of check_answer v ≡ true → Shape v
shape (VariantValue n p) e = by_case n p e
shape (IntValue n) e = cc
shape (BoolValue b) e = cc
shape (CharValue b) e = cc
shape (StringValue b) e = cc
shape (ListValue b) e = cc
shape (RecordValue b) e = cc
shape (FlagsValue b) e = cc
shape (HandleValue b) e = cc

-- Values that are loaded or lifted have the type.
use Rattle.std.proofs.Common.{◌≡◌, ℕ, pos, zero, suc, ◌+◌, ◌*◌, ◌%◌, ◌^◌, ◌<◌, ap, refl, sym, ◌∙◌, Bool, true, false, ◌&&◌, List, length, take, drop, Option, Some, None, arith}
use Rattle.std.specs.Prelude.{if◌then◌else◌, nat_lt, nat_le, option_map, option_and_then, slice_index, ◌-ℤ◌, neg_ℤ, int_le, int_lt}
use Rattle.std.specs.Str.{is_utf8}
use Rattle.std.proofs.lemmas.Bool.Decides.{nat_tests}
use Rattle.std.proofs.lemmas.Int.{ints}
use Rattle.std.proofs.lemmas.Nat.{pow_pos}
use Rattle.wit_types.specs.Plain.{Width, OneByte, TwoBytes, FourBytes, EightBytes, Plain, Parts, BoolType, SignedType, UnsignedType, CharType, StringType, ListType, RecordType, VariantType, FlagsType, OwnType, BorrowType, End, More, Bare}
use Rattle.wit_types.specs.PlainValue.{PlainValue, CharValue, StringValue, ListValue, RecordValue, VariantValue, More as Values, With}
use Rattle.wit_types.specs.HasType.{is_of, are_of, is_of_case, all_pass, is_char, is_string, is_list, is_scalar}
use Rattle.wit_types.specs.Layout.{alignment, align_to, count, discriminant_size, size, flat}
use Rattle.abi_layout.specs.Numbers.{value_of}
use Rattle.abi_layout.specs.Loading.{read, is_aligned, items_at, string_at, list_at, loads_at, fields_at, case_at, loads, payload_offset, lift_flat, lift_fields, lift_case, low_word}

-- what is there passes
abbrev pub passes : {A : Type 0} → (A → Bool) → Option A → Bool
passes test None = true
passes test (Some x) = test x

pub passed : {A : Type 0} (test : A → Bool) (o : Option A) (x : A) → passes test o ≡ true → o ≡ Some x → test x ≡ true
passed test o x h is = sym (ap (passes test) is) ∙ h

passes_then : {A B : Type 0} (test : B → Bool) (f : A → Option B) (o : Option A) → ((x : A) → passes test (f x) ≡ true) → passes test (option_and_then f o) ≡ true
passes_then test f None h = refl
passes_then test f (Some x) h = h x

passes_bind : {A B : Type 0} (inner : A → Bool) (test : B → Bool) (f : A → Option B) (o : Option A) → passes inner o ≡ true → ((x : A) → inner x ≡ true → passes test (f x) ≡ true) →
    passes test (option_and_then f o) ≡ true
passes_bind inner test f None p h = refl
passes_bind inner test f (Some x) p h = h x p

passes_map : {A B : Type 0} (inner : A → Bool) (test : B → Bool) (g : A → B) (o : Option A) → passes inner o ≡ true → ((x : A) → inner x ≡ true → test (g x) ≡ true) →
    passes test (option_map g o) ≡ true
passes_map inner test g None p h = refl
passes_map inner test g (Some x) p h = h x p

passes_if : {A : Type 0} (test : A → Bool) (b : Bool) (o : Option A) → passes test o ≡ true → passes test (if b then o else None) ≡ true
passes_if test true o h = h
passes_if test false o h = refl

both_true : (a b : Bool) → a ≡ true → b ≡ true → (a && b) ≡ true
both_true a b p q = ap (λ c. c && b) p ∙ q

-- ---- numbers

below : (m k : ℕ) → m < k → (int_le (pos 0) (pos m) && int_lt (pos m) (pos k)) ≡ true
below m k lt = grind (arith, ints, nat_tests)

signed : (m half : ℕ) → 0 < half → m < 2 * half →
    (int_le (neg_ℤ (pos half)) (if nat_lt m half then pos m else (pos m -ℤ pos (2 * half))) && int_lt (if nat_lt m half then pos m else (pos m -ℤ pos (2 * half))) (pos half)) ≡ true
signed m half some lt = grind (arith, ints, nat_tests)

char_passes : (n : ℕ) (b : Bool) → is_scalar n ≡ b → passes (λ v. is_char v) (if b then Some (CharValue n) else None) ≡ true
char_passes n true e = e
char_passes n false e = refl

signed_passes : (w : Width) (n : ℕ) → passes (λ v. is_of (SignedType w) v) (value_of (SignedType w) n) ≡ true
signed_passes OneByte n = signed (n % 2 ^ 8) (2 ^ 7) (omega arith) (omega arith)
signed_passes TwoBytes n = signed (n % 2 ^ 16) (2 ^ 15) (omega arith) (omega arith)
signed_passes FourBytes n = signed (n % 2 ^ 32) (2 ^ 31) (omega arith) (omega arith)
signed_passes EightBytes n = signed (n % 2 ^ 64) (2 ^ 63) (omega arith) (omega arith)

unsigned_passes : (w : Width) (n : ℕ) → passes (λ v. is_of (UnsignedType w) v) (value_of (UnsignedType w) n) ≡ true
unsigned_passes OneByte n = below (n % 2 ^ 8) (2 ^ 8) (omega arith)
unsigned_passes TwoBytes n = below (n % 2 ^ 16) (2 ^ 16) (omega arith)
unsigned_passes FourBytes n = below (n % 2 ^ 32) (2 ^ 32) (omega arith)
unsigned_passes EightBytes n = below (n % 2 ^ 64) (2 ^ 64) (omega arith)

flags_pass : (n k : ℕ) → 0 < k → nat_lt (n % k) k ≡ true
flags_pass n k some = grind (arith, nat_tests)

pub value_passes : (ty : Plain) (n : ℕ) → passes (λ v. is_of ty v) (value_of ty n) ≡ true
value_passes BoolType n = refl
value_passes (SignedType w) n = signed_passes w n
value_passes (UnsignedType w) n = unsigned_passes w n
value_passes CharType n = char_passes n (is_scalar n) refl
value_passes (FlagsType labels) n = flags_pass n (2 ^ length labels) (pow_pos (length labels))
value_passes (OwnType _) n = refl
value_passes (BorrowType _) n = refl
value_passes StringType n = refl
value_passes (ListType _) n = refl
value_passes (RecordType _ _) n = refl
value_passes (VariantType _ _) n = refl

-- ---- strings and lists

string_passes : (memory : List ℕ) (place len : ℕ) → passes (λ v. is_string v) (string_at memory place len) ≡ true
string_passes memory place len =
    passes_if (λ v. is_string v) (nat_le (place + len) (length memory) && is_utf8 (take len (drop place memory))) (Some (StringValue (take len (drop place memory)))) refl

items_pass : (test : PlainValue → Bool) (load : ℕ → Option PlainValue) → ((p : ℕ) → passes test (load p) ≡ true) → (size place n : ℕ) → passes (λ vs. all_pass test vs) (items_at load size place n) ≡ true
items_pass test load h size place zero = refl
items_pass test load h size place (suc n) =
    passes_bind test (λ vs. all_pass test vs) (λ v. option_map (Values v) (items_at load size (place + size) n)) (load place) (h place)
    (λ v p. passes_map (λ vs. all_pass test vs) (λ vs. all_pass test vs) (Values v) (items_at load size (place + size) n) (items_pass test load h size (place + size) n)
    (λ vs q. both_true (test v) (all_pass test vs) p q))

list_passes : (memory : List ℕ) (test : PlainValue → Bool) (load : ℕ → Option PlainValue) → ((p : ℕ) → passes test (load p) ≡ true) → (size align place n : ℕ) →
    passes (λ v. is_list test v) (list_at memory load size align place n) ≡ true
list_passes memory test load h size align place n =
    passes_if (λ v. is_list test v) (is_aligned place align && nat_le (place + n * size) (length memory)) (option_map ListValue (items_at load size place n))
    (passes_map (λ vs. all_pass test vs) (λ v. is_list test v) ListValue (items_at load size place n) (items_pass test load h size place n) (λ vs p. p))

number_passes : (memory : List ℕ) (ty : Plain) (at : ℕ) → passes (λ v. is_of ty v) (option_and_then (λ n. value_of ty n) (read memory at (size ty))) ≡ true
number_passes memory ty at = passes_then (λ v. is_of ty v) (λ n. value_of ty n) (read memory at (size ty)) (λ n. value_passes ty n)

-- ---- in memory

mutual
  pub loaded_passes : (memory : List ℕ) (ty : Plain) (at : ℕ) → passes (λ v. is_of ty v) (loads_at memory ty at) ≡ true
  loaded_passes memory BoolType at = number_passes memory BoolType at
  loaded_passes memory (SignedType w) at = number_passes memory (SignedType w) at
  loaded_passes memory (UnsignedType w) at = number_passes memory (UnsignedType w) at
  loaded_passes memory CharType at = number_passes memory CharType at
  loaded_passes memory StringType at =
      passes_then (λ v. is_string v) (λ place. option_and_then (λ len. string_at memory place len) (read memory (at + 4) 4)) (read memory at 4)
      (λ place. passes_then (λ v. is_string v) (λ len. string_at memory place len) (read memory (at + 4) 4) (λ len. string_passes memory place len))
  loaded_passes memory (ListType item) at =
      passes_then (λ v. is_of (ListType item) v)
      (λ place. option_and_then (λ len. list_at memory (λ p. loads_at memory item p) (size item) (alignment item) place len) (read memory (at + 4) 4)) (read memory at 4)
      (λ place. passes_then (λ v. is_of (ListType item) v) (λ len. list_at memory (λ p. loads_at memory item p) (size item) (alignment item) place len) (read memory (at + 4) 4)
      (λ len. list_passes memory (λ v. is_of item v) (λ p. loads_at memory item p) (λ p. loaded_passes memory item p) (size item) (alignment item) place len))
  loaded_passes memory (RecordType form fields) at =
      passes_map (λ vs. are_of fields vs) (λ v. is_of (RecordType form fields) v) RecordValue (fields_at memory fields at 0) (fields_pass memory fields at 0) (λ vs p. p)
  loaded_passes memory (VariantType form cases) at =
      passes_then (λ v. is_of (VariantType form cases) v) (λ n. option_map (VariantValue n) (case_at memory cases n (at + payload_offset cases))) (read memory at (discriminant_size (count cases)))
      (λ n. passes_map (λ x. is_of_case cases n x) (λ v. is_of (VariantType form cases) v) (VariantValue n) (case_at memory cases n (at + payload_offset cases))
      (case_passes memory cases n (at + payload_offset cases)) (λ x p. p))
  loaded_passes memory (FlagsType labels) at = number_passes memory (FlagsType labels) at
  loaded_passes memory (OwnType r) at = number_passes memory (OwnType r) at
  loaded_passes memory (BorrowType r) at = number_passes memory (BorrowType r) at

  fields_pass : (memory : List ℕ) (ps : Parts) (at offset : ℕ) → passes (λ vs. are_of ps vs) (fields_at memory ps at offset) ≡ true
  fields_pass memory End at offset = refl
  fields_pass memory (More name ty rest) at offset =
      let start = align_to offset (alignment ty) in
      passes_bind (λ v. is_of ty v) (λ vs. are_of (More name ty rest) vs) (λ v. option_map (Values v) (fields_at memory rest at (start + size ty))) (loads_at memory ty (at + start)) (loaded_passes memory ty (at + start))
      (λ v p. passes_map (λ vs. are_of rest vs) (λ vs. are_of (More name ty rest) vs) (Values v) (fields_at memory rest at (start + size ty)) (fields_pass memory rest at (start + size ty))
      (λ vs q. both_true (is_of ty v) (are_of rest vs) p q))
  fields_pass memory (Bare _ rest) at offset = fields_pass memory rest at offset

  case_passes : (memory : List ℕ) (ps : Parts) (n at : ℕ) → passes (λ x. is_of_case ps n x) (case_at memory ps n at) ≡ true
  case_passes memory End n at = refl
  case_passes memory (More name ty rest) zero at =
      passes_map (λ v. is_of ty v) (λ x. is_of_case (More name ty rest) zero x) With (loads_at memory ty at) (loaded_passes memory ty at) (λ v p. p)
  case_passes memory (More _ ty rest) (suc n) at = case_passes memory rest n at
  case_passes memory (Bare _ rest) zero at = refl
  case_passes memory (Bare _ rest) (suc n) at = case_passes memory rest n at

-- ---- among flat values

mutual
  pub lifted_passes : (memory : List ℕ) (ty : Plain) (words : List ℕ) (k : ℕ) → passes (λ v. is_of ty v) (lift_flat memory ty words k) ≡ true
  lifted_passes memory BoolType words k = value_passes BoolType (low_word words k)
  lifted_passes memory (SignedType w) words k = value_passes (SignedType w) (slice_index words k)
  lifted_passes memory (UnsignedType w) words k = value_passes (UnsignedType w) (slice_index words k)
  lifted_passes memory CharType words k = value_passes CharType (low_word words k)
  lifted_passes memory StringType words k = string_passes memory (low_word words k) (low_word words (k + 1))
  lifted_passes memory (ListType item) words k =
      list_passes memory (λ v. is_of item v) (λ p. loads_at memory item p) (λ p. loaded_passes memory item p) (size item) (alignment item) (low_word words k) (low_word words (k + 1))
  lifted_passes memory (RecordType form fields) words k =
      passes_map (λ vs. are_of fields vs) (λ v. is_of (RecordType form fields) v) RecordValue (lift_fields memory fields words k) (lift_fields_pass memory fields words k) (λ vs p. p)
  lifted_passes memory (VariantType form cases) words k =
      passes_map (λ x. is_of_case cases (low_word words k) x) (λ v. is_of (VariantType form cases) v) (VariantValue (low_word words k)) (lift_case memory cases (low_word words k) words (k + 1))
      (lift_case_passes memory cases (low_word words k) words (k + 1)) (λ x p. p)
  lifted_passes memory (FlagsType labels) words k = value_passes (FlagsType labels) (low_word words k)
  lifted_passes memory (OwnType r) words k = value_passes (OwnType r) (low_word words k)
  lifted_passes memory (BorrowType r) words k = value_passes (BorrowType r) (low_word words k)

  lift_fields_pass : (memory : List ℕ) (ps : Parts) (words : List ℕ) (k : ℕ) → passes (λ vs. are_of ps vs) (lift_fields memory ps words k) ≡ true
  lift_fields_pass memory End words k = refl
  lift_fields_pass memory (More name ty rest) words k =
      passes_bind (λ v. is_of ty v) (λ vs. are_of (More name ty rest) vs) (λ v. option_map (Values v) (lift_fields memory rest words (k + length (flat ty)))) (lift_flat memory ty words k) (lifted_passes memory ty words k)
      (λ v p. passes_map (λ vs. are_of rest vs) (λ vs. are_of (More name ty rest) vs) (Values v) (lift_fields memory rest words (k + length (flat ty))) (lift_fields_pass memory rest words (k + length (flat ty)))
      (λ vs q. both_true (is_of ty v) (are_of rest vs) p q))
  lift_fields_pass memory (Bare _ rest) words k = lift_fields_pass memory rest words k

  lift_case_passes : (memory : List ℕ) (ps : Parts) (n : ℕ) (words : List ℕ) (k : ℕ) → passes (λ x. is_of_case ps n x) (lift_case memory ps n words k) ≡ true
  lift_case_passes memory End n words k = refl
  lift_case_passes memory (More name ty rest) zero words k =
      passes_map (λ v. is_of ty v) (λ x. is_of_case (More name ty rest) zero x) With (lift_flat memory ty words k) (lifted_passes memory ty words k) (λ v p. p)
  lift_case_passes memory (More _ ty rest) (suc n) words k = lift_case_passes memory rest n words k
  lift_case_passes memory (Bare _ rest) zero words k = refl
  lift_case_passes memory (Bare _ rest) (suc n) words k = lift_case_passes memory rest n words k

pub loads_typed : (memory : List ℕ) (ty : Plain) (at : ℕ) (v : PlainValue) → loads memory ty at ≡ Some v → is_of ty v ≡ true
loads_typed memory ty at v is = passed (λ x. is_of ty x) (loads memory ty at) v (passes_if (λ x. is_of ty x) _ (loads_at memory ty at) (loaded_passes memory ty at)) is

pub lifts_typed : (memory : List ℕ) (ty : Plain) (words : List ℕ) (k : ℕ) (v : PlainValue) → lift_flat memory ty words k ≡ Some v → is_of ty v ≡ true
lifts_typed memory ty words k v is = passed (λ x. is_of ty x) (lift_flat memory ty words k) v (lifted_passes memory ty words k) is

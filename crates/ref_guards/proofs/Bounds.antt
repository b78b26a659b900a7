-- How many handles a value of a type has, where none is in a list.
use Rattle.std.proofs.Common.{◌≡◌, ℕ, zero, suc, ◌+◌, ◌≤◌, Bool, true, false, ◌&&◌, List, [], ◌∷◌, ◌++◌, Option, Some, None, refl, ap, ◌∙◌, arith}
use Rattle.wit_types.specs.Plain.{Plain, Parts, BoolType, SignedType, UnsignedType, CharType, StringType, ListType, RecordType, VariantType, FlagsType, OwnType, BorrowType, End as NoParts, More as Part, Bare}
use Rattle.wit_types.specs.PlainValue.{PlainValue, PlainValues, Payload, BoolValue, IntValue, CharValue, StringValue, ListValue, RecordValue, VariantValue, FlagsValue, HandleValue, End, More, Without, With}
use Rattle.wit_types.specs.Layout.{size}
use Rattle.reference_step.specs.Atoms.{Atom, Text, Elements, Handle, text_atoms, handle_atoms, each_atoms, list_atoms, record_atoms, first_atoms, variant_atoms, payload_atoms, case_atoms, atoms, atoms_of, atoms_at, result_atoms, handles}
use Rattle.reference_step.specs.Rules.{same_kind, owns, owns_in, owns_of}
use Rattle.ref_guards.specs.RoomEntering.{count_kind}

-- ---- types without handles, and types with none in a list and none borrowed

abbrev mutual
  pub is_bare : Plain → Bool
  is_bare BoolType = true
  is_bare (SignedType width) = true
  is_bare (UnsignedType width) = true
  is_bare CharType = true
  is_bare StringType = true
  is_bare (ListType item) = is_bare item
  is_bare (RecordType _ fields) = are_bare fields
  is_bare (VariantType _ cases) = are_bare cases
  is_bare (FlagsType labels) = true
  is_bare (OwnType kind) = false
  is_bare (BorrowType kind) = false

  pub are_bare : Parts → Bool
  are_bare NoParts = true
  are_bare (Part _ ty rest) = is_bare ty && are_bare rest
  are_bare (Bare _ rest) = are_bare rest

abbrev mutual
  pub is_flat : Plain → Bool
  is_flat BoolType = true
  is_flat (SignedType width) = true
  is_flat (UnsignedType width) = true
  is_flat CharType = true
  is_flat StringType = true
  is_flat (ListType item) = is_bare item
  is_flat (RecordType _ fields) = are_flat fields
  is_flat (VariantType _ cases) = are_flat cases
  is_flat (FlagsType labels) = true
  is_flat (OwnType kind) = true
  is_flat (BorrowType kind) = false

  pub are_flat : Parts → Bool
  are_flat NoParts = true
  are_flat (Part _ ty rest) = is_flat ty && are_flat rest
  are_flat (Bare _ rest) = are_flat rest

abbrev pub is_flat_result : Option Plain → Bool
is_flat_result None = true
is_flat_result (Some ty) = is_flat ty

first_true : (a b : Bool) → (a && b) ≡ true → a ≡ true
first_true true b e = refl
first_true false b e = e

second_true : (a b : Bool) → (a && b) ≡ true → b ≡ true
second_true true b e = e
second_true false b e = cc

-- ---- what holds of each form's atoms

module _ (P : List Atom → Type 0) (none : P []) where
  text_by : ((bytes : List ℕ) → P (text_atoms (StringValue bytes))) → (v : PlainValue) → P (text_atoms v)
  text_by some (BoolValue b) = none
  text_by some (IntValue n) = none
  text_by some (CharValue c) = none
  text_by some (StringValue bytes) = some bytes
  text_by some (ListValue vs) = none
  text_by some (RecordValue vs) = none
  text_by some (VariantValue n x) = none
  text_by some (FlagsValue bits) = none
  text_by some (HandleValue id) = none

  handle_by : (kind : ℕ) → ((id : ℕ) → P (Handle kind id ∷ [])) → (v : PlainValue) → P (handle_atoms kind v)
  handle_by kind some (BoolValue b) = none
  handle_by kind some (IntValue n) = none
  handle_by kind some (CharValue c) = none
  handle_by kind some (StringValue bytes) = none
  handle_by kind some (ListValue vs) = none
  handle_by kind some (RecordValue vs) = none
  handle_by kind some (VariantValue n x) = none
  handle_by kind some (FlagsValue bits) = none
  handle_by kind some (HandleValue id) = some id

  list_by : (n : ℕ) (g : PlainValue → List Atom) → ((vs : PlainValues) → P (list_atoms n g (ListValue vs))) → (v : PlainValue) → P (list_atoms n g v)
  list_by n g some (BoolValue b) = none
  list_by n g some (IntValue i) = none
  list_by n g some (CharValue c) = none
  list_by n g some (StringValue bytes) = none
  list_by n g some (ListValue vs) = some vs
  list_by n g some (RecordValue vs) = none
  list_by n g some (VariantValue i x) = none
  list_by n g some (FlagsValue bits) = none
  list_by n g some (HandleValue id) = none

  record_by : (g : PlainValues → List Atom) → ((vs : PlainValues) → P (g vs)) → (v : PlainValue) → P (record_atoms g v)
  record_by g some (BoolValue b) = none
  record_by g some (IntValue i) = none
  record_by g some (CharValue c) = none
  record_by g some (StringValue bytes) = none
  record_by g some (ListValue vs) = none
  record_by g some (RecordValue vs) = some vs
  record_by g some (VariantValue i x) = none
  record_by g some (FlagsValue bits) = none
  record_by g some (HandleValue id) = none

  variant_by : (g : ℕ → Payload → List Atom) → ((n : ℕ) (x : Payload) → P (g n x)) → (v : PlainValue) → P (variant_atoms g v)
  variant_by g some (BoolValue b) = none
  variant_by g some (IntValue i) = none
  variant_by g some (CharValue c) = none
  variant_by g some (StringValue bytes) = none
  variant_by g some (ListValue vs) = none
  variant_by g some (RecordValue vs) = none
  variant_by g some (VariantValue n x) = some n x
  variant_by g some (FlagsValue bits) = none
  variant_by g some (HandleValue id) = none

  payload_by : (g : PlainValue → List Atom) → ((v : PlainValue) → P (g v)) → (x : Payload) → P (payload_atoms g x)
  payload_by g some Without = none
  payload_by g some (With v) = some v

-- ---- no handles

handles_append : (a b : List Atom) → handles (a ++ b) ≡ handles a ++ handles b
handles_append [] b = refl
handles_append (Text n ∷ a) b = handles_append a b
handles_append (Elements n s ∷ a) b = handles_append a b
handles_append (Handle k i ∷ a) b = ap (λ gs. (k, i) ∷ gs) (handles_append a b)

abbrev IsBare : List Atom → Type 0
IsBare xs = handles xs ≡ []

bare_append : (a b : List Atom) → IsBare a → IsBare b → IsBare (a ++ b)
bare_append a b p q = handles_append a b ∙ rw (p, q) refl

bare_each : (g : PlainValue → List Atom) → ((v : PlainValue) → IsBare (g v)) → (vs : PlainValues) → IsBare (each_atoms g vs)
bare_each g some End = refl
bare_each g some (More v vs) = bare_append (g v) (each_atoms g vs) (some v) (bare_each g some vs)

bare_first : (f : PlainValue → List Atom) (g : PlainValues → List Atom) → ((v : PlainValue) → IsBare (f v)) → ((vs : PlainValues) → IsBare (g vs)) → (xs : PlainValues) → IsBare (first_atoms f g xs)
bare_first f g p q End = refl
bare_first f g p q (More v vs) = bare_append (f v) (g vs) (p v) (q vs)

bare_case : (f : Payload → List Atom) (g : ℕ → Payload → List Atom) → ((x : Payload) → IsBare (f x)) → ((n : ℕ) (x : Payload) → IsBare (g n x)) → (n : ℕ) (x : Payload) → IsBare (case_atoms f g n x)
bare_case f g p q zero x = p x
bare_case f g p q (suc n) x = q n x

mutual
  bare_atoms : (ty : Plain) → is_bare ty ≡ true → (v : PlainValue) → IsBare (atoms ty v)
  bare_atoms BoolType e v = refl
  bare_atoms (SignedType width) e v = refl
  bare_atoms (UnsignedType width) e v = refl
  bare_atoms CharType e v = refl
  bare_atoms StringType e v = text_by IsBare refl (λ bytes. refl) v
  bare_atoms (ListType item) e v = list_by IsBare refl (size item) (λ x. atoms item x) (λ vs. bare_each (λ x. atoms item x) (λ x. bare_atoms item e x) vs) v
  bare_atoms (RecordType form fields) e v = record_by IsBare refl (λ xs. atoms_of fields xs) (λ xs. bare_fields fields e xs) v
  bare_atoms (VariantType form cases) e v = variant_by IsBare refl (λ n x. atoms_at cases n x) (λ n x. bare_cases cases e n x) v
  bare_atoms (FlagsType labels) e v = refl
  bare_atoms (OwnType kind) e v = cc
  bare_atoms (BorrowType kind) e v = cc

  bare_fields : (fields : Parts) → are_bare fields ≡ true → (xs : PlainValues) → IsBare (atoms_of fields xs)
  bare_fields NoParts e xs = refl
  bare_fields (Part name ty rest) e xs = bare_first (λ x. atoms ty x) (λ ys. atoms_of rest ys) (λ x. bare_atoms ty (first_true (is_bare ty) (are_bare rest) e) x) (λ ys. bare_fields rest (second_true (is_bare ty) (are_bare rest) e) ys) xs
  bare_fields (Bare name rest) e xs = bare_fields rest e xs

  bare_cases : (cases : Parts) → are_bare cases ≡ true → (n : ℕ) (x : Payload) → IsBare (atoms_at cases n x)
  bare_cases NoParts e n x = refl
  bare_cases (Part name ty rest) e n x = bare_case (λ y. payload_atoms (λ v. atoms ty v) y) (λ m y. atoms_at rest m y) (λ y. payload_by IsBare refl (λ v. atoms ty v) (λ v. bare_atoms ty (first_true (is_bare ty) (are_bare rest) e) v) y) (λ m y. bare_cases rest (second_true (is_bare ty) (are_bare rest) e) m y) n x
  bare_cases (Bare name rest) e n x = bare_case (λ y. []) (λ m y. atoms_at rest m y) (λ y. refl) (λ m y. bare_cases rest e m y) n x

-- ---- few handles

count_append : (kind : ℕ) (a b : List (ℕ × ℕ)) → count_kind kind (a ++ b) ≡ count_kind kind a + count_kind kind b
count_append kind [] b = omega arith
count_append kind (g ∷ a) b = omega (arith, count_append kind a b)

module _ (kind : ℕ) where
  abbrev IsFew : ℕ → List Atom → Type 0
  IsFew n xs = count_kind kind (handles xs) ≤ n

  few_append : (m n : ℕ) (a b : List Atom) → IsFew m a → IsFew n b → IsFew (m + n) (a ++ b)
  few_append m n a b p q = rw (handles_append a b, count_append kind (handles a) (handles b)) (omega arith)

  few_more : (m n : ℕ) (xs : List Atom) → m ≤ n → IsFew m xs → IsFew n xs
  few_more m n xs less p = omega arith

  few_first : (m n : ℕ) (f : PlainValue → List Atom) (g : PlainValues → List Atom) → ((v : PlainValue) → IsFew m (f v)) → ((vs : PlainValues) → IsFew n (g vs)) → (xs : PlainValues) → IsFew (m + n) (first_atoms f g xs)
  few_first m n f g p q End = omega arith
  few_first m n f g p q (More v vs) = few_append m n (f v) (g vs) (p v) (q vs)

  few_case : (m n : ℕ) (f : Payload → List Atom) (g : ℕ → Payload → List Atom) → ((x : Payload) → IsFew m (f x)) → ((i : ℕ) (x : Payload) → IsFew n (g i x)) → (i : ℕ) (x : Payload) → IsFew (m + n) (case_atoms f g i x)
  few_case m n f g p q zero x = few_more m (m + n) (f x) (omega arith) (p x)
  few_case m n f g p q (suc i) x = few_more n (m + n) (g i x) (omega arith) (q i x)

  few_bare : (xs : List Atom) → IsBare xs → IsFew 0 xs
  few_bare xs e = rw e (omega arith)

  mutual
    pub few_atoms : (ty : Plain) → is_flat ty ≡ true → (v : PlainValue) → IsFew (owns kind ty) (atoms ty v)
    few_atoms BoolType e v = omega arith
    few_atoms (SignedType width) e v = omega arith
    few_atoms (UnsignedType width) e v = omega arith
    few_atoms CharType e v = omega arith
    few_atoms StringType e v = few_bare (atoms StringType v) (bare_atoms StringType refl v)
    few_atoms (ListType item) e v = few_bare (atoms (ListType item) v) (bare_atoms (ListType item) e v)
    few_atoms (RecordType form fields) e v = record_by (IsFew (owns_in kind fields)) (omega arith) (λ xs. atoms_of fields xs) (λ xs. few_fields fields e xs) v
    few_atoms (VariantType form cases) e v = variant_by (IsFew (owns_in kind cases)) (omega arith) (λ n x. atoms_at cases n x) (λ n x. few_cases cases e n x) v
    few_atoms (FlagsType labels) e v = omega arith
    few_atoms (OwnType other) e v = handle_by (IsFew (same_kind kind other)) (omega arith) other (λ id. omega arith) v
    few_atoms (BorrowType other) e v = cc

    few_fields : (fields : Parts) → are_flat fields ≡ true → (xs : PlainValues) → IsFew (owns_in kind fields) (atoms_of fields xs)
    few_fields NoParts e xs = omega arith
    few_fields (Part name ty rest) e xs = few_first (owns kind ty) (owns_in kind rest) (λ x. atoms ty x) (λ ys. atoms_of rest ys) (λ x. few_atoms ty (first_true (is_flat ty) (are_flat rest) e) x) (λ ys. few_fields rest (second_true (is_flat ty) (are_flat rest) e) ys) xs
    few_fields (Bare name rest) e xs = few_fields rest e xs

    few_cases : (cases : Parts) → are_flat cases ≡ true → (n : ℕ) (x : Payload) → IsFew (owns_in kind cases) (atoms_at cases n x)
    few_cases NoParts e n x = omega arith
    few_cases (Part name ty rest) e n x = few_case (owns kind ty) (owns_in kind rest) (λ y. payload_atoms (λ v. atoms ty v) y) (λ m y. atoms_at rest m y) (λ y. payload_by (IsFew (owns kind ty)) (omega arith) (λ v. atoms ty v) (λ v. few_atoms ty (first_true (is_flat ty) (are_flat rest) e) v) y) (λ m y. few_cases rest (second_true (is_flat ty) (are_flat rest) e) m y) n x
    few_cases (Bare name rest) e n x = few_more (0 + owns_in kind rest) (owns_in kind rest) (atoms_at (Bare name rest) n x) (omega arith) (few_case 0 (owns_in kind rest) (λ y. []) (λ m y. atoms_at rest m y) (λ y. omega arith) (λ m y. few_cases rest e m y) n x)

  pub few_result : (ty : Option Plain) (v : Option PlainValue) → is_flat_result ty ≡ true → IsFew (owns_of kind ty) (result_atoms ty v)
  few_result None v e = omega arith
  few_result (Some ty) None e = omega arith
  few_result (Some ty) (Some v) e = few_atoms ty e v

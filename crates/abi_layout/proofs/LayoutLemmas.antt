-- Bounds on alignments and sizes, and layout by the lists of a type's parts.
use Rattle.std.proofs.Common.{◌≡◌, ◌≤◌, ◌+◌, ◌*◌, ◌-◌, ℕ, max, arith, List, [], ◌∷◌, length, Option, Some, None, Global, refl}
use Rattle.std.specs.declared.rc.Rc.{Rc}
use Rattle.std.proofs.lemmas.Bool.Decides.{nat_tests}
use Rattle.wit_types.specs.declared.types.Case.{Case, out-Case}
use Rattle.wit_types.specs.declared.types.Field.{Field}
use Rattle.wit_types.specs.declared.types.Fields.{Fields, out-Fields}
use Rattle.wit_types.specs.declared.types.Cases.{Cases, out-Cases}
use Rattle.wit_types.specs.declared.types.Types.{Types}
use Rattle.wit_types.specs.declared.types.WitType.{WitType}
use Rattle.wit_types.specs.declared.types.WitType.TheVariants.{Record, Tuple, Variant, Option as Optional, Result as Results}
use Rattle.wit_types.specs.Plain.{Name, Width, OneByte, TwoBytes, FourBytes, EightBytes, AsEnum, Plain, Parts, BoolType, SignedType, UnsignedType, CharType, StringType, ListType, RecordType, VariantType, FlagsType, OwnType, BorrowType, End, More, Bare, bare, plain, payload_of, case_part, fields_of, types_of, cases_of}
use Rattle.wit_types.specs.Layout.{bytes, alignment, greatest_alignment, discriminant_size, flags_size, count, align_to, variant_size, size, end_of, greatest_size}
use Rattle.wit_types.specs.Limits.{parts, all_parts}
use Rattle.wit_types.proofs.PlainLemmas.{plains, plain-Record, plain-Tuple, plain-Variant, plain-Option, plain-Result}

-- ---- bounds

pub record IsSmallPower (n : ℕ) : Type 0 where
  pub least : 1 ≤ n
  pub most : n ≤ 8

within_eight : (n : ℕ) → 1 ≤ n → n ≤ 8 → IsSmallPower n
within_eight n a b = record { least = a; most = b }

pub bytes_bounds : (w : Width) → IsSmallPower (bytes w)
bytes_bounds OneByte = within_eight 1 (omega arith) (omega arith)
bytes_bounds TwoBytes = within_eight 2 (omega arith) (omega arith)
bytes_bounds FourBytes = within_eight 4 (omega arith) (omega arith)
bytes_bounds EightBytes = within_eight 8 (omega arith) (omega arith)

pub discriminant_bounds : (n : ℕ) → IsSmallPower (discriminant_size n)
discriminant_bounds n = record { least = grind (arith, nat_tests); most = grind (arith, nat_tests) }

pub discriminant_most : (n : ℕ) → discriminant_size n ≤ 4
discriminant_most n = grind (arith, nat_tests)

pub flags_bounds : (n : ℕ) → IsSmallPower (flags_size n)
flags_bounds n = record { least = grind (arith, nat_tests); most = grind (arith, nat_tests) }

pub flags_most : (n : ℕ) → flags_size n ≤ 4
flags_most n = grind (arith, nat_tests)

max_bounds : (m n : ℕ) → IsSmallPower m → IsSmallPower n → IsSmallPower (max m n)
max_bounds m n a b = record { least = omega arith; most = omega arith }

mutual
  pub alignment_bounds : (p : Plain) → IsSmallPower (alignment p)
  alignment_bounds BoolType = within_eight 1 (omega arith) (omega arith)
  alignment_bounds (SignedType w) = bytes_bounds w
  alignment_bounds (UnsignedType w) = bytes_bounds w
  alignment_bounds CharType = within_eight 4 (omega arith) (omega arith)
  alignment_bounds StringType = within_eight 4 (omega arith) (omega arith)
  alignment_bounds (ListType _) = within_eight 4 (omega arith) (omega arith)
  alignment_bounds (RecordType _ ps) = greatest_alignment_bounds ps
  alignment_bounds (VariantType _ cs) = max_bounds _ _ (discriminant_bounds (count cs)) (greatest_alignment_bounds cs)
  alignment_bounds (FlagsType labels) = flags_bounds (length labels)
  alignment_bounds (OwnType _) = within_eight 4 (omega arith) (omega arith)
  alignment_bounds (BorrowType _) = within_eight 4 (omega arith) (omega arith)

  pub greatest_alignment_bounds : (ps : Parts) → IsSmallPower (greatest_alignment ps)
  greatest_alignment_bounds End = within_eight 1 (omega arith) (omega arith)
  greatest_alignment_bounds (More _ p ps) = max_bounds _ _ (alignment_bounds p) (greatest_alignment_bounds ps)
  greatest_alignment_bounds (Bare _ ps) = greatest_alignment_bounds ps

pub align_to_most : (at by : ℕ) → 1 ≤ by → align_to at by ≤ at + (by - 1)
align_to_most at by h = grind arith

variant_most : (d a s : ℕ) → IsSmallPower d → IsSmallPower a → variant_size d a s ≤ d + 14 + s
variant_most d a s hd ha = omega (arith, align_to_most d a ha.least, align_to_most (align_to d a + s) (max d a) (max_bounds d a hd ha).least)

mutual
  pub size_most : (p : Plain) → size p + 8 ≤ 32 * parts p
  size_most BoolType = omega arith
  size_most (SignedType w) = omega (arith, (bytes_bounds w).most)
  size_most (UnsignedType w) = omega (arith, (bytes_bounds w).most)
  size_most CharType = omega arith
  size_most StringType = omega arith
  size_most (ListType _) = omega arith
  size_most (RecordType _ ps) =
      omega (arith, align_to_most (end_of ps 0) (greatest_alignment ps) (greatest_alignment_bounds ps).least, (greatest_alignment_bounds ps).most, end_of_most ps 0)
  size_most (VariantType _ cs) =
      omega (arith, variant_most (discriminant_size (count cs)) (greatest_alignment cs) (greatest_size cs) (discriminant_bounds (count cs)) (greatest_alignment_bounds cs), discriminant_most (count cs), greatest_size_most cs)
  size_most (FlagsType labels) = omega (arith, flags_most (length labels))
  size_most (OwnType _) = omega arith
  size_most (BorrowType _) = omega arith

  pub end_of_most : (ps : Parts) (at : ℕ) → end_of ps at ≤ at + 32 * all_parts ps
  end_of_most End at = omega arith
  end_of_most (More _ p ps) at =
      omega (arith, end_of_most ps (align_to at (alignment p) + size p), align_to_most at (alignment p) (alignment_bounds p).least, (alignment_bounds p).most, size_most p)
  end_of_most (Bare _ ps) at = end_of_most ps at

  pub greatest_size_most : (ps : Parts) → greatest_size ps ≤ 32 * all_parts ps
  greatest_size_most End = omega arith
  greatest_size_most (More _ p ps) = omega (arith, size_most p, greatest_size_most ps)
  greatest_size_most (Bare _ ps) = greatest_size_most ps

-- the bounds as tactics take them
pub greatest_alignment_least : (ps : Parts) → 1 ≤ greatest_alignment ps
greatest_alignment_least ps = (greatest_alignment_bounds ps).least

pub greatest_alignment_most : (ps : Parts) → greatest_alignment ps ≤ 8
greatest_alignment_most ps = (greatest_alignment_bounds ps).most

-- ---- cases without payloads

pub count-bare : (labels : List Name) → count (bare labels) ≡ length labels
count-bare [] = refl
count-bare (_ ∷ labels) = omega (arith, count-bare labels)

pub greatest_alignment-bare : (labels : List Name) → greatest_alignment (bare labels) ≡ 1
greatest_alignment-bare [] = refl
greatest_alignment-bare (_ ∷ labels) = greatest_alignment-bare labels

pub greatest_size-bare : (labels : List Name) → greatest_size (bare labels) ≡ 0
greatest_size-bare [] = refl
greatest_size-bare (_ ∷ labels) = greatest_size-bare labels

only_discriminant : (d : ℕ) → 1 ≤ d → variant_size d 1 0 ≡ d
only_discriminant d h = grind arith

-- an enum has a discriminant alone
pub enum_size : (labels : List Name) → size (VariantType AsEnum (bare labels)) ≡ discriminant_size (length labels)
enum_size labels = rw (count-bare, greatest_alignment-bare, greatest_size-bare) (only_discriminant (discriminant_size (length labels)) (discriminant_bounds (length labels)).least)

pub enum_alignment : (labels : List Name) → alignment (VariantType AsEnum (bare labels)) ≡ discriminant_size (length labels)
enum_alignment labels = rw (count-bare, greatest_alignment-bare) (omega (arith, (discriminant_bounds (length labels)).least))

-- ---- a case and the others

pub count-case_part : (name : Name) (p : Option Plain) (rest : Parts) → count (case_part name p rest) ≡ count rest + 1
count-case_part name None rest = refl
count-case_part name (Some t) rest = refl

pub count-cases_of : (cs : List Case) → count (cases_of cs) ≡ length cs
count-cases_of [] = refl
count-cases_of (c ∷ cs) = omega (arith, count-case_part (out-Case c).name (payload_of (out-Case c).ty) (cases_of cs), count-cases_of cs)

pub all_parts-case_part : (name : Name) (p : Option Plain) (rest : Parts) → all_parts (case_part name p rest) ≡ all_parts (case_part [] p End) + all_parts rest
all_parts-case_part name None rest = omega arith
all_parts-case_part name (Some t) rest = omega arith

pub greatest_size-case_part : (name : Name) (p : Option Plain) (rest : Parts) → greatest_size (case_part name p rest) ≡ max (greatest_size (case_part [] p End)) (greatest_size rest)
greatest_size-case_part name None rest = omega arith
greatest_size-case_part name (Some t) rest = omega arith

pub greatest_alignment-case_part : (name : Name) (p : Option Plain) (rest : Parts) → greatest_alignment (case_part name p rest) ≡ max (greatest_alignment (case_part [] p End)) (greatest_alignment rest)
greatest_alignment-case_part name None rest = omega (arith, greatest_alignment_least rest)
greatest_alignment-case_part name (Some t) rest = omega (arith, greatest_alignment_least rest)

-- ---- the parts of a type's parts are no more

pub few-Record : (ty : WitType) (fs : Rc Fields Global) (f : Fields) (xs : List Field) (n : ℕ) → ty ≡ Record fs → f ≡ fs.value → xs ≡ (out-Fields f).items.items → parts (plain ty) ≤ n → all_parts (fields_of xs) ≤ n
few-Record ty fs f xs n is held same few = rw (same, held) (let h = rw (is, plain-Record) at few in omega arith)

pub few-Tuple : (ty : WitType) (ts : Rc Types Global) (t : Types) (xs : List WitType) (n : ℕ) → ty ≡ Tuple ts → t ≡ ts.value → xs ≡ t.items.items → parts (plain ty) ≤ n → all_parts (types_of xs) ≤ n
few-Tuple ty ts t xs n is held same few = rw (same, held) (let h = rw (is, plain-Tuple) at few in omega arith)

pub few-Variant : (ty : WitType) (cs : Rc Cases Global) (c : Cases) (xs : List Case) (n : ℕ) → ty ≡ Variant cs → c ≡ cs.value → xs ≡ (out-Cases c).items.items → parts (plain ty) ≤ n → all_parts (cases_of xs) ≤ n
few-Variant ty cs c xs n is held same few = rw (same, held) (let h = rw (is, plain-Variant) at few in omega arith)

pub few-Option : (ty : WitType) (b : Rc WitType Global) (n : ℕ) → ty ≡ Optional b → parts (plain ty) ≤ n → parts (plain b.value) ≤ n
few-Option ty b n is few = let h = rw (is, plain-Option) at few in omega arith

pub few-Result : (ty : WitType) (ok err : Option (Rc WitType Global)) (n : ℕ) → ty ≡ Results ok err → parts (plain ty) ≤ n → (all_parts (case_part [] (payload_of ok) End) ≤ n) × (all_parts (case_part [] (payload_of err) End) ≤ n)
few-Result ty ok err n is few = let h = rw (is, plain-Result, all_parts-case_part) at few in (omega arith, omega arith)

-- ---- two payloads

pub greatest_size-two : (p q : Option Plain) → greatest_size (case_part [] p (case_part [] q End)) ≡ max (greatest_size (case_part [] p End)) (greatest_size (case_part [] q End))
greatest_size-two p q = greatest_size-case_part [] p (case_part [] q End)

pub greatest_alignment-two : (p q : Option Plain) → greatest_alignment (case_part [] p (case_part [] q End)) ≡ max (greatest_alignment (case_part [] p End)) (greatest_alignment (case_part [] q End))
greatest_alignment-two p q = greatest_alignment-case_part [] p (case_part [] q End)

pub count-two : (p q : Option Plain) → count (case_part [] p (case_part [] q End)) ≡ 2
count-two None None = refl
count-two None (Some u) = refl
count-two (Some t) None = refl
count-two (Some t) (Some u) = refl

-- the size and alignment of a result
pub result_size : (ty : WitType) (ok err : Option (Rc WitType Global)) → ty ≡ Results ok err → (d a s : ℕ) → d ≡ 2 →
    s ≡ max (greatest_size (case_part [] (payload_of ok) End)) (greatest_size (case_part [] (payload_of err) End)) →
    a ≡ max (greatest_alignment (case_part [] (payload_of ok) End)) (greatest_alignment (case_part [] (payload_of err) End)) →
    variant_size (discriminant_size d) a s ≡ size (plain ty)
result_size ty ok err is d a s two size_is align_is = rw (is, plain-Result, count-two, greatest_size-two, greatest_alignment-two, two, size_is, align_is) refl

pub result_alignment : (ty : WitType) (ok err : Option (Rc WitType Global)) → ty ≡ Results ok err → (d a : ℕ) → d ≡ 2 →
    a ≡ max (greatest_alignment (case_part [] (payload_of ok) End)) (greatest_alignment (case_part [] (payload_of err) End)) →
    max (discriminant_size d) a ≡ alignment (plain ty)
result_alignment ty ok err is d a two align_is = rw (is, plain-Result, count-two, greatest_alignment-two, two, align_is) refl

pub ruleset layouts = (plains, count-bare, count-cases_of, greatest_alignment-bare, greatest_size-bare, enum_size, enum_alignment, count-case_part, greatest_size-case_part, greatest_alignment-case_part)

pub ruleset bounds = (layouts, greatest_alignment_least, greatest_alignment_most, greatest_size_most)

pub all_parts-bare : (labels : List Name) → all_parts (bare labels) ≡ 0
all_parts-bare [] = refl
all_parts-bare (_ ∷ labels) = all_parts-bare labels

pub all_parts-two : (p q : Option Plain) → all_parts (case_part [] p (case_part [] q End)) ≡ all_parts (case_part [] p End) + all_parts (case_part [] q End)
all_parts-two p q = all_parts-case_part [] p (case_part [] q End)

pub ruleset counts = (plains, all_parts-bare, all_parts-case_part, all_parts-two)

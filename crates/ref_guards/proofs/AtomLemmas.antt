-- Atoms by the lists of a type's parts, and of runs of bytes, which have none.
use Rattle.std.proofs.Common.{◌≡◌, ◌≤◌, ◌<◌, ◌+◌, ℕ, ℤ, zero, suc, refl, sym, ap, ◌∙◌, Option, Some, None, List, [], ◌∷◌, ◌++◌, length, drop, get_or, arith, Global}
use Rattle.std.proofs.lemmas.List.{append_assoc, append-nil}
use Rattle.std.specs.declared.rc.Rc.{Rc}
use Rattle.wit_types.specs.declared.types.Case.{Case, out-Case}
use Rattle.wit_types.specs.declared.types.Field.{Field}
use Rattle.wit_types.specs.declared.types.WitType.{WitType}
use Rattle.wit_types.specs.declared.types.WitType.TheVariants.{List as Listed}
use Rattle.wit_types.specs.declared.value.Value.{Value}
use Rattle.wit_types.specs.Layout.{size}
use Rattle.wit_types.specs.Limits.{parts, all_parts}
use Rattle.wit_types.proofs.PlainLemmas.{plain-List}
use Rattle.abi_layout.proofs.LayoutLemmas.{all_parts-case_part}
use Rattle.wit_types.specs.Plain.{Name, VariantForm, Plain, Parts, BoolType, SignedType, UnsignedType, CharType, StringType, ListType, RecordType, VariantType, FlagsType, OwnType, BorrowType, End, More, Bare, plain, bare, payload_of, fields_of, types_of, cases_of, case_part}
use Rattle.wit_types.specs.PlainValue.{PlainValue, Payload, BoolValue, IntValue, CharValue, StringValue, ListValue, RecordValue, VariantValue, FlagsValue, HandleValue, values_of, byte_values}
use Rattle.reference_step.specs.Atoms.{Atom, Elements, atoms, atoms_of, atoms_at, each_atoms, count}
use Rattle.ref_guards.specs.Noted.{optional_atoms, items_atoms}

-- ---- runs of bytes

pub values_count : (vs : List Value) → count (values_of vs) ≡ length vs
values_count [] = refl
values_count (v ∷ vs) = omega (arith, values_count vs)

pub bytes_count : (bs : List ℕ) → count (byte_values bs) ≡ length bs
bytes_count [] = refl
bytes_count (b ∷ bs) = omega (arith, bytes_count bs)

-- an integer has no atoms
int_atoms : (ty : Plain) (n : ℤ) → atoms ty (IntValue n) ≡ []
int_atoms BoolType n = refl
int_atoms (SignedType width) n = refl
int_atoms (UnsignedType width) n = refl
int_atoms CharType n = refl
int_atoms StringType n = refl
int_atoms (ListType item) n = refl
int_atoms (RecordType form fields) n = refl
int_atoms (VariantType form cases) n = refl
int_atoms (FlagsType labels) n = refl
int_atoms (OwnType kind) n = refl
int_atoms (BorrowType kind) n = refl

pub bytes_atoms : (item : Plain) (bs : List ℕ) → each_atoms (λ v. atoms item v) (byte_values bs) ≡ []
bytes_atoms item [] = refl
bytes_atoms item (b ∷ bs) = let rest = bytes_atoms item bs in rw (int_atoms item, rest) refl

pub fields_bytes : (ps : Parts) (bs : List ℕ) → atoms_of ps (byte_values bs) ≡ []
fields_bytes End bs = refl
fields_bytes (More name ty ps) [] = refl
fields_bytes (More name ty ps) (b ∷ bs) = let rest = fields_bytes ps bs in rw (int_atoms ty, rest) refl
fields_bytes (Bare name ps) bs = fields_bytes ps bs

-- ---- cases

first_case : (name : Name) (p : Option Plain) (rest : Parts) (x : Payload) → atoms_at (case_part name p rest) zero x ≡ optional_atoms p x
first_case name None rest x = refl
first_case name (Some ty) rest x = refl

later_case : (name : Name) (p : Option Plain) (rest : Parts) (n : ℕ) (x : Payload) → atoms_at (case_part name p rest) (suc n) x ≡ atoms_at rest n x
later_case name None rest n x = refl
later_case name (Some ty) rest n x = refl

pub case_there : (cs : List Case) (n : ℕ) (x : Payload) (d : Case) → n < length cs → atoms_at (cases_of cs) n x ≡ optional_atoms (payload_of (out-Case (get_or cs n d)).ty) x
case_there [] n x d lt = absurd (omega arith)
case_there (c ∷ cs) zero x d lt = first_case _ _ _ x
case_there (c ∷ cs) (suc n) x d lt = later_case _ _ _ n x ∙ case_there cs n x d (omega arith)

pub case_past : (cs : List Case) (n : ℕ) (x : Payload) → length cs ≤ n → atoms_at (cases_of cs) n x ≡ []
case_past [] n x le = refl
case_past (c ∷ cs) zero x le = absurd (omega arith)
case_past (c ∷ cs) (suc n) x le = later_case _ _ _ n x ∙ case_past cs n x (omega arith)

bare_case : (labels : List Name) (n : ℕ) (x : Payload) → atoms_at (bare labels) n x ≡ []
bare_case [] n x = refl
bare_case (l ∷ labels) zero x = refl
bare_case (l ∷ labels) (suc n) x = bare_case labels n x

-- an enum has cases without payloads
pub enum_atoms : (form : VariantForm) (labels : List Name) (v : PlainValue) → atoms (VariantType form (bare labels)) v ≡ []
enum_atoms form labels (VariantValue n x) = bare_case labels n x
enum_atoms form labels (BoolValue _) = refl
enum_atoms form labels (IntValue _) = refl
enum_atoms form labels (CharValue _) = refl
enum_atoms form labels (StringValue _) = refl
enum_atoms form labels (ListValue _) = refl
enum_atoms form labels (RecordValue _) = refl
enum_atoms form labels (FlagsValue _) = refl
enum_atoms form labels (HandleValue _) = refl

pub first_of_two : (p q : Option Plain) (x : Payload) → atoms_at (case_part [] p (case_part [] q End)) 0 x ≡ optional_atoms p x
first_of_two p q x = first_case [] p _ x

pub second_of_two : (p q : Option Plain) (x : Payload) → atoms_at (case_part [] p (case_part [] q End)) 1 x ≡ optional_atoms q x
second_of_two p q x = later_case [] p _ 0 x ∙ first_case [] q End x

none_of_two : (p q : Option Plain) (n : ℕ) (x : Payload) → 2 ≤ n → atoms_at (case_part [] p (case_part [] q End)) n x ≡ []
none_of_two p q zero x le = absurd (omega arith)
none_of_two p q (suc zero) x le = absurd (omega arith)
none_of_two p q (suc (suc n)) x le = later_case [] p _ (suc n) x ∙ later_case [] q End n x

pub other_of_two : (p q : Option Plain) (n : ℕ) (x : Payload) → (n ≡ 0 → ⊥) → (n ≡ 1 → ⊥) → atoms_at (case_part [] p (case_part [] q End)) n x ≡ []
other_of_two p q n x first second = none_of_two p q n x (omega (arith, first, second))

pub other_of_option : (some : Plain) (n : ℕ) (x : Payload) → (n ≡ 1 → ⊥) → atoms_at (Bare [] (More [] some End)) n x ≡ []
other_of_option some zero x second = refl
other_of_option some (suc zero) x second = absurd (second refl)
other_of_option some (suc (suc n)) x second = refl

-- ---- after the last field

ended_fields : (fs : List Field) (vs : List Value) (i : ℕ) → (i < length fs → i < length vs → ⊥) → atoms_of (fields_of (drop i fs)) (values_of (drop i vs)) ≡ []
ended_fields [] vs zero past = refl
ended_fields [] vs (suc i) past = refl
ended_fields (f ∷ fs) [] zero past = refl
ended_fields (f ∷ fs) (v ∷ vs) zero past = absurd (past (omega arith) (omega arith))
ended_fields (f ∷ fs) [] (suc i) past = no_values (fields_of (drop i fs))
  where
    no_values : (ps : Parts) → atoms_of ps (values_of []) ≡ []
    no_values End = refl
    no_values (More name ty ps) = refl
    no_values (Bare name ps) = no_values ps
ended_fields (f ∷ fs) (v ∷ vs) (suc i) past = ended_fields fs vs i (λ a b. past (omega (arith, a)) (omega (arith, b)))

ended_types : (ts : List WitType) (vs : List Value) (i : ℕ) → (i < length ts → i < length vs → ⊥) → atoms_of (types_of (drop i ts)) (values_of (drop i vs)) ≡ []
ended_types [] vs zero past = refl
ended_types [] vs (suc i) past = refl
ended_types (t ∷ ts) [] zero past = refl
ended_types (t ∷ ts) (v ∷ vs) zero past = absurd (past (omega arith) (omega arith))
ended_types (t ∷ ts) [] (suc i) past = no_values (types_of (drop i ts))
  where
    no_values : (ps : Parts) → atoms_of ps (values_of []) ≡ []
    no_values End = refl
    no_values (More name ty ps) = refl
    no_values (Bare name ps) = no_values ps
ended_types (t ∷ ts) (v ∷ vs) (suc i) past = ended_types ts vs i (λ a b. past (omega (arith, a)) (omega (arith, b)))

pub no_more_fields : (before : List Atom) (fs : List Field) (vs : List Value) (i : ℕ) (all : List Atom) → (i < length fs → i < length vs → ⊥)
    → before ++ atoms_of (fields_of (drop i fs)) (values_of (drop i vs)) ≡ all → before ≡ all
no_more_fields before fs vs i all past e = sym (append-nil before) ∙ ap (λ rest. before ++ rest) (sym (ended_fields fs vs i past)) ∙ e

pub no_more_types : (before : List Atom) (ts : List WitType) (vs : List Value) (i : ℕ) (all : List Atom) → (i < length ts → i < length vs → ⊥)
    → before ++ atoms_of (types_of (drop i ts)) (values_of (drop i vs)) ≡ all → before ≡ all
no_more_types before ts vs i all past e = sym (append-nil before) ∙ ap (λ rest. before ++ rest) (sym (ended_types ts vs i past)) ∙ e

-- a list, and after it what is in it
pub noted_list : (old mid new : List Atom) (item : Plain) (vs : List Value) (n s : ℕ) → mid ≡ old ++ Elements n s ∷ [] → new ≡ mid ++ each_atoms (λ v. atoms item v) (values_of vs) → n ≡ length vs → s ≡ size item → new ≡ old ++ items_atoms item (values_of vs)
noted_list old mid new item vs n s first rest count_is size_is =
    let all : List Atom = each_atoms (λ v. atoms item v) (values_of vs) in
    let joined : new ≡ old ++ Elements n s ∷ all = rest ∙ ap (λ each. each ++ all) first ∙ append_assoc old (Elements n s ∷ []) all in
    joined ∙ ap (λ m. old ++ Elements m s ∷ all) (count_is ∙ sym (values_count vs)) ∙ ap (λ m. old ++ Elements (count (values_of vs)) m ∷ all) size_is

-- ---- no part has more parts than the whole

pub few_list : (ty : WitType) (b : Rc WitType Global) (n : ℕ) → ty ≡ Listed b → parts (plain ty) ≤ n → parts (plain b.value) ≤ n
few_list ty b n is few = let h = rw (is, plain-List) at few in omega arith

few_case : (cs : List Case) (n : ℕ) (d : Case) → n < length cs → all_parts (case_part [] (payload_of (out-Case (get_or cs n d)).ty) End) ≤ all_parts (cases_of cs)
few_case [] n d lt = absurd (omega arith)
few_case (c ∷ cs) zero d lt = omega (arith, all_parts-case_part (out-Case c).name (payload_of (out-Case c).ty) (cases_of cs))
few_case (c ∷ cs) (suc n) d lt = omega (arith, all_parts-case_part (out-Case c).name (payload_of (out-Case c).ty) (cases_of cs), few_case cs n d (omega arith))

pub few_within : (cs : List Case) (n : ℕ) (d : Case) (m : ℕ) → n < length cs → all_parts (cases_of cs) ≤ m → all_parts (case_part [] (payload_of (out-Case (get_or cs n d)).ty) End) ≤ m
few_within cs n d m lt few = omega (arith, few_case cs n d lt, few)

pub ruleset atom_rules = (values_count, bytes_count, bytes_atoms, fields_bytes, enum_atoms, first_of_two, second_of_two, append-nil)

-- Parts of types by their indexes.
use Rattle.std.proofs.Common.{◌≡◌, ◌<◌, ◌≤◌, arith, get_or, ℕ, zero, suc, refl, ap, sym, ◌∙◌, Option, Some, None, Global, List as Lst, [], ◌∷◌, length, slice_get}
use Rattle.std.specs.Borrow.{Bor}
use Rattle.std.specs.Prelude.{IfSome, is_some, option_map, nat_lt}
use Rattle.std.proofs.lemmas.Bool.Decides.{nat_tests}
use Rattle.std.proofs.lemmas.Option.{slice_get_past, slice_get_read}
use Rattle.std.specs.declared.rc.Rc.{Rc}
use Rattle.virt_base.specs.declared.items.Items.{Items}
use Rattle.virt_base.specs.declared.text.Text.{Text}
use Rattle.wit_types.specs.declared.types.Field.{Field, out-Field}
use Rattle.wit_types.specs.declared.types.Case.{Case, out-Case}
use Rattle.wit_types.specs.declared.types.Types.{Types}
use Rattle.wit_types.specs.declared.types.Fields.{Fields, Fields'}
use Rattle.wit_types.specs.declared.types.Cases.{Cases, Cases'}
use Rattle.wit_types.specs.declared.types.WitType.{WitType, None' as Bare', Some' as Typed'}
use Rattle.wit_types.specs.declared.types.WitType.TheVariants.{Record, Record', Tuple, Tuple', Variant, Variant', List as ListOf, List' as ListOf', Flags, Enum, Option as Optional, Option' as Optional', Result as Outcome, Result' as Outcome'}
use Rattle.wit_types.specs.Plain.{Name, Plain, Parts, RecordForm, VariantForm, End, More, Bare, bare, plain, payload_of, fields_of, types_of, cases_of, case_part, AsRecord, AsTuple, AsVariant, AsEnum, AsOption, AsResult, BoolType, SignedType, UnsignedType, CharType, StringType, ListType, RecordType, VariantType, FlagsType, OwnType, BorrowType}
use Rattle.comp_types.proofs.Primitives.{not_tuple}
use Rattle.comp_facts.specs.Keys.{key_of, keys_in, keys_of}
use Rattle.type_table.specs.Tables.{needs_place}
use Rattle.type_table.specs.Slots.{Part, slots_in, slots_of, form_number}
use Rattle.type_table.specs.Nodes.{slot_keys}

-- what a slice gives at an index
pub got : {A : Type 0} (r : Option (Bor A)) (xs : Lst A) (i : ℕ) → is_some r ≡ nat_lt i (length xs) → IfSome r (λ x. x.now ≡ get_or xs i x.now) → option_map (λ x. x.now) r ≡ slice_get xs i
got None xs i a b = let past : length xs ≤ i = grind (arith, nat_tests) in sym (slice_get_past xs i past)
got (Some x) xs i a b = let inside : i < length xs = grind (arith, nat_tests) in sym (slice_get_read xs (length xs) i x.now refl inside b)

-- and what is made of it
pub got-none : {A B : Type 0} (f : A → B) (o : Option B) (r : Option (Bor A)) (xs : Lst A) (i : ℕ) → o ≡ option_map f (slice_get xs i) → is_some r ≡ nat_lt i (length xs) → IfSome r (λ x. x.now ≡ get_or xs i x.now) → r ≡ None → None ≡ o
got-none {A = A} f o r xs i is a b e = sym (is ∙ ap (option_map f) (sym (got r xs i a b) ∙ ap (option_map (λ (x : Bor A). x.now)) e))

pub got-some : {A B : Type 0} (f : A → B) (o : Option B) (r : Option (Bor A)) (xs : Lst A) (i : ℕ) (x : Bor A) → o ≡ option_map f (slice_get xs i) → is_some r ≡ nat_lt i (length xs) → IfSome r (λ x. x.now ≡ get_or xs i x.now) → r ≡ Some x → Some (f x.now) ≡ o
got-some {A = A} f o r xs i x is a b e = sym (is ∙ ap (option_map f) (sym (got r xs i a b) ∙ ap (option_map (λ (x : Bor A). x.now)) e))

pub field-slots : (xs : Lst Field) (i : ℕ) → slice_get (slots_in (fields_of xs)) i ≡ option_map (λ f. ((out-Field f).name, Some (plain (out-Field f).ty))) (slice_get xs i)
field-slots [] i = refl
field-slots (x ∷ xs) zero = refl
field-slots (x ∷ xs) (suc i) = field-slots xs i

pub type-slots : (xs : Lst WitType) (i : ℕ) → slice_get (slots_in (types_of xs)) i ≡ option_map (λ t. ([], Some (plain t))) (slice_get xs i)
type-slots [] i = refl
type-slots (x ∷ xs) zero = refl
type-slots (x ∷ xs) (suc i) = type-slots xs i

pub slots-case : (name : Name) (p : Option Plain) (rest : Parts) → slots_in (case_part name p rest) ≡ (name, p) ∷ slots_in rest
slots-case name None rest = refl
slots-case name (Some ty) rest = refl

pub case-slots : (xs : Lst Case) (i : ℕ) → slice_get (slots_in (cases_of xs)) i ≡ option_map (λ c. ((out-Case c).name, payload_of (out-Case c).ty)) (slice_get xs i)
case-slots [] i = refl
case-slots (x ∷ xs) zero = ap (λ ps. slice_get ps zero) (slots-case (out-Case x).name (payload_of (out-Case x).ty) (cases_of xs))
case-slots (x ∷ xs) (suc i) = ap (λ ps. slice_get ps (suc i)) (slots-case (out-Case x).name (payload_of (out-Case x).ty) (cases_of xs)) ∙ case-slots xs i

pub label-slots : (xs : Lst Name) (i : ℕ) → slice_get (slots_in (bare xs)) i ≡ option_map (λ label. (label, None)) (slice_get xs i)
label-slots [] i = refl
label-slots (x ∷ xs) zero = refl
label-slots (x ∷ xs) (suc i) = label-slots xs i

pub result-slots : (p q : Option Plain) → slots_in (case_part [] p (case_part [] q End)) ≡ ([], p) ∷ ([], q) ∷ []
result-slots p q = slots-case [] p (case_part [] q End) ∙ ap (λ rest. ([], p) ∷ rest) (slots-case [] q End)

-- ---- how many there are

pub field-count : (xs : Lst Field) → length (slots_in (fields_of xs)) ≡ length xs
field-count [] = refl
field-count (x ∷ xs) = ap suc (field-count xs)

pub type-count : (xs : Lst WitType) → length (slots_in (types_of xs)) ≡ length xs
type-count [] = refl
type-count (x ∷ xs) = ap suc (type-count xs)

pub case-count : (xs : Lst Case) → length (slots_in (cases_of xs)) ≡ length xs
case-count [] = refl
case-count (x ∷ xs) = ap length (slots-case (out-Case x).name (payload_of (out-Case x).ty) (cases_of xs)) ∙ ap suc (case-count xs)

pub label-count : (xs : Lst Name) → length (slots_in (bare xs)) ≡ length xs
label-count [] = refl
label-count (x ∷ xs) = ap suc (label-count xs)

pub result-count : (p q : Option Plain) → length (slots_in (case_part [] p (case_part [] q End))) ≡ 2
result-count p q = ap length (result-slots p q)

pub ruleset slots = (field-slots, type-slots, case-slots, label-slots, result-slots, field-count, type-count, case-count, label-count, result-count)

-- ---- types without parts

pub record Leaf (p : Plain) : Type 0 where
  pub none : slots_of p ≡ []
  pub count : 0 ≡ length (slots_of p)
  pub form : 0 ≡ form_number p

pub leaf : (t : WitType) →
    ((x : Rc Fields Global) → t ≡ Record x → ⊥) → ((x : Rc Types Global) → t ≡ Tuple x → ⊥) → ((x : Rc Cases Global) → t ≡ Variant x → ⊥) → ((x : Rc WitType Global) → t ≡ ListOf x → ⊥) →
    ((x : Rc (Items Text) Global) → t ≡ Enum x → ⊥) → ((x : Rc WitType Global) → t ≡ Optional x → ⊥) → ((x y : Option (Rc WitType Global)) → t ≡ Outcome x y → ⊥) →
    Leaf (plain t)
unfolding plain
leaf (Record' p y) a b c d e f g = absurd (a (record { ptr = p.ptr; value = y }) refl)
leaf (Tuple' p s y) a b c d e f g = absurd (not_tuple p s y b)
leaf (Variant' p y) a b c d e f g = absurd (c (record { ptr = p.ptr; value = y }) refl)
leaf (ListOf' p y) a b c d e f g = absurd (d (record { ptr = p.ptr; value = y }) refl)
leaf (Enum x) a b c d e f g = absurd (e x refl)
leaf (Optional' p y) a b c d e f g = absurd (f (record { ptr = p.ptr; value = y }) refl)
leaf (Outcome' Bare' Bare') a b c d e f g = absurd (g None None refl)
leaf (Outcome' Bare' (Typed' p y)) a b c d e f g = absurd (g None (Some (record { ptr = p.ptr; value = y })) refl)
leaf (Outcome' (Typed' p y) Bare') a b c d e f g = absurd (g (Some (record { ptr = p.ptr; value = y })) None refl)
leaf (Outcome' (Typed' p y) (Typed' q z)) a b c d e f g = absurd (g (Some (record { ptr = p.ptr; value = y })) (Some (record { ptr = q.ptr; value = z })) refl)
leaf _ a b c d e f g = record { none = refl; count = refl; form = refl }

pub place-form : (t : WitType) → ((x : Rc (Items Text) Global) → t ≡ Flags x → ⊥) → nat_lt 0 (form_number (plain t)) ≡ needs_place (plain t)
unfolding plain
place-form (Flags x) h = absurd (h x refl)
place-form (Record' p (Fields' s y)) h = refl
place-form (Variant' p (Cases' s y)) h = refl
place-form _ h = refl

-- ---- keys

in-keys : (ps : Parts) → keys_in ps ≡ slot_keys (slots_in ps)
in-keys End = refl
in-keys (More name ty rest) = ap (λ keys. key_of ty ∷ keys) (in-keys rest)
in-keys (Bare name rest) = in-keys rest

pub of-keys : (p : Plain) → keys_of p ≡ slot_keys (slots_of p)
of-keys (ListType item) = refl
of-keys (RecordType form fields) = in-keys fields
of-keys (VariantType form cases) = in-keys cases
of-keys BoolType = refl
of-keys (SignedType w) = refl
of-keys (UnsignedType w) = refl
of-keys CharType = refl
of-keys StringType = refl
of-keys (FlagsType labels) = refl
of-keys (OwnType r) = refl
of-keys (BorrowType r) = refl

-- ---- a type is its form and its parts

name-same : (m n : Name) (p q : Option Plain) (xs ys : Lst Part) → (m, p) ∷ xs ≡ (n, q) ∷ ys → (m ≡ n) × (p ≡ q) × (xs ≡ ys)
name-same m n p q xs ys e =
    let head : ◌≡◌ {A = Part} (m, p) (n, q) = cc in
    let tail : xs ≡ ys = cc in
    (ap (λ (x : Part). x.0) head, ap (λ (x : Part). x.1) head, tail)

pub in-same : (ps qs : Parts) → slots_in ps ≡ slots_in qs → ps ≡ qs
in-same End End e = refl
in-same End (More n t rest) e = absurd cc
in-same End (Bare n rest) e = absurd cc
in-same (More m s more) End e = absurd cc
in-same (Bare m more) End e = absurd cc
in-same (More m s more) (More n t rest) e =
    let p = name-same m n (Some s) (Some t) (slots_in more) (slots_in rest) e in
    let rests = in-same more rest p.2 in
    let name = p.0 in
    let ty : s ≡ t = let same = p.1 in cc in
    cc
in-same (Bare m more) (Bare n rest) e =
    let p = name-same m n None None (slots_in more) (slots_in rest) e in
    let rests = in-same more rest p.2 in
    let name = p.0 in
    cc
in-same (More m s more) (Bare n rest) e = let p = name-same m n (Some s) None (slots_in more) (slots_in rest) e in let same = p.1 in absurd cc
in-same (Bare m more) (More n t rest) e = let p = name-same m n None (Some t) (slots_in more) (slots_in rest) e in let same = p.1 in absurd cc

record-range : (f : RecordForm) (ps : Parts) → (2 ≤ form_number (RecordType f ps)) × (form_number (RecordType f ps) ≤ 3)
record-range AsRecord ps = (omega arith, omega arith)
record-range AsTuple ps = (omega arith, omega arith)

variant-range : (f : VariantForm) (ps : Parts) → 4 ≤ form_number (VariantType f ps)
variant-range AsVariant ps = omega arith
variant-range AsEnum ps = omega arith
variant-range AsOption ps = omega arith
variant-range AsResult ps = omega arith

same-records : (f g : RecordForm) (ps qs : Parts) → form_number (RecordType f ps) ≡ form_number (RecordType g qs) → f ≡ g
same-records AsRecord AsRecord ps qs e = refl
same-records AsTuple AsTuple ps qs e = refl
same-records _ _ ps qs e = cc

same-variants : (f g : VariantForm) (ps qs : Parts) → form_number (VariantType f ps) ≡ form_number (VariantType g qs) → f ≡ g
same-variants AsVariant AsVariant ps qs e = refl
same-variants AsEnum AsEnum ps qs e = refl
same-variants AsOption AsOption ps qs e = refl
same-variants AsResult AsResult ps qs e = refl
same-variants _ _ ps qs e = cc

pub same-type : (a b : Plain) → form_number a ≡ form_number b → (form_number a ≡ 0 → ⊥) → slots_of a ≡ slots_of b → a ≡ b
same-type (ListType a) (ListType b) e some h = let p = name-same [] [] (Some a) (Some b) [] [] h in let types = p.1 in cc
same-type (ListType a) (RecordType g qs) e some h = let r = record-range g qs in absurd (omega arith)
same-type (ListType a) (VariantType g qs) e some h = let r = variant-range g qs in absurd (omega arith)
same-type (ListType a) _ e some h = absurd (some e)
same-type (RecordType f ps) (RecordType g qs) e some h = let forms = same-records f g ps qs e in let parts = in-same ps qs h in cc
same-type (RecordType f ps) (ListType b) e some h = let r = record-range f ps in absurd (omega arith)
same-type (RecordType f ps) (VariantType g qs) e some h = let r = record-range f ps in let q = variant-range g qs in absurd (omega arith)
same-type (RecordType f ps) _ e some h = absurd (some e)
same-type (VariantType f ps) (VariantType g qs) e some h = let forms = same-variants f g ps qs e in let parts = in-same ps qs h in cc
same-type (VariantType f ps) (ListType b) e some h = let r = variant-range f ps in absurd (omega arith)
same-type (VariantType f ps) (RecordType g qs) e some h = let r = variant-range f ps in let q = record-range g qs in absurd (omega arith)
same-type (VariantType f ps) _ e some h = absurd (some e)
same-type _ b e some h = absurd (some refl)

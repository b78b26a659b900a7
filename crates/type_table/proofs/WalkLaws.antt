-- Walks through types by their parts: two types of one form match as their parts do, and types of two forms do not match.
use Rattle.std.proofs.Common.{◌≡◌, ◌∙◌, ap, refl, sym, ℕ, ◌≤◌, arith, ◌∷◌, map, Bool, true, false, Option, Some, None}
use Rattle.std.proofs.lemmas.Bool.{false≢true}
use Rattle.wit_types.specs.Plain.{RecordForm, AsRecord, AsTuple, VariantForm, AsVariant, AsEnum, AsOption, AsResult, Plain, Parts, BoolType, SignedType, UnsignedType, CharType, StringType, ListType, RecordType, VariantType, FlagsType, OwnType, BorrowType, End, More, Bare}
use Rattle.comp_types.specs.Items.{same_name}
use Rattle.comp_types.specs.Substitution.{value_with, parts_with, answer_with}
use Rattle.comp_types.specs.Matching.{Pairs, onward, only_if, same_record_form, same_variant_form, matched_value, matched_parts}
use Rattle.comp_types.proofs.MeetLaws.{held}
use Rattle.type_table.specs.Slots.{Part, slots_in, slots_of, form_number, matched_slots}
use Rattle.type_table.proofs.MatchLaws.{if_true}

-- ---- walks by parts

if_none : (b : Bool) → only_if b None ≡ None
if_none true = refl
if_none false = refl

onward-some : (o : Option Pairs) → onward (λ more. Some more) o ≡ o
onward-some None = refl
onward-some (Some by) = refl

onward-same : (f g : Pairs → Option Pairs) (o : Option Pairs) → ((by : Pairs) → f by ≡ g by) → onward f o ≡ onward g o
onward-same f g None h = refl
onward-same f g (Some by) h = h by

pub parts-slots : (by : Pairs) (ps qs : Parts) → matched_parts by ps qs ≡ matched_slots by (slots_in ps) (slots_in qs)
parts-slots by End End = refl
parts-slots by End (More n b qs) = refl
parts-slots by End (Bare n qs) = refl
parts-slots by (More m a ps) End = refl
parts-slots by (More m a ps) (More n b qs) =
    ap (only_if (same_name m n)) (onward-same (λ more. matched_parts more ps qs) (λ more. matched_slots more (slots_in ps) (slots_in qs)) (matched_value by a b) (λ more. parts-slots more ps qs))
parts-slots by (More m a ps) (Bare n qs) = sym (if_none (same_name m n))
parts-slots by (Bare m ps) End = refl
parts-slots by (Bare m ps) (More n b qs) = sym (if_none (same_name m n))
parts-slots by (Bare m ps) (Bare n qs) = ap (only_if (same_name m n)) (parts-slots by ps qs)

record-forms : (f g : RecordForm) (ps qs : Parts) → same_record_form f g ≡ true → form_number (RecordType f ps) ≡ form_number (RecordType g qs)
record-forms AsRecord AsRecord ps qs h = refl
record-forms AsTuple AsTuple ps qs h = refl
record-forms _ _ ps qs h = absurd (false≢true h)

variant-forms : (f g : VariantForm) (ps qs : Parts) → same_variant_form f g ≡ true → form_number (VariantType f ps) ≡ form_number (VariantType g qs)
variant-forms AsVariant AsVariant ps qs h = refl
variant-forms AsEnum AsEnum ps qs h = refl
variant-forms AsOption AsOption ps qs h = refl
variant-forms AsResult AsResult ps qs h = refl
variant-forms _ _ ps qs h = absurd (false≢true h)

same-record : (f g : RecordForm) (ps qs : Parts) → form_number (RecordType f ps) ≡ form_number (RecordType g qs) → same_record_form f g ≡ true
same-record AsRecord AsRecord ps qs h = refl
same-record AsTuple AsTuple ps qs h = refl
same-record _ _ ps qs h = cc

same-variant : (f g : VariantForm) (ps qs : Parts) → form_number (VariantType f ps) ≡ form_number (VariantType g qs) → same_variant_form f g ≡ true
same-variant AsVariant AsVariant ps qs h = refl
same-variant AsEnum AsEnum ps qs h = refl
same-variant AsOption AsOption ps qs h = refl
same-variant AsResult AsResult ps qs h = refl
same-variant _ _ ps qs h = cc

-- types that match have one form
pub forms-met : (by out : Pairs) (a b : Plain) → matched_value by a b ≡ Some out → form_number a ≡ form_number b
forms-met by out BoolType BoolType e = refl
forms-met by out (SignedType v) (SignedType w) e = refl
forms-met by out (UnsignedType v) (UnsignedType w) e = refl
forms-met by out CharType CharType e = refl
forms-met by out StringType StringType e = refl
forms-met by out (ListType a) (ListType b) e = refl
forms-met by out (RecordType f ps) (RecordType g qs) e = record-forms f g ps qs (held _ _ out e).0
forms-met by out (VariantType f ps) (VariantType g qs) e = variant-forms f g ps qs (held _ _ out e).0
forms-met by out (FlagsType ls) (FlagsType ks) e = refl
forms-met by out (OwnType x) (OwnType y) e = refl
forms-met by out (BorrowType x) (BorrowType y) e = refl
forms-met by out _ _ e = cc

apart : (by : Pairs) (a b : Plain) (o : Option Pairs) → matched_value by a b ≡ o → (form_number a ≡ form_number b → ⊥) → o ≡ None
apart by a b None e h = refl
apart by a b (Some out) e h = absurd (h (forms-met by out a b e))

pub walk-apart : (by : Pairs) (a b : Plain) → (form_number a ≡ form_number b → ⊥) → matched_value by a b ≡ None
walk-apart by a b h = apart by a b (matched_value by a b) refl h

-- the numbers of records are 2 and 3, those of variants 4 to 7
record-range : (f : RecordForm) (ps : Parts) → (2 ≤ form_number (RecordType f ps)) × (form_number (RecordType f ps) ≤ 3)
record-range AsRecord ps = (omega arith, omega arith)
record-range AsTuple ps = (omega arith, omega arith)

variant-range : (f : VariantForm) (ps : Parts) → 4 ≤ form_number (VariantType f ps)
variant-range AsVariant ps = omega arith
variant-range AsEnum ps = omega arith
variant-range AsOption ps = omega arith
variant-range AsResult ps = omega arith

-- types with parts match as their parts do
pub walk-slots : (by : Pairs) (a b : Plain) → form_number a ≡ form_number b → (form_number a ≡ 0 → ⊥) → matched_value by a b ≡ matched_slots by (slots_of a) (slots_of b)
walk-slots by (ListType a) (ListType b) e some = sym (onward-some (matched_value by a b))
walk-slots by (ListType a) (RecordType g qs) e some = let r = record-range g qs in absurd (omega arith)
walk-slots by (ListType a) (VariantType g qs) e some = let r = variant-range g qs in absurd (omega arith)
walk-slots by (ListType a) _ e some = absurd (some e)
walk-slots by (RecordType f ps) (RecordType g qs) e some = if_true (same_record_form f g) (matched_parts by ps qs) (same-record f g ps qs e) ∙ parts-slots by ps qs
walk-slots by (RecordType f ps) (ListType b) e some = let r = record-range f ps in absurd (omega arith)
walk-slots by (RecordType f ps) (VariantType g qs) e some = let r = record-range f ps in let q = variant-range g qs in absurd (omega arith)
walk-slots by (RecordType f ps) _ e some = absurd (some e)
walk-slots by (VariantType f ps) (VariantType g qs) e some = if_true (same_variant_form f g) (matched_parts by ps qs) (same-variant f g ps qs e) ∙ parts-slots by ps qs
walk-slots by (VariantType f ps) (ListType b) e some = let r = variant-range f ps in absurd (omega arith)
walk-slots by (VariantType f ps) (RecordType g qs) e some = let r = variant-range f ps in let q = record-range g qs in absurd (omega arith)
walk-slots by (VariantType f ps) _ e some = absurd (some e)
walk-slots by _ b e some = absurd (some refl)

-- ---- types with other resources

module _ (f : ℕ → ℕ) where
  pub parts_with-slots : (ps : Parts) → slots_in (parts_with f ps) ≡ map (λ (p : Part). (p.0, answer_with f p.1)) (slots_in ps)
  parts_with-slots End = refl
  parts_with-slots (More n ty rest) = ap (λ ps. (n, Some (value_with f ty)) ∷ ps) (parts_with-slots rest)
  parts_with-slots (Bare n rest) = ap (λ ps. (n, None) ∷ ps) (parts_with-slots rest)

  pub slots-with : (ty : Plain) → slots_of (value_with f ty) ≡ map (λ (p : Part). (p.0, answer_with f p.1)) (slots_of ty)
  slots-with (ListType item) = refl
  slots-with (RecordType form fields) = parts_with-slots fields
  slots-with (VariantType form cases) = parts_with-slots cases
  slots-with _ = refl

  pub form-with : (ty : Plain) → form_number (value_with f ty) ≡ form_number ty
  form-with (ListType item) = refl
  form-with (RecordType AsRecord fields) = refl
  form-with (RecordType AsTuple fields) = refl
  form-with (VariantType AsVariant cases) = refl
  form-with (VariantType AsEnum cases) = refl
  form-with (VariantType AsOption cases) = refl
  form-with (VariantType AsResult cases) = refl
  form-with _ = refl

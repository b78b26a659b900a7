-- The tree of each type, by the lists of its parts.
use Rattle.std.proofs.Common.{◌≡◌, ℕ, ap, refl, sym, ◌∙◌, Option, Some, None, Global, List as Lst, [], ◌∷◌, ◌++◌}
use Rattle.std.specs.declared.rc.Rc.{Rc}
use Rattle.wit_types.specs.declared.types.Field.{Field, out-Field}
use Rattle.wit_types.specs.declared.types.WitType.{WitType, Row_of-WitType, end_of-WitType, more_of-WitType, items-the_row-WitType, items_hidden-the_row-WitType-0, Held-WitType-Result-0, None', Some', view-WitType-Result-0}
use Rattle.wit_types.specs.declared.types.WitType.TheVariants.{Bool, S8, U8, S16, U16, S32, U32, S64, U64, Char, Str, Record, Record', Variant, Variant', Tuple, List, Flags, Enum, Option as Optional, Result, Own, Borrow}
use Rattle.wit_types.specs.declared.types.Types.{Types}
use Rattle.virt_base.specs.declared.items.Items.{Items}
use Rattle.virt_base.specs.declared.text.Text.{Text}
use Rattle.wit_types.specs.declared.types.WitType.TheBlock.{hidden-the_row-WitType-0}
use Rattle.wit_types.specs.declared.types.Fields.{Fields, Fields', out-Fields, outs-Fields', items_shown-the_row-Field-2, Row_of-Field, end_of-Field, more_of-Field, items-the_row-Field}
use Rattle.wit_types.specs.declared.types.Cases.{Cases, Cases', out-Cases, outs-Cases', items_shown-the_row-Case-1, Row_of-Case, end_of-Case, more_of-Case, items-the_row-Case}
use Rattle.wit_types.specs.Plain.{Name, OneByte, TwoBytes, FourBytes, EightBytes, AsRecord, AsTuple, AsVariant, AsEnum, AsOption, AsResult, Parts, BoolType, SignedType, UnsignedType, CharType, StringType, ListType, RecordType, VariantType, FlagsType, OwnType, BorrowType, End, More, Bare, bare, plain, plain_fields, plain_types, plain_cases, plain_case, fields_of, types_of, cases_of, payload_of, case_part}

fields_of-row : (n : _) (row : Row_of-Field n) → fields_of (items-the_row-Field n row) ≡ plain_fields row
unfolding plain_fields
fields_of-row n end_of-Field = refl
fields_of-row n (more_of-Field {n = m} a b rest) = ap (More a (plain b)) (fields_of-row m rest)

types_of-row : (n : _) (row : Row_of-WitType n) → types_of (items-the_row-WitType n row) ≡ plain_types row
unfolding plain_types
types_of-row n end_of-WitType = refl
types_of-row n (more_of-WitType {n = m} b rest) = ap (More [] (plain b)) (types_of-row m rest)

case_part-view : (name : Name) (p : Held-WitType-Result-0) (rest : Parts) → case_part name (payload_of (view-WitType-Result-0 p)) rest ≡ plain_case name p rest
unfolding plain_case
case_part-view name None' rest = refl
case_part-view name (Some' b ty) rest = refl

cases_of-row : (n : _) (row : Row_of-Case n) → cases_of (items-the_row-Case n row) ≡ plain_cases row
unfolding plain_cases
cases_of-row n end_of-Case = refl
cases_of-row n (more_of-Case {n = m} a b rest) = case_part-view a b _ ∙ ap (plain_case a b) (cases_of-row m rest)

record-plain : (p : _) (fs : Fields) → plain (Record' p fs) ≡ RecordType AsRecord (fields_of (out-Fields fs).items.items)
unfolding plain
record-plain p (Fields' s row) = rw (outs-Fields', items_shown-the_row-Field-2) (ap (RecordType AsRecord) (sym (fields_of-row _ row)))

pub plain-Record : (fs : Rc Fields Global) → plain (Record fs) ≡ RecordType AsRecord (fields_of (out-Fields fs.value).items.items)
plain-Record fs = record-plain _ fs.value

variant-plain : (p : _) (cs : Cases) → plain (Variant' p cs) ≡ VariantType AsVariant (cases_of (out-Cases cs).items.items)
unfolding plain
variant-plain p (Cases' s row) = rw (outs-Cases', items_shown-the_row-Case-1) (ap (VariantType AsVariant) (sym (cases_of-row _ row)))

pub plain-Variant : (cs : Rc Cases Global) → plain (Variant cs) ≡ VariantType AsVariant (cases_of (out-Cases cs.value).items.items)
plain-Variant cs = variant-plain _ cs.value

pub plain-Tuple : (ts : Rc Types Global) → plain (Tuple ts) ≡ RecordType AsTuple (types_of ts.value.items.items)
unfolding plain
plain-Tuple ts = ap (RecordType AsTuple) (sym (types_of-row _ (hidden-the_row-WitType-0 ts.value.items)) ∙ ap types_of (items_hidden-the_row-WitType-0 ts.value.items))

pub plain-Result : (ok err : Option (Rc WitType Global)) → plain (Result ok err) ≡ VariantType AsResult (case_part [] (payload_of ok) (case_part [] (payload_of err) End))
unfolding plain plain_case
plain-Result None None = refl
plain-Result None (Some e) = refl
plain-Result (Some o) None = refl
plain-Result (Some o) (Some e) = refl

pub plain-Option : (b : Rc WitType Global) → plain (Optional b) ≡ VariantType AsOption (Bare [] (More [] (plain b.value) End))
unfolding plain
plain-Option b = refl

pub plain-List : (b : Rc WitType Global) → plain (List b) ≡ ListType (plain b.value)
unfolding plain
plain-List b = refl

pub plain-Bool : plain Bool ≡ BoolType
unfolding plain
plain-Bool = refl

pub plain-S8 : plain S8 ≡ SignedType OneByte
unfolding plain
plain-S8 = refl

pub plain-U8 : plain U8 ≡ UnsignedType OneByte
unfolding plain
plain-U8 = refl

pub plain-S16 : plain S16 ≡ SignedType TwoBytes
unfolding plain
plain-S16 = refl

pub plain-U16 : plain U16 ≡ UnsignedType TwoBytes
unfolding plain
plain-U16 = refl

pub plain-S32 : plain S32 ≡ SignedType FourBytes
unfolding plain
plain-S32 = refl

pub plain-U32 : plain U32 ≡ UnsignedType FourBytes
unfolding plain
plain-U32 = refl

pub plain-S64 : plain S64 ≡ SignedType EightBytes
unfolding plain
plain-S64 = refl

pub plain-U64 : plain U64 ≡ UnsignedType EightBytes
unfolding plain
plain-U64 = refl

pub plain-Char : plain Char ≡ CharType
unfolding plain
plain-Char = refl

pub plain-Str : plain Str ≡ StringType
unfolding plain
plain-Str = refl

pub plain-Flags : (labels : Rc (Items Text) Global) → plain (Flags labels) ≡ FlagsType labels.value
unfolding plain
plain-Flags labels = refl

pub plain-Enum : (labels : Rc (Items Text) Global) → plain (Enum labels) ≡ VariantType AsEnum (bare labels.value)
unfolding plain
plain-Enum labels = refl

pub plain-Own : (n : ℕ) → plain (Own n) ≡ OwnType n
unfolding plain
plain-Own n = refl

pub plain-Borrow : (n : ℕ) → plain (Borrow n) ≡ BorrowType n
unfolding plain
plain-Borrow n = refl

pub fields_of-push : (xs ys : Lst Field) (x y : Field) → fields_of xs ≡ fields_of ys → (out-Field x).name ≡ (out-Field y).name → plain (out-Field x).ty ≡ plain (out-Field y).ty → fields_of (xs ++ x ∷ []) ≡ fields_of (ys ++ y ∷ [])
fields_of-push [] [] x y e n h = cc
fields_of-push [] (v ∷ ys) x y e n h = cc
fields_of-push (u ∷ xs) [] x y e n h = cc
fields_of-push (u ∷ xs) (v ∷ ys) x y e n h =
    let name : (out-Field u).name ≡ (out-Field v).name = cc in
    let head : plain (out-Field u).ty ≡ plain (out-Field v).ty = cc in
    let tail : fields_of xs ≡ fields_of ys = cc in
    let rest = fields_of-push xs ys x y tail n h in
    cc

pub ruleset plains = (plain-Record, plain-Variant, plain-Tuple, plain-Result, plain-Option, plain-List, plain-Bool, plain-S8, plain-U8, plain-S16, plain-U16, plain-S32, plain-U32, plain-S64, plain-U64, plain-Char, plain-Str, plain-Flags, plain-Enum, plain-Own, plain-Borrow)

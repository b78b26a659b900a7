-- The parts of records, and the cases of variants.
use Rattle.std.proofs.Common.{◌≡◌, ℕ, ◌+◌, ◌<◌, ◌≤◌, ap, refl, sym, ◌∙◌, List, [], ◌∷◌, length, drop, get_or, Option, Some, None, Global, arith, suc, zero, add-one, drop-cons}
use Rattle.std.specs.declared.rc.Rc.{Rc}
use Rattle.wit_types.specs.declared.types.Field.{Field, out-Field}
use Rattle.wit_types.specs.declared.types.Case.{Case, out-Case}
use Rattle.wit_types.specs.declared.types.WitType.{WitType}
use Rattle.wit_types.specs.Plain.{Name, Plain, Parts, End, More, Bare, bare, plain, fields_of, types_of, cases_of, payload_of, case_part}
use Rattle.wit_types.specs.Limits.{parts, all_parts}
use Rattle.wit_types.specs.declared.types.Fields.{Fields, out-Fields}
use Rattle.wit_types.specs.declared.types.Types.{Types, out-Types}
use Rattle.wit_types.specs.Plain.{RecordType, AsRecord, AsTuple}
use Rattle.abi_store.specs.declared.parts.Parts.TheVariants.{Fields as FieldParts, Types as TypeParts}
use Rattle.abi_store.specs.Parts.{case_type, fields_from, parts_from}

pub fields_cut : (fs : List Field) (i : ℕ) (f : Field) → i < length fs → f ≡ get_or fs i f → fields_from fs i ≡ More (out-Field f).name (plain (out-Field f).ty) (fields_from fs (i + 1))
fields_cut fs i f lt is =
    let cut : drop i fs ≡ f ∷ drop (i + 1) fs = rw add-one (drop-cons fs i f lt) ∙ ap (λ (z : Field). z ∷ drop (i + 1) fs) (sym is) in
    ap (λ (z : List Field). fields_of z) cut

pub fields_next : (fs : List Field) (i : ℕ) (f : Field) (ty : Plain) → i < length fs → f ≡ get_or fs i f → ty ≡ plain (out-Field f).ty → (name : Name) × (fields_from fs i ≡ More name ty (fields_from fs (i + 1)))
fields_next fs i f ty lt is same = ((out-Field f).name, fields_cut fs i f lt is ∙ ap (λ t. More (out-Field f).name t (fields_from fs (i + 1))) (sym same))

-- ---- the case of a number

pub case_type-part : (name : Name) (p : Option Plain) (rest : Parts) → case_type (case_part name p rest) 0 ≡ p
case_type-part name None rest = refl
case_type-part name (Some t) rest = refl

case_type-later : (name : Name) (p : Option Plain) (rest : Parts) (n : ℕ) → case_type (case_part name p rest) (suc n) ≡ case_type rest n
case_type-later name None rest n = refl
case_type-later name (Some t) rest n = refl

pub case_type-bare : (labels : List Name) (n : ℕ) → case_type (bare labels) n ≡ None
case_type-bare [] n = refl
case_type-bare (l ∷ ls) zero = refl
case_type-bare (l ∷ ls) (suc n) = case_type-bare ls n

pub case_type-past : (cs : List Case) (n : ℕ) → length cs ≤ n → None ≡ case_type (cases_of cs) n
case_type-past [] n le = refl
case_type-past (c ∷ cs) zero le = let no : suc (length cs) ≤ 0 = le in absurd (omega arith)
case_type-past (c ∷ cs) (suc n) le = case_type-past cs n (omega arith) ∙ sym (case_type-later (out-Case c).name (payload_of (out-Case c).ty) (cases_of cs) n)

pub case_type-cases_of : (cs : List Case) (n : ℕ) (c : Case) → n < length cs → c ≡ get_or cs n c → case_type (cases_of cs) n ≡ payload_of (out-Case c).ty
case_type-cases_of [] n c lt is = absurd (omega arith)
case_type-cases_of (d ∷ cs) zero c lt is = case_type-part (out-Case d).name (payload_of (out-Case d).ty) (cases_of cs) ∙ ap (λ (v : Case). payload_of (out-Case v).ty) (sym is)
case_type-cases_of (d ∷ cs) (suc n) c lt is = case_type-later (out-Case d).name (payload_of (out-Case d).ty) (cases_of cs) n ∙ case_type-cases_of cs n c (omega arith) is

-- a payload has no more parts than all of them
pub case_parts : (ps : Parts) (n : ℕ) (ty : Plain) → case_type ps n ≡ Some ty → parts ty ≤ all_parts ps
case_parts End n ty is = cc
case_parts (More name t rest) zero ty is = let same : t ≡ ty = cc in let more : parts t ≡ parts ty = ap parts same in omega arith
case_parts (More name t rest) (suc n) ty is = let few = case_parts rest n ty is in omega arith
case_parts (Bare name rest) zero ty is = cc
case_parts (Bare name rest) (suc n) ty is = case_parts rest n ty is

-- ---- all parts

drop-zero : {A : Type 0} (xs : List A) → drop 0 xs ≡ xs
drop-zero [] = refl
drop-zero (x ∷ xs) = refl

pub record_whole : (f g : Rc Fields Global) → g.value ≡ f.value → RecordType AsRecord (fields_of (out-Fields f.value).items.items) ≡ RecordType AsRecord (parts_from (FieldParts g) 0)
record_whole f g is =
    ap (λ (v : Fields). RecordType AsRecord (fields_of (out-Fields v).items.items)) (sym is) ∙ ap (λ (xs : List Field). RecordType AsRecord (fields_of xs)) (sym (drop-zero (out-Fields g.value).items.items))

pub tuple_whole : (f g : Rc Types Global) → g.value ≡ f.value → RecordType AsTuple (types_of (out-Types f.value).items.items) ≡ RecordType AsTuple (parts_from (TypeParts g) 0)
tuple_whole f g is =
    ap (λ (v : Types). RecordType AsTuple (types_of (out-Types v).items.items)) (sym is) ∙ ap (λ (xs : List WitType). RecordType AsTuple (types_of xs)) (sym (drop-zero (out-Types g.value).items.items))

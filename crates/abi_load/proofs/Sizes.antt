-- The tree of a type from its parts as they are written, and how many parts it has.
use Rattle.std.proofs.Common.{◌≡◌, ◌+◌, List, Option, Global, [], ap, refl}
use Rattle.std.specs.declared.rc.Rc.{Rc}
use Rattle.wit_types.specs.declared.types.Case.{Case}
use Rattle.wit_types.specs.declared.types.Field.{Field}
use Rattle.wit_types.specs.declared.types.Fields.{Fields, out-Fields}
use Rattle.wit_types.specs.declared.types.Cases.{Cases, out-Cases}
use Rattle.wit_types.specs.declared.types.Types.{Types}
use Rattle.wit_types.specs.declared.types.WitType.{WitType}
use Rattle.wit_types.specs.declared.types.WitType.TheVariants.{Record, Tuple, Variant, List as Listed, Option as Optional, Result as Results}
use Rattle.wit_types.specs.Plain.{RecordType, VariantType, AsRecord, AsTuple, AsVariant, AsOption, AsResult, End, More, Bare, plain, payload_of, case_part, fields_of, types_of, cases_of}
use Rattle.wit_types.specs.Limits.{parts, all_parts}
use Rattle.wit_types.proofs.PlainLemmas.{plain-Record, plain-Tuple, plain-Variant, plain-Option, plain-Result, plain-List}

pub plain_is-Record : (ty : WitType) (fs : Rc Fields Global) (f : Fields) (xs : List Field) → ty ≡ Record fs → f ≡ fs.value → xs ≡ (out-Fields f).items.items → plain ty ≡ RecordType AsRecord (fields_of xs)
plain_is-Record ty fs f xs is held same = rw (is, plain-Record, same, held) refl

pub plain_is-Tuple : (ty : WitType) (ts : Rc Types Global) (t : Types) (xs : List WitType) → ty ≡ Tuple ts → t ≡ ts.value → xs ≡ t.items.items → plain ty ≡ RecordType AsTuple (types_of xs)
plain_is-Tuple ty ts t xs is held same = rw (is, plain-Tuple, same, held) refl

pub plain_is-Variant : (ty : WitType) (cs : Rc Cases Global) (c : Cases) (xs : List Case) → ty ≡ Variant cs → c ≡ cs.value → xs ≡ (out-Cases c).items.items → plain ty ≡ VariantType AsVariant (cases_of xs)
plain_is-Variant ty cs c xs is held same = rw (is, plain-Variant, same, held) refl

pub plain_is-Option : (ty : WitType) (b : Rc WitType Global) (t : WitType) → ty ≡ Optional b → t ≡ b.value → plain ty ≡ VariantType AsOption (Bare [] (More [] (plain t) End))
plain_is-Option ty b t is held = rw (is, plain-Option, held) refl

pub plain_is-Result : (ty : WitType) (ok err : Option (Rc WitType Global)) → ty ≡ Results ok err → plain ty ≡ VariantType AsResult (case_part [] (payload_of ok) (case_part [] (payload_of err) End))
plain_is-Result ty ok err is = rw (is, plain-Result) refl

pub parts-Record : (ty : WitType) (fs : Rc Fields Global) (f : Fields) (xs : List Field) → ty ≡ Record fs → f ≡ fs.value → xs ≡ (out-Fields f).items.items → parts (plain ty) ≡ all_parts (fields_of xs) + 1
parts-Record ty fs f xs is held same = ap parts (plain_is-Record ty fs f xs is held same)

pub parts-Tuple : (ty : WitType) (ts : Rc Types Global) (t : Types) (xs : List WitType) → ty ≡ Tuple ts → t ≡ ts.value → xs ≡ t.items.items → parts (plain ty) ≡ all_parts (types_of xs) + 1
parts-Tuple ty ts t xs is held same = ap parts (plain_is-Tuple ty ts t xs is held same)

pub parts-Variant : (ty : WitType) (cs : Rc Cases Global) (c : Cases) (xs : List Case) → ty ≡ Variant cs → c ≡ cs.value → xs ≡ (out-Cases c).items.items → parts (plain ty) ≡ all_parts (cases_of xs) + 1
parts-Variant ty cs c xs is held same = ap parts (plain_is-Variant ty cs c xs is held same)

pub parts-Option : (ty : WitType) (b : Rc WitType Global) → ty ≡ Optional b → parts (plain ty) ≡ parts (plain b.value) + 0 + 1
parts-Option ty b is = rw (is, plain-Option) refl

pub parts-List : (ty : WitType) (b : Rc WitType Global) → ty ≡ Listed b → parts (plain ty) ≡ parts (plain b.value) + 1
parts-List ty b is = rw (is, plain-List) refl

pub parts-Result : (ty : WitType) (ok err : Option (Rc WitType Global)) → ty ≡ Results ok err → parts (plain ty) ≡ all_parts (case_part [] (payload_of ok) (case_part [] (payload_of err) End)) + 1
parts-Result ty ok err is = ap parts (plain_is-Result ty ok err is)

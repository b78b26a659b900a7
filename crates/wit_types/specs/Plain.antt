-- Types without their special forms (Canonical ABI, "Despecialization"): a tuple is a record, and an enum, an option and a
-- result are variants. How each was written, and each name, stand beside, so that two types are equal where their trees are.
use Rattle.std.specs.Prelude.{ℕ, List, [], ◌∷◌, Option as Opt, Some, None}
use Rattle.std.specs.Global.{Global}
use Rattle.std.specs.declared.rc.Rc.{Rc}
use Rattle.wit_types.specs.declared.types.Field.{Field, out-Field}
use Rattle.wit_types.specs.declared.types.Case.{Case, out-Case}
use Rattle.wit_types.specs.declared.types.WitType.{WitType, Row_of-WitType, end_of-WitType, more_of-WitType, Held-WitType-Result-0, None', Some'}
use Rattle.wit_types.specs.declared.types.WitType.TheVariants.{Bool, S8, U8, S16, U16, S32, U32, S64, U64, Char, Str, Record', Tuple', Variant', List', Flags, Enum, Option', Result', Own, Borrow}
use Rattle.wit_types.specs.declared.types.Fields.{Fields', out-Fields, Row_of-Field, end_of-Field, more_of-Field}
use Rattle.wit_types.specs.declared.types.Cases.{Cases', Row_of-Case, end_of-Case, more_of-Case}
use Rattle.wit_types.specs.declared.types.FuncType.{FuncType}

-- the bytes of an integer
pub data Width : Type 0 where
  OneByte : Width
  TwoBytes : Width
  FourBytes : Width
  EightBytes : Width

-- how a record type is written
pub data RecordForm : Type 0 where
  AsRecord : RecordForm
  AsTuple : RecordForm

-- how a variant type is written
pub data VariantForm : Type 0 where
  AsVariant : VariantForm
  AsEnum : VariantForm
  AsOption : VariantForm
  AsResult : VariantForm

-- a name is its bytes
abbrev pub Name : Type 0
Name = List ℕ

mutual
  pub data Plain : Type 0 where
    BoolType : Plain
    SignedType : (width : Width) → Plain
    UnsignedType : (width : Width) → Plain
    CharType : Plain
    StringType : Plain
    ListType : (item : Plain) → Plain
    RecordType : (form : RecordForm) → (fields : Parts) → Plain
    VariantType : (form : VariantForm) → (cases : Parts) → Plain
    FlagsType : (labels : List Name) → Plain
    OwnType : (resource : ℕ) → Plain
    BorrowType : (resource : ℕ) → Plain

  -- the fields of a record, or the cases of a variant; the parts of tuples, options and results have no name
  pub data Parts : Type 0 where
    End : Parts
    -- a field, or a case with a payload
    More : (name : Name) → (ty : Plain) → (rest : Parts) → Parts
    -- a case without a payload
    Bare : (name : Name) → (rest : Parts) → Parts

-- cases without payloads
abbrev pub bare : List Name → Parts
bare [] = End
bare (label ∷ labels) = Bare label (bare labels)

unfoldable mutual
  pub plain : WitType → Plain
  plain Bool = BoolType
  plain S8 = SignedType OneByte
  plain U8 = UnsignedType OneByte
  plain S16 = SignedType TwoBytes
  plain U16 = UnsignedType TwoBytes
  plain S32 = SignedType FourBytes
  plain U32 = UnsignedType FourBytes
  plain S64 = SignedType EightBytes
  plain U64 = UnsignedType EightBytes
  plain Char = CharType
  plain Str = StringType
  plain (Record' _ (Fields' _ fields)) = RecordType AsRecord (plain_fields fields)
  plain (Tuple' _ _ types) = RecordType AsTuple (plain_types types)
  plain (Variant' _ (Cases' _ cases)) = VariantType AsVariant (plain_cases cases)
  plain (List' _ item) = ListType (plain item)
  plain (Flags labels) = FlagsType labels.value
  plain (Enum labels) = VariantType AsEnum (bare labels.value)
  plain (Option' _ ty) = VariantType AsOption (Bare [] (More [] (plain ty) End))
  plain (Result' ok err) = VariantType AsResult (plain_case [] ok (plain_case [] err End))
  plain (Own resource) = OwnType resource
  plain (Borrow resource) = BorrowType resource

  pub plain_fields : {n : _} → Row_of-Field n → Parts
  plain_fields end_of-Field = End
  plain_fields (more_of-Field name ty rest) = More name (plain ty) (plain_fields rest)

  pub plain_types : {n : _} → Row_of-WitType n → Parts
  plain_types end_of-WitType = End
  plain_types (more_of-WitType ty rest) = More [] (plain ty) (plain_types rest)

  pub plain_cases : {n : _} → Row_of-Case n → Parts
  plain_cases end_of-Case = End
  plain_cases (more_of-Case name payload rest) = plain_case name payload (plain_cases rest)

  pub plain_case : Name → Held-WitType-Result-0 → Parts → Parts
  plain_case name None' rest = Bare name rest
  plain_case name (Some' _ ty) rest = More name (plain ty) rest

-- the same of lists
abbrev pub fields_of : List Field → Parts
fields_of [] = End
fields_of (f ∷ fs) = More (out-Field f).name (plain (out-Field f).ty) (fields_of fs)

abbrev pub types_of : List WitType → Parts
types_of [] = End
types_of (t ∷ ts) = More [] (plain t) (types_of ts)

abbrev pub payload_of : Opt (Rc WitType Global) → Opt Plain
payload_of None = None
payload_of (Some b) = Some (plain b.value)

-- a case with its payload, if it has one
abbrev pub case_part : Name → Opt Plain → Parts → Parts
case_part name None rest = Bare name rest
case_part name (Some ty) rest = More name ty rest

abbrev pub cases_of : List Case → Parts
cases_of [] = End
cases_of (c ∷ cs) = case_part (out-Case c).name (payload_of (out-Case c).ty) (cases_of cs)

-- the type of a function
pub record PlainFunc : Type 0 where
  pub params : Parts
  pub answer : Opt Plain

abbrev pub plain_result : Opt WitType → Opt Plain
plain_result None = None
plain_result (Some ty) = Some (plain ty)

abbrev pub plain_func : FuncType → PlainFunc
plain_func f = record { params = fields_of (out-Fields f.params).items.items; answer = plain_result f.result }

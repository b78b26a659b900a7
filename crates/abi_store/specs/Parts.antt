-- The parts of a record or a tuple, and the cases of a variant.
use Rattle.std.specs.Prelude.{ℕ, ◌≡◌, List, [], drop, Option, Some, None}
use Rattle.std.specs.Global.{Global}
use Rattle.std.specs.declared.rc.Rc.{Rc}
use Rattle.wit_types.specs.declared.types.Field.{Field}
use Rattle.wit_types.specs.declared.types.WitType.{WitType}
use Rattle.wit_types.specs.declared.types.Fields.{out-Fields}
use Rattle.wit_types.specs.declared.types.Types.{out-Types}
use Rattle.wit_types.specs.Plain.{Name, Plain, Parts as PlainParts, VariantType, End, More, Bare, plain, fields_of, types_of, payload_of, case_part}
use Rattle.virt_base.specs.declared.core_type.CoreType.{CoreType}
use Rattle.wit_types.specs.Layout.{flat}
use Rattle.wit_types.specs.Limits.{parts}
use Rattle.abi_layout.specs.Loading.{first_or_later}
use Rattle.abi_store.specs.declared.parts.Parts.{Parts}
use Rattle.abi_store.specs.declared.parts.Parts.TheVariants.{Fields, Types}

-- the parts from one on
abbrev pub fields_from : List Field → ℕ → PlainParts
fields_from fields at = fields_of (drop at fields)

abbrev pub types_from : List WitType → ℕ → PlainParts
types_from types at = types_of (drop at types)

abbrev pub parts_from : Parts → ℕ → PlainParts
parts_from (Fields fields) at = fields_from (out-Fields fields.value).items.items at
parts_from (Types types) at = types_from (out-Types types.value).items.items at

-- the type of the first part, and the others; or no type, and there is no part
abbrev pub IsNext : PlainParts → PlainParts → Option WitType → Type 0
IsNext parts rest None = parts ≡ End
IsNext parts rest (Some ty) = (name : Name) × (parts ≡ More name (plain ty) rest)

-- the cases of a variant; other types have none
abbrev pub cases_in : Plain → PlainParts
cases_in (VariantType _ cases) = cases
cases_in _ = End

-- the type of the payload of a case, if there is that case and it has one
abbrev pub case_type : PlainParts → ℕ → Option Plain
case_type End n = None
case_type (More _ ty rest) n = first_or_later (Some ty) (λ m. case_type rest m) n
case_type (Bare _ rest) n = first_or_later None (λ m. case_type rest m) n

-- the cases of an option and of a result
abbrev pub some_cases : Rc WitType Global → PlainParts
some_cases some = Bare [] (More [] (plain some.value) End)

abbrev pub result_cases : Option (Rc WitType Global) → Option (Rc WitType Global) → PlainParts
result_cases ok err = case_part [] (payload_of ok) (case_part [] (payload_of err) End)

-- the flat types and the parts of a payload
abbrev pub payload_flat : Option Plain → List CoreType
payload_flat None = []
payload_flat (Some ty) = flat ty

abbrev pub payload_parts : Option Plain → ℕ
payload_parts None = 0
payload_parts (Some ty) = parts ty

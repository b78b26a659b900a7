-- The types that definitions stand for (Component Model, Explainer.md, "Type Definitions"). Where a part is at fault, `bool` stands
-- in its place, so that what is asked of the rest can still be asked.
use Rattle.std.specs.Prelude.{ℕ, List, [], ◌∷◌, Option, Some, None, map}
use Rattle.std.specs.Option.{option_map}
use Rattle.wasm_ast.specs.declared.component.ValType.{ValType}
use Rattle.wasm_ast.specs.declared.component.ValType.TheVariants as values
use Rattle.wasm_ast.specs.declared.component.LabelType.{LabelType}
use Rattle.wasm_ast.specs.declared.component.CaseType.{CaseType}
use Rattle.wasm_ast.specs.declared.component.TypeDef.{TypeDef}
use Rattle.wasm_ast.specs.declared.component.TypeDef.TheVariants as defs
use Rattle.wit_types.specs.Plain.{AsRecord, AsTuple, AsVariant, AsEnum, AsOption, AsResult, Plain, Parts, PlainFunc, BoolType, ListType, RecordType, VariantType, FlagsType, OwnType, BorrowType, End, More, Bare, bare, case_part}
use Rattle.comp_facts.specs.Primitives.{primitive_type}
use Rattle.comp_types.specs.Items.{Kind, Entries, ResourceKind, ValueKind, FuncKind, InstanceKind, End as NoEntries}
use Rattle.comp_types.specs.Spaces.{Space, kind_at}

-- ---- what an index names

abbrev pub value_in : Option Kind → Plain
value_in (Some (ValueKind ty)) = ty
value_in _ = BoolType

abbrev pub no_func : PlainFunc
no_func = record { params = End; answer = None }

abbrev pub func_in : Option Kind → PlainFunc
func_in (Some (FuncKind ty)) = ty
func_in _ = no_func

abbrev pub resource_in : Option Kind → Option ℕ
resource_in (Some (ResourceKind r)) = Some r
resource_in _ = None

-- an instance type: the resources that it declares, and its entries
abbrev pub instance_in : Option Kind → List ℕ × Entries
instance_in (Some (InstanceKind own entries)) = (own, entries)
instance_in _ = ([], NoEntries)

abbrev pub value_of : Space → ValType → Plain
value_of s (values.Primitive p) = primitive_type p
value_of s (values.Index i) = value_in (kind_at s i)

-- ---- what a definition makes of its parts

abbrev pub fields_of : Space → List LabelType → Parts
fields_of s [] = End
fields_of s (f ∷ fs) = More f.label (value_of s f.ty) (fields_of s fs)

abbrev pub cases_of : Space → List CaseType → Parts
cases_of s [] = End
cases_of s (c ∷ cs) = case_part c.label (option_map (value_of s) c.ty) (cases_of s cs)

-- the parts of a tuple have no names
abbrev pub unnamed : List Plain → Parts
unnamed [] = End
unnamed (ty ∷ tys) = More [] ty (unnamed tys)

abbrev pub handle_of : (ℕ → Plain) → Option ℕ → Plain
handle_of handle None = BoolType
handle_of handle (Some r) = handle r

-- the form of options and results is that of variants
abbrev pub option_of : Plain → Plain
option_of ty = VariantType AsOption (Bare [] (More [] ty End))

abbrev pub result_of : Option Plain → Option Plain → Plain
result_of ok err = VariantType AsResult (case_part [] ok (case_part [] err End))

abbrev pub func_of : Space → List LabelType → Option ValType → PlainFunc
func_of s params result = record { params = fields_of s params; answer = option_map (value_of s) result }

-- a definition in which no other stands
abbrev pub kind_of : Space → TypeDef → Kind
kind_of s (defs.Primitive p) = ValueKind (primitive_type p)
kind_of s (defs.Record fields) = ValueKind (RecordType AsRecord (fields_of s fields))
kind_of s (defs.Variant cases) = ValueKind (VariantType AsVariant (cases_of s cases))
kind_of s (defs.List item) = ValueKind (ListType (value_of s item))
kind_of s (defs.Tuple types) = ValueKind (RecordType AsTuple (unnamed (map (value_of s) types)))
kind_of s (defs.Flags labels) = ValueKind (FlagsType labels)
kind_of s (defs.Enum labels) = ValueKind (VariantType AsEnum (bare labels))
kind_of s (defs.Option item) = ValueKind (option_of (value_of s item))
kind_of s (defs.Result ok err) = ValueKind (result_of (option_map (value_of s) ok) (option_map (value_of s) err))
kind_of s (defs.Own i) = ValueKind (handle_of OwnType (resource_in (kind_at s i)))
kind_of s (defs.Borrow i) = ValueKind (handle_of BorrowType (resource_in (kind_at s i)))
kind_of s (defs.Func params result) = FuncKind (func_of s params result)
kind_of s (defs.Instance declarations) = InstanceKind [] NoEntries
-- a new resource
kind_of s (defs.Resource destructor) = ResourceKind s.next

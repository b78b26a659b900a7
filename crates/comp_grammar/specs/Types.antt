-- The formats of types (Component Model, Binary.md, "Type Definitions"). Each literal byte is a tag.
use Rattle.std.specs.Prelude.{ℕ, Bool, true, false, nat_lt, List, [], ◌∷◌, ◌==◌, Option as Maybe, Some, None, unwrap_or}
use Rattle.wasm_format.specs.Format.{Format, choose, lacking, tagged, tag_or, value, both, image, behind, closed_by, vec, u32_format, name}
use Rattle.wasm_format.specs.Numbers.{s33_index}
use Rattle.wasm_ast.specs.declared.component.Primitive.{Primitive}
use Rattle.wasm_ast.specs.declared.component.Primitive.TheVariants as primitives
use Rattle.wasm_ast.specs.declared.component.ValType.{ValType}
use Rattle.wasm_ast.specs.declared.component.ValType.TheVariants as values
use Rattle.wasm_ast.specs.declared.component.LabelType.{LabelType}
use Rattle.wasm_ast.specs.declared.component.CaseType.{CaseType}
use Rattle.wasm_ast.specs.declared.component.TypeDef.{TypeDef}
use Rattle.wasm_ast.specs.declared.component.TypeDef.TheVariants as defs

-- ---- value types

abbrev pub primitive_tag : Primitive → ℕ
primitive_tag primitives.Bool = 0x7F
primitive_tag primitives.S8 = 0x7E
primitive_tag primitives.U8 = 0x7D
primitive_tag primitives.S16 = 0x7C
primitive_tag primitives.U16 = 0x7B
primitive_tag primitives.S32 = 0x7A
primitive_tag primitives.U32 = 0x79
primitive_tag primitives.S64 = 0x78
primitive_tag primitives.U64 = 0x77
primitive_tag primitives.Char = 0x74
primitive_tag primitives.String = 0x73

-- the primitive type of a tag
unfoldable pub primitive_of : ℕ → Format Primitive
primitive_of b =
    choose (b == 0x7F) (value primitives.Bool) (
    choose (b == 0x7E) (value primitives.S8) (
    choose (b == 0x7D) (value primitives.U8) (
    choose (b == 0x7C) (value primitives.S16) (
    choose (b == 0x7B) (value primitives.U16) (
    choose (b == 0x7A) (value primitives.S32) (
    choose (b == 0x79) (value primitives.U32) (
    choose (b == 0x78) (value primitives.S64) (
    choose (b == 0x77) (value primitives.U64) (
    choose (b == 0x74) (value primitives.Char) (
    choose (b == 0x73) (value primitives.String)
    (lacking b)))))))))))

unfoldable pub primitive : Format Primitive
primitive = tagged primitive_tag primitive_of

abbrev pub is_primitive : ValType → Bool
is_primitive (values.Primitive p) = true
is_primitive (values.Index n) = false

abbrev pub primitive_in : ValType → Primitive
primitive_in (values.Primitive p) = p
primitive_in (values.Index n) = primitives.Bool

abbrev pub index_in : ValType → ℕ
index_in (values.Index n) = n
index_in (values.Primitive p) = 0

abbrev pub primitive_type : Format ValType
primitive_type = image values.Primitive primitive_in primitive

abbrev pub indexed_type : Format ValType
indexed_type = image values.Index index_in s33_index

-- a primitive type, or a type index as a signed number that is not negative
unfoldable pub val_type : Format ValType
val_type = tag_or is_primitive primitive_type indexed_type

abbrev pub no_type : ValType
no_type = values.Index 0

abbrev pub some_type : Maybe ValType → ValType
some_type t = unwrap_or t no_type

abbrev pub has_type_tag : Maybe ValType → ℕ
has_type_tag None = 0
has_type_tag (Some t) = 1

-- 00, or 01 and a type
unfoldable pub maybe_type : Format (Maybe ValType)
maybe_type = tagged has_type_tag (λ b.
    choose (b == 0) (value None) (
    choose (b == 1) (image Some some_type val_type)
    (lacking b)))

-- ---- named types

-- a field or a parameter
unfoldable pub label_type : Format LabelType
label_type = image (λ p. record { label = p.0; ty = p.1 }) (λ l. (l.label, l.ty)) (both name val_type)

-- a case of a variant, which a 00 closes
unfoldable pub case_type : Format CaseType
case_type = image (λ p. record { label = p.0; ty = p.1 }) (λ c. (c.label, c.ty)) (both name (closed_by (0 ∷ []) maybe_type))

-- ---- definitions

abbrev pub result_tag : Maybe ValType → ℕ
result_tag (Some t) = 0
result_tag None = 1

-- the result of a function: 00 and a type, or 01 00
unfoldable pub func_result : Format (Maybe ValType)
func_result = tagged result_tag (λ b.
    choose (b == 0) (image Some some_type val_type) (
    choose (b == 1) (behind (0 ∷ []) (value None))
    (lacking b)))

abbrev pub destructor_tag : Maybe ℕ → ℕ
destructor_tag None = 0
destructor_tag (Some f) = 1

abbrev pub some_func : Maybe ℕ → ℕ
some_func f = unwrap_or f 0

-- the destructor of a resource, if it has one
unfoldable pub destructor : Format (Maybe ℕ)
destructor = tagged destructor_tag (λ b.
    choose (b == 0) (value None) (
    choose (b == 1) (image Some some_func u32_format)
    (lacking b)))

abbrev pub def_tag : TypeDef → ℕ
def_tag (defs.Primitive p) = primitive_tag p
def_tag (defs.Record fields) = 0x72
def_tag (defs.Variant cases) = 0x71
def_tag (defs.List t) = 0x70
def_tag (defs.Tuple types) = 0x6F
def_tag (defs.Flags labels) = 0x6E
def_tag (defs.Enum labels) = 0x6D
def_tag (defs.Option t) = 0x6B
def_tag (defs.Result ok err) = 0x6A
def_tag (defs.Own r) = 0x69
def_tag (defs.Borrow r) = 0x68
def_tag (defs.Func params result) = 0x40
def_tag (defs.Instance declarations) = 0x42
def_tag (defs.Resource f) = 0x3F

abbrev pub primitive_in_def : TypeDef → Primitive
primitive_in_def (defs.Primitive p) = p
primitive_in_def _ = primitives.Bool

abbrev pub fields_in : TypeDef → List LabelType
fields_in (defs.Record fields) = fields
fields_in _ = []

abbrev pub cases_in : TypeDef → List CaseType
cases_in (defs.Variant cases) = cases
cases_in _ = []

abbrev pub types_in : TypeDef → List ValType
types_in (defs.Tuple types) = types
types_in _ = []

abbrev pub labels_in : TypeDef → List (List ℕ)
labels_in (defs.Flags labels) = labels
labels_in (defs.Enum labels) = labels
labels_in _ = []

abbrev pub type_in : TypeDef → ValType
type_in (defs.List t) = t
type_in (defs.Option t) = t
type_in _ = no_type

abbrev pub results_in : TypeDef → Maybe ValType × Maybe ValType
results_in (defs.Result ok err) = (ok, err)
results_in _ = (None, None)

abbrev pub resource_in : TypeDef → ℕ
resource_in (defs.Own r) = r
resource_in (defs.Borrow r) = r
resource_in _ = 0

abbrev pub func_in : TypeDef → List LabelType × Maybe ValType
func_in (defs.Func params result) = (params, result)
func_in _ = ([], None)

abbrev pub declarations_in : TypeDef → ℕ
declarations_in (defs.Instance declarations) = declarations
declarations_in _ = 0

abbrev pub destructor_in : TypeDef → Maybe ℕ
destructor_in (defs.Resource f) = f
destructor_in _ = None

-- definitions of tag 6D to 72, after the tag
unfoldable pub aggregate_def : ℕ → Format TypeDef
aggregate_def b =
    choose (b == 0x72) (image defs.Record fields_in (vec label_type)) (
    choose (b == 0x71) (image defs.Variant cases_in (vec case_type)) (
    choose (b == 0x70) (image defs.List type_in val_type) (
    choose (b == 0x6F) (image defs.Tuple types_in (vec val_type)) (
    choose (b == 0x6E) (image defs.Flags labels_in (vec name)) (
    choose (b == 0x6D) (image defs.Enum labels_in (vec name))
    (lacking b))))))

-- definitions of a lower tag. Of an instance type this is the number of its declarations, which follow.
unfoldable pub other_def : ℕ → Format TypeDef
other_def b =
    choose (b == 0x6B) (image defs.Option type_in val_type) (
    choose (b == 0x6A) (image (λ p. defs.Result p.0 p.1) results_in (both maybe_type maybe_type)) (
    choose (b == 0x69) (image defs.Own resource_in u32_format) (
    choose (b == 0x68) (image defs.Borrow resource_in u32_format) (
    choose (b == 0x40) (image (λ p. defs.Func p.0 p.1) func_in (both (vec label_type) func_result)) (
    choose (b == 0x42) (image defs.Instance declarations_in u32_format) (
    choose (b == 0x3F) (image defs.Resource destructor_in (behind (0x7F ∷ []) destructor))
    (lacking b)))))))

abbrev pub primitive_def : ℕ → Format TypeDef
primitive_def b = image defs.Primitive primitive_in_def (primitive_of b)

-- a definition; of an instance type without its declarations
unfoldable pub type_def : Format TypeDef
type_def = tagged def_tag (λ b. choose (nat_lt 0x72 b) (primitive_def b) (choose (nat_lt 0x6C b) (aggregate_def b) (other_def b)))

-- The definition of a type for which what is kept stands, and what can be told of it at once.
use Rattle.std.specs.Prelude.{ℕ, [], Option, Some, None}
use Rattle.wasm_ast.specs.declared.component.TypeDef.{TypeDef}
use Rattle.wasm_ast.specs.declared.component.TypeDef.TheVariants as defs
use Rattle.wasm_ast.specs.declared.kept_type.Form.{Form}
use Rattle.wasm_ast.specs.declared.kept_type.Form.TheVariants as forms
use Rattle.wasm_ast.specs.declared.kept_type.Kept.{Kept}
use Rattle.wasm_ast.specs.declared.kept_type.Kept.TheVariants as kept

abbrev pub empty_def : Form → TypeDef
empty_def forms.Record = defs.Record []
empty_def forms.Variant = defs.Variant []
empty_def forms.Tuple = defs.Tuple []
empty_def forms.Flags = defs.Flags []
empty_def forms.Enum = defs.Enum []

abbrev pub type_kept : Kept → TypeDef
type_kept (kept.Primitive primitive) = defs.Primitive primitive
type_kept (kept.Empty form) = empty_def form
type_kept (kept.OneField fields) = defs.Record fields
type_kept (kept.TwoFields fields) = defs.Record fields
type_kept (kept.Fields fields) = defs.Record fields
type_kept (kept.Cases cases) = defs.Variant cases
type_kept (kept.List item) = defs.List item
type_kept (kept.OneType types) = defs.Tuple types
type_kept (kept.Types types) = defs.Tuple types
type_kept (kept.Flags labels) = defs.Flags labels
type_kept (kept.Enum labels) = defs.Enum labels
type_kept (kept.Option item) = defs.Option item
type_kept (kept.Result types) = defs.Result types.ok types.err
type_kept (kept.Own index) = defs.Own index
type_kept (kept.Borrow index) = defs.Borrow index
type_kept (kept.Func func) = defs.Func func.params func.result
type_kept (kept.Instance declarations) = defs.Instance declarations
type_kept (kept.Resource destructor) = defs.Resource destructor

-- the number of declarations of an instance type; nothing of another type
abbrev pub declaration_count : TypeDef → Option ℕ
declaration_count (defs.Instance declarations) = Some declarations
declaration_count _ = None

-- the destructor of a resource, if it has one; nothing of another type
abbrev pub resource_destructor : TypeDef → Option (Option ℕ)
resource_destructor (defs.Resource destructor) = Some destructor
resource_destructor _ = None

-- The value type for which what is kept stands, if it stands for one.
use Rattle.std.specs.Prelude.{Option, None, Some}
use Rattle.wasm_ast.specs.declared.component.ValType.{ValType}
use Rattle.wasm_ast.specs.declared.component.ValType.TheVariants as types
use Rattle.wasm_ast.specs.declared.maybe_type.Kept.{Kept}
use Rattle.wasm_ast.specs.declared.maybe_type.Kept.TheVariants.{Absent, Primitive, Index}

abbrev pub type_kept : Kept → Option ValType
type_kept Absent = None
type_kept (Primitive primitive) = Some (types.Primitive primitive)
type_kept (Index index) = Some (types.Index index)

-- The items for which a kept list stands.
use Rattle.std.specs.Prelude.{List, []}
use Rattle.wasm_ast.specs.declared.lean.Kept.{Kept}
use Rattle.wasm_ast.specs.declared.lean.Kept.TheVariants.{Empty, Apart}

abbrev pub lean_kept : {T : Type 0} → Kept T → List T
lean_kept Empty = []
lean_kept (Apart items) = items

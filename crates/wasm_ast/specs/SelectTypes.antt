-- The types for which a kept list stands.
use Rattle.std.specs.Prelude.{List}
use Rattle.virt_base.specs.declared.core_type.CoreType.{CoreType}
use Rattle.wasm_ast.specs.declared.select_types.Kept.{Kept}
use Rattle.wasm_ast.specs.declared.select_types.Kept.TheVariants.{Four, Others}

abbrev pub select_kept : Kept → List CoreType
select_kept (Four types) = types
select_kept (Others types) = types

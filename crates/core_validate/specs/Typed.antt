-- The type of a module (WebAssembly Core 2.0, section 3.4.10): the types of its imports and exports.
use Rattle.std.specs.Prelude.{ℕ, Option, Some, None, List, [], ◌∷◌, map, slice_get, unwrap_or}
use Rattle.std.specs.Option.{option_map}
use Rattle.wasm_ast.specs.declared.module.CoreFunc.{CoreFunc}
use Rattle.wasm_ast.specs.declared.module.Limits.{Limits}
use Rattle.wasm_ast.specs.declared.module.TableType.{TableType}
use Rattle.wasm_ast.specs.declared.module.GlobalType.{GlobalType}
use Rattle.wasm_ast.specs.declared.module.Import.{Import}
use Rattle.wasm_ast.specs.declared.module.ImportItem.{ImportItem}
use Rattle.wasm_ast.specs.declared.module.ImportItem.TheVariants as imported
use Rattle.wasm_ast.specs.declared.module.Export.{Export}
use Rattle.wasm_ast.specs.declared.module.ExportItem.{ExportItem}
use Rattle.wasm_ast.specs.declared.module.ExportItem.TheVariants as exported
use Rattle.wasm_ast.specs.declared.module.Module.{Module}
use Rattle.core_body.specs.Context.{Context, arrow, function_type}
use Rattle.core_body.specs.Shapes.{value_of}
use Rattle.core_validate.specs.declared.item.CoreItem.{CoreItem}
use Rattle.core_validate.specs.declared.item.CoreItem.TheVariants.{Func, Table, Memory, Global}
use Rattle.core_validate.specs.declared.item.CoreImport.{CoreImport}
use Rattle.core_validate.specs.declared.item.CoreExport.{CoreExport}
use Rattle.core_validate.specs.declared.item.ModuleType.{ModuleType}
use Rattle.core_validate.specs.Spaces.{context, memories}

-- the item at an index. In a valid module it is there; where it is not, this stands for it
abbrev pub nothing : CoreItem
nothing = Func (arrow [] [])

abbrev pub found : Option CoreItem → CoreItem
found item = unwrap_or item nothing

abbrev pub func_item : Option CoreFunc → CoreItem
func_item f = found (option_map (λ x. Func x) f)

abbrev pub table_item : TableType → CoreItem
table_item t = Table (value_of t.element) t.limits

abbrev pub global_item : GlobalType → CoreItem
global_item g = Global g.value g.variable

abbrev pub import_type : Context → ImportItem → CoreItem
import_type c (imported.Func n) = func_item (slice_get c.types n)
import_type c (imported.Table t) = table_item t
import_type c (imported.Memory l) = Memory l
import_type c (imported.Global g) = global_item g

abbrev pub export_type : Context → List Limits → ExportItem → CoreItem
export_type c memories (exported.Func n) = func_item (function_type c n)
export_type c memories (exported.Table n) = found (option_map table_item (slice_get c.tables n))
export_type c memories (exported.Memory n) = found (option_map (λ x. Memory x) (slice_get memories n))
export_type c memories (exported.Global n) = found (option_map global_item (slice_get c.globals n))

abbrev pub core_import : Context → Import → CoreImport
core_import c i = record { «module» = i.«module»; name = i.name; item = import_type c i.item }

abbrev pub core_export : Context → List Limits → Export → CoreExport
core_export c memories e = record { name = e.name; item = export_type c memories e.item }

-- imports and exports in written order
abbrev pub type_of : Module → ModuleType
type_of m = record { imports = map (core_import (context m)) m.imports; exports = map (core_export (context m) (memories m)) m.exports }

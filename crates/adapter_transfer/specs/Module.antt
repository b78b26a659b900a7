-- A module of functions that are exported (WebAssembly Core 2.0, section 2.5).
use Rattle.std.specs.Prelude.{ℕ, suc, List, [], ◌∷◌, ◌++◌, map, None}
use Rattle.wasm_ast.specs.declared.module.Export.{Export}
use Rattle.wasm_ast.specs.declared.module.ExportItem.TheVariants as exported
use Rattle.wasm_ast.specs.declared.module.Module.{Module}
use Rattle.adapter_transfer.specs.declared.module.Defined.{Defined}
use Rattle.adapter_transfer.specs.declared.module.Parts.{Parts}

-- the exports of functions from this index on
abbrev pub exports_from : ℕ → List Defined → List Export
exports_from at [] = []
exports_from at (d ∷ ds) = record { name = d.name; item = exported.Func at } ∷ exports_from (suc at) ds

abbrev pub module_of : Parts → List Defined → Module
module_of p ds = record {
  types = p.types;
  imports = p.imports;
  functions = map (λ (d : Defined). d.ty) ds;
  tables = [];
  memories = p.memories;
  globals = p.globals;
  exports = p.exports ++ exports_from p.imported ds;
  start = None;
  elements = [];
  data_count = None;
  code = map (λ (d : Defined). d.body) ds;
  segments = p.segments;
}

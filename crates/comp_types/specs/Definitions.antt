-- The definitions of a section, in order.
use Rattle.std.specs.Prelude.{List, [], ◌∷◌, map}
use Rattle.wasm_ast.specs.declared.component.CoreInstance.{CoreInstance}
use Rattle.wasm_ast.specs.declared.component.Instance.{Instance}
use Rattle.wasm_ast.specs.declared.component.Alias.{Alias}
use Rattle.wasm_ast.specs.declared.component.Canon.{Canon}
use Rattle.wasm_ast.specs.declared.component.ComponentImport.{ComponentImport}
use Rattle.wasm_ast.specs.declared.component.ComponentExport.{ComponentExport}
use Rattle.comp_grammar.specs.Trees.{Part, CoreInstances, Instances, Aliases, Types, Canons, Imports, Exports}
use Rattle.comp_types.specs.Declarations.{Declaration, Declarations, Done, Then, grouped}

-- all but modules and components, which stand in sections of their own
pub data Definition : Type 0 where
  ACoreInstance : CoreInstance → Definition
  AnInstance : Instance → Definition
  AnAlias : Alias → Definition
  AType : Declaration → Definition
  ACanon : Canon → Definition
  AnImport : ComponentImport → Definition
  AnExport : ComponentExport → Definition

abbrev pub types_in : Declarations → List Definition
types_in Done = []
types_in (Then d ds) = AType d ∷ types_in ds

abbrev pub definitions : Part → List Definition
definitions (CoreInstances items) = map ACoreInstance items
definitions (Instances items) = map AnInstance items
definitions (Aliases items) = map AnAlias items
definitions (Types items) = types_in (grouped items)
definitions (Canons items) = map ACanon items
definitions (Imports items) = map AnImport items
definitions (Exports items) = map AnExport items
definitions _ = []

-- A component without imports that exports a function, a type, an instance and a resource of its own, and one that wraps it.
use Rattle.std.specs.Prelude.{ℕ, List, [], ◌∷◌, pos, codes, Some, None}
use Rattle.virt_base.specs.declared.core_type.CoreType.TheVariants.{I32}
use Rattle.wasm_ast.specs.declared.module.Module.{Module}
use Rattle.wasm_ast.specs.declared.module.ExportItem.TheVariants as exported
use Rattle.wasm_ast.specs.declared.instr.Instr.TheVariants.{Plain, End as EndOf}
use Rattle.wasm_ast.specs.declared.instr.Op.TheVariants.{I32Const}
use Rattle.wasm_ast.specs.declared.component.Span.{Span}
use Rattle.wasm_ast.specs.declared.component.CoreSort.TheVariants as core_sorts
use Rattle.wasm_ast.specs.declared.component.CoreInstance.TheVariants as core_instances
use Rattle.wasm_ast.specs.declared.component.Sort.{Sort}
use Rattle.wasm_ast.specs.declared.component.Sort.TheVariants as sorts
use Rattle.wasm_ast.specs.declared.component.Instance.TheVariants as instances
use Rattle.wasm_ast.specs.declared.component.Alias.TheVariants as aliases
use Rattle.wasm_ast.specs.declared.component.Primitive.TheVariants as primitives
use Rattle.wasm_ast.specs.declared.component.ValType.TheVariants as values
use Rattle.wasm_ast.specs.declared.component.TypeDef.TheVariants as defs
use Rattle.wasm_ast.specs.declared.component.TypeItem.TheVariants as items
use Rattle.wasm_ast.specs.declared.component.Canon.TheVariants as canons
use Rattle.wasm_ast.specs.declared.component.ComponentExport.{ComponentExport}
use Rattle.comp_grammar.specs.Trees.{Part, Tree, CoreModule, CoreInstances, Instances, Aliases, Types, Canons, Exports, End, More}
use Rattle.comp_inside.specs.Wrapping.{Handed, handing, wrapping}

abbrev pub tree : List Part → Tree
tree [] = End
tree (part ∷ parts) = More part (tree parts)

abbrev pub somewhere : Span
somewhere = record { from = 0; to = 0 }

-- one function, which answers 42, exported as f
abbrev pub answering : Module
answering = record {
  types = record { params = []; results = I32 ∷ [] } ∷ [];
  imports = [];
  functions = 0 ∷ [];
  tables = [];
  memories = [];
  globals = [];
  exports = record { name = codes "f"; item = exported.Func 0 } ∷ [];
  start = None;
  elements = [];
  data_count = None;
  code = record { locals = []; code = Plain (I32Const (pos 42)) ∷ EndOf ∷ [] } ∷ [];
  segments = [];
}

abbrev pub export : List ℕ → Sort → ℕ → ComponentExport
export name sort index = record { name = name; sort = sort; index = index; desc = None }

abbrev pub constant : Tree
constant = tree (
    CoreModule somewhere answering
    ∷ CoreInstances (core_instances.Instantiate 0 [] ∷ [])
    ∷ Aliases (aliases.CoreExport core_sorts.Func 0 (codes "f") ∷ [])
    ∷ Types (items.Define (defs.Func [] (Some (values.Primitive primitives.U32))) ∷ items.Define (defs.Primitive primitives.U32) ∷ items.Define (defs.Resource None) ∷ [])
    ∷ Canons (canons.Lift 0 [] 0 ∷ [])
    ∷ Instances (instances.Inline (record { name = codes "f"; sort = sorts.Func; index = 0 } ∷ []) ∷ [])
    ∷ Exports (export (codes "f") sorts.Func 0 ∷ export (codes "t") sorts.Type 1 ∷ export (codes "i") sorts.Instance 0 ∷ export (codes "r") sorts.Type 2 ∷ [])
    ∷ [])

-- in another order
abbrev pub handed : List Handed
handed = record { name = codes "i"; sort = sorts.Instance } ∷ record { name = codes "f"; sort = sorts.Func } ∷ record { name = codes "r"; sort = sorts.Type } ∷ record { name = codes "t"; sort = sorts.Type } ∷ []

abbrev pub wrapped : Tree
wrapped = wrapping somewhere constant (handing handed)

-- It makes the same instances, and exports nothing.
abbrev pub silent : Tree
silent = tree (
    CoreModule somewhere answering
    ∷ CoreInstances (core_instances.Instantiate 0 [] ∷ [])
    ∷ [])

-- without sections of aliases and exports, and with empty ones
abbrev pub silent_wrapped : Tree
silent_wrapped = wrapping somewhere silent End

abbrev pub silent_handed : Tree
silent_handed = wrapping somewhere silent (handing [])

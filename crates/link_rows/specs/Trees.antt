-- Small components, as trees.
use Rattle.std.specs.Prelude.{ℕ, List, [], ◌∷◌, ◌++◌, length, replicate, pos, codes, Option, Some, None}
use Rattle.virt_base.specs.declared.core_type.CoreType.TheVariants.{I32}
use Rattle.wasm_ast.specs.declared.module.CoreFunc.{CoreFunc}
use Rattle.wasm_ast.specs.declared.module.Import.{Import}
use Rattle.wasm_ast.specs.declared.module.ImportItem.TheVariants as imported
use Rattle.wasm_ast.specs.declared.module.ExportItem.TheVariants as exported
use Rattle.wasm_ast.specs.declared.module.Body.{Body}
use Rattle.wasm_ast.specs.declared.instr.Instr.{Instr}
use Rattle.wasm_ast.specs.declared.instr.Instr.TheVariants.{Plain, Call, End as EndOf}
use Rattle.wasm_ast.specs.declared.instr.Op.TheVariants.{LocalGet, I32Const}
use Rattle.wasm_ast.specs.declared.component.Span.{Span}
use Rattle.wasm_ast.specs.declared.component.CoreSort.TheVariants as core_sorts
use Rattle.wasm_ast.specs.declared.component.CoreExport.{CoreExport}
use Rattle.wasm_ast.specs.declared.component.CoreInstance.TheVariants as core_instances
use Rattle.wasm_ast.specs.declared.component.Sort.TheVariants as sorts
use Rattle.wasm_ast.specs.declared.component.Instance.{Instance}
use Rattle.wasm_ast.specs.declared.component.Instance.TheVariants as instances
use Rattle.wasm_ast.specs.declared.component.OuterSort.TheVariants as outer_sorts
use Rattle.wasm_ast.specs.declared.component.Alias.{Alias}
use Rattle.wasm_ast.specs.declared.component.Alias.TheVariants as aliases
use Rattle.wasm_ast.specs.declared.component.Primitive.TheVariants as primitives
use Rattle.wasm_ast.specs.declared.component.ValType.{ValType}
use Rattle.wasm_ast.specs.declared.component.ValType.TheVariants as values
use Rattle.wasm_ast.specs.declared.component.LabelType.{LabelType}
use Rattle.wasm_ast.specs.declared.component.ExternDesc.TheVariants as descs
use Rattle.wasm_ast.specs.declared.component.TypeDef.TheVariants as defs
use Rattle.wasm_ast.specs.declared.component.TypeItem.TheVariants as items
use Rattle.wasm_ast.specs.declared.component.Canon.TheVariants as canons
use Rattle.wasm_ast.specs.declared.component.ComponentExport.{ComponentExport}
use Rattle.comp_grammar.specs.Trees.{Part, Tree, CoreModule, Nested, CoreInstances, Instances, Aliases, Types, Canons, Imports, Exports, End, More}

abbrev pub tree : List Part → Tree
tree [] = End
tree (part ∷ parts) = More part (tree parts)

abbrev pub somewhere : Span
somewhere = record { from = 0; to = 0 }

abbrev pub a_number : ValType
a_number = values.Primitive primitives.U32

abbrev pub one_param : List LabelType
one_param = record { label = codes "x"; ty = a_number } ∷ []

-- ---- core modules, of functions of 32-bit parameters and results

abbrev pub core_type : ℕ → ℕ → CoreFunc
core_type params results = record { params = replicate params I32; results = replicate results I32 }

abbrev pub from_h : List ℕ → ℕ → Import
from_h name type = record { «module» = codes "h"; name = name; item = imported.Func type }

abbrev pub body : List Instr → Body
body is = record { locals = []; code = is ++ EndOf ∷ [] }

-- imports and one function, of the last type, that is exported as f
abbrev pub module_of : List CoreFunc → List Import → List Instr → Part
module_of types imports is = CoreModule somewhere (record {
  types = types;
  imports = imports;
  functions = length imports ∷ [];
  tables = [];
  memories = [];
  globals = [];
  exports = record { name = codes "f"; item = exported.Func (length imports) } ∷ [];
  start = None;
  elements = [];
  data_count = None;
  code = body is ∷ [];
  segments = [];
})

-- ---- definitions

-- an instance type with one function of this name
abbrev pub instance_type : List ℕ → List LabelType → Option ValType → Part
instance_type name params result = Types (items.Define (defs.Instance 2) ∷ items.Define (defs.Func params result) ∷ items.Export name (descs.Func 0) ∷ [])

abbrev pub import_h : Part
import_h = Imports (record { name = codes "h"; desc = descs.Instance 0 } ∷ [])

abbrev pub func_of : ℕ → List ℕ → Alias
func_of instance name = aliases.Export sorts.Func instance name

abbrev pub core_func_of : ℕ → Alias
core_func_of instance = aliases.CoreExport core_sorts.Func instance (codes "f")

abbrev pub core_named : List ℕ → ℕ → CoreExport
core_named name index = record { name = name; sort = core_sorts.Func; index = index }

abbrev pub given_core : List CoreExport → Part
given_core exports = CoreInstances (core_instances.Inline exports ∷ [])

-- the module with the core instance as h
abbrev pub with_core : ℕ → ℕ → Part
with_core m instance = CoreInstances (core_instances.Instantiate m (record { name = codes "h"; instance = instance } ∷ []) ∷ [])

-- the component with the instance as h
abbrev pub with_h : ℕ → ℕ → Instance
with_h component instance = instances.Instantiate component (record { name = codes "h"; sort = sorts.Instance; index = instance } ∷ [])

abbrev pub export_func : List ℕ → ℕ → ComponentExport
export_func name index = record { name = name; sort = sorts.Func; index = index; desc = None }

abbrev pub exports_f : ℕ → Part
exports_f index = Exports (export_func (codes "f") index ∷ [])

-- ---- reads the clock of h

abbrev pub reader : Tree
reader = tree (
    instance_type (codes "now") [] (Some a_number)
    ∷ import_h
    ∷ Aliases (func_of 0 (codes "now") ∷ [])
    ∷ Canons (canons.Lower 0 [] ∷ [])
    ∷ given_core (core_named (codes "now") 0 ∷ [])
    ∷ module_of (core_type 0 1 ∷ core_type 0 1 ∷ []) (from_h (codes "now") 0 ∷ []) (Call 0 ∷ [])
    ∷ with_core 0 0
    ∷ Aliases (core_func_of 1 ∷ [])
    ∷ Types (items.Define (defs.Func [] (Some a_number)) ∷ [])
    ∷ Canons (canons.Lift 1 [] 1 ∷ [])
    ∷ exports_f 1
    ∷ [])

-- ---- hands on what the reader does, which it makes twice; the second time by an outer alias, in a component between

abbrev pub between : Tree
between = tree (
    instance_type (codes "now") [] (Some a_number)
    ∷ import_h
    ∷ Aliases (aliases.Outer outer_sorts.Component 1 0 ∷ [])
    ∷ Instances (with_h 0 0 ∷ [])
    ∷ Aliases (func_of 1 (codes "f") ∷ [])
    ∷ exports_f 0
    ∷ [])

abbrev pub handing_on : Tree
handing_on = tree (
    instance_type (codes "now") [] (Some a_number)
    ∷ import_h
    ∷ Nested somewhere reader
    ∷ Nested somewhere between
    ∷ Instances (with_h 0 0 ∷ with_h 1 0 ∷ [])
    ∷ Aliases (func_of 2 (codes "f") ∷ [])
    ∷ exports_f 0
    ∷ [])

-- ---- a component with a resource, whose destructor tells h what a handle stands for, and one that makes a handle and drops it

abbrev pub maker : Tree
maker = tree (
    instance_type (codes "tell") one_param None
    ∷ import_h
    ∷ Aliases (func_of 0 (codes "tell") ∷ [])
    ∷ Canons (canons.Lower 0 [] ∷ [])
    ∷ given_core (core_named (codes "tell") 0 ∷ [])
    ∷ module_of (core_type 1 0 ∷ core_type 1 0 ∷ []) (from_h (codes "tell") 0 ∷ []) (Plain (LocalGet 0) ∷ Call 0 ∷ [])
    ∷ with_core 0 0
    ∷ Aliases (core_func_of 1 ∷ [])
    ∷ Types (items.Define (defs.Resource (Some 1)) ∷ [])
    ∷ Canons (canons.ResourceNew 1 ∷ [])
    ∷ given_core (core_named (codes "new") 2 ∷ [])
    ∷ module_of (core_type 1 1 ∷ core_type 0 1 ∷ []) (from_h (codes "new") 0 ∷ []) (Plain (I32Const (pos 42)) ∷ Call 0 ∷ [])
    ∷ with_core 1 2
    ∷ Aliases (core_func_of 3 ∷ [])
    ∷ Types (items.Define (defs.Own 1) ∷ items.Define (defs.Func [] (Some (values.Index 2))) ∷ [])
    ∷ Canons (canons.Lift 3 [] 3 ∷ [])
    ∷ Exports (record { name = codes "r"; sort = sorts.Type; index = 1; desc = None } ∷ export_func (codes "make") 1 ∷ [])
    ∷ [])

abbrev pub dropper : Tree
dropper = tree (
    instance_type (codes "tell") one_param None
    ∷ import_h
    ∷ Nested somewhere maker
    ∷ Instances (with_h 0 0 ∷ [])
    ∷ Aliases (aliases.Export sorts.Type 1 (codes "r") ∷ func_of 1 (codes "make") ∷ [])
    ∷ Canons (canons.Lower 0 [] ∷ canons.ResourceDrop 1 ∷ [])
    ∷ given_core (core_named (codes "make") 0 ∷ core_named (codes "drop") 1 ∷ [])
    ∷ module_of (core_type 0 1 ∷ core_type 1 0 ∷ core_type 0 0 ∷ []) (from_h (codes "make") 0 ∷ from_h (codes "drop") 1 ∷ []) (Call 0 ∷ Call 1 ∷ [])
    ∷ with_core 0 0
    ∷ Aliases (core_func_of 1 ∷ [])
    ∷ Types (items.Define (defs.Func [] None) ∷ [])
    ∷ Canons (canons.Lift 2 [] 2 ∷ [])
    ∷ exports_f 1
    ∷ [])

-- Small components of which an instance is called while it is made, or while it is entered, and one that keeps what it borrows.
use Rattle.std.specs.Prelude.{List, [], ◌∷◌, codes, pos, Some, None}
use Rattle.wasm_ast.specs.declared.instr.Instr.{Instr}
use Rattle.wasm_ast.specs.declared.instr.Instr.TheVariants.{Plain, Call}
use Rattle.wasm_ast.specs.declared.instr.Op.TheVariants.{LocalGet, I32Const, Drop}
use Rattle.wasm_ast.specs.declared.component.CoreInstance.TheVariants as core_instances
use Rattle.wasm_ast.specs.declared.component.Sort.TheVariants as sorts
use Rattle.wasm_ast.specs.declared.component.Instance.TheVariants as instances
use Rattle.wasm_ast.specs.declared.component.Alias.TheVariants as aliases
use Rattle.wasm_ast.specs.declared.component.ValType.TheVariants as values
use Rattle.wasm_ast.specs.declared.component.ExternDesc.TheVariants as descs
use Rattle.wasm_ast.specs.declared.component.TypeDef.TheVariants as defs
use Rattle.wasm_ast.specs.declared.component.TypeItem.TheVariants as items
use Rattle.wasm_ast.specs.declared.component.Canon.TheVariants as canons
use Rattle.comp_grammar.specs.Trees.{Part, Tree, CoreModule, Nested, CoreInstances, Instances, Aliases, Types, Canons, Exports}
use Rattle.link_rows.specs.Trees.{tree, somewhere, a_number, core_type, from_h, body, module_of, instance_type, import_h, func_of, core_func_of, core_named, given_core, with_core, with_h, export_func, exports_f}

abbrev pub nothing_to_nothing : Part
nothing_to_nothing = Types (items.Define (defs.Func [] None) ∷ [])

-- ---- lifts a function that reads the clock; the start function of its second module calls that

abbrev pub starts_so : List Instr → Part
starts_so is = CoreModule somewhere (record {
  types = core_type 0 1 ∷ core_type 0 0 ∷ [];
  imports = from_h (codes "now") 0 ∷ [];
  functions = 1 ∷ [];
  tables = [];
  memories = [];
  globals = [];
  exports = [];
  start = Some 1;
  elements = [];
  data_count = None;
  code = body is ∷ [];
  segments = [];
})

abbrev pub starting : Tree
starting = tree (
    instance_type (codes "now") [] (Some a_number)
    ∷ import_h
    ∷ Aliases (func_of 0 (codes "now") ∷ [])
    ∷ Canons (canons.Lower 0 [] ∷ [])
    ∷ given_core (core_named (codes "now") 0 ∷ [])
    ∷ module_of (core_type 0 1 ∷ core_type 0 1 ∷ []) (from_h (codes "now") 0 ∷ []) (Call 0 ∷ [])
    ∷ with_core 0 0
    ∷ Aliases (core_func_of 1 ∷ [])
    ∷ Types (items.Define (defs.Func [] (Some a_number)) ∷ [])
    ∷ Canons (canons.Lift 1 [] 1 ∷ canons.Lower 1 [] ∷ [])
    ∷ given_core (core_named (codes "now") 2 ∷ [])
    ∷ starts_so (Call 0 ∷ Plain Drop ∷ [])
    ∷ with_core 1 2
    ∷ exports_f 1
    ∷ [])

-- ---- hands a function of its own to a component in it, and calls that one, which calls the function

abbrev pub inner : Tree
inner = tree (
    instance_type (codes "back") [] None
    ∷ import_h
    ∷ Aliases (func_of 0 (codes "back") ∷ [])
    ∷ Canons (canons.Lower 0 [] ∷ [])
    ∷ given_core (core_named (codes "back") 0 ∷ [])
    ∷ module_of (core_type 0 0 ∷ core_type 0 0 ∷ []) (from_h (codes "back") 0 ∷ []) (Call 0 ∷ [])
    ∷ with_core 0 0
    ∷ Aliases (core_func_of 1 ∷ [])
    ∷ nothing_to_nothing
    ∷ Canons (canons.Lift 1 [] 1 ∷ [])
    ∷ exports_f 1
    ∷ [])

abbrev pub calling_back : Tree
calling_back = tree (
    module_of (core_type 0 0 ∷ []) [] []
    ∷ CoreInstances (core_instances.Instantiate 0 [] ∷ [])
    ∷ Aliases (core_func_of 0 ∷ [])
    ∷ nothing_to_nothing
    ∷ Canons (canons.Lift 0 [] 0 ∷ [])
    ∷ Nested somewhere inner
    ∷ Instances (instances.Inline (record { name = codes "back"; sort = sorts.Func; index = 0 } ∷ []) ∷ with_h 0 0 ∷ [])
    ∷ Aliases (func_of 1 (codes "f") ∷ [])
    ∷ Canons (canons.Lower 1 [] ∷ [])
    ∷ given_core (core_named (codes "in") 1 ∷ [])
    ∷ module_of (core_type 0 0 ∷ core_type 0 0 ∷ []) (from_h (codes "in") 0 ∷ []) (Call 0 ∷ [])
    ∷ with_core 1 1
    ∷ Aliases (core_func_of 2 ∷ [])
    ∷ Canons (canons.Lift 2 [] 0 ∷ [])
    ∷ exports_f 2
    ∷ [])

-- ---- a component with a resource, one that borrows a handle of it and runs this code, and one that lends

abbrev pub owning : Tree
owning = tree (
    Types (items.Define (defs.Resource None) ∷ [])
    ∷ Canons (canons.ResourceNew 0 ∷ [])
    ∷ given_core (core_named (codes "new") 0 ∷ [])
    ∷ module_of (core_type 1 1 ∷ core_type 0 1 ∷ []) (from_h (codes "new") 0 ∷ []) (Plain (I32Const (pos 42)) ∷ Call 0 ∷ [])
    ∷ with_core 0 0
    ∷ Aliases (core_func_of 1 ∷ [])
    ∷ Types (items.Define (defs.Own 0) ∷ items.Define (defs.Func [] (Some (values.Index 1))) ∷ [])
    ∷ Canons (canons.Lift 1 [] 2 ∷ [])
    ∷ Exports (record { name = codes "r"; sort = sorts.Type; index = 0; desc = None } ∷ export_func (codes "make") 0 ∷ [])
    ∷ [])

abbrev pub borrowing : List Instr → Tree
borrowing is = tree (
    Types (items.Define (defs.Instance 1) ∷ items.Export (codes "r") descs.Resource ∷ [])
    ∷ import_h
    ∷ Aliases (aliases.Export sorts.Type 0 (codes "r") ∷ [])
    ∷ Canons (canons.ResourceDrop 1 ∷ [])
    ∷ given_core (core_named (codes "drop") 0 ∷ [])
    ∷ module_of (core_type 1 0 ∷ core_type 1 0 ∷ []) (from_h (codes "drop") 0 ∷ []) is
    ∷ with_core 0 0
    ∷ Aliases (core_func_of 1 ∷ [])
    ∷ Types (items.Define (defs.Borrow 1) ∷ items.Define (defs.Func (record { label = codes "x"; ty = values.Index 2 } ∷ []) None) ∷ [])
    ∷ Canons (canons.Lift 1 [] 3 ∷ [])
    ∷ exports_f 0
    ∷ [])

abbrev pub lending : List Instr → Tree
lending is = tree (
    Nested somewhere owning
    ∷ Nested somewhere (borrowing is)
    ∷ Instances (instances.Instantiate 0 [] ∷ with_h 1 0 ∷ [])
    ∷ Aliases (func_of 0 (codes "make") ∷ func_of 1 (codes "f") ∷ [])
    ∷ Canons (canons.Lower 0 [] ∷ canons.Lower 1 [] ∷ [])
    ∷ given_core (core_named (codes "make") 0 ∷ core_named (codes "lend") 1 ∷ [])
    ∷ module_of (core_type 0 1 ∷ core_type 1 0 ∷ core_type 0 0 ∷ []) (from_h (codes "make") 0 ∷ from_h (codes "lend") 1 ∷ []) (Call 0 ∷ Call 1 ∷ [])
    ∷ with_core 0 0
    ∷ Aliases (core_func_of 1 ∷ [])
    ∷ nothing_to_nothing
    ∷ Canons (canons.Lift 2 [] 0 ∷ [])
    ∷ exports_f 2
    ∷ [])

abbrev pub drops_it : List Instr
drops_it = Plain (LocalGet 0) ∷ Call 0 ∷ []

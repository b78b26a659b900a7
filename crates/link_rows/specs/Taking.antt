-- A component that takes handles of a resource from the one to which it is plugged, and drops them. The resource has another number in
-- the whole than it has in that component alone.
use Rattle.std.specs.Prelude.{◌≡◌, ℕ, suc, [], ◌∷◌, pos, codes, Some, None}
use Rattle.wasm_ast.specs.declared.instr.Instr.TheVariants.{Plain, Call}
use Rattle.wasm_ast.specs.declared.instr.Op.TheVariants.{I32Const}
use Rattle.wasm_ast.specs.declared.component.Sort.TheVariants as sorts
use Rattle.wasm_ast.specs.declared.component.Instance.TheVariants as instances
use Rattle.wasm_ast.specs.declared.component.Alias.TheVariants as aliases
use Rattle.wasm_ast.specs.declared.component.ValType.TheVariants as values
use Rattle.wasm_ast.specs.declared.component.ExternDesc.TheVariants as descs
use Rattle.wasm_ast.specs.declared.component.TypeDef.TheVariants as defs
use Rattle.wasm_ast.specs.declared.component.TypeItem.TheVariants as items
use Rattle.wasm_ast.specs.declared.component.Canon.TheVariants as canons
use Rattle.host_port.specs.Calls.{Returned}
use Rattle.comp_grammar.specs.Trees.{Tree, Instances, Aliases, Types, Canons, Exports}
use Rattle.comp_joins.specs.Joining.{Joint, joining, Fits, Agree, itself, Closed}
use Rattle.link_rows.specs.Trees.{tree, somewhere, core_type, from_h, module_of, import_h, func_of, core_func_of, core_named, given_core, with_core, exports_f}
use Rattle.link_rows.specs.Rows.{runs}
use Rattle.link_rows.specs.Plugged.{as_h}

-- three resources, of which it exports the last, with a function that makes a handle of it
abbrev pub keeper : Tree
keeper = tree (
    Types (items.Define (defs.Resource None) ∷ items.Define (defs.Resource None) ∷ items.Define (defs.Resource None) ∷ [])
    ∷ Canons (canons.ResourceNew 2 ∷ [])
    ∷ given_core (core_named (codes "new") 0 ∷ [])
    ∷ module_of (core_type 1 1 ∷ core_type 0 1 ∷ []) (from_h (codes "new") 0 ∷ []) (Plain (I32Const (pos 42)) ∷ Call 0 ∷ [])
    ∷ with_core 0 0
    ∷ Aliases (core_func_of 1 ∷ [])
    ∷ Types (items.Define (defs.Own 2) ∷ items.Define (defs.Func [] (Some (values.Index 3))) ∷ [])
    ∷ Canons (canons.Lift 1 [] 4 ∷ [])
    ∷ Instances (instances.Inline (record { name = codes "r"; sort = sorts.Type; index = 2 } ∷ record { name = codes "make"; sort = sorts.Func; index = 0 } ∷ []) ∷ [])
    ∷ Exports (record { name = codes "h"; sort = sorts.Instance; index = 0; desc = None } ∷ [])
    ∷ [])

-- makes a handle and drops it; it has a resource of its own
abbrev pub taker : Tree
taker = tree (
    Types (items.Define (defs.Instance 4) ∷ items.Export (codes "r") descs.Resource ∷ items.Define (defs.Own 0) ∷ items.Define (defs.Func [] (Some (values.Index 1))) ∷ items.Export (codes "make") (descs.Func 2) ∷ [])
    ∷ import_h
    ∷ Aliases (aliases.Export sorts.Type 0 (codes "r") ∷ func_of 0 (codes "make") ∷ [])
    ∷ Types (items.Define (defs.Resource None) ∷ [])
    ∷ Canons (canons.Lower 0 [] ∷ canons.ResourceDrop 1 ∷ [])
    ∷ given_core (core_named (codes "make") 0 ∷ core_named (codes "drop") 1 ∷ [])
    ∷ module_of (core_type 0 1 ∷ core_type 1 0 ∷ core_type 0 0 ∷ []) (from_h (codes "make") 0 ∷ from_h (codes "drop") 1 ∷ []) (Call 0 ∷ Call 1 ∷ [])
    ∷ with_core 0 0
    ∷ Aliases (core_func_of 1 ∷ [])
    ∷ Types (items.Define (defs.Func [] None) ∷ [])
    ∷ Canons (canons.Lift 2 [] 3 ∷ [])
    ∷ exports_f 1
    ∷ [])

abbrev pub taking : Joint
taking = record {
  front = [];
  first_span = somewhere;
  first_args = [];
  between = Aliases (aliases.Export sorts.Instance 0 (codes "h") ∷ []) ∷ [];
  second_span = somewhere;
  second_args = as_h 1;
  behind = Aliases (func_of 2 (codes "f") ∷ []) ∷ exports_f 0 ∷ [];
}

pub record TakingExamples : Type 0 where
  pub dropped : runs (joining taking keeper taker) 100 ≡ Returned None ∷ []

-- the taker's number of the resource that it imports is 1, and that of its own is 2; the keeper has three resources, from 0 on
abbrev pub one_later : ℕ → ℕ
one_later r = suc r

pub record TakingPremises : Type 0 where
  pub fits : Fits taking keeper taker itself one_later
  pub agree : Agree (joining taking keeper taker) keeper taker itself one_later
  pub closed : Closed (joining taking keeper taker) keeper taker one_later

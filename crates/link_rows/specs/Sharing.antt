-- A component that takes one import from the component to which it is plugged, which exports more than that, and another one from the
-- host, as the whole does.
use Rattle.std.specs.Prelude.{◌≡◌, ℕ, List, [], ◌∷◌, pos, codes, Some, None}
use Rattle.wasm_ast.specs.declared.instr.Instr.TheVariants.{Plain, Call}
use Rattle.wasm_ast.specs.declared.instr.Op.TheVariants.{I32Const}
use Rattle.wasm_ast.specs.declared.component.CoreInstance.TheVariants as core_instances
use Rattle.wasm_ast.specs.declared.component.NamedItem.{NamedItem}
use Rattle.wasm_ast.specs.declared.component.Sort.TheVariants as sorts
use Rattle.wasm_ast.specs.declared.component.Instance.TheVariants as instances
use Rattle.wasm_ast.specs.declared.component.Alias.TheVariants as aliases
use Rattle.wasm_ast.specs.declared.component.ExternDesc.TheVariants as descs
use Rattle.wasm_ast.specs.declared.component.TypeDef.TheVariants as defs
use Rattle.wasm_ast.specs.declared.component.TypeItem.TheVariants as items
use Rattle.wasm_ast.specs.declared.component.Canon.TheVariants as canons
use Rattle.host_port.specs.Calls.{Returned}
use Rattle.comp_grammar.specs.Trees.{Tree, CoreInstances, Instances, Aliases, Types, Canons, Imports, Exports}
use Rattle.comp_inside.specs.Wrapping.{Handed}
use Rattle.comp_joins.specs.Joining.{Joint, joining, Fits, Agree, itself}
use Rattle.comp_joins.specs.Numbers.{Partners}
use Rattle.comp_joins.specs.Handing.{HandsOn}
use Rattle.link_rows.specs.Trees.{tree, somewhere, a_number, one_param, core_type, from_h, module_of, instance_type, import_h, func_of, core_func_of, core_named, given_core, with_core, exports_f}
use Rattle.link_rows.specs.Rows.{told, runs}

abbrev pub clock_at : List ℕ → ℕ → NamedItem
clock_at name index = record { name = name; sort = sorts.Func; index = index }

-- imports nothing, and exports an instance k with two clocks that stand still
abbrev pub still : Tree
still = tree (
    module_of (core_type 0 1 ∷ []) [] (Plain (I32Const (pos 42)) ∷ [])
    ∷ CoreInstances (core_instances.Instantiate 0 [] ∷ [])
    ∷ Aliases (core_func_of 0 ∷ [])
    ∷ Types (items.Define (defs.Func [] (Some a_number)) ∷ [])
    ∷ Canons (canons.Lift 0 [] 0 ∷ [])
    ∷ Instances (instances.Inline (clock_at (codes "now") 0 ∷ clock_at (codes "later") 0 ∷ []) ∷ [])
    ∷ Exports (record { name = codes "k"; sort = sorts.Instance; index = 0; desc = None } ∷ [])
    ∷ [])

-- reads the clock of k, and tells h
abbrev pub teller : Tree
teller = tree (
    instance_type (codes "tell") one_param None
    ∷ import_h
    ∷ instance_type (codes "now") [] (Some a_number)
    ∷ Imports (record { name = codes "k"; desc = descs.Instance 1 } ∷ [])
    ∷ Aliases (func_of 1 (codes "now") ∷ func_of 0 (codes "tell") ∷ [])
    ∷ Canons (canons.Lower 0 [] ∷ canons.Lower 1 [] ∷ [])
    ∷ given_core (core_named (codes "now") 0 ∷ core_named (codes "tell") 1 ∷ [])
    ∷ module_of (core_type 0 1 ∷ core_type 1 0 ∷ core_type 0 0 ∷ []) (from_h (codes "now") 0 ∷ from_h (codes "tell") 1 ∷ []) (Call 0 ∷ Call 1 ∷ [])
    ∷ with_core 0 0
    ∷ Aliases (core_func_of 1 ∷ [])
    ∷ Types (items.Define (defs.Func [] None) ∷ [])
    ∷ Canons (canons.Lift 2 [] 2 ∷ [])
    ∷ exports_f 2
    ∷ [])

-- The whole imports h for the second alone, and gives it as k an instance of the one clock that it imports.
abbrev pub sharing : Joint
sharing = record {
  front = instance_type (codes "tell") one_param None ∷ import_h ∷ [];
  first_span = somewhere;
  first_args = [];
  between = Aliases (aliases.Export sorts.Instance 1 (codes "k") ∷ func_of 2 (codes "now") ∷ []) ∷ Instances (instances.Inline (clock_at (codes "now") 0 ∷ []) ∷ []) ∷ [];
  second_span = somewhere;
  second_args = record { name = codes "h"; sort = sorts.Instance; index = 0 } ∷ record { name = codes "k"; sort = sorts.Instance; index = 3 } ∷ [];
  behind = Aliases (func_of 4 (codes "f") ∷ []) ∷ exports_f 1 ∷ [];
}

abbrev pub shared : Tree
shared = joining sharing still teller

pub record SharingExamples : Type 0 where
  pub tells : runs shared 100 ≡ told 42 ∷ Returned None ∷ []

pub record SharingPremises : Type 0 where
  pub fits : Fits sharing still teller itself itself
  pub agree : Agree shared still teller itself itself

-- and those of the laws by which such premises are met
abbrev pub handed : List Handed
handed = record { name = codes "f"; sort = sorts.Func } ∷ []

pub record SharingHands : Type 0 where
  pub hands : HandsOn sharing still teller 0 handed
  pub partners : Partners shared still teller [] []

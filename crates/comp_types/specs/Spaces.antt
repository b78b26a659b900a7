-- The index spaces of a component, or of an instance type, as the definitions so far have made them (Component Model,
-- Explainer.md, "Index Spaces").
use Rattle.std.specs.Prelude.{ℕ, List, [], ◌∷◌, ◌++◌, Bool, Option, Some, None, slice_get}
use Rattle.std.specs.Option.{option_map, option_and_then}
use Rattle.wasm_ast.specs.declared.module.CoreFunc.{CoreFunc}
use Rattle.wasm_ast.specs.declared.component.CoreSort.{CoreSort}
use Rattle.wasm_ast.specs.declared.component.CoreSort.TheVariants as core_sorts
use Rattle.wasm_ast.specs.declared.component.Sort.{Sort}
use Rattle.wasm_ast.specs.declared.component.Sort.TheVariants as sorts
use Rattle.core_validate.specs.declared.item.CoreItem.{CoreItem}
use Rattle.core_validate.specs.declared.item.CoreItem.TheVariants as core_items
use Rattle.core_validate.specs.declared.item.CoreExport.{CoreExport}
use Rattle.core_validate.specs.declared.item.ModuleType.{ModuleType}
use Rattle.wit_types.specs.Plain.{Name, PlainFunc}
use Rattle.comp_types.specs.Items.{Item, Kind, Entries, Signature, FuncItem, InstanceItem, KindItem, End, More}
use Rattle.comp_types.specs.Measures.{kind_depth}

-- a type, and how deep its definition is
pub record TypeEntry : Type 0 where
  pub kind : Kind
  pub depth : ℕ

-- a component, and those resources in its exports that no import gives
pub record NestedComponent : Type 0 where
  pub signature : Signature
  pub own : List ℕ

pub record Space : Type 0 where
  -- an instance type has scopes of its own, but stands in its component
  pub is_component : Bool
  pub core_functions : List CoreItem
  pub core_tables : List CoreItem
  pub core_memories : List CoreItem
  pub core_globals : List CoreItem
  pub core_modules : List ModuleType
  pub core_instances : List (List CoreExport)
  pub functions : List PlainFunc
  pub types : List TypeEntry
  pub instances : List Entries
  pub components : List NestedComponent
  -- what was imported and exported
  pub imports : Entries
  pub exports : Entries
  -- the resources that imports brought, and those that the component defines, or the instance type declares
  pub imported : List ℕ
  pub defined : List ℕ
  -- the depth of the deepest type that an instance type defines or exports
  pub deepest : ℕ
  -- the number of the next resource
  pub next : ℕ

abbrev pub empty_space : (is_component : Bool) → (next : ℕ) → Space
empty_space is_component next = record {
  is_component = is_component;
  core_functions = [];
  core_tables = [];
  core_memories = [];
  core_globals = [];
  core_modules = [];
  core_instances = [];
  functions = [];
  types = [];
  instances = [];
  components = [];
  imports = End;
  exports = End;
  imported = [];
  defined = [];
  deepest = 0;
  next = next;
}

-- ---- what stands at an index

abbrev pub core_space : Space → CoreSort → List CoreItem
core_space s core_sorts.Func = s.core_functions
core_space s core_sorts.Table = s.core_tables
core_space s core_sorts.Memory = s.core_memories
core_space s core_sorts.Global = s.core_globals

abbrev pub core_item_at : Space → CoreSort → ℕ → Option CoreItem
core_item_at s sort i = slice_get (core_space s sort) i

abbrev pub core_type_of : CoreItem → Option CoreFunc
core_type_of (core_items.Func ty) = Some ty
core_type_of _ = None

-- the type of a core function
abbrev pub core_func_at : Space → ℕ → Option CoreFunc
core_func_at s i = option_and_then core_type_of (slice_get s.core_functions i)

abbrev pub kind_at : Space → ℕ → Option Kind
kind_at s i = option_map (λ (e : TypeEntry). e.kind) (slice_get s.types i)

abbrev pub item_at : Space → Sort → ℕ → Option Item
item_at s sorts.Func i = option_map FuncItem (slice_get s.functions i)
item_at s sorts.Type i = option_map KindItem (kind_at s i)
item_at s sorts.Instance i = option_map InstanceItem (slice_get s.instances i)

-- ---- one more

abbrev pub and_core_item : Space → CoreItem → Space
and_core_item s (core_items.Func ty) = record s { core_functions = s.core_functions ++ core_items.Func ty ∷ [] }
and_core_item s (core_items.Table ty limits) = record s { core_tables = s.core_tables ++ core_items.Table ty limits ∷ [] }
and_core_item s (core_items.Memory limits) = record s { core_memories = s.core_memories ++ core_items.Memory limits ∷ [] }
and_core_item s (core_items.Global ty variable) = record s { core_globals = s.core_globals ++ core_items.Global ty variable ∷ [] }

abbrev pub and_type : Space → TypeEntry → Space
and_type s entry = record s { types = s.types ++ entry ∷ [] }

abbrev pub entry_of : Kind → TypeEntry
entry_of kind = record { kind = kind; depth = kind_depth kind }

abbrev pub and_item : Space → Item → Space
and_item s (FuncItem ty) = record s { functions = s.functions ++ ty ∷ [] }
and_item s (InstanceItem entries) = record s { instances = s.instances ++ entries ∷ [] }
and_item s (KindItem kind) = and_type s (entry_of kind)

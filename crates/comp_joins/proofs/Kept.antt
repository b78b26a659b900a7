-- Which definitions leave the core items of a component, and its modules, as they are.
use Rattle.std.proofs.Common.{◌≡◌, ◌∙◌, sym, refl, subst, ℕ, List, ◌∷◌, Option, Some, None}
use Rattle.std.specs.Prelude.{slice_get}
use Rattle.std.specs.Option.{option_and_then}
use Rattle.wasm_ast.specs.declared.component.CoreSort.{CoreSort}
use Rattle.wasm_ast.specs.declared.component.Sort.{Sort}
use Rattle.wasm_ast.specs.declared.component.Sort.TheVariants as sorts
use Rattle.wasm_ast.specs.declared.component.Instance.{Instance}
use Rattle.wasm_ast.specs.declared.component.Instance.TheVariants as instances
use Rattle.wasm_ast.specs.declared.component.OuterSort.{OuterSort}
use Rattle.wasm_ast.specs.declared.component.OuterSort.TheVariants as outer_sorts
use Rattle.wasm_ast.specs.declared.component.Alias.TheVariants as aliases
use Rattle.wasm_ast.specs.declared.component.TypeAlias.TheVariants as type_aliases
use Rattle.wasm_ast.specs.declared.component.TypeDef.{TypeDef}
use Rattle.wasm_ast.specs.declared.component.TypeDef.TheVariants as defs
use Rattle.wasm_ast.specs.declared.component.ExternDesc.{ExternDesc}
use Rattle.wasm_ast.specs.declared.component.ExternDesc.TheVariants as descs
use Rattle.wasm_ast.specs.declared.component.Canon.{Canon}
use Rattle.wasm_ast.specs.declared.component.Canon.TheVariants as canons
use Rattle.wasm_ast.specs.declared.component.ComponentExport.{ComponentExport}
use Rattle.core_validate.specs.declared.item.CoreItem.{CoreItem}
use Rattle.core_validate.specs.declared.item.CoreItem.TheVariants as core_items
use Rattle.core_validate.specs.declared.item.ModuleType.{ModuleType}
use Rattle.wit_types.specs.Plain.{Name}
use Rattle.comp_types.specs.Items.{Item, Entries, FuncItem, InstanceItem, KindItem, look_up}
use Rattle.comp_types.specs.Declarations.{Declaration, ATypeDef, AnInstanceType, ATypeAlias, ATypeExport}
use Rattle.comp_types.specs.Spaces.{Space, TypeEntry, NestedComponent, and_type, entry_of, and_item, item_at}
use Rattle.comp_types.specs.Types.{kind_of}
use Rattle.comp_types.specs.CoreMatching.{core_look_up}
use Rattle.comp_types.specs.Definitions.{AnInstance, AnAlias, AType, ACanon, AnImport, AnExport}
use Rattle.comp_types.specs.Added.{and_again, and_export_index, and_instantiated, and_some_item, and_some_core_item, and_some_type, and_some_module, and_some_component, and_outer, and_index, and_resource, after, named_items}
use Rattle.comp_link.specs.Linking.{Given, GivenFunc, GivenInstance, GivenResource, GivenType, Making, and_item as and_made, and_export}
use Rattle.comp_joins.proofs.Core.{Places, places_in, CoreTypes, core_of, CoreFits}

pub record Kept (s t : Space) : Type 0 where
  pub core : core_of t ≡ core_of s
  pub modules : t.core_modules ≡ s.core_modules

-- ---- the index spaces

stays : (s : Space) → Kept s s
stays s = record { core = refl; modules = refl }

with_item : (s : Space) (i : Item) → Kept s (and_item s i)
with_item s (FuncItem ty) = record { core = refl; modules = refl }
with_item s (InstanceItem entries) = record { core = refl; modules = refl }
with_item s (KindItem kind) = record { core = refl; modules = refl }

with_some_item : (s : Space) (o : Option Item) → Kept s (and_some_item s o)
with_some_item s None = stays s
with_some_item s (Some i) = with_item s i

with_some_type : (s : Space) (o : Option TypeEntry) → Kept s (and_some_type s o)
with_some_type s None = stays s
with_some_type s (Some e) = record { core = refl; modules = refl }

pub with_outer_type : (s : Space) (o : Option Space) (i : ℕ) → Kept s (and_outer s outer_sorts.Type o i)
with_outer_type s None i = stays s
with_outer_type s (Some scope) i = with_some_type s (slice_get scope.types i)

with_some_component : (s : Space) (o : Option NestedComponent) → Kept s (and_some_component s o)
with_some_component s None = stays s
with_some_component s (Some c) = record { core = refl; modules = refl }

pub with_outer_component : (s : Space) (o : Option Space) (i : ℕ) → Kept s (and_outer s outer_sorts.Component o i)
with_outer_component s None i = stays s
with_outer_component s (Some scope) i = with_some_component s (slice_get scope.components i)

some_module_core : (s : Space) (o : Option ModuleType) → core_of (and_some_module s o) ≡ core_of s
some_module_core s None = refl
some_module_core s (Some m) = refl

pub outer_core : (s : Space) (sort : OuterSort) (o : Option Space) (i : ℕ) → core_of (and_outer s sort o i) ≡ core_of s
outer_core s outer_sorts.Type o i = (with_outer_type s o i).core
outer_core s outer_sorts.Component o i = (with_outer_component s o i).core
outer_core s outer_sorts.CoreModule None i = refl
outer_core s outer_sorts.CoreModule (Some scope) i = some_module_core s (slice_get scope.core_modules i)

with_instantiated : (s : Space) (o : Option NestedComponent) (args : Entries) → Kept s (and_instantiated s o args)
with_instantiated s None args = record { core = refl; modules = refl }
with_instantiated s (Some c) args = record { core = refl; modules = refl }

pub with_instance : (around : List Space) (s : Space) (i : Instance) → Kept s (after around s (AnInstance i))
with_instance around s (instances.Instantiate c args) = with_instantiated s (slice_get s.components c) (named_items s args)
with_instance around s (instances.Inline exports) = record { core = refl; modules = refl }

pub with_alias : (around : List Space) (s : Space) (sort : Sort) (i : ℕ) (name : Name) → Kept s (after around s (AnAlias (aliases.Export sort i name)))
with_alias around s sort i name = with_some_item s (option_and_then (look_up name) (slice_get s.instances i))

core_item_modules : (s : Space) (o : Option CoreItem) → (and_some_core_item s o).core_modules ≡ s.core_modules
core_item_modules s None = refl
core_item_modules s (Some (core_items.Func ty)) = refl
core_item_modules s (Some (core_items.Table ty limits)) = refl
core_item_modules s (Some (core_items.Memory limits)) = refl
core_item_modules s (Some (core_items.Global ty variable)) = refl

pub core_alias_modules : (around : List Space) (s : Space) (sort : CoreSort) (i : ℕ) (name : Name) → (after around s (AnAlias (aliases.CoreExport sort i name))).core_modules ≡ s.core_modules
core_alias_modules around s sort i name = core_item_modules s (option_and_then (core_look_up name) (slice_get s.core_instances i))

pub canon_modules : (around : List Space) (s : Space) (c : Canon) → (after around s (ACanon c)).core_modules ≡ s.core_modules
canon_modules around s (canons.Lift func options ty) = refl
canon_modules around s (canons.Lower func options) = refl
canon_modules around s (canons.ResourceNew ty) = refl
canon_modules around s (canons.ResourceDrop ty) = refl
canon_modules around s (canons.ResourceRep ty) = refl

with_index : (s : Space) (d : ExternDesc) → Kept s (and_index s d)
with_index s (descs.Func i) = record { core = refl; modules = refl }
with_index s (descs.TypeEq i) = with_some_type s (slice_get s.types i)
with_index s descs.Resource = record { core = refl; modules = refl }
with_index s (descs.Instance i) = record { core = refl; modules = refl }

-- the index spaces with what has nothing of core items beside it
beside : (s t u : Space) → core_of u ≡ core_of t → u.core_modules ≡ t.core_modules → Kept s t → Kept s u
beside s t u c m k = record { core = c ∙ k.core; modules = m ∙ k.modules }

pub with_import : (around : List Space) (s : Space) (name : Name) (d : ExternDesc) → Kept s (after around s (AnImport (record { name = name; desc = d })))
with_import around s name d = beside s (and_index s d) (after around s (AnImport (record { name = name; desc = d }))) refl refl (with_index s d)

with_again : (s : Space) (sort : Sort) (i : ℕ) → Kept s (and_again s sort i)
with_again s sorts.Type i = with_some_type s (slice_get s.types i)
with_again s sorts.Func i = with_some_item s (item_at s sorts.Func i)
with_again s sorts.Instance i = with_some_item s (item_at s sorts.Instance i)

export_kept : (s : Space) (e : ComponentExport) (desc : Option ExternDesc) → Kept s (and_export_index s e desc)
export_kept s e None = with_again s e.sort e.index
export_kept s e (Some desc) = beside s (and_index s desc) (and_export_index s e (Some desc)) refl refl (with_index s desc)

pub with_export : (around : List Space) (s : Space) (e : ComponentExport) → Kept s (after around s (AnExport e))
with_export around s e = beside s (and_export_index s e e.desc) (after around s (AnExport e)) refl refl (export_kept s e e.desc)

with_resource : (s : Space) (d : TypeDef) → Kept s (and_resource s d)
with_resource s (defs.Resource destructor) = record { core = refl; modules = refl }
with_resource s d = stays s

pub with_declaration : (around : List Space) (s : Space) (d : Declaration) → Kept s (after around s (AType d))
with_declaration around s (ATypeDef d) =
    let t : Space = and_type s (entry_of (kind_of s d)) in
    beside s (and_resource t d) (after around s (AType (ATypeDef d))) refl refl (beside s t (and_resource t d) (with_resource t d).core (with_resource t d).modules (record { core = refl; modules = refl }))
with_declaration around s (AnInstanceType ds) = record { core = refl; modules = refl }
with_declaration around s (ATypeAlias (type_aliases.Export i name)) = with_some_item s (option_and_then (look_up name) (slice_get s.instances i))
with_declaration around s (ATypeAlias (type_aliases.Outer count i)) = with_outer_type s (slice_get (s ∷ around) count) i
with_declaration around s (ATypeExport name desc) = beside s (and_index s desc) (after around s (AType (ATypeExport name desc))) refl refl (with_index s desc)

-- ---- a component as it is made

pub made_places : (m : Making) (o : Option Given) → places_in (and_made m o) ≡ places_in m
made_places m None = refl
made_places m (Some (GivenFunc target)) = refl
made_places m (Some (GivenInstance items)) = refl
made_places m (Some (GivenResource r)) = refl
made_places m (Some GivenType) = refl

pub exported_places : (m : Making) (name : Name) (o : Option Given) (stated : Option Item) → places_in (and_export m name o stated) ≡ places_in m
exported_places m name None stated = refl
exported_places m name (Some given) stated = made_places m (Some given)

pub same_core : (p q : Places) (t u : CoreTypes) → q ≡ p → u ≡ t → CoreFits p t → CoreFits q u
same_core p q t u e f h = subst (λ z. CoreFits z u) (sym e) (subst (CoreFits p) (sym f) h)

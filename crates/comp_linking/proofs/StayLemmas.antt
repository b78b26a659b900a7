-- Only components and outer aliases of components add to the components of an index space.
use Rattle.std.proofs.Common.{◌≡◌, refl, ℕ, List, Option, Some, None, slice_get}
use Rattle.std.specs.Option.{option_and_then}
use Rattle.wasm_ast.specs.declared.component.CoreSort.{CoreSort}
use Rattle.wasm_ast.specs.declared.component.Sort.{Sort}
use Rattle.wasm_ast.specs.declared.component.Sort.TheVariants as sorts
use Rattle.wasm_ast.specs.declared.component.Instance.{Instance}
use Rattle.wasm_ast.specs.declared.component.Instance.TheVariants as instances
use Rattle.wasm_ast.specs.declared.component.Alias.TheVariants.{Export, CoreExport}
use Rattle.wasm_ast.specs.declared.component.Canon.{Canon}
use Rattle.wasm_ast.specs.declared.component.Canon.TheVariants as canons
use Rattle.wasm_ast.specs.declared.component.ComponentImport.{ComponentImport}
use Rattle.wasm_ast.specs.declared.component.ComponentExport.{ComponentExport}
use Rattle.wasm_ast.specs.declared.component.ExternDesc.{ExternDesc}
use Rattle.wasm_ast.specs.declared.component.ExternDesc.TheVariants as descs
use Rattle.core_validate.specs.declared.item.CoreItem.{CoreItem}
use Rattle.core_validate.specs.declared.item.CoreItem.TheVariants as core_items
use Rattle.comp_types.specs.Items.{Item, Entries, FuncItem, InstanceItem, KindItem, look_up}
use Rattle.comp_types.specs.Spaces.{Space, TypeEntry, NestedComponent, and_item, item_at}
use Rattle.comp_types.specs.CoreMatching.{core_look_up}
use Rattle.comp_types.specs.Definitions.{AnInstance, AnAlias, ACanon, AnImport, AnExport}
use Rattle.comp_types.specs.Added.{after, and_some_item, and_some_core_item, and_some_type, and_index, and_instantiated, and_again, and_export_index, named_items}

item_stays : (s : Space) (i : Item) → (and_item s i).components ≡ s.components
item_stays s (FuncItem ty) = refl
item_stays s (InstanceItem entries) = refl
item_stays s (KindItem kind) = refl

pub some_item_stays : (s : Space) (o : Option Item) → (and_some_item s o).components ≡ s.components
some_item_stays s None = refl
some_item_stays s (Some i) = item_stays s i

some_core_item_stays : (s : Space) (o : Option CoreItem) → (and_some_core_item s o).components ≡ s.components
some_core_item_stays s None = refl
some_core_item_stays s (Some (core_items.Func ty)) = refl
some_core_item_stays s (Some (core_items.Table ty limits)) = refl
some_core_item_stays s (Some (core_items.Memory limits)) = refl
some_core_item_stays s (Some (core_items.Global ty variable)) = refl

some_type_stays : (s : Space) (o : Option TypeEntry) → (and_some_type s o).components ≡ s.components
some_type_stays s None = refl
some_type_stays s (Some e) = refl

pub index_stays : (s : Space) (d : ExternDesc) → (and_index s d).components ≡ s.components
index_stays s (descs.Func i) = refl
index_stays s (descs.TypeEq i) = some_type_stays s (slice_get s.types i)
index_stays s descs.Resource = refl
index_stays s (descs.Instance i) = refl

instantiated_stays : (s : Space) (o : Option NestedComponent) (args : Entries) → (and_instantiated s o args).components ≡ s.components
instantiated_stays s None args = refl
instantiated_stays s (Some c) args = refl

again_stays : (s : Space) (sort : Sort) (i : ℕ) → (and_again s sort i).components ≡ s.components
again_stays s sorts.Type i = some_type_stays s (slice_get s.types i)
again_stays s sorts.Func i = some_item_stays s (item_at s sorts.Func i)
again_stays s sorts.Instance i = some_item_stays s (item_at s sorts.Instance i)

export_index_stays : (s : Space) (e : ComponentExport) (o : Option ExternDesc) → (and_export_index s e o).components ≡ s.components
export_index_stays s e None = again_stays s e.sort e.index
export_index_stays s e (Some desc) = index_stays s desc

-- ---- definitions

pub instance_stays : (around : List Space) (s : Space) (i : Instance) → (after around s (AnInstance i)).components ≡ s.components
instance_stays around s (instances.Instantiate c args) = instantiated_stays s (slice_get s.components c) (named_items s args)
instance_stays around s (instances.Inline exports) = refl

pub export_alias_stays : (around : List Space) (s : Space) (sort : Sort) (i : ℕ) (name : List ℕ) → (after around s (AnAlias (Export sort i name))).components ≡ s.components
export_alias_stays around s sort i name = some_item_stays s (option_and_then (look_up name) (slice_get s.instances i))

pub core_alias_stays : (around : List Space) (s : Space) (sort : CoreSort) (i : ℕ) (name : List ℕ) → (after around s (AnAlias (CoreExport sort i name))).components ≡ s.components
core_alias_stays around s sort i name = some_core_item_stays s (option_and_then (core_look_up name) (slice_get s.core_instances i))

pub canon_stays : (around : List Space) (s : Space) (c : Canon) → (after around s (ACanon c)).components ≡ s.components
canon_stays around s (canons.Lift func options ty) = refl
canon_stays around s (canons.Lower func options) = refl
canon_stays around s (canons.ResourceNew ty) = refl
canon_stays around s (canons.ResourceDrop ty) = refl
canon_stays around s (canons.ResourceRep ty) = refl

pub import_stays : (around : List Space) (s : Space) (i : ComponentImport) → (after around s (AnImport i)).components ≡ s.components
import_stays around s i = index_stays s i.desc

pub export_stays : (around : List Space) (s : Space) (e : ComponentExport) → (after around s (AnExport e)).components ≡ s.components
export_stays around s e = export_index_stays s e e.desc

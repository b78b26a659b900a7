-- A definition that is judged in the innermost scope is judged with those around it: none makes another kind of scope of it.
use Rattle.std.proofs.Common.{◌≡◌, ◌∙◌, ap, sym, refl, ℕ, List, ◌∷◌, Option, Some, None, slice_get}
use Rattle.std.specs.Prelude.{◌+◌, if◌then◌else◌}
use Rattle.std.specs.Option.{option_and_then}
use Rattle.wasm_ast.specs.declared.component.TypeDef.{TypeDef}
use Rattle.wasm_ast.specs.declared.component.TypeDef.TheVariants as defs
use Rattle.wasm_ast.specs.declared.component.TypeAlias.TheVariants as type_aliases
use Rattle.wasm_ast.specs.declared.component.Alias.{Alias}
use Rattle.wasm_ast.specs.declared.component.Alias.TheVariants as aliases
use Rattle.wasm_ast.specs.declared.component.OuterSort.{OuterSort}
use Rattle.wasm_ast.specs.declared.component.OuterSort.TheVariants as outer_sorts
use Rattle.wasm_ast.specs.declared.component.Sort.{Sort}
use Rattle.wasm_ast.specs.declared.component.Sort.TheVariants as sorts
use Rattle.wasm_ast.specs.declared.component.Instance.TheVariants as instances
use Rattle.wasm_ast.specs.declared.component.Canon.TheVariants as canons
use Rattle.wasm_ast.specs.declared.component.ComponentExport.{ComponentExport}
use Rattle.wasm_ast.specs.declared.component.ExternDesc.{ExternDesc}
use Rattle.wasm_ast.specs.declared.component.ExternDesc.TheVariants as descs
use Rattle.core_validate.specs.declared.item.CoreItem.{CoreItem}
use Rattle.core_validate.specs.declared.item.CoreItem.TheVariants as core_items
use Rattle.core_validate.specs.declared.item.ModuleType.{ModuleType}
use Rattle.comp_types.specs.Items.{Item, Entries, FuncItem, InstanceItem, KindItem, look_up}
use Rattle.comp_types.specs.Declarations.{Declaration, ATypeDef, AnInstanceType, ATypeAlias, ATypeExport}
use Rattle.comp_types.specs.Spaces.{Space, TypeEntry, NestedComponent, and_item, and_type, entry_of, item_at}
use Rattle.comp_types.specs.Types.{kind_of}
use Rattle.comp_types.specs.CoreMatching.{core_look_up}
use Rattle.comp_types.specs.Definitions.{Definition, ACoreInstance, AnInstance, AnAlias, AType, ACanon, AnImport, AnExport}
use Rattle.comp_types.specs.Added.{after, after_declaration, and_resource, and_some_item, and_some_core_item, and_some_type, and_some_module, and_some_component, and_outer, and_index, and_instantiated, and_again, and_export_index, and_alias, named_items}
use Rattle.comp_scopes.specs.declared.scope.Scope.{Scope}
use Rattle.comp_scopes.specs.Stands.{Stands}
use Rattle.comp_scopes.specs.Judged.{Judged}
use Rattle.comp_defining.specs.declared.scopes.Scopes.{Scopes}
use Rattle.comp_defining.specs.Around.{border, StandAll}
use Rattle.comp_defining.specs.Judged.{JudgedIn}
use Rattle.type_table.specs.Tables.{Types}
use Rattle.type_table.specs.Covers.{CoversEach}
use Rattle.type_table.specs.Anew.{Makes}
use Rattle.type_table.proofs.ScopeLaws.{covers_after, each_grew}

-- ---- what is added

item-stays : (s : Space) (i : Item) → (and_item s i).is_component ≡ s.is_component
item-stays s (FuncItem ty) = refl
item-stays s (InstanceItem entries) = refl
item-stays s (KindItem kind) = refl

some_item-stays : (s : Space) (o : Option Item) → (and_some_item s o).is_component ≡ s.is_component
some_item-stays s None = refl
some_item-stays s (Some i) = item-stays s i

some_core_item-stays : (s : Space) (o : Option CoreItem) → (and_some_core_item s o).is_component ≡ s.is_component
some_core_item-stays s None = refl
some_core_item-stays s (Some (core_items.Func ty)) = refl
some_core_item-stays s (Some (core_items.Table ty limits)) = refl
some_core_item-stays s (Some (core_items.Memory limits)) = refl
some_core_item-stays s (Some (core_items.Global ty variable)) = refl

some_type-stays : (s : Space) (o : Option TypeEntry) → (and_some_type s o).is_component ≡ s.is_component
some_type-stays s None = refl
some_type-stays s (Some e) = refl

some_module-stays : (s : Space) (o : Option ModuleType) → (and_some_module s o).is_component ≡ s.is_component
some_module-stays s None = refl
some_module-stays s (Some m) = refl

some_component-stays : (s : Space) (o : Option NestedComponent) → (and_some_component s o).is_component ≡ s.is_component
some_component-stays s None = refl
some_component-stays s (Some c) = refl

pub outer-stays : (s : Space) (sort : OuterSort) (o : Option Space) (i : ℕ) → (and_outer s sort o i).is_component ≡ s.is_component
outer-stays s sort None i = refl
outer-stays s outer_sorts.CoreModule (Some t) i = some_module-stays s (slice_get t.core_modules i)
outer-stays s outer_sorts.Type (Some t) i = some_type-stays s (slice_get t.types i)
outer-stays s outer_sorts.Component (Some t) i = some_component-stays s (slice_get t.components i)

index-stays : (s : Space) (d : ExternDesc) → (and_index s d).is_component ≡ s.is_component
index-stays s (descs.Func i) = refl
index-stays s (descs.TypeEq i) = some_type-stays s (slice_get s.types i)
index-stays s descs.Resource = refl
index-stays s (descs.Instance i) = refl

resource-stays : (s : Space) (d : TypeDef) → (and_resource s d).is_component ≡ s.is_component
resource-stays s (defs.Resource destructor) = refl
resource-stays s _ = refl

instantiated-stays : (s : Space) (o : Option NestedComponent) (args : Entries) → (and_instantiated s o args).is_component ≡ s.is_component
instantiated-stays s None args = refl
instantiated-stays s (Some c) args = refl

again-stays : (s : Space) (sort : Sort) (i : ℕ) → (and_again s sort i).is_component ≡ s.is_component
again-stays s sorts.Type i = some_type-stays s (slice_get s.types i)
again-stays s sorts.Func i = some_item-stays s (item_at s sorts.Func i)
again-stays s sorts.Instance i = some_item-stays s (item_at s sorts.Instance i)

-- ---- definitions

declaration-stays : (around : List Space) (s : Space) (d : Declaration) → (after_declaration around s d).is_component ≡ s.is_component
declaration-stays around s (ATypeDef d) = resource-stays (and_type s (entry_of (kind_of s d))) d
declaration-stays around s (AnInstanceType ds) = refl
declaration-stays around s (ATypeAlias (type_aliases.Export i name)) = some_item-stays s (option_and_then (look_up name) (slice_get s.instances i))
declaration-stays around s (ATypeAlias (type_aliases.Outer count i)) = outer-stays s outer_sorts.Type (slice_get (s ∷ around) count) i
declaration-stays around s (ATypeExport name desc) = index-stays s desc

alias-stays : (around : List Space) (s : Space) (a : Alias) → (and_alias around s a).is_component ≡ s.is_component
alias-stays around s (aliases.Export sort i name) = some_item-stays s (option_and_then (look_up name) (slice_get s.instances i))
alias-stays around s (aliases.CoreExport sort i name) = some_core_item-stays s (option_and_then (core_look_up name) (slice_get s.core_instances i))
alias-stays around s (aliases.Outer sort count i) = outer-stays s sort (slice_get (s ∷ around) count) i

export-stays : (s : Space) (e : ComponentExport) (o : Option ExternDesc) → (and_export_index s e o).is_component ≡ s.is_component
export-stays s e None = again-stays s e.sort e.index
export-stays s e (Some desc) = index-stays s desc

pub component-stays : (around : List Space) (s : Space) (d : Definition) → (after around s d).is_component ≡ s.is_component
component-stays around s (ACoreInstance i) = refl
component-stays around s (AnInstance (instances.Instantiate c args)) = instantiated-stays s (slice_get s.components c) (named_items s args)
component-stays around s (AnInstance (instances.Inline exports)) = refl
component-stays around s (AnAlias a) = alias-stays around s a
component-stays around s (AType d) = declaration-stays around s d
component-stays around s (ACanon (canons.Lift func options ty)) = refl
component-stays around s (ACanon (canons.Lower func options)) = refl
component-stays around s (ACanon (canons.ResourceNew ty)) = refl
component-stays around s (ACanon (canons.ResourceDrop ty)) = refl
component-stays around s (ACanon (canons.ResourceRep ty)) = refl
component-stays around s (AnImport i) = index-stays s i.desc
component-stays around s (AnExport e) = export-stays s e e.desc

-- ---- the innermost scope

pub inner_stands : (around : List Space) (s t : Space) (x : Scopes) (y : Scope) (types : Types) → StandAll around s x → Stands t y → t.is_component ≡ s.is_component → CoversEach types (t ∷ around) → StandAll around t (record x { inner = y; types = types })
inner_stands around s t x y types h k e covered = record {
  inner = k;
  inside = h.inside ∙ ap (λ b. if b then 0 else border around + 1) (sym e);
  outer = h.outer;
  covered = covered;
}

pub judged_inner : (around : List Space) (s : Space) (d : Definition) (x : Scopes) (y : Scope) (types : Types) (rule : Option ℕ) → StandAll around s x → Makes x.types types s d rule → Judged around s d y rule
    → JudgedIn around s d (record x { inner = y; types = types }) rule
judged_inner around s d x y types None h made k =
    let covered = each_grew x.types types (s ∷ around) made.0 h.covered in
    (k.0, inner_stands around s (after around s d) x y types h k.1 (component-stays around s d) (covers_after types around s d covered.0 covered.1 (made.1 refl), covered.1))
judged_inner around s d x y types (Some rule) h made k = k

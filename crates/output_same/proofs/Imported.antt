-- A component whose type imports nothing has brought no resource by imports.
use Rattle.std.proofs.Common.{◌≡◌, ◌∙◌, sym, refl, ℕ, List, [], ◌∷◌, Option, Some, None}
use Rattle.std.specs.Prelude.{slice_get}
use Rattle.std.specs.Option.{option_and_then}
use Rattle.wasm_ast.specs.declared.component.Sort.{Sort}
use Rattle.wasm_ast.specs.declared.component.Sort.TheVariants as sorts
use Rattle.wasm_ast.specs.declared.component.Instance.{Instance}
use Rattle.wasm_ast.specs.declared.component.Instance.TheVariants as instances
use Rattle.wasm_ast.specs.declared.component.OuterSort.{OuterSort}
use Rattle.wasm_ast.specs.declared.component.OuterSort.TheVariants as outer_sorts
use Rattle.wasm_ast.specs.declared.component.Alias.{Alias}
use Rattle.wasm_ast.specs.declared.component.Alias.TheVariants as aliases
use Rattle.wasm_ast.specs.declared.component.TypeAlias.{TypeAlias}
use Rattle.wasm_ast.specs.declared.component.TypeAlias.TheVariants as type_aliases
use Rattle.wasm_ast.specs.declared.component.TypeDef.{TypeDef}
use Rattle.wasm_ast.specs.declared.component.TypeDef.TheVariants as defs
use Rattle.wasm_ast.specs.declared.component.ExternDesc.{ExternDesc}
use Rattle.wasm_ast.specs.declared.component.ExternDesc.TheVariants as descs
use Rattle.wasm_ast.specs.declared.component.Canon.{Canon}
use Rattle.wasm_ast.specs.declared.component.Canon.TheVariants as canons
use Rattle.wasm_ast.specs.declared.component.ComponentExport.{ComponentExport}
use Rattle.core_validate.specs.declared.item.CoreItem.{CoreItem}
use Rattle.core_validate.specs.declared.item.CoreItem.TheVariants as core_items
use Rattle.core_validate.specs.declared.item.ModuleType.{ModuleType}
use Rattle.wit_types.specs.Plain.{Name}
use Rattle.comp_types.specs.Items.{Item, Entries, FuncItem, InstanceItem, KindItem, End, More, look_up, and_entry}
use Rattle.comp_grammar.specs.Trees.{Part, Tree, CoreModule, Nested, CoreInstances, Instances, Aliases, Types, Canons, Imports, Exports, Custom, End as NoSection, More as Section}
use Rattle.comp_types.specs.Declarations.{Declaration, ATypeDef, AnInstanceType, ATypeAlias, ATypeExport}
use Rattle.comp_types.specs.Spaces.{Space, TypeEntry, NestedComponent, and_core_item, and_type, entry_of, and_item, item_at}
use Rattle.comp_types.specs.Types.{kind_of}
use Rattle.comp_types.specs.CoreMatching.{core_look_up}
use Rattle.comp_types.specs.Definitions.{Definition, ACoreInstance, AnInstance, AnAlias, AType, ACanon, AnImport, AnExport, definitions}
use Rattle.comp_types.specs.Added.{and_again, and_export_index, and_instantiated, and_some_item, and_some_core_item, and_some_type, and_some_module, and_some_component, and_outer, described, and_index, and_resource, after, after_all, after_part, after_tree, root, named_items}

-- ---- all definitions but imports leave what was imported as it is

abbrev Kept : Space → Space → Type 0
Kept s t = (t.imports ≡ s.imports) × (t.imported ≡ s.imported)

with_item : (s : Space) (i : Item) → Kept s (and_item s i)
with_item s (FuncItem ty) = (refl, refl)
with_item s (InstanceItem entries) = (refl, refl)
with_item s (KindItem kind) = (refl, refl)

with_some_item : (s : Space) (o : Option Item) → Kept s (and_some_item s o)
with_some_item s None = (refl, refl)
with_some_item s (Some i) = with_item s i

with_core_item : (s : Space) (i : CoreItem) → Kept s (and_core_item s i)
with_core_item s (core_items.Func ty) = (refl, refl)
with_core_item s (core_items.Table ty limits) = (refl, refl)
with_core_item s (core_items.Memory limits) = (refl, refl)
with_core_item s (core_items.Global ty variable) = (refl, refl)

with_some_core_item : (s : Space) (o : Option CoreItem) → Kept s (and_some_core_item s o)
with_some_core_item s None = (refl, refl)
with_some_core_item s (Some i) = with_core_item s i

with_some_type : (s : Space) (o : Option TypeEntry) → Kept s (and_some_type s o)
with_some_type s None = (refl, refl)
with_some_type s (Some e) = (refl, refl)

with_some_module : (s : Space) (o : Option ModuleType) → Kept s (and_some_module s o)
with_some_module s None = (refl, refl)
with_some_module s (Some m) = (refl, refl)

with_some_component : (s : Space) (o : Option NestedComponent) → Kept s (and_some_component s o)
with_some_component s None = (refl, refl)
with_some_component s (Some c) = (refl, refl)

with_outer : (s : Space) (sort : OuterSort) (o : Option Space) (i : ℕ) → Kept s (and_outer s sort o i)
with_outer s sort None i = (refl, refl)
with_outer s outer_sorts.CoreModule (Some scope) i = with_some_module s (slice_get scope.core_modules i)
with_outer s outer_sorts.Type (Some scope) i = with_some_type s (slice_get scope.types i)
with_outer s outer_sorts.Component (Some scope) i = with_some_component s (slice_get scope.components i)

with_instantiated : (s : Space) (o : Option NestedComponent) (args : Entries) → Kept s (and_instantiated s o args)
with_instantiated s None args = (refl, refl)
with_instantiated s (Some c) args = (refl, refl)

with_instance : (around : List Space) (s : Space) (i : Instance) → Kept s (after around s (AnInstance i))
with_instance around s (instances.Instantiate c args) = with_instantiated s (slice_get s.components c) (named_items s args)
with_instance around s (instances.Inline exports) = (refl, refl)

with_index : (s : Space) (d : ExternDesc) → Kept s (and_index s d)
with_index s (descs.Func i) = (refl, refl)
with_index s (descs.TypeEq i) = with_some_type s (slice_get s.types i)
with_index s descs.Resource = (refl, refl)
with_index s (descs.Instance i) = (refl, refl)

with_alias : (around : List Space) (s : Space) (a : Alias) → Kept s (after around s (AnAlias a))
with_alias around s (aliases.Export sort i name) = with_some_item s (option_and_then (look_up name) (slice_get s.instances i))
with_alias around s (aliases.CoreExport sort i name) = with_some_core_item s (option_and_then (core_look_up name) (slice_get s.core_instances i))
with_alias around s (aliases.Outer sort count i) = with_outer s sort (slice_get (s ∷ around) count) i

with_resource : (s : Space) (d : TypeDef) → Kept s (and_resource s d)
with_resource s (defs.Resource destructor) = (refl, refl)
with_resource s d = (refl, refl)

with_canon : (around : List Space) (s : Space) (c : Canon) → Kept s (after around s (ACanon c))
with_canon around s (canons.Lift func options ty) = (refl, refl)
with_canon around s (canons.Lower func options) = (refl, refl)
with_canon around s (canons.ResourceNew ty) = (refl, refl)
with_canon around s (canons.ResourceDrop ty) = (refl, refl)
with_canon around s (canons.ResourceRep ty) = (refl, refl)

with_type_alias : (around : List Space) (s : Space) (a : TypeAlias) → Kept s (after around s (AType (ATypeAlias a)))
with_type_alias around s (type_aliases.Export i name) = with_some_item s (option_and_then (look_up name) (slice_get s.instances i))
with_type_alias around s (type_aliases.Outer count i) = with_outer s outer_sorts.Type (slice_get (s ∷ around) count) i

with_again : (s : Space) (sort : Sort) (i : ℕ) → Kept s (and_again s sort i)
with_again s sorts.Type i = with_some_type s (slice_get s.types i)
with_again s sorts.Func i = with_some_item s (item_at s sorts.Func i)
with_again s sorts.Instance i = with_some_item s (item_at s sorts.Instance i)

with_export : (s : Space) (e : ComponentExport) (desc : Option ExternDesc) → Kept s (and_export_index s e desc)
with_export s e None = with_again s e.sort e.index
with_export s e (Some desc) = with_index s desc

with_declaration : (around : List Space) (s : Space) (d : Declaration) → Kept s (after around s (AType d))
with_declaration around s (ATypeDef d) = with_resource (and_type s (entry_of (kind_of s d))) d
with_declaration around s (AnInstanceType ds) = (refl, refl)
with_declaration around s (ATypeAlias a) = with_type_alias around s a
with_declaration around s (ATypeExport name desc) = with_index s desc

-- ---- without imports nothing is imported

abbrev Nothing : Space → Type 0
Nothing s = s.imports ≡ End → s.imported ≡ []

kept_nothing : (s t : Space) → Kept s t → Nothing s → Nothing t
kept_nothing s t k h none = k.1 ∙ h (sym k.0 ∙ none)

and_entry_some : (es : Entries) (name : Name) (item : Item) → and_entry es name item ≡ End → ⊥
and_entry_some End name item h = cc
and_entry_some (More n i rest) name item h = cc

defined_nothing : (around : List Space) (s : Space) (d : Definition) → Nothing s → Nothing (after around s d)
defined_nothing around s (ACoreInstance i) h = h
defined_nothing around s (AnInstance i) h = kept_nothing s (after around s (AnInstance i)) (with_instance around s i) h
defined_nothing around s (AnAlias a) h = kept_nothing s (after around s (AnAlias a)) (with_alias around s a) h
defined_nothing around s (AType d) h = kept_nothing s (after around s (AType d)) (with_declaration around s d) h
defined_nothing around s (ACanon c) h = kept_nothing s (after around s (ACanon c)) (with_canon around s c) h
defined_nothing around s (AnImport i) h = λ none. absurd (and_entry_some s.imports i.name (described s i.desc) none)
defined_nothing around s (AnExport e) h = kept_nothing s (and_export_index s e e.desc) (with_export s e e.desc) h

all_nothing : (around : List Space) (s : Space) (ds : List Definition) → Nothing s → Nothing (after_all around s ds)
all_nothing around s [] h = h
all_nothing around s (d ∷ ds) h = all_nothing around (after around s d) ds (defined_nothing around s d h)

part_nothing : (around : List Space) (s : Space) (part : Part) → Nothing s → Nothing (after_part around s part)
part_nothing around s (CoreModule span m) h = h
part_nothing around s (Nested span tree) h = h
part_nothing around s (CoreInstances items) h = all_nothing around s (definitions (CoreInstances items)) h
part_nothing around s (Instances items) h = all_nothing around s (definitions (Instances items)) h
part_nothing around s (Aliases items) h = all_nothing around s (definitions (Aliases items)) h
part_nothing around s (Types items) h = all_nothing around s (definitions (Types items)) h
part_nothing around s (Canons items) h = all_nothing around s (definitions (Canons items)) h
part_nothing around s (Imports items) h = all_nothing around s (definitions (Imports items)) h
part_nothing around s (Exports items) h = all_nothing around s (definitions (Exports items)) h
part_nothing around s (Custom span) h = h

tree_nothing : (around : List Space) (s : Space) (tree : Tree) → Nothing s → Nothing (after_tree around s tree)
tree_nothing around s NoSection h = h
tree_nothing around s (Section part rest) h = tree_nothing around (after_part around s part) rest (part_nothing around s part h)

pub nothing_imported : (tree : Tree) → (after_tree [] root tree).imports ≡ End → (after_tree [] root tree).imported ≡ []
nothing_imported tree none = tree_nothing [] root tree (λ h. refl) none

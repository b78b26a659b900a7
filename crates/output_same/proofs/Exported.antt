-- What is known of the exports of a valid component: each name is legal, none is like one before it, and where a name is annotated
-- its resource stands before it.
use Rattle.std.proofs.Common.{◌≡◌, ◌∙◌, ap, sym, refl, subst, ℕ, List, [], ◌∷◌, true, Option, Some, None}
use Rattle.std.specs.Prelude.{slice_get}
use Rattle.std.specs.Option.{option_and_then}
use Rattle.wasm_ast.specs.declared.component.Instance.{Instance}
use Rattle.wasm_ast.specs.declared.component.Instance.TheVariants as instances
use Rattle.wasm_ast.specs.declared.component.OuterSort.{OuterSort}
use Rattle.wasm_ast.specs.declared.component.OuterSort.TheVariants as outer_sorts
use Rattle.wasm_ast.specs.declared.component.Alias.{Alias}
use Rattle.wasm_ast.specs.declared.component.Alias.TheVariants as aliases
use Rattle.wasm_ast.specs.declared.component.TypeAlias.{TypeAlias}
use Rattle.wasm_ast.specs.declared.component.TypeAlias.TheVariants as type_aliases
use Rattle.wasm_ast.specs.declared.component.TypeDef.{TypeDef}
use Rattle.wasm_ast.specs.declared.component.TypeDef.TheVariants as defs
use Rattle.wasm_ast.specs.declared.component.ExternDesc.{ExternDesc}
use Rattle.wasm_ast.specs.declared.component.ExternDesc.TheVariants as descs
use Rattle.wasm_ast.specs.declared.component.Canon.{Canon}
use Rattle.wasm_ast.specs.declared.component.Canon.TheVariants as canons
use Rattle.wasm_ast.specs.declared.component.ComponentExport.{ComponentExport}
use Rattle.core_validate.specs.declared.item.CoreItem.{CoreItem}
use Rattle.core_validate.specs.declared.item.CoreItem.TheVariants as core_items
use Rattle.core_validate.specs.declared.item.ModuleType.{ModuleType}
use Rattle.wit_types.specs.Plain.{Name}
use Rattle.comp_names.specs.Names.{is_legal}
use Rattle.comp_types.specs.Items.{Item, Entries, FuncItem, InstanceItem, KindItem, End, More, look_up, and_entry}
use Rattle.comp_grammar.specs.Trees.{Part, Tree, CoreModule, Nested, CoreInstances, Instances, Aliases, Types, Canons, Imports, Exports, Custom, End as NoSection, More as Section}
use Rattle.comp_types.specs.Declarations.{Declaration, ATypeDef, AnInstanceType, ATypeAlias, ATypeExport}
use Rattle.comp_types.specs.Spaces.{Space, TypeEntry, NestedComponent, and_core_item, and_type, entry_of, and_item}
use Rattle.comp_types.specs.Types.{kind_of}
use Rattle.comp_types.specs.CoreMatching.{core_look_up}
use Rattle.comp_types.specs.Definitions.{Definition, ACoreInstance, AnInstance, AnAlias, AType, ACanon, AnImport, AnExport, definitions}
use Rattle.comp_types.specs.Added.{and_instantiated, and_some_item, and_some_core_item, and_some_type, and_some_module, and_some_component, and_outer, described, and_index, and_resource, exported, and_some_entry, after, after_all, after_part, after_tree, root, type_of, named_items}
use Rattle.comp_types.specs.Rules.{if_there, is_new_in, name_fits}
use Rattle.comp_types.specs.Validity.{AllHold, IsValidDefinition, AreValid, IsValidPart, IsValidTree, IsValidComponent}

-- ---- entries after others

abbrev pub joined : Entries → Entries → Entries
joined before End = before
joined before (More name item rest) = joined (and_entry before name item) rest

-- a name may stand after these
pub record Fits (before : Entries) (name : Name) (item : Item) : Type 0 where
  pub legal : is_legal name ≡ true
  pub new : is_new_in before name ≡ true
  pub annotated : name_fits before name item ≡ true

-- so may each of these names, after those before it
abbrev pub AllFit : Entries → Entries → Type 0
AllFit before End = Unit {0}
AllFit before (More name item rest) = Fits before name item × AllFit (and_entry before name item) rest

pub joined_first : (name : Name) (item : Item) (before es : Entries) → joined (More name item before) es ≡ More name item (joined before es)
joined_first name item before End = refl
joined_first name item before (More n i rest) = joined_first name item (and_entry before n i) rest

pub joined_all : (es : Entries) → joined End es ≡ es
joined_all End = refl
joined_all (More name item rest) = joined_first name item End rest ∙ ap (More name item) (joined_all rest)

one_more : (before es : Entries) (name : Name) (item : Item) → AllFit before es → Fits (joined before es) name item → AllFit before (and_entry es name item)
one_more before End name item h f = (f, tt)
one_more before (More n i rest) name item h f = (h.0, one_more (and_entry before n i) rest name item h.1 f)

fits_last : (es : Entries) (name : Name) (item : Item) → AllFit End es → Fits es name item → AllFit End (and_entry es name item)
fits_last es name item h f = one_more End es name item h (subst (λ (all : Entries). Fits all name item) (sym (joined_all es)) f)

-- ---- all definitions but exports leave the exports as they are

with_item : (s : Space) (i : Item) → (and_item s i).exports ≡ s.exports
with_item s (FuncItem ty) = refl
with_item s (InstanceItem entries) = refl
with_item s (KindItem kind) = refl

with_some_item : (s : Space) (o : Option Item) → (and_some_item s o).exports ≡ s.exports
with_some_item s None = refl
with_some_item s (Some i) = with_item s i

with_core_item : (s : Space) (i : CoreItem) → (and_core_item s i).exports ≡ s.exports
with_core_item s (core_items.Func ty) = refl
with_core_item s (core_items.Table ty limits) = refl
with_core_item s (core_items.Memory limits) = refl
with_core_item s (core_items.Global ty variable) = refl

with_some_core_item : (s : Space) (o : Option CoreItem) → (and_some_core_item s o).exports ≡ s.exports
with_some_core_item s None = refl
with_some_core_item s (Some i) = with_core_item s i

with_some_type : (s : Space) (o : Option TypeEntry) → (and_some_type s o).exports ≡ s.exports
with_some_type s None = refl
with_some_type s (Some e) = refl

with_some_module : (s : Space) (o : Option ModuleType) → (and_some_module s o).exports ≡ s.exports
with_some_module s None = refl
with_some_module s (Some m) = refl

with_some_component : (s : Space) (o : Option NestedComponent) → (and_some_component s o).exports ≡ s.exports
with_some_component s None = refl
with_some_component s (Some c) = refl

with_outer : (s : Space) (sort : OuterSort) (o : Option Space) (i : ℕ) → (and_outer s sort o i).exports ≡ s.exports
with_outer s sort None i = refl
with_outer s outer_sorts.CoreModule (Some scope) i = with_some_module s (slice_get scope.core_modules i)
with_outer s outer_sorts.Type (Some scope) i = with_some_type s (slice_get scope.types i)
with_outer s outer_sorts.Component (Some scope) i = with_some_component s (slice_get scope.components i)

with_instantiated : (s : Space) (o : Option NestedComponent) (args : Entries) → (and_instantiated s o args).exports ≡ s.exports
with_instantiated s None args = refl
with_instantiated s (Some c) args = refl

with_instance : (around : List Space) (s : Space) (i : Instance) → (after around s (AnInstance i)).exports ≡ s.exports
with_instance around s (instances.Instantiate c args) = with_instantiated s (slice_get s.components c) (named_items s args)
with_instance around s (instances.Inline exports) = refl

with_index : (s : Space) (d : ExternDesc) → (and_index s d).exports ≡ s.exports
with_index s (descs.Func i) = with_item s (described s (descs.Func i))
with_index s (descs.TypeEq i) = with_some_type s (slice_get s.types i)
with_index s descs.Resource = refl
with_index s (descs.Instance i) = refl

with_alias : (around : List Space) (s : Space) (a : Alias) → (after around s (AnAlias a)).exports ≡ s.exports
with_alias around s (aliases.Export sort i name) = with_some_item s (option_and_then (look_up name) (slice_get s.instances i))
with_alias around s (aliases.CoreExport sort i name) = with_some_core_item s (option_and_then (core_look_up name) (slice_get s.core_instances i))
with_alias around s (aliases.Outer sort count i) = with_outer s sort (slice_get (s ∷ around) count) i

with_resource : (s : Space) (d : TypeDef) → (and_resource s d).exports ≡ s.exports
with_resource s (defs.Resource destructor) = refl
with_resource s d = refl

with_canon : (around : List Space) (s : Space) (c : Canon) → (after around s (ACanon c)).exports ≡ s.exports
with_canon around s (canons.Lift func options ty) = refl
with_canon around s (canons.Lower func options) = refl
with_canon around s (canons.ResourceNew ty) = refl
with_canon around s (canons.ResourceDrop ty) = refl
with_canon around s (canons.ResourceRep ty) = refl

with_type_alias : (around : List Space) (s : Space) (a : TypeAlias) → (after around s (AType (ATypeAlias a))).exports ≡ s.exports
with_type_alias around s (type_aliases.Export i name) = with_some_item s (option_and_then (look_up name) (slice_get s.instances i))
with_type_alias around s (type_aliases.Outer count i) = with_outer s outer_sorts.Type (slice_get (s ∷ around) count) i

-- ---- exports

-- what is said of an export in the rules
export_fits : (around : List Space) (s : Space) (e : ComponentExport) (item : Item) → AllHold around s (AnExport e) → exported s e ≡ Some item → Fits s.exports e.name item
export_fits around s e item h found = record {
  legal = (h 20).legal_names refl;
  new = (h 21).export_names refl;
  annotated = subst (λ (o : Option Item). if_there (name_fits s.exports e.name) o ≡ true) found ((h 24).annotations refl);
}

export_more : (s : Space) (e : ComponentExport) (o : Option Item) → exported s e ≡ o → ((item : Item) → exported s e ≡ Some item → Fits s.exports e.name item) → AllFit End s.exports → AllFit End (and_some_entry s.exports e.name o)
export_more s e None found f h = h
export_more s e (Some item) found f h = fits_last s.exports e.name item h (f item found)

-- ---- all definitions

declared_fits : (around : List Space) (s : Space) (d : Declaration) → IsValidDefinition around s (AType d) → AllFit End s.exports → AllFit End (after around s (AType d)).exports
declared_fits around s (ATypeDef d) v h = subst (λ (es : Entries). AllFit End es) (sym (with_resource (and_type s (entry_of (kind_of s d))) d)) h
declared_fits around s (AnInstanceType ds) v h = h
declared_fits around s (ATypeAlias a) v h = subst (λ (es : Entries). AllFit End es) (sym (with_type_alias around s a)) h
declared_fits around s (ATypeExport name desc) v h =
    fits_last s.exports name (described s desc) h (record { legal = (v 20).legal_names refl; new = (v 15).declared_names refl; annotated = (v 24).annotations refl })

defined_fits : (around : List Space) (s : Space) (d : Definition) → IsValidDefinition around s d → AllFit End s.exports → AllFit End (after around s d).exports
defined_fits around s (ACoreInstance i) v h = h
defined_fits around s (AnInstance i) v h = subst (λ (es : Entries). AllFit End es) (sym (with_instance around s i)) h
defined_fits around s (AnAlias a) v h = subst (λ (es : Entries). AllFit End es) (sym (with_alias around s a)) h
defined_fits around s (AType d) v h = declared_fits around s d v h
defined_fits around s (ACanon c) v h = subst (λ (es : Entries). AllFit End es) (sym (with_canon around s c)) h
defined_fits around s (AnImport i) v h = subst (λ (es : Entries). AllFit End es) (sym (with_index s i.desc)) h
defined_fits around s (AnExport e) v h = export_more s e (exported s e) refl (λ item found. export_fits around s e item v found) h

all_fit : (around : List Space) (s : Space) (ds : List Definition) → AreValid around s ds → AllFit End s.exports → AllFit End (after_all around s ds).exports
all_fit around s [] v h = h
all_fit around s (d ∷ ds) v h = all_fit around (after around s d) ds v.1 (defined_fits around s d v.0 h)

part_fits : (around : List Space) (s : Space) (part : Part) → IsValidPart around s part → AllFit End s.exports → AllFit End (after_part around s part).exports
part_fits around s (CoreModule span m) v h = h
part_fits around s (Nested span tree) v h = h
part_fits around s (CoreInstances items) v h = all_fit around s (definitions (CoreInstances items)) v h
part_fits around s (Instances items) v h = all_fit around s (definitions (Instances items)) v h
part_fits around s (Aliases items) v h = all_fit around s (definitions (Aliases items)) v h
part_fits around s (Types items) v h = all_fit around s (definitions (Types items)) v h
part_fits around s (Canons items) v h = all_fit around s (definitions (Canons items)) v h
part_fits around s (Imports items) v h = all_fit around s (definitions (Imports items)) v h
part_fits around s (Exports items) v h = all_fit around s (definitions (Exports items)) v h
part_fits around s (Custom span) v h = h

tree_fits : (around : List Space) (s : Space) (tree : Tree) → IsValidTree around s tree → AllFit End s.exports → AllFit End (after_tree around s tree).exports
tree_fits around s NoSection v h = h
tree_fits around s (Section part rest) v h = tree_fits around (after_part around s part) rest v.1 (part_fits around s part v.0 h)

pub exports_fit : (tree : Tree) → IsValidComponent tree → AllFit End (type_of tree).exports
exports_fit tree v = tree_fits [] root tree v tt

-- Imports are only added, so what was imported stays, by its name; and only outer aliases and components add components.
use Rattle.std.proofs.Common.{◌≡◌, ◌∙◌, sym, refl, subst, ℕ, List, [], ◌∷◌, Bool, true, false, cond, Option, Some, None}
use Rattle.std.specs.Prelude.{slice_get, not, ◌||◌}
use Rattle.std.specs.List.{list_any}
use Rattle.std.specs.Option.{option_and_then}
use Rattle.std.proofs.lemmas.Bool.{false≢true}
use Rattle.std.proofs.lemmas.Slice.Eq.{bytes_eq-Decides}
use Rattle.wasm_ast.specs.declared.component.CoreSort.{CoreSort}
use Rattle.wasm_ast.specs.declared.component.Sort.{Sort}
use Rattle.wasm_ast.specs.declared.component.Sort.TheVariants as sorts
use Rattle.wasm_ast.specs.declared.component.Instance.{Instance}
use Rattle.wasm_ast.specs.declared.component.Instance.TheVariants as instances
use Rattle.wasm_ast.specs.declared.component.OuterSort.{OuterSort}
use Rattle.wasm_ast.specs.declared.component.OuterSort.TheVariants as outer_sorts
use Rattle.wasm_ast.specs.declared.component.Alias.{Alias}
use Rattle.wasm_ast.specs.declared.component.Alias.TheVariants as aliases
use Rattle.wasm_ast.specs.declared.component.TypeAlias.{TypeAlias}
use Rattle.wasm_ast.specs.declared.component.TypeAlias.TheVariants as type_aliases
use Rattle.wasm_ast.specs.declared.component.TypeDef.{TypeDef}
use Rattle.wasm_ast.specs.declared.component.TypeDef.TheVariants as defs
use Rattle.wasm_ast.specs.declared.component.ExternDesc.{ExternDesc}
use Rattle.wasm_ast.specs.declared.component.ExternDesc.TheVariants as descs
use Rattle.wasm_ast.specs.declared.component.Canon.{Canon}
use Rattle.wasm_ast.specs.declared.component.Canon.TheVariants as canons
use Rattle.wasm_ast.specs.declared.component.ComponentExport.{ComponentExport}
use Rattle.core_validate.specs.declared.item.CoreItem.{CoreItem}
use Rattle.core_validate.specs.declared.item.CoreItem.TheVariants as core_items
use Rattle.core_validate.specs.declared.item.ModuleType.{ModuleType}
use Rattle.wit_types.specs.Plain.{Name}
use Rattle.comp_names.specs.Same.{folded, is_same_name}
use Rattle.comp_types.specs.Items.{Item, Entries, FuncItem, InstanceItem, KindItem, End, More, same_name, look_up, names, and_entry}
use Rattle.comp_types.proofs.ValueLaws.{name-sound, name-same}
use Rattle.comp_grammar.specs.Trees.{Part, Tree, CoreModule, Nested, CoreInstances, Instances, Aliases, Types, Canons, Imports, Exports, Custom, End as NoSection, More as Section}
use Rattle.comp_types.specs.Declarations.{Declaration, ATypeDef, AnInstanceType, ATypeAlias, ATypeExport}
use Rattle.comp_types.specs.Spaces.{Space, TypeEntry, NestedComponent, and_core_item, and_type, entry_of, and_item, item_at}
use Rattle.comp_types.specs.Types.{kind_of}
use Rattle.comp_types.specs.CoreMatching.{core_look_up}
use Rattle.comp_types.specs.Definitions.{Definition, ACoreInstance, AnInstance, AnAlias, AType, ACanon, AnImport, AnExport, definitions}
use Rattle.comp_types.specs.Added.{and_again, and_export_index, and_instantiated, and_some_item, and_some_core_item, and_some_type, and_some_module, and_some_component, and_outer, described, and_index, and_resource, after, after_all, after_part, after_tree, named_items}
use Rattle.comp_types.specs.Rules.{is_new_in}

-- what is found in the first is found in the second
abbrev pub Within : Entries → Entries → Type 0
Within entries more = (name : Name) (item : Item) → look_up name entries ≡ Some item → look_up name more ≡ Some item

-- ---- one entry more

pub found_before : (entries : Entries) (n : Name) (i : Item) → Within entries (and_entry entries n i)
found_before End n i name item is = absurd (let q : None ≡ Some item = is in cc)
found_before (More m j rest) n i name item is = at_test (same_name m name) is (found_before rest n i name item)
  where
    at_test : (b : Bool) → cond b (Some j) (look_up name rest) ≡ Some item → (look_up name rest ≡ Some item → look_up name (and_entry rest n i) ≡ Some item) → cond b (Some j) (look_up name (and_entry rest n i)) ≡ Some item
    at_test true is' later = is'
    at_test false is' later = later is'

neither : (p q : Bool) → not (p || q) ≡ true → (p ≡ false) × (not q ≡ true)
neither true q h = absurd (false≢true h)
neither false q h = (refl, h)

-- a name like none before it is found after them
pub found_new : (entries : Entries) (name : Name) (item : Item) → is_new_in entries name ≡ true → look_up name (and_entry entries name item) ≡ Some item
found_new End name item h = at_test (same_name name name) (name-same name)
  where
    at_test : (b : Bool) → b ≡ true → cond b (Some item) None ≡ Some item
    at_test true e = refl
    at_test false e = absurd (false≢true e)
found_new (More m j rest) name item h = at_test (same_name m name) refl (found_new rest name item)
  where
    split : (is_same_name name m ≡ false) × (not (list_any (is_same_name name) (names rest)) ≡ true)
    split = neither (is_same_name name m) (list_any (is_same_name name) (names rest)) h

    alike : m ≡ name → is_same_name name m ≡ true
    alike e = subst (λ z. is_same_name name z ≡ true) (sym e) ((bytes_eq-Decides (folded name) (folded name)).1 refl)

    at_test : (b : Bool) → same_name m name ≡ b → (is_new_in rest name ≡ true → look_up name (and_entry rest name item) ≡ Some item) → cond b (Some j) (look_up name (and_entry rest name item)) ≡ Some item
    at_test true e later = absurd (false≢true (sym split.0 ∙ alike (name-sound m name e)))
    at_test false e later = later split.1

-- ---- the imports and the components stay as they are

abbrev Kept : Space → Space → Type 0
Kept s t = (t.imports ≡ s.imports) × (t.components ≡ s.components)

with_item : (s : Space) (i : Item) → Kept s (and_item s i)
with_item s (FuncItem ty) = (refl, refl)
with_item s (InstanceItem entries) = (refl, refl)
with_item s (KindItem kind) = (refl, refl)

with_some_item : (s : Space) (o : Option Item) → Kept s (and_some_item s o)
with_some_item s None = (refl, refl)
with_some_item s (Some i) = with_item s i

with_core_item : (s : Space) (i : CoreItem) → Kept s (and_core_item s i)
with_core_item s (core_items.Func ty) = (refl, refl)
with_core_item s (core_items.Table ty limits) = (refl, refl)
with_core_item s (core_items.Memory limits) = (refl, refl)
with_core_item s (core_items.Global ty variable) = (refl, refl)

with_some_core_item : (s : Space) (o : Option CoreItem) → Kept s (and_some_core_item s o)
with_some_core_item s None = (refl, refl)
with_some_core_item s (Some i) = with_core_item s i

with_some_type : (s : Space) (o : Option TypeEntry) → Kept s (and_some_type s o)
with_some_type s None = (refl, refl)
with_some_type s (Some e) = (refl, refl)

with_some_module : (s : Space) (o : Option ModuleType) → Kept s (and_some_module s o)
with_some_module s None = (refl, refl)
with_some_module s (Some m) = (refl, refl)

-- an outer alias leaves the imports
with_outer : (s : Space) (sort : OuterSort) (o : Option Space) (i : ℕ) → (and_outer s sort o i).imports ≡ s.imports
with_outer s sort None i = refl
with_outer s outer_sorts.CoreModule (Some scope) i = (with_some_module s (slice_get scope.core_modules i)).0
with_outer s outer_sorts.Type (Some scope) i = (with_some_type s (slice_get scope.types i)).0
with_outer s outer_sorts.Component (Some scope) i = with_some_component (slice_get scope.components i)
  where
    with_some_component : (o : Option NestedComponent) → (and_some_component s o).imports ≡ s.imports
    with_some_component None = refl
    with_some_component (Some c) = refl

-- and of types the components too
pub with_outer_type : (s : Space) (o : Option Space) (i : ℕ) → Kept s (and_outer s outer_sorts.Type o i)
with_outer_type s None i = (refl, refl)
with_outer_type s (Some scope) i = with_some_type s (slice_get scope.types i)

pub with_outer_module : (s : Space) (o : Option Space) (i : ℕ) → Kept s (and_outer s outer_sorts.CoreModule o i)
with_outer_module s None i = (refl, refl)
with_outer_module s (Some scope) i = with_some_module s (slice_get scope.core_modules i)

with_instantiated : (s : Space) (o : Option NestedComponent) (args : Entries) → Kept s (and_instantiated s o args)
with_instantiated s None args = (refl, refl)
with_instantiated s (Some c) args = (refl, refl)

pub with_instance : (around : List Space) (s : Space) (i : Instance) → Kept s (after around s (AnInstance i))
with_instance around s (instances.Instantiate c args) = with_instantiated s (slice_get s.components c) (named_items s args)
with_instance around s (instances.Inline exports) = (refl, refl)

pub with_index : (s : Space) (d : ExternDesc) → Kept s (and_index s d)
with_index s (descs.Func i) = (refl, refl)
with_index s (descs.TypeEq i) = with_some_type s (slice_get s.types i)
with_index s descs.Resource = (refl, refl)
with_index s (descs.Instance i) = (refl, refl)

pub with_alias : (around : List Space) (s : Space) (sort : Sort) (i : ℕ) (name : Name) → Kept s (after around s (AnAlias (aliases.Export sort i name)))
with_alias around s sort i name = with_some_item s (option_and_then (look_up name) (slice_get s.instances i))

pub with_core_alias : (around : List Space) (s : Space) (sort : CoreSort) (i : ℕ) (name : Name) → Kept s (after around s (AnAlias (aliases.CoreExport sort i name)))
with_core_alias around s sort i name = with_some_core_item s (option_and_then (core_look_up name) (slice_get s.core_instances i))

alias_imports : (around : List Space) (s : Space) (a : Alias) → (after around s (AnAlias a)).imports ≡ s.imports
alias_imports around s (aliases.Export sort i name) = (with_alias around s sort i name).0
alias_imports around s (aliases.CoreExport sort i name) = (with_core_alias around s sort i name).0
alias_imports around s (aliases.Outer sort count i) = with_outer s sort (slice_get (s ∷ around) count) i

with_resource : (s : Space) (d : TypeDef) → Kept s (and_resource s d)
with_resource s (defs.Resource destructor) = (refl, refl)
with_resource s d = (refl, refl)

pub with_canon : (around : List Space) (s : Space) (c : Canon) → Kept s (after around s (ACanon c))
with_canon around s (canons.Lift func options ty) = (refl, refl)
with_canon around s (canons.Lower func options) = (refl, refl)
with_canon around s (canons.ResourceNew ty) = (refl, refl)
with_canon around s (canons.ResourceDrop ty) = (refl, refl)
with_canon around s (canons.ResourceRep ty) = (refl, refl)

with_type_alias : (around : List Space) (s : Space) (a : TypeAlias) → Kept s (after around s (AType (ATypeAlias a)))
with_type_alias around s (type_aliases.Export i name) = with_some_item s (option_and_then (look_up name) (slice_get s.instances i))
with_type_alias around s (type_aliases.Outer count i) = with_outer_type s (slice_get (s ∷ around) count) i

with_again : (s : Space) (sort : Sort) (i : ℕ) → Kept s (and_again s sort i)
with_again s sorts.Type i = with_some_type s (slice_get s.types i)
with_again s sorts.Func i = with_some_item s (item_at s sorts.Func i)
with_again s sorts.Instance i = with_some_item s (item_at s sorts.Instance i)

pub with_export : (s : Space) (e : ComponentExport) (desc : Option ExternDesc) → Kept s (and_export_index s e desc)
with_export s e None = with_again s e.sort e.index
with_export s e (Some desc) = with_index s desc

pub with_declaration : (around : List Space) (s : Space) (d : Declaration) → Kept s (after around s (AType d))
with_declaration around s (ATypeDef d) = with_resource (and_type s (entry_of (kind_of s d))) d
with_declaration around s (AnInstanceType ds) = (refl, refl)
with_declaration around s (ATypeAlias a) = with_type_alias around s a
with_declaration around s (ATypeExport name desc) = with_index s desc

-- ---- what was imported stays

kept_within : (s t : Space) → t.imports ≡ s.imports → Within s.imports t.imports
kept_within s t kept name item is = subst (λ z. look_up name z ≡ Some item) (sym kept) is

pub then_within : (a b c : Entries) → Within a b → Within b c → Within a c
then_within a b c f g name item is = g name item (f name item is)

pub defined_within : (around : List Space) (s : Space) (d : Definition) → Within s.imports (after around s d).imports
defined_within around s (ACoreInstance i) = kept_within s (after around s (ACoreInstance i)) refl
defined_within around s (AnInstance i) = kept_within s (after around s (AnInstance i)) (with_instance around s i).0
defined_within around s (AnAlias a) = kept_within s (after around s (AnAlias a)) (alias_imports around s a)
defined_within around s (AType d) = kept_within s (after around s (AType d)) (with_declaration around s d).0
defined_within around s (ACanon c) = kept_within s (after around s (ACanon c)) (with_canon around s c).0
defined_within around s (AnImport i) = found_before s.imports i.name (described s i.desc)
defined_within around s (AnExport e) = kept_within s (after around s (AnExport e)) (with_export s e e.desc).0

pub all_within : (around : List Space) (s : Space) (ds : List Definition) → Within s.imports (after_all around s ds).imports
all_within around s [] = λ name item is. is
all_within around s (d ∷ ds) = then_within s.imports (after around s d).imports (after_all around (after around s d) ds).imports (defined_within around s d) (all_within around (after around s d) ds)

pub part_within : (around : List Space) (s : Space) (part : Part) → Within s.imports (after_part around s part).imports
part_within around s (CoreModule span m) = λ name item is. is
part_within around s (Nested span tree) = λ name item is. is
part_within around s (CoreInstances items) = all_within around s (definitions (CoreInstances items))
part_within around s (Instances items) = all_within around s (definitions (Instances items))
part_within around s (Aliases items) = all_within around s (definitions (Aliases items))
part_within around s (Types items) = all_within around s (definitions (Types items))
part_within around s (Canons items) = all_within around s (definitions (Canons items))
part_within around s (Imports items) = all_within around s (definitions (Imports items))
part_within around s (Exports items) = all_within around s (definitions (Exports items))
part_within around s (Custom span) = λ name item is. is

pub tree_within : (around : List Space) (s : Space) (tree : Tree) → Within s.imports (after_tree around s tree).imports
tree_within around s NoSection = λ name item is. is
tree_within around s (Section part rest) =
    then_within s.imports (after_part around s part).imports (after_tree around (after_part around s part) rest).imports (part_within around s part) (tree_within around (after_part around s part) rest)

-- The rules by which components are valid (Component Model, Binary.md and Explainer.md), each as a property of one definition in the
-- index spaces that the definitions before it made: `around` are the scopes around, the innermost first. Modules (rule 1) and
-- components (rule 2) stand with `IsValidPart`, and what an instance type declares with `IsValidDeclaration`.
--
-- A rule says nothing of what is not there: an index that passes its space is a fault of rule 3 alone.
use Rattle.std.specs.Prelude.{◌≡◌, ℕ, List, [], ◌∷◌, ◌++◌, Bool, true, false, not, ◌&&◌, ◌||◌, nat_lt, nat_le, ◌==◌, map, take, length, is_some, Option, Some, None, slice_get, IsTrue, ⊤}
use Rattle.std.specs.List.{list_all, list_any, filter}
use Rattle.std.specs.Option.{option_and_then}
use Rattle.virt_base.specs.declared.core_type.CoreType.TheVariants.{I32}
use Rattle.wasm_ast.specs.declared.module.CoreFunc.{CoreFunc}
use Rattle.wasm_ast.specs.declared.component.CoreSort.{CoreSort}
use Rattle.wasm_ast.specs.declared.component.CoreSort.TheVariants as core_sorts
use Rattle.wasm_ast.specs.declared.component.CoreArg.{CoreArg}
use Rattle.wasm_ast.specs.declared.component.CoreExport.{CoreExport as CoreNamed}
use Rattle.wasm_ast.specs.declared.component.CoreInstance.{CoreInstance}
use Rattle.wasm_ast.specs.declared.component.CoreInstance.TheVariants as core_instances
use Rattle.wasm_ast.specs.declared.component.Sort.{Sort}
use Rattle.wasm_ast.specs.declared.component.Sort.TheVariants as sorts
use Rattle.wasm_ast.specs.declared.component.NamedItem.{NamedItem}
use Rattle.wasm_ast.specs.declared.component.Instance.{Instance}
use Rattle.wasm_ast.specs.declared.component.Instance.TheVariants as instances
use Rattle.wasm_ast.specs.declared.component.OuterSort.{OuterSort}
use Rattle.wasm_ast.specs.declared.component.OuterSort.TheVariants as outer_sorts
use Rattle.wasm_ast.specs.declared.component.Alias.{Alias}
use Rattle.wasm_ast.specs.declared.component.Alias.TheVariants as aliases
use Rattle.wasm_ast.specs.declared.component.ValType.{ValType}
use Rattle.wasm_ast.specs.declared.component.ValType.TheVariants as values
use Rattle.wasm_ast.specs.declared.component.LabelType.{LabelType}
use Rattle.wasm_ast.specs.declared.component.CaseType.{CaseType}
use Rattle.wasm_ast.specs.declared.component.ExternDesc.{ExternDesc}
use Rattle.wasm_ast.specs.declared.component.ExternDesc.TheVariants as descs
use Rattle.wasm_ast.specs.declared.component.TypeAlias.{TypeAlias}
use Rattle.wasm_ast.specs.declared.component.TypeAlias.TheVariants as type_aliases
use Rattle.wasm_ast.specs.declared.component.TypeDef.{TypeDef}
use Rattle.wasm_ast.specs.declared.component.TypeDef.TheVariants as defs
use Rattle.wasm_ast.specs.declared.component.CanonOption.{CanonOption}
use Rattle.wasm_ast.specs.declared.component.CanonOption.TheVariants as opts
use Rattle.wasm_ast.specs.declared.component.Canon.{Canon}
use Rattle.wasm_ast.specs.declared.component.Canon.TheVariants as canons
use Rattle.wasm_ast.specs.declared.component.ComponentExport.{ComponentExport}
use Rattle.core_validate.specs.declared.item.CoreItem.{CoreItem}
use Rattle.core_validate.specs.declared.item.CoreItem.TheVariants as core_items
use Rattle.core_validate.specs.declared.item.CoreImport.{CoreImport}
use Rattle.core_validate.specs.declared.item.CoreExport.{CoreExport}
use Rattle.core_validate.specs.declared.item.ModuleType.{ModuleType}
use Rattle.wit_types.specs.Plain.{Name, Plain, Parts, PlainFunc, OwnType, BorrowType, More as AndPart}
use Rattle.comp_names.specs.declared.names.Annotation.{Annotation}
use Rattle.comp_names.specs.declared.names.Annotation.TheVariants as annotations
use Rattle.comp_names.specs.Labels.{is_label}
use Rattle.comp_names.specs.Names.{is_legal, annotation_of}
use Rattle.comp_names.specs.Same.{is_same_name}
use Rattle.comp_facts.specs.Handles.{has_borrow}
use Rattle.comp_facts.specs.Needs.{needs_memory, lift_needs_realloc, lower_needs_realloc}
use Rattle.comp_types.specs.Items.{Item, Kind, Entries, FuncItem, InstanceItem, KindItem, ResourceKind, ValueKind, FuncKind, InstanceKind, End, More, look_up, names}
use Rattle.comp_types.specs.Measures.{kind_depth, kind_parts}
use Rattle.comp_types.specs.Equality.{IsEqualType}
use Rattle.comp_types.specs.Subtyping.{IsSubtype, MeetsImports}
use Rattle.comp_types.specs.declared.lengths.Lengths.{Lengths}
use Rattle.comp_types.specs.Declarations.{Declaration, ATypeDef, AnInstanceType, ATypeAlias, ATypeExport}
use Rattle.comp_types.specs.Spaces.{Space, TypeEntry, NestedComponent, core_func_at, kind_at, item_at}
use Rattle.comp_types.specs.GivenResources.{is_among, named_in_kind, named_in_func}
use Rattle.comp_types.specs.Types.{value_of, func_in, instance_in, kind_of}
use Rattle.comp_types.specs.Flat.{lifted_type}
use Rattle.comp_types.specs.CoreMatching.{same_func, same_text, meets, core_look_up}
use Rattle.comp_types.specs.Definitions.{Definition, ACoreInstance, AnInstance, AnAlias, AType, ACanon, AnImport, AnExport}
use Rattle.comp_types.specs.Added.{named_items, described, exported}

-- ---- ways of asking

-- what is asked of a thing, where it is there
abbrev pub if_there : {A : Type 0} → (A → Bool) → Option A → Bool
if_there test None = true
if_there test (Some a) = test a

-- no two are alike
abbrev pub all_differ : {A : Type 0} → (A → A → Bool) → List A → Bool
all_differ same [] = true
all_differ same (x ∷ xs) = not (list_any (same x) xs) && all_differ same xs

abbrev pub is_filled : {A : Type 0} → List A → Bool
is_filled [] = false
is_filled (x ∷ xs) = true

-- ---- rule 3: each index is below the length of its index space

abbrev pub lengths_of : Space → Lengths
lengths_of s = record {
  core_functions = length s.core_functions;
  core_tables = length s.core_tables;
  core_memories = length s.core_memories;
  core_globals = length s.core_globals;
  core_modules = length s.core_modules;
  core_instances = length s.core_instances;
  functions = length s.functions;
  types = length s.types;
  instances = length s.instances;
  components = length s.components;
}

abbrev pub value_stands : Lengths → ValType → Bool
value_stands l (values.Primitive p) = true
value_stands l (values.Index i) = nat_lt i l.types

abbrev pub some_value_stands : Lengths → Option ValType → Bool
some_value_stands l v = if_there (value_stands l) v

abbrev pub core_item_stands : Lengths → CoreSort → ℕ → Bool
core_item_stands l core_sorts.Func i = nat_lt i l.core_functions
core_item_stands l core_sorts.Table i = nat_lt i l.core_tables
core_item_stands l core_sorts.Memory i = nat_lt i l.core_memories
core_item_stands l core_sorts.Global i = nat_lt i l.core_globals

abbrev pub item_stands : Lengths → Sort → ℕ → Bool
item_stands l sorts.Func i = nat_lt i l.functions
item_stands l sorts.Type i = nat_lt i l.types
item_stands l sorts.Instance i = nat_lt i l.instances

abbrev pub desc_stands : Lengths → ExternDesc → Bool
desc_stands l (descs.Func i) = nat_lt i l.types
desc_stands l (descs.TypeEq i) = nat_lt i l.types
desc_stands l descs.Resource = true
desc_stands l (descs.Instance i) = nat_lt i l.types

abbrev pub def_stands : Lengths → TypeDef → Bool
def_stands l (defs.Record fields) = list_all (λ f. value_stands l f.ty) fields
def_stands l (defs.Variant cases) = list_all (λ c. some_value_stands l c.ty) cases
def_stands l (defs.List item) = value_stands l item
def_stands l (defs.Tuple types) = list_all (value_stands l) types
def_stands l (defs.Option item) = value_stands l item
def_stands l (defs.Result ok err) = some_value_stands l ok && some_value_stands l err
def_stands l (defs.Own i) = nat_lt i l.types
def_stands l (defs.Borrow i) = nat_lt i l.types
def_stands l (defs.Func params result) = list_all (λ p. value_stands l p.ty) params && some_value_stands l result
def_stands l (defs.Resource destructor) = if_there (λ i. nat_lt i l.core_functions) destructor
def_stands l _ = true

abbrev pub option_stands : Lengths → CanonOption → Bool
option_stands l opts.Utf8 = true
option_stands l (opts.Memory i) = nat_lt i l.core_memories
option_stands l (opts.Realloc i) = nat_lt i l.core_functions
option_stands l (opts.PostReturn i) = nat_lt i l.core_functions

abbrev pub core_instance_stands : Lengths → CoreInstance → Bool
core_instance_stands l (core_instances.Instantiate m args) = nat_lt m l.core_modules && list_all (λ a. nat_lt a.instance l.core_instances) args
core_instance_stands l (core_instances.Inline exports) = list_all (λ e. core_item_stands l e.sort e.index) exports

abbrev pub instance_stands : Lengths → Instance → Bool
instance_stands l (instances.Instantiate c args) = nat_lt c l.components && list_all (λ a. item_stands l a.sort a.index) args
instance_stands l (instances.Inline exports) = list_all (λ e. item_stands l e.sort e.index) exports

abbrev pub outer_stands : OuterSort → ℕ → Lengths → Bool
outer_stands outer_sorts.CoreModule i l = nat_lt i l.core_modules
outer_stands outer_sorts.Type i l = nat_lt i l.types
outer_stands outer_sorts.Component i l = nat_lt i l.components

-- the scope to which an outer alias leads, if it is there
abbrev pub scope_of_alias : List Lengths → Alias → Option Lengths
scope_of_alias scopes (aliases.Outer sort count i) = slice_get scopes count
scope_of_alias scopes _ = None

abbrev pub alias_stands : Lengths → Option Lengths → Alias → Bool
alias_stands l scope (aliases.Export sort i name) = nat_lt i l.instances
alias_stands l scope (aliases.CoreExport sort i name) = nat_lt i l.core_instances
alias_stands l scope (aliases.Outer sort count i) = if_there (outer_stands sort i) scope

abbrev pub scope_of_type_alias : List Lengths → TypeAlias → Option Lengths
scope_of_type_alias scopes (type_aliases.Outer count i) = slice_get scopes count
scope_of_type_alias scopes (type_aliases.Export i name) = None

abbrev pub type_alias_stands : Lengths → Option Lengths → TypeAlias → Bool
type_alias_stands l scope (type_aliases.Export i name) = nat_lt i l.instances
type_alias_stands l scope (type_aliases.Outer count i) = if_there (outer_stands outer_sorts.Type i) scope

abbrev pub declaration_stands : List Lengths → Lengths → Declaration → Bool
declaration_stands scopes l (ATypeDef d) = def_stands l d
declaration_stands scopes l (ATypeAlias a) = type_alias_stands l (scope_of_type_alias scopes a) a
declaration_stands scopes l (ATypeExport name desc) = desc_stands l desc
declaration_stands scopes l (AnInstanceType ds) = true

abbrev pub canon_stands : Lengths → Canon → Bool
canon_stands l (canons.Lift func options ty) = nat_lt func l.core_functions && nat_lt ty l.types && list_all (option_stands l) options
canon_stands l (canons.Lower func options) = nat_lt func l.functions && list_all (option_stands l) options
canon_stands l (canons.ResourceNew ty) = nat_lt ty l.types
canon_stands l (canons.ResourceDrop ty) = nat_lt ty l.types
canon_stands l (canons.ResourceRep ty) = nat_lt ty l.types

abbrev pub export_stands : Lengths → ComponentExport → Bool
export_stands l e = item_stands l e.sort e.index && if_there (desc_stands l) e.desc

-- in scopes of these lengths, of which the first is that of the definition
abbrev pub definition_stands : List Lengths → Lengths → Definition → Bool
definition_stands scopes l (ACoreInstance i) = core_instance_stands l i
definition_stands scopes l (AnInstance i) = instance_stands l i
definition_stands scopes l (AnAlias a) = alias_stands l (scope_of_alias scopes a) a
definition_stands scopes l (AType d) = declaration_stands scopes l d
definition_stands scopes l (ACanon c) = canon_stands l c
definition_stands scopes l (AnImport i) = desc_stands l i.desc
definition_stands scopes l (AnExport e) = export_stands l e

abbrev pub indexes_stand : List Space → Space → Definition → Bool
indexes_stand around s d = definition_stands (map lengths_of (s ∷ around)) (lengths_of s) d

-- ---- rules 4 and 5: the arguments of a core module

-- the argument of this name: what its instance exports
abbrev pub argument_for : Space → Name → List CoreArg → Option (List CoreExport)
argument_for s name args = option_and_then (λ (a : CoreArg). slice_get s.core_instances a.instance) (slice_get (filter (λ (a : CoreArg). same_text a.name name) args) 0)

abbrev pub is_given : Name → List CoreArg → Bool
is_given name args = list_any (λ (a : CoreArg). same_text a.name name) args

-- 4: "Each import must be satisfied by an argument": the names of arguments differ, and each import has an item among them
abbrev pub core_import_given : Space → List CoreArg → CoreImport → Bool
core_import_given s args i = is_given i.«module» args && if_there (λ exports. is_some (core_look_up i.name exports)) (argument_for s i.«module» args)

abbrev pub core_arguments_given : Space → Definition → Bool
core_arguments_given s (ACoreInstance (core_instances.Instantiate m args)) =
    all_differ same_text (map (λ (a : CoreArg). a.name) args) && if_there (λ (t : ModuleType). list_all (core_import_given s args) t.imports) (slice_get s.core_modules m)
core_arguments_given s _ = true

-- 5: it is of the type that the module imports
abbrev pub core_import_met : Space → List CoreArg → CoreImport → Bool
core_import_met s args i = if_there (λ item. meets item i.item) (option_and_then (core_look_up i.name) (argument_for s i.«module» args))

abbrev pub core_arguments_meet : Space → Definition → Bool
core_arguments_meet s (ACoreInstance (core_instances.Instantiate m args)) = if_there (λ (t : ModuleType). list_all (core_import_met s args) t.imports) (slice_get s.core_modules m)
core_arguments_meet s _ = true

-- ---- rule 6: the names of an instance that is written out differ; core names are compared exactly

abbrev pub inline_names_differ : Definition → Bool
inline_names_differ (ACoreInstance (core_instances.Inline exports)) = all_differ same_text (map (λ (e : CoreNamed). e.name) exports)
inline_names_differ (AnInstance (instances.Inline exports)) = all_differ is_same_name (map (λ (e : NamedItem). e.name) exports)
inline_names_differ _ = true

-- ---- rule 7: an alias names an export of its sort

abbrev pub is_of_sort : Sort → Item → Bool
is_of_sort sorts.Func (FuncItem ty) = true
is_of_sort sorts.Type (KindItem kind) = true
is_of_sort sorts.Instance (InstanceItem entries) = true
is_of_sort _ _ = false

abbrev pub is_core_func : CoreItem → Bool
is_core_func (core_items.Func ty) = true
is_core_func _ = false

abbrev pub is_core_table : CoreItem → Bool
is_core_table (core_items.Table ty limits) = true
is_core_table _ = false

abbrev pub is_core_memory : CoreItem → Bool
is_core_memory (core_items.Memory limits) = true
is_core_memory _ = false

abbrev pub is_core_global : CoreItem → Bool
is_core_global (core_items.Global ty variable) = true
is_core_global _ = false

abbrev pub is_of_core_sort : CoreSort → CoreItem → Bool
is_of_core_sort core_sorts.Func item = is_core_func item
is_of_core_sort core_sorts.Table item = is_core_table item
is_of_core_sort core_sorts.Memory item = is_core_memory item
is_of_core_sort core_sorts.Global item = is_core_global item

abbrev pub has_item : (Item → Bool) → Option Item → Bool
has_item test None = false
has_item test (Some item) = test item

abbrev pub has_core_item : (CoreItem → Bool) → Option CoreItem → Bool
has_core_item test None = false
has_core_item test (Some item) = test item

abbrev pub exports_sort : Sort → Name → Entries → Bool
exports_sort sort name entries = has_item (is_of_sort sort) (look_up name entries)

abbrev pub alias_names_export : Space → Definition → Bool
alias_names_export s (AnAlias (aliases.Export sort i name)) = if_there (exports_sort sort name) (slice_get s.instances i)
alias_names_export s (AnAlias (aliases.CoreExport sort i name)) = if_there (λ exports. has_core_item (is_of_core_sort sort) (core_look_up name exports)) (slice_get s.core_instances i)
alias_names_export s (AType (ATypeAlias (type_aliases.Export i name))) = if_there (exports_sort sorts.Type name) (slice_get s.instances i)
alias_names_export s _ = true

-- ---- rule 8: "outer aliases" stay in the components around, and no resource crosses the border of a component that way; what a
-- component imports names no resource of its own

-- the border of a component lies within that many scopes
abbrev pub leaves_component : List Space → ℕ → Bool
leaves_component scopes count = list_any (λ (scope : Space). scope.is_component) (take count scopes)

abbrev pub names_none : TypeEntry → Bool
names_none entry = not (is_filled (named_in_kind entry.kind))

abbrev pub type_stays : List Space → ℕ → ℕ → Bool
type_stays scopes count i = nat_lt count (length scopes)
    && (not (leaves_component scopes count) || if_there (λ (scope : Space). if_there names_none (slice_get scope.types i)) (slice_get scopes count))

abbrev pub outer_stays : List Space → OuterSort → ℕ → ℕ → Bool
outer_stays scopes outer_sorts.Type count i = type_stays scopes count i
outer_stays scopes outer_sorts.CoreModule count i = nat_lt count (length scopes)
outer_stays scopes outer_sorts.Component count i = nat_lt count (length scopes)

abbrev pub named_at : Option Kind → List ℕ
named_at None = []
named_at (Some kind) = named_in_kind kind

-- the resources that a description names
abbrev pub named_in_desc : Space → ExternDesc → List ℕ
named_in_desc s (descs.Func i) = named_in_func (func_in (kind_at s i))
named_in_desc s (descs.TypeEq i) = named_at (kind_at s i)
named_in_desc s descs.Resource = []
named_in_desc s (descs.Instance i) = named_at (kind_at s i)

abbrev pub stays_inside : List Space → Space → Definition → Bool
stays_inside around s (AnAlias (aliases.Outer sort count i)) = outer_stays (s ∷ around) sort count i
stays_inside around s (AType (ATypeAlias (type_aliases.Outer count i))) = type_stays (s ∷ around) count i
stays_inside around s (AnImport i) = list_all (is_among s.imported) (named_in_desc s i.desc)
stays_inside around s _ = true

-- ---- rule 9: records, variants, tuples, flags and enums are not empty, their labels differ, and there are at most 32 flags

abbrev pub labels_differ : List Name → Bool
labels_differ labels = all_differ is_same_name labels

abbrev pub def_is_filled : TypeDef → Bool
def_is_filled (defs.Record fields) = is_filled fields && labels_differ (map (λ (f : LabelType). f.label) fields)
def_is_filled (defs.Variant cases) = is_filled cases && labels_differ (map (λ (c : CaseType). c.label) cases)
def_is_filled (defs.Tuple types) = is_filled types
def_is_filled (defs.Flags labels) = is_filled labels && labels_differ labels && nat_le (length labels) 32
def_is_filled (defs.Enum labels) = is_filled labels && labels_differ labels
def_is_filled _ = true

abbrev pub types_are_filled : Definition → Bool
types_are_filled (AType (ATypeDef d)) = def_is_filled d
types_are_filled _ = true

-- ---- rule 10: a type is at most 100 deep, and has at most 1,000,000 parts when it is written out (limits of this product)

abbrev pub is_within_limits : TypeEntry → Bool
is_within_limits entry = nat_le entry.depth 100 && nat_le (kind_parts entry.kind) 1000000

abbrev pub types_are_small : Space → Definition → Bool
types_are_small s (AType (ATypeDef d)) = is_within_limits (record { kind = kind_of s d; depth = kind_depth (kind_of s d) })
types_are_small s _ = true

-- ---- rule 11: a value type, a function type or an instance type stands where one is due

abbrev pub is_value : Kind → Bool
is_value (ValueKind ty) = true
is_value _ = false

abbrev pub is_func : Kind → Bool
is_func (FuncKind ty) = true
is_func _ = false

abbrev pub is_instance : Kind → Bool
is_instance (InstanceKind own entries) = true
is_instance _ = false

abbrev pub value_is_due : Space → ValType → Bool
value_is_due s (values.Primitive p) = true
value_is_due s (values.Index i) = if_there is_value (kind_at s i)

abbrev pub def_has_values : Space → TypeDef → Bool
def_has_values s (defs.Record fields) = list_all (λ f. value_is_due s f.ty) fields
def_has_values s (defs.Variant cases) = list_all (λ c. if_there (value_is_due s) c.ty) cases
def_has_values s (defs.List item) = value_is_due s item
def_has_values s (defs.Tuple types) = list_all (value_is_due s) types
def_has_values s (defs.Option item) = value_is_due s item
def_has_values s (defs.Result ok err) = if_there (value_is_due s) ok && if_there (value_is_due s) err
def_has_values s (defs.Func params result) = list_all (λ p. value_is_due s p.ty) params && if_there (value_is_due s) result
def_has_values s _ = true

abbrev pub desc_has_kind : Space → ExternDesc → Bool
desc_has_kind s (descs.Func i) = if_there is_func (kind_at s i)
desc_has_kind s (descs.TypeEq i) = true
desc_has_kind s descs.Resource = true
desc_has_kind s (descs.Instance i) = if_there is_instance (kind_at s i)

abbrev pub kinds_are_due : Space → Definition → Bool
kinds_are_due s (AType (ATypeDef d)) = def_has_values s d
kinds_are_due s (AType (ATypeExport name desc)) = desc_has_kind s desc
kinds_are_due s (ACanon (canons.Lift func options ty)) = if_there is_func (kind_at s ty)
kinds_are_due s (AnImport i) = desc_has_kind s i.desc
kinds_are_due s (AnExport e) = if_there (desc_has_kind s) e.desc
kinds_are_due s _ = true

-- ---- rule 12: `own`, `borrow` and the functions of a resource name a resource

abbrev pub is_resource : Kind → Bool
is_resource (ResourceKind r) = true
is_resource _ = false

abbrev pub resource_is_due : Space → ℕ → Bool
resource_is_due s i = if_there is_resource (kind_at s i)

abbrev pub resources_are_due : Space → Definition → Bool
resources_are_due s (AType (ATypeDef (defs.Own i))) = resource_is_due s i
resources_are_due s (AType (ATypeDef (defs.Borrow i))) = resource_is_due s i
resources_are_due s (ACanon (canons.ResourceNew i)) = resource_is_due s i
resources_are_due s (ACanon (canons.ResourceDrop i)) = resource_is_due s i
resources_are_due s (ACanon (canons.ResourceRep i)) = resource_is_due s i
resources_are_due s _ = true

-- ---- rule 13: the names of parameters differ, and no result has a borrowed handle in it

abbrev pub functions_are_sound : Space → Definition → Bool
functions_are_sound s (AType (ATypeDef (defs.Func params result))) =
    labels_differ (map (λ (p : LabelType). p.label) params) && if_there (λ v. not (has_borrow (value_of s v))) result
functions_are_sound s _ = true

-- ---- rule 14: a component defines resources, an instance type does not; a destructor takes the representation and gives nothing

abbrev pub is_destructor : CoreFunc → Bool
is_destructor f = same_func f (record { params = I32 ∷ []; results = [] })

abbrev pub resources_are_sound : Space → Definition → Bool
resources_are_sound s (AType (ATypeDef (defs.Resource destructor))) = s.is_component && if_there (λ i. if_there is_destructor (core_func_at s i)) destructor
resources_are_sound s _ = true

-- ---- rules 15, 19 and 21: the names of an instance type, the names of imports and the names of exports differ

abbrev pub is_new_in : Entries → Name → Bool
is_new_in entries name = not (list_any (is_same_name name) (names entries))

abbrev pub declared_name_is_new : Space → Definition → Bool
declared_name_is_new s (AType (ATypeExport name desc)) = is_new_in s.exports name
declared_name_is_new s _ = true

abbrev pub imported_name_is_new : Space → Definition → Bool
imported_name_is_new s (AnImport i) = is_new_in s.imports i.name
imported_name_is_new s _ = true

abbrev pub exported_name_is_new : Space → Definition → Bool
exported_name_is_new s (AnExport e) = is_new_in s.exports e.name
exported_name_is_new s _ = true

-- ---- rule 16: what is lifted has the core type to which the function type is flattened

abbrev pub is_lifted_from : CoreFunc → Kind → Bool
is_lifted_from f (FuncKind ty) = same_func f (lifted_type ty)
is_lifted_from f _ = true

abbrev pub lifts_flat_type : Space → Definition → Bool
lifts_flat_type s (ACanon (canons.Lift func options ty)) = if_there (λ f. if_there (is_lifted_from f) (kind_at s ty)) (core_func_at s func)
lifts_flat_type s _ = true

-- ---- rule 17: options: none stands twice, memory and realloc are there where they are needed, and functions have their types

abbrev pub is_same_option : CanonOption → CanonOption → Bool
is_same_option opts.Utf8 opts.Utf8 = true
is_same_option (opts.Memory i) (opts.Memory j) = true
is_same_option (opts.Realloc i) (opts.Realloc j) = true
is_same_option (opts.PostReturn i) (opts.PostReturn j) = true
is_same_option _ _ = false

abbrev pub is_memory : CanonOption → Bool
is_memory (opts.Memory i) = true
is_memory _ = false

abbrev pub is_realloc : CanonOption → Bool
is_realloc (opts.Realloc i) = true
is_realloc _ = false

-- what a lifted function of this type gives, its post-return takes
abbrev pub post_return_type : PlainFunc → CoreFunc
post_return_type ty = record { params = (lifted_type ty).results; results = [] }

-- the place and length of the old bytes, an alignment and the new length; it gives the new place
abbrev pub realloc_type : CoreFunc
realloc_type = record { params = I32 ∷ I32 ∷ I32 ∷ I32 ∷ []; results = I32 ∷ [] }

-- only a lifted function has a post-return; `at` is the type of the core function at an index
abbrev pub option_is_sound : (at : ℕ → Option CoreFunc) → (post_return : Option CoreFunc) → CanonOption → Bool
option_is_sound at post opts.Utf8 = true
option_is_sound at post (opts.Memory i) = true
option_is_sound at post (opts.Realloc i) = if_there (λ f. same_func f realloc_type) (at i)
option_is_sound at None (opts.PostReturn i) = false
option_is_sound at (Some ty) (opts.PostReturn i) = if_there (λ f. same_func f ty) (at i)

abbrev pub is_there_if_needed : Bool → (CanonOption → Bool) → List CanonOption → Bool
is_there_if_needed needed test options = not needed || list_any test options

abbrev pub are_sound : (at : ℕ → Option CoreFunc) → (memory realloc : Bool) → (post_return : Option CoreFunc) → List CanonOption → Bool
are_sound at memory realloc post options =
    (all_differ is_same_option options && list_all (option_is_sound at post) options)
    && (is_there_if_needed memory is_memory options && is_there_if_needed realloc is_realloc options)

abbrev pub lift_options : (at : ℕ → Option CoreFunc) → PlainFunc → List CanonOption → Bool
lift_options at ty options = are_sound at (needs_memory ty) (lift_needs_realloc ty) (Some (post_return_type ty)) options

abbrev pub lower_options : (at : ℕ → Option CoreFunc) → PlainFunc → List CanonOption → Bool
lower_options at ty options = are_sound at (needs_memory ty) (lower_needs_realloc ty) None options

abbrev pub options_are_sound : Space → Definition → Bool
options_are_sound s (ACanon (canons.Lift func options ty)) = lift_options (core_func_at s) (func_in (kind_at s ty)) options
options_are_sound s (ACanon (canons.Lower func options)) = if_there (λ ty. lower_options (core_func_at s) ty options) (slice_get s.functions func)
options_are_sound s _ = true

-- ---- rule 18: `resource.new` and `resource.rep` are for the component that defines the resource

abbrev pub is_defined_here : Space → Kind → Bool
is_defined_here s (ResourceKind r) = is_among s.defined r
is_defined_here s _ = true

abbrev pub resource_is_own : Space → Definition → Bool
resource_is_own s (ACanon (canons.ResourceNew i)) = if_there (is_defined_here s) (kind_at s i)
resource_is_own s (ACanon (canons.ResourceRep i)) = if_there (is_defined_here s) (kind_at s i)
resource_is_own s _ = true

-- ---- rule 20: names are legal: those of imports and exports, of instances, and the labels of types

abbrev pub def_labels : TypeDef → List Name
def_labels (defs.Record fields) = map (λ (f : LabelType). f.label) fields
def_labels (defs.Variant cases) = map (λ (c : CaseType). c.label) cases
def_labels (defs.Flags labels) = labels
def_labels (defs.Enum labels) = labels
def_labels (defs.Func params result) = map (λ (p : LabelType). p.label) params
def_labels _ = []

abbrev pub names_are_legal : Definition → Bool
names_are_legal (AnInstance (instances.Inline exports)) = list_all (λ (e : NamedItem). is_legal e.name) exports
names_are_legal (AType (ATypeDef d)) = list_all is_label (def_labels d)
names_are_legal (AType (ATypeExport name desc)) = is_legal name
names_are_legal (AnImport i) = is_legal i.name
names_are_legal (AnExport e) = is_legal e.name
names_are_legal _ = true

-- ---- rule 22: the type that an export states is a supertype of what it exports

-- resources that stand for themselves
abbrev pub as_they_are : List ℕ → List (ℕ × ℕ)
as_they_are rs = map (λ r. (r, r)) rs

-- an instance with each of these entries; the resources that the instance type declares are any
abbrev pub IsInstanceOf : Option Item → List ℕ × Entries → Type 0
IsInstanceOf item ty = (entries : Entries) × (item ≡ Some (InstanceItem entries)) × IsSubtype entries ty.1 (as_they_are (named_in_kind (InstanceKind ty.0 ty.1)))

abbrev pub IsKind : Option Item → Option Kind → Type 0
IsKind item None = ⊤
IsKind item (Some kind) = (other : Item) × (item ≡ Some other) × IsEqualType other (KindItem kind)

abbrev pub IsStated : Space → Option Item → ExternDesc → Type 0
IsStated s item (descs.Func i) = (other : Item) × (item ≡ Some other) × IsEqualType other (FuncItem (func_in (kind_at s i)))
IsStated s item (descs.TypeEq i) = IsKind item (kind_at s i)
IsStated s item descs.Resource = (r : ℕ) × (item ≡ Some (KindItem (ResourceKind r)))
IsStated s item (descs.Instance i) = IsInstanceOf item (instance_in (kind_at s i))

abbrev pub IsStatedIfAny : Space → Option Item → Option ExternDesc → Type 0
IsStatedIfAny s item None = ⊤
IsStatedIfAny s item (Some desc) = IsStated s item desc

abbrev pub StatedTypesFit : Space → Definition → Type 0
StatedTypesFit s (AnExport e) = IsStatedIfAny s (item_at s e.sort e.index) e.desc
StatedTypesFit s _ = ⊤

-- ---- rule 23: the names of the arguments of a component differ, and each import has an argument that is a subtype of it

abbrev pub MeetsComponent : Entries → Option NestedComponent → Type 0
MeetsComponent args None = ⊤
MeetsComponent args (Some c) = MeetsImports args c.signature.imports

abbrev pub ArgumentsFit : Space → Definition → Type 0
ArgumentsFit s (AnInstance (instances.Instantiate c args)) = IsTrue (all_differ is_same_name (map (λ (a : NamedItem). a.name) args))
    × MeetsComponent (named_items s args) (slice_get s.components c)
ArgumentsFit s _ = ⊤

-- ---- rule 24: the resource of an annotated name stands before it in the same list, and its function is one of that resource

abbrev pub resource_of : Option Item → Option ℕ
resource_of (Some (KindItem (ResourceKind r))) = Some r
resource_of _ = None

abbrev pub is_own_of : ℕ → Option Plain → Bool
is_own_of r (Some (OwnType x)) = x == r
is_own_of r _ = false

abbrev pub begins_with_borrow_of : ℕ → Parts → Bool
begins_with_borrow_of r (AndPart name (BorrowType x) rest) = x == r
begins_with_borrow_of r _ = false

abbrev pub is_function_of : Annotation → ℕ → Item → Bool
is_function_of annotations.Constructor r (FuncItem ty) = is_own_of r ty.answer
is_function_of annotations.Method r (FuncItem ty) = begins_with_borrow_of r ty.params
is_function_of annotations.Static r (FuncItem ty) = true
is_function_of _ r _ = false

abbrev pub has_resource : (ℕ → Bool) → Option ℕ → Bool
has_resource test None = false
has_resource test (Some r) = test r

abbrev pub annotation_fits : Entries → Option (Annotation × Name) → Item → Bool
annotation_fits before None item = true
annotation_fits before (Some a) item = has_resource (λ r. is_function_of a.0 r item) (resource_of (look_up a.1 before))

abbrev pub name_fits : Entries → Name → Item → Bool
name_fits before name item = annotation_fits before (annotation_of name) item

-- each entry of an instance that is written out, with those before it
abbrev pub names_fit_in : Space → List NamedItem → List NamedItem → Bool
names_fit_in s before [] = true
names_fit_in s before (e ∷ es) = if_there (name_fits (named_items s before) e.name) (item_at s e.sort e.index) && names_fit_in s (before ++ e ∷ []) es

abbrev pub annotations_fit : Space → Definition → Bool
annotations_fit s (AnInstance (instances.Inline exports)) = names_fit_in s [] exports
annotations_fit s (AType (ATypeExport name desc)) = name_fits s.exports name (described s desc)
annotations_fit s (AnImport i) = name_fits s.imports i.name (described s i.desc)
annotations_fit s (AnExport e) = if_there (name_fits s.exports e.name) (exported s e)
annotations_fit s _ = true

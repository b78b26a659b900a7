-- What each definition adds to the index spaces (Component Model, Explainer.md, "Index Spaces"): each adds the next index of its
-- sort. A definition at fault adds whatever is there.
use Rattle.std.specs.Prelude.{ℕ, ◌+◌, List, [], ◌∷◌, ◌++◌, true, false, max, map, length, Option, Some, None, slice_get}
use Rattle.std.specs.Option.{option_and_then}
use Rattle.virt_base.specs.declared.core_type.CoreType.TheVariants.{I32}
use Rattle.wasm_ast.specs.declared.module.CoreFunc.{CoreFunc}
use Rattle.wasm_ast.specs.declared.component.CoreInstance.{CoreInstance}
use Rattle.wasm_ast.specs.declared.component.CoreInstance.TheVariants as core_instances
use Rattle.wasm_ast.specs.declared.component.CoreExport.{CoreExport as CoreNamed}
use Rattle.wasm_ast.specs.declared.component.Sort.{Sort}
use Rattle.wasm_ast.specs.declared.component.Sort.TheVariants as sorts
use Rattle.wasm_ast.specs.declared.component.NamedItem.{NamedItem}
use Rattle.wasm_ast.specs.declared.component.Instance.{Instance}
use Rattle.wasm_ast.specs.declared.component.Instance.TheVariants as instances
use Rattle.wasm_ast.specs.declared.component.OuterSort.{OuterSort}
use Rattle.wasm_ast.specs.declared.component.OuterSort.TheVariants as outer_sorts
use Rattle.wasm_ast.specs.declared.component.Alias.{Alias}
use Rattle.wasm_ast.specs.declared.component.Alias.TheVariants as aliases
use Rattle.wasm_ast.specs.declared.component.ExternDesc.{ExternDesc}
use Rattle.wasm_ast.specs.declared.component.ExternDesc.TheVariants as descs
use Rattle.wasm_ast.specs.declared.component.TypeAlias.{TypeAlias}
use Rattle.wasm_ast.specs.declared.component.TypeAlias.TheVariants as type_aliases
use Rattle.wasm_ast.specs.declared.component.TypeDef.{TypeDef}
use Rattle.wasm_ast.specs.declared.component.TypeDef.TheVariants as defs
use Rattle.wasm_ast.specs.declared.component.Canon.{Canon}
use Rattle.wasm_ast.specs.declared.component.Canon.TheVariants as canons
use Rattle.wasm_ast.specs.declared.component.ComponentImport.{ComponentImport}
use Rattle.wasm_ast.specs.declared.component.ComponentExport.{ComponentExport}
use Rattle.core_validate.specs.declared.item.CoreItem.{CoreItem}
use Rattle.core_validate.specs.declared.item.CoreItem.TheVariants as core_items
use Rattle.core_validate.specs.declared.item.CoreExport.{CoreExport}
use Rattle.core_validate.specs.declared.item.ModuleType.{ModuleType}
use Rattle.core_validate.specs.Typed as core
use Rattle.wit_types.specs.Plain.{Name, PlainFunc}
use Rattle.comp_types.specs.Items.{Item, Kind, Entries, Signature, FuncItem, InstanceItem, KindItem, ResourceKind, InstanceKind, End, More, look_up, and_entry}
use Rattle.comp_grammar.specs.Trees.{Part, Tree, CoreModule, Nested, End as NoParts, More as Section}
use Rattle.comp_types.specs.Declarations.{Declaration, Declarations, ATypeDef, AnInstanceType, ATypeAlias, ATypeExport, Done, Then}
use Rattle.comp_types.specs.Spaces.{Space, TypeEntry, NestedComponent, empty_space, core_item_at, kind_at, item_at, and_core_item, and_type, entry_of, and_item}
use Rattle.comp_types.specs.GivenResources.{without, named_in, distinct, numbered, renamed, given_by}
use Rattle.comp_types.specs.Types.{func_in, instance_in, kind_of}
use Rattle.comp_types.specs.Flat.{lowered_type}
use Rattle.comp_types.specs.CoreMatching.{core_look_up}
use Rattle.comp_types.specs.Definitions.{Definition, ACoreInstance, AnInstance, AnAlias, AType, ACanon, AnImport, AnExport, definitions}

-- ---- core instances

abbrev pub exports_in : Option ModuleType → List CoreExport
exports_in None = []
exports_in (Some m) = m.exports

abbrev pub and_core_named : Option CoreItem → Name → List CoreExport → List CoreExport
and_core_named None name rest = rest
and_core_named (Some item) name rest = record { name = name; item = item } ∷ rest

abbrev pub core_named : Space → List CoreNamed → List CoreExport
core_named s [] = []
core_named s (e ∷ es) = and_core_named (core_item_at s e.sort e.index) e.name (core_named s es)

abbrev pub core_exports : Space → CoreInstance → List CoreExport
core_exports s (core_instances.Instantiate m args) = exports_in (slice_get s.core_modules m)
core_exports s (core_instances.Inline exports) = core_named s exports

abbrev pub and_core_instance : Space → List CoreExport → Space
and_core_instance s exports = record s { core_instances = s.core_instances ++ exports ∷ [] }

-- ---- instances

abbrev pub and_named : Option Item → Name → Entries → Entries
and_named None name rest = rest
and_named (Some item) name rest = More name item rest

abbrev pub named_items : Space → List NamedItem → Entries
named_items s [] = End
named_items s (e ∷ es) = and_named (item_at s e.sort e.index) e.name (named_items s es)

-- The exports of the component, with what the arguments give for the resources of its imports. Its own resources are others each
-- time.
abbrev pub and_instantiated : Space → Option NestedComponent → Entries → Space
and_instantiated s None args = and_item s (InstanceItem End)
and_instantiated s (Some c) args = record (and_item s (InstanceItem (renamed (given_by args c.signature.imports ++ numbered c.own s.next) c.signature.exports)))
    { next = s.next + length c.own }

abbrev pub and_instance : Space → Instance → Space
and_instance s (instances.Instantiate c args) = and_instantiated s (slice_get s.components c) (named_items s args)
and_instance s (instances.Inline exports) = and_item s (InstanceItem (named_items s exports))

-- ---- aliases

abbrev pub and_some_item : Space → Option Item → Space
and_some_item s None = s
and_some_item s (Some item) = and_item s item

abbrev pub and_some_core_item : Space → Option CoreItem → Space
and_some_core_item s None = s
and_some_core_item s (Some item) = and_core_item s item

abbrev pub and_some_type : Space → Option TypeEntry → Space
and_some_type s None = s
and_some_type s (Some entry) = and_type s entry

abbrev pub and_module : Space → ModuleType → Space
and_module s m = record s { core_modules = s.core_modules ++ m ∷ [] }

abbrev pub and_some_module : Space → Option ModuleType → Space
and_some_module s None = s
and_some_module s (Some m) = and_module s m

abbrev pub and_component : Space → NestedComponent → Space
and_component s c = record s { components = s.components ++ c ∷ [] }

abbrev pub and_some_component : Space → Option NestedComponent → Space
and_some_component s None = s
and_some_component s (Some c) = and_component s c

-- what stands at an index of a scope further out
abbrev pub and_outer : Space → OuterSort → Option Space → ℕ → Space
and_outer s sort None index = s
and_outer s outer_sorts.CoreModule (Some scope) index = and_some_module s (slice_get scope.core_modules index)
and_outer s outer_sorts.Type (Some scope) index = and_some_type s (slice_get scope.types index)
and_outer s outer_sorts.Component (Some scope) index = and_some_component s (slice_get scope.components index)

abbrev pub and_alias : List Space → Space → Alias → Space
and_alias around s (aliases.Export sort instance name) = and_some_item s (option_and_then (look_up name) (slice_get s.instances instance))
and_alias around s (aliases.CoreExport sort instance name) = and_some_core_item s (option_and_then (core_look_up name) (slice_get s.core_instances instance))
and_alias around s (aliases.Outer sort count index) = and_outer s sort (slice_get (s ∷ around) count) index

-- ---- descriptions

-- the resources that an import or an export of this type brings: they have new numbers
abbrev pub brought : Space → ExternDesc → List (ℕ × ℕ)
brought s (descs.Func i) = []
brought s (descs.TypeEq i) = []
brought s descs.Resource = (s.next, s.next) ∷ []
brought s (descs.Instance i) = numbered (instance_in (kind_at s i)).0 s.next

abbrev pub kind_item : Option Kind → Item
kind_item None = FuncItem (func_in None)
kind_item (Some kind) = KindItem kind

-- what it is
abbrev pub described : Space → ExternDesc → Item
described s (descs.Func i) = FuncItem (func_in (kind_at s i))
described s (descs.TypeEq i) = kind_item (kind_at s i)
described s descs.Resource = KindItem (ResourceKind s.next)
described s (descs.Instance i) = InstanceItem (renamed (brought s (descs.Instance i)) (instance_in (kind_at s i)).1)

abbrev pub depth_in : Option TypeEntry → ℕ
depth_in None = 1
depth_in (Some entry) = entry.depth

abbrev pub described_depth : Space → ExternDesc → ℕ
described_depth s (descs.Func i) = depth_in (slice_get s.types i)
described_depth s (descs.TypeEq i) = depth_in (slice_get s.types i)
described_depth s descs.Resource = 1
described_depth s (descs.Instance i) = depth_in (slice_get s.types i)

-- its index, and the numbers of its resources
abbrev pub and_index : Space → ExternDesc → Space
and_index s (descs.TypeEq i) = and_some_type s (slice_get s.types i)
and_index s desc = and_item s (described s desc)

abbrev pub and_described : Space → ExternDesc → Space
and_described s desc = record (and_index s desc) { next = s.next + length (brought s desc) }

abbrev pub new_numbers : List (ℕ × ℕ) → List ℕ
new_numbers pairs = map (λ (p : ℕ × ℕ). p.1) pairs

-- ---- types

abbrev pub and_resource : Space → TypeDef → Space
and_resource s (defs.Resource destructor) = record s { defined = s.defined ++ s.next ∷ []; next = s.next + 1 }
and_resource s d = s

-- a definition in which no other stands
abbrev pub and_type_def : Space → TypeDef → Space
and_type_def s d = and_resource (and_type s (entry_of (kind_of s d))) d

abbrev pub and_depth : Space → ℕ → Space
and_depth s depth = record s { deepest = max s.deepest depth }

-- the scope of an instance type in this one
abbrev pub opened : Space → Space
opened s = empty_space false s.next

-- An instance type, of its own scope. It is one deeper than the deepest type that it defines or exports.
abbrev pub instance_type : Space → TypeEntry
instance_type inner = record { kind = InstanceKind inner.defined inner.exports; depth = inner.deepest + 1 }

abbrev pub and_instance_type : Space → Space → Space
and_instance_type s inner = record (and_type s (instance_type inner)) { next = inner.next }

abbrev pub and_type_alias : List Space → Space → TypeAlias → Space
and_type_alias around s (type_aliases.Export instance name) = and_some_item s (option_and_then (look_up name) (slice_get s.instances instance))
and_type_alias around s (type_aliases.Outer count index) = and_outer s outer_sorts.Type (slice_get (s ∷ around) count) index

abbrev pub and_type_export : Space → Name → ExternDesc → Space
and_type_export s name desc = record (and_depth (and_described s desc) (described_depth s desc)) {
  exports = and_entry s.exports name (described s desc);
  defined = s.defined ++ new_numbers (brought s desc);
}

abbrev mutual
  -- a definition of a section, or a declaration
  pub after_declaration : List Space → Space → Declaration → Space
  after_declaration around s (ATypeDef d) = and_depth (and_type_def s d) (entry_of (kind_of s d)).depth
  after_declaration around s (AnInstanceType ds) = and_depth (and_instance_type s (after_declarations (s ∷ around) (opened s) ds)) (instance_type (after_declarations (s ∷ around) (opened s) ds)).depth
  after_declaration around s (ATypeAlias a) = and_type_alias around s a
  after_declaration around s (ATypeExport name desc) = and_type_export s name desc

  pub after_declarations : List Space → Space → Declarations → Space
  after_declarations around s Done = s
  after_declarations around s (Then d ds) = after_declarations around (after_declaration around s d) ds

-- ---- canonical functions

abbrev pub takes_and_gives : CoreFunc
takes_and_gives = record { params = I32 ∷ []; results = I32 ∷ [] }

abbrev pub takes_one : CoreFunc
takes_one = record { params = I32 ∷ []; results = [] }

abbrev pub lowered_at : Option PlainFunc → CoreFunc
lowered_at None = lowered_type (func_in None)
lowered_at (Some ty) = lowered_type ty

abbrev pub and_canon : Space → Canon → Space
and_canon s (canons.Lift func options ty) = and_item s (FuncItem (func_in (kind_at s ty)))
and_canon s (canons.Lower func options) = and_core_item s (core_items.Func (lowered_at (slice_get s.functions func)))
and_canon s (canons.ResourceNew ty) = and_core_item s (core_items.Func takes_and_gives)
and_canon s (canons.ResourceDrop ty) = and_core_item s (core_items.Func takes_one)
and_canon s (canons.ResourceRep ty) = and_core_item s (core_items.Func takes_and_gives)

-- ---- imports and exports

abbrev pub and_import : Space → ComponentImport → Space
and_import s i = record (and_described s i.desc) {
  imports = and_entry s.imports i.name (described s i.desc);
  imported = s.imported ++ new_numbers (brought s i.desc);
}

-- the same item once more
abbrev pub and_again : Space → Sort → ℕ → Space
and_again s sorts.Type index = and_some_type s (slice_get s.types index)
and_again s sorts.Func index = and_some_item s (item_at s sorts.Func index)
and_again s sorts.Instance index = and_some_item s (item_at s sorts.Instance index)

-- what is exported, by its stated type if it states one
abbrev pub exported : Space → ComponentExport → Option Item
exported s e = elim e.desc [ None ↦ item_at s e.sort e.index | Some desc ↦ Some (described s desc) ]

abbrev pub and_export_index : Space → ComponentExport → Option ExternDesc → Space
and_export_index s e None = and_again s e.sort e.index
and_export_index s e (Some desc) = and_described s desc

abbrev pub and_some_entry : Entries → Name → Option Item → Entries
and_some_entry entries name None = entries
and_some_entry entries name (Some item) = and_entry entries name item

abbrev pub and_export : Space → ComponentExport → Space
and_export s e = record (and_export_index s e e.desc) { exports = and_some_entry s.exports e.name (exported s e) }

-- ---- all definitions

abbrev pub after : List Space → Space → Definition → Space
after around s (ACoreInstance i) = and_core_instance s (core_exports s i)
after around s (AnInstance i) = and_instance s i
after around s (AnAlias a) = and_alias around s a
after around s (AType d) = after_declaration around s d
after around s (ACanon c) = and_canon s c
after around s (AnImport i) = and_import s i
after around s (AnExport e) = and_export s e

abbrev pub after_all : List Space → Space → List Definition → Space
after_all around s [] = s
after_all around s (d ∷ ds) = after_all around (after around s d) ds

-- ---- components

-- the scope of a component in this one
abbrev pub entered : Space → Space
entered s = empty_space true s.next

abbrev pub signature_of : Space → Signature
signature_of inner = record { imports = inner.imports; exports = inner.exports }

abbrev pub nested_of : Space → NestedComponent
nested_of inner = record { signature = signature_of inner; own = without inner.imported (distinct (named_in inner.exports)) }

abbrev pub and_nested : Space → Space → Space
and_nested s inner = record (and_component s (nested_of inner)) { next = inner.next }

abbrev mutual
  pub after_part : List Space → Space → Part → Space
  after_part around s (CoreModule span m) = and_module s (core.type_of m)
  after_part around s (Nested span tree) = and_nested s (after_tree (s ∷ around) (entered s) tree)
  after_part around s part = after_all around s (definitions part)

  pub after_tree : List Space → Space → Tree → Space
  after_tree around s NoParts = s
  after_tree around s (Section part rest) = after_tree around (after_part around s part) rest

abbrev pub root : Space
root = empty_space true 0

-- the type of a component: what it imports and exports
abbrev pub type_of : Tree → Signature
type_of tree = signature_of (after_tree [] root tree)

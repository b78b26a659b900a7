-- A component inside another one: the resources of its index spaces have later numbers there. (This project's own.)
use Rattle.std.specs.Prelude.{◌≡◌, ℕ, ◌+◌, ◌<◌, List, [], ◌∷◌, map, true}
use Rattle.std.specs.Option.{option_map}
use Rattle.wasm_ast.specs.declared.component.Alias.TheVariants as aliases
use Rattle.wasm_ast.specs.declared.component.TypeAlias.TheVariants as type_aliases
use Rattle.comp_types.specs.Substitution.{func_with, item_with, kind_with, entries_with}
use Rattle.comp_grammar.specs.Trees.{Part, Tree, CoreModule, Nested, End as NoParts, More as Section}
use Rattle.comp_types.specs.Declarations.{Declaration, Declarations, ATypeDef, AnInstanceType, ATypeAlias, ATypeExport, Done, Then as Declaring}
use Rattle.comp_types.specs.Definitions.{Definition, AnAlias, AType, definitions}
use Rattle.comp_types.specs.Spaces.{Space, TypeEntry, NestedComponent, empty_space}
use Rattle.comp_types.specs.Added.{after_tree, root}
use Rattle.comp_types.specs.Validity.{IsValidComponent}
use Rattle.comp_link.specs.Plans.{Named, AFunc, AnInstanceAt, AResource, AValueType, NamedArg, Plan, Planned, End, Then, OfModule, OfCoreItems, CoreItemOf, OfComponent, OfItems, ItemOf, NewResource, Lifts, Lowers, MakesResource, DropsResource, ReadsResource, Imports, Exports, Scope, no_scope, plan_tree, plan_of}

abbrev pub later : ℕ → ℕ → ℕ
later k r = k + r

abbrev pub pair_later : ℕ → ℕ × ℕ → ℕ × ℕ
pair_later k pair = (k + pair.0, k + pair.1)

-- ---- index spaces

abbrev pub entry_later : ℕ → TypeEntry → TypeEntry
entry_later k e = record { kind = kind_with (later k) e.kind; depth = e.depth }

abbrev pub nested_later : ℕ → NestedComponent → NestedComponent
nested_later k c = record { signature = record { imports = entries_with (later k) c.signature.imports; exports = entries_with (later k) c.signature.exports }; own = map (later k) c.own }

abbrev pub space_later : ℕ → Space → Space
space_later k s = record {
  is_component = s.is_component;
  core_functions = s.core_functions;
  core_tables = s.core_tables;
  core_memories = s.core_memories;
  core_globals = s.core_globals;
  core_modules = s.core_modules;
  core_instances = s.core_instances;
  functions = map (func_with (later k)) s.functions;
  types = map (entry_later k) s.types;
  instances = map (entries_with (later k)) s.instances;
  components = map (nested_later k) s.components;
  imports = entries_with (later k) s.imports;
  exports = entries_with (later k) s.exports;
  imported = map (later k) s.imported;
  defined = map (later k) s.defined;
  deepest = s.deepest;
  next = k + s.next;
}

-- ---- plans

abbrev pub named_later : ℕ → Named → Named
named_later k (AFunc i) = AFunc i
named_later k (AnInstanceAt i) = AnInstanceAt i
named_later k (AResource r) = AResource (k + r)
named_later k AValueType = AValueType

abbrev pub arg_later : ℕ → NamedArg → NamedArg
arg_later k a = record { name = a.name; item = named_later k a.item }

abbrev mutual
  pub planned_later : ℕ → Planned → Planned
  planned_later k (OfModule m args) = OfModule m args
  planned_later k (OfCoreItems exports) = OfCoreItems exports
  planned_later k (CoreItemOf sort instance name) = CoreItemOf sort instance name
  planned_later k (OfComponent component own args) = OfComponent (plan_later k component) (map (pair_later k) own) (map (arg_later k) args)
  planned_later k (OfItems exports) = OfItems (map (arg_later k) exports)
  planned_later k (ItemOf sort instance name) = ItemOf sort instance name
  planned_later k (NewResource resource destructor) = NewResource (k + resource) destructor
  planned_later k (Lifts func options ty) = Lifts func options (func_with (later k) ty)
  planned_later k (Lowers func options ty) = Lowers func options ty
  planned_later k (MakesResource resource) = MakesResource (k + resource)
  planned_later k (DropsResource resource) = DropsResource (k + resource)
  planned_later k (ReadsResource resource) = ReadsResource (k + resource)
  planned_later k (Imports name item) = Imports name (item_with (later k) item)
  planned_later k (Exports name item stated) = Exports name (named_later k item) (option_map (item_with (later k)) stated)

  pub plan_later : ℕ → Plan → Plan
  plan_later k End = End
  plan_later k (Then item rest) = Then (planned_later k item) (plan_later k rest)

-- ---- no outer alias leads out of the component, where that many scopes are the component's own

abbrev mutual
  pub Declares : ℕ → Declaration → Type 0
  Declares n (ATypeDef d) = Unit {0}
  Declares n (AnInstanceType ds) = DeclareAll (n + 1) ds
  Declares n (ATypeAlias (type_aliases.Export instance name)) = Unit {0}
  Declares n (ATypeAlias (type_aliases.Outer count index)) = count < n
  Declares n (ATypeExport name desc) = Unit {0}

  pub DeclareAll : ℕ → Declarations → Type 0
  DeclareAll n Done = Unit {0}
  DeclareAll n (Declaring d ds) = Declares n d × DeclareAll n ds

abbrev pub Defines : ℕ → Definition → Type 0
Defines n (AnAlias (aliases.Outer sort count index)) = count < n
Defines n (AType d) = Declares n d
Defines n d = Unit {0}

abbrev pub DefineAll : ℕ → List Definition → Type 0
DefineAll n [] = Unit {0}
DefineAll n (d ∷ ds) = Defines n d × DefineAll n ds

abbrev mutual
  pub Stays : ℕ → Part → Type 0
  Stays n (CoreModule span m) = Unit {0}
  Stays n (Nested span tree) = StaysWhole (n + 1) tree
  Stays n part = DefineAll n (definitions part)

  pub StaysWhole : ℕ → Tree → Type 0
  StaysWhole n NoParts = Unit {0}
  StaysWhole n (Section part rest) = Stays n part × StaysWhole n rest

-- Its index spaces are those that it has alone, and so is its plan, wherever it stands; the next resource has the number k there.
abbrev pub SpacesInside : Type 0
SpacesInside = (around : List Space) (k : ℕ) (c : Tree) → StaysWhole 1 c → after_tree around (empty_space true k) c ≡ space_later k (after_tree [] root c)

abbrev pub PlannedInside : Type 0
PlannedInside = (around : List Space) (outside : List Scope) (k : ℕ) (c : Tree) → StaysWhole 1 c → plan_tree around outside (empty_space true k) no_scope c ≡ plan_later k (plan_of c)

-- as of each valid component
abbrev pub ValidStay : Type 0
ValidStay = (c : Tree) → IsValidComponent c → StaysWhole 1 c

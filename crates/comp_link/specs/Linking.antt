-- The group of instances that a plan makes. Instances get numbers as they are made, and resources as they are defined: those of the
-- outermost imports keep the numbers of the component's type, and the others get the numbers after these. Which places of its store an
-- instance's core functions have follows from the modules alone, since what runs meanwhile adds nothing: `shadow` is a store with as
-- many items.
use Rattle.std.specs.Prelude.{ℕ, ◌+◌, ◌&&◌, nat_eq, max, if◌then◌else◌, List, [], ◌∷◌, ◌++◌, length, slice_get, slice_index_or, Option, Some, None}
use Rattle.std.specs.Option.{option_map, option_and_then}
use Rattle.std.specs.List.{flat_map}
use Rattle.wasm_ast.specs.declared.module.Module.{Module}
use Rattle.wasm_ast.specs.declared.module.Import.{Import as ModuleImport}
use Rattle.wasm_ast.specs.declared.module.CoreFunc.{CoreFunc}
use Rattle.wasm_ast.specs.declared.component.CoreArg.{CoreArg}
use Rattle.wasm_ast.specs.declared.component.CoreExport.{CoreExport}
use Rattle.wasm_ast.specs.declared.component.CoreSort.{CoreSort}
use Rattle.wasm_ast.specs.declared.component.CoreSort.TheVariants as core_sorts
use Rattle.wasm_ast.specs.declared.component.CanonOption.{CanonOption}
use Rattle.wasm_ast.specs.declared.component.CanonOption.TheVariants.{Memory as MemoryOption, Realloc, PostReturn}
use Rattle.core_store.specs.State.{State, empty}
use Rattle.core_store.specs.declared.value.StoreFunc.TheVariants as functions
use Rattle.core_instance.specs.declared.external.Extern.{Extern}
use Rattle.core_instance.specs.declared.external.Extern.TheVariants.{Func, Table, Memory, Global}
use Rattle.core_instance.specs.declared.external.NamedExtern.{NamedExtern}
use Rattle.core_instance.specs.Instantiation.{allocated, instantiated, instance_of}
use Rattle.wit_types.specs.Plain.{Name, PlainFunc}
use Rattle.comp_types.specs.Items.{Item, Entries, FuncItem, InstanceItem, KindItem, ResourceKind, ValueKind, FuncKind, InstanceKind, End as NoEntries, More as Entry, same_name}
use Rattle.comp_types.specs.Substitution.{partner_in, func_with}
use Rattle.host_port.specs.declared.call.Resource.{Resource}
use Rattle.comp_grammar.specs.Trees.{Tree}
use Rattle.comp_types.specs.Added.{takes_and_gives, takes_one, after_tree, root}
use Rattle.comp_worlds.specs.Groups.{Options, Lifting, Target, Mine, Theirs, Func as Canon, LoweredFunc, ResourceNew, ResourceDrop, ResourceRep, Owner, Stage, Provides, Makes, Begins, Group}
use Rattle.comp_link.specs.Plans.{Named, AFunc, AnInstanceAt, AResource, AValueType, NamedArg, Plan, Planned, End, Then, OfModule, OfCoreItems, CoreItemOf, OfComponent, OfItems, ItemOf, NewResource, Lifts, Lowers, MakesResource, DropsResource, ReadsResource, Imports, Exports, plan_of}

-- ---- what is given and exported: functions by where they lead, resources by their numbers in the group

mutual
  pub data Given : Type 0 where
    GivenFunc : (target : Target) → Given
    GivenInstance : (items : Givens) → Given
    GivenResource : (resource : ℕ) → Given
    GivenType : Given

  pub data Givens : Type 0 where
    Nothing : Givens
    Giving : (name : Name) → (item : Given) → (rest : Givens) → Givens

abbrev pub find : Name → Givens → Option Given
find name Nothing = None
find name (Giving n item rest) = if same_name n name then Some item else find name rest

abbrev pub and_given : Givens → Name → Given → Givens
and_given Nothing name item = Giving name item Nothing
and_given (Giving n i rest) name item = Giving n i (and_given rest name item)

-- the resources of a described item, with the numbers that they have in what is given for it
abbrev mutual
  pub bound : Option Given → Item → List (ℕ × ℕ)
  bound (Some (GivenResource g)) (KindItem (ResourceKind r)) = (r, g) ∷ []
  bound (Some (GivenInstance items)) (InstanceItem entries) = all_bound items entries
  bound given item = []

  pub all_bound : Givens → Entries → List (ℕ × ℕ)
  all_bound items NoEntries = []
  all_bound items (Entry name item rest) = bound (find name items) item ++ all_bound items rest

-- ---- an instance as it is being made, and the group so far

pub record Placed : Type 0 where
  pub instance : ℕ
  pub number : ℕ
  pub canon : Canon

pub record Owned : Type 0 where
  pub resource : ℕ
  pub owner : Owner

pub record Whole : Type 0 where
  pub next_instance : ℕ
  pub next_resource : ℕ
  pub stages : List Stage
  pub canons : List Placed
  pub owners : List Owned

pub record Making : Type 0 where
  pub whole : Whole
  pub instance : ℕ
  pub given : Givens
  pub shadow : State
  pub canons : ℕ
  pub core_functions : List ℕ
  pub core_tables : List ℕ
  pub core_memories : List ℕ
  pub core_globals : List ℕ
  pub core_instances : List (List NamedExtern)
  pub functions : List (Option Target)
  pub instances : List Givens
  -- the numbers of resources in the component, and in the group
  pub resources : List (ℕ × ℕ)
  pub exports : Givens

-- an instance of the next number, given these items
abbrev pub begun : Whole → Givens → Making
begun whole given = record {
  whole = record whole { next_instance = whole.next_instance + 1 };
  instance = whole.next_instance;
  given = given;
  shadow = empty;
  canons = 0;
  core_functions = [];
  core_tables = [];
  core_memories = [];
  core_globals = [];
  core_instances = [];
  functions = [];
  instances = [];
  resources = [];
  exports = Nothing;
}

abbrev pub and_stage : Whole → Stage → Whole
and_stage whole stage = record whole { stages = whole.stages ++ stage ∷ [] }

-- ---- core items

abbrev pub place_at : List ℕ → ℕ → ℕ
place_at places i = slice_index_or places i 0

abbrev pub core_item : Making → CoreSort → ℕ → Extern
core_item m core_sorts.Func i = Func (place_at m.core_functions i)
core_item m core_sorts.Table i = Table (place_at m.core_tables i)
core_item m core_sorts.Memory i = Memory (place_at m.core_memories i)
core_item m core_sorts.Global i = Global (place_at m.core_globals i)

abbrev pub and_core_item : Making → Option Extern → Making
and_core_item m None = m
and_core_item m (Some (Func at)) = record m { core_functions = m.core_functions ++ at ∷ [] }
and_core_item m (Some (Table at)) = record m { core_tables = m.core_tables ++ at ∷ [] }
and_core_item m (Some (Memory at)) = record m { core_memories = m.core_memories ++ at ∷ [] }
and_core_item m (Some (Global at)) = record m { core_globals = m.core_globals ++ at ∷ [] }

abbrev pub and_core_instance : Making → List NamedExtern → Making
and_core_instance m exports = record m { core_instances = m.core_instances ++ exports ∷ [] }

abbrev pub core_find : Name → List NamedExtern → Option Extern
core_find name [] = None
core_find name (e ∷ es) = if same_name e.name name then Some e.item else core_find name es

abbrev pub arg_instance : Making → Name → List CoreArg → Option (List NamedExtern)
arg_instance m name [] = None
arg_instance m name (a ∷ args) = if same_name a.name name then slice_get m.core_instances a.instance else arg_instance m name args

abbrev pub extern_for : Making → List CoreArg → ModuleImport → List Extern
extern_for m args i = elim (option_and_then (core_find i.name) (arg_instance m i.module args)) [ None ↦ [] | Some e ↦ e ∷ [] ]

-- a module's imports, in order
abbrev pub externs_for : Making → Module → List CoreArg → List Extern
externs_for m module' args = flat_map (extern_for m args) module'.imports

abbrev pub with_module : Making → Module → List Extern → Making
with_module m module' externs =
    and_core_instance (record m {
      whole = and_stage m.whole (Makes m.instance (λ s. instantiated s module' externs) (instance_of m.shadow module' externs).start);
      shadow = allocated m.shadow module' externs;
    }) (instance_of m.shadow module' externs).exports

abbrev pub named_core : Making → List CoreExport → List NamedExtern
named_core m [] = []
named_core m (e ∷ es) = record { name = e.name; item = core_item m e.sort e.index } ∷ named_core m es

-- ---- items of components

abbrev pub given_at : Making → Named → Option Given
given_at m (AFunc i) = option_and_then (option_map GivenFunc) (slice_get m.functions i)
given_at m (AnInstanceAt i) = option_map GivenInstance (slice_get m.instances i)
given_at m (AResource r) = Some (GivenResource (partner_in m.resources r))
given_at m AValueType = Some GivenType

abbrev pub and_some_given : Option Given → Name → Givens → Givens
and_some_given None name rest = rest
and_some_given (Some item) name rest = Giving name item rest

abbrev pub givens_of : Making → List NamedArg → Givens
givens_of m [] = Nothing
givens_of m (a ∷ args) = and_some_given (given_at m a.item) a.name (givens_of m args)

-- the item has the next index of its sort
abbrev pub and_item : Making → Option Given → Making
and_item m (Some (GivenFunc target)) = record m { functions = m.functions ++ Some target ∷ [] }
and_item m (Some (GivenInstance items)) = record m { instances = m.instances ++ items ∷ [] }
and_item m (Some (GivenResource r)) = m
and_item m (Some GivenType) = m
and_item m None = m

abbrev pub item_in : Option Givens → Name → Option Given
item_in None name = None
item_in (Some items) name = find name items

abbrev pub and_bound : Making → List (ℕ × ℕ) → Making
and_bound m pairs = record m { resources = m.resources ++ pairs }

abbrev pub bound_if : Option Given → Option Item → List (ℕ × ℕ)
bound_if given None = []
bound_if given (Some item) = bound given item

abbrev pub and_export : Making → Name → Option Given → Option Item → Making
and_export m name None stated = m
and_export m name (Some item) stated = record (and_bound (and_item m (Some item)) (bound_if (Some item) stated)) { exports = and_given m.exports name item }

-- ---- canonical functions

abbrev pub memory_in : Making → List CanonOption → Option ℕ
memory_in m [] = None
memory_in m (MemoryOption i ∷ os) = Some (place_at m.core_memories i)
memory_in m (o ∷ os) = memory_in m os

abbrev pub realloc_in : Making → List CanonOption → Option ℕ
realloc_in m [] = None
realloc_in m (Realloc i ∷ os) = Some (place_at m.core_functions i)
realloc_in m (o ∷ os) = realloc_in m os

abbrev pub post_in : Making → List CanonOption → Option ℕ
post_in m [] = None
post_in m (PostReturn i ∷ os) = Some (place_at m.core_functions i)
post_in m (o ∷ os) = post_in m os

abbrev pub options_in : Making → List CanonOption → Options
options_in m os = record { memory = memory_in m os; realloc = realloc_in m os }

-- the canonical function becomes a function of the store
abbrev pub with_canon : Making → CoreFunc → Canon → Making
with_canon m ty canon = record m {
  whole = record (and_stage m.whole (Provides m.instance ty m.canons)) { canons = m.whole.canons ++ record { instance = m.instance; number = m.canons; canon = canon } ∷ [] };
  core_functions = m.core_functions ++ length m.shadow.functions ∷ [];
  shadow = record m.shadow { functions = m.shadow.functions ++ functions.Outside ty m.canons ∷ [] };
  canons = m.canons + 1;
}

abbrev pub with_lowered : Making → CoreFunc → List CanonOption → Option Target → Making
with_lowered m ty os None = m
with_lowered m ty os (Some target) = with_canon m ty (LoweredFunc target (options_in m os))

abbrev pub lifting_of : Making → ℕ → List CanonOption → PlainFunc → Lifting
lifting_of m func os ty = record { code = place_at m.core_functions func; ty = func_with (partner_in m.resources) ty; options = options_in m os; post = post_in m os }

-- a resource gets the next number of the group
abbrev pub with_resource : Making → ℕ → Option ℕ → Making
with_resource m r destructor = record (and_bound m ((r, m.whole.next_resource) ∷ [])) {
  whole = record m.whole {
    next_resource = m.whole.next_resource + 1;
    owners = m.whole.owners ++ record { resource = m.whole.next_resource; owner = record { instance = m.instance; destructor = option_map (place_at m.core_functions) destructor } } ∷ [];
  };
}

-- ---- a component was made in another one: its own resources have these numbers here

abbrev pub own_bound : List (ℕ × ℕ) → List (ℕ × ℕ) → List (ℕ × ℕ)
own_bound inner [] = []
own_bound inner (pair ∷ own) = (pair.1, partner_in inner pair.0) ∷ own_bound inner own

abbrev pub with_component : Making → List (ℕ × ℕ) → Making → Making
with_component m own made = record (and_bound m (own_bound made.resources own)) { whole = made.whole; instances = m.instances ++ made.exports ∷ [] }

-- ---- the plan, in order; a component in the component takes its step before it is made

abbrev mutual
  pub link_item : Planned → Making → Making
  link_item (OfModule module' args) m = with_module m module' (externs_for m module' args)
  link_item (OfCoreItems exports) m = and_core_instance m (named_core m exports)
  link_item (CoreItemOf sort instance name) m = and_core_item m (option_and_then (core_find name) (slice_get m.core_instances instance))
  link_item (OfComponent component own args) m = with_component m own (link component (begun (and_stage m.whole Begins) (givens_of m args)))
  link_item (OfItems exports) m = record m { instances = m.instances ++ givens_of m exports ∷ [] }
  link_item (ItemOf sort instance name) m = and_item m (item_in (slice_get m.instances instance) name)
  link_item (NewResource resource destructor) m = with_resource m resource destructor
  link_item (Lifts func os ty) m = record m { functions = m.functions ++ Some (Mine m.instance (lifting_of m func os ty)) ∷ [] }
  link_item (Lowers func os ty) m = with_lowered m ty os (option_and_then (λ o. o) (slice_get m.functions func))
  link_item (MakesResource resource) m = with_canon m takes_and_gives (ResourceNew (partner_in m.resources resource))
  link_item (DropsResource resource) m = with_canon m takes_one (ResourceDrop (partner_in m.resources resource))
  link_item (ReadsResource resource) m = with_canon m takes_and_gives (ResourceRep (partner_in m.resources resource))
  link_item (Imports name item) m = and_bound (and_item m (find name m.given)) (bound (find name m.given) item)
  link_item (Exports name item stated) m = and_export m name (given_at m item) stated

  pub link : Plan → Making → Making
  link End m = m
  link (Then item rest) m = link rest (link_item item m)

-- ---- the outermost component: its imports are the group's

abbrev mutual
  -- an import of this name; an item of it has the name of the instance that it stands in
  pub outside : Name → Name → Item → Given
  outside interface name (FuncItem ty) = GivenFunc (Theirs (record { interface = interface; function = name; ty = ty }))
  outside interface name (InstanceItem entries) = GivenInstance (all_outside name entries)
  outside interface name (KindItem (ResourceKind r)) = GivenResource r
  outside interface name (KindItem (ValueKind ty)) = GivenType
  outside interface name (KindItem (FuncKind ty)) = GivenType
  outside interface name (KindItem (InstanceKind own entries)) = GivenType

  pub all_outside : Name → Entries → Givens
  all_outside interface NoEntries = Nothing
  all_outside interface (Entry name item rest) = Giving name (outside interface name item) (all_outside interface rest)

pub record Known : Type 0 where
  pub number : ℕ
  pub resource : Resource

-- the resources of imports, each by the first import in which it stands
abbrev mutual
  pub known : Name → Name → Item → List Known
  known interface name (InstanceItem entries) = all_known name entries
  known interface name (KindItem (ResourceKind r)) = record { number = r; resource = record { interface = interface; name = name } } ∷ []
  known interface name item = []

  pub all_known : Name → Entries → List Known
  all_known interface NoEntries = []
  all_known interface (Entry name item rest) = known interface name item ++ all_known interface rest

-- the first number after all of these
abbrev pub behind_known : List Known → ℕ
behind_known [] = 0
behind_known (k ∷ ks) = max (k.number + 1) (behind_known ks)

abbrev pub no_resource : Resource
no_resource = record { interface = []; name = [] }

abbrev pub known_in : List Known → ℕ → Resource
known_in [] r = no_resource
known_in (k ∷ ks) r = if nat_eq k.number r then k.resource else known_in ks r

abbrev pub canon_in : List Placed → ℕ → ℕ → Option Canon
canon_in [] k n = None
canon_in (p ∷ ps) k n = if nat_eq p.instance k && nat_eq p.number n then Some p.canon else canon_in ps k n

abbrev pub owner_in : List Owned → ℕ → Option Owner
owner_in [] r = None
owner_in (o ∷ os) r = if nat_eq o.resource r then Some o.owner else owner_in os r

-- an export by the name of its instance and its own; of an instance without a name it is the component's own
abbrev pub target_in : Option Given → Option Target
target_in (Some (GivenFunc target)) = Some target
target_in _ = None

abbrev pub resource_of : Option Given → Option ℕ
resource_of (Some (GivenResource r)) = Some r
resource_of _ = None

abbrev pub instance_in : Option Given → Givens
instance_in (Some (GivenInstance items)) = items
instance_in _ = Nothing

abbrev pub exported : Givens → Name → Name → Option Given
exported exports [] name = find name exports
exported exports (c ∷ cs) name = find name (instance_in (find (c ∷ cs) exports))

abbrev pub linked : Tree → Making
linked tree =
    let imports = (after_tree [] root tree).imports in
    link (plan_of tree) (begun (record { next_instance = 0; next_resource = behind_known (all_known [] imports); stages = []; canons = []; owners = [] }) (all_outside [] imports))

-- the group of a component by itself
abbrev pub group_of : Tree → Group
group_of tree =
    let m = linked tree in
    record {
      canons = canon_in m.whole.canons;
      owner = owner_in m.whole.owners;
      imported = known_in (all_known [] (after_tree [] root tree).imports);
      exports = λ interface name. target_in (exported m.exports interface name);
      given = λ r. resource_of (exported m.exports r.interface r.name);
      stages = m.whole.stages;
    }

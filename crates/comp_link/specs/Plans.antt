-- The plan of a component: what is made, in order, when it is instantiated (Component Model, Explainer.md, "Instance Definitions" and
-- "Canonical Definitions"). It is a function of the component alone. What an outer alias names is the plan or the module itself, so a
-- component that is instantiated often stands in it once for each use of one value, and is not written out. Types have the numbers of
-- resources of the component's own index spaces.
use Rattle.std.specs.Prelude.{ℕ, List, [], ◌∷◌, ◌++◌, Option, Some, None, slice_get}
use Rattle.std.specs.Option.{option_map, option_and_then}
use Rattle.wasm_ast.specs.declared.module.Module.{Module}
use Rattle.wasm_ast.specs.declared.module.CoreFunc.{CoreFunc}
use Rattle.wasm_ast.specs.declared.component.CoreArg.{CoreArg}
use Rattle.wasm_ast.specs.declared.component.CoreExport.{CoreExport}
use Rattle.wasm_ast.specs.declared.component.CoreSort.{CoreSort}
use Rattle.wasm_ast.specs.declared.component.CoreInstance.{CoreInstance}
use Rattle.wasm_ast.specs.declared.component.CoreInstance.TheVariants as core_instances
use Rattle.wasm_ast.specs.declared.component.NamedItem.{NamedItem}
use Rattle.wasm_ast.specs.declared.component.Sort.{Sort}
use Rattle.wasm_ast.specs.declared.component.Sort.TheVariants as sorts
use Rattle.wasm_ast.specs.declared.component.Instance.{Instance}
use Rattle.wasm_ast.specs.declared.component.Instance.TheVariants as instances
use Rattle.wasm_ast.specs.declared.component.OuterSort.{OuterSort}
use Rattle.wasm_ast.specs.declared.component.OuterSort.TheVariants as outer_sorts
use Rattle.wasm_ast.specs.declared.component.Alias.{Alias}
use Rattle.wasm_ast.specs.declared.component.Alias.TheVariants as aliases
use Rattle.wasm_ast.specs.declared.component.TypeDef.TheVariants as defs
use Rattle.wasm_ast.specs.declared.component.Canon.{Canon}
use Rattle.wasm_ast.specs.declared.component.Canon.TheVariants as canons
use Rattle.wasm_ast.specs.declared.component.CanonOption.{CanonOption}
use Rattle.wit_types.specs.Plain.{Name, PlainFunc}
use Rattle.comp_types.specs.Items.{Item}
use Rattle.comp_grammar.specs.Trees.{Part, Tree, CoreModule, Nested, End as NoParts, More as Section}
use Rattle.comp_types.specs.Declarations.{Declaration, ATypeDef}
use Rattle.comp_types.specs.Definitions.{Definition, ACoreInstance, AnInstance, AnAlias, AType, ACanon, AnImport, AnExport, definitions}
use Rattle.comp_types.specs.Spaces.{Space, NestedComponent, kind_at}
use Rattle.comp_types.specs.GivenResources.{numbered}
use Rattle.comp_types.specs.Types.{func_in, resource_in}
use Rattle.comp_types.specs.Added.{entered, described, lowered_at, after, after_part, root}

-- what an argument or an export names: a function or an instance by its index, a resource by its number, or another type
pub data Named : Type 0 where
  AFunc : (index : ℕ) → Named
  AnInstanceAt : (index : ℕ) → Named
  AResource : (resource : ℕ) → Named
  AValueType : Named

pub record NamedArg : Type 0 where
  pub name : Name
  pub item : Named

mutual
  pub data Plan : Type 0 where
    End : Plan
    Then : (item : Planned) → (rest : Plan) → Plan

  pub data Planned : Type 0 where
    -- a core instance of a module, or of items
    OfModule : (m : Module) → (args : List CoreArg) → Planned
    OfCoreItems : (exports : List CoreExport) → Planned
    -- an item of a core instance
    CoreItemOf : (sort : CoreSort) → (instance : ℕ) → (name : Name) → Planned
    -- an instance of a component, whose own resources have these numbers here; or of items
    OfComponent : (component : Plan) → (own : List (ℕ × ℕ)) → (args : List NamedArg) → Planned
    OfItems : (exports : List NamedArg) → Planned
    -- an item of an instance
    ItemOf : (sort : Sort) → (instance : ℕ) → (name : Name) → Planned
    -- a resource of this number, with its destructor
    NewResource : (resource : ℕ) → (destructor : Option ℕ) → Planned
    Lifts : (func : ℕ) → (options : List CanonOption) → (ty : PlainFunc) → Planned
    Lowers : (func : ℕ) → (options : List CanonOption) → (ty : CoreFunc) → Planned
    MakesResource : (resource : ℕ) → Planned
    DropsResource : (resource : ℕ) → Planned
    ReadsResource : (resource : ℕ) → Planned
    -- an import, and an export with the type that it states, if it states one
    Imports : (name : Name) → (item : Item) → Planned
    Exports : (name : Name) → (item : Named) → (stated : Option Item) → Planned

-- the modules and components that can be named, by their indexes
pub record Scope : Type 0 where
  pub modules : List Module
  pub components : List Plan

abbrev pub no_scope : Scope
no_scope = record { modules = []; components = [] }

abbrev pub and_plan : Scope → Option Plan → Scope
and_plan scope None = scope
and_plan scope (Some plan) = record scope { components = scope.components ++ plan ∷ [] }

abbrev pub and_module : Scope → Option Module → Scope
and_module scope None = scope
and_module scope (Some m) = record scope { modules = scope.modules ++ m ∷ [] }

-- ---- what a definition plans

abbrev pub just : Planned → Plan
just item = Then item End

abbrev pub if_some : {A : Type 0} → (A → Planned) → Option A → Plan
if_some f None = End
if_some f (Some a) = just (f a)

abbrev pub followed : Plan → Plan → Plan
followed End rest = rest
followed (Then item plan) rest = Then item (followed plan rest)

abbrev pub resource_or_type : Option ℕ → Named
resource_or_type None = AValueType
resource_or_type (Some r) = AResource r

abbrev pub named_by : Space → Sort → ℕ → Named
named_by s sorts.Func i = AFunc i
named_by s sorts.Instance i = AnInstanceAt i
named_by s sorts.Type i = resource_or_type (resource_in (kind_at s i))

abbrev pub named_args : Space → List NamedItem → List NamedArg
named_args s [] = []
named_args s (e ∷ es) = record { name = e.name; item = named_by s e.sort e.index } ∷ named_args s es

abbrev pub of_core_instance : Scope → CoreInstance → Plan
of_core_instance scope (core_instances.Instantiate m args) = if_some (λ module'. OfModule module' args) (slice_get scope.modules m)
of_core_instance scope (core_instances.Inline exports) = just (OfCoreItems exports)

-- the numbers of its own resources, as `and_instantiated` gives them
abbrev pub own_numbers : Space → Option NestedComponent → List (ℕ × ℕ)
own_numbers s None = []
own_numbers s (Some c) = numbered c.own s.next

abbrev pub of_instance : Scope → Space → Instance → Plan
of_instance scope s (instances.Instantiate c args) = if_some (λ plan. OfComponent plan (own_numbers s (slice_get s.components c)) (named_args s args)) (slice_get scope.components c)
of_instance scope s (instances.Inline exports) = just (OfItems (named_args s exports))

abbrev pub of_alias : Alias → Plan
of_alias (aliases.Export sort instance name) = just (ItemOf sort instance name)
of_alias (aliases.CoreExport sort instance name) = just (CoreItemOf sort instance name)
of_alias (aliases.Outer sort count index) = End

abbrev pub of_type : Space → Declaration → Plan
of_type s (ATypeDef (defs.Resource destructor)) = just (NewResource s.next destructor)
of_type s d = End

abbrev pub of_canon : Space → Canon → Plan
of_canon s (canons.Lift func options ty) = just (Lifts func options (func_in (kind_at s ty)))
of_canon s (canons.Lower func options) = just (Lowers func options (lowered_at (slice_get s.functions func)))
of_canon s (canons.ResourceNew ty) = if_some MakesResource (resource_in (kind_at s ty))
of_canon s (canons.ResourceDrop ty) = if_some DropsResource (resource_in (kind_at s ty))
of_canon s (canons.ResourceRep ty) = if_some ReadsResource (resource_in (kind_at s ty))

abbrev pub planned_by : Scope → Space → Definition → Plan
planned_by scope s (ACoreInstance i) = of_core_instance scope i
planned_by scope s (AnInstance i) = of_instance scope s i
planned_by scope s (AnAlias a) = of_alias a
planned_by scope s (AType d) = of_type s d
planned_by scope s (ACanon c) = of_canon s c
planned_by scope s (AnImport i) = just (Imports i.name (described s i.desc))
planned_by scope s (AnExport e) = just (Exports e.name (named_by s e.sort e.index) (option_map (described s) e.desc))

-- a module or a component of a scope further out can be named
abbrev pub and_outer : Scope → OuterSort → Option Scope → ℕ → Scope
and_outer scope outer_sorts.CoreModule outer index = and_module scope (option_and_then (λ (o : Scope). slice_get o.modules index) outer)
and_outer scope outer_sorts.Component outer index = and_plan scope (option_and_then (λ (o : Scope). slice_get o.components index) outer)
and_outer scope outer_sorts.Type outer index = scope

abbrev pub scope_after : List Scope → Scope → Definition → Scope
scope_after outside scope (AnAlias (aliases.Outer sort count index)) = and_outer scope sort (slice_get (scope ∷ outside) count) index
scope_after outside scope d = scope

-- a plan, and the scope after it
pub record Reached : Type 0 where
  pub plan : Plan
  pub scope : Scope

abbrev pub behind : Plan → Reached → Reached
behind plan r = record { plan = followed plan r.plan; scope = r.scope }

abbrev pub plan_all : List Space → List Scope → Space → Scope → List Definition → Reached
plan_all around outside s scope [] = record { plan = End; scope = scope }
plan_all around outside s scope (d ∷ ds) = behind (planned_by scope s d) (plan_all around outside (after around s d) (scope_after outside scope d) ds)

abbrev mutual
  pub plan_part : List Space → List Scope → Space → Scope → Part → Reached
  plan_part around outside s scope (CoreModule span m) = record { plan = End; scope = and_module scope (Some m) }
  plan_part around outside s scope (Nested span tree) = record { plan = End; scope = and_plan scope (Some (plan_tree (s ∷ around) (scope ∷ outside) (entered s) no_scope tree)) }
  plan_part around outside s scope part = plan_all around outside s scope (definitions part)

  pub plan_tree : List Space → List Scope → Space → Scope → Tree → Plan
  plan_tree around outside s scope NoParts = End
  plan_tree around outside s scope (Section part rest) =
      followed (plan_part around outside s scope part).plan (plan_tree around outside (after_part around s part) (plan_part around outside s scope part).scope rest)

abbrev pub plan_of : Tree → Plan
plan_of tree = plan_tree [] [] root no_scope tree

-- The plan for which a linked component stands (Component Model, Explainer.md, "Instance Definitions"). The numbers in a plan name modules
-- and the components before it, so no component is written out; what names nothing is left out.
use Rattle.std.specs.Prelude.{ℕ, List, [], ◌∷◌, ◌++◌, slice_get}
use Rattle.std.specs.Option.{option_map}
use Rattle.wasm_ast.specs.Boxed.{Held}
use Rattle.wasm_ast.specs.declared.module.Module.{Module}
use Rattle.comp_types.specs.Views.{item_of}
use Rattle.comp_types.specs.GivenResources.{numbered}
use Rattle.comp_link.specs.Plans.{Named, AFunc, AnInstanceAt, AResource, AValueType, NamedArg, Plan, End, just, if_some, followed}
use Rattle.comp_link.specs.Plans.{OfModule, OfCoreItems, CoreItemOf, OfComponent, OfItems, ItemOf, NewResource, Lifts, Lowers, MakesResource, DropsResource, ReadsResource, Imports, Exports}
use Rattle.comp_link.specs.declared.items.ItemAt.{ItemAt}
use Rattle.comp_link.specs.declared.items.ItemAt.TheVariants.{Func, Instance, Resource, «Type»}
use Rattle.comp_link.specs.declared.items.PlanArg.{PlanArg}
use Rattle.comp_link.specs.declared.items.PlanItem.{PlanItem}
use Rattle.comp_link.specs.declared.items.PlanItem.TheVariants as items
use Rattle.comp_link.specs.declared.linked.ComponentPlan.{ComponentPlan}
use Rattle.comp_link.specs.declared.linked.Linked.{Linked}

abbrev pub item_named : ItemAt → Named
item_named (Func index) = AFunc index
item_named (Instance index) = AnInstanceAt index
item_named (Resource resource) = AResource resource
item_named «Type» = AValueType

abbrev pub args_named : List PlanArg → List NamedArg
args_named [] = []
args_named (a ∷ args) = record { name = a.name; item = item_named a.item } ∷ args_named args

-- a component that can be named, and its own resources
pub record PlannedComponent : Type 0 where
  pub plan : Plan
  pub own : List ℕ

abbrev pub plan_item : List (Held Module) → List PlannedComponent → PlanItem → Plan
plan_item modules components (items.OfModule number args) = if_some (λ (m : Held Module). OfModule m.value args) (slice_get modules number)
plan_item modules components (items.OfCoreItems exports) = just (OfCoreItems exports)
plan_item modules components (items.CoreItemOf sort instance name) = just (CoreItemOf sort instance name)
plan_item modules components (items.OfComponent number first args) = if_some (λ (c : PlannedComponent). OfComponent c.plan (numbered c.own first) (args_named args)) (slice_get components number)
plan_item modules components (items.OfItems exports) = just (OfItems (args_named exports))
plan_item modules components (items.ItemOf sort instance name) = just (ItemOf sort instance name)
plan_item modules components (items.NewResource resource destructor) = just (NewResource resource destructor)
plan_item modules components (items.Lifts func options ty) = just (Lifts func options ty.value)
plan_item modules components (items.Lowers func options ty) = just (Lowers func options ty)
plan_item modules components (items.MakesResource resource) = just (MakesResource resource)
plan_item modules components (items.DropsResource resource) = just (DropsResource resource)
plan_item modules components (items.ReadsResource resource) = just (ReadsResource resource)
plan_item modules components (items.Imports name item) = just (Imports name (item_of item))
plan_item modules components (items.Exports name item stated) = just (Exports name (item_named item) (option_map item_of stated))

abbrev pub plan_items : List (Held Module) → List PlannedComponent → List PlanItem → Plan
plan_items modules components [] = End
plan_items modules components (item ∷ rest) = followed (plan_item modules components item) (plan_items modules components rest)

abbrev pub planned_component : List (Held Module) → List PlannedComponent → ComponentPlan → PlannedComponent
planned_component modules components c = record { plan = plan_items modules components c.items; own = c.own }

-- the components, each planned by those before it
abbrev pub and_components : List (Held Module) → List PlannedComponent → List ComponentPlan → List PlannedComponent
and_components modules components [] = components
and_components modules components (c ∷ rest) = and_components modules (components ++ planned_component modules components c ∷ []) rest

-- those of a linked component
abbrev pub components_in : Linked → List PlannedComponent
components_in linked = and_components linked.modules [] linked.components

abbrev pub plan_in : Linked → Plan
plan_in linked = plan_items linked.modules (components_in linked) linked.items

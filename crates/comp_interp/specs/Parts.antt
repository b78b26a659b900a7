-- The plans of a linked component: its own, and those of the components that it holds, each of which names those before it.
use Rattle.std.specs.Prelude.{◌≡◌, ℕ, ◌<◌, List, [], length, take, Option, Some, None, slice_get}
use Rattle.wasm_ast.specs.Boxed.{Held as HeldValue}
use Rattle.wasm_ast.specs.declared.module.Module.{Module}
use Rattle.core_validate.specs.Validity.{IsValidModule}
use Rattle.core_instance.specs.Matching.{HasCounts}
use Rattle.comp_link.specs.Plans.{Plan}
use Rattle.comp_link.specs.declared.items.PlanItem.{PlanItem}
use Rattle.comp_link.specs.declared.items.PlanItem.TheVariants.{OfModule, OfComponent}
use Rattle.comp_link.specs.declared.linked.ComponentPlan.{ComponentPlan}
use Rattle.comp_link.specs.declared.linked.Linked.{Linked}
use Rattle.comp_link.specs.Planned.{PlannedComponent, plan_items, and_components}
use Rattle.comp_interp.specs.declared.part.Part.{Part}
use Rattle.comp_interp.specs.declared.part.Part.TheVariants.{Whole, Held}
use Rattle.comp_interp.specs.Sound.{HasSoundModules}

abbrev pub items_if : Option ComponentPlan → List PlanItem
items_if None = []
items_if (Some c) = c.items

abbrev pub own_if : Option ComponentPlan → List ℕ
own_if None = []
own_if (Some c) = c.own

abbrev pub part_items : Linked → Part → List PlanItem
part_items linked Whole = linked.items
part_items linked (Held number) = items_if (slice_get linked.components number)

abbrev pub part_own : Linked → Part → List ℕ
part_own linked Whole = []
part_own linked (Held number) = own_if (slice_get linked.components number)

-- the number below which it names components
abbrev pub part_limit : Linked → Part → ℕ
part_limit linked Whole = length linked.components
part_limit linked (Held number) = number

-- the components that a plan of this limit names
abbrev pub named_below : Linked → ℕ → List PlannedComponent
named_below linked limit = and_components linked.modules [] (take limit linked.components)

abbrev pub part_plan : Linked → Part → Plan
part_plan linked part = plan_items linked.modules (named_below linked (part_limit linked part)) (part_items linked part)

abbrev pub IsSoundPart : Linked → Part → Type 0
IsSoundPart linked part = HasSoundModules (part_plan linked part)

-- a module that it names is valid and has its counts; a component that it names is sound
abbrev pub IsSoundItem : Linked → ℕ → PlanItem → Type 0
IsSoundItem linked limit (OfModule number args) = (m : HeldValue Module) → slice_get linked.modules number ≡ Some m → IsValidModule m.value × HasCounts m.value
IsSoundItem linked limit (OfComponent number first args) = number < limit → IsSoundPart linked (Held number)
IsSoundItem linked limit _ = Unit {0}

-- What is known of a plan is known of its next item, and of what is left after it.
use Rattle.std.proofs.Common.{◌≡◌, ◌∙◌, ap, sym, refl, ℕ, zero, suc, ◌<◌, ◌≤◌, List, [], ◌∷◌, length, Option, Some, arith, slice_get}
use Rattle.std.specs.Option.{option_map}
use Rattle.wasm_ast.specs.Boxed.{Held as HeldValue}
use Rattle.wasm_ast.specs.declared.module.Module.{Module}
use Rattle.comp_types.specs.GivenResources.{numbered}
use Rattle.comp_link.specs.Plans.{Plan, End, Then, OfComponent, followed, if_some, just}
use Rattle.comp_link.specs.Linking.{Making, link, link_item}
use Rattle.comp_inside.specs.Linked.{PlanKnows}
use Rattle.comp_joins.specs.Sound.{IsSoundPlan}
use Rattle.comp_link.specs.declared.items.PlanItem.{PlanItem}
use Rattle.comp_link.specs.declared.items.PlanItem.TheVariants as items
use Rattle.comp_link.specs.declared.linked.ComponentPlan.{ComponentPlan}
use Rattle.comp_link.specs.declared.linked.Linked.{Linked}
use Rattle.comp_link.specs.Planned.{PlannedComponent, args_named, plan_item, plan_items, planned_component}
use Rattle.comp_link.proofs.Earlier.{component_at, component_before}
use Rattle.comp_interp.specs.declared.part.Part.TheVariants.{Held}
use Rattle.comp_interp.specs.Parts.{items_if, own_if, part_own, named_below, part_plan}
use Rattle.comp_interp.specs.Others.{other_item}

pub sound_parts : (p q : Plan) (m : Making) → IsSoundPlan (followed p q) m → IsSoundPlan p m × IsSoundPlan q (link p m)
sound_parts End q m h = (tt, h)
sound_parts (Then item rest) q m h = let later = sound_parts rest q (link_item item m) h.1 in ((h.0, later.0), later.1)

pub knows_parts : (to : ℕ → ℕ) (p q : Plan) (m : Making) → PlanKnows to (followed p q) m → PlanKnows to p m × PlanKnows to q (link p m)
knows_parts to End q m h = (tt, h)
knows_parts to (Then item rest) q m h = let later = knows_parts to rest q (link_item item m) h.1 in ((h.0, later.0), later.1)

-- an item that is no module and no component
abbrev pub IsOther : PlanItem → Type 0
IsOther (items.OfModule number args) = ⊥
IsOther (items.OfComponent number first args) = ⊥
IsOther _ = Unit {0}

pub other_plan : (ms : List (HeldValue Module)) (cs : List PlannedComponent) (item : PlanItem) (g : Making) → IsOther item → link (plan_item ms cs item) g ≡ other_item item g
other_plan ms cs (items.OfModule number args) g is = absurd is
other_plan ms cs (items.OfComponent number first args) g is = absurd is
other_plan ms cs (items.OfCoreItems exports) g is = refl
other_plan ms cs (items.CoreItemOf sort instance name) g is = refl
other_plan ms cs (items.OfItems exports) g is = refl
other_plan ms cs (items.ItemOf sort instance name) g is = refl
other_plan ms cs (items.NewResource resource destructor) g is = refl
other_plan ms cs (items.Lifts func options ty) g is = refl
other_plan ms cs (items.Lowers func options ty) g is = refl
other_plan ms cs (items.MakesResource resource) g is = refl
other_plan ms cs (items.DropsResource resource) g is = refl
other_plan ms cs (items.ReadsResource resource) g is = refl
other_plan ms cs (items.Imports name item) g is = refl
other_plan ms cs (items.Exports name item stated) g is = refl

-- a component that a plan of this limit names is planned as the part of its number
pub component_named : (linked : Linked) (limit number : ℕ) (c : ComponentPlan) → number < limit → slice_get linked.components number ≡ Some c →
    slice_get (named_below linked limit) number ≡ Some (record { plan = part_plan linked (Held number); own = part_own linked (Held number) })
component_named linked limit number c lt at =
    component_before linked.modules linked.components number limit lt
    ∙ component_at linked.modules linked.components number
    ∙ ap (option_map (planned_component linked.modules (named_below linked number))) at
    ∙ sym (ap (λ o. let p : Option PlannedComponent = Some (record { plan = plan_items linked.modules (named_below linked number) (items_if o); own = own_if o }) in p) at)

pub component_plan : (linked : Linked) (limit number first : ℕ) (args : _) (c : ComponentPlan) → number < limit → slice_get linked.components number ≡ Some c →
    plan_item linked.modules (named_below linked limit) (items.OfComponent number first args) ≡ just (OfComponent (part_plan linked (Held number)) (numbered (part_own linked (Held number)) first) (args_named args))
component_plan linked limit number first args c lt at =
    ap (λ o. if_some (λ (x : PlannedComponent). OfComponent x.plan (numbered x.own first) (args_named args)) o) (component_named linked limit number c lt at)

-- it is there, since no plan names components after all
pub component_there : (linked : Linked) (limit number : ℕ) → number < limit → limit ≤ length linked.components → (c : ComponentPlan) × (slice_get linked.components number ≡ Some c)
component_there linked limit number lt le = go linked.components number (omega (arith, lt, le))
  where
    go : (cs : List ComponentPlan) (k : ℕ) → k < length cs → (c : ComponentPlan) × (slice_get cs k ≡ Some c)
    go [] k less = absurd (omega (arith, less))
    go (c ∷ cs) zero less = (c, refl)
    go (c ∷ cs) (suc k) less = go cs k (omega (arith, less))

-- Where a plan's own resources stay in order, it knows what it names, whatever their numbers become.
use Rattle.std.proofs.Common.{◌≡◌, ℕ, ◌≤◌, ◌<◌, List, Option, Some, None, sym, subst, arith}
use Rattle.std.specs.Prelude.{slice_get}
use Rattle.std.specs.Option.{option_and_then}
use Rattle.wasm_ast.specs.declared.module.CoreFunc.{CoreFunc}
use Rattle.wasm_ast.specs.declared.component.CanonOption.{CanonOption}
use Rattle.comp_worlds.specs.Groups.{Target, Begins}
use Rattle.comp_link.specs.Plans.{Plan, Planned, End, Then, OfModule, OfCoreItems, CoreItemOf, OfComponent, OfItems, ItemOf, NewResource, Lifts, Lowers, MakesResource, DropsResource, ReadsResource, Imports, Exports, plan_of}
use Rattle.comp_link.specs.Linking.{find, Whole, Making, begun, and_stage, core_find, and_core_item, given_at, givens_of, item_in, and_item, and_export, with_lowered, link_item, link}
use Rattle.comp_inside.specs.Linked.{ItemKnows, PlanKnows, unmade}
use Rattle.comp_inside.proofs.Made.{core_item_whole, item_whole, export_whole}
use Rattle.comp_inside.proofs.Whole.{valid_stay}
use Rattle.comp_inside.proofs.Components.{components_inside}
use Rattle.comp_joins.proofs.Known.{names_known}
use Rattle.comp_joins.specs.Known.{StayInOrder, KnownInOrder, ValidLinkInside}

-- ---- how many numbers are given out

abbrev Before : Making → Making → Type 0
Before m m' = m.whole.next_resource ≤ m'.whole.next_resource

none_new : (m : Making) (w : Whole) → w ≡ m.whole → m.whole.next_resource ≤ w.next_resource
none_new m w same = subst (λ z. m.whole.next_resource ≤ z.next_resource) (sym same) (omega arith)

lowered_new : (m : Making) (ty : CoreFunc) (os : List CanonOption) (o : Option Target) → Before m (with_lowered m ty os o)
lowered_new m ty os None = omega arith
lowered_new m ty os (Some target) = omega arith

mutual
  pub item_new : (item : Planned) (m : Making) → Before m (link_item item m)
  item_new (OfModule module' args) m = omega arith
  item_new (OfCoreItems exports) m = omega arith
  item_new (CoreItemOf sort instance name) m = none_new m (and_core_item m (option_and_then (core_find name) (slice_get m.core_instances instance))).whole (core_item_whole m (option_and_then (core_find name) (slice_get m.core_instances instance)))
  item_new (OfComponent component own args) m = plan_new component (begun (and_stage m.whole Begins) (givens_of m args))
  item_new (OfItems exports) m = omega arith
  item_new (ItemOf sort instance name) m = none_new m (and_item m (item_in (slice_get m.instances instance) name)).whole (item_whole m (item_in (slice_get m.instances instance) name))
  item_new (NewResource resource destructor) m = omega arith
  item_new (Lifts func os ty) m = omega arith
  item_new (Lowers func os ty) m = lowered_new m ty os (option_and_then (λ o. o) (slice_get m.functions func))
  item_new (MakesResource resource) m = omega arith
  item_new (DropsResource resource) m = omega arith
  item_new (ReadsResource resource) m = omega arith
  item_new (Imports name item) m = none_new m (and_item m (find name m.given)).whole (item_whole m (find name m.given))
  item_new (Exports name item stated) m = none_new m (and_export m name (given_at m item) stated).whole (export_whole m name (given_at m item) stated)

  pub plan_new : (plan : Plan) (m : Making) → Before m (link plan m)
  plan_new End m = omega arith
  plan_new (Then item rest) m =
      let first : m.whole.next_resource ≤ (link_item item m).whole.next_resource = item_new item m in
      let later : (link_item item m).whole.next_resource ≤ (link rest (link_item item m)).whole.next_resource = plan_new rest (link_item item m) in
      omega (arith, first, later)

-- ---- in order

below : (r a b : ℕ) → r < a → a ≤ b → r < b
below r a b less le = omega (arith, less, le)

behind : (a b r : ℕ) → a ≤ b → b ≤ r → a ≤ r
behind a b r le more = omega (arith, le, more)

module _ (to : ℕ → ℕ) where
  mutual
    item_ordered : (item : Planned) (m : Making) → ItemKnows (λ r. r) item m → StayInOrder to m.whole.next_resource (link_item item m).whole.next_resource → ItemKnows to item m
    item_ordered (OfModule module' args) m h order = tt
    item_ordered (OfCoreItems exports) m h order = tt
    item_ordered (CoreItemOf sort instance name) m h order = tt
    item_ordered (OfComponent component own args) m h order = (h.0, plan_ordered component (begun (and_stage m.whole Begins) (givens_of m args)) h.1 order, h.2)
    item_ordered (OfItems exports) m h order = h
    item_ordered (ItemOf sort instance name) m h order = tt
    item_ordered (NewResource resource destructor) m h order = order m.whole.next_resource (omega arith) (omega arith)
    item_ordered (Lifts func os ty) m h order = h
    item_ordered (Lowers func os ty) m h order = tt
    item_ordered (MakesResource resource) m h order = h
    item_ordered (DropsResource resource) m h order = h
    item_ordered (ReadsResource resource) m h order = h
    item_ordered (Imports name item) m h order = tt
    item_ordered (Exports name item stated) m h order = h

    plan_ordered : (plan : Plan) (m : Making) → PlanKnows (λ r. r) plan m → StayInOrder to m.whole.next_resource (link plan m).whole.next_resource → PlanKnows to plan m
    plan_ordered End m h order = tt
    plan_ordered (Then item rest) m h order =
        let first : m.whole.next_resource ≤ (link_item item m).whole.next_resource = item_new item m in
        let later : (link_item item m).whole.next_resource ≤ (link rest (link_item item m)).whole.next_resource = plan_new rest (link_item item m) in
        (item_ordered item m h.0 (λ r lo hi. order r lo (below r (link_item item m).whole.next_resource (link rest (link_item item m)).whole.next_resource hi later)), plan_ordered rest (link_item item m) h.1 (λ r lo hi. order r (behind m.whole.next_resource (link_item item m).whole.next_resource r first lo) hi))

pub known_in_order : KnownInOrder
known_in_order to plan m h order = plan_ordered to plan m h order

pub valid_inside : ValidLinkInside
valid_inside around outside at c valid defines instances order =
    components_inside around outside at c (valid_stay c valid) instances (plan_ordered at.to (plan_of c) (unmade c) (names_known c valid defines) order)

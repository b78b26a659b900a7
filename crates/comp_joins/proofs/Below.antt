-- The numbers of resources stay below the next one.
use Rattle.std.proofs.Common.{inl, inr, ℕ, ◌+◌, ◌≤◌, ◌<◌, List, [], ◌∷◌, arith, max}
use Rattle.std.proofs.Math.Nat.{le-max_left, le-max_right}
use Rattle.comp_types.specs.Items.{Entries}
use Rattle.comp_types.specs.Substitution.{partner_in}
use Rattle.comp_types.specs.GivenResources.{named_in_func}
use Rattle.comp_worlds.specs.Groups.{Begins}
use Rattle.comp_link.specs.Plans.{NamedArg, Plan, Planned}
use Rattle.comp_link.specs.Linking.{Known, Making, begun, and_stage, givens_of, own_bound, with_component, link_item, link, all_known, behind_known}
use Rattle.comp_inside.specs.Linked.{IsBrought, ArgsBrought, OwnBrought, ItemKnows, PlanKnows}
use Rattle.comp_joins.proofs.Names.{each_then, func_to}
use Rattle.comp_joins.specs.Joining.{IsKnown}
use Rattle.comp_joins.specs.Holding.{Holds}
use Rattle.comp_joins.proofs.Held.{pairs_append, list_append, pair_held, givens_of_held, own_held, LiftsHold, item_held, plan_held, all_outside_held, each_known}
use Rattle.comp_joins.specs.Growing.{AreFrom, Grows}
use Rattle.comp_joins.specs.Settled.{TargetNames, AreBelow}
use Rattle.comp_joins.specs.SettledLaws.{outermost, NumbersStayBelow}
use Rattle.comp_joins.proofs.Growing.{item_grows, plan_grows}

abbrev Less : ℕ → ℕ → Type 0
Less most r = r < most

-- numbers only rise
from_rises : (a b : ℕ) (xs : List _) → AreFrom a xs b → a ≤ b
from_rises a b [] h = omega (arith, h)
from_rises a b (x ∷ xs) h = let le : a + 1 ≤ b = from_rises (a + 1) b xs h.1 in omega (arith, le)

pub rises : (w w' : _) → Grows w w' → w.next_resource ≤ w'.next_resource
rises w w' g = from_rises w.next_resource w'.next_resource g.owners g.numbers

lifts : (P : ℕ → Type 0) → LiftsHold P (TargetNames P)
lifts P m func os ty brought held =
    func_to (partner_in m.resources) P ty
    (each_then (IsBrought m.resources) (λ r. P (partner_in m.resources r)) (λ r is. pair_held P (TargetNames P) m.resources r is held) (named_in_func ty) brought)

item_below : (item : Planned) (m : Making) → ItemKnows (λ r. r) item m → AreBelow m → AreBelow (link_item item m)
item_below item m know h most le =
    let up : m.whole.next_resource ≤ (link_item item m).whole.next_resource = rises m.whole (link_item item m).whole (item_grows item m) in
    item_held (Less most) (TargetNames (Less most)) (λ r. r) m.whole.next_resource most (λ r lo hi. hi) (lifts (Less most)) item m know (omega arith) le (h most (omega (arith, up, le)))

plan_below : (plan : Plan) (m : Making) → PlanKnows (λ r. r) plan m → AreBelow m → AreBelow (link plan m)
plan_below plan m know h most le =
    let up : m.whole.next_resource ≤ (link plan m).whole.next_resource = rises m.whole (link plan m).whole (plan_grows plan m) in
    plan_held (Less most) (TargetNames (Less most)) (λ r. r) m.whole.next_resource most (λ r lo hi. hi) (lifts (Less most)) plan m know (omega arith) le (h most (omega (arith, up, le)))

known_below : (ks : List Known) (r : ℕ) → IsKnown ks r → r < behind_known ks
known_below [] r is = absurd is
known_below (k ∷ ks) r (inl same) = let le : k.number + 1 ≤ max (k.number + 1) (behind_known ks) = le-max_left (k.number + 1) (behind_known ks) in omega (arith, le, same)
known_below (k ∷ ks) r (inr is) =
    let less : r < behind_known ks = known_below ks r is in
    let le : behind_known ks ≤ max (k.number + 1) (behind_known ks) = le-max_right (k.number + 1) (behind_known ks) in
    omega (arith, le, less)

first_below : (imports : Entries) → AreBelow (outermost imports)
first_below imports most le = (
  all_outside_held (Less most) (TargetNames (Less most)) (λ i. tt) [] imports
      (each_known (Less most) (TargetNames (Less most)) (all_known [] imports) (λ r is. let less : r < behind_known (all_known [] imports) = known_below (all_known [] imports) r is in omega (arith, less, le))),
  tt,
  tt,
  tt,
  tt,
  tt,
)

enters_below : (m : Making) (args : List NamedArg) → ArgsBrought m.resources args → AreBelow m → AreBelow (begun (and_stage m.whole Begins) (givens_of m args))
enters_below m args know h most le =
    let held : Holds (Less most) (TargetNames (Less most)) m = h most le in
    (givens_of_held (Less most) (TargetNames (Less most)) m args held know, tt, tt, tt, held.4, tt)

leaves_below : (m made : Making) (own : List (ℕ × ℕ)) → Grows m.whole made.whole → OwnBrought made.resources own → AreBelow m → AreBelow made → AreBelow (with_component m own made)
leaves_below m made own grows know h k most le =
    let up : m.whole.next_resource ≤ made.whole.next_resource = rises m.whole made.whole grows in
    let outer : Holds (Less most) (TargetNames (Less most)) m = h most (omega (arith, up, le)) in
    let inner : Holds (Less most) (TargetNames (Less most)) made = k most le in (
      outer.0,
      list_append (Less most) (TargetNames (Less most)) m.instances made.exports outer.1 inner.2,
      outer.2,
      pairs_append (Less most) (TargetNames (Less most)) m.resources (own_bound made.resources own) outer.3 (own_held (Less most) (TargetNames (Less most)) made.resources own know inner.3),
      inner.4,
      outer.5,
    )

pub stay_below : NumbersStayBelow
stay_below = record {
  first = first_below;
  item = item_below;
  plan = plan_below;
  enters = enters_below;
  leaves = leaves_below;
}

-- What a component defines has numbers in front of the next one.
use Rattle.std.proofs.Common.{◌≡◌, ℕ, ◌+◌, ◌≤◌, ◌<◌, nat_eq, cond, List, [], ◌∷◌, ◌++◌, Option, Some, None, Bool, true, false, refl, sym, subst, arith}
use Rattle.std.specs.Prelude.{slice_get}
use Rattle.std.specs.Option.{option_and_then}
use Rattle.std.proofs.lemmas.Bool.{eqb-true, ltb-false}
use Rattle.wasm_ast.specs.declared.module.CoreFunc.{CoreFunc}
use Rattle.wasm_ast.specs.declared.component.CanonOption.{CanonOption}
use Rattle.comp_grammar.specs.Trees.{Tree}
use Rattle.comp_worlds.specs.Groups.{Target, Owner, Begins}
use Rattle.comp_link.specs.Plans.{Plan, Planned, End, Then, OfModule, OfCoreItems, CoreItemOf, OfComponent, OfItems, ItemOf, NewResource, Lifts, Lowers, MakesResource, DropsResource, ReadsResource, Imports, Exports, plan_of}
use Rattle.comp_link.specs.Linking.{find, Owned, Whole, Making, begun, and_stage, core_find, given_at, givens_of, item_in, with_lowered, link_item, link, linked, owner_in, group_of}
use Rattle.comp_link.proofs.Numbers.{own_are_new}
use Rattle.comp_inside.specs.Linked.{unmade}
use Rattle.comp_inside.proofs.Made.{core_item_whole, item_whole, export_whole}
use Rattle.comp_joins.specs.Joining.{first_own, behind_own}

abbrev AllBelow : ℕ → List Owned → Type 0
AllBelow most [] = Unit {0}
AllBelow most (o ∷ os) = (o.resource < most) × AllBelow most os

below_and : (most : ℕ) (os : List Owned) (o : Owned) → AllBelow most os → o.resource ≡ most → AllBelow (most + 1) (os ++ o ∷ [])
below_and most [] o h is = (omega (arith, is), tt)
below_and most (x ∷ os) o h is = (let less : x.resource < most = h.0 in omega (arith, less), below_and most os o h.1 is)

abbrev Numbered : Whole → Type 0
Numbered w = AllBelow w.next_resource w.owners

lowered_numbered : (m : Making) (ty : CoreFunc) (os : List CanonOption) (o : Option Target) → Numbered m.whole → Numbered (with_lowered m ty os o).whole
lowered_numbered m ty os None h = h
lowered_numbered m ty os (Some target) h = h

mutual
  item_numbered : (item : Planned) (m : Making) → Numbered m.whole → Numbered (link_item item m).whole
  item_numbered (OfModule module' args) m h = h
  item_numbered (OfCoreItems exports) m h = h
  item_numbered (CoreItemOf sort instance name) m h = subst Numbered (sym (core_item_whole m (option_and_then (core_find name) (slice_get m.core_instances instance)))) h
  item_numbered (OfComponent component own args) m h = plan_numbered component (begun (and_stage m.whole Begins) (givens_of m args)) h
  item_numbered (OfItems exports) m h = h
  item_numbered (ItemOf sort instance name) m h = subst Numbered (sym (item_whole m (item_in (slice_get m.instances instance) name))) h
  item_numbered (NewResource resource destructor) m h = below_and m.whole.next_resource m.whole.owners _ h refl
  item_numbered (Lifts func os ty) m h = h
  item_numbered (Lowers func os ty) m h = lowered_numbered m ty os (option_and_then (λ o. o) (slice_get m.functions func)) h
  item_numbered (MakesResource resource) m h = h
  item_numbered (DropsResource resource) m h = h
  item_numbered (ReadsResource resource) m h = h
  item_numbered (Imports name item) m h = subst Numbered (sym (item_whole m (find name m.given))) h
  item_numbered (Exports name item stated) m h = subst Numbered (sym (export_whole m name (given_at m item) stated)) h

  plan_numbered : (plan : Plan) (m : Making) → Numbered m.whole → Numbered (link plan m).whole
  plan_numbered End m h = h
  plan_numbered (Then item rest) m h = plan_numbered rest (link_item item m) (item_numbered item m h)

owner_below : (most r : ℕ) (os : List Owned) (o : Owner) → AllBelow most os → owner_in os r ≡ Some o → r < most
owner_below most r [] o h is = absurd (let q : None ≡ Some o = is in cc)
owner_below most r (x ∷ os) o h is = at_test (nat_eq x.resource r) refl is (λ is'. owner_below most r os o h.1 is')
  where
    at_test : (b : Bool) → nat_eq x.resource r ≡ b → cond b (Some x.owner) (owner_in os r) ≡ Some o → (owner_in os r ≡ Some o → r < most) → r < most
    at_test true e is' later = subst (λ z. z < most) (eqb-true x.resource r e) h.0
    at_test false e is' later = later is'

pub owned_below : (tree : Tree) (r : ℕ) (o : Owner) → (group_of tree).owner r ≡ Some o → r < behind_own tree
owned_below tree r o is = owner_below (behind_own tree) r (linked tree).whole.owners o (plan_numbered (plan_of tree) (unmade tree) tt) is

pub owned_behind : (tree : Tree) (r : ℕ) (o : Owner) → (group_of tree).owner r ≡ Some o → first_own tree ≤ r
owned_behind tree r o is = ltb-false r (first_own tree) (own_are_new tree r o is)

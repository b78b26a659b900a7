-- Each item of a plan adds at the end.
use Rattle.std.proofs.Common.{◌≡◌, ℕ, ◌+◌, ◌≤◌, List, [], ◌∷◌, ◌++◌, Option, Some, None, append-nil, append_assoc, refl, sym, ◌∙◌, ap, subst, arith}
use Rattle.std.specs.Prelude.{slice_get}
use Rattle.std.specs.Option.{option_and_then}
use Rattle.wasm_ast.specs.declared.module.CoreFunc.{CoreFunc}
use Rattle.wasm_ast.specs.declared.component.CanonOption.{CanonOption}
use Rattle.comp_worlds.specs.Groups.{Target, Stage, Begins}
use Rattle.comp_link.specs.Plans.{End, Then, OfModule, OfCoreItems, CoreItemOf, OfComponent, OfItems, ItemOf, NewResource, Lifts, Lowers, MakesResource, DropsResource, ReadsResource, Imports, Exports}
use Rattle.comp_link.specs.Linking.{find, Placed, Owned, Whole, Making, begun, and_stage, core_find, and_core_item, given_at, givens_of, item_in, and_item, and_export, with_lowered, link_item, link}
use Rattle.comp_inside.proofs.Made.{core_item_whole, item_whole, export_whole}
use Rattle.comp_joins.specs.Growing.{AreFrom, Grows, ItemsGrow, PlansGrow}

from_append : (a b c : ℕ) (xs ys : List Owned) → AreFrom a xs b → AreFrom b ys c → AreFrom a (xs ++ ys) c
from_append a b c [] ys h k = subst (λ z. AreFrom z ys c) (sym h) k
from_append a b c (x ∷ xs) ys h k = (h.0, from_append (a + 1) b c xs ys h.1 k)

-- stages and canonical functions more
adds : (w : Whole) (stages : List Stage) (canons : List Placed) → Grows w (record w { stages = w.stages ++ stages; canons = w.canons ++ canons })
adds w stages canons = record {
  stages = stages;
  stages_behind = refl;
  canons = canons;
  canons_behind = refl;
  owners = [];
  owners_behind = sym (append-nil w.owners);
  numbers = refl;
  instances = omega arith;
}

pub grows_same : (w w' : Whole) → w' ≡ w → Grows w w'
grows_same w w' same = subst (Grows w) (sym same) (record {
  stages = [];
  stages_behind = sym (append-nil w.stages);
  canons = [];
  canons_behind = sym (append-nil w.canons);
  owners = [];
  owners_behind = sym (append-nil w.owners);
  numbers = refl;
  instances = omega arith;
})

behind : {A : Type 0} → (xs ys zs more rest : List A) → ys ≡ xs ++ more → zs ≡ ys ++ rest → zs ≡ xs ++ (more ++ rest)
behind xs ys zs more rest e e' = e' ∙ ap (λ l. l ++ rest) e ∙ append_assoc xs more rest

pub grows_then : (u v w : Whole) → Grows u v → Grows v w → Grows u w
grows_then u v w g h =
    let lo : u.next_instance ≤ v.next_instance = g.instances in
    let hi : v.next_instance ≤ w.next_instance = h.instances in
    record {
      stages = g.stages ++ h.stages;
      stages_behind = behind u.stages v.stages w.stages g.stages h.stages g.stages_behind h.stages_behind;
      canons = g.canons ++ h.canons;
      canons_behind = behind u.canons v.canons w.canons g.canons h.canons g.canons_behind h.canons_behind;
      owners = g.owners ++ h.owners;
      owners_behind = behind u.owners v.owners w.owners g.owners h.owners g.owners_behind h.owners_behind;
      numbers = from_append u.next_resource v.next_resource w.next_resource g.owners h.owners g.numbers h.numbers;
      instances = omega (arith, lo, hi);
    }

lowered_grows : (m : Making) (ty : CoreFunc) (os : List CanonOption) (o : Option Target) → Grows m.whole (with_lowered m ty os o).whole
lowered_grows m ty os None = grows_same m.whole m.whole refl
lowered_grows m ty os (Some target) = adds m.whole _ _

-- a resource more
owns : (m : Making) (resource : ℕ) (destructor : Option ℕ) → Grows m.whole (link_item (NewResource resource destructor) m).whole
owns m resource destructor = record {
  stages = [];
  stages_behind = sym (append-nil m.whole.stages);
  canons = [];
  canons_behind = sym (append-nil m.whole.canons);
  owners = _;
  owners_behind = refl;
  numbers = (refl, refl);
  instances = omega arith;
}

-- an instance more, after a stage
enters : (m : Making) (given : _) → Grows m.whole (begun (and_stage m.whole Begins) given).whole
enters m given = record {
  stages = Begins ∷ [];
  stages_behind = refl;
  canons = [];
  canons_behind = sym (append-nil m.whole.canons);
  owners = [];
  owners_behind = sym (append-nil m.whole.owners);
  numbers = refl;
  instances = omega arith;
}

module_grows : (w : Whole) (stage : Stage) → Grows w (and_stage w stage)
module_grows w stage = record {
  stages = stage ∷ [];
  stages_behind = refl;
  canons = [];
  canons_behind = sym (append-nil w.canons);
  owners = [];
  owners_behind = sym (append-nil w.owners);
  numbers = refl;
  instances = omega arith;
}

mutual
  pub item_grows : ItemsGrow
  item_grows (OfModule module' args) m = module_grows m.whole _
  item_grows (OfCoreItems exports) m = grows_same m.whole m.whole refl
  item_grows (CoreItemOf sort instance name) m =
      let o = option_and_then (core_find name) (slice_get m.core_instances instance) in
      grows_same m.whole (and_core_item m o).whole (core_item_whole m o)
  item_grows (OfComponent component own args) m =
      let inner : Making = begun (and_stage m.whole Begins) (givens_of m args) in
      grows_then m.whole inner.whole (link component inner).whole (enters m (givens_of m args)) (plan_grows component inner)
  item_grows (OfItems exports) m = grows_same m.whole m.whole refl
  item_grows (ItemOf sort instance name) m =
      let o = item_in (slice_get m.instances instance) name in
      grows_same m.whole (and_item m o).whole (item_whole m o)
  item_grows (NewResource resource destructor) m = owns m resource destructor
  item_grows (Lifts func os ty) m = grows_same m.whole m.whole refl
  item_grows (Lowers func os ty) m = lowered_grows m ty os (option_and_then (λ o. o) (slice_get m.functions func))
  item_grows (MakesResource resource) m = adds m.whole _ _
  item_grows (DropsResource resource) m = adds m.whole _ _
  item_grows (ReadsResource resource) m = adds m.whole _ _
  item_grows (Imports name item) m = grows_same m.whole (and_item m (find name m.given)).whole (item_whole m (find name m.given))
  item_grows (Exports name item stated) m = grows_same m.whole (and_export m name (given_at m item) stated).whole (export_whole m name (given_at m item) stated)

  pub plan_grows : PlansGrow
  plan_grows End m = grows_same m.whole m.whole refl
  plan_grows (Then item rest) m =
      grows_then m.whole (link_item item m).whole (link rest (link_item item m)).whole (item_grows item m) (plan_grows rest (link_item item m))

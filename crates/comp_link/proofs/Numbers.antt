-- Resources that are defined get numbers after those of the component's imports.
use Rattle.std.proofs.Common.{◌≡◌, ℕ, ◌≤◌, nat_eq, nat_lt, cond, List, [], ◌∷◌, ◌++◌, Option, Some, None, Bool, true, false, refl, sym, subst, arith}
use Rattle.std.specs.Prelude.{slice_get}
use Rattle.std.specs.Option.{option_and_then}
use Rattle.std.proofs.lemmas.Bool.{eqb-true}
use Rattle.wasm_ast.specs.declared.module.CoreFunc.{CoreFunc}
use Rattle.wasm_ast.specs.declared.component.CanonOption.{CanonOption}
use Rattle.core_instance.specs.declared.external.Extern.{Extern}
use Rattle.core_instance.specs.declared.external.Extern.TheVariants.{Func, Table, Memory, Global}
use Rattle.wit_types.specs.Plain.{Name}
use Rattle.comp_types.specs.Items.{Item}
use Rattle.comp_types.specs.Added.{after_tree, root}
use Rattle.comp_worlds.specs.Groups.{Target, Owner, Begins}
use Rattle.comp_link.specs.Plans.{Plan, Planned, End, Then, OfModule, OfCoreItems, CoreItemOf, OfComponent, OfItems, ItemOf, NewResource, Lifts, Lowers, MakesResource, DropsResource, ReadsResource, Imports, Exports, plan_of}
use Rattle.comp_link.specs.Linking.{Given, GivenFunc, GivenInstance, GivenResource, GivenType, find, Owned, Whole, Making, begun, and_stage, core_find, and_core_item, given_at, givens_of, item_in, and_item, and_export, with_lowered, link_item, link, linked, all_outside, all_known, behind_known, owner_in}
use Rattle.comp_link.specs.Laws.{OwnResourcesAreNew}

abbrev AllFrom : ℕ → List Owned → Type 0
AllFrom base [] = Unit {0}
AllFrom base (o ∷ os) = (base ≤ o.resource) × AllFrom base os

all_and : (base : ℕ) (os : List Owned) (o : Owned) → AllFrom base os → base ≤ o.resource → AllFrom base (os ++ o ∷ [])
all_and base [] o h le = (le, tt)
all_and base (x ∷ os) o h le = (h.0, all_and base os o h.1 le)

-- what is defined, and what will be, has numbers from this one on
record Fresh (base : ℕ) (w : Whole) : Type 0 where
  next : base ≤ w.next_resource
  each : AllFrom base w.owners

core_item_whole : (m : Making) (o : Option Extern) → (and_core_item m o).whole ≡ m.whole
core_item_whole m None = refl
core_item_whole m (Some (Func at)) = refl
core_item_whole m (Some (Table at)) = refl
core_item_whole m (Some (Memory at)) = refl
core_item_whole m (Some (Global at)) = refl

item_whole : (m : Making) (o : Option Given) → (and_item m o).whole ≡ m.whole
item_whole m None = refl
item_whole m (Some (GivenFunc target)) = refl
item_whole m (Some (GivenInstance items)) = refl
item_whole m (Some (GivenResource r)) = refl
item_whole m (Some GivenType) = refl

export_whole : (m : Making) (name : Name) (o : Option Given) (stated : Option Item) → (and_export m name o stated).whole ≡ m.whole
export_whole m name None stated = refl
export_whole m name (Some item) stated = item_whole m (Some item)

lowered_fresh : (base : ℕ) (m : Making) (ty : CoreFunc) (os : List CanonOption) (o : Option Target) → Fresh base m.whole → Fresh base (with_lowered m ty os o).whole
lowered_fresh base m ty os None h = h
lowered_fresh base m ty os (Some target) h = record { next = h.next; each = h.each }

mutual
  item_fresh : (base : ℕ) (item : Planned) (m : Making) → Fresh base m.whole → Fresh base (link_item item m).whole
  item_fresh base (OfModule module' args) m h = record { next = h.next; each = h.each }
  item_fresh base (OfCoreItems exports) m h = h
  item_fresh base (CoreItemOf sort instance name) m h = subst (Fresh base) (sym (core_item_whole m (option_and_then (core_find name) (slice_get m.core_instances instance)))) h
  item_fresh base (OfComponent component own args) m h = plan_fresh base component (begun (and_stage m.whole Begins) (givens_of m args)) (record { next = h.next; each = h.each })
  item_fresh base (OfItems exports) m h = h
  item_fresh base (ItemOf sort instance name) m h = subst (Fresh base) (sym (item_whole m (item_in (slice_get m.instances instance) name))) h
  item_fresh base (NewResource resource destructor) m h = record { next = let le : base ≤ m.whole.next_resource = h.next in omega arith; each = all_and base m.whole.owners _ h.each h.next }
  item_fresh base (Lifts func os ty) m h = h
  item_fresh base (Lowers func os ty) m h = lowered_fresh base m ty os (option_and_then (λ o. o) (slice_get m.functions func)) h
  item_fresh base (MakesResource resource) m h = record { next = h.next; each = h.each }
  item_fresh base (DropsResource resource) m h = record { next = h.next; each = h.each }
  item_fresh base (ReadsResource resource) m h = record { next = h.next; each = h.each }
  item_fresh base (Imports name item) m h = subst (Fresh base) (sym (item_whole m (find name m.given))) h
  item_fresh base (Exports name item stated) m h = subst (Fresh base) (sym (export_whole m name (given_at m item) stated)) h

  plan_fresh : (base : ℕ) (plan : Plan) (m : Making) → Fresh base m.whole → Fresh base (link plan m).whole
  plan_fresh base End m h = h
  plan_fresh base (Then item rest) m h = plan_fresh base rest (link_item item m) (item_fresh base item m h)

owner_from : (base r : ℕ) (os : List Owned) (o : Owner) → AllFrom base os → owner_in os r ≡ Some o → base ≤ r
owner_from base r [] o h is = absurd (let q : None ≡ Some o = is in cc)
owner_from base r (x ∷ os) o h is = at_test (nat_eq x.resource r) refl is (λ is'. owner_from base r os o h.1 is')
  where
    at_test : (b : Bool) → nat_eq x.resource r ≡ b → cond b (Some x.owner) (owner_in os r) ≡ Some o → (owner_in os r ≡ Some o → base ≤ r) → base ≤ r
    at_test true e is' later = subst (λ z. base ≤ z) (eqb-true x.resource r e) h.0
    at_test false e is' later = later is'

below_false : (r base : ℕ) → base ≤ r → nat_lt r base ≡ false
below_false r base le = at_test (nat_lt r base) refl
  where
    at_test : (b : Bool) → nat_lt r base ≡ b → b ≡ false
    at_test false e = refl
    at_test true e = absurd (grind (arith))

pub own_are_new : OwnResourcesAreNew
own_are_new tree r o is =
    let base = behind_known (all_known [] (after_tree [] root tree).imports) in
    below_false r base
    (owner_from base r (linked tree).whole.owners o
    (plan_fresh base (plan_of tree) (begun (record { next_instance = 0; next_resource = base; stages = []; canons = []; owners = [] }) (all_outside [] (after_tree [] root tree).imports)) (record { next = omega arith; each = tt })).each is)

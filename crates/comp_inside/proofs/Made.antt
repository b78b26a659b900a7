-- What a plan makes stands after what was made before.
use Rattle.std.proofs.Common.{◌≡◌, ◌+◌, ◌≤◌, Option, Some, None, refl, sym, subst, arith}
use Rattle.std.specs.Prelude.{slice_get}
use Rattle.std.specs.Option.{option_and_then}
use Rattle.wasm_ast.specs.declared.module.CoreFunc.{CoreFunc}
use Rattle.wasm_ast.specs.declared.component.CanonOption.{CanonOption}
use Rattle.std.specs.Prelude.{List}
use Rattle.core_instance.specs.declared.external.Extern.{Extern}
use Rattle.core_instance.specs.declared.external.Extern.TheVariants.{Func, Table, Memory, Global}
use Rattle.wit_types.specs.Plain.{Name}
use Rattle.comp_types.specs.Items.{Item}
use Rattle.comp_worlds.specs.Groups.{Target, Begins}
use Rattle.comp_link.specs.Plans.{Plan, Planned, End, Then, OfModule, OfCoreItems, CoreItemOf, OfComponent, OfItems, ItemOf, NewResource, Lifts, Lowers, MakesResource, DropsResource, ReadsResource, Imports, Exports}
use Rattle.comp_link.specs.Linking.{Given, GivenFunc, GivenInstance, GivenResource, GivenType, find, Whole, Making, begun, and_stage, core_find, and_core_item, given_at, givens_of, item_in, and_item, and_export, with_lowered, link_item, link}

-- the next instance that m would make, against that of m'
abbrev Before : Making → Making → Type 0
Before m m' = m.whole.next_instance ≤ m'.whole.next_instance

none_made : (m : Making) (w : Whole) → w ≡ m.whole → m.whole.next_instance ≤ w.next_instance
none_made m w same = subst (λ z. m.whole.next_instance ≤ z.next_instance) (sym same) (omega arith)

pub core_item_whole : (m : Making) (o : Option Extern) → (and_core_item m o).whole ≡ m.whole
core_item_whole m None = refl
core_item_whole m (Some (Func at)) = refl
core_item_whole m (Some (Table at)) = refl
core_item_whole m (Some (Memory at)) = refl
core_item_whole m (Some (Global at)) = refl

pub item_whole : (m : Making) (o : Option Given) → (and_item m o).whole ≡ m.whole
item_whole m None = refl
item_whole m (Some (GivenFunc target)) = refl
item_whole m (Some (GivenInstance items)) = refl
item_whole m (Some (GivenResource r)) = refl
item_whole m (Some GivenType) = refl

pub export_whole : (m : Making) (name : Name) (o : Option Given) (stated : Option Item) → (and_export m name o stated).whole ≡ m.whole
export_whole m name None stated = refl
export_whole m name (Some item) stated = item_whole m (Some item)

lowered_made : (m : Making) (ty : CoreFunc) (os : List CanonOption) (o : Option Target) → Before m (with_lowered m ty os o)
lowered_made m ty os None = omega arith
lowered_made m ty os (Some target) = omega arith

mutual
  item_made : (item : Planned) (m : Making) → Before m (link_item item m)
  item_made (OfModule module' args) m = omega arith
  item_made (OfCoreItems exports) m = omega arith
  item_made (CoreItemOf sort instance name) m = none_made m (and_core_item m (option_and_then (core_find name) (slice_get m.core_instances instance))).whole (core_item_whole m (option_and_then (core_find name) (slice_get m.core_instances instance)))
  item_made (OfComponent component own args) m =
      let begun' : Making = begun (and_stage m.whole Begins) (givens_of m args) in
      let more : m.whole.next_instance + 1 ≤ (link component begun').whole.next_instance = more_made component begun' in
      omega (arith, more)
  item_made (OfItems exports) m = omega arith
  item_made (ItemOf sort instance name) m = none_made m (and_item m (item_in (slice_get m.instances instance) name)).whole (item_whole m (item_in (slice_get m.instances instance) name))
  item_made (NewResource resource destructor) m = omega arith
  item_made (Lifts func os ty) m = omega arith
  item_made (Lowers func os ty) m = lowered_made m ty os (option_and_then (λ o. o) (slice_get m.functions func))
  item_made (MakesResource resource) m = omega arith
  item_made (DropsResource resource) m = omega arith
  item_made (ReadsResource resource) m = omega arith
  item_made (Imports name item) m = none_made m (and_item m (find name m.given)).whole (item_whole m (find name m.given))
  item_made (Exports name item stated) m = none_made m (and_export m name (given_at m item) stated).whole (export_whole m name (given_at m item) stated)

  pub more_made : (plan : Plan) (m : Making) → Before m (link plan m)
  more_made End m = omega arith
  more_made (Then item rest) m =
      let first : m.whole.next_instance ≤ (link_item item m).whole.next_instance = item_made item m in
      let later : (link_item item m).whole.next_instance ≤ (link rest (link_item item m)).whole.next_instance = more_made rest (link_item item m) in
      omega (arith, first, later)

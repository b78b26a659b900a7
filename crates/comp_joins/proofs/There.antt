-- What a plan finds alone, it finds where it stands.
use Rattle.std.proofs.Common.{◌≡◌, ◌+◌, ◌≤◌, List, [], ◌∷◌, ◌++◌, map, Option, Some, None, refl, sym, ◌∙◌, ap, subst, arith}
use Rattle.std.specs.Prelude.{slice_get}
use Rattle.std.specs.Option.{option_map, option_and_then}
use Rattle.std.proofs.Math.Path.{ap₂}
use Rattle.std.proofs.lemmas.Option.{slice_get-map}
use Rattle.wit_types.specs.Plain.{Name}
use Rattle.comp_types.specs.Items.{Item, Entries, FuncItem, InstanceItem, KindItem, End as NoEntries, More as Entry, same_name}
use Rattle.comp_types.specs.Substitution.{item_with, entries_with}
use Rattle.comp_worlds.specs.Groups.{Target, Begins}
use Rattle.comp_link.specs.Plans.{Named, AFunc, AnInstanceAt, AResource, AValueType, NamedArg, Plan, Planned, End, Then, OfModule, OfCoreItems, CoreItemOf, OfComponent, OfItems, ItemOf, NewResource, Lifts, Lowers, MakesResource, DropsResource, ReadsResource, Imports, Exports}
use Rattle.comp_link.specs.Linking.{Given, Givens, GivenFunc, GivenInstance, GivenResource, GivenType, Nothing, Giving, find, item_in, Making, begun, and_stage, given_at, givens_of, link_item, link}
use Rattle.comp_inside.specs.Later.{later, arg_later, named_later, planned_later, plan_later}
use Rattle.comp_inside.specs.Linked.{Standing, InOrder, target_in, given_in, givens_in, whole_in, making_in, ArgsBrought, ItemKnows, PlanKnows}
use Rattle.comp_inside.proofs.Made.{more_made}
use Rattle.comp_inside.proofs.Linked.{linked_inside}
use Rattle.comp_joins.specs.Alike.{IsThere, Finds, FindsIn, FindsAll, FindsIf, ItemFinds, PlanFinds}
use Rattle.comp_joins.proofs.Lists.{cond_some}

last_same : {A : Type 0} → (xs : List A) (x y : A) → xs ++ x ∷ [] ≡ xs ++ y ∷ [] → x ≡ y
last_same [] x y h = let q : x ∷ [] ≡ y ∷ [] = h in cc
last_same (a ∷ xs) x y h = last_same xs x y (let q : a ∷ (xs ++ x ∷ []) ≡ a ∷ (xs ++ y ∷ []) = h in cc)

map_last : {A B : Type 0} → (f : A → B) (xs : List A) (x : A) → map f (xs ++ x ∷ []) ≡ map f xs ++ f x ∷ []
map_last f [] x = refl
map_last f (a ∷ xs) x = ap (λ z. f a ∷ z) (map_last f xs x)

there_mapped : (f : Given → Given) (o : Option Given) → IsThere o → IsThere (option_map f o)
there_mapped f None h = h
there_mapped f (Some item) h = tt

module _ (at : Standing) where
  find_in : (name : Name) (gs : Givens) → find name (givens_in at gs) ≡ option_map (given_in at) (find name gs)
  find_in name Nothing = refl
  find_in name (Giving n item rest) = cond_some (given_in at) (same_name n name) item (find name (givens_in at rest)) (find name rest) (find_in name rest)

  mutual
    finds_in : (o : Option Given) (item : Item) → FindsIn IsThere o item → FindsIn IsThere (option_map (given_in at) o) (item_with (later at.later) item)
    finds_in None item h = tt
    finds_in (Some (GivenFunc target)) item h = tt
    finds_in (Some (GivenResource r)) item h = tt
    finds_in (Some GivenType) item h = tt
    finds_in (Some (GivenInstance items)) (FuncItem ty) h = tt
    finds_in (Some (GivenInstance items)) (KindItem kind) h = tt
    finds_in (Some (GivenInstance items)) (InstanceItem entries) h = finds_all_in entries items h

    finds_all_in : (entries : Entries) (items : Givens) → FindsAll IsThere items entries → FindsAll IsThere (givens_in at items) (entries_with (later at.later) entries)
    finds_all_in NoEntries items h = tt
    finds_all_in (Entry name item rest) items h =
        let is : option_map (given_in at) (find name items) ≡ find name (givens_in at items) = sym (find_in name items) in
        ((subst IsThere is (there_mapped (given_in at) (find name items) h.0.0), subst (λ z. FindsIn IsThere z (item_with (later at.later) item)) is (finds_in (find name items) item h.0.1)), finds_all_in rest items h.1)

  finds_there : (o o' : Option Given) (item : Item) → option_map (given_in at) o ≡ o' → Finds IsThere o item → Finds IsThere o' (item_with (later at.later) item)
  finds_there o o' item is h = subst (λ z. Finds IsThere z (item_with (later at.later) item)) is (there_mapped (given_in at) o h.0, finds_in o item h.1)

  functions_in : (o : Option (Option Target)) → option_map (given_in at) (option_and_then (option_map GivenFunc) o) ≡ option_and_then (option_map GivenFunc) (option_map (option_map (target_in at)) o)
  functions_in None = refl
  functions_in (Some None) = refl
  functions_in (Some (Some target)) = refl

  instances_in : (o : Option Givens) → option_map (given_in at) (option_map GivenInstance o) ≡ option_map GivenInstance (option_map (givens_in at) o)
  instances_in None = refl
  instances_in (Some items) = refl

  named_finds : (m : Making) (named : Named) (stated : Option Item) → FindsIf IsThere (given_at m named) stated → FindsIf IsThere (given_at (making_in at m) (named_later at.later named)) (option_map (item_with (later at.later)) stated)
  named_finds m named None h = tt
  named_finds m (AFunc i) (Some item) h =
      finds_there (given_at m (AFunc i)) (given_at (making_in at m) (AFunc i)) item
      (functions_in (slice_get m.functions i) ∙ ap (option_and_then (option_map GivenFunc)) (sym (slice_get-map (option_map (target_in at)) m.functions i))) h
  named_finds m (AnInstanceAt i) (Some item) h =
      finds_there (given_at m (AnInstanceAt i)) (given_at (making_in at m) (AnInstanceAt i)) item
      (instances_in (slice_get m.instances i) ∙ ap (option_map GivenInstance) (sym (slice_get-map (givens_in at) m.instances i))) h
  named_finds m (AResource r) (Some item) h = (tt, tt)
  named_finds m AValueType (Some item) h = (tt, tt)

  item_there : (o : Option Givens) (name : Name) → IsThere (item_in o name) → IsThere (item_in (option_map (givens_in at) o) name)
  item_there None name h = h
  item_there (Some items) name h = subst IsThere (sym (find_in name items)) (there_mapped (given_in at) (find name items) h)

  -- ---- what a component in it is given

  given_same : (m : Making) (args : List NamedArg) → InOrder at m.whole.next_instance → ArgsBrought m.resources args → givens_of (making_in at m) (map (arg_later at.later) args) ≡ givens_in at (givens_of m args)
  given_same m args order brought =
      last_same (map (givens_in at) m.instances) _ _
      (ap (λ (z : Making). z.instances) (linked_inside at (Then (OfItems args) End) m order (brought, tt)) ∙ map_last (givens_in at) m.instances (givens_of m args))

  whole_same : (m : Making) → InOrder at (m.whole.next_instance + 1) → begun (and_stage (whole_in at m.whole) Begins) Nothing ≡ making_in at (begun (and_stage m.whole Begins) Nothing)
  whole_same m order =
      ap₂ (λ k w. record (begun (and_stage (whole_in at m.whole) Begins) Nothing) { instance = k; whole = w }) (sym (order m.whole.next_instance (omega arith)))
      (ap (λ (z : Making). z.whole) (linked_inside at (Then (OfComponent End [] []) End) m order ((tt, tt, tt), tt)))

  begun_same : (m : Making) (args : List NamedArg) → InOrder at (m.whole.next_instance + 1) → ArgsBrought m.resources args
      → begun (and_stage (whole_in at m.whole) Begins) (givens_of (making_in at m) (map (arg_later at.later) args)) ≡ making_in at (begun (and_stage m.whole Begins) (givens_of m args))
  begun_same m args order brought =
      ap (λ g. begun (and_stage (whole_in at m.whole) Begins) g) (given_same m args (λ k less. order k (omega (arith, less))) brought)
      ∙ ap (λ (z : Making). record z { given = givens_in at (givens_of m args) }) (whole_same m order)

  -- ---- the plan

  mutual
    item_found : (item : Planned) (m : Making) → InOrder at (link_item item m).whole.next_instance → ItemKnows at.to item m → ItemFinds IsThere item m → ItemFinds IsThere (planned_later at.later item) (making_in at m)
    item_found (OfModule module' args) m order knows h = tt
    item_found (OfCoreItems exports) m order knows h = tt
    item_found (CoreItemOf sort instance name) m order knows h = tt
    item_found (OfComponent component own args) m order knows h =
        let within : Making = begun (and_stage m.whole Begins) (givens_of m args) in
        let more : m.whole.next_instance + 1 ≤ (link component within).whole.next_instance = more_made component within in
        subst (PlanFinds IsThere (plan_later at.later component)) (sym (begun_same m args (λ k less. order k (omega (arith, less, more))) knows.0))
        (plan_found component within order knows.1 h)
    item_found (OfItems exports) m order knows h = tt
    item_found (ItemOf sort instance name) m order knows h =
        subst (λ z. IsThere (item_in z name)) (sym (slice_get-map (givens_in at) m.instances instance)) (item_there (slice_get m.instances instance) name h)
    item_found (NewResource resource destructor) m order knows h = tt
    item_found (Lifts func os ty) m order knows h = tt
    item_found (Lowers func os ty) m order knows h = tt
    item_found (MakesResource resource) m order knows h = tt
    item_found (DropsResource resource) m order knows h = tt
    item_found (ReadsResource resource) m order knows h = tt
    item_found (Imports name item) m order knows h = finds_there (find name m.given) (find name (givens_in at m.given)) item (sym (find_in name m.given)) h
    item_found (Exports name item stated) m order knows h = named_finds m item stated h

    pub plan_found : (plan : Plan) (m : Making) → InOrder at (link plan m).whole.next_instance → PlanKnows at.to plan m → PlanFinds IsThere plan m → PlanFinds IsThere (plan_later at.later plan) (making_in at m)
    plan_found End m order knows h = tt
    plan_found (Then item rest) m order knows h =
        let next : Making = link_item item m in
        let more : next.whole.next_instance ≤ (link rest next).whole.next_instance = more_made rest next in
        let order' : InOrder at next.whole.next_instance = λ k less. order k (omega (arith, less, more)) in (
          item_found item m order' knows.0 h.0,
          subst (PlanFinds IsThere (plan_later at.later rest)) (sym (linked_inside at (Then item End) m order' (knows.0, tt))) (plan_found rest next order knows.1 h.1),
        )

-- What holds of each function that may be called from where a component is made, holds of each once an item more is made.
use Rattle.std.proofs.Common.{ℕ, zero, suc, cond, List, [], ◌∷◌, ◌++◌, Option, Some, None, Bool, true, false, slice_get}
use Rattle.std.specs.Option.{option_map, option_and_then}
use Rattle.wasm_ast.specs.declared.module.CoreFunc.{CoreFunc}
use Rattle.wasm_ast.specs.declared.component.CanonOption.{CanonOption}
use Rattle.core_instance.specs.declared.external.Extern.{Extern}
use Rattle.core_instance.specs.declared.external.Extern.TheVariants.{Func, Table, Memory, Global}
use Rattle.wit_types.specs.Plain.{Name}
use Rattle.comp_types.specs.Items.{Item, same_name}
use Rattle.comp_worlds.specs.Groups.{Target, Mine, Func as Canon, LoweredFunc, ResourceNew, ResourceDrop, ResourceRep, Begins}
use Rattle.comp_link.specs.Plans.{Named, AFunc, AnInstanceAt, AResource, AValueType, NamedArg, Planned, OfModule, OfCoreItems, CoreItemOf, OfComponent, OfItems, ItemOf, NewResource, Lifts, Lowers, MakesResource, DropsResource, ReadsResource, Imports, Exports}
use Rattle.comp_link.specs.Linking.{Given, Givens, GivenFunc, GivenInstance, GivenResource, GivenType, Nothing, Giving, find, and_given, Placed, Making, begun, and_stage, core_find, and_core_item, given_at, and_some_given, givens_of, and_item, item_in, and_export, with_lowered, lifting_of, with_component, link_item}
use Rattle.comp_joins.specs.Holding.{ItemHolds, AllHold, SomeHolds, ListHolds, PairsHold, CanonHolds, TargetHolds, FunctionsHold, PlacedHold}
use Rattle.comp_interp.specs.Standing.{AllCalled}

-- nothing is asked of resources here
abbrev Any : ℕ → Type 0
Any r = Unit {0}

module _ (T : Target → Type 0) where
  pairs_any : (pairs : List (ℕ × ℕ)) → PairsHold Any T pairs
  pairs_any [] = tt
  pairs_any (p ∷ pairs) = (tt, pairs_any pairs)

  list_and : (xs : List Givens) (gs : Givens) → ListHolds Any T xs → AllHold Any T gs → ListHolds Any T (xs ++ gs ∷ [])
  list_and [] gs h k = (k, tt)
  list_and (x ∷ xs) gs h k = (h.0, list_and xs gs h.1 k)

  placed_and : (xs : List Placed) (p : Placed) → PlacedHold Any T xs → CanonHolds Any T p.canon → PlacedHold Any T (xs ++ p ∷ [])
  placed_and [] p h k = (k, tt)
  placed_and (x ∷ xs) p h k = (h.0, placed_and xs p h.1 k)

  functions_and : (xs : List (Option Target)) (f : Target) → FunctionsHold Any T xs → T f → FunctionsHold Any T (xs ++ Some f ∷ [])
  functions_and [] f h k = (k, tt)
  functions_and (x ∷ xs) f h k = (h.0, functions_and xs f h.1 k)

  pub function_called : (xs : List (Option Target)) (i : ℕ) → FunctionsHold Any T xs → TargetHolds Any T (option_and_then (λ o. o) (slice_get xs i))
  function_called [] i h = tt
  function_called (x ∷ xs) zero h = h.0
  function_called (x ∷ xs) (suc i) h = function_called xs i h.1

  pub found_called : (name : Name) (gs : Givens) → AllHold Any T gs → SomeHolds Any T (find name gs)
  found_called name Nothing h = tt
  found_called name (Giving n item rest) h = go (same_name n name) (found_called name rest h.1)
    where
      go : (b : Bool) → SomeHolds Any T (find name rest) → SomeHolds Any T (cond b (Some item) (find name rest))
      go true later = h.0
      go false later = later

  and_given_called : (gs : Givens) (n : Name) (item : Given) → AllHold Any T gs → ItemHolds Any T item → AllHold Any T (and_given gs n item)
  and_given_called Nothing n item h k = (k, tt)
  and_given_called (Giving n' i rest) n item h k = (h.0, and_given_called rest n item h.1 k)

  item_called : (list : List Givens) (k : ℕ) (name : Name) → ListHolds Any T list → SomeHolds Any T (item_in (slice_get list k) name)
  item_called [] k name h = tt
  item_called (gs ∷ list) zero name h = found_called name gs h.0
  item_called (gs ∷ list) (suc k) name h = item_called list k name h.1

  instance_called : (list : List Givens) (k : ℕ) → ListHolds Any T list → SomeHolds Any T (option_map GivenInstance (slice_get list k))
  instance_called [] k h = tt
  instance_called (gs ∷ list) zero h = h.0
  instance_called (gs ∷ list) (suc k) h = instance_called list k h.1

  pub given_called : (m : Making) (named : Named) → AllCalled T m → SomeHolds Any T (given_at m named)
  given_called m (AFunc i) h = go (slice_get m.functions i) (function_called m.functions i h.5)
    where
      go : (o : Option (Option Target)) → TargetHolds Any T (option_and_then (λ x. x) o) → SomeHolds Any T (option_and_then (option_map GivenFunc) o)
      go None k = tt
      go (Some None) k = tt
      go (Some (Some target)) k = k
  given_called m (AnInstanceAt i) h = instance_called m.instances i h.1
  given_called m (AResource r) h = tt
  given_called m AValueType h = tt

  some_called : (o : Option Given) (n : Name) (rest : Givens) → SomeHolds Any T o → AllHold Any T rest → AllHold Any T (and_some_given o n rest)
  some_called None n rest h k = k
  some_called (Some item) n rest h k = (h, k)

  pub givens_called : (m : Making) (args : List NamedArg) → AllCalled T m → AllHold Any T (givens_of m args)
  givens_called m [] h = tt
  givens_called m (a ∷ args) h = some_called (given_at m a.item) a.name (givens_of m args) (given_called m a.item h) (givens_called m args h)

  core_called : (m : Making) (o : Option Extern) → AllCalled T m → AllCalled T (and_core_item m o)
  core_called m None h = h
  core_called m (Some (Func at)) h = h
  core_called m (Some (Table at)) h = h
  core_called m (Some (Memory at)) h = h
  core_called m (Some (Global at)) h = h

  and_called : (m : Making) (o : Option Given) → SomeHolds Any T o → AllCalled T m → AllCalled T (and_item m o)
  and_called m None k h = h
  and_called m (Some (GivenFunc target)) k h = (h.0, h.1, h.2, h.3, h.4, functions_and m.functions target h.5 k)
  and_called m (Some (GivenInstance items)) k h = (h.0, list_and m.instances items h.1 k, h.2, h.3, h.4, h.5)
  and_called m (Some (GivenResource r)) k h = h
  and_called m (Some GivenType) k h = h

  export_called : (m : Making) (name : Name) (o : Option Given) (stated : Option Item) → SomeHolds Any T o → AllCalled T m → AllCalled T (and_export m name o stated)
  export_called m name None stated k h = h
  export_called m name (Some item) stated k h =
      let g : AllCalled T (and_item m (Some item)) = and_called m (Some item) k h in
      (g.0, g.1, and_given_called m.exports name item h.2 k, pairs_any _, g.4, g.5)

  lowered_called : (m : Making) (ty : CoreFunc) (os : List CanonOption) (o : Option Target) → TargetHolds Any T o → AllCalled T m → AllCalled T (with_lowered m ty os o)
  lowered_called m ty os None k h = h
  lowered_called m ty os (Some target) k h = (h.0, h.1, h.2, h.3, placed_and m.whole.canons _ h.4 k, h.5)

  -- a component in the component begins to be made, and is made
  pub entered_called : (m : Making) (args : List NamedArg) → AllCalled T m → AllCalled T (begun (and_stage m.whole Begins) (givens_of m args))
  entered_called m args h = (givens_called m args h, tt, tt, tt, h.4, tt)

  pub held_called : (m made : Making) (own : List (ℕ × ℕ)) → AllCalled T m → AllCalled T made → AllCalled T (with_component m own made)
  held_called m made own h k = (h.0, list_and m.instances made.exports h.1 k.2, h.2, pairs_any _, k.4, h.5)

  -- an item that is no component; a function that is lifted may be called
  abbrev pub LiftedHolds : Planned → Making → Type 0
  LiftedHolds (Lifts func os ty) m = T (Mine m.instance (lifting_of m func os ty))
  LiftedHolds (OfComponent component own args) m = ⊥
  LiftedHolds _ m = Unit {0}

  pub made_called : (item : Planned) (m : Making) → LiftedHolds item m → AllCalled T m → AllCalled T (link_item item m)
  made_called (OfModule module' args) m lifted h = h
  made_called (OfCoreItems exports) m lifted h = h
  made_called (CoreItemOf sort instance name) m lifted h = core_called m (option_and_then (core_find name) (slice_get m.core_instances instance)) h
  made_called (OfComponent component own args) m lifted h = absurd lifted
  made_called (OfItems exports) m lifted h = (h.0, list_and m.instances (givens_of m exports) h.1 (givens_called m exports h), h.2, h.3, h.4, h.5)
  made_called (ItemOf sort instance name) m lifted h = and_called m (item_in (slice_get m.instances instance) name) (item_called m.instances instance name h.1) h
  made_called (NewResource resource destructor) m lifted h = (h.0, h.1, h.2, pairs_any _, h.4, h.5)
  made_called (Lifts func os ty) m lifted h = (h.0, h.1, h.2, h.3, h.4, functions_and m.functions (Mine m.instance (lifting_of m func os ty)) h.5 lifted)
  made_called (Lowers func os ty) m lifted h = lowered_called m ty os (option_and_then (λ o. o) (slice_get m.functions func)) (function_called m.functions func h.5) h
  made_called (MakesResource resource) m lifted h = (h.0, h.1, h.2, h.3, placed_and m.whole.canons _ h.4 tt, h.5)
  made_called (DropsResource resource) m lifted h = (h.0, h.1, h.2, h.3, placed_and m.whole.canons _ h.4 tt, h.5)
  made_called (ReadsResource resource) m lifted h = (h.0, h.1, h.2, h.3, placed_and m.whole.canons _ h.4 tt, h.5)
  made_called (Imports name item) m lifted h =
      let g : AllCalled T (and_item m (find name m.given)) = and_called m (find name m.given) (found_called name m.given h.0) h in
      (g.0, g.1, g.2, pairs_any _, g.4, g.5)
  made_called (Exports name item stated) m lifted h = export_called m name (given_at m item) stated (given_called m item h) h

-- ---- what holds becomes something else that holds

module _ (T U : Target → Type 0) (by : (t : Target) → T t → U t) where
  mutual
    item_then : (item : Given) → ItemHolds Any T item → ItemHolds Any U item
    item_then (GivenFunc target) h = by target h
    item_then (GivenInstance items) h = all_then items h
    item_then (GivenResource r) h = tt
    item_then GivenType h = tt

    all_then : (gs : Givens) → AllHold Any T gs → AllHold Any U gs
    all_then Nothing h = tt
    all_then (Giving name item rest) h = (item_then item h.0, all_then rest h.1)

  list_then : (list : List Givens) → ListHolds Any T list → ListHolds Any U list
  list_then [] h = tt
  list_then (gs ∷ list) h = (all_then gs h.0, list_then list h.1)

  canon_then : (f : Canon) → CanonHolds Any T f → CanonHolds Any U f
  canon_then (LoweredFunc target options) h = by target h
  canon_then (ResourceNew r) h = tt
  canon_then (ResourceDrop r) h = tt
  canon_then (ResourceRep r) h = tt

  placed_then : (ps : List Placed) → PlacedHold Any T ps → PlacedHold Any U ps
  placed_then [] h = tt
  placed_then (p ∷ ps) h = (canon_then p.canon h.0, placed_then ps h.1)

  functions_then : (fs : List (Option Target)) → FunctionsHold Any T fs → FunctionsHold Any U fs
  functions_then [] h = tt
  functions_then (None ∷ fs) h = (tt, functions_then fs h.1)
  functions_then (Some f ∷ fs) h = (by f h.0, functions_then fs h.1)

  pub called_then : (m : Making) → AllCalled T m → AllCalled U m
  called_then m h = (all_then m.given h.0, list_then m.instances h.1, all_then m.exports h.2, pairs_any U m.resources, placed_then m.whole.canons h.4, functions_then m.functions h.5)

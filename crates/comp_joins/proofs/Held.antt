-- Which resources a component's instances drop: those of its imports, and those that it defines.
use Rattle.std.proofs.Common.{◌≡◌, ◌⊎◌, inl, inr, ℕ, zero, suc, ◌+◌, ◌≤◌, ◌<◌, nat_eq, nat_lt, ◌&&◌, cond, List, [], ◌∷◌, ◌++◌, Option, Some, None, Bool, true, false, refl, sym, ◌∙◌, ap, subst, arith}
use Rattle.std.specs.Prelude.{slice_get}
use Rattle.std.specs.Option.{option_map, option_and_then}
use Rattle.std.proofs.lemmas.Bool.{eqb-false, ltb-true, ltb-false}
use Rattle.wasm_ast.specs.declared.module.CoreFunc.{CoreFunc}
use Rattle.wasm_ast.specs.declared.component.CanonOption.{CanonOption}
use Rattle.core_instance.specs.declared.external.Extern.{Extern}
use Rattle.core_instance.specs.declared.external.Extern.TheVariants.{Func, Table, Memory, Global}
use Rattle.wit_types.specs.Plain.{Name, PlainFunc}
use Rattle.comp_types.specs.Items.{Item, Entries, FuncItem, InstanceItem, KindItem, ResourceKind, ValueKind, FuncKind, InstanceKind, End as NoEntries, More as Entry, same_name}
use Rattle.comp_types.specs.Substitution.{partner_in}
use Rattle.comp_grammar.specs.Trees.{Tree}
use Rattle.comp_types.specs.GivenResources.{named_in_func}
use Rattle.comp_worlds.specs.Groups.{Target, Mine, Theirs, Import, Func as Canon, ResourceDrop, Owner, Begins}
use Rattle.comp_worlds.specs.Parts.{DropsSome}
use Rattle.comp_link.specs.Plans.{Named, AFunc, AnInstanceAt, AResource, AValueType, NamedArg, Plan, Planned, End, Then, OfModule, OfCoreItems, CoreItemOf, OfComponent, OfItems, ItemOf, NewResource, Lifts, Lowers, MakesResource, DropsResource, ReadsResource, Imports, Exports, plan_of}
use Rattle.comp_link.specs.Linking.{Given, Givens, GivenFunc, GivenInstance, GivenResource, GivenType, Nothing, Giving, find, and_given, bound, all_bound, bound_if, Placed, Owned, Whole, Making, begun, and_stage, core_find, and_core_item, given_at, and_some_given, givens_of, and_item, item_in, and_export, with_lowered, lifting_of, own_bound, link_item, link, outside, all_outside, Known, known, all_known, canon_in, owner_in, linked, group_of}
use Rattle.comp_inside.specs.Linked.{IsBrought, AreBrought, NamesBrought, ArgsBrought, OwnBrought, ItemKnows, PlanKnows, unmade}
use Rattle.comp_inside.proofs.Made.{core_item_whole, item_whole, export_whole}
use Rattle.comp_joins.specs.Holding.{ItemHolds, AllHold, SomeHolds, ListHolds, PairsHold, CanonHolds, TargetHolds, FunctionsHold, PlacedHold, Holds}
use Rattle.comp_joins.specs.Joining.{or_else, imports_of, first_own, behind_own, IsKnown, known_by}
use Rattle.comp_joins.proofs.Lists.{owner_append}

-- ---- how many numbers are given out

abbrev Before : Making → Making → Type 0
Before m m' = m.whole.next_resource ≤ m'.whole.next_resource

none_new : (m : Making) (w : Whole) → w ≡ m.whole → m.whole.next_resource ≤ w.next_resource
none_new m w same = subst (λ z. m.whole.next_resource ≤ z.next_resource) (sym same) (omega arith)

lowered_new : (m : Making) (ty : CoreFunc) (os : List CanonOption) (o : Option Target) → Before m (with_lowered m ty os o)
lowered_new m ty os None = omega arith
lowered_new m ty os (Some target) = omega arith

mutual
  item_new : (item : Planned) (m : Making) → Before m (link_item item m)
  item_new (OfModule module' args) m = omega arith
  item_new (OfCoreItems exports) m = omega arith
  item_new (CoreItemOf sort instance name) m = none_new m (and_core_item m (option_and_then (core_find name) (slice_get m.core_instances instance))).whole (core_item_whole m (option_and_then (core_find name) (slice_get m.core_instances instance)))
  item_new (OfComponent component own args) m = plan_new component (begun (and_stage m.whole Begins) (givens_of m args))
  item_new (OfItems exports) m = omega arith
  item_new (ItemOf sort instance name) m = none_new m (and_item m (item_in (slice_get m.instances instance) name)).whole (item_whole m (item_in (slice_get m.instances instance) name))
  item_new (NewResource resource destructor) m = omega arith
  item_new (Lifts func os ty) m = omega arith
  item_new (Lowers func os ty) m = lowered_new m ty os (option_and_then (λ o. o) (slice_get m.functions func))
  item_new (MakesResource resource) m = omega arith
  item_new (DropsResource resource) m = omega arith
  item_new (ReadsResource resource) m = omega arith
  item_new (Imports name item) m = none_new m (and_item m (find name m.given)).whole (item_whole m (find name m.given))
  item_new (Exports name item stated) m = none_new m (and_export m name (given_at m item) stated).whole (export_whole m name (given_at m item) stated)

  plan_new : (plan : Plan) (m : Making) → Before m (link plan m)
  plan_new End m = omega arith
  plan_new (Then item rest) m =
      let first : m.whole.next_resource ≤ (link_item item m).whole.next_resource = item_new item m in
      let later : (link_item item m).whole.next_resource ≤ (link rest (link_item item m)).whole.next_resource = plan_new rest (link_item item m) in
      omega (arith, first, later)

-- ---- every resource that stands in a making is one of these, and so are all functions

module _ (P : ℕ → Type 0) (T : Target → Type 0) where
  pub pairs_append : (xs ys : List (ℕ × ℕ)) → PairsHold P T xs → PairsHold P T ys → PairsHold P T (xs ++ ys)
  pairs_append [] ys h k = k
  pairs_append (x ∷ xs) ys h k = (h.0, pairs_append xs ys h.1 k)

  pub list_append : (xs : List Givens) (gs : Givens) → ListHolds P T xs → AllHold P T gs → ListHolds P T (xs ++ gs ∷ [])
  list_append [] gs h k = (k, tt)
  list_append (x ∷ xs) gs h k = (h.0, list_append xs gs h.1 k)

  placed_append : (xs : List Placed) (p : Placed) → PlacedHold P T xs → CanonHolds P T p.canon → PlacedHold P T (xs ++ p ∷ [])
  placed_append [] p h k = (k, tt)
  placed_append (x ∷ xs) p h k = (h.0, placed_append xs p h.1 k)

  functions_append : (xs : List (Option Target)) (f : Target) → FunctionsHold P T xs → T f → FunctionsHold P T (xs ++ Some f ∷ [])
  functions_append [] f h k = (k, tt)
  functions_append (x ∷ xs) f h k = (h.0, functions_append xs f h.1 k)

  function_held : (xs : List (Option Target)) (i : ℕ) → FunctionsHold P T xs → TargetHolds P T (option_and_then (λ o. o) (slice_get xs i))
  function_held [] i h = tt
  function_held (x ∷ xs) zero h = h.0
  function_held (x ∷ xs) (suc i) h = function_held xs i h.1

  pub pair_held : (pairs : List (ℕ × ℕ)) (r : ℕ) → IsBrought pairs r → PairsHold P T pairs → P (partner_in pairs r)
  pair_held [] r is h = absurd is
  pair_held (p ∷ pairs) r is h = go (nat_eq p.0 r) refl is (λ rest. pair_held pairs r rest h.1)
    where
      go : (b : Bool) → nat_eq p.0 r ≡ b → (p.0 ≡ r) ⊎ IsBrought pairs r → (IsBrought pairs r → P (partner_in pairs r)) → P (cond b p.1 (partner_in pairs r))
      go true e either later = h.0
      go false e (inl same) later = absurd (eqb-false p.0 r e same)
      go false e (inr rest) later = later rest

  pub found_held : (name : Name) (gs : Givens) → AllHold P T gs → SomeHolds P T (find name gs)
  found_held name Nothing h = tt
  found_held name (Giving n item rest) h = go (same_name n name) (found_held name rest h.1)
    where
      go : (b : Bool) → SomeHolds P T (find name rest) → SomeHolds P T (cond b (Some item) (find name rest))
      go true later = h.0
      go false later = later

  and_given_held : (gs : Givens) (n : Name) (item : Given) → AllHold P T gs → ItemHolds P T item → AllHold P T (and_given gs n item)
  and_given_held Nothing n item h k = (k, tt)
  and_given_held (Giving n' i rest) n item h k = (h.0, and_given_held rest n item h.1 k)

  slice_held : (list : List Givens) (k : ℕ) (name : Name) → ListHolds P T list → SomeHolds P T (item_in (slice_get list k) name)
  slice_held list k name h = go (slice_get list k) (got list k h)
    where
      Got : Option Givens → Type 0
      Got None = Unit {0}
      Got (Some gs) = AllHold P T gs

      got : (list : List Givens) (k : ℕ) → ListHolds P T list → Got (slice_get list k)
      got [] k h = tt
      got (gs ∷ list) zero h = h.0
      got (gs ∷ list) (suc k) h = got list k h.1

      go : (o : Option Givens) → Got o → SomeHolds P T (item_in o name)
      go None g = tt
      go (Some gs) g = found_held name gs g

  instance_held : (list : List Givens) (k : ℕ) → ListHolds P T list → SomeHolds P T (option_map GivenInstance (slice_get list k))
  instance_held [] k h = tt
  instance_held (gs ∷ list) zero h = h.0
  instance_held (gs ∷ list) (suc k) h = instance_held list k h.1

  given_at_held : (m : Making) (named : Named) → Holds P T m → NamesBrought m.resources named → SomeHolds P T (given_at m named)
  given_at_held m (AFunc i) h know = go (slice_get m.functions i) (function_held m.functions i h.5)
    where
      go : (o : Option (Option Target)) → TargetHolds P T (option_and_then (λ x. x) o) → SomeHolds P T (option_and_then (option_map GivenFunc) o)
      go None k = tt
      go (Some None) k = tt
      go (Some (Some target)) k = k
  given_at_held m (AnInstanceAt i) h know = instance_held m.instances i h.1
  given_at_held m (AResource r) h know = pair_held m.resources r know h.3
  given_at_held m AValueType h know = tt

  some_held : (o : Option Given) (n : Name) (rest : Givens) → SomeHolds P T o → AllHold P T rest → AllHold P T (and_some_given o n rest)
  some_held None n rest h k = k
  some_held (Some item) n rest h k = (h, k)

  pub givens_of_held : (m : Making) (args : List NamedArg) → Holds P T m → ArgsBrought m.resources args → AllHold P T (givens_of m args)
  givens_of_held m [] h know = tt
  givens_of_held m (a ∷ args) h know = some_held (given_at m a.item) a.name (givens_of m args) (given_at_held m a.item h know.0) (givens_of_held m args h know.1)

  func_held : (target : Target) (item : Item) → PairsHold P T (bound (Some (GivenFunc target)) item)
  func_held target (FuncItem ty) = tt
  func_held target (InstanceItem entries) = tt
  func_held target (KindItem kind) = tt

  resource_held : (g : ℕ) (item : Item) → P g → PairsHold P T (bound (Some (GivenResource g)) item)
  resource_held g (FuncItem ty) h = tt
  resource_held g (InstanceItem entries) h = tt
  resource_held g (KindItem (ResourceKind r)) h = (h, tt)
  resource_held g (KindItem (ValueKind ty)) h = tt
  resource_held g (KindItem (FuncKind ty)) h = tt
  resource_held g (KindItem (InstanceKind own entries)) h = tt

  mutual
    bound_held : (o : Option Given) (item : Item) → SomeHolds P T o → PairsHold P T (bound o item)
    bound_held None item h = tt
    bound_held (Some (GivenFunc target)) item h = func_held target item
    bound_held (Some (GivenResource g)) item h = resource_held g item h
    bound_held (Some GivenType) item h = tt
    bound_held (Some (GivenInstance items)) (InstanceItem entries) h = all_bound_held items entries h
    bound_held (Some (GivenInstance items)) (FuncItem ty) h = tt
    bound_held (Some (GivenInstance items)) (KindItem kind) h = tt

    all_bound_held : (gs : Givens) (entries : Entries) → AllHold P T gs → PairsHold P T (all_bound gs entries)
    all_bound_held gs NoEntries h = tt
    all_bound_held gs (Entry name item rest) h = pairs_append (bound (find name gs) item) (all_bound gs rest) (bound_held (find name gs) item (found_held name gs h)) (all_bound_held gs rest h)

  bound_if_held : (o : Option Given) (stated : Option Item) → SomeHolds P T o → PairsHold P T (bound_if o stated)
  bound_if_held o None h = tt
  bound_if_held o (Some item) h = bound_held o item h

  pub own_held : (pairs own : List (ℕ × ℕ)) → OwnBrought pairs own → PairsHold P T pairs → PairsHold P T (own_bound pairs own)
  own_held pairs [] know h = tt
  own_held pairs (o ∷ own) know h = (pair_held pairs o.0 know.0 h, own_held pairs own know.1 h)

  core_held : (m : Making) (o : Option Extern) → Holds P T m → Holds P T (and_core_item m o)
  core_held m None h = h
  core_held m (Some (Func at)) h = h
  core_held m (Some (Table at)) h = h
  core_held m (Some (Memory at)) h = h
  core_held m (Some (Global at)) h = h

  and_item_held : (m : Making) (o : Option Given) → SomeHolds P T o → Holds P T m → Holds P T (and_item m o)
  and_item_held m None k h = h
  and_item_held m (Some (GivenFunc target)) k h = (h.0, h.1, h.2, h.3, h.4, functions_append m.functions target h.5 k)
  and_item_held m (Some (GivenInstance items)) k h = (h.0, list_append m.instances items h.1 k, h.2, h.3, h.4, h.5)
  and_item_held m (Some (GivenResource r)) k h = h
  and_item_held m (Some GivenType) k h = h

  export_held : (m : Making) (name : Name) (o : Option Given) (stated : Option Item) → SomeHolds P T o → Holds P T m → Holds P T (and_export m name o stated)
  export_held m name None stated k h = h
  export_held m name (Some item) stated k h =
      let g : Holds P T (and_item m (Some item)) = and_item_held m (Some item) k h in
      (g.0, g.1, and_given_held m.exports name item h.2 k, pairs_append (and_item m (Some item)).resources (bound_if (Some item) stated) g.3 (bound_if_held (Some item) stated k), g.4, g.5)

  lowered_held : (m : Making) (ty : CoreFunc) (os : List CanonOption) (o : Option Target) → TargetHolds P T o → Holds P T m → Holds P T (with_lowered m ty os o)
  lowered_held m ty os None k h = h
  lowered_held m ty os (Some target) k h = (h.0, h.1, h.2, h.3, placed_append m.whole.canons _ h.4 k, h.5)

  -- what is lifted from a type whose resources are known
  abbrev pub LiftsHold : Type 0
  LiftsHold = (m : Making) (func : ℕ) (os : List CanonOption) (ty : PlainFunc) → AreBrought m.resources (named_in_func ty) → PairsHold P T m.resources → T (Mine m.instance (lifting_of m func os ty))

  -- new numbers lie between these two
  module _ (to : ℕ → ℕ) (base most : ℕ) (new : (r : ℕ) → base ≤ r → r < most → P r) (lifts : LiftsHold) where
    mutual
      pub item_held : (item : Planned) (m : Making) → ItemKnows to item m → base ≤ m.whole.next_resource → (link_item item m).whole.next_resource ≤ most → Holds P T m → Holds P T (link_item item m)
      item_held (OfModule module' args) m know lo hi h = h
      item_held (OfCoreItems exports) m know lo hi h = h
      item_held (CoreItemOf sort instance name) m know lo hi h = core_held m (option_and_then (core_find name) (slice_get m.core_instances instance)) h
      item_held (OfComponent component own args) m know lo hi h =
          let inner : Making = begun (and_stage m.whole Begins) (givens_of m args) in
          let made : Holds P T (link component inner) = plan_held component inner know.1 lo hi (givens_of_held m args h know.0, tt, tt, tt, h.4, tt) in
          (h.0, list_append m.instances (link component inner).exports h.1 made.2, h.2, pairs_append m.resources (own_bound (link component inner).resources own) h.3 (own_held (link component inner).resources own know.2 made.3), made.4, h.5)
      item_held (OfItems exports) m know lo hi h = (h.0, list_append m.instances (givens_of m exports) h.1 (givens_of_held m exports h know), h.2, h.3, h.4, h.5)
      item_held (ItemOf sort instance name) m know lo hi h = and_item_held m (item_in (slice_get m.instances instance) name) (slice_held m.instances instance name h.1) h
      item_held (NewResource resource destructor) m know lo hi h =
          (h.0, h.1, h.2, pairs_append m.resources ((resource, m.whole.next_resource) ∷ []) h.3 (new m.whole.next_resource lo (let le : m.whole.next_resource + 1 ≤ most = hi in omega (arith, le)), tt), h.4, h.5)
      item_held (Lifts func os ty) m know lo hi h = (h.0, h.1, h.2, h.3, h.4, functions_append m.functions (Mine m.instance (lifting_of m func os ty)) h.5 (lifts m func os ty know h.3))
      item_held (Lowers func os ty) m know lo hi h = lowered_held m ty os (option_and_then (λ o. o) (slice_get m.functions func)) (function_held m.functions func h.5) h
      item_held (MakesResource resource) m know lo hi h = (h.0, h.1, h.2, h.3, placed_append m.whole.canons _ h.4 (pair_held m.resources resource know h.3), h.5)
      item_held (DropsResource resource) m know lo hi h = (h.0, h.1, h.2, h.3, placed_append m.whole.canons _ h.4 (pair_held m.resources resource know h.3), h.5)
      item_held (ReadsResource resource) m know lo hi h = (h.0, h.1, h.2, h.3, placed_append m.whole.canons _ h.4 (pair_held m.resources resource know h.3), h.5)
      item_held (Imports name item) m know lo hi h =
          let k : SomeHolds P T (find name m.given) = found_held name m.given h.0 in
          let g : Holds P T (and_item m (find name m.given)) = and_item_held m (find name m.given) k h in
          (g.0, g.1, g.2, pairs_append (and_item m (find name m.given)).resources (bound (find name m.given) item) g.3 (bound_held (find name m.given) item k), g.4, g.5)
      item_held (Exports name item stated) m know lo hi h = export_held m name (given_at m item) stated (given_at_held m item h know) h

      pub plan_held : (plan : Plan) (m : Making) → PlanKnows to plan m → base ≤ m.whole.next_resource → (link plan m).whole.next_resource ≤ most → Holds P T m → Holds P T (link plan m)
      plan_held End m know lo hi h = h
      plan_held (Then item rest) m know lo hi h =
          let later : (link_item item m).whole.next_resource ≤ (link rest (link_item item m)).whole.next_resource = plan_new rest (link_item item m) in
          let first : m.whole.next_resource ≤ (link_item item m).whole.next_resource = item_new item m in
          let top : (link rest (link_item item m)).whole.next_resource ≤ most = hi in
          plan_held rest (link_item item m) know.1 (omega (arith, lo, first)) hi (item_held item m know.0 lo (omega (arith, later, top)) h)

  -- ---- the imports

  abbrev pub EachKnown : List Known → Type 0
  EachKnown [] = Unit {0}
  EachKnown (k ∷ ks) = P k.number × EachKnown ks

  known_first : (xs ys : List Known) → EachKnown (xs ++ ys) → EachKnown xs
  known_first [] ys h = tt
  known_first (x ∷ xs) ys h = (h.0, known_first xs ys h.1)

  known_second : (xs ys : List Known) → EachKnown (xs ++ ys) → EachKnown ys
  known_second [] ys h = h
  known_second (x ∷ xs) ys h = known_second xs ys h.1

  module _ (theirs : (i : Import) → T (Theirs i)) where
    mutual
      outside_held : (interface name : Name) (item : Item) → EachKnown (known interface name item) → ItemHolds P T (outside interface name item)
      outside_held interface name (FuncItem ty) h = theirs (record { interface = interface; function = name; ty = ty })
      outside_held interface name (InstanceItem entries) h = all_outside_held name entries h
      outside_held interface name (KindItem (ResourceKind r)) h = h.0
      outside_held interface name (KindItem (ValueKind ty)) h = tt
      outside_held interface name (KindItem (FuncKind ty)) h = tt
      outside_held interface name (KindItem (InstanceKind own entries)) h = tt

      pub all_outside_held : (interface : Name) (entries : Entries) → EachKnown (all_known interface entries) → AllHold P T (all_outside interface entries)
      all_outside_held interface NoEntries h = tt
      all_outside_held interface (Entry name item rest) h =
          (outside_held interface name item (known_first (known interface name item) (all_known interface rest) h), all_outside_held interface rest (known_second (known interface name item) (all_known interface rest) h))

  pub each_known : (ks : List Known) → ((r : ℕ) → IsKnown ks r → P r) → EachKnown ks
  each_known [] f = tt
  each_known (k ∷ ks) f = (f k.number (inl refl), each_known ks (λ r is. f r (inr is)))

  pub canon_held : (ps : List Placed) (k n : ℕ) (f : Canon) → PlacedHold P T ps → canon_in ps k n ≡ Some f → CanonHolds P T f
  canon_held [] k n f h is = absurd (let q : None ≡ Some f = is in cc)
  canon_held (p ∷ ps) k n f h is = go (nat_eq p.instance k && nat_eq p.number n) is (λ is'. canon_held ps k n f h.1 is')
    where
      holds : Option Canon → Type 0
      holds None = Unit {0}
      holds (Some c) = CanonHolds P T c

      go : (b : Bool) → cond b (Some p.canon) (canon_in ps k n) ≡ Some f → (canon_in ps k n ≡ Some f → CanonHolds P T f) → CanonHolds P T f
      go true is' later = subst holds is' h.0
      go false is' later = later is'

  drop_held : LiftsHold → ((i : Import) → T (Theirs i)) → (to : ℕ → ℕ) (tree : Tree) → PlanKnows to (plan_of tree) (unmade tree) → ((r : ℕ) → IsKnown (known_by tree) r → P r) → ((r : ℕ) → first_own tree ≤ r → r < behind_own tree → P r) → (r : ℕ) → DropsSome (group_of tree) r → P r
  drop_held lifts theirs to tree know old new r (k, n, is) =
      let all : Holds P T (linked tree) = plan_held to (first_own tree) (behind_own tree) new lifts (plan_of tree) (unmade tree) know (omega arith) (omega arith) (all_outside_held theirs [] (imports_of tree) (each_known (known_by tree) old), tt, tt, tt, tt, tt) in
      canon_held (linked tree).whole.canons k n (ResourceDrop r) all.4 is

-- ---- what is defined is owned

abbrev AllOwned : ℕ → Whole → Type 0
AllOwned base w = (r : ℕ) → base ≤ r → r < w.next_resource → (o : Owner) × (owner_in w.owners r ≡ Some o)

one_owned : (base next : ℕ) (os : List Owned) (x : Owner) → ((r : ℕ) → base ≤ r → r < next → (o : Owner) × (owner_in os r ≡ Some o)) → (r : ℕ) → base ≤ r → r < next + 1 → (o : Owner) × (owner_in (os ++ record { resource = next; owner = x } ∷ []) r ≡ Some o)
one_owned base next os x h r lo hi = go (nat_lt r next) refl
  where
    new : List Owned
    new = record { resource = next; owner = x } ∷ []

    last : (b : Bool) → nat_eq next r ≡ b → next ≡ r → (y : Option Owner) → (o : Owner) × (or_else y (cond b (Some x) None) ≡ Some o)
    last true e same None = (x, refl)
    last true e same (Some o) = (o, refl)
    last false e same y = absurd (eqb-false next r e same)

    go : (b : Bool) → nat_lt r next ≡ b → (o : Owner) × (owner_in (os ++ record { resource = next; owner = x } ∷ []) r ≡ Some o)
    go true e = let was = h r lo (ltb-true r next e) in (was.0, owner_append os (record { resource = next; owner = x } ∷ []) r ∙ ap (λ z. or_else z (owner_in (record { resource = next; owner = x } ∷ []) r)) was.1)
    go false e =
        let le : next ≤ r = ltb-false r next e in
        let found = last (nat_eq next r) refl (omega (arith, le, hi)) (owner_in os r) in
        (found.0, owner_append os (record { resource = next; owner = x } ∷ []) r ∙ found.1)

lowered_owned : (base : ℕ) (m : Making) (ty : CoreFunc) (os : List CanonOption) (o : Option Target) → AllOwned base m.whole → AllOwned base (with_lowered m ty os o).whole
lowered_owned base m ty os None h = h
lowered_owned base m ty os (Some target) h = h

module _ (base : ℕ) where
  mutual
    item_owned : (item : Planned) (m : Making) → AllOwned base m.whole → AllOwned base (link_item item m).whole
    item_owned (OfModule module' args) m h = h
    item_owned (OfCoreItems exports) m h = h
    item_owned (CoreItemOf sort instance name) m h = subst (AllOwned base) (sym (core_item_whole m (option_and_then (core_find name) (slice_get m.core_instances instance)))) h
    item_owned (OfComponent component own args) m h = plan_owned component (begun (and_stage m.whole Begins) (givens_of m args)) h
    item_owned (OfItems exports) m h = h
    item_owned (ItemOf sort instance name) m h = subst (AllOwned base) (sym (item_whole m (item_in (slice_get m.instances instance) name))) h
    item_owned (NewResource resource destructor) m h = one_owned base m.whole.next_resource m.whole.owners _ h
    item_owned (Lifts func os ty) m h = h
    item_owned (Lowers func os ty) m h = lowered_owned base m ty os (option_and_then (λ o. o) (slice_get m.functions func)) h
    item_owned (MakesResource resource) m h = h
    item_owned (DropsResource resource) m h = h
    item_owned (ReadsResource resource) m h = h
    item_owned (Imports name item) m h = subst (AllOwned base) (sym (item_whole m (find name m.given))) h
    item_owned (Exports name item stated) m h = subst (AllOwned base) (sym (export_whole m name (given_at m item) stated)) h

    plan_owned : (plan : Plan) (m : Making) → AllOwned base m.whole → AllOwned base (link plan m).whole
    plan_owned End m h = h
    plan_owned (Then item rest) m h = plan_owned rest (link_item item m) (item_owned item m h)

-- what a component drops and does not define it imports
pub dropped_known : (to : ℕ → ℕ) (tree : Tree) → PlanKnows to (plan_of tree) (unmade tree) → (r : ℕ) → DropsSome (group_of tree) r → (group_of tree).owner r ≡ None → IsKnown (known_by tree) r
dropped_known to tree know r drops none =
    go (drop_held (λ z. IsKnown (known_by tree) z ⊎ ((first_own tree ≤ z) × (z < behind_own tree))) (λ target. Unit {0}) (λ m func os ty brought held. tt) (λ i. tt) to tree know (λ z is. inl is) (λ z lo hi. inr (lo, hi)) r drops)
  where
    go : IsKnown (known_by tree) r ⊎ ((first_own tree ≤ r) × (r < behind_own tree)) → IsKnown (known_by tree) r
    go (inl is) = is
    go (inr range) =
        let owned = plan_owned (first_own tree) (plan_of tree) (unmade tree) (λ z lo hi. absurd (let l : first_own tree ≤ z = lo in let m : z < first_own tree = hi in omega (arith, l, m))) r range.0 range.1 in
        absurd (let q : None ≡ Some owned.0 = sym none ∙ owned.1 in cc)

-- What a plan makes inside another component: what it makes alone, at other numbers of instances and resources. (This project's own.)
use Rattle.std.specs.Prelude.{◌≡◌, ◌⊎◌, ℕ, ◌+◌, ◌<◌, List, [], ◌∷◌, ◌++◌, map, true}
use Rattle.std.specs.Option.{option_map}
use Rattle.comp_worlds.specs.Groups.{Import, Target, Mine, Theirs, Func, LoweredFunc, ResourceNew, ResourceDrop, ResourceRep, Begins}
use Rattle.comp_worlds.specs.Parts.{owner_to, stages_to}
use Rattle.comp_grammar.specs.Trees.{Tree}
use Rattle.comp_types.specs.GivenResources.{named_in_func}
use Rattle.comp_types.specs.Spaces.{Space, empty_space}
use Rattle.comp_types.specs.Added.{after_tree, root}
use Rattle.comp_link.specs.Plans.{Named, AFunc, AnInstanceAt, AResource, AValueType, NamedArg, Plan, Planned, End, Then, OfComponent, OfItems, NewResource, Lifts, MakesResource, DropsResource, ReadsResource, Exports, Scope, no_scope, plan_tree, plan_of}
use Rattle.comp_link.specs.Linking.{Given, Givens, GivenFunc, GivenInstance, GivenResource, GivenType, Nothing, Giving, Placed, Owned, Whole, Making, begun, and_stage, givens_of, link_item, link, all_outside, all_known, behind_known, linked}
use Rattle.comp_inside.specs.Renaming.{lifting_with}
use Rattle.comp_inside.specs.Later.{plan_later, StaysWhole}

-- Where a plan is carried out: after that many instances, and at which number each of its own stands; what was made before; where its
-- imports lead; how much later the numbers of its index spaces are; and what the numbers of the group's resources become.
pub record Standing : Type 0 where
  pub instances : ℕ
  pub place : ℕ → ℕ
  pub before : Whole
  pub import : Import → Target
  pub later : ℕ
  pub to : ℕ → ℕ

-- that many instances stand one after the other; numbers after these may be any
abbrev pub InOrder : Standing → ℕ → Type 0
InOrder at n = (k : ℕ) → k < n → at.place k ≡ at.instances + k

abbrev pub target_in : Standing → Target → Target
target_in at (Mine k lifting) = Mine (at.place k) (lifting_with at.to lifting)
target_in at (Theirs f) = at.import f

abbrev pub canon_in : Standing → Func → Func
canon_in at (LoweredFunc target options) = LoweredFunc (target_in at target) options
canon_in at (ResourceNew r) = ResourceNew (at.to r)
canon_in at (ResourceDrop r) = ResourceDrop (at.to r)
canon_in at (ResourceRep r) = ResourceRep (at.to r)

abbrev mutual
  pub given_in : Standing → Given → Given
  given_in at (GivenFunc target) = GivenFunc (target_in at target)
  given_in at (GivenInstance items) = GivenInstance (givens_in at items)
  given_in at (GivenResource r) = GivenResource (at.to r)
  given_in at GivenType = GivenType

  pub givens_in : Standing → Givens → Givens
  givens_in at Nothing = Nothing
  givens_in at (Giving name item rest) = Giving name (given_in at item) (givens_in at rest)

abbrev pub placed_in : Standing → Placed → Placed
placed_in at p = record { instance = at.place p.instance; number = p.number; canon = canon_in at p.canon }

abbrev pub owned_in : Standing → Owned → Owned
owned_in at o = record { resource = at.to o.resource; owner = owner_to at.place o.owner }

-- the number of a resource in the component, and in the group
abbrev pub pair_in : Standing → ℕ × ℕ → ℕ × ℕ
pair_in at pair = (at.later + pair.0, at.to pair.1)

-- after what was made before
abbrev pub whole_in : Standing → Whole → Whole
whole_in at w = record {
  next_instance = at.instances + w.next_instance;
  next_resource = at.to w.next_resource;
  stages = at.before.stages ++ stages_to at.place w.stages;
  canons = at.before.canons ++ map (placed_in at) w.canons;
  owners = at.before.owners ++ map (owned_in at) w.owners;
}

abbrev pub making_in : Standing → Making → Making
making_in at m = record {
  whole = whole_in at m.whole;
  instance = at.place m.instance;
  given = givens_in at m.given;
  shadow = m.shadow;
  canons = m.canons;
  core_functions = m.core_functions;
  core_tables = m.core_tables;
  core_memories = m.core_memories;
  core_globals = m.core_globals;
  core_instances = m.core_instances;
  functions = map (option_map (target_in at)) m.functions;
  instances = map (givens_in at) m.instances;
  resources = map (pair_in at) m.resources;
  exports = givens_in at m.exports;
}

-- ---- each resource that a plan names was brought or defined before, as in each valid component

abbrev pub IsBrought : List (ℕ × ℕ) → ℕ → Type 0
IsBrought [] r = ⊥
IsBrought (pair ∷ pairs) r = (pair.0 ≡ r) ⊎ IsBrought pairs r

-- P holds of each
abbrev pub Each : (ℕ → Type 0) → List ℕ → Type 0
Each P [] = Unit {0}
Each P (r ∷ rs) = P r × Each P rs

abbrev pub AreBrought : List (ℕ × ℕ) → List ℕ → Type 0
AreBrought pairs rs = Each (IsBrought pairs) rs

abbrev pub NamesBrought : List (ℕ × ℕ) → Named → Type 0
NamesBrought pairs (AFunc i) = Unit {0}
NamesBrought pairs (AnInstanceAt i) = Unit {0}
NamesBrought pairs (AResource r) = IsBrought pairs r
NamesBrought pairs AValueType = Unit {0}

abbrev pub ArgsBrought : List (ℕ × ℕ) → List NamedArg → Type 0
ArgsBrought pairs [] = Unit {0}
ArgsBrought pairs (a ∷ args) = NamesBrought pairs a.item × ArgsBrought pairs args

abbrev pub OwnBrought : List (ℕ × ℕ) → List (ℕ × ℕ) → Type 0
OwnBrought pairs [] = Unit {0}
OwnBrought pairs (own ∷ rest) = IsBrought pairs own.0 × OwnBrought pairs rest

-- and resources are numbered one after the other there too
abbrev mutual
  pub ItemKnows : (ℕ → ℕ) → Planned → Making → Type 0
  ItemKnows to (OfComponent component own args) m =
      ArgsBrought m.resources args × PlanKnows to component (begun (and_stage m.whole Begins) (givens_of m args)) × OwnBrought (link component (begun (and_stage m.whole Begins) (givens_of m args))).resources own
  ItemKnows to (OfItems exports) m = ArgsBrought m.resources exports
  ItemKnows to (NewResource resource destructor) m = to (m.whole.next_resource + 1) ≡ to m.whole.next_resource + 1
  ItemKnows to (Lifts func os ty) m = AreBrought m.resources (named_in_func ty)
  ItemKnows to (MakesResource resource) m = IsBrought m.resources resource
  ItemKnows to (DropsResource resource) m = IsBrought m.resources resource
  ItemKnows to (ReadsResource resource) m = IsBrought m.resources resource
  ItemKnows to (Exports name item stated) m = NamesBrought m.resources item
  ItemKnows to item m = Unit {0}

  pub PlanKnows : (ℕ → ℕ) → Plan → Making → Type 0
  PlanKnows to End m = Unit {0}
  PlanKnows to (Then item rest) m = ItemKnows to item m × PlanKnows to rest (link_item item m)

-- A plan, at later numbers, makes there what it makes alone; its imports are what it is given.
abbrev pub LinkedInside : Type 0
LinkedInside = (at : Standing) (plan : Plan) (m : Making) → InOrder at (link plan m).whole.next_instance → PlanKnows at.to plan m → link (plan_later at.later plan) (making_in at m) ≡ making_in at (link plan m)

-- ---- components

-- a component by itself, before anything is made
abbrev pub unmade : Tree → Making
unmade c =
    let imports = (after_tree [] root c).imports in
    begun (record { next_instance = 0; next_resource = behind_known (all_known [] imports); stages = []; canons = []; owners = [] }) (all_outside [] imports)

-- A component of which no outer alias leads out, and which names no resource before it is brought or defined, makes inside another
-- one what it makes alone.
abbrev pub ComponentsLinkInside : Type 0
ComponentsLinkInside =
    (around : List Space) (outside : List Scope) (at : Standing) (c : Tree) → StaysWhole 1 c → InOrder at (linked c).whole.next_instance → PlanKnows at.to (plan_of c) (unmade c) →
    link (plan_tree around outside (empty_space true at.later) no_scope c) (making_in at (unmade c)) ≡ making_in at (linked c)

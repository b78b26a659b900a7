-- A component that joins two others: it holds both, makes an instance of the first and then one of the second, and hands on what the
-- second exports. Its own instance makes nothing. (This project's own: the form of a component that is plugged to another one.)
use Rattle.std.specs.Prelude.{◌≡◌, ◌⊎◌, ℕ, ◌≤◌, ◌<◌, List, [], ◌∷◌, map, Option, Some, None, slice_get}
use Rattle.std.specs.Option.{option_map}
use Rattle.wasm_ast.specs.declared.component.Span.{Span}
use Rattle.wasm_ast.specs.declared.component.NamedItem.{NamedItem}
use Rattle.wasm_ast.specs.declared.component.Instance.TheVariants as instances
use Rattle.wit_types.specs.Plain.{Name, End as NoTypes}
use Rattle.comp_types.specs.Items.{Item, Entries, FuncItem, InstanceItem, KindItem, ResourceKind, ValueKind, FuncKind, InstanceKind, End as NoEntries, More as Entry}
use Rattle.comp_grammar.specs.Trees.{Part, Tree, Nested, Instances, End as NoParts, More as Section}
use Rattle.comp_types.specs.Spaces.{Space}
use Rattle.comp_types.specs.Added.{entered, after_part, after_tree, root}
use Rattle.comp_types.specs.Substitution.{func_with, entries_with}
use Rattle.comp_worlds.specs.Groups.{Import, Target, Theirs, type_of, Begins, Group}
use Rattle.comp_worlds.specs.Parts.{IsImportOf}
use Rattle.comp_link.specs.Plans.{Plan, Planned, End, Then, OfItems, ItemOf, Imports, Exports, OfModule, OfCoreItems, CoreItemOf, OfComponent, NewResource, Lifts, Lowers, MakesResource, DropsResource, ReadsResource, Scope, no_scope, and_plan, named_args, own_numbers, plan_part, plan_tree, plan_of}
use Rattle.comp_link.specs.Linking.{Given, Givens, GivenFunc, GivenInstance, GivenResource, GivenType, Nothing, Giving, Known, Making, begun, and_stage, givens_of, with_component, link, all_outside, all_known, behind_known, Owned, owner_in, target_in, resource_of, exported, linked, group_of}
use Rattle.comp_inside.specs.Renaming.{target_with, canon_with}
use Rattle.comp_inside.specs.Later.{StaysWhole}
use Rattle.comp_inside.specs.Linked.{PlanKnows, unmade}
use Rattle.comp_joins.specs.Alike.{Alike, IsAmong, PlanFinds, IsThere}

-- ---- sections that only import, name what instances export, and export

abbrev pub OnlyNames : Planned → Type 0
OnlyNames (OfItems exports) = Unit {0}
OnlyNames (ItemOf sort instance name) = Unit {0}
OnlyNames (Imports name item) = Unit {0}
OnlyNames (Exports name item stated) = Unit {0}
OnlyNames (OfModule m args) = ⊥
OnlyNames (OfCoreItems exports) = ⊥
OnlyNames (CoreItemOf sort instance name) = ⊥
OnlyNames (OfComponent component own args) = ⊥
OnlyNames (NewResource resource destructor) = ⊥
OnlyNames (Lifts func options ty) = ⊥
OnlyNames (Lowers func options ty) = ⊥
OnlyNames (MakesResource resource) = ⊥
OnlyNames (DropsResource resource) = ⊥
OnlyNames (ReadsResource resource) = ⊥

abbrev pub AllName : Plan → Type 0
AllName End = Unit {0}
AllName (Then item rest) = OnlyNames item × AllName rest

-- they bring no module and no component either
abbrev pub JoinOnly : Scope → Space → List Part → Type 0
JoinOnly scope s [] = Unit {0}
JoinOnly scope s (part ∷ parts) = AllName (plan_part [] [] s scope part).plan × ((plan_part [] [] s scope part).scope ≡ scope) × JoinOnly scope (after_part [] s part) parts

-- in front of other sections; the index spaces after them; and what is made by them
abbrev pub in_front : List Part → Tree → Tree
in_front [] tree = tree
in_front (part ∷ parts) tree = Section part (in_front parts tree)

abbrev pub spaces_behind : Space → List Part → Space
spaces_behind s [] = s
spaces_behind s (part ∷ parts) = spaces_behind (after_part [] s part) parts

abbrev pub made_by : Scope → Space → List Part → Making → Making
made_by scope s [] m = m
made_by scope s (part ∷ parts) m = made_by scope (after_part [] s part) parts (link (plan_part [] [] s scope part).plan m)

-- ---- the form

-- what stands in front of the first component, between the two, and after; and the arguments of the two instances
pub record Joint : Type 0 where
  pub front : List Part
  pub first_span : Span
  pub first_args : List NamedItem
  pub between : List Part
  pub second_span : Span
  pub second_args : List NamedItem
  pub behind : List Part

abbrev pub instance_of : ℕ → List NamedItem → Part
instance_of component args = Instances (instances.Instantiate component args ∷ [])

module _ (j : Joint) (first second : Tree) where
  abbrev pub joining : Tree
  joining =
      in_front j.front
      (Section (Nested j.first_span first)
      (Section (instance_of 0 j.first_args)
      (in_front j.between
      (Section (Nested j.second_span second)
      (Section (instance_of 1 j.second_args)
      (in_front j.behind NoParts))))))

  -- the index spaces before the first component, after it, and after its instance; and so of the second
  abbrev pub before_first : Space
  before_first = spaces_behind root j.front

  abbrev pub with_first : Space
  with_first = after_part [] before_first (Nested j.first_span first)

  abbrev pub before_second : Space
  before_second = spaces_behind (after_part [] with_first (instance_of 0 j.first_args)) j.between

  abbrev pub with_second : Space
  with_second = after_part [] before_second (Nested j.second_span second)

  abbrev pub behind_second : Space
  behind_second = after_part [] with_second (instance_of 1 j.second_args)

  -- the plans of the two where they stand
  abbrev pub first_plan : Plan
  first_plan = plan_tree (before_first ∷ []) (no_scope ∷ []) (entered before_first) no_scope first

  abbrev pub one_scope : Scope
  one_scope = and_plan no_scope (Some first_plan)

  abbrev pub second_plan : Plan
  second_plan = plan_tree (before_second ∷ []) (one_scope ∷ []) (entered before_second) no_scope second

  abbrev pub both_scope : Scope
  both_scope = and_plan one_scope (Some second_plan)

  -- what is made: by the sections in front, in the first instance, by the sections between, in the second instance
  abbrev pub made_front : Making
  made_front = made_by no_scope root j.front (unmade joining)

  abbrev pub given_first : Givens
  given_first = givens_of made_front (named_args with_first j.first_args)

  abbrev pub made_first : Making
  made_first = link first_plan (begun (and_stage made_front.whole Begins) given_first)

  abbrev pub made_between : Making
  made_between = made_by one_scope (after_part [] with_first (instance_of 0 j.first_args)) j.between (with_component made_front (own_numbers with_first (slice_get with_first.components 0)) made_first)

  abbrev pub given_second : Givens
  given_second = givens_of made_between (named_args with_second j.second_args)

  abbrev pub made_second : Making
  made_second = link second_plan (begun (and_stage made_between.whole Begins) given_second)

-- ---- what meets the imports of the second: what the first's instance exports under the same names, or else what the whole imports
-- under these; and resources by this renaming

-- the first, or else the second
abbrev pub or_else : {A : Type 0} → Option A → Option A → Option A
or_else None y = y
or_else (Some x) y = Some x

abbrev pub nowhere : Target
nowhere = Theirs (record { interface = []; function = []; ty = record { params = NoTypes; answer = None } })

abbrev pub or_nowhere : Option Target → Target
or_nowhere None = nowhere
or_nowhere (Some target) = target

abbrev mutual
  pub met : (exports imports : Givens) → (ℕ → ℕ) → Name → Name → Item → Given
  met exports imports to interface name (FuncItem ty) = GivenFunc (or_nowhere (or_else (target_in (exported exports interface name)) (target_in (exported imports interface name))))
  met exports imports to interface name (InstanceItem entries) = GivenInstance (all_met exports imports to name entries)
  met exports imports to interface name (KindItem (ResourceKind r)) = GivenResource (to r)
  met exports imports to interface name (KindItem (ValueKind ty)) = GivenType
  met exports imports to interface name (KindItem (FuncKind ty)) = GivenType
  met exports imports to interface name (KindItem (InstanceKind own entries)) = GivenType

  pub all_met : (exports imports : Givens) → (ℕ → ℕ) → Name → Entries → Givens
  all_met exports imports to interface NoEntries = Nothing
  all_met exports imports to interface (Entry name item rest) = Giving name (met exports imports to interface name item) (all_met exports imports to interface rest)

abbrev pub imports_of : Tree → Entries
imports_of tree = (after_tree [] root tree).imports

-- what is outside of a component, by its imports
abbrev pub hosted : Tree → Givens
hosted tree = all_outside [] (imports_of tree)

-- what is found, if anything is found there
abbrev pub found_with : {A : Type 0} → Option A → Option A → Option A
found_with None y = None
found_with (Some x) y = y

module _ (j : Joint) (first second : Tree) (to : ℕ → ℕ) where
  -- what meets the imports of the second
  abbrev pub asked : Givens
  asked = all_met (made_first j first second).exports (hosted (joining j first second)) to [] (imports_of second)

  -- The second is given just what it imports, and what the whole exports leads where the exports of the second lead;
  pub record GivesJust : Type 0 where
    pub given : Alike asked (given_second j first second)
    pub exports : (interface name : Name) → target_in (exported (linked (joining j first second)).exports interface name) ≡ target_in (exported (made_second j first second).exports interface name)

  -- or it is given that with more beside, where it finds by itself all that it looks up; and the whole exports what the second exports
  -- by itself, and nothing else.
  pub record GivesMore : Type 0 where
    pub given : IsAmong asked (given_second j first second)
    pub finds : PlanFinds IsThere (plan_of second) (unmade second)
    pub exports :
        (interface name : Name) → target_in (exported (linked (joining j first second)).exports interface name)
        ≡ found_with (target_in (exported (linked second).exports interface name)) (target_in (exported (made_second j first second).exports interface name))

-- It gives the first what the whole imports, where the first's resources get these numbers; it gives the second what the first exports,
-- or else what the whole imports; and what it exports leads where the exports of the second lead.
pub record Fits (j : Joint) (first second : Tree) (from to : ℕ → ℕ) : Type 0 where
  pub front : JoinOnly no_scope root j.front
  pub between : JoinOnly (one_scope j first second) (after_part [] (with_first j first second) (instance_of 0 j.first_args)) j.between
  pub behind : JoinOnly (both_scope j first second) (behind_second j first second) j.behind
  pub first_given : Alike (all_outside [] (entries_with from (imports_of first))) (given_first j first second)
  pub second_given : GivesJust j first second to ⊎ GivesMore j first second to

-- ---- the first over the whole's host

abbrev pub owned_with : (ℕ → ℕ) → Owned → Owned
owned_with to o = record { resource = to o.resource; owner = o.owner }

-- The first as it stands in the whole: its resources have the whole's numbers and its imports the whole's names. What it does not
-- export, it hands on from the whole's imports.
abbrev pub over_host : (whole first : Tree) → (ℕ → ℕ) → Group
over_host whole first from = record {
  canons = λ k n. option_map (canon_with from) ((group_of first).canons k n);
  owner = owner_in (map (owned_with from) (linked first).whole.owners);
  imported = (group_of whole).imported;
  exports = λ interface name. or_else (option_map (target_with from) ((group_of first).exports interface name)) (target_in (exported (hosted whole) interface name));
  given = λ r. or_else (option_map from ((group_of first).given r)) (resource_of (exported (hosted whole) r.interface r.name));
  stages = (group_of first).stages;
}

-- ---- the two agree, where their resources get these numbers

-- an export meets an import with the same type, the names of its parameters included
abbrev pub Meets : Group → (ℕ → ℕ) → Import → Type 0
Meets G to f = (target : Target) × (G.exports f.interface f.function ≡ Some target) × (type_of target ≡ func_with to f.ty)

-- the first number after those of the component's imports, and after all that it defines
abbrev pub first_own : Tree → ℕ
first_own tree = behind_known (all_known [] (imports_of tree))

abbrev pub behind_own : Tree → ℕ
behind_own tree = (linked tree).whole.next_resource

abbrev pub IsKnown : List Known → ℕ → Type 0
IsKnown [] r = ⊥
IsKnown (k ∷ ks) r = (k.number ≡ r) ⊎ IsKnown ks r

-- the resources of the component's imports
abbrev pub known_by : Tree → List Known
known_by tree = all_known [] (imports_of tree)

-- What the first defines has the numbers after those of the whole's imports, and what the second defines has numbers after these.
-- Resources that the second imports have the numbers of those that meet them.
pub record Agree (whole first second : Tree) (from to : ℕ → ℕ) : Type 0 where
  pub first_stays : StaysWhole 1 first
  pub second_stays : StaysWhole 1 second
  pub first_knows : PlanKnows from (plan_of first) (unmade first)
  pub second_knows : PlanKnows to (plan_of second) (unmade second)
  pub first_once : (r s : ℕ) → from r ≡ from s → r ≡ s
  pub second_once : (r s : ℕ) → to r ≡ to s → r ≡ s
  pub first_begins : from (first_own first) ≡ first_own whole
  pub known_before : (r : ℕ) → IsKnown (known_by first) r → from r < from (behind_own first)
  pub own_before : (r : ℕ) → first_own first ≤ r → r < behind_own first → from r < from (behind_own first)
  pub second_begins : to (first_own second) ≡ from (behind_own first)
  pub behind : (r : ℕ) → first_own second ≤ r → from (behind_own first) ≤ to r
  pub types : (f : Import) → IsImportOf (group_of second) f → Meets (over_host whole first from) to f
  pub resources : (r : ℕ) → IsKnown (known_by second) r → (over_host whole first from).given ((group_of second).imported r) ≡ Some (to r)

-- ---- where the first alone meets the second

abbrev pub itself : ℕ → ℕ
itself r = r

-- The whole imports what the first imports, in the same numbers of resources, and the first exports all that the second imports.
pub record Closed (whole first second : Tree) (to : ℕ → ℕ) : Type 0 where
  pub imports : imports_of whole ≡ imports_of first
  pub functions : (f : Import) → IsImportOf (group_of second) f → (target : Target) × ((group_of first).exports f.interface f.function ≡ Some target)
  pub resources : (r : ℕ) → IsKnown (known_by second) r → (group_of first).given ((group_of second).imported r) ≡ Some (to r)

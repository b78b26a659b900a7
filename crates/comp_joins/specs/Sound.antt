-- A plan is sound where each step finds what it needs of what was made before it (Component Model, Explainer.md, "Instance
-- Definitions" and "Canonical Definitions"): what it names is there, and fits.
use Rattle.std.specs.Prelude.{◌≡◌, List, [], ◌∷◌, Option, Some, slice_get}
use Rattle.std.specs.Option.{option_map, option_and_then}
use Rattle.comp_types.specs.Items.{Entries}
use Rattle.comp_grammar.specs.Trees.{Tree}
use Rattle.comp_types.specs.Added.{takes_one, after_tree, root}
use Rattle.comp_types.specs.Validity.{IsValidComponent}
use Rattle.comp_worlds.specs.Groups.{Target, type_of, Begins}
use Rattle.comp_link.specs.Plans.{NamedArg, Plan, Planned, End, Then, OfModule, OfCoreItems, CoreItemOf, OfComponent, OfItems, ItemOf, NewResource, Lifts, Lowers, MakesResource, DropsResource, ReadsResource, Imports, Exports, plan_of}
use Rattle.comp_link.specs.Linking.{find, Making, begun, and_stage, core_find, place_at, externs_for, given_at, givens_of, item_in, options_in, lifting_of, link_item, all_known, behind_known, all_outside}
use Rattle.comp_link.specs.declared.linked.Linked.{Linked}
use Rattle.comp_link.specs.Planned.{plan_in}
use Rattle.comp_link.specs.Sections.{DefinesTypes}
use Rattle.comp_joins.specs.Counts.{CountsHold}
use Rattle.comp_joins.specs.Fits.{HasCodeIfAny, LiftingFits, LoweringFits, ModuleFits}

abbrev pub IsThere : {A : Type 0} → Option A → Type 0
IsThere {A} o = (a : A) × (o ≡ Some a)

-- each argument is there
abbrev pub AreThere : Making → List NamedArg → Type 0
AreThere m [] = Unit {0}
AreThere m (a ∷ args) = IsThere (given_at m a.item) × AreThere m args

abbrev mutual
  -- the plan of a component in the component is sound with what it is given
  pub IsSoundItem : Planned → Making → Type 0
  IsSoundItem (OfModule module' args) m = ModuleFits m.shadow module' (externs_for m module' args)
  IsSoundItem (OfCoreItems exports) m = Unit {0}
  IsSoundItem (CoreItemOf sort instance name) m = IsThere (option_and_then (core_find name) (slice_get m.core_instances instance))
  IsSoundItem (OfComponent plan own args) m = AreThere m args × IsSoundPlan plan (begun (and_stage m.whole Begins) (givens_of m args))
  IsSoundItem (OfItems exports) m = AreThere m exports
  IsSoundItem (ItemOf sort instance name) m = IsThere (item_in (slice_get m.instances instance) name)
  IsSoundItem (NewResource resource destructor) m = HasCodeIfAny m.shadow (option_map (place_at m.core_functions) destructor) takes_one
  IsSoundItem (Lifts func os ty) m = LiftingFits m.shadow (lifting_of m func os ty)
  IsSoundItem (Lowers func os ty) m = (called : Target) × (slice_get m.functions func ≡ Some (Some called)) × LoweringFits m.shadow ty (type_of called) (options_in m os)
  IsSoundItem (MakesResource resource) m = Unit {0}
  IsSoundItem (DropsResource resource) m = Unit {0}
  IsSoundItem (ReadsResource resource) m = Unit {0}
  IsSoundItem (Imports name item) m = IsThere (find name m.given)
  IsSoundItem (Exports name item stated) m = IsThere (given_at m item)

  -- each step, in the order of the plan
  pub IsSoundPlan : Plan → Making → Type 0
  IsSoundPlan End m = Unit {0}
  IsSoundPlan (Then item rest) m = IsSoundItem item m × IsSoundPlan rest (link_item item m)

-- an outermost component with these imports, before it is made
abbrev pub at_first : Entries → Making
at_first imports = begun (record { next_instance = 0; next_resource = behind_known (all_known [] imports); stages = []; canons = []; owners = [] }) (all_outside [] imports)

abbrev pub IsSound : Linked → Type 0
IsSound linked = IsSoundPlan (plan_in linked) (at_first linked.imports)

-- ---- the laws, of each valid component whose parts are as bytes spell them

abbrev pub LinkingIsSound : Type 0
LinkingIsSound = (c : Tree) → IsValidComponent c → DefinesTypes c → CountsHold c → IsSoundPlan (plan_of c) (at_first (after_tree [] root c).imports)

abbrev pub LinkedIsSound : Type 0
LinkedIsSound = (c : Tree) (linked : Linked) → IsValidComponent c → DefinesTypes c → CountsHold c → plan_in linked ≡ plan_of c → linked.imports ≡ (after_tree [] root c).imports → IsSound linked

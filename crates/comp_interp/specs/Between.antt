-- Where an assembly stands between two items of the innermost plan: what each plan made is there, what is called finds what it needs, and
-- what is left of all plans leads to the whole component.
use Rattle.std.specs.Prelude.{◌≡◌, ◌≤◌, nat_eq, ℕ, List, [], ◌∷◌, length}
use Rattle.indexmap.specs.IndexMap.{get}
use Rattle.core_store.specs.Scene.{Scene}
use Rattle.host_port.specs.Hosts.{HostStep}
use Rattle.comp_inside.specs.Linked.{OwnBrought}
use Rattle.comp_link.specs.Plans.{Plan}
use Rattle.comp_link.specs.Linking.{Givens, Whole, Making, with_component, link, all_known, canon_in, owner_in}
use Rattle.comp_link.specs.declared.linked.Linked.{Linked}
use Rattle.comp_joins.specs.Known.{PlanNamesKnown}
use Rattle.comp_joins.specs.Growing.{Grows}
use Rattle.comp_joins.specs.Settled.{AreBelow}
use Rattle.comp_joins.specs.Sound.{IsSoundPlan}
use Rattle.call_moments.specs.Fits.{scenes_of}
use Rattle.call_moments.specs.Leads.{Moment}
use Rattle.instance_making.specs.declared.named.Named.{Named}
use Rattle.instance_making.specs.declared.given.Given.{Given}
use Rattle.instance_making.specs.Outside.{first_known}
use Rattle.comp_interp.specs.declared.level.Level.{Level}
use Rattle.comp_interp.specs.Sound.{CanBeMade}
use Rattle.comp_interp.specs.Gathered.{Gathers, IsIdle, AreDone}
use Rattle.comp_interp.specs.Completing.{plan_left, completed, OuterGo}
use Rattle.comp_link.specs.Groups.{making_of, linked_group}
use Rattle.comp_interp.specs.Parts.{part_limit}
use Rattle.comp_interp.specs.Outer.{AreOutside, AreApart}
use Rattle.comp_interp.specs.Standing.{AllCalled, TargetStands, Stands}

-- a plan may be carried out from here
abbrev pub PlanGoes : Plan → Making → Type 0
PlanGoes plan m = IsSoundPlan plan m × PlanNamesKnown plan m

-- one that waits for a component, which it will hold with these resources
abbrev pub PlanWaits : Plan → Making → List (ℕ × ℕ) → Making → Type 0
PlanWaits plan g own made = PlanGoes plan (with_component g own made) × OwnBrought made.resources own

-- what was made by plans that wait, while the group is so far
abbrev pub AllWait : List Scene → Whole → List Making → Type 0
AllWait scenes whole [] = Unit {0}
AllWait scenes whole (g ∷ gs) = (AreBelow g × Grows g.whole whole × AllCalled (TargetStands scenes) g) × AllWait scenes whole gs

-- a plan names components that are there
abbrev pub IsThere : Linked → Level → Type 0
IsThere linked l = part_limit linked l.part ≤ length linked.components

abbrev pub AllThere : Linked → List Level → Type 0
AllThere linked [] = Unit {0}
AllThere linked (l ∷ hs) = IsThere linked l × AllThere linked hs

module _ {S : Type 0} where
  -- the levels around the innermost one are given outermost first
  pub record Between (linked : Linked) (listed : List (Named Given)) (hs : List Level) (l : Level) (m : Moment S) : Type 0 where
    pub before : List Givens
    pub gs : List Making
    pub g : Making
    pub can : CanBeMade linked
    pub there : IsThere linked l
    pub all_there : AllThere linked hs
    pub gathers : Gathers before listed m l.making g
    pub idle : IsIdle m
    pub outside : AreOutside before m hs gs
    pub apart : AreApart gs g.instance
    pub wait : AllWait (scenes_of m.instances) g.whole gs
    pub below : AreBelow g
    pub called : AllCalled (TargetStands (scenes_of m.instances)) g
    pub stand : Stands (scenes_of m.instances) (canon_in g.whole.canons) (owner_in g.whole.owners)
    pub imported : (r : ℕ) → get nat_eq m.group.imported r ≡ first_known (all_known [] linked.imports) r
    pub complete : completed linked hs gs l (link (plan_left linked l) g) ≡ making_of linked
    pub goes : PlanGoes (plan_left linked l) g
    pub outer : OuterGo PlanWaits linked hs gs l (link (plan_left linked l) g)

  -- with what the group is by then
  abbrev pub BetweenWith : Linked → List (Named Given) → List Level → Level → Moment S → Whole → Type 0
  BetweenWith linked listed hs l m whole = (b : Between linked listed hs l m) × (b.g.whole ≡ whole)

  -- and all stages so far are done, since the first moment
  pub record Stood (h : HostStep S) (linked : Linked) (first : Moment S) (listed : List (Named Given)) (hs : List Level) (l : Level) (m : Moment S) : Type 0 where
    pub between : Between linked listed hs l m
    pub done : AreDone h (linked_group linked) between.g.whole.stages first m

-- What will be made once the plans that are left at each level are done. Levels are given outermost first, each with what it has made.
use Rattle.std.specs.Prelude.{ℕ, List, [], ◌∷◌, drop}
use Rattle.comp_types.specs.GivenResources.{numbered}
use Rattle.comp_link.specs.Plans.{Plan}
use Rattle.comp_link.specs.Linking.{Making, with_component, link}
use Rattle.comp_link.specs.declared.linked.Linked.{Linked}
use Rattle.comp_link.specs.Planned.{plan_items}
use Rattle.comp_interp.specs.declared.level.Level.{Level}
use Rattle.comp_interp.specs.Parts.{part_items, part_own, part_limit, named_below}

-- what is left of a level's plan
abbrev pub plan_left : Linked → Level → Plan
plan_left linked l = plan_items linked.modules (named_below linked (part_limit linked l.part)) (drop l.at (part_items linked l.part))

-- its own resources, with the numbers that they have in the component that holds it
abbrev pub own_held : Linked → Level → List (ℕ × ℕ)
own_held linked l = numbered (part_own linked l.part) l.first

abbrev pub outermost_of : List Level → Level → Level
outermost_of [] l = l
outermost_of (h ∷ hs) l = h

-- the outermost is done, once the innermost one made all of this
abbrev pub completed : Linked → List Level → List Making → Level → Making → Making
completed linked [] gs l done = done
completed linked (h ∷ hs) [] l done = done
completed linked (h ∷ hs) (g ∷ gs) l done = link (plan_left linked h) (with_component g (own_held linked (outermost_of hs l)) (completed linked hs gs l done))

-- F holds at each level outside the innermost one: of what is left of its plan, what it made, and the component that will be made in it by
-- then, with its own resources
abbrev pub OuterGo : (Plan → Making → List (ℕ × ℕ) → Making → Type 0) → Linked → List Level → List Making → Level → Making → Type 0
OuterGo F linked [] gs l done = Unit {0}
OuterGo F linked (h ∷ hs) [] l done = ⊥
OuterGo F linked (h ∷ hs) (g ∷ gs) l done = F (plan_left linked h) g (own_held linked (outermost_of hs l)) (completed linked hs gs l done) × OuterGo F linked hs gs l done

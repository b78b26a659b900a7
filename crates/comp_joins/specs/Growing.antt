-- A group grows at its end while a component is made. (This project's own.)
use Rattle.std.specs.Prelude.{◌≡◌, ℕ, ◌+◌, ◌≤◌, List, [], ◌∷◌, ◌++◌}
use Rattle.comp_worlds.specs.Groups.{Stage}
use Rattle.comp_link.specs.Plans.{Plan, Planned}
use Rattle.comp_link.specs.Linking.{Placed, Owned, Whole, Making, link_item, link}

-- resources from one number to another, one after the other
abbrev pub AreFrom : ℕ → List Owned → ℕ → Type 0
AreFrom first [] next = first ≡ next
AreFrom first (o ∷ os) next = (o.resource ≡ first) × AreFrom (first + 1) os next

pub record Grows (w w' : Whole) : Type 0 where
  pub stages : List Stage
  pub stages_behind : w'.stages ≡ w.stages ++ stages
  pub canons : List Placed
  pub canons_behind : w'.canons ≡ w.canons ++ canons
  pub owners : List Owned
  pub owners_behind : w'.owners ≡ w.owners ++ owners
  pub numbers : AreFrom w.next_resource owners w'.next_resource
  pub instances : w.next_instance ≤ w'.next_instance

-- each item of a plan adds at the end, and so does a plan
abbrev pub ItemsGrow : Type 0
ItemsGrow = (item : Planned) (m : Making) → Grows m.whole (link_item item m).whole

abbrev pub PlansGrow : Type 0
PlansGrow = (plan : Plan) (m : Making) → Grows m.whole (link plan m).whole

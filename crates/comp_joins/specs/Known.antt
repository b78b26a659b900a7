-- What a plan names is known whatever the numbers of resources become, where its own stay in order. (This project's own.)
use Rattle.std.specs.Prelude.{◌≡◌, ℕ, ◌+◌, ◌≤◌, ◌<◌, List, true}
use Rattle.comp_grammar.specs.Trees.{Tree}
use Rattle.comp_types.specs.Spaces.{Space, empty_space}
use Rattle.comp_types.specs.Validity.{IsValidComponent}
use Rattle.comp_link.specs.Plans.{Plan, Scope, no_scope, plan_tree, plan_of}
use Rattle.comp_link.specs.Linking.{Making, link, linked}
use Rattle.comp_link.specs.Sections.{DefinesTypes}
use Rattle.comp_inside.specs.Linked.{Standing, InOrder, making_in, PlanKnows, unmade}

-- numbers one after the other, from the first on and in front of the last, become such numbers
abbrev pub StayInOrder : (ℕ → ℕ) → ℕ → ℕ → Type 0
StayInOrder to first last = (r : ℕ) → first ≤ r → r < last → to (r + 1) ≡ to r + 1

-- each resource that a plan names was brought or defined before
abbrev pub PlanNamesKnown : Plan → Making → Type 0
PlanNamesKnown plan m = PlanKnows (λ r. r) plan m

abbrev pub KnownInOrder : Type 0
KnownInOrder = (to : ℕ → ℕ) (plan : Plan) (m : Making) → PlanNamesKnown plan m → StayInOrder to m.whole.next_resource (link plan m).whole.next_resource → PlanKnows to plan m

-- ---- components; that sections of types only define types is so of each component that bytes spell

abbrev pub ValidNamesKnown : Type 0
ValidNamesKnown = (c : Tree) → IsValidComponent c → DefinesTypes c → PlanNamesKnown (plan_of c) (unmade c)

abbrev pub ValidLinkInside : Type 0
ValidLinkInside =
    (around : List Space) (outside : List Scope) (at : Standing) (c : Tree) → IsValidComponent c → DefinesTypes c →
    InOrder at (linked c).whole.next_instance → StayInOrder at.to (unmade c).whole.next_resource (linked c).whole.next_resource →
    link (plan_tree around outside (empty_space true at.later) no_scope c) (making_in at (unmade c)) ≡ making_in at (linked c)

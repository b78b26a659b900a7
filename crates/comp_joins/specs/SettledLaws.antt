-- Of plans that name what is known.
use Rattle.std.specs.Prelude.{ℕ, List, []}
use Rattle.comp_types.specs.Items.{Entries}
use Rattle.comp_worlds.specs.Groups.{Begins}
use Rattle.comp_link.specs.Plans.{NamedArg, Plan, Planned}
use Rattle.comp_link.specs.Linking.{Making, begun, and_stage, givens_of, with_component, link_item, link, all_known, behind_known, all_outside}
use Rattle.comp_inside.specs.Linked.{ArgsBrought, OwnBrought, ItemKnows, PlanKnows}
use Rattle.comp_joins.specs.Growing.{Grows}
use Rattle.comp_joins.specs.Settled.{AreBelow, IsSettled}

-- an outermost component with these imports, before it is made
abbrev pub outermost : Entries → Making
outermost imports = begun (record { next_instance = 0; next_resource = behind_known (all_known [] imports); stages = []; canons = []; owners = [] }) (all_outside [] imports)

pub record NumbersStayBelow : Type 0 where
  pub first : (imports : Entries) → AreBelow (outermost imports)
  pub item : (item : Planned) (m : Making) → ItemKnows (λ r. r) item m → AreBelow m → AreBelow (link_item item m)
  pub plan : (plan : Plan) (m : Making) → PlanKnows (λ r. r) plan m → AreBelow m → AreBelow (link plan m)
  -- a component in the component, as it begins to be made, and once it is made
  pub enters : (m : Making) (args : List NamedArg) → ArgsBrought m.resources args → AreBelow m → AreBelow (begun (and_stage m.whole Begins) (givens_of m args))
  pub leaves : (m made : Making) (own : List (ℕ × ℕ)) → Grows m.whole made.whole → OwnBrought made.resources own → AreBelow m → AreBelow made → AreBelow (with_component m own made)

abbrev pub WhatStandsIsSettled : Type 0
WhatStandsIsSettled = (m whole : Making) → AreBelow m → Grows m.whole whole.whole → IsSettled m.whole whole.whole

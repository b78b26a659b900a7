-- Which linked components can be made: each step of their plan finds what it needs in what was made before it, and names resources that
-- were brought or defined before.
use Rattle.std.specs.Prelude.{◌≡◌, ℕ, List, []}
use Rattle.core_validate.specs.Validity.{IsValidModule}
use Rattle.core_instance.specs.Matching.{HasCounts}
use Rattle.comp_grammar.specs.Trees.{Tree}
use Rattle.comp_grammar.specs.Components.{SpellsComponent}
use Rattle.comp_types.specs.Added.{after_tree, root}
use Rattle.comp_types.specs.Validity.{IsValidComponent}
use Rattle.comp_link.specs.Plans.{Plan, Planned, End, Then, OfModule, OfComponent, plan_of}
use Rattle.comp_link.specs.declared.linked.Linked.{Linked}
use Rattle.comp_link.specs.Planned.{plan_in}
use Rattle.comp_joins.specs.Sound.{at_first, IsSound}
use Rattle.comp_joins.specs.Known.{PlanNamesKnown}

-- each module is valid, and has as many bodies and data segments as it counts
abbrev mutual
  pub HasSoundModule : Planned → Type 0
  HasSoundModule (OfModule module' args) = IsValidModule module' × HasCounts module'
  HasSoundModule (OfComponent plan own args) = HasSoundModules plan
  HasSoundModule _ = Unit {0}

  pub HasSoundModules : Plan → Type 0
  HasSoundModules End = Unit {0}
  HasSoundModules (Then item rest) = HasSoundModule item × HasSoundModules rest

pub record CanBeMade (linked : Linked) : Type 0 where
  pub sound : IsSound linked
  pub knows : PlanNamesKnown (plan_in linked) (at_first linked.imports)

-- the law: of a valid component that bytes spell
abbrev pub LinkedCanBeMade : Type 0
LinkedCanBeMade = (c : Tree) (bytes : List ℕ) (linked : Linked) → SpellsComponent c bytes → IsValidComponent c → plan_in linked ≡ plan_of c → linked.imports ≡ (after_tree [] root c).imports → CanBeMade linked

-- The numbers that resources of two components have in one that joins them. (This project's own.)
use Rattle.std.specs.Prelude.{◌≡◌, ℕ, ◌+◌, ◌-◌, ◌<◌, List, nat_lt, if◌then◌else◌, Option, Some, None}
use Rattle.comp_types.specs.Substitution.{partner_of}
use Rattle.comp_grammar.specs.Trees.{Tree}
use Rattle.comp_types.specs.Validity.{IsValidComponent}
use Rattle.comp_worlds.specs.Groups.{Import}
use Rattle.comp_worlds.specs.Parts.{IsImportOf}
use Rattle.comp_link.specs.Linking.{group_of}
use Rattle.comp_link.specs.Sections.{DefinesTypes}
use Rattle.comp_joins.specs.Joining.{first_own, behind_own, IsKnown, known_by, over_host, Meets, Agree}

-- a number that no resource has stands after all of these
abbrev pub partner_or : Option ℕ → ℕ → ℕ
partner_or None far = far
partner_or (Some g) far = g

-- A resource of an import has its partner; the component's own, and the number after them, follow from `start` on.
abbrev pub numbered : List (ℕ × ℕ) → (own behind start : ℕ) → ℕ → ℕ
numbered pairs own behind start r =
    if nat_lt r own then partner_or (partner_of pairs r) (start + behind + 1 + r) else if nat_lt r (behind + 1) then start + (r - own) else start + behind + 1 + r

-- the partners are in front of `start`, and no two resources have one
pub record ArePartners (pairs : List (ℕ × ℕ)) (own start : ℕ) : Type 0 where
  pub imported : (r g : ℕ) → partner_of pairs r ≡ Some g → r < own
  pub before : (r g : ℕ) → partner_of pairs r ≡ Some g → g < start
  pub once : (r s g : ℕ) → partner_of pairs r ≡ Some g → partner_of pairs s ≡ Some g → r ≡ s

module _ (whole first second : Tree) (firsts seconds : List (ℕ × ℕ)) where
  -- the first's own after the whole's imports, and the second's after these
  abbrev pub from : ℕ → ℕ
  from = numbered firsts (first_own first) (behind_own first) (first_own whole)

  abbrev pub to : ℕ → ℕ
  to = numbered seconds (first_own second) (behind_own second) (from (behind_own first))

  pub record Partners : Type 0 where
    pub before_first : ArePartners firsts (first_own first) (first_own whole)
    pub before_second : ArePartners seconds (first_own second) (from (behind_own first))
    pub known : (r : ℕ) → IsKnown (known_by first) r → (g : ℕ) × (partner_of firsts r ≡ Some g)
    pub types : (f : Import) → IsImportOf (group_of second) f → Meets (over_host whole first from) to f
    pub resources : (r : ℕ) → IsKnown (known_by second) r → (over_host whole first from).given ((group_of second).imported r) ≡ Some (to r)

abbrev pub ValidAgree : Type 0
ValidAgree =
    (whole first second : Tree) (firsts seconds : List (ℕ × ℕ)) → IsValidComponent first → DefinesTypes first → IsValidComponent second → DefinesTypes second → Partners whole first second firsts seconds →
    Agree whole first second (from whole first second firsts seconds) (to whole first second firsts seconds)

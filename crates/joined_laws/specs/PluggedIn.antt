-- Where a component that joins two valid ones imports what the first imports, and the first exports all that the second imports, it does what
-- the second does over the first alone: the first has its own numbers of resources there. (This project's own.)
use Rattle.std.specs.Prelude.{◌≡◌, ℕ, List, Some}
use Rattle.host_port.specs.Hosts.{HostStep}
use Rattle.comp_grammar.specs.Trees.{Tree}
use Rattle.comp_worlds.specs.Groups.{Import}
use Rattle.comp_worlds.specs.Observed.{Call}
use Rattle.comp_worlds.specs.Parts.{IsImportOf}
use Rattle.comp_link.specs.Linking.{group_of}
use Rattle.comp_joins.specs.Joining.{imports_of, Meets, first_own, behind_own, IsKnown, known_by, itself}
use Rattle.comp_joins.specs.Numbers.{numbered, ArePartners}
use Rattle.comp_joins.specs.Laws.{SeenJoined}
use Rattle.comp_joined.specs.Form.{IsJoining}
use Rattle.joined_laws.specs.Behaves.{GivesBoth, IsValidSpelled}

-- the numbers that the second's resources have then: its own follow the first's
abbrev pub after_first : (first second : Tree) → List (ℕ × ℕ) → ℕ → ℕ
after_first first second seconds = numbered seconds (first_own second) (behind_own second) (behind_own first)

-- Each resource of the second's imports has one of the first's for its partner, and each of its functions is exported by the first, with
-- its type.
pub record IsPluggedIn (whole first second : Tree) (seconds : List (ℕ × ℕ)) : Type 0 where
  pub imports : imports_of whole ≡ imports_of first
  pub partners : ArePartners seconds (first_own second) (behind_own first)
  pub functions : (f : Import) → IsImportOf (group_of second) f → Meets (group_of first) (after_first first second seconds) f
  pub resources : (r : ℕ) → IsKnown (known_by second) r → (group_of first).given ((group_of second).imported r) ≡ Some (after_first first second seconds r)

abbrev pub PluggedInDoesSame : {S : Type 0} → HostStep S → Type 0
PluggedInDoesSame {S} h =
    (whole first second : Tree) (is : IsJoining first second whole) → IsValidSpelled first → IsValidSpelled second → (seconds : List (ℕ × ℕ)) → IsPluggedIn whole first second seconds →
    GivesBoth is.joint first second itself (after_first first second seconds) → (s : S) (calls : List Call) → SeenJoined whole second (group_of first) h s calls

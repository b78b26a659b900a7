-- What a component that joins two valid ones is observed to do, where each of the two is given what it asks for.
use Rattle.std.specs.Prelude.{◌⊎◌, ℕ, List, []}
use Rattle.host_port.specs.Hosts.{HostStep}
use Rattle.comp_grammar.specs.Trees.{Tree}
use Rattle.comp_types.specs.Substitution.{entries_with}
use Rattle.comp_types.specs.Validity.{IsValidComponent}
use Rattle.comp_worlds.specs.Observed.{Call}
use Rattle.comp_link.specs.Linking.{all_outside}
use Rattle.comp_link.specs.Sections.{DefinesTypes}
use Rattle.comp_joins.specs.Alike.{Alike}
use Rattle.comp_joins.specs.Joining.{Joint, given_first, imports_of, GivesJust, GivesMore, over_host}
use Rattle.comp_joins.specs.Numbers.{Partners, from, to}
use Rattle.comp_joins.specs.Laws.{SeenJoined}
use Rattle.comp_joined.specs.Form.{IsJoining}

-- The first is given just what it imports, where its resources get these numbers. The second is given what it imports: by the first's
-- exports, or else by the whole's imports.
pub record GivesBoth (j : Joint) (first second : Tree) (from to : ℕ → ℕ) : Type 0 where
  pub first_given : Alike (all_outside [] (entries_with from (imports_of first))) (given_first j first second)
  pub second_given : GivesJust j first second to ⊎ GivesMore j first second to

-- A valid component whose sections of types only define types, as those of each component do that bytes spell.
pub record IsValidSpelled (c : Tree) : Type 0 where
  pub valid : IsValidComponent c
  pub defines : DefinesTypes c

-- Each resource of an import has its partner in the whole, each import of the second is met by one of its type, and both are given what
-- they import.
pub record AreMet (j : Joint) (whole first second : Tree) (firsts seconds : List (ℕ × ℕ)) : Type 0 where
  pub partners : Partners whole first second firsts seconds
  pub gives : GivesBoth j first second (from whole first second firsts seconds) (to whole first second firsts seconds)

-- Then over each host the whole is observed to do what the second does over the first and the host, each made in one step more.
abbrev pub JoiningDoesSame : {S : Type 0} → HostStep S → Type 0
JoiningDoesSame {S} h =
    (whole first second : Tree) (is : IsJoining first second whole) → IsValidSpelled first → IsValidSpelled second → (firsts seconds : List (ℕ × ℕ)) → AreMet is.joint whole first second firsts seconds →
    (s : S) (calls : List Call) → SeenJoined whole second (over_host whole first (from whole first second firsts seconds)) h s calls

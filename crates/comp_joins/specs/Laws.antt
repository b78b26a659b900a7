-- What a component that joins two others is observed to do.
use Rattle.std.specs.Prelude.{ℕ, ◌+◌, List, [], ◌∷◌}
use Rattle.host_port.specs.Hosts.{HostStep}
use Rattle.comp_grammar.specs.Trees.{Tree}
use Rattle.comp_worlds.specs.Acts.{Extends}
use Rattle.comp_worlds.specs.Groups.{Nesting, Begins, Group}
use Rattle.comp_worlds.specs.Observed.{Call, runs_calls, seen, SameObservations}
use Rattle.comp_worlds.specs.Parts.{SameAsParts}
use Rattle.comp_link.specs.Linking.{group_of}
use Rattle.comp_link.specs.Components.{component_seen}
use Rattle.comp_joins.specs.Joining.{Joint, joining, Fits, over_host, Agree, itself, Closed}

-- its making begins with a step, as that of a component in another one does
abbrev pub in_a_step : Group → Group
in_a_step G = record {
  canons = G.canons;
  owner = G.owner;
  imported = G.imported;
  exports = G.exports;
  given = G.given;
  stages = Begins ∷ G.stages;
}

-- With two steps more, two groups that are made in a step more do what they do without, with as many steps left; and what they do in
-- some steps, they do without in as many, with two more left.
pub record TwoStepsMore {S : Type 0} (A B : Group) (groups : List Group) (h : HostStep S) (s : S) (d : Nesting) (calls : List Call) : Type 0 where
  pub first : (n : ℕ) → Extends 0 (runs_calls d B (A ∷ groups) h s calls n) (runs_calls d (in_a_step B) (in_a_step A ∷ groups) h s calls (2 + n))
  pub second : (n : ℕ) → Extends 2 (runs_calls d (in_a_step B) (in_a_step A ∷ groups) h s calls n) (runs_calls d B (A ∷ groups) h s calls n)

abbrev pub StepsMore : {S : Type 0} → HostStep S → Type 0
StepsMore {S} h = (A B : Group) (groups : List Group) (s : S) (d : Nesting) (calls : List Call) → TwoStepsMore A B groups h s d calls

-- Over a host the whole is observed to do what the second does over this group over that host, each of which is made in one step more:
-- in as many steps, whatever the limit on calls in progress. So it is seen to do what the second does over that group.
pub record SeenJoined {S : Type 0} (whole second : Tree) (first : Group) (h : HostStep S) (s : S) (calls : List Call) : Type 0 where
  pub same : SameObservations (component_seen whole h s calls) (seen (group_of second) (first ∷ []) h s calls)
  pub exactly : (d : Nesting) (n : ℕ) → SameAsParts (in_a_step first) (in_a_step (group_of second)) (group_of whole) [] h s d calls n

-- It does what the second does over the first and the host.
abbrev pub JoinedDoSame : {S : Type 0} → HostStep S → Type 0
JoinedDoSame {S} h =
    (j : Joint) (first second : Tree) (from to : ℕ → ℕ) → Fits j first second from to → Agree (joining j first second) first second from to → (s : S) (calls : List Call) →
    SeenJoined (joining j first second) second (over_host (joining j first second) first from) h s calls

-- Where the second imports nothing but what the first exports, it does what the second does over the first.
abbrev pub PluggedDoSame : {S : Type 0} → HostStep S → Type 0
PluggedDoSame {S} h =
    (j : Joint) (first second : Tree) (to : ℕ → ℕ) → Fits j first second itself to → Agree (joining j first second) first second itself to → Closed (joining j first second) first second to →
    (s : S) (calls : List Call) → SeenJoined (joining j first second) second (group_of first) h s calls

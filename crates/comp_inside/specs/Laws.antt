-- What a wrapped component is observed to do.
use Rattle.std.specs.Prelude.{◌≡◌, ℕ, suc, List, [], ◌∷◌}
use Rattle.std.specs.Option.{option_map}
use Rattle.wit_types.specs.Plain.{Name}
use Rattle.host_port.specs.Hosts.{HostStep}
use Rattle.comp_types.specs.Items.{End}
use Rattle.comp_grammar.specs.Trees.{Tree}
use Rattle.comp_types.specs.Added.{type_of}
use Rattle.comp_worlds.specs.Acts.{observed_of, seen_of}
use Rattle.comp_worlds.specs.Groups.{Nesting, Theirs, Begins, Group}
use Rattle.comp_worlds.specs.Observed.{Call, runs_calls, SameObservations}
use Rattle.comp_worlds.specs.Parts.{target_to, func_to, owner_to, stages_to}
use Rattle.comp_link.specs.Linking.{group_of}
use Rattle.comp_link.specs.Components.{component_seen}
use Rattle.comp_inside.specs.Wrapping.{Wraps}

-- H is made of the instances of G, at other numbers, and has the same exports. Its own instance makes nothing.
pub record Surrounds (H G : Group) (place : ℕ → ℕ) : Type 0 where
  pub canons : (k n : ℕ) → H.canons (place k) n ≡ option_map (func_to place Theirs) (G.canons k n)
  pub owner : (r : ℕ) → H.owner r ≡ option_map (owner_to place) (G.owner r)
  pub imported : (r : ℕ) → H.imported r ≡ G.imported r
  pub exports : (interface function : Name) → H.exports interface function ≡ option_map (target_to place Theirs) (G.exports interface function)
  pub stages : H.stages ≡ Begins ∷ stages_to place G.stages
  pub once : (j k : ℕ) → place j ≡ place k → j ≡ k

-- With one step more H does what G does, whatever the limit on calls in progress.
pub record OneStepLater {S : Type 0} (H G : Group) (h : HostStep S) (s : S) (d : Nesting) (calls : List Call) : Type 0 where
  pub observed : (n : ℕ) → observed_of (runs_calls d H [] h s calls (suc n)) ≡ observed_of (runs_calls d G [] h s calls n)
  pub seen : (n : ℕ) → seen_of (runs_calls d H [] h s calls (suc n)) ≡ seen_of (runs_calls d G [] h s calls n)
  pub first : seen_of (runs_calls d H [] h s calls 0) ≡ []

abbrev pub SurroundingDoSame : {S : Type 0} → HostStep S → Type 0
SurroundingDoSame {S} h = (H G : Group) (place : ℕ → ℕ) → Surrounds H G place → (s : S) (d : Nesting) (calls : List Call) → OneStepLater H G h s d calls

-- a component that imports nothing
abbrev pub ImportsNone : Tree → Type 0
ImportsNone tree = (type_of tree).imports ≡ End

-- A component without imports is seen to do the same where it is wrapped, for every list of calls; in one step more.
pub record SeenWrapped {S : Type 0} (w c : Tree) (h : HostStep S) (s : S) (calls : List Call) : Type 0 where
  pub same : SameObservations (component_seen c h s calls) (component_seen w h s calls)
  pub later : (d : Nesting) → OneStepLater (group_of w) (group_of c) h s d calls

abbrev pub WrappedDoSame : {S : Type 0} → HostStep S → Type 0
WrappedDoSame {S} h = (w c : Tree) → Wraps w c → ImportsNone c → (s : S) (calls : List Call) → SeenWrapped w c h s calls

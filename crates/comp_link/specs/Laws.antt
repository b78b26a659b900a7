-- What holds of the group of every component.
use Rattle.std.specs.Prelude.{◌≡◌, ℕ, nat_lt, List, [], Bool, true}
use Rattle.host_port.specs.Hosts.{HostStep}
use Rattle.comp_grammar.specs.Trees.{Tree}
use Rattle.comp_types.specs.Added.{after_tree, root}
use Rattle.comp_worlds.specs.Groups.{Group}
use Rattle.comp_worlds.specs.Observed.{State, Call, seen, SameObservations}
use Rattle.comp_worlds.specs.Related.{OwnsNone, Opens}
use Rattle.comp_link.specs.Linking.{all_known, behind_known, group_of}
use Rattle.comp_link.specs.Components.{component_seen, AreCalls}

-- the number is not after those of the resources of the component's imports
abbrev pub is_of_imports : Tree → ℕ → Bool
is_of_imports tree r = nat_lt r (behind_known (all_known [] (after_tree [] root tree).imports))

-- What instances define has other numbers.
abbrev pub OwnResourcesAreNew : Type 0
OwnResourcesAreNew = (tree : Tree) → OwnsNone (is_of_imports tree) (group_of tree)

-- A component over the first host, and over the adapter over the second, is seen to do the same, where handles of some resources of
-- its imports may have other numbers.
abbrev pub ComponentSeenAlike : {S T : Type 0} → (adapter : List Group) → HostStep S → HostStep T → (ℕ → Bool) → (S → State adapter T → Type 0) → Tree → Type 0
ComponentSeenAlike {S} {T} adapter h h' host idle tree =
    ((r : ℕ) → host r ≡ true → is_of_imports tree r ≡ true) → (calls : List Call) (s : S) (t : T) → AreCalls tree calls → Opens adapter h h' idle s t →
    SameObservations (component_seen tree h s calls) (seen (group_of tree) adapter h' t calls)

-- The law of related hosts, of components.
use Rattle.std.proofs.Common.{◌≡◌, ℕ, List, Bool, true, false, refl, sym, ◌∙◌}
use Rattle.host_port.specs.Hosts.{HostStep}
use Rattle.comp_grammar.specs.Trees.{Tree}
use Rattle.comp_worlds.specs.Groups.{Group}
use Rattle.comp_worlds.specs.Observed.{State}
use Rattle.comp_worlds.specs.Related.{OwnsNone, SeenAlike}
use Rattle.comp_link.specs.Linking.{group_of}
use Rattle.comp_link.specs.Laws.{is_of_imports, ComponentSeenAlike}
use Rattle.comp_link.proofs.Numbers.{own_are_new}

owns_none : (host : ℕ → Bool) (tree : Tree) → ((r : ℕ) → host r ≡ true → is_of_imports tree r ≡ true) → OwnsNone host (group_of tree)
owns_none host tree within r o is = at_test (host r) refl
  where
    at_test : (b : Bool) → host r ≡ b → b ≡ false
    at_test false e = refl
    at_test true e = sym (within r e) ∙ own_are_new tree r o is

pub component_alike : {S T : Type 0} → (adapter : List Group) (h : HostStep S) (h' : HostStep T) (host : ℕ → Bool) (idle : S → State adapter T → Type 0) (tree : Tree) → SeenAlike adapter h h' host idle (group_of tree) → ComponentSeenAlike adapter h h' host idle tree
component_alike adapter h h' host idle tree law within calls s t each opens = law calls s t (owns_none host tree within) each opens

-- A node of a tree and another content.
use Rattle.std.proofs.Common.{◌≡◌, ◌<◌, ℕ, true, List, Option, Some, None, refl, sym, ap, ◌∙◌}
use Rattle.std.specs.Prelude.{IfSome}
use Rattle.std.proofs.lemmas.Bool.{ltb-true}
use Rattle.tree_table.specs.Tables.{Forest}
use Rattle.reference_step.specs.Descriptors as descriptor
use Rattle.reference_step.specs.Descriptors.{with_node, same_node, link_pair, rename_pair, are_same}
use Rattle.reference_step.specs.State.{View, fails}
use Rattle.ref_rules.specs.declared.content.Content.{Content}
use Rattle.ref_rules.specs.declared.content.Content.TheVariants.{Host, Node, FileAt, EmptyIn, Discard, Always, Entries, ScratchRoot, ScratchEntries, ScratchFile, ScratchIn, ScratchOut}
use Rattle.ref_answers.specs.Seen.{content_in}
use Rattle.ref_virtual.specs.Views.{node_in}
use Rattle.ref_virtual.specs.Inside.{node_inside}
use Rattle.ref_virtual.specs.Others.{node_of, crossing, same_as}

-- the node of a content is one of that many, where that of the content is
pub node_within : (nodes : ℕ) (c : Content) → node_inside nodes c ≡ true → IfSome (node_of c) (λ o. o < nodes)
node_within nodes (Host id) is = tt
node_within nodes (Node node) is = ltb-true _ _ is
node_within nodes (FileAt node place) is = tt
node_within nodes EmptyIn is = tt
node_within nodes Discard is = tt
node_within nodes Always is = tt
node_within nodes (Entries node place) is = tt
node_within nodes ScratchRoot is = tt
node_within nodes (ScratchEntries number) is = tt
node_within nodes (ScratchFile number may_write) is = tt
node_within nodes (ScratchIn number place) is = tt
node_within nodes (ScratchOut number place) is = tt

abbrev joined : Option ℕ → descriptor.Pair
joined None = descriptor.Mixed
joined (Some node) = descriptor.Embedded

module _ (f : Forest) where
  with_it : (c : Content) → with_node (content_in f c) ≡ joined (node_of c)
  with_it (Host id) = refl
  with_it (Node node) = refl
  with_it (FileAt node place) = refl
  with_it EmptyIn = refl
  with_it Discard = refl
  with_it Always = refl
  with_it (Entries node place) = refl
  with_it ScratchRoot = refl
  with_it (ScratchEntries number) = refl
  with_it (ScratchFile number may_write) = refl
  with_it (ScratchIn number place) = refl
  with_it (ScratchOut number place) = refl

  link_joined : (o : Option ℕ) → fails (crossing o) ≡ link_pair (joined o)
  link_joined None = refl
  link_joined (Some node) = refl

  rename_joined : (v : View) (old new : List ℕ) (o : Option ℕ) → fails (crossing o) ≡ rename_pair v (joined o) old new
  rename_joined v old new None = refl
  rename_joined v old new (Some node) = refl

  pub link_is : (node : ℕ) (c : Content) → fails (crossing (node_of c)) ≡ descriptor.link-at (node_in f node) (content_in f c)
  link_is node c = link_joined (node_of c) ∙ ap link_pair (sym (with_it c))

  pub rename_is : (v : View) (old new : List ℕ) (node : ℕ) (c : Content) → fails (crossing (node_of c)) ≡ descriptor.rename-at v (node_in f node) (content_in f c) old new
  rename_is v old new node c = rename_joined v old new (node_of c) ∙ ap (λ p. rename_pair v p old new) (sym (with_it c))

  pub same_is : (node : ℕ) (c : Content) → same_as f node (node_of c) ≡ are_same (node_in f node) (content_in f c)
  same_is node (Host id) = refl
  same_is at (Node node) = refl
  same_is at (FileAt node place) = refl
  same_is node EmptyIn = refl
  same_is node Discard = refl
  same_is node Always = refl
  same_is at (Entries node place) = refl
  same_is node ScratchRoot = refl
  same_is node (ScratchEntries number) = refl
  same_is node (ScratchFile number may_write) = refl
  same_is node (ScratchIn number place) = refl
  same_is node (ScratchOut number place) = refl

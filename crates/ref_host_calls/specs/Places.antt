-- What the handle of a folder stands for. A root's number among the nodes is the place of its tree.
use Rattle.ref_rules.specs.declared.content.Content.{Content}
use Rattle.ref_rules.specs.declared.content.Content.TheVariants.{Host, Node, ScratchRoot}
use Rattle.ref_host_calls.specs.declared.offers.Folder.{Folder}
use Rattle.ref_host_calls.specs.declared.offers.Folder.TheVariants.{Theirs, Root, Scratch}

abbrev pub stands_for : Folder → Content
stands_for (Theirs id) = Host id
stands_for (Root place) = Node place
stands_for Scratch = ScratchRoot

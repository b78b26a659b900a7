-- What code knows of its state, so that what rows read of it is sound.
use Rattle.std.specs.Prelude.{ℕ, ◌<◌, ◌^◌, List, length, Option}
use Rattle.policy_data.specs.declared.policy.Policy.{Policy}
use Rattle.tree_table.specs.declared.entries.NamedTree.{NamedTree}
use Rattle.tree_table.specs.Scratches.{ScratchMap, content_at}
use Rattle.tree_table.specs.Tables.{Forest, Holds, count_of, content_of, node_of}
use Rattle.tree_table.specs.Trees.{AreTrees}
use Rattle.reference_step.specs.Handles as reference
use Rattle.reference_step.specs.State.{View}
use Rattle.ref_rules.specs.declared.content.Handle.{Handle}
use Rattle.ref_answers.specs.Seen.{live_in}
use Rattle.ref_virtual.specs.Held.{AreInside}
use Rattle.ref_virtual.specs.Known.{AreOpen}
use Rattle.reference_host.specs.Sound.{AreFileBytes, IsSound}
use Rattle.reference_host.specs.Words.{HasWords}

-- the policy; the trees and their table; the scratch folder; and the live handles
pub record AreParts (policy : Policy) (trees : List NamedTree) (f : Forest) (m : ScratchMap) (handles : List (Option Handle)) : Type 0 where
  pub words : HasWords policy
  pub sorted : AreTrees trees
  pub holds : Holds trees f
  -- what files and links of the table hold, and files of the folder
  pub contents : (node : ℕ) → AreFileBytes (content_of (node_of f node))
  pub files : (number : ℕ) → AreFileBytes (content_at m number)
  pub numbers : length m.files < 2 ^ 64
  -- each node that a live handle stands for is one of the table, and each scratch file that one holds open is there
  pub nodes : AreInside (count_of f) handles
  pub open_files : AreOpen m handles

abbrev pub seen_view : Policy → List NamedTree → Forest → ScratchMap → List (Option Handle) → View
seen_view policy trees f m handles =
    record { policy = policy; trees = trees; scratch = m; content = reference.content_of (live_in f handles); held = reference.is_held (live_in f handles) }

abbrev pub ViewsAreSound : Type 0
ViewsAreSound = (policy : Policy) (trees : List NamedTree) (f : Forest) (m : ScratchMap) (handles : List (Option Handle)) → AreParts policy trees f m handles → IsSound (seen_view policy trees f m handles)

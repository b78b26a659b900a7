-- What integers of answers ask of what rows read: where the numbers that the policy, the trees, the scratch folder and the live
-- handles give are within their words.
use Rattle.std.specs.Prelude.{ℕ, ◌+◌, ◌<◌, ◌^◌, List, length, All, Option, Some}
use Rattle.policy_data.specs.declared.data.WallClock.{WallClock}
use Rattle.policy_data.specs.declared.data.WallClock.TheVariants.{Fixed as FixedWall}
use Rattle.tree_table.specs.declared.entries.Node.{Node as TreeNode}
use Rattle.tree_table.specs.declared.entries.Node.TheVariants.{File, Link}
use Rattle.tree_table.specs.Paths.{Path}
use Rattle.tree_table.specs.Trees.{entries_of}
use Rattle.tree_table.specs.Scratches.{content_at}
use Rattle.reference_step.specs.Clocks.{instant}
use Rattle.reference_step.specs.Handles.{Content, DirectoryEntry, Node, Entries, ScratchFile}
use Rattle.reference_step.specs.Nodes.{node_at}
use Rattle.reference_step.specs.State.{View}

-- numbers below 256, as many as 64 bits can count
pub record AreFileBytes (content : List ℕ) : Type 0 where
  pub bytes : All (λ b. b < 256) content
  pub count : length content < 2 ^ 64

abbrev pub IsSoundNode : Option TreeNode → Type 0
IsSoundNode (Some (File content)) = AreFileBytes content
IsSoundNode (Some (Link target)) = length target < 2 ^ 64
IsSoundNode _ = Unit {0}

-- seconds of 64 bits, and nanoseconds of 32
abbrev pub IsSoundClock : WallClock → Type 0
IsSoundClock (FixedWall t) = (t.seconds < 2 ^ 64) × (t.nanoseconds < 2 ^ 32)
IsSoundClock _ = Unit {0}

-- the type is a case of the enum descriptor-type
abbrev pub IsSoundEntry : DirectoryEntry → Type 0
IsSoundEntry e = e.ty < 8

-- The numbers of trees and of scratch files are hashed, one above what they are.
abbrev pub IsSoundContent : Content → Type 0
IsSoundContent (Node tree path) = tree + 1 < 2 ^ 64
IsSoundContent (ScratchFile number may_write) = number + 1 < 2 ^ 64
IsSoundContent (Entries rest) = All IsSoundEntry rest
IsSoundContent _ = Unit {0}

pub record IsSound (v : View) : Type 0 where
  -- the transfer limit has 32 bits, so no list of arguments is longer
  pub limit : v.policy.transfer_limit < 2 ^ 32
  pub wall : IsSoundClock v.policy.clocks_wall
  pub monotonic : instant v.policy.clocks_monotonic < 2 ^ 64
  -- trees and their entries can be counted, the scratch folder as one tree more
  pub trees : length v.trees + 1 < 2 ^ 64
  pub entries : (tree : ℕ) → length (entries_of v.trees tree) < 2 ^ 64
  pub nodes : (tree : ℕ) (path : Path) → IsSoundNode (node_at v.trees tree path)
  -- so can the scratch folder's files, and each has bytes
  pub numbers : length v.scratch.files < 2 ^ 64
  pub files : (number : ℕ) → AreFileBytes (content_at v.scratch number)
  pub contents : (id : ℕ) → IsSoundContent (v.content id)

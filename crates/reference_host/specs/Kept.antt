-- What the reference host keeps, as the definition has it, and what holds of it.
use Rattle.std.specs.Prelude.{◌≡◌, ℕ, ◌<◌, ◌^◌, List, length, Option, Some, None, IsUtf8, slice_get}
use Rattle.policy_data.specs.declared.data.Scratch.{Scratch}
use Rattle.tree_table.specs.declared.entries.Entry.{Entry}
use Rattle.tree_table.specs.declared.entries.NamedTree.{NamedTree}
use Rattle.tree_table.specs.declared.entries.Node.TheVariants.{Link}
use Rattle.tree_table.specs.Tables.{Holds, count_of}
use Rattle.tree_table.specs.Trees.{AreTrees, entries_of}
use Rattle.reference_step.specs.State.{Setup, Reference}
use Rattle.ref_answers.specs.Versions.{version_in}
use Rattle.ref_answers.specs.Seen.{live_in}
use Rattle.ref_guards.specs.Contents.{Fits}
use Rattle.ref_virtual.specs.Views.{AreTexts}
use Rattle.ref_virtual.specs.Held.{AreInside}
use Rattle.ref_virtual.specs.Known.{AreOpen}
use Rattle.reference_host.specs.declared.state_kept.Setting.{Setting}
use Rattle.reference_host.specs.declared.state_kept.Holding.{Holding}

abbrev pub setup_of : Setting → Setup
setup_of g = record { policy = g.policy; trees = g.trees; version = version_in g.listed }

-- a state of the reference host over a state of the host that is asked
abbrev pub reference_at : {S : Type 0} → Setting → Holding → S → Reference S
reference_at g h inner = record { setup = setup_of g; live = live_in g.table h.live.handles; scratch = h.folder; inner = inner }

-- how many files may be in the scratch folder
abbrev pub file_limit : Option Scratch → ℕ
file_limit None = 0
file_limit (Some scratch) = scratch.files

-- what links of trees lead to is text
abbrev pub LeadToTexts : List NamedTree → Type 0
LeadToTexts trees = (t i : ℕ) (e : Entry) (target : List ℕ) → slice_get (entries_of trees t) i ≡ Some e → e.node ≡ Link target → IsUtf8 target

-- the table has the nodes of the trees
pub record IsSetting (g : Setting) : Type 0 where
  pub slots : g.policy.slots < 2 ^ 16
  pub trees : AreTrees g.trees
  pub holds : Holds g.trees g.table
  pub texts : AreTexts g.table

-- The live handles have as many places as the policy says. Each node that one stands for is one of the table, and each scratch file
-- that one holds open is there.
pub record IsHolding (g : Setting) (h : Holding) : Type 0 where
  pub slots : h.live.slots ≡ g.policy.slots
  pub files : length h.folder.files ≡ file_limit g.policy.fs_scratch
  pub held_files : length h.folder.files ≡ h.live.files
  pub fits : Fits h.live
  pub nodes : AreInside (count_of g.table) h.live.handles
  pub held_there : AreOpen h.folder h.live.handles

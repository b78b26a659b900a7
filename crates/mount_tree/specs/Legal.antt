-- The limits that the entries of trees keep.
use Rattle.std.specs.Prelude.{◌≡◌, ◌≤◌, ◌⊎◌, ℕ, List, [], Bool, true, not, ◌&&◌, All, IsUtf8, length}
use Rattle.tree_table.specs.declared.entries.Node.{Node}
use Rattle.tree_table.specs.declared.entries.Node.TheVariants.{Folder, File, Link}
use Rattle.tree_table.specs.declared.entries.Entry.{Entry}
use Rattle.path_names.specs.Parts.{holds_byte}
use Rattle.path_names.specs.Paths.{is_name, is_path, is_target, names_of}
use Rattle.policy_data.specs.declared.data.Embedded.{Embedded}
use Rattle.policy_data.specs.declared.data.TreeContent.{TreeContent}
use Rattle.policy_data.specs.declared.data.TreeContent.TheVariants.{Mount, Embedded as Written}
use Rattle.policy_data.specs.declared.data.TreeSource.{TreeSource}

-- a legal name without `/`
abbrev pub is_entry_name : List ℕ → Bool
is_entry_name name = is_name name && not (holds_byte 47 name)

abbrev pub AreNames : List (List ℕ) → Type 0
AreNames names = All (λ name. is_entry_name name ≡ true) names

-- what a link may lead to, in UTF-8
abbrev pub IsLinkTarget : List ℕ → Type 0
IsLinkTarget target = (is_target target ≡ true) × IsUtf8 target

abbrev pub KeepsNode : Node → Type 0
KeepsNode Folder = Unit {0}
KeepsNode (File bytes) = Unit {0}
KeepsNode (Link target) = IsLinkTarget target

-- legal names, at most 64 in a path, and a target that a link may have, in UTF-8
pub record IsLegal (entry : Entry) : Type 0 where
  pub names : AreNames entry.path
  pub few : length entry.path ≤ 64
  pub kept : KeepsNode entry.node

abbrev pub AreLegal : List Entry → Type 0
AreLegal there = All IsLegal there

-- ---- what is handed in

-- a path of legal names, at most 64
pub record IsPlace (path : List ℕ) : Type 0 where
  pub legal : is_path path ≡ true
  pub few : length (names_of path) ≤ 64

-- a folder or a link
abbrev pub IsOther : Node → Type 0
IsOther Folder = Unit {0}
IsOther (File bytes) = ⊥
IsOther (Link target) = IsLinkTarget target

-- the path of a folder, which is empty for the root
abbrev pub IsFolderPath : List ℕ → Type 0
IsFolderPath path = (path ≡ []) ⊎ (is_path path ≡ true)

-- the paths and targets that a policy writes out
pub record ArePaths (embedded : Embedded) : Type 0 where
  pub files : All (λ file. is_path file.path ≡ true) embedded.files
  pub folders : All (λ folder. is_path folder ≡ true) embedded.folders
  pub links : All (λ link. (is_path link.path ≡ true) × (is_target link.target ≡ true)) embedded.links

abbrev pub IsContent : TreeContent → Type 0
IsContent (Mount folder) = Unit {0}
IsContent (Written embedded) = ArePaths embedded

abbrev pub IsSource : TreeSource → Type 0
IsSource source = IsContent source.content

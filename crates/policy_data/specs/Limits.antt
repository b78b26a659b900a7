-- The limits and checks of a policy's text, in words of the policy that the text stands for.
use Rattle.std.specs.Prelude.{◌≡◌, ℕ, ◌<◌, ◌≤◌, List, [], ◌∷◌, ◌++◌, Bool, true, false, not, ◌&&◌, All, Option, Some, None, length, map, if◌then◌else◌}
use Rattle.std.specs.List.{list_any}
use Rattle.std.specs.Str.{bytes_eq}
use Rattle.path_names.specs.Parts.{holds_byte}
use Rattle.path_names.specs.Paths.{Placed, clashes, is_path, is_target}
use Rattle.policy_data.specs.declared.data.Variable.{Variable}
use Rattle.policy_data.specs.declared.data.Arguments.{Arguments}
use Rattle.policy_data.specs.declared.data.Arguments.TheVariants.{Given}
use Rattle.policy_data.specs.declared.data.WorkingDirectory.{WorkingDirectory}
use Rattle.policy_data.specs.declared.data.WorkingDirectory.TheVariants.{Given as GivenFolder}
use Rattle.policy_data.specs.declared.data.WallClock.{WallClock}
use Rattle.policy_data.specs.declared.data.WallClock.TheVariants.{Fixed}
use Rattle.policy_data.specs.declared.data.Pass.{Pass}
use Rattle.policy_data.specs.declared.data.EmbeddedFile.{EmbeddedFile}
use Rattle.policy_data.specs.declared.data.Link.{Link}
use Rattle.policy_data.specs.declared.data.Embedded.{Embedded}
use Rattle.policy_data.specs.declared.data.TreeContent.{TreeContent}
use Rattle.policy_data.specs.declared.data.TreeContent.TheVariants.{Mount, Embedded as Written}
use Rattle.policy_data.specs.declared.data.TreeSource.{TreeSource}
use Rattle.policy_data.specs.declared.data.Scratch.{Scratch}
use Rattle.policy_data.specs.declared.data.PortRange.{PortRange}
use Rattle.policy_data.specs.declared.data.Rule.{Rule}
use Rattle.policy_data.specs.declared.data.NetRules.{NetRules}
use Rattle.policy_data.specs.declared.words.Version.{Version}
use Rattle.policy_data.specs.declared.words.Version.TheVariants.{One}
use Rattle.policy_data.specs.declared.words.HostFiles.TheVariants.{All as AllFiles}
use Rattle.policy_data.specs.declared.words.Sockets.TheVariants.{Rules}
use Rattle.policy_data.specs.declared.policy.Policy.{Policy}

-- no item meets one before it, nor one of those that are there
abbrev pub each_apart : {A : Type 0} → (A → A → Bool) → List A → List A → Bool
each_apart meets there [] = true
each_apart meets there (x ∷ xs) = not (list_any (meets x) there) && each_apart meets (there ++ x ∷ []) xs

-- ---- the environment

-- without NUL
abbrev pub IsPlain : List ℕ → Type 0
IsPlain text = holds_byte 0 text ≡ false

-- a name that a variable may have: not empty, without NUL and `=`
pub record IsVariableName (name : List ℕ) : Type 0 where
  pub some : 0 < length name
  pub no_nul : holds_byte 0 name ≡ false
  pub no_equals : holds_byte 61 name ≡ false

abbrev pub IsVariable : Variable → Type 0
IsVariable variable = IsVariableName variable.name × IsPlain variable.value

abbrev pub KeepsArguments : Arguments → Type 0
KeepsArguments (Given texts) = (length texts ≤ 1024) × All IsPlain texts
KeepsArguments _ = Unit {0}

abbrev pub KeepsFolder : WorkingDirectory → Type 0
KeepsFolder (GivenFolder text) = IsPlain text
KeepsFolder _ = Unit {0}

-- ---- the clock

abbrev pub KeepsWall : WallClock → Type 0
KeepsWall (Fixed time) = time.nanoseconds ≤ 999999999
KeepsWall _ = Unit {0}

-- ---- trees

abbrev pub file_placed : EmbeddedFile → Placed
file_placed file = record { path = file.path; leaf = true }

abbrev pub folder_placed : List ℕ → Placed
folder_placed folder = record { path = folder; leaf = false }

abbrev pub link_placed : Link → Placed
link_placed link = record { path = link.path; leaf = true }

-- what a policy writes out of a tree
pub record KeepsEmbedded (version : Version) (embedded : Embedded) : Type 0 where
  pub files : All (λ file. is_path file.path ≡ true) embedded.files
  pub folders : All (λ folder. is_path folder ≡ true) embedded.folders
  pub links : All (λ link. (is_path link.path ≡ true) × (is_target link.target ≡ true)) embedded.links
  -- no path is two of a file, a folder and a link, and nothing lies in a file or a link
  pub clear : each_apart clashes [] (map file_placed embedded.files ++ (map folder_placed embedded.folders ++ map link_placed embedded.links)) ≡ true
  -- the first version has no links
  pub no_links : version ≡ One → embedded.links ≡ []

abbrev pub KeepsContent : Version → TreeContent → Type 0
KeepsContent version (Mount folder) = Unit {0}
KeepsContent version (Written embedded) = KeepsEmbedded version embedded

abbrev pub KeepsTree : Version → TreeSource → Type 0
KeepsTree version tree = KeepsContent version tree.content

-- ---- all folders

abbrev pub KeepsScratch : Option Scratch → Type 0
KeepsScratch None = Unit {0}
KeepsScratch (Some scratch) = ((1 ≤ scratch.blocks) × (scratch.blocks ≤ 8192)) × ((1 ≤ scratch.files) × (scratch.files ≤ 256))

abbrev pub shown_names : List Pass → List (List ℕ)
shown_names passes = map (λ pass. pass.shown) passes

abbrev pub tree_names : List TreeSource → List (List ℕ)
tree_names trees = map (λ tree. tree.name) trees

abbrev pub scratch_names : Option Scratch → List (List ℕ)
scratch_names None = []
scratch_names (Some scratch) = scratch.name ∷ []

-- the names under which an application sees folders
abbrev pub folder_names : Policy → List (List ℕ)
folder_names policy = (shown_names policy.fs_pass ++ tree_names policy.fs_tree) ++ scratch_names policy.fs_scratch

-- ---- rules on addresses

-- the numbers of an address, four of 0 to 255 or eight of 0 to 65535, and how many of its bits count
abbrev pub KeepsNetwork : Bool → List ℕ → ℕ → Type 0
KeepsNetwork six numbers n =
    (length numbers ≡ (if six then 8 else 4)) × All (λ number. number < (if six then 65536 else 256)) numbers × (n ≤ (if six then 128 else 32))

abbrev pub KeepsRange : PortRange → Type 0
KeepsRange range = (range.from ≤ range.to) × (range.to ≤ 65535)

pub record KeepsRule (rule : Rule) : Type 0 where
  pub network : KeepsNetwork rule.six rule.numbers rule.length
  pub some : 1 ≤ length rule.ports
  pub few : length rule.ports ≤ 64
  pub ports : All KeepsRange rule.ports

abbrev pub KeepsRules : List Rule → Type 0
KeepsRules rules = (length rules ≤ 256) × All KeepsRule rules

pub record KeepsNet (net : NetRules) : Type 0 where
  pub connect : KeepsRules net.connect
  pub bind : KeepsRules net.bind

-- without any rule
pub record IsWithoutRules (net : NetRules) : Type 0 where
  pub connect : net.connect ≡ []
  pub bind : net.bind ≡ []
  pub names : net.names ≡ false

-- ---- a policy

pub record KeepsLimits (policy : Policy) : Type 0 where
  pub transfer_limit : (65536 ≤ policy.transfer_limit) × (policy.transfer_limit ≤ 67108864)
  pub slots : (1 ≤ policy.slots) × (policy.slots ≤ 4096)
  pub env_allow : (length policy.env_allow ≤ 1024) × All IsVariableName policy.env_allow
  pub env_set : (length policy.env_set ≤ 1024) × All IsVariable policy.env_set
  pub env_arguments : KeepsArguments policy.env_arguments
  pub env_cwd : KeepsFolder policy.env_cwd
  pub clocks_wall : KeepsWall policy.clocks_wall
  -- beside all folders of the host none is passed by name
  pub fs_host : policy.fs_host ≡ AllFiles → policy.fs_pass ≡ []
  pub fs_pass : length policy.fs_pass ≤ 64
  pub fs_tree : (length policy.fs_tree ≤ 64) × All (KeepsTree policy.version) policy.fs_tree
  pub fs_scratch : KeepsScratch policy.fs_scratch
  -- each folder has a name of its own
  pub fs_names : each_apart bytes_eq [] (folder_names policy) ≡ true
  pub net : KeepsNet policy.net
  -- there are rules only where the sockets go by rules
  pub no_rules : ¬ (policy.sockets ≡ Rules) → IsWithoutRules policy.net

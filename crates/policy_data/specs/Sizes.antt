-- How many bytes the strings and embedded files of a policy have together.
use Rattle.std.specs.Prelude.{ℕ, ◌+◌, List, length, Option, Some, None}
use Rattle.std.specs.List.{sum_by}
use Rattle.policy_data.specs.declared.data.Variable.{Variable}
use Rattle.policy_data.specs.declared.data.Arguments.{Arguments}
use Rattle.policy_data.specs.declared.data.Arguments.TheVariants.{Given}
use Rattle.policy_data.specs.declared.data.WorkingDirectory.{WorkingDirectory}
use Rattle.policy_data.specs.declared.data.WorkingDirectory.TheVariants.{Given as GivenFolder}
use Rattle.policy_data.specs.declared.data.Pass.{Pass}
use Rattle.policy_data.specs.declared.data.Content.{Content}
use Rattle.policy_data.specs.declared.data.Content.TheVariants.{Bytes, File}
use Rattle.policy_data.specs.declared.data.EmbeddedFile.{EmbeddedFile}
use Rattle.policy_data.specs.declared.data.Link.{Link}
use Rattle.policy_data.specs.declared.data.Embedded.{Embedded}
use Rattle.policy_data.specs.declared.data.TreeContent.{TreeContent}
use Rattle.policy_data.specs.declared.data.TreeContent.TheVariants.{Mount, Embedded as Written}
use Rattle.policy_data.specs.declared.data.TreeSource.{TreeSource}
use Rattle.policy_data.specs.declared.data.Scratch.{Scratch}
use Rattle.policy_data.specs.declared.policy.Policy.{Policy}

abbrev pub texts_size : List (List ℕ) → ℕ
texts_size texts = sum_by length texts

-- ---- the environment

abbrev pub variable_size : Variable → ℕ
variable_size variable = length variable.name + length variable.value

abbrev pub arguments_size : Arguments → ℕ
arguments_size (Given texts) = texts_size texts
arguments_size _ = 0

abbrev pub cwd_size : WorkingDirectory → ℕ
cwd_size (GivenFolder text) = length text
cwd_size _ = 0

-- ---- files

abbrev pub pass_size : Pass → ℕ
pass_size pass = length pass.host + length pass.shown

abbrev pub content_size : Content → ℕ
content_size (Bytes bytes) = length bytes
content_size (File name) = length name

abbrev pub file_size : EmbeddedFile → ℕ
file_size file = length file.path + content_size file.content

abbrev pub link_size : Link → ℕ
link_size link = length link.path + length link.target

abbrev pub embedded_size : Embedded → ℕ
embedded_size embedded = sum_by file_size embedded.files + (texts_size embedded.folders + sum_by link_size embedded.links)

abbrev pub tree_content_size : TreeContent → ℕ
tree_content_size (Mount folder) = length folder
tree_content_size (Written embedded) = embedded_size embedded

abbrev pub tree_size : TreeSource → ℕ
tree_size tree = length tree.name + tree_content_size tree.content

abbrev pub scratch_size : Option Scratch → ℕ
scratch_size None = 0
scratch_size (Some scratch) = length scratch.name

-- ---- a policy

abbrev pub environment_size : Policy → ℕ
environment_size policy =
    texts_size policy.env_allow + (sum_by variable_size policy.env_set + (arguments_size policy.env_arguments + cwd_size policy.env_cwd))

abbrev pub files_size : Policy → ℕ
files_size policy = sum_by pass_size policy.fs_pass + (sum_by tree_size policy.fs_tree + scratch_size policy.fs_scratch)

-- its strings and the bytes of its embedded files
abbrev pub policy_size : Policy → ℕ
policy_size policy = environment_size policy + files_size policy

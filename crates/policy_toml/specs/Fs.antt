-- The table `fs`.
use Rattle.std.specs.Prelude.{ℕ, List, [], ◌∷◌, ◌++◌, Bool, true, false, Option, Some, None, Result, Ok, Err, length, codes, if◌then◌else◌}
use Rattle.toml.specs.Data.{Data, array, no_items, Members, get_member}
use Rattle.policy_data.specs.declared.fault.ReadPolicyFault.{ReadPolicyFault}
use Rattle.policy_data.specs.declared.fault.ReadPolicyFault.TheVariants.{BadValue}
use Rattle.policy_data.specs.declared.words.Version.{Version}
use Rattle.policy_data.specs.declared.words.HostFiles.{HostFiles}
use Rattle.policy_data.specs.declared.words.HostFiles.TheVariants.{All, Deny}
use Rattle.policy_data.specs.declared.data.Pass.{Pass}
use Rattle.policy_data.specs.declared.data.Scratch.{Scratch}
pub use Rattle.policy_data.specs.Limits.{shown_names}
use Rattle.policy_toml.specs.declared.fs.Fs.{Fs}
use Rattle.policy_toml.specs.Reading.{and_then}
use Rattle.policy_toml.specs.Keys.{below, nth, optional, required, table_in}
use Rattle.policy_toml.specs.Values.{any_text, list_in, number_in, word_in}
use Rattle.policy_data.specs.Words.{host_files_named}
use Rattle.policy_toml.specs.Trees.{new_name, tree_at, tree_names}

-- ---- passed folders

abbrev pub pass_keys : List (List ℕ)
pass_keys = codes "host" ∷ codes "as" ∷ []

abbrev pub pass_of : List Pass → List ℕ → Members → Result Pass ReadPolicyFault
pass_of seen path ms = and_then (required path (codes "host") any_text ms)
    (λ host. and_then (required path (codes "as") (new_name (shown_names seen)) ms)
    (λ shown. Ok (record { host = host; shown = shown })))

abbrev pub pass_at : List ℕ → List Pass → Data → Result Pass ReadPolicyFault
pass_at path seen d = table_in pass_keys (pass_of seen) (nth path (length seen)) d

-- beside all folders of the host none is passed by name
abbrev pub passes_none : Option Data → Bool
passes_none None = true
passes_none (Some (array no_items)) = true
passes_none (Some d) = false

abbrev pub none_passed : List ℕ → HostFiles → Option Data → Result (Unit {0}) ReadPolicyFault
none_passed path Deny d = Ok tt
none_passed path All d = if passes_none d then Ok tt else Err (BadValue path)

-- the host's folders that are seen, and those that are passed by name
abbrev pub host_of : List ℕ → Members → Result HostFiles ReadPolicyFault
host_of path ms = and_then (optional path (codes "host") Deny (word_in host_files_named) ms)
    (λ host. and_then (none_passed (below path (codes "pass")) host (get_member (codes "pass") ms)) (λ _. Ok host))

-- ---- the scratch folder

abbrev pub scratch_keys : List (List ℕ)
scratch_keys = codes "name" ∷ codes "blocks" ∷ codes "files" ∷ []

abbrev pub scratch_of : List (List ℕ) → List ℕ → Members → Result Scratch ReadPolicyFault
scratch_of taken path ms = and_then (required path (codes "name") (new_name taken) ms)
    (λ name. and_then (required path (codes "blocks") (number_in 1 8192) ms)
    (λ blocks. and_then (required path (codes "files") (number_in 1 256) ms)
    (λ files. Ok (record { name = name; blocks = blocks; files = files }))))

abbrev pub scratch_in : List (List ℕ) → List ℕ → Data → Result (Option Scratch) ReadPolicyFault
scratch_in taken path d = and_then (table_in scratch_keys (scratch_of taken) path d) (λ scratch. Ok (Some scratch))

-- ---- the whole table

abbrev pub fs_keys : List (List ℕ)
fs_keys = codes "host" ∷ codes "pass" ∷ codes "tree" ∷ codes "scratch" ∷ []

abbrev pub fs_of : Version → List ℕ → Members → Result Fs ReadPolicyFault
fs_of version path ms = and_then (host_of path ms)
    (λ host. and_then (optional path (codes "pass") [] (list_in 64 pass_at) ms)
    (λ pass. and_then (optional path (codes "tree") [] (list_in 64 (tree_at version (shown_names pass))) ms)
    (λ tree. and_then (optional path (codes "scratch") None (scratch_in (shown_names pass ++ tree_names tree)) ms)
    (λ scratch. Ok (record { host = host; pass = pass; tree = tree; scratch = scratch })))))

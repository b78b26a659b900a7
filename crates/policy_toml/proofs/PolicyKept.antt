-- A policy keeps the limits and checks of its text, table by table.
use Rattle.std.proofs.Common.{◌≡◌, refl, subst, ℕ, suc, ◌+◌, ◌*◌, ◌-◌, ◌<◌, ◌≤◌, List, [], ◌∷◌, ◌++◌, Bool, true, false, not, length, map, Option, Some, None, Result, Ok, Err, arith}
use Rattle.std.specs.Prelude.{codes, ◌&&◌, ◌||◌, ◌==◌, All, IfOk, IfSome, nat_lt, nat_le, if◌then◌else◌, option_and_then}
use Rattle.std.specs.List.{list_any}
use Rattle.std.specs.Str.{bytes_eq}
use Rattle.std.proofs.lemmas.Bool.{and_parts, false≢true}
use Rattle.std.proofs.lemmas.Bool.Decides.{nat_tests}
use Rattle.std.proofs.lemmas.List.Elements.{All-nil, All-cons, All-push}
use Rattle.toml.specs.Data.{Data, string, integer, float, boolean, datetime, array, table, Items, no_items, item, Members, no_members, get_member}
use Rattle.path_names.specs.Parts.{cut, holds_byte, parts_of}
use Rattle.path_names.specs.Paths.{Placed, clashes, is_path, is_target}
use Rattle.policy_data.specs.declared.fault.ReadPolicyFault.{ReadPolicyFault}
use Rattle.policy_data.specs.declared.fault.ReadPolicyFault.TheVariants.{BadName, BadValue, OverLimit}
use Rattle.policy_data.specs.declared.words.Version.{Version}
use Rattle.policy_data.specs.declared.words.Version.TheVariants.{One, Two}
use Rattle.policy_data.specs.declared.words.HostFiles.{HostFiles}
use Rattle.policy_data.specs.declared.words.HostFiles.TheVariants.{All as AllFiles, Deny as NoFiles}
use Rattle.policy_data.specs.declared.words.Sockets.{Sockets}
use Rattle.policy_data.specs.declared.words.Sockets.TheVariants.{Allow as AllSockets, Deny as NoSockets, Rules}
use Rattle.policy_data.specs.declared.data.Arguments.TheVariants.{Deny as NoArguments, Given}
use Rattle.policy_data.specs.declared.data.WorkingDirectory.TheVariants.{Deny as NoCwd, Given as GivenFolder}
use Rattle.policy_data.specs.declared.data.WallClock.TheVariants.{Allow as HostWall, Deny as NoWall, Fixed}
use Rattle.policy_data.specs.declared.data.MonotonicClock.TheVariants.{Deny as NoMonotonic}
use Rattle.policy_data.specs.declared.data.WallTime.{WallTime}
use Rattle.policy_data.specs.declared.data.Pass.{Pass}
use Rattle.policy_data.specs.declared.data.EmbeddedFile.{EmbeddedFile}
use Rattle.policy_data.specs.declared.data.Link.{Link}
use Rattle.policy_data.specs.declared.data.TreeSource.{TreeSource}
use Rattle.policy_data.specs.declared.data.Scratch.{Scratch}
use Rattle.policy_data.specs.declared.data.Network.{Network}
use Rattle.policy_data.specs.declared.data.PortRange.{PortRange}
use Rattle.policy_data.specs.declared.data.NetRules.{NetRules}
use Rattle.policy_data.specs.declared.policy.Policy.{Policy}
use Rattle.policy_data.specs.Limits.{each_apart, IsPlain, IsVariableName, IsVariable, KeepsArguments, KeepsFolder, KeepsWall, KeepsEmbedded, KeepsContent, KeepsTree, KeepsScratch, KeepsNetwork, KeepsRange, KeepsRule, KeepsRules, KeepsNet, IsWithoutRules, KeepsLimits, scratch_names}
use Rattle.policy_text.specs.Networks.{all_numbers, address_of, decimal_of, digits_behind, group_digit, network_at, network_by, network_cut, network_of, number_of, so_many, upto}
use Rattle.policy_toml.specs.declared.env.Env.{Env}
use Rattle.policy_toml.specs.declared.fs.Fs.{Fs}
use Rattle.policy_toml.specs.declared.top.Limits.{Limits}
use Rattle.policy_toml.specs.declared.clocks.Clocks.{Clocks}
use Rattle.policy_toml.specs.declared.policy.Front.{Front}
use Rattle.policy_toml.specs.declared.policy.Back.{Back}
use Rattle.policy_toml.specs.Reading.{Gives, and_then, each_item, each_member}
use Rattle.policy_toml.specs.Keys.{below, nth, is_known, value_or, key_fault, first_unknown, known_keys, optional, required, table_in, part}
use Rattle.policy_toml.specs.Values.{choice_of, any_text, text_such, is_plain, is_variable, member_count, item_count, each, list_in, number_in, boolean_in, natural}
use Rattle.policy_toml.specs.Environment.{env_keys, variable_of, variables_in, arguments_in, cwd_in, env_of}
use Rattle.policy_toml.specs.Contents.{content_keys, content_of}
use Rattle.policy_toml.specs.Trees.{placed_at, file_placed, file_of, file_at, files_in, folder_placed, folder_of, folder_at, folders_in, target_in, link_placed, link_of, link_at, links_in, embedded_of, absent, content_by, tree_keys, new_name, tree_of, tree_names, tree_at}
use Rattle.policy_toml.specs.Fs.{pass_keys, shown_names, pass_of, pass_at, passes_none, none_passed, host_of, scratch_keys, scratch_of, scratch_in, fs_keys, fs_of}
use Rattle.policy_toml.specs.Stdio.{stdio_keys, stdio_of}
use Rattle.policy_toml.specs.Clocks.{time_keys, time_of, wall_in, monotonic_in, clocks_keys, clocks_of}
use Rattle.policy_toml.specs.Top.{version_in, limits_of, access_of}
use Rattle.policy_toml.specs.Net.{range_of, range_keys, port_in, ports_in, all_ports, network_in, rule_keys, rule_of, rules_in, net_keys, net_of, net_for, net_at}
use Rattle.policy_toml.specs.Policy.{top_keys, front_of, back_of, policy_of}
use Rattle.policy_toml.proofs.Keeping.{Keeps, Reads, ReadsFields, keeps_then, keeps_after, keeps_weaker, keeps_always, keeps_both, optional_keeps, optional_absent, required_keeps, table_in_keeps, part_keeps, unknown_absent, number_keeps, text_such_keeps, members_keep, members_count, items_keep, items_count, list_in_keeps, each_keeps, apart_append, map_more, not_true}

-- ---- numbers

limits_keep : (ms : Members) → Keeps (λ (l : Limits). ((65536 ≤ l.transfer_limit) × (l.transfer_limit ≤ 67108864)) × ((1 ≤ l.slots) × (l.slots ≤ 4096))) (limits_of ms)
limits_keep ms =
    let P : Limits → Type 0 = λ l. ((65536 ≤ l.transfer_limit) × (l.transfer_limit ≤ 67108864)) × ((1 ≤ l.slots) × (l.slots ≤ 4096)) in
    keeps_after P (optional [] (codes "version") One version_in ms) _ (λ version.
    keeps_after P _ _ (λ deny.
    keeps_then (λ n. (65536 ≤ n) × (n ≤ 67108864)) P (optional [] (codes "transfer-limit") 16777216 (number_in 65536 67108864) ms) _
    (optional_keeps (λ n. (65536 ≤ n) × (n ≤ 67108864)) [] (codes "transfer-limit") 16777216 (number_in 65536 67108864) ms (omega arith, omega arith) (number_keeps 65536 67108864)) (λ transfer h1.
    keeps_then (λ n. (1 ≤ n) × (n ≤ 4096)) P (optional [] (codes "slots") 256 (number_in 1 4096) ms) _
    (optional_keeps (λ n. (1 ≤ n) × (n ≤ 4096)) [] (codes "slots") 256 (number_in 1 4096) ms (omega arith, omega arith) (number_keeps 1 4096)) (λ slots h2. (h1, h2)))))

-- ---- the environment

plain_keeps : Reads IsPlain (text_such is_plain)
plain_keeps path d = keeps_weaker (λ t. is_plain t ≡ true) IsPlain (text_such is_plain path d) (λ t h. not_true (holds_byte 0 t) h) (text_such_keeps is_plain path d)

variable_name : (name : List ℕ) → is_variable name ≡ true → IsVariableName name
variable_name name h =
    let (some, rest) = and_parts (not (length name == 0)) (not (holds_byte 0 name) && not (holds_byte 61 name)) h in
    let (no_nul, no_equals) = and_parts (not (holds_byte 0 name)) (not (holds_byte 61 name)) rest in
    record { some = grind (arith, nat_tests, some); no_nul = not_true (holds_byte 0 name) no_nul; no_equals = not_true (holds_byte 61 name) no_equals }

name_keeps : Reads IsVariableName (text_such is_variable)
name_keeps path d = keeps_weaker (λ t. is_variable t ≡ true) IsVariableName (text_such is_variable path d) variable_name (text_such_keeps is_variable path d)

variable_by : (b : Bool) (path name : List ℕ) (d : Data) → is_variable name ≡ b
    → Keeps IsVariable (if b then and_then (text_such is_plain path d) (λ value. Ok (record { name = name; value = value })) else Err (BadValue path))
variable_by true path name d e = keeps_then IsPlain IsVariable (text_such is_plain path d) _ (plain_keeps path d) (λ value h. (variable_name name e, h))
variable_by false path name d e = tt

variables_by : (b : Bool) (path : List ℕ) (ms : Members) → nat_lt 1024 (member_count ms) ≡ b
    → Keeps (λ vs. (length vs ≤ 1024) × All IsVariable vs) (if b then Err (OverLimit path (member_count ms)) else each_member (variable_of path) [] ms)
variables_by true path ms e = tt
variables_by false path ms e =
    let few : member_count ms ≤ 1024 = grind (arith, nat_tests, e) in
    keeps_both (λ vs. length vs ≤ 1024) (All IsVariable) (each_member (variable_of path) [] ms)
    (keeps_weaker (λ vs. length vs ≡ 0 + member_count ms) (λ vs. length vs ≤ 1024) (each_member (variable_of path) [] ms) (λ vs h. omega (arith, h, few)) (members_count (variable_of path) [] ms))
    (members_keep (All IsVariable) (variable_of path)
    (λ seen key d h. keeps_weaker IsVariable (λ v. All IsVariable (seen ++ v ∷ [])) (variable_of path seen key d) (λ v k. All-push IsVariable seen v h k)
    (variable_by (is_variable key) (below path key) key d refl)) [] ms (All-nil IsVariable))

variables_keep : Reads (λ vs. (length vs ≤ 1024) × All IsVariable vs) variables_in
variables_keep path (table ms) = variables_by (nat_lt 1024 (member_count ms)) path ms refl
variables_keep path (string text) = tt
variables_keep path (integer z) = tt
variables_keep path (float x) = tt
variables_keep path (boolean b) = tt
variables_keep path (datetime dt) = tt
variables_keep path (array ds) = tt

given_keeps : (path : List ℕ) (d : Data) → Keeps KeepsArguments (and_then (list_in 1024 (each (text_such is_plain)) path d) (λ given. Ok (Given given)))
given_keeps path d =
    keeps_then (λ texts. (length texts ≤ 1024) × All IsPlain texts) KeepsArguments (list_in 1024 (each (text_such is_plain)) path d) _
    (each_keeps IsPlain 1024 (text_such is_plain) plain_keeps path d) (λ given h. h)

arguments_keep : Reads KeepsArguments arguments_in
arguments_keep path (boolean true) = tt
arguments_keep path (boolean false) = tt
arguments_keep path (string text) = given_keeps path (string text)
arguments_keep path (integer z) = given_keeps path (integer z)
arguments_keep path (float x) = given_keeps path (float x)
arguments_keep path (datetime dt) = given_keeps path (datetime dt)
arguments_keep path (array ds) = given_keeps path (array ds)
arguments_keep path (table ms) = given_keeps path (table ms)

folder_keeps : (path : List ℕ) (d : Data) → Keeps KeepsFolder (and_then (text_such is_plain path d) (λ given. Ok (GivenFolder given)))
folder_keeps path d = keeps_then IsPlain KeepsFolder (text_such is_plain path d) _ (plain_keeps path d) (λ given h. h)

cwd_keeps : Reads KeepsFolder cwd_in
cwd_keeps path (boolean true) = tt
cwd_keeps path (boolean false) = tt
cwd_keeps path (string text) = folder_keeps path (string text)
cwd_keeps path (integer z) = folder_keeps path (integer z)
cwd_keeps path (float x) = folder_keeps path (float x)
cwd_keeps path (datetime dt) = folder_keeps path (datetime dt)
cwd_keeps path (array ds) = folder_keeps path (array ds)
cwd_keeps path (table ms) = folder_keeps path (table ms)

record KeptEnv (env : Env) : Type 0 where
  allow : (length env.allow ≤ 1024) × All IsVariableName env.allow
  set : (length env.set ≤ 1024) × All IsVariable env.set
  arguments : KeepsArguments env.arguments
  cwd : KeepsFolder env.cwd

env_keeps : ReadsFields KeptEnv env_of
env_keeps path ms =
    keeps_after KeptEnv (optional path (codes "pass") false boolean_in ms) _ (λ pass.
    keeps_then (λ allow. (length allow ≤ 1024) × All IsVariableName allow) KeptEnv (optional path (codes "allow") [] (list_in 1024 (each (text_such is_variable))) ms) _
    (optional_keeps (λ allow. (length allow ≤ 1024) × All IsVariableName allow) path (codes "allow") [] (list_in 1024 (each (text_such is_variable))) ms (omega arith, All-nil IsVariableName)
    (each_keeps IsVariableName 1024 (text_such is_variable) name_keeps)) (λ allow h1.
    keeps_then (λ set. (length set ≤ 1024) × All IsVariable set) KeptEnv (optional path (codes "set") [] variables_in ms) _
    (optional_keeps (λ set. (length set ≤ 1024) × All IsVariable set) path (codes "set") [] variables_in ms (omega arith, All-nil IsVariable) variables_keep) (λ set h2.
    keeps_then KeepsArguments KeptEnv (optional path (codes "arguments") NoArguments arguments_in ms) _
    (optional_keeps KeepsArguments path (codes "arguments") NoArguments arguments_in ms tt arguments_keep) (λ arguments h3.
    keeps_then KeepsFolder KeptEnv (optional path (codes "cwd") NoCwd cwd_in ms) _
    (optional_keeps KeepsFolder path (codes "cwd") NoCwd cwd_in ms tt cwd_keeps) (λ cwd h4.
    record { allow = h1; set = h2; arguments = h3; cwd = h4 })))))

-- ---- the clocks

named_by : (b c : Bool) (path : List ℕ) → Keeps KeepsWall (choice_of path (if b then Some HostWall else (if c then Some NoWall else None)))
named_by true c path = tt
named_by false true path = tt
named_by false false path = tt

time_keeps : ReadsFields (λ (t : WallTime). t.nanoseconds ≤ 999999999) time_of
time_keeps path ms =
    keeps_after (λ (t : WallTime). t.nanoseconds ≤ 999999999) (required path (codes "seconds") natural ms) _ (λ seconds.
    keeps_then (λ n. (0 ≤ n) × (n ≤ 999999999)) (λ (t : WallTime). t.nanoseconds ≤ 999999999) (required path (codes "nanoseconds") (number_in 0 999999999) ms) _
    (required_keeps (λ n. (0 ≤ n) × (n ≤ 999999999)) path (codes "nanoseconds") (number_in 0 999999999) ms (number_keeps 0 999999999)) (λ n h. h.1))

fixed_keeps : (path : List ℕ) (d : Data) → Keeps KeepsWall (and_then (table_in time_keys time_of path d) (λ time. Ok (Fixed time)))
fixed_keeps path d =
    keeps_then (λ (t : WallTime). t.nanoseconds ≤ 999999999) KeepsWall (table_in time_keys time_of path d) _
    (table_in_keeps (λ (t : WallTime). t.nanoseconds ≤ 999999999) time_keys time_of time_keeps path d) (λ time h. h)

wall_keeps : Reads KeepsWall wall_in
wall_keeps path (string word) = named_by (bytes_eq word (codes "allow")) (bytes_eq word (codes "deny")) path
wall_keeps path (integer z) = fixed_keeps path (integer z)
wall_keeps path (float x) = fixed_keeps path (float x)
wall_keeps path (boolean b) = fixed_keeps path (boolean b)
wall_keeps path (datetime dt) = fixed_keeps path (datetime dt)
wall_keeps path (array ds) = fixed_keeps path (array ds)
wall_keeps path (table ms) = fixed_keeps path (table ms)

clocks_keep : ReadsFields (λ (c : Clocks). KeepsWall c.wall) clocks_of
clocks_keep path ms =
    keeps_then KeepsWall (λ (c : Clocks). KeepsWall c.wall) (optional path (codes "wall") NoWall wall_in ms) _
    (optional_keeps KeepsWall path (codes "wall") NoWall wall_in ms tt wall_keeps) (λ wall h.
    keeps_after (λ (c : Clocks). KeepsWall c.wall) (optional path (codes "monotonic") NoMonotonic monotonic_in ms) _ (λ monotonic. h))

-- ---- what a policy writes out of a tree

-- placed beside what is there, it meets none of that
placed_by : {A : Type 0} (b : Bool) (path : List ℕ) (p : Placed) (there : List Placed) (P : A → Type 0) (a : A) → list_any (clashes p) there ≡ b
    → (list_any (clashes p) there ≡ false → P a) → Keeps P (and_then (if b then Err (BadValue path) else Ok (tt {0})) (λ _. Ok a))
placed_by true path p there P a e h = tt
placed_by false path p there P a e h = h e

placed_keeps : {A : Type 0} (path : List ℕ) (p : Placed) (there : List Placed) (P : A → Type 0) (a : A)
    → (list_any (clashes p) there ≡ false → P a) → Keeps P (and_then (placed_at path p there) (λ _. Ok a))
placed_keeps path p there P a h = placed_by (list_any (clashes p) there) path p there P a refl h

abbrev IsFileAt : EmbeddedFile → Type 0
IsFileAt file = is_path file.path ≡ true

abbrev IsFolderAt : List ℕ → Type 0
IsFolderAt folder = is_path folder ≡ true

abbrev IsLinkAt : Link → Type 0
IsLinkAt link = (is_path link.path ≡ true) × (is_target link.target ≡ true)

file_by : (b : Bool) (path key : List ℕ) (d : Data) → is_path key ≡ b
    → Keeps IsFileAt (if b then and_then (table_in content_keys content_of path d) (λ content. Ok (record { path = key; content = content })) else Err (BadName path))
file_by true path key d e = keeps_after IsFileAt (table_in content_keys content_of path d) _ (λ content. e)
file_by false path key d e = tt

abbrev KeptFiles : List EmbeddedFile → Type 0
KeptFiles files = All IsFileAt files × (each_apart clashes [] (map file_placed files) ≡ true)

files_keep : Reads KeptFiles files_in
files_keep path (table ms) =
    members_keep KeptFiles (file_at path)
    (λ seen key d h. keeps_then IsFileAt (λ file. KeptFiles (seen ++ file ∷ [])) (file_of (below path key) key d) _ (file_by (is_path key) (below path key) key d refl)
    (λ file k. placed_keeps (below path key) (file_placed file) (map file_placed seen) (λ f. KeptFiles (seen ++ f ∷ [])) file
    (λ none. (All-push IsFileAt seen file h.0 k, map_more clashes file_placed [] seen file h.1 none)))) [] ms (All-nil IsFileAt, refl)
files_keep path (string text) = tt
files_keep path (integer z) = tt
files_keep path (float x) = tt
files_keep path (boolean b) = tt
files_keep path (datetime dt) = tt
files_keep path (array ds) = tt

folder_by : (b : Bool) (path folder : List ℕ) → is_path folder ≡ b → Keeps IsFolderAt (if b then Ok folder else Err (BadName path))
folder_by true path folder e = e
folder_by false path folder e = tt

folder_of_keeps : Reads IsFolderAt folder_of
folder_of_keeps path (string folder) = folder_by (is_path folder) path folder refl
folder_of_keeps path (integer z) = tt
folder_of_keeps path (float x) = tt
folder_of_keeps path (boolean b) = tt
folder_of_keeps path (datetime dt) = tt
folder_of_keeps path (array ds) = tt
folder_of_keeps path (table ms) = tt

abbrev KeptFolders : List Placed → List (List ℕ) → Type 0
KeptFolders there folders = All IsFolderAt folders × (each_apart clashes there (map folder_placed folders) ≡ true)

folders_keep : (there : List Placed) → Reads (KeptFolders there) (folders_in there)
folders_keep there path (array ds) =
    items_keep (KeptFolders there) (folder_at path there)
    (λ seen d h. keeps_then IsFolderAt (λ folder. KeptFolders there (seen ++ folder ∷ [])) (folder_of (nth path (length seen)) d) _ (folder_of_keeps (nth path (length seen)) d)
    (λ folder k. placed_keeps (nth path (length seen)) (folder_placed folder) (there ++ map folder_placed seen) (λ f. KeptFolders there (seen ++ f ∷ [])) folder
    (λ none. (All-push IsFolderAt seen folder h.0 k, map_more clashes folder_placed there seen folder h.1 none)))) [] ds (All-nil IsFolderAt, refl)
folders_keep there path (string text) = tt
folders_keep there path (integer z) = tt
folders_keep there path (float x) = tt
folders_keep there path (boolean b) = tt
folders_keep there path (datetime dt) = tt
folders_keep there path (table ms) = tt

target_by : (b c : Bool) (path target : List ℕ) → ((length target == 0) || holds_byte 0 target) ≡ b → nat_lt 4096 (length target) ≡ c
    → Keeps (λ t. is_target t ≡ true) (if b then Err (BadValue path) else (if c then Err (OverLimit path (length target)) else Ok target))
target_by true c path target e f = tt
target_by false true path target e f = tt
target_by false false path target e f = grind (arith, nat_tests, e, f)

target_keeps : Reads (λ t. is_target t ≡ true) target_in
target_keeps path (string target) = target_by ((length target == 0) || holds_byte 0 target) (nat_lt 4096 (length target)) path target refl refl
target_keeps path (integer z) = tt
target_keeps path (float x) = tt
target_keeps path (boolean b) = tt
target_keeps path (datetime dt) = tt
target_keeps path (array ds) = tt
target_keeps path (table ms) = tt

link_by : (b : Bool) (path key : List ℕ) (d : Data) → is_path key ≡ b
    → Keeps IsLinkAt (if b then and_then (target_in path d) (λ target. Ok (record { path = key; target = target })) else Err (BadName path))
link_by true path key d e = keeps_then (λ t. is_target t ≡ true) IsLinkAt (target_in path d) _ (target_keeps path d) (λ target h. (e, h))
link_by false path key d e = tt

abbrev KeptLinks : List Placed → List Link → Type 0
KeptLinks there links = All IsLinkAt links × (each_apart clashes there (map link_placed links) ≡ true)

links_keep : (there : List Placed) → Reads (KeptLinks there) (links_in there)
links_keep there path (table ms) =
    members_keep (KeptLinks there) (link_at path there)
    (λ seen key d h. keeps_then IsLinkAt (λ link. KeptLinks there (seen ++ link ∷ [])) (link_of (below path key) key d) _ (link_by (is_path key) (below path key) key d refl)
    (λ link k. placed_keeps (below path key) (link_placed link) (there ++ map link_placed seen) (λ l. KeptLinks there (seen ++ l ∷ [])) link
    (λ none. (All-push IsLinkAt seen link h.0 k, map_more clashes link_placed there seen link h.1 none)))) [] ms (All-nil IsLinkAt, refl)
links_keep there path (string text) = tt
links_keep there path (integer z) = tt
links_keep there path (float x) = tt
links_keep there path (boolean b) = tt
links_keep there path (datetime dt) = tt
links_keep there path (array ds) = tt

-- where links are no key, there are none
embedded_keeps : (version : Version) (path : List ℕ) (ms : Members) → (version ≡ One → get_member (codes "links") ms ≡ None) → Keeps (KeepsEmbedded version) (embedded_of path ms)
embedded_keeps version path ms gone =
    keeps_then KeptFiles (KeepsEmbedded version) (optional path (codes "files") [] files_in ms) _
    (optional_keeps KeptFiles path (codes "files") [] files_in ms (All-nil IsFileAt, refl) files_keep) (λ files h1.
    let there = map file_placed files in
    keeps_then (KeptFolders there) (KeepsEmbedded version) (optional path (codes "folders") [] (folders_in there) ms) _
    (optional_keeps (KeptFolders there) path (codes "folders") [] (folders_in there) ms (All-nil IsFolderAt, refl) (folders_keep there)) (λ folders h2.
    let more = there ++ map folder_placed folders in
    keeps_then (λ links. KeptLinks more links × (get_member (codes "links") ms ≡ None → links ≡ [])) (KeepsEmbedded version) (optional path (codes "links") [] (links_in more) ms) _
    (keeps_both (KeptLinks more) (λ links. get_member (codes "links") ms ≡ None → links ≡ []) (optional path (codes "links") [] (links_in more) ms)
    (optional_keeps (KeptLinks more) path (codes "links") [] (links_in more) ms (All-nil IsLinkAt, refl) (links_keep more))
    (optional_absent path (codes "links") [] (links_in more) ms)) (λ links h3. record {
      files = h1.0;
      folders = h2.0;
      links = h3.0.0;
      clear = apart_append clashes [] there (map folder_placed folders ++ map link_placed links) h1.1
          (apart_append clashes there (map folder_placed folders) (map link_placed links) h2.1 h3.0.1);
      no_links = λ first. h3.1 (gone first);
    })))

content_keeps : (version : Version) (path : List ℕ) (o : Option Data) (ms : Members) → (version ≡ One → get_member (codes "links") ms ≡ None)
    → Keeps (KeepsContent version) (content_by path o ms)
content_keeps version path None ms gone = keeps_then (KeepsEmbedded version) (KeepsContent version) (embedded_of path ms) _ (embedded_keeps version path ms gone) (λ embedded h. h)
content_keeps version path (Some d) ms gone =
    keeps_after (KeepsContent version) (any_text (below path (codes "mount")) d) _ (λ folder.
    keeps_after (KeepsContent version) (absent path (codes "files") ms) _ (λ _.
    keeps_after (KeepsContent version) (absent path (codes "folders") ms) _ (λ _.
    keeps_after (KeepsContent version) (absent path (codes "links") ms) _ (λ _. tt))))

-- ---- trees, each with a name of its own

new_keeps : (taken : List (List ℕ)) → Reads (λ name. is_known taken name ≡ false) (new_name taken)
new_keeps taken path d =
    keeps_weaker (λ name. not (is_known taken name) ≡ true) (λ name. is_known taken name ≡ false) (new_name taken path d) (λ name h. not_true (is_known taken name) h)
    (text_such_keeps (λ name. not (is_known taken name)) path d)

abbrev KeptTree : Version → List (List ℕ) → TreeSource → Type 0
KeptTree version taken tree = KeepsTree version tree × (is_known taken tree.name ≡ false)

tree_keeps : (version : Version) (taken : List (List ℕ)) (path : List ℕ) (ms : Members) → (version ≡ One → get_member (codes "links") ms ≡ None)
    → Keeps (KeptTree version taken) (tree_of taken path ms)
tree_keeps version taken path ms gone =
    keeps_then (λ name. is_known taken name ≡ false) (KeptTree version taken) (required path (codes "name") (new_name taken) ms) _
    (required_keeps (λ name. is_known taken name ≡ false) path (codes "name") (new_name taken) ms (new_keeps taken)) (λ name h1.
    keeps_then (KeepsContent version) (KeptTree version taken) (content_by path (get_member (codes "mount") ms) ms) _
    (content_keeps version path (get_member (codes "mount") ms) ms gone) (λ content h2. (h2, h1)))

known_by : (o : Option (List ℕ)) (version : Version) (taken : List (List ℕ)) (path : List ℕ) (ms : Members) → first_unknown (tree_keys version) ms ≡ o
    → Keeps (KeptTree version taken) (and_then (key_fault path o) (λ _. tree_of taken path ms))
known_by (Some key) version taken path ms e = tt
known_by None One taken path ms e = tree_keeps One taken path ms (λ _. unknown_absent (codes "links") (tree_keys One) ms refl e)
known_by None Two taken path ms e = tree_keeps Two taken path ms (λ second. let P : Version → Type 0 = λ v. elim v [ One ↦ ⊥ | Two ↦ Unit {0} ] in absurd (subst P second tt))

tree_at_keeps : (version : Version) (taken : List (List ℕ)) → Reads (KeptTree version taken) (table_in (tree_keys version) (tree_of taken))
tree_at_keeps version taken path (table ms) = known_by (first_unknown (tree_keys version) ms) version taken path ms refl
tree_at_keeps version taken path (string text) = tt
tree_at_keeps version taken path (integer z) = tt
tree_at_keeps version taken path (float x) = tt
tree_at_keeps version taken path (boolean b) = tt
tree_at_keeps version taken path (datetime dt) = tt
tree_at_keeps version taken path (array ds) = tt

abbrev KeptTrees : Version → List (List ℕ) → List TreeSource → Type 0
KeptTrees version shown trees = All (KeepsTree version) trees × (each_apart bytes_eq shown (tree_names trees) ≡ true)

trees_keep : (version : Version) (shown : List (List ℕ)) → Reads (λ trees. (length trees ≤ 64) × KeptTrees version shown trees) (list_in 64 (tree_at version shown))
trees_keep version shown =
    list_in_keeps (KeptTrees version shown) 64 (tree_at version shown) (All-nil (KeepsTree version), refl)
    (λ path seen d h. keeps_weaker (KeptTree version (shown ++ tree_names seen)) (λ tree. KeptTrees version shown (seen ++ tree ∷ [])) (tree_at version shown path seen d)
    (λ tree k. (All-push (KeepsTree version) seen tree h.0 k.0, map_more bytes_eq (λ (t : TreeSource). t.name) shown seen tree h.1 k.1))
    (tree_at_keeps version (shown ++ tree_names seen) (nth path (length seen)) d))

-- ---- passed folders

abbrev KeptPasses : List Pass → Type 0
KeptPasses passes = each_apart bytes_eq [] (shown_names passes) ≡ true

pass_keeps : (seen : List Pass) → ReadsFields (λ (pass : Pass). is_known (shown_names seen) pass.shown ≡ false) (pass_of seen)
pass_keeps seen path ms =
    keeps_after (λ (pass : Pass). is_known (shown_names seen) pass.shown ≡ false) (required path (codes "host") any_text ms) _ (λ host.
    keeps_then (λ name. is_known (shown_names seen) name ≡ false) (λ (pass : Pass). is_known (shown_names seen) pass.shown ≡ false) (required path (codes "as") (new_name (shown_names seen)) ms) _
    (required_keeps (λ name. is_known (shown_names seen) name ≡ false) path (codes "as") (new_name (shown_names seen)) ms (new_keeps (shown_names seen))) (λ shown h. h))

passes_keep : Reads (λ passes. (length passes ≤ 64) × KeptPasses passes) (list_in 64 pass_at)
passes_keep =
    list_in_keeps KeptPasses 64 pass_at refl
    (λ path seen d h. keeps_weaker (λ (pass : Pass). is_known (shown_names seen) pass.shown ≡ false) (λ pass. KeptPasses (seen ++ pass ∷ [])) (pass_at path seen d)
    (λ pass k. map_more bytes_eq (λ (p : Pass). p.shown) [] seen pass h k)
    (table_in_keeps (λ (pass : Pass). is_known (shown_names seen) pass.shown ≡ false) pass_keys (pass_of seen) (pass_keeps seen) (nth path (length seen)) d))

none_by : (b : Bool) (path : List ℕ) (o : Option Data) (host : HostFiles) → passes_none o ≡ b
    → Keeps (λ h. h ≡ AllFiles → passes_none o ≡ true) (and_then (if b then Ok (tt {0}) else Err (BadValue path)) (λ _. Ok host))
none_by true path o host e = λ _. e
none_by false path o host e = tt

host_by : (path : List ℕ) (host : HostFiles) (o : Option Data) → Keeps (λ h. h ≡ AllFiles → passes_none o ≡ true) (and_then (none_passed path host o) (λ _. Ok host))
host_by path NoFiles o = λ all. let P : HostFiles → Type 0 = λ h. elim h [ NoFiles ↦ Unit {0} | AllFiles ↦ ⊥ ] in absurd (subst P all tt)
host_by path AllFiles o = none_by (passes_none o) path o AllFiles refl

host_keeps : (path : List ℕ) (ms : Members) → Keeps (λ host. host ≡ AllFiles → passes_none (get_member (codes "pass") ms) ≡ true) (host_of path ms)
host_keeps path ms = keeps_after (λ host. host ≡ AllFiles → passes_none (get_member (codes "pass") ms) ≡ true) _ _ (λ host. host_by (below path (codes "pass")) host (get_member (codes "pass") ms))

-- beside all of the host's folders the list of passed ones is absent or empty
alone_by : (path : List ℕ) (o : Option Data) → Keeps (λ passes. passes_none o ≡ true → passes ≡ []) (value_or path [] (list_in 64 pass_at) o)
alone_by path None = λ _. refl
alone_by path (Some (array no_items)) = λ _. refl
alone_by path (Some (array (item d ds))) = keeps_always _ (list_in 64 pass_at path (array (item d ds))) (λ passes none. absurd (false≢true none))
alone_by path (Some (string text)) = tt
alone_by path (Some (integer z)) = tt
alone_by path (Some (float x)) = tt
alone_by path (Some (boolean b)) = tt
alone_by path (Some (datetime dt)) = tt
alone_by path (Some (table ms)) = tt

-- ---- the scratch folder

abbrev KeptScratch : List (List ℕ) → Option Scratch → Type 0
KeptScratch taken scratch = KeepsScratch scratch × (each_apart bytes_eq taken (scratch_names scratch) ≡ true)

one_apart : (taken : List (List ℕ)) (name : List ℕ) → is_known taken name ≡ false → each_apart bytes_eq taken (name ∷ []) ≡ true
one_apart taken name h = rw (h) refl

scratch_of_keeps : (taken : List (List ℕ)) → ReadsFields (λ (scratch : Scratch). KeptScratch taken (Some scratch)) (scratch_of taken)
scratch_of_keeps taken path ms =
    let P : Scratch → Type 0 = λ scratch. KeptScratch taken (Some scratch) in
    keeps_then (λ name. is_known taken name ≡ false) P (required path (codes "name") (new_name taken) ms) _
    (required_keeps (λ name. is_known taken name ≡ false) path (codes "name") (new_name taken) ms (new_keeps taken)) (λ name h1.
    keeps_then (λ n. (1 ≤ n) × (n ≤ 8192)) P (required path (codes "blocks") (number_in 1 8192) ms) _
    (required_keeps (λ n. (1 ≤ n) × (n ≤ 8192)) path (codes "blocks") (number_in 1 8192) ms (number_keeps 1 8192)) (λ blocks h2.
    keeps_then (λ n. (1 ≤ n) × (n ≤ 256)) P (required path (codes "files") (number_in 1 256) ms) _
    (required_keeps (λ n. (1 ≤ n) × (n ≤ 256)) path (codes "files") (number_in 1 256) ms (number_keeps 1 256)) (λ files h3. ((h2, h3), one_apart taken name h1))))

scratch_keeps : (taken : List (List ℕ)) → Reads (KeptScratch taken) (scratch_in taken)
scratch_keeps taken path d =
    keeps_then (λ (scratch : Scratch). KeptScratch taken (Some scratch)) (KeptScratch taken) (table_in scratch_keys (scratch_of taken) path d) _
    (table_in_keeps (λ (scratch : Scratch). KeptScratch taken (Some scratch)) scratch_keys (scratch_of taken) (scratch_of_keeps taken) path d) (λ scratch h. h)

-- ---- all folders

record KeptFs (version : Version) (fs : Fs) : Type 0 where
  host : fs.host ≡ AllFiles → fs.pass ≡ []
  pass : length fs.pass ≤ 64
  trees : (length fs.tree ≤ 64) × All (KeepsTree version) fs.tree
  scratch : KeepsScratch fs.scratch
  names : each_apart bytes_eq [] ((shown_names fs.pass ++ tree_names fs.tree) ++ scratch_names fs.scratch) ≡ true

fs_keeps : (version : Version) → ReadsFields (KeptFs version) (fs_of version)
fs_keeps version path ms =
    let none = passes_none (get_member (codes "pass") ms) in
    keeps_then (λ host. host ≡ AllFiles → none ≡ true) (KeptFs version) (host_of path ms) _ (host_keeps path ms) (λ host h0.
    keeps_then (λ passes. ((length passes ≤ 64) × KeptPasses passes) × (none ≡ true → passes ≡ [])) (KeptFs version) (optional path (codes "pass") [] (list_in 64 pass_at) ms) _
    (keeps_both (λ passes. (length passes ≤ 64) × KeptPasses passes) (λ passes. none ≡ true → passes ≡ []) (optional path (codes "pass") [] (list_in 64 pass_at) ms)
    (optional_keeps (λ passes. (length passes ≤ 64) × KeptPasses passes) path (codes "pass") [] (list_in 64 pass_at) ms (omega arith, refl) passes_keep)
    (alone_by (below path (codes "pass")) (get_member (codes "pass") ms))) (λ pass h1.
    let shown = shown_names pass in
    keeps_then (λ trees. (length trees ≤ 64) × KeptTrees version shown trees) (KeptFs version) (optional path (codes "tree") [] (list_in 64 (tree_at version shown)) ms) _
    (optional_keeps (λ trees. (length trees ≤ 64) × KeptTrees version shown trees) path (codes "tree") [] (list_in 64 (tree_at version shown)) ms (omega arith, (All-nil (KeepsTree version), refl)) (trees_keep version shown)) (λ tree h2.
    let taken = shown ++ tree_names tree in
    keeps_then (KeptScratch taken) (KeptFs version) (optional path (codes "scratch") None (scratch_in taken) ms) _
    (optional_keeps (KeptScratch taken) path (codes "scratch") None (scratch_in taken) ms (tt, refl) (scratch_keeps taken)) (λ scratch h3. record {
      host = λ all. h1.1 (h0 all);
      pass = h1.0.0;
      trees = (h2.0, h2.1.0);
      scratch = h3.0;
      names = apart_append bytes_eq [] taken (scratch_names scratch) (apart_append bytes_eq [] shown (tree_names tree) h1.0.1 h2.1.1) h3.1;
    }))))

-- ---- networks

upto_by : (b : Bool) (greatest n : ℕ) → nat_le n greatest ≡ b → IfSome (if b then Some n else None) (λ m. m ≤ greatest)
upto_by true greatest n e = grind (arith, nat_tests, e)
upto_by false greatest n e = tt

upto_small : (greatest n : ℕ) → IfSome (upto greatest n) (λ m. m ≤ greatest)
upto_small greatest n = upto_by (nat_le n greatest) greatest n refl

then_some : {A B : Type 0} (P : A → Type 0) (Q : B → Type 0) (next : A → Option B) (o : Option A) → IfSome o P → ((a : A) → P a → IfSome (next a) Q) → IfSome (option_and_then next o) Q
then_some P Q next (Some a) h more = more a h
then_some P Q next None h more = tt

any_some : {A : Type 0} (o : Option A) → IfSome o (λ _. Unit {0})
any_some (Some a) = tt
any_some None = tt

some_weaker : {A : Type 0} (P Q : A → Type 0) (o : Option A) → ((a : A) → P a → Q a) → IfSome o P → IfSome o Q
some_weaker P Q (Some a) weaker h = weaker a h
some_weaker P Q None weaker h = tt

four_small : (text : List ℕ) → IfSome (number_of false text) (λ n. n < 256)
four_small text =
    then_some (λ _. Unit {0}) (λ n. n < 256) (upto 255) (decimal_of text) (any_some (decimal_of text))
    (λ n h. some_weaker (λ m. m ≤ 255) (λ m. m < 256) (upto 255 n) (λ m k. omega arith) (upto_small 255 n))

-- a digit is below 16
digit_by : (a b c d : Bool) (n : ℕ) → nat_lt n 48 ≡ a → nat_lt n 58 ≡ b → nat_lt n 97 ≡ c → nat_lt n 103 ≡ d
    → IfSome (if a then None else (if b then Some (n - 48) else (if c then None else (if d then Some (n - 87) else None)))) (λ m. m ≤ 15)
digit_by true b c d n e f g h = tt
digit_by false true c d n e f g h = grind (arith, nat_tests, f)
digit_by false false true d n e f g h = tt
digit_by false false false true n e f g h = grind (arith, nat_tests, h)
digit_by false false false false n e f g h = tt

digit_small : (c : ℕ) → IfSome (group_digit c) (λ d. d ≤ 15)
digit_small c = digit_by (nat_lt c 48) (nat_lt c 58) (nat_lt c 97) (nat_lt c 103) c refl refl refl refl

-- the greatest number that N more digits make of one up to a limit
abbrev grown : ℕ → List ℕ → ℕ
grown limit [] = limit
grown limit (c ∷ cs) = grown (limit * 16 + 15) cs

behind_small : (limit n : ℕ) (cs : List ℕ) → n ≤ limit → IfSome (digits_behind group_digit 16 n cs) (λ m. m ≤ grown limit cs)
behind_small limit n [] h = h
behind_small limit n (c ∷ cs) h =
    then_some (λ d. d ≤ 15) (λ m. m ≤ grown (limit * 16 + 15) cs) (λ d. digits_behind group_digit 16 (n * 16 + d) cs) (group_digit c) (digit_small c)
    (λ d k. behind_small (limit * 16 + 15) (n * 16 + d) cs (omega (arith, h, k)))

few_digits : (cs : List ℕ) → length cs ≤ 4 → grown 0 cs < 65536
few_digits [] h = omega arith
few_digits (a ∷ []) h = omega arith
few_digits (a ∷ b ∷ []) h = omega arith
few_digits (a ∷ b ∷ c ∷ []) h = omega arith
few_digits (a ∷ b ∷ c ∷ d ∷ []) h = omega arith
few_digits (a ∷ b ∷ c ∷ d ∷ e ∷ cs) h = absurd (omega (arith, h))

group_by : (b : Bool) (text : List ℕ) → ((length text == 0) || nat_lt 4 (length text)) ≡ b → IfSome (if b then None else digits_behind group_digit 16 0 text) (λ n. n < 65536)
group_by true text e = tt
group_by false text e =
    let few : length text ≤ 4 = grind (arith, nat_tests, e) in
    some_weaker (λ m. m ≤ grown 0 text) (λ m. m < 65536) (digits_behind group_digit 16 0 text) (λ m h. omega (arith, h, few_digits text few)) (behind_small 0 0 text (omega arith))

eight_small : (text : List ℕ) → IfSome (number_of true text) (λ n. n < 65536)
eight_small text = group_by ((length text == 0) || nat_lt 4 (length text)) text refl

numbers_small : (number : List ℕ → Option ℕ) (bound : ℕ) → ((part : List ℕ) → IfSome (number part) (λ n. n < bound)) → (parts : List (List ℕ))
    → IfSome (all_numbers number parts) (All (λ n. n < bound))
numbers_small number bound small [] = All-nil (λ n. n < bound)
numbers_small number bound small (part ∷ parts) =
    then_some (λ n. n < bound) (All (λ n. n < bound)) (λ n. option_and_then (λ ns. Some (n ∷ ns)) (all_numbers number parts)) (number part) (small part)
    (λ n h. then_some (All (λ m. m < bound)) (All (λ m. m < bound)) (λ ns. Some (n ∷ ns)) (all_numbers number parts) (numbers_small number bound small parts)
    (λ ns k. All-cons (λ m. m < bound) n ns h k))

many_by : (b : Bool) (count bound : ℕ) (numbers : List ℕ) → (length numbers == count) ≡ b → All (λ n. n < bound) numbers
    → IfSome (if b then Some numbers else None) (λ ns. (length ns ≡ count) × All (λ n. n < bound) ns)
many_by true count bound numbers e h = (grind (arith, nat_tests, e), h)
many_by false count bound numbers e h = tt

abbrev IsAddress : Bool → List ℕ → Type 0
IsAddress six numbers = (length numbers ≡ (if six then 8 else 4)) × All (λ n. n < (if six then 65536 else 256)) numbers

address_keeps : (six : Bool) (text : List ℕ) → IfSome (address_of six text) (IsAddress six)
address_keeps false text =
    then_some (All (λ n. n < 256)) (IsAddress false) (so_many 4) (all_numbers (number_of false) (parts_of 46 text))
    (numbers_small (number_of false) 256 four_small (parts_of 46 text)) (λ ns h. many_by (length ns == 4) 4 256 ns refl h)
address_keeps true text =
    then_some (All (λ n. n < 65536)) (IsAddress true) (so_many 8) (all_numbers (number_of true) (parts_of 58 text))
    (numbers_small (number_of true) 65536 eight_small (parts_of 58 text)) (λ ns h. many_by (length ns == 8) 8 65536 ns refl h)

abbrev IsNetwork : Network → Type 0
IsNetwork network = KeepsNetwork network.six network.numbers network.length

network_by_keeps : (six : Bool) (numbers : List ℕ) (o : Option ℕ) → IsAddress six numbers → IfSome o (λ n. n ≤ (if six then 128 else 32)) → IfSome (network_by six numbers o) IsNetwork
network_by_keeps six numbers None h few = tt
network_by_keeps six numbers (Some n) h few = (h.0, h.1, few)

bits_small : (greatest : ℕ) (o : Option ℕ) → IfSome (option_and_then (upto greatest) o) (λ n. n ≤ greatest)
bits_small greatest o = then_some (λ _. Unit {0}) (λ n. n ≤ greatest) (upto greatest) o (any_some o) (λ n h. upto_small greatest n)

network_at_keeps : (four eight : Option (List ℕ)) (n : Option ℕ) → IfSome four (IsAddress false) → IfSome eight (IsAddress true) → IfSome (network_at four eight n) IsNetwork
network_at_keeps (Some four) eight n h k = network_by_keeps false four (option_and_then (upto 32) n) h (bits_small 32 n)
network_at_keeps None (Some eight) n h k = network_by_keeps true eight (option_and_then (upto 128) n) k (bits_small 128 n)
network_at_keeps None None n h k = tt

cut_keeps : (o : Option (List ℕ × List ℕ)) → IfSome (network_cut o) IsNetwork
cut_keeps None = tt
cut_keeps (Some p) = network_at_keeps (address_of false p.0) (address_of true p.0) (decimal_of p.1) (address_keeps false p.0) (address_keeps true p.0)

choice_keeps : {A : Type 0} (P : A → Type 0) (path : List ℕ) (o : Option A) → IfSome o P → Keeps P (choice_of path o)
choice_keeps P path (Some a) h = h
choice_keeps P path None h = tt

network_keeps : Reads IsNetwork network_in
network_keeps path (string text) = choice_keeps IsNetwork path (network_of text) (cut_keeps (cut 47 text))
network_keeps path (integer z) = tt
network_keeps path (float x) = tt
network_keeps path (boolean b) = tt
network_keeps path (datetime dt) = tt
network_keeps path (array ds) = tt
network_keeps path (table ms) = tt

-- ---- rules

range_by : (b : Bool) (path : List ℕ) (from to : ℕ) → nat_lt to from ≡ b → to ≤ 65535 → Keeps KeepsRange (if b then Err (BadValue path) else Ok (record { from = from; to = to }))
range_by true path from to e h = tt
range_by false path from to e h = (grind (arith, nat_tests, e), h)

range_keeps : ReadsFields KeepsRange range_of
range_keeps path ms =
    keeps_then (λ n. (0 ≤ n) × (n ≤ 65535)) KeepsRange (required path (codes "from") (number_in 0 65535) ms) _
    (required_keeps (λ n. (0 ≤ n) × (n ≤ 65535)) path (codes "from") (number_in 0 65535) ms (number_keeps 0 65535)) (λ from h1.
    keeps_then (λ n. (0 ≤ n) × (n ≤ 65535)) KeepsRange (required path (codes "to") (number_in 0 65535) ms) _
    (required_keeps (λ n. (0 ≤ n) × (n ≤ 65535)) path (codes "to") (number_in 0 65535) ms (number_keeps 0 65535)) (λ to h2. range_by (nat_lt to from) path from to refl h2.1))

one_port : (path : List ℕ) (d : Data) → Keeps KeepsRange (and_then (number_in 0 65535 path d) (λ port. Ok (record { from = port; to = port })))
one_port path d = keeps_then (λ n. (0 ≤ n) × (n ≤ 65535)) KeepsRange (number_in 0 65535 path d) _ (number_keeps 0 65535 path d) (λ port h. (omega arith, h.1))

port_keeps : Reads KeepsRange port_in
port_keeps path (table ms) = table_in_keeps KeepsRange range_keys range_of range_keeps path (table ms)
port_keeps path (string text) = one_port path (string text)
port_keeps path (integer z) = one_port path (integer z)
port_keeps path (float x) = one_port path (float x)
port_keeps path (boolean b) = one_port path (boolean b)
port_keeps path (datetime dt) = one_port path (datetime dt)
port_keeps path (array ds) = one_port path (array ds)

abbrev KeptPorts : List PortRange → Type 0
KeptPorts ports = (1 ≤ length ports) × ((length ports ≤ 64) × All KeepsRange ports)

some_items : {A : Type 0} (read : List A → Data → Result A ReadPolicyFault) (path : List ℕ) (b : Bool) (n : ℕ) (d : Data) (ds : Items)
    → Keeps (λ found. 1 ≤ length found) (if b then Err (OverLimit path n) else each_item read [] (item d ds))
some_items read path true n d ds = tt
some_items read path false n d ds =
    keeps_weaker (λ found. length found ≡ 0 + suc (item_count ds)) (λ found. 1 ≤ length found) (each_item read [] (item d ds)) (λ found h. omega (arith, h)) (items_count read [] (item d ds))

ports_keep : Reads KeptPorts ports_in
ports_keep path (array no_items) = tt
ports_keep path (array (item d ds)) =
    keeps_both (λ ports. 1 ≤ length ports) (λ ports. (length ports ≤ 64) × All KeepsRange ports) (list_in 64 (each port_in) path (array (item d ds)))
    (some_items (each port_in path) path (nat_lt 64 (item_count (item d ds))) (item_count (item d ds)) d ds) (each_keeps KeepsRange 64 port_in port_keeps path (array (item d ds)))
ports_keep path (string text) = tt
ports_keep path (integer z) = tt
ports_keep path (float x) = tt
ports_keep path (boolean b) = tt
ports_keep path (datetime dt) = tt
ports_keep path (table ms) = tt

rule_keeps : ReadsFields KeepsRule rule_of
rule_keeps path ms =
    keeps_then IsNetwork KeepsRule (required path (codes "network") network_in ms) _
    (required_keeps IsNetwork path (codes "network") network_in ms network_keeps) (λ network h1.
    keeps_then KeptPorts KeepsRule (optional path (codes "ports") all_ports ports_in ms) _
    (optional_keeps KeptPorts path (codes "ports") all_ports ports_in ms (omega arith, (omega arith, All-cons KeepsRange (record { from = 0; to = 65535 }) [] (omega arith, omega arith) (All-nil KeepsRange))) ports_keep)
    (λ ports h2. record { network = h1; some = h2.0; few = h2.1.0; ports = h2.1.1 }))

rules_keep : Reads KeepsRules rules_in
rules_keep = each_keeps KeepsRule 256 (table_in rule_keys rule_of) (table_in_keeps KeepsRule rule_keys rule_of rule_keeps)

net_of_keeps : ReadsFields KeepsNet net_of
net_of_keeps path ms =
    keeps_then KeepsRules KeepsNet (optional path (codes "connect") [] rules_in ms) _
    (optional_keeps KeepsRules path (codes "connect") [] rules_in ms (omega arith, All-nil KeepsRule) rules_keep) (λ connect h1.
    keeps_then KeepsRules KeepsNet (optional path (codes "bind") [] rules_in ms) _
    (optional_keeps KeepsRules path (codes "bind") [] rules_in ms (omega arith, All-nil KeepsRule) rules_keep) (λ bind h2.
    keeps_after KeepsNet (optional path (codes "names") false boolean_in ms) _ (λ names. record { connect = h1; bind = h2 })))

abbrev KeptNet : Sockets → NetRules → Type 0
KeptNet sockets net = KeepsNet net × (¬ (sockets ≡ Rules) → IsWithoutRules net)

net_keeps : (sockets : Sockets) (path : List ℕ) (o : Option Data) → Keeps (KeptNet sockets) (net_for sockets path o)
net_keeps sockets path None = (net_of_keeps path no_members, λ _. record { connect = refl; bind = refl; names = refl })
net_keeps Rules path (Some d) =
    keeps_weaker KeepsNet (KeptNet Rules) (table_in net_keys net_of path d) (λ net h. (h, λ other. absurd (other refl))) (table_in_keeps KeepsNet net_keys net_of net_of_keeps path d)
net_keeps AllSockets path (Some d) = tt
net_keeps NoSockets path (Some d) = tt

-- ---- the whole policy

record KeptFront (front : Front) : Type 0 where
  limits : ((65536 ≤ front.limits.transfer_limit) × (front.limits.transfer_limit ≤ 67108864)) × ((1 ≤ front.limits.slots) × (front.limits.slots ≤ 4096))
  env : KeptEnv front.env
  clocks : KeepsWall front.clocks.wall

front_keeps : (ms : Members) → Keeps KeptFront (front_of ms)
front_keeps ms =
    keeps_after KeptFront (known_keys [] top_keys ms) _ (λ _.
    keeps_then _ KeptFront (limits_of ms) _ (limits_keep ms) (λ limits h1.
    keeps_then KeptEnv KeptFront (part (codes "env") env_keys env_of ms) _ (part_keeps KeptEnv (codes "env") env_keys env_of ms env_keeps) (λ env h2.
    keeps_after KeptFront (part (codes "stdio") stdio_keys stdio_of ms) _ (λ stdio.
    keeps_then (λ (c : Clocks). KeepsWall c.wall) KeptFront (part (codes "clocks") clocks_keys clocks_of ms) _
    (part_keeps (λ (c : Clocks). KeepsWall c.wall) (codes "clocks") clocks_keys clocks_of ms clocks_keep) (λ clocks h3. record { limits = h1; env = h2; clocks = h3 })))))

record KeptBack (version : Version) (back : Back) : Type 0 where
  fs : KeptFs version back.fs
  net : KeptNet back.access.sockets back.net

back_keeps : (version : Version) (ms : Members) → Keeps (KeptBack version) (back_of version ms)
back_keeps version ms =
    keeps_after (KeptBack version) (access_of ms) _ (λ access.
    keeps_then (KeptFs version) (KeptBack version) (part (codes "fs") fs_keys (fs_of version) ms) _ (part_keeps (KeptFs version) (codes "fs") fs_keys (fs_of version) ms (fs_keeps version)) (λ fs h1.
    keeps_then (KeptNet access.sockets) (KeptBack version) (net_at access.sockets ms) _ (net_keeps access.sockets (codes "net") (get_member (codes "net") ms)) (λ net h2. record { fs = h1; net = h2 })))

policy_keeps : (ms : Members) → Keeps KeepsLimits (policy_of ms)
policy_keeps ms =
    keeps_then KeptFront KeepsLimits (front_of ms) _ (front_keeps ms) (λ front h1.
    keeps_then (KeptBack front.limits.version) KeepsLimits (back_of front.limits.version ms) _ (back_keeps front.limits.version ms) (λ back h2. record {
      transfer_limit = h1.limits.0;
      slots = h1.limits.1;
      env_allow = h1.env.allow;
      env_set = h1.env.set;
      env_arguments = h1.env.arguments;
      env_cwd = h1.env.cwd;
      clocks_wall = h1.clocks;
      fs_host = h2.fs.host;
      fs_pass = h2.fs.pass;
      fs_tree = h2.fs.trees;
      fs_scratch = h2.fs.scratch;
      fs_names = h2.fs.names;
      net = h2.net.0;
      no_rules = h2.net.1;
    }))

-- a policy that a document gives keeps the limits and checks of policies
pub policy_kept : (ms : Members) (r : Result Policy ReadPolicyFault) → Gives (policy_of ms) r → IfOk r KeepsLimits
policy_kept ms (Ok policy) stands = subst (Keeps KeepsLimits) stands (policy_keeps ms)
policy_kept ms (Err fault) stands = tt

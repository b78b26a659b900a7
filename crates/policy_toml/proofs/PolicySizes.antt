-- A policy holds no more than its document, table by table.
use Rattle.std.proofs.Common.{◌≡◌, refl, subst, ℕ, suc, ◌+◌, ◌*◌, ◌≤◌, List, [], ◌∷◌, ◌++◌, Bool, true, false, length, map, Option, Some, None, Ok, Err, arith, le_refl}
use Rattle.std.specs.Prelude.{codes, ◌==◌, ◌||◌, nat_lt, if◌then◌else◌}
use Rattle.std.specs.List.{sum_by}
use Rattle.std.proofs.lemmas.Option.{none-some, same_Some}
use Rattle.toml.specs.Data.{Data, string, integer, float, boolean, datetime, array, table, Members, get_member}
use Rattle.toml_size.specs.Sizes.{data_size, members_size}
use Rattle.toml_size.proofs.Documents.{document_size}
use Rattle.policy_data.specs.declared.fault.ReadPolicyFault.TheVariants.{BadName, BadValue, OverLimit}
use Rattle.policy_data.specs.declared.words.Version.{Version}
use Rattle.policy_data.specs.declared.data.Arguments.TheVariants.{Deny as NoArguments, Given}
use Rattle.policy_data.specs.declared.data.WorkingDirectory.TheVariants.{Deny as NoCwd, Given as GivenFolder}
use Rattle.policy_data.specs.declared.data.Pass.{Pass}
use Rattle.policy_data.specs.declared.data.Scratch.{Scratch}
use Rattle.policy_data.specs.declared.policy.Policy.{Policy}
use Rattle.policy_data.specs.Sizes.{texts_size, variable_size, arguments_size, cwd_size, pass_size, content_size, file_size, link_size, embedded_size, tree_content_size, tree_size, scratch_size, policy_size}
use Rattle.policy_text.specs.Hex.{hex_digit, hex_pair, hex_bytes}
use Rattle.path_names.specs.Parts.{holds_byte}
use Rattle.path_names.specs.Paths.{Placed, is_path}
use Rattle.policy_toml.specs.declared.env.Env.{Env}
use Rattle.policy_toml.specs.declared.fs.Fs.{Fs}
use Rattle.policy_toml.specs.declared.policy.Front.{Front}
use Rattle.policy_toml.specs.declared.policy.Back.{Back}
use Rattle.policy_toml.specs.Reading.{and_then, each_member}
use Rattle.policy_toml.specs.Keys.{below, nth, known_keys, optional, required, table_in, part}
use Rattle.policy_toml.specs.Values.{choice_of, any_text, text_such, is_plain, is_variable, member_count, each, list_in, number_in, boolean_in}
use Rattle.policy_toml.specs.Environment.{env_keys, variable_of, variables_in, arguments_in, cwd_in, env_of}
use Rattle.policy_toml.specs.Contents.{hex_in, content_keys, one_content, content_of}
use Rattle.policy_toml.specs.Trees.{placed_at, file_placed, file_of, file_at, files_in, folder_placed, folder_of, folder_at, folders_in, target_in, link_placed, link_of, link_at, links_in, embedded_of, absent, mount_of, content_by, tree_keys, new_name, tree_of, tree_names, tree_at}
use Rattle.policy_toml.specs.Fs.{pass_keys, shown_names, pass_of, pass_at, host_of, scratch_keys, scratch_of, scratch_in, fs_keys, fs_of}
use Rattle.policy_toml.specs.Stdio.{stdio_keys, stdio_of}
use Rattle.policy_toml.specs.Clocks.{clocks_keys, clocks_of}
use Rattle.policy_toml.specs.Top.{limits_of, access_of}
use Rattle.policy_toml.specs.Net.{net_at}
use Rattle.policy_toml.specs.Policy.{top_keys, front_of, back_of, policy_of, IsWellFormed}
use Rattle.policy_toml.proofs.Sizes.{AtMost, most_more, most_then, most_after, at, total_most, Takes, TakesFields, optional_most, required_most, table_in_most, part_most, any_text_most, text_such_most, TakesItem, TakesMember, all_items_most, all_members_most, list_in_most, each_most}

-- ---- the environment

variable_if : (fits : Bool) (path name : List ℕ) (d : Data)
    → AtMost variable_size (length name + data_size d)
    (if fits then and_then (text_such is_plain path d) (λ value. Ok (record { name = name; value = value })) else Err (BadValue path))
variable_if true path name d =
    most_then length variable_size _ _ (text_such is_plain path d) _ (text_such_most is_plain path d) (λ value h. omega arith)
variable_if false path name d = tt

variable_most : (path : List ℕ) → TakesMember variable_size (variable_of path)
variable_most path seen name d = variable_if (is_variable name) (below path name) name d

variables_if : (too_many : Bool) (path : List ℕ) (n : ℕ) (ms : Members)
    → AtMost (sum_by variable_size) (members_size ms) (if too_many then Err (OverLimit path n) else each_member (variable_of path) [] ms)
variables_if true path n ms = tt
variables_if false path n ms = all_members_most variable_size (variable_of path) ms (variable_most path)

variables_most : Takes (sum_by variable_size) variables_in
variables_most path (table ms) = variables_if (nat_lt 1024 (member_count ms)) path (member_count ms) ms
variables_most path (string text) = tt
variables_most path (integer z) = tt
variables_most path (float x) = tt
variables_most path (boolean b) = tt
variables_most path (datetime dt) = tt
variables_most path (array ds) = tt

given_most : (path : List ℕ) (d : Data) → AtMost arguments_size (data_size d) (and_then (list_in 1024 (each (text_such is_plain)) path d) (λ given. Ok (Given given)))
given_most path d =
    most_then texts_size arguments_size _ _ (list_in 1024 (each (text_such is_plain)) path d) _
    (list_in_most length 1024 (each (text_such is_plain)) (each_most length (text_such is_plain) (text_such_most is_plain)) path d) (λ given h. h)

arguments_most : Takes arguments_size arguments_in
arguments_most path (boolean true) = le_refl 0
arguments_most path (boolean false) = le_refl 0
arguments_most path (string text) = given_most path (string text)
arguments_most path (integer z) = given_most path (integer z)
arguments_most path (float x) = given_most path (float x)
arguments_most path (datetime dt) = given_most path (datetime dt)
arguments_most path (array ds) = given_most path (array ds)
arguments_most path (table ms) = given_most path (table ms)

folder_most : (path : List ℕ) (d : Data) → AtMost cwd_size (data_size d) (and_then (text_such is_plain path d) (λ given. Ok (GivenFolder given)))
folder_most path d = most_then length cwd_size _ _ (text_such is_plain path d) _ (text_such_most is_plain path d) (λ given h. h)

cwd_most : Takes cwd_size cwd_in
cwd_most path (boolean true) = le_refl 0
cwd_most path (boolean false) = le_refl 0
cwd_most path (string text) = folder_most path (string text)
cwd_most path (integer z) = folder_most path (integer z)
cwd_most path (float x) = folder_most path (float x)
cwd_most path (datetime dt) = folder_most path (datetime dt)
cwd_most path (array ds) = folder_most path (array ds)
cwd_most path (table ms) = folder_most path (table ms)

abbrev env_size : Env → ℕ
env_size env = texts_size env.allow + (sum_by variable_size env.set + (arguments_size env.arguments + cwd_size env.cwd))

env_most : TakesFields env_size env_of
env_most path ms =
    let parts = total_most (codes "allow" ∷ codes "set" ∷ codes "arguments" ∷ codes "cwd" ∷ []) ms refl in
    most_after env_size _ (optional path (codes "pass") false boolean_in ms) _ (λ pass.
    most_then texts_size env_size _ _ (optional path (codes "allow") [] (list_in 1024 (each (text_such is_variable))) ms) _
    (optional_most texts_size path (codes "allow") [] (list_in 1024 (each (text_such is_variable))) ms refl
    (list_in_most length 1024 (each (text_such is_variable)) (each_most length (text_such is_variable) (text_such_most is_variable)))) (λ allow h1.
    most_then (sum_by variable_size) env_size _ _ (optional path (codes "set") [] variables_in ms) _
    (optional_most (sum_by variable_size) path (codes "set") [] variables_in ms refl variables_most) (λ set h2.
    most_then arguments_size env_size _ _ (optional path (codes "arguments") NoArguments arguments_in ms) _
    (optional_most arguments_size path (codes "arguments") NoArguments arguments_in ms refl arguments_most) (λ arguments h3.
    most_then cwd_size env_size _ _ (optional path (codes "cwd") NoCwd cwd_in ms) _
    (optional_most cwd_size path (codes "cwd") NoCwd cwd_in ms refl cwd_most) (λ cwd h4. omega arith)))))

-- ---- what a file holds

hex_pair_length : (high low : Option ℕ) (o : Option (List ℕ)) (n : ℕ) (bytes : List ℕ) → ((more : List ℕ) → o ≡ Some more → length more ≤ n)
    → hex_pair high low o ≡ Some bytes → length bytes ≤ suc (suc n)
hex_pair_length None low o n bytes h e = absurd (none-some bytes e)
hex_pair_length (Some high) None o n bytes h e = absurd (none-some bytes e)
hex_pair_length (Some high) (Some low) None n bytes h e = absurd (none-some bytes e)
hex_pair_length (Some high) (Some low) (Some more) n bytes h e =
    let is : (high * 16 + low) ∷ more ≡ bytes = same_Some _ bytes e in
    rw (← is) (omega (arith, h more refl))

-- two digits spell a byte
hex_length : (digits : List ℕ) (bytes : List ℕ) → hex_bytes digits ≡ Some bytes → length bytes ≤ length digits
hex_length [] bytes e = let none : [] ≡ bytes = same_Some [] bytes e in rw (← none) (omega arith)
hex_length (digit ∷ []) bytes e = absurd (none-some bytes e)
hex_length (high ∷ low ∷ digits) bytes e = hex_pair_length (hex_digit high) (hex_digit low) (hex_bytes digits) (length digits) bytes (λ more h. hex_length digits more h) e

digits_most : (path : List ℕ) (n : ℕ) (o : Option (List ℕ)) → ((bytes : List ℕ) → o ≡ Some bytes → length bytes ≤ n) → AtMost length n (choice_of path o)
digits_most path n None h = tt
digits_most path n (Some bytes) h = h bytes refl

hex_most : Takes length hex_in
hex_most path (string digits) = digits_most path (length digits) (hex_bytes digits) (hex_length digits)
hex_most path (integer z) = tt
hex_most path (float x) = tt
hex_most path (boolean b) = tt
hex_most path (datetime dt) = tt
hex_most path (array ds) = tt
hex_most path (table ms) = tt

abbrev held : Option Data → ℕ
held None = 0
held (Some d) = data_size d

one_content_most : (path : List ℕ) (a b c : Option Data) → AtMost content_size (held a + (held b + held c)) (one_content path a b c)
one_content_most path (Some d) None None =
    most_then length content_size _ _ (any_text (below path (codes "text")) d) _ (any_text_most (below path (codes "text")) d) (λ bytes h. omega arith)
one_content_most path None (Some d) None =
    most_then length content_size _ _ (hex_in (below path (codes "hex")) d) _ (hex_most (below path (codes "hex")) d) (λ bytes h. omega arith)
one_content_most path None None (Some d) =
    most_then length content_size _ _ (any_text (below path (codes "file")) d) _ (any_text_most (below path (codes "file")) d) (λ name h. omega arith)
one_content_most path None None None = tt
one_content_most path None (Some d) (Some e) = tt
one_content_most path (Some d) (Some e) None = tt
one_content_most path (Some d) None (Some e) = tt
one_content_most path (Some d) (Some e) (Some f) = tt

content_most : TakesFields content_size content_of
content_most path ms =
    let parts = total_most (codes "text" ∷ codes "hex" ∷ codes "file" ∷ []) ms refl in
    let a = get_member (codes "text") ms in let b = get_member (codes "hex") ms in let c = get_member (codes "file") ms in
    let fits : held a + (held b + held c) ≤ members_size ms = omega arith in
    most_more content_size _ _ (one_content path a b c) fits (one_content_most path a b c)

-- ---- trees

file_if : (fits : Bool) (path key : List ℕ) (d : Data)
    → AtMost file_size (length key + data_size d)
    (if fits then and_then (table_in content_keys content_of path d) (λ content. Ok (record { path = key; content = content })) else Err (BadName path))
file_if true path key d =
    most_then content_size file_size _ _ (table_in content_keys content_of path d) _ (table_in_most content_size content_keys content_of content_most path d) (λ content h. omega arith)
file_if false path key d = tt

file_most : (path : List ℕ) → TakesMember file_size (file_at path)
file_most path seen key d =
    most_then file_size file_size _ _ (file_of (below path key) key d) _ (file_if (is_path key) (below path key) key d)
    (λ file h. most_after file_size _ (placed_at (below path key) (file_placed file) (map file_placed seen)) _ (λ _. h))

files_most : Takes (sum_by file_size) files_in
files_most path (table ms) = all_members_most file_size (file_at path) ms (file_most path)
files_most path (string text) = tt
files_most path (integer z) = tt
files_most path (float x) = tt
files_most path (boolean b) = tt
files_most path (datetime dt) = tt
files_most path (array ds) = tt

folder_if : (fits : Bool) (path folder : List ℕ) → AtMost length (length folder) (if fits then Ok folder else Err (BadName path))
folder_if true path folder = le_refl (length folder)
folder_if false path folder = tt

folder_of_most : Takes length folder_of
folder_of_most path (string folder) = folder_if (is_path folder) path folder
folder_of_most path (integer z) = tt
folder_of_most path (float x) = tt
folder_of_most path (boolean b) = tt
folder_of_most path (datetime dt) = tt
folder_of_most path (array ds) = tt
folder_of_most path (table ms) = tt

folder_at_most : (path : List ℕ) (there : List Placed) → TakesItem length (folder_at path there)
folder_at_most path there seen d =
    most_then length length _ _ (folder_of (nth path (length seen)) d) _ (folder_of_most (nth path (length seen)) d)
    (λ folder h. most_after length _ (placed_at (nth path (length seen)) (folder_placed folder) (there ++ map folder_placed seen)) _ (λ _. h))

folders_most : (there : List Placed) → Takes texts_size (folders_in there)
folders_most there path (array ds) = all_items_most length (folder_at path there) ds (folder_at_most path there)
folders_most there path (string text) = tt
folders_most there path (integer z) = tt
folders_most there path (float x) = tt
folders_most there path (boolean b) = tt
folders_most there path (datetime dt) = tt
folders_most there path (table ms) = tt

target_if : (bad too_long : Bool) (path target : List ℕ) (n : ℕ)
    → AtMost length (length target) (if bad then Err (BadValue path) else (if too_long then Err (OverLimit path n) else Ok target))
target_if true too_long path target n = tt
target_if false true path target n = tt
target_if false false path target n = le_refl (length target)

target_most : Takes length target_in
target_most path (string target) = target_if ((length target == 0) || holds_byte 0 target) (nat_lt 4096 (length target)) path target (length target)
target_most path (integer z) = tt
target_most path (float x) = tt
target_most path (boolean b) = tt
target_most path (datetime dt) = tt
target_most path (array ds) = tt
target_most path (table ms) = tt

link_if : (fits : Bool) (path key : List ℕ) (d : Data)
    → AtMost link_size (length key + data_size d)
    (if fits then and_then (target_in path d) (λ target. Ok (record { path = key; target = target })) else Err (BadName path))
link_if true path key d = most_then length link_size _ _ (target_in path d) _ (target_most path d) (λ target h. omega arith)
link_if false path key d = tt

link_most : (path : List ℕ) (there : List Placed) → TakesMember link_size (link_at path there)
link_most path there seen key d =
    most_then link_size link_size _ _ (link_of (below path key) key d) _ (link_if (is_path key) (below path key) key d)
    (λ link h. most_after link_size _ (placed_at (below path key) (link_placed link) (there ++ map link_placed seen)) _ (λ _. h))

links_most : (there : List Placed) → Takes (sum_by link_size) (links_in there)
links_most there path (table ms) = all_members_most link_size (link_at path there) ms (link_most path there)
links_most there path (string text) = tt
links_most there path (integer z) = tt
links_most there path (float x) = tt
links_most there path (boolean b) = tt
links_most there path (datetime dt) = tt
links_most there path (array ds) = tt

embedded_most : (path : List ℕ) (ms : Members) → AtMost embedded_size (at (codes "files") ms + (at (codes "folders") ms + at (codes "links") ms)) (embedded_of path ms)
embedded_most path ms =
    most_then (sum_by file_size) embedded_size _ _ (optional path (codes "files") [] files_in ms) _
    (optional_most (sum_by file_size) path (codes "files") [] files_in ms refl files_most) (λ files h1.
    most_then texts_size embedded_size _ _ (optional path (codes "folders") [] (folders_in (map file_placed files)) ms) _
    (optional_most texts_size path (codes "folders") [] (folders_in (map file_placed files)) ms refl (folders_most (map file_placed files))) (λ folders h2.
    let there = map file_placed files ++ map folder_placed folders in
    most_then (sum_by link_size) embedded_size _ _ (optional path (codes "links") [] (links_in there) ms) _
    (optional_most (sum_by link_size) path (codes "links") [] (links_in there) ms refl (links_most there)) (λ links h3. omega arith)))

mount_most : (path : List ℕ) (d : Data) (ms : Members) → AtMost tree_content_size (data_size d) (mount_of path d ms)
mount_most path d ms =
    most_then length tree_content_size _ _ (any_text (below path (codes "mount")) d) _ (any_text_most (below path (codes "mount")) d) (λ folder h.
    most_after tree_content_size _ (absent path (codes "files") ms) _ (λ _.
    most_after tree_content_size _ (absent path (codes "folders") ms) _ (λ _.
    most_after tree_content_size _ (absent path (codes "links") ms) _ (λ _. h))))

content_by_most : (path : List ℕ) (o : Option Data) (ms : Members)
    → AtMost tree_content_size (held o + (at (codes "files") ms + (at (codes "folders") ms + at (codes "links") ms))) (content_by path o ms)
content_by_most path (Some d) ms =
    let fits : data_size d ≤ held (Some d) + (at (codes "files") ms + (at (codes "folders") ms + at (codes "links") ms)) = omega arith in
    most_more tree_content_size _ _ (mount_of path d ms) fits (mount_most path d ms)
content_by_most path None ms =
    most_then embedded_size tree_content_size _ _ (embedded_of path ms) _ (embedded_most path ms) (λ embedded h. omega arith)

tree_fields_most : (taken : List (List ℕ)) → TakesFields tree_size (tree_of taken)
tree_fields_most taken path ms =
    let parts = total_most (codes "name" ∷ codes "mount" ∷ codes "files" ∷ codes "folders" ∷ codes "links" ∷ []) ms refl in
    let mount = get_member (codes "mount") ms in
    most_then length tree_size _ _ (required path (codes "name") (new_name taken) ms) _
    (required_most length path (codes "name") (new_name taken) ms (text_such_most _)) (λ name h1.
    most_then tree_content_size tree_size _ _ (content_by path mount ms) _ (content_by_most path mount ms) (λ content h2. omega arith))

tree_most : (version : Version) (shown : List (List ℕ)) (path : List ℕ) → TakesItem tree_size (tree_at version shown path)
tree_most version shown path seen d =
    let taken = shown ++ tree_names seen in
    table_in_most tree_size (tree_keys version) (tree_of taken) (tree_fields_most taken) (nth path (length seen)) d

-- ---- the table of files

pass_fields_most : (seen : List Pass) → TakesFields pass_size (pass_of seen)
pass_fields_most seen path ms =
    let parts = total_most (codes "host" ∷ codes "as" ∷ []) ms refl in
    most_then length pass_size _ _ (required path (codes "host") any_text ms) _ (required_most length path (codes "host") any_text ms any_text_most) (λ host h1.
    most_then length pass_size _ _ (required path (codes "as") (new_name (shown_names seen)) ms) _
    (required_most length path (codes "as") (new_name (shown_names seen)) ms (text_such_most _)) (λ shown h2. omega arith))

pass_most : (path : List ℕ) → TakesItem pass_size (pass_at path)
pass_most path seen d = table_in_most pass_size pass_keys (pass_of seen) (pass_fields_most seen) (nth path (length seen)) d

scratch_fields_most : (taken : List (List ℕ)) → TakesFields (λ (scratch : Scratch). length scratch.name) (scratch_of taken)
scratch_fields_most taken path ms =
    let parts = total_most (codes "name" ∷ []) ms refl in
    let named : Scratch → ℕ = λ scratch. length scratch.name in
    most_then length named _ _ (required path (codes "name") (new_name taken) ms) _
    (required_most length path (codes "name") (new_name taken) ms (text_such_most _)) (λ name h.
    most_after named _ (required path (codes "blocks") (number_in 1 8192) ms) _ (λ blocks.
    most_after named _ (required path (codes "files") (number_in 1 256) ms) _ (λ files. omega arith)))

scratch_most : (taken : List (List ℕ)) → Takes scratch_size (scratch_in taken)
scratch_most taken path d =
    most_then (λ (scratch : Scratch). length scratch.name) scratch_size _ _ (table_in scratch_keys (scratch_of taken) path d) _
    (table_in_most (λ (scratch : Scratch). length scratch.name) scratch_keys (scratch_of taken) (scratch_fields_most taken) path d) (λ scratch h. h)

abbrev fs_size : Fs → ℕ
fs_size fs = sum_by pass_size fs.pass + (sum_by tree_size fs.tree + scratch_size fs.scratch)

fs_most : (version : Version) → TakesFields fs_size (fs_of version)
fs_most version path ms =
    let parts = total_most (codes "pass" ∷ codes "tree" ∷ codes "scratch" ∷ []) ms refl in
    most_after fs_size _ (host_of path ms) _ (λ host.
    most_then (sum_by pass_size) fs_size _ _ (optional path (codes "pass") [] (list_in 64 pass_at) ms) _
    (optional_most (sum_by pass_size) path (codes "pass") [] (list_in 64 pass_at) ms refl (list_in_most pass_size 64 pass_at pass_most)) (λ pass h1.
    let shown = shown_names pass in
    most_then (sum_by tree_size) fs_size _ _ (optional path (codes "tree") [] (list_in 64 (tree_at version shown)) ms) _
    (optional_most (sum_by tree_size) path (codes "tree") [] (list_in 64 (tree_at version shown)) ms refl (list_in_most tree_size 64 (tree_at version shown) (tree_most version shown))) (λ tree h2.
    let taken = shown ++ tree_names tree in
    most_then scratch_size fs_size _ _ (optional path (codes "scratch") None (scratch_in taken) ms) _
    (optional_most scratch_size path (codes "scratch") None (scratch_in taken) ms refl (scratch_most taken)) (λ scratch h3. omega arith))))

-- ---- the whole policy

front_most : (ms : Members) → AtMost (λ (front : Front). env_size front.env) (at (codes "env") ms) (front_of ms)
front_most ms =
    let size : Front → ℕ = λ front. env_size front.env in
    most_after size _ (known_keys [] top_keys ms) _ (λ _.
    most_after size _ (limits_of ms) _ (λ limits.
    most_then env_size size _ _ (part (codes "env") env_keys env_of ms) _ (part_most env_size (codes "env") env_keys env_of ms env_most) (λ env h.
    most_after size _ (part (codes "stdio") stdio_keys stdio_of ms) _ (λ stdio.
    most_after size _ (part (codes "clocks") clocks_keys clocks_of ms) _ (λ clocks. h)))))

back_most : (version : Version) (ms : Members) → AtMost (λ (back : Back). fs_size back.fs) (at (codes "fs") ms) (back_of version ms)
back_most version ms =
    let size : Back → ℕ = λ back. fs_size back.fs in
    most_after size _ (access_of ms) _ (λ access.
    most_then fs_size size _ _ (part (codes "fs") fs_keys (fs_of version) ms) _ (part_most fs_size (codes "fs") fs_keys (fs_of version) ms (fs_most version)) (λ fs h.
    most_after size _ (net_at access.sockets ms) _ (λ net. h)))

policy_most : (ms : Members) → AtMost policy_size (members_size ms) (policy_of ms)
policy_most ms =
    let parts = total_most (codes "env" ∷ codes "fs" ∷ []) ms refl in
    most_then (λ (front : Front). env_size front.env) policy_size _ _ (front_of ms) _ (front_most ms) (λ front h1.
    most_then (λ (back : Back). fs_size back.fs) policy_size _ _ (back_of front.limits.version ms) _ (back_most front.limits.version ms) (λ back h2. omega arith))

-- a policy is no longer than its text
pub policy_bounded : (text : List ℕ) (policy : Policy) → IsWellFormed text policy → policy_size policy ≤ length text
policy_bounded text policy h =
    let (utf8, ms, reads, stands) = h in
    let most : policy_size policy ≤ members_size ms = subst (AtMost policy_size (members_size ms)) stands (policy_most ms) in
    omega (arith, document_size text ms reads)

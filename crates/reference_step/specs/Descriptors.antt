-- wasi:filesystem/types, resource descriptor: what its methods do where a descriptor is not the host's. Each row goes by what the
-- descriptor stands for: a folder or a file of a tree, the scratch folder, or a file in it.
use Rattle.std.specs.Prelude.{ℕ, ◌+◌, ◌-◌, ◌==◌, min, Bool, true, false, not, ◌&&◌, ◌||◌, List, [], ◌∷◌, length, take, drop, Option, Some, None, unwrap_or, if◌then◌else◌}
use Rattle.wit_types.specs.PlainValue.{PlainValue, BoolValue, StringValue, FlagsValue}
use Rattle.tree_table.specs.declared.entries.Node.{Node as TreeNode}
use Rattle.tree_table.specs.declared.entries.Node.TheVariants.{File, Link}
use Rattle.tree_table.specs.Paths.{Path, Answer, At, Fails}
use Rattle.tree_table.specs.Trees.{same_path}
use Rattle.tree_table.specs.Scratches.{ScratchMap, content_at, name_at, free_number, created, removed, renamed, sized, written, with_content}
use Rattle.reference_step.specs.Codes as code
use Rattle.reference_step.specs.Handles.{Content, Node, FileAt, Entries, ScratchRoot, ScratchEntries, ScratchFile, ScratchIn, ScratchOut}
use Rattle.reference_step.specs.Values.{number, numbers, label, ok, done, record_of, has_flag}
use Rattle.reference_step.specs.Nodes.{node_at, lead, type_of, size_of, children_at, place_at, Found, TheRoot, TheFile, Missing, lead_in, NewName, Named, Unnamed, new_name, stat_value, hash_value}
use Rattle.reference_step.specs.State.{View, Row, returns, fails, gives_ok, gives_ok_in, stores}

-- ---- flags: path-flags { symlink-follow }, open-flags { create, directory, exclusive, truncate },
-- descriptor-flags { read, write, file-integrity-sync, data-integrity-sync, requested-write-sync, mutate-directory }

abbrev pub symlink-follow : ℕ → Bool
symlink-follow bits = has_flag 0 bits

abbrev pub create : ℕ → Bool
create bits = has_flag 0 bits

abbrev pub directory : ℕ → Bool
directory bits = has_flag 1 bits

abbrev pub exclusive : ℕ → Bool
exclusive bits = has_flag 2 bits

abbrev pub truncate : ℕ → Bool
truncate bits = has_flag 3 bits

abbrev pub write_flag : ℕ → Bool
write_flag bits = has_flag 1 bits

abbrev pub mutate-directory : ℕ → Bool
mutate-directory bits = has_flag 5 bits

-- ---- at what a path leads to

abbrev pub at_found : Answer → (Path → Row) → Row
at_found (Fails e) go = fails e
at_found (At path) go = go path

abbrev pub in_scratch : Found → Row → (ℕ → Row) → Row
in_scratch (Missing e) root file = fails e
in_scratch TheRoot root file = root
in_scratch (TheFile n) root file = file n

-- where the quota allows a change
abbrev pub stored : Option ScratchMap → PlainValue → Row
stored None v = fails code.insufficient_space
stored (Some m) v = stores m v

-- ---- streams

abbrev pub stream_at : Option TreeNode → ℕ → (ℕ → Content) → Row
stream_at (Some (File content)) offset at = gives_ok (at (min offset (length content)))
stream_at _ offset at = fails code.is_directory

-- read-via-stream(offset)
abbrev pub read-via-stream : View → Content → ℕ → Row
read-via-stream v (Node tree path) offset = stream_at (node_at v.trees tree path) offset (FileAt tree path)
read-via-stream v (ScratchFile n may_write) offset = gives_ok (ScratchIn n offset)
read-via-stream v _ offset = fails code.is_directory

-- write-via-stream(offset)
abbrev pub write-via-stream : View → Content → ℕ → Row
write-via-stream v ScratchRoot offset = fails code.is_directory
write-via-stream v (ScratchFile n may_write) offset = if may_write then gives_ok (ScratchOut n (Some offset)) else fails code.bad_descriptor
write-via-stream v _ offset = fails code.read_only

abbrev pub append-via-stream : View → Content → Row
append-via-stream v ScratchRoot = fails code.is_directory
append-via-stream v (ScratchFile n may_write) = if may_write then gives_ok (ScratchOut n None) else fails code.bad_descriptor
append-via-stream v _ = fails code.read_only

-- ---- the file itself

-- advise, sync, sync-data
abbrev pub advise : Row
advise = returns done

-- set-size(size)
abbrev pub set-size : View → Content → ℕ → Row
set-size v ScratchRoot size = fails code.is_directory
set-size v (ScratchFile n may_write) size = if may_write then stored (sized v.scratch n size) done else fails code.bad_descriptor
set-size v _ size = fails code.read_only

abbrev pub set-times : Content → Row
set-times ScratchRoot = returns done
set-times (ScratchFile n may_write) = returns done
set-times _ = fails code.read_only

abbrev pub get-flags : Content → Row
get-flags ScratchRoot = returns (ok (FlagsValue 33))
get-flags (ScratchFile n may_write) = returns (ok (FlagsValue (if may_write then 3 else 1)))
get-flags _ = returns (ok (FlagsValue 1))

abbrev pub get-type : View → Content → Row
get-type v (Node tree path) = returns (ok (label (type_of (node_at v.trees tree path))))
get-type v (ScratchFile n may_write) = returns (ok (label code.regular_file))
get-type v _ = returns (ok (label code.directory))

-- the bytes from an offset on, that many at most, and whether they reach the end
abbrev pub bytes_from : List ℕ → (length offset : ℕ) → PlainValue
bytes_from content len offset =
    let s = min offset (length content) in
    let n = min len (length content - s) in
    ok (record_of (numbers (take n (drop s content)) ∷ BoolValue (s + n == length content) ∷ []))

abbrev pub read_node : Option TreeNode → ℕ → ℕ → Row
read_node (Some (File content)) len offset = returns (bytes_from content len offset)
read_node _ len offset = fails code.is_directory

-- read(length, offset)
abbrev pub read : View → Content → ℕ → ℕ → Row
read v (Node tree path) len offset = read_node (node_at v.trees tree path) len offset
read v (ScratchFile n may_write) len offset = returns (bytes_from (content_at v.scratch n) len offset)
read v _ len offset = fails code.is_directory

-- write(buffer, offset)
abbrev pub write : View → Content → List ℕ → ℕ → Row
write v ScratchRoot bytes offset = fails code.is_directory
write v (ScratchFile n may_write) bytes offset = if may_write then stored (written v.scratch n offset bytes) (ok (number (length bytes))) else fails code.bad_descriptor
write v _ bytes offset = fails code.read_only

-- ---- folders

abbrev pub listed : Option TreeNode → Content → Row
listed (Some (File content)) entries = fails code.not_directory
listed _ entries = gives_ok entries

abbrev pub read-directory : View → Content → Row
read-directory v (Node tree path) = listed (node_at v.trees tree path) (Entries (children_at v.trees tree path))
read-directory v (ScratchFile n may_write) = fails code.not_directory
read-directory v _ = gives_ok (ScratchEntries 0)

-- create-directory-at, symlink-at
abbrev pub create-directory-at : Content → Row
create-directory-at ScratchRoot = fails code.unsupported
create-directory-at (ScratchFile n may_write) = fails code.not_directory
create-directory-at _ = fails code.read_only

-- remove-directory-at(path)
abbrev pub remove-directory-at : View → Content → List ℕ → Row
remove-directory-at v ScratchRoot path = in_scratch (lead_in v.scratch path) (fails code.busy) (λ n. fails code.not_directory)
remove-directory-at v (ScratchFile n may_write) path = fails code.not_directory
remove-directory-at v _ path = fails code.read_only

-- unlink-file-at(path)
abbrev pub unlink-file-at : View → Content → List ℕ → Row
unlink-file-at v ScratchRoot path = in_scratch (lead_in v.scratch path) (fails code.is_directory) (λ n. if v.held n then fails code.busy else stores (removed v.scratch n) done)
unlink-file-at v (ScratchFile n may_write) path = fails code.not_directory
unlink-file-at v _ path = fails code.read_only

-- ---- what is known of a node

abbrev pub stat_of : Option TreeNode → PlainValue
stat_of node = ok (stat_value (type_of node) (size_of node))

abbrev pub stat_root : Row
stat_root = returns (ok (stat_value code.directory 0))

abbrev pub stat_file : View → ℕ → Row
stat_file v n = returns (ok (stat_value code.regular_file (length (content_at v.scratch n))))

abbrev pub stat : View → Content → Row
stat v (Node tree path) = returns (stat_of (node_at v.trees tree path))
stat v (ScratchFile n may_write) = stat_file v n
stat v _ = stat_root

-- stat-at(path-flags, path)
abbrev pub stat-at : View → Content → ℕ → List ℕ → Row
stat-at v (Node tree path) flags text = at_found (lead v.trees tree path text (symlink-follow flags)) (λ found. returns (stat_of (node_at v.trees tree found)))
stat-at v ScratchRoot flags text = in_scratch (lead_in v.scratch text) stat_root (λ n. stat_file v n)
stat-at v _ flags text = fails code.not_directory

-- set-times-at(path-flags, path, new-timestamp, new-timestamp)
abbrev pub set-times-at : View → Content → List ℕ → Row
set-times-at v ScratchRoot text = in_scratch (lead_in v.scratch text) (returns done) (λ n. returns done)
set-times-at v (ScratchFile n may_write) text = fails code.not_directory
set-times-at v _ text = fails code.read_only

-- a path's place in its tree's order, and its tree's place, from 1
abbrev pub hash_of : View → ℕ → Path → Row
hash_of v tree path = returns (ok (hash_value (place_at v.trees tree path) (tree + 1)))

-- the scratch folder counts as one tree more
abbrev pub hash_root : View → Row
hash_root v = returns (ok (hash_value 0 (length v.trees + 1)))

abbrev pub hash_file : View → ℕ → Row
hash_file v n = returns (ok (hash_value (n + 1) (length v.trees + 1)))

abbrev pub metadata-hash : View → Content → Row
metadata-hash v (Node tree path) = hash_of v tree path
metadata-hash v (ScratchFile n may_write) = hash_file v n
metadata-hash v _ = hash_root v

-- metadata-hash-at(path-flags, path)
abbrev pub metadata-hash-at : View → Content → ℕ → List ℕ → Row
metadata-hash-at v (Node tree path) flags text = at_found (lead v.trees tree path text (symlink-follow flags)) (λ found. hash_of v tree found)
metadata-hash-at v ScratchRoot flags text = in_scratch (lead_in v.scratch text) (hash_root v) (λ n. hash_file v n)
metadata-hash-at v _ flags text = fails code.not_directory

abbrev pub link_at : Option TreeNode → Row
link_at (Some (Link target)) = returns (ok (StringValue target))
link_at _ = fails code.invalid

-- readlink-at(path)
abbrev pub readlink-at : View → Content → List ℕ → Row
readlink-at v (Node tree path) text = at_found (lead v.trees tree path text false) (λ found. link_at (node_at v.trees tree found))
readlink-at v ScratchRoot text = in_scratch (lead_in v.scratch text) (fails code.invalid) (λ n. fails code.invalid)
readlink-at v _ text = fails code.not_directory

-- is-same-object(other)
abbrev pub same_file : ℕ → Content → Bool
same_file n (ScratchFile m may_write) = n == m
same_file n _ = false

abbrev pub same_node : ℕ → Path → Content → Bool
same_node tree path (Node other_tree other_path) = tree == other_tree && same_path path other_path
same_node tree path _ = false

abbrev pub is_root : Content → Bool
is_root ScratchRoot = true
is_root _ = false

abbrev pub are_same : Content → Content → Bool
are_same (Node tree path) other = same_node tree path other
are_same ScratchRoot other = is_root other
are_same (ScratchFile n may_write) other = same_file n other
are_same _ other = false

abbrev pub is-same-object : Content → Content → Row
is-same-object c other = returns (BoolValue (are_same c other))

-- ---- opening

abbrev pub open_found : Option TreeNode → ℕ → Path → ℕ → Row
open_found (Some (Link target)) tree path flags = if exclusive flags then fails code.exist else fails code.loop
open_found (Some (File content)) tree path flags = if exclusive flags then fails code.exist else if directory flags then fails code.not_directory else gives_ok (Node tree path)
open_found _ tree path flags = if exclusive flags then fails code.exist else gives_ok (Node tree path)

-- where a path leads from a node of a tree
abbrev pub open_led : View → ℕ → Answer → ℕ → Row
open_led v tree (Fails e) flags = if e == code.no_entry && create flags then fails code.read_only else fails e
open_led v tree (At found) flags = open_found (node_at v.trees tree found) tree found flags

-- of a node of a tree, nothing can be changed
abbrev pub open_node : View → ℕ → Path → ℕ → List ℕ → ℕ → ℕ → Row
open_node v tree path follow text flags rights =
    if write_flag rights || mutate-directory rights || truncate flags then fails code.read_only
    else open_led v tree (lead v.trees tree path text (symlink-follow follow)) flags

abbrev pub open_made : View → List ℕ → Option ℕ → ℕ → Row
open_made v name None rights = fails code.insufficient_space
open_made v name (Some n) rights = gives_ok_in (created v.scratch n name) (ScratchFile n (write_flag rights))

abbrev pub open_new : View → NewName → ℕ → Row
open_new v (Unnamed e) rights = fails e
open_new v (Named name) rights = open_made v name (free_number v.scratch) rights

abbrev pub open_missing : View → ℕ → List ℕ → ℕ → ℕ → Row
open_missing v e text flags rights =
    if not (e == code.no_entry) then fails e
    else if not (create flags) then fails code.no_entry
    else if directory flags then fails code.invalid
    else open_new v (new_name text) rights

abbrev pub open_root : ℕ → ℕ → Row
open_root flags rights =
    if exclusive flags then fails code.exist
    else if write_flag rights || truncate flags then fails code.is_directory
    else gives_ok ScratchRoot

abbrev pub open_file : View → ℕ → ℕ → ℕ → Row
open_file v n flags rights =
    if exclusive flags then fails code.exist
    else if directory flags then fails code.not_directory
    else if truncate flags && not (write_flag rights) then fails code.invalid
    else if truncate flags then gives_ok_in (with_content v.scratch n []) (ScratchFile n true)
    else gives_ok (ScratchFile n (write_flag rights))

abbrev pub open_scratch : View → Found → List ℕ → ℕ → ℕ → Row
open_scratch v (Missing e) text flags rights = open_missing v e text flags rights
open_scratch v TheRoot text flags rights = open_root flags rights
open_scratch v (TheFile n) text flags rights = open_file v n flags rights

-- open-at(path-flags, path, open-flags, descriptor-flags)
abbrev pub open-at : View → Content → ℕ → List ℕ → ℕ → ℕ → Row
open-at v (Node tree path) follow text flags rights = open_node v tree path follow text flags rights
open-at v ScratchRoot follow text flags rights = open_scratch v (lead_in v.scratch text) text flags rights
open-at v _ follow text flags rights = fails code.not_directory

-- ---- two descriptors

-- what two descriptors are together, of which one at least is not the host's
pub data Pair : Type 0 where
  -- both of trees
  Embedded : Pair
  -- both the scratch folder
  BothRoots : Pair
  -- both of the scratch folder, and one a file
  WithFile : Pair
  Mixed : Pair

abbrev pub with_node : Content → Pair
with_node (Node tree path) = Embedded
with_node _ = Mixed

abbrev pub with_root : Content → Pair
with_root ScratchRoot = BothRoots
with_root (ScratchFile n may_write) = WithFile
with_root _ = Mixed

abbrev pub with_file : Content → Pair
with_file ScratchRoot = WithFile
with_file (ScratchFile n may_write) = WithFile
with_file _ = Mixed

abbrev pub pair_of : Content → Content → Pair
pair_of (Node tree path) other = with_node other
pair_of ScratchRoot other = with_root other
pair_of (ScratchFile n may_write) other = with_file other
pair_of _ other = Mixed

abbrev pub link_pair : Pair → Row
link_pair Embedded = fails code.read_only
link_pair BothRoots = fails code.unsupported
link_pair WithFile = fails code.not_directory
link_pair Mixed = fails code.cross_device

-- link-at(path-flags, old path, new descriptor, new path)
abbrev pub link-at : Content → Content → Row
link-at c other = link_pair (pair_of c other)

abbrev pub rename_new : View → ℕ → NewName → Row
rename_new v n (Unnamed e) = fails e
rename_new v n (Named name) = stores (renamed v.scratch n name) done

-- the new path leads to a file: the same, or one that is replaced
abbrev pub rename_over : View → ℕ → ℕ → Row
rename_over v n k =
    if k == n then returns done
    else if v.held k then fails code.busy
    else stores (renamed v.scratch n (unwrap_or (name_at v.scratch k) [])) done

abbrev pub rename_to : View → ℕ → Found → List ℕ → Row
rename_to v n TheRoot text = fails code.exist
rename_to v n (TheFile k) text = rename_over v n k
rename_to v n (Missing e) text = if e == code.no_entry then rename_new v n (new_name text) else fails e

abbrev pub rename_pair : View → Pair → List ℕ → List ℕ → Row
rename_pair v Embedded old new = fails code.read_only
rename_pair v BothRoots old new = in_scratch (lead_in v.scratch old) (fails code.busy) (λ n. rename_to v n (lead_in v.scratch new) new)
rename_pair v WithFile old new = fails code.not_directory
rename_pair v Mixed old new = fails code.cross_device

-- rename-at(old path, new descriptor, new path)
abbrev pub rename-at : View → Content → Content → List ℕ → List ℕ → Row
rename-at v c other old new = rename_pair v (pair_of c other) old new

-- What rows make: nothing of the host, and something of the scratch folder only from something of it.
use Rattle.std.proofs.Common.{◌≡◌, refl, ap, subst, ℕ, zero, suc, List, [], ◌∷◌, Bool, true, false, Option, Some, None, cond}
use Rattle.std.specs.Prelude.{slice_index_or, codes, if◌then◌else◌, find, not, ◌||◌, ◌&&◌, ◌==◌, nat_le, length}
use Rattle.std.specs.Str.{bytes_eq}
use Rattle.std.proofs.lemmas.Slice.Eq.{bytes_eq-Decides}
use Rattle.wit_types.specs.Plain.{Name}
use Rattle.wit_types.specs.PlainValue.{PlainValue, PlainValues}
use Rattle.tree_table.specs.Scratches.{ScratchMap, removed}
use Rattle.tree_table.specs.declared.entries.Node.{Node as TreeNode}
use Rattle.tree_table.specs.declared.entries.Node.TheVariants.{Folder, File, Link}
use Rattle.tree_table.specs.Paths.{Path, Answer, At, Fails}
use Rattle.reference_step.specs.Codes as code
use Rattle.reference_step.specs.Values.{done, list_in, nth}
use Rattle.reference_step.specs.Rows as row_args
use Rattle.reference_step.specs.InputStreams as input
use Rattle.reference_step.specs.OutputStreams as output
use Rattle.reference_step.specs.Pollables as pollables
use Rattle.reference_step.specs.Descriptors as descriptors
use Rattle.reference_step.specs.EntryStreams as entries
use Rattle.reference_step.specs.Nodes.{node_at, lead, lead_in, Found, TheRoot, TheFile, Missing, NewName, Named as NewlyNamed, Unnamed}
use Rattle.reference_step.specs.Handles.{Content, Host, Node, FileAt, EmptyIn, Discard, Always, Entries, ScratchRoot, ScratchEntries, ScratchFile, ScratchIn, ScratchOut, is_host}
use Rattle.reference_laws.specs.Standing.{is_scratch, is_file}
use Rattle.reference_step.specs.State.{View, Row, Traps, Does, returns, fails, stores}
use Rattle.reference_step.specs.Rows.{Named, by_row, row_of, all_rows, poll_rows, stream_rows, environment_rows, stdin_rows, stdout_rows, stderr_rows, terminal_stdin_rows, terminal_stdout_rows, terminal_stderr_rows, wall_rows, monotonic_rows, filesystem_rows}

-- ---- what a row may make, by what its first handle stands for

-- nothing of the host; something of the scratch folder only from something of it
abbrev pub may_make : Content → Content → Bool
may_make self (Host id) = false
may_make self (Node tree path) = true
may_make self (FileAt tree path place) = true
may_make self EmptyIn = true
may_make self Discard = true
may_make self Always = true
may_make self (Entries rest) = true
may_make self ScratchRoot = is_scratch self
may_make self (ScratchEntries from) = is_scratch self
may_make self (ScratchFile n may_write) = is_scratch self
may_make self (ScratchIn n place) = is_scratch self
may_make self (ScratchOut n to) = is_scratch self

abbrev pub IsMade : Content → Content → Type 0
IsMade self content = may_make self content ≡ true

abbrev pub AreMade : Content → List Content → Type 0
AreMade self [] = Unit {0}
AreMade self (c ∷ cs) = IsMade self c × AreMade self cs

-- and what stands for a file or a folder stays
abbrev pub MayBecome : Content → Option Content → Type 0
MayBecome self None = Unit {0}
MayBecome self (Some c) = IsMade self c × (is_file self ≡ false)

abbrev pub IsFree : Content → Row → Type 0
IsFree self Traps = Unit {0}
IsFree self (Does e) = AreMade self e.makes × MayBecome self e.becomes

free_if : (self : Content) (b : Bool) (x y : Row) → IsFree self x → IsFree self y → IsFree self (if b then x else y)
free_if self true x y f g = f
free_if self false x y f g = g

-- ---- wasi:io

reads_free : (self : Content) (bytes : List ℕ) (place len : ℕ) (at : ℕ → Content) → ((n : ℕ) → MayBecome self (Some (at n))) → IsFree self (input.reads bytes place len at)
reads_free self bytes place len at own = free_if self (nat_le (length bytes) place) _ _ (tt, tt) (tt, own _)

skips_free : (self : Content) (bytes : List ℕ) (place len : ℕ) (at : ℕ → Content) → ((n : ℕ) → MayBecome self (Some (at n))) → IsFree self (input.skips bytes place len at)
skips_free self bytes place len at own = free_if self (nat_le (length bytes) place) _ _ (tt, tt) (tt, own _)

read_free : (v : View) (c : Content) (len : ℕ) → IsFree c (input.read v c len)
read_free v (Host id) len = (tt, tt)
read_free v (Node tree path) len = (tt, tt)
read_free v (FileAt tree path place) len = reads_free (FileAt tree path place) _ place len (FileAt tree path) (λ m. (refl, refl))
read_free v EmptyIn len = (tt, tt)
read_free v Discard len = (tt, tt)
read_free v Always len = (tt, tt)
read_free v (Entries rest) len = (tt, tt)
read_free v ScratchRoot len = (tt, tt)
read_free v (ScratchEntries from) len = (tt, tt)
read_free v (ScratchFile n may_write) len = (tt, tt)
read_free v (ScratchIn n place) len = reads_free (ScratchIn n place) _ place len (ScratchIn n) (λ m. (refl, refl))
read_free v (ScratchOut n to) len = (tt, tt)

skip_free : (v : View) (c : Content) (len : ℕ) → IsFree c (input.skip v c len)
skip_free v (Host id) len = (tt, tt)
skip_free v (Node tree path) len = (tt, tt)
skip_free v (FileAt tree path place) len = skips_free (FileAt tree path place) _ place len (FileAt tree path) (λ m. (refl, refl))
skip_free v EmptyIn len = (tt, tt)
skip_free v Discard len = (tt, tt)
skip_free v Always len = (tt, tt)
skip_free v (Entries rest) len = (tt, tt)
skip_free v ScratchRoot len = (tt, tt)
skip_free v (ScratchEntries from) len = (tt, tt)
skip_free v (ScratchFile n may_write) len = (tt, tt)
skip_free v (ScratchIn n place) len = skips_free (ScratchIn n place) _ place len (ScratchIn n) (λ m. (refl, refl))
skip_free v (ScratchOut n to) len = (tt, tt)

wrote_free : (file : ℕ) (place : Option ℕ) (len : ℕ) (m : Option ScratchMap) → IsFree (ScratchOut file place) (output.wrote file place len m)
wrote_free file place len None = (tt, tt)
wrote_free file place len (Some m) = (tt, (refl, refl))

write_free : (v : View) (c : Content) (bytes : List ℕ) → IsFree c (output.write v c bytes)
write_free v (Host id) bytes = (tt, tt)
write_free v (Node tree path) bytes = (tt, tt)
write_free v (FileAt tree path place) bytes = (tt, tt)
write_free v EmptyIn bytes = (tt, tt)
write_free v Discard bytes = (tt, tt)
write_free v Always bytes = (tt, tt)
write_free v (Entries rest) bytes = (tt, tt)
write_free v ScratchRoot bytes = (tt, tt)
write_free v (ScratchEntries from) bytes = (tt, tt)
write_free v (ScratchFile n may_write) bytes = (tt, tt)
write_free v (ScratchIn n place) bytes = (tt, tt)
write_free v (ScratchOut n to) bytes = wrote_free n to (length bytes) _

zeroes_free : (v : View) (c : Content) (len : ℕ) → IsFree c (output.write-zeroes v c len)
zeroes_free v (Host id) len = (tt, tt)
zeroes_free v (Node tree path) len = (tt, tt)
zeroes_free v (FileAt tree path place) len = (tt, tt)
zeroes_free v EmptyIn len = (tt, tt)
zeroes_free v Discard len = (tt, tt)
zeroes_free v Always len = (tt, tt)
zeroes_free v (Entries rest) len = (tt, tt)
zeroes_free v ScratchRoot len = (tt, tt)
zeroes_free v (ScratchEntries from) len = (tt, tt)
zeroes_free v (ScratchFile n may_write) len = (tt, tt)
zeroes_free v (ScratchIn n place) len = (tt, tt)
zeroes_free v (ScratchOut n to) len = wrote_free n to len _

poll_of_free : (self : Content) (content : ℕ → Content) (vs : List PlainValue) → IsFree self (pollables.poll_of content vs)
poll_of_free self content [] = tt
poll_of_free self content (v ∷ vs) = (tt, tt)

-- ---- wasi:filesystem

found_free : (self : Content) (answer : Answer) (go : Path → Row) → ((path : Path) → IsFree self (go path)) → IsFree self (descriptors.at_found answer go)
found_free self (Fails e) go free = (tt, tt)
found_free self (At path) go free = free path

scratch_free : (self : Content) (found : Found) (root : Row) (file : ℕ → Row) → IsFree self root → ((n : ℕ) → IsFree self (file n)) → IsFree self (descriptors.in_scratch found root file)
scratch_free self (Missing e) root file r f = (tt, tt)
scratch_free self TheRoot root file r f = r
scratch_free self (TheFile n) root file r f = f n

stored_free : (self : Content) (m : Option ScratchMap) (v : PlainValue) → IsFree self (descriptors.stored m v)
stored_free self None v = (tt, tt)
stored_free self (Some m) v = (tt, tt)

stream_free : (self : Content) (node : Option TreeNode) (offset : ℕ) (at : ℕ → Content) → ((m : ℕ) → IsMade self (at m)) → IsFree self (descriptors.stream_at node offset at)
stream_free self None offset at own = (tt, tt)
stream_free self (Some Folder) offset at own = (tt, tt)
stream_free self (Some (File content)) offset at own = ((own _, tt), tt)
stream_free self (Some (Link target)) offset at own = (tt, tt)

read_stream_free : (v : View) (c : Content) (offset : ℕ) → IsFree c (descriptors.read-via-stream v c offset)
read_stream_free v (Host id) offset = (tt, tt)
read_stream_free v (Node tree path) offset = stream_free (Node tree path) _ offset (FileAt tree path) (λ m. refl)
read_stream_free v (FileAt tree path place) offset = (tt, tt)
read_stream_free v EmptyIn offset = (tt, tt)
read_stream_free v Discard offset = (tt, tt)
read_stream_free v Always offset = (tt, tt)
read_stream_free v (Entries rest) offset = (tt, tt)
read_stream_free v ScratchRoot offset = (tt, tt)
read_stream_free v (ScratchEntries from) offset = (tt, tt)
read_stream_free v (ScratchFile n may_write) offset = ((refl, tt), tt)
read_stream_free v (ScratchIn n place) offset = (tt, tt)
read_stream_free v (ScratchOut n to) offset = (tt, tt)

write_stream_free : (v : View) (c : Content) (offset : ℕ) → IsFree c (descriptors.write-via-stream v c offset)
write_stream_free v (Host id) offset = (tt, tt)
write_stream_free v (Node tree path) offset = (tt, tt)
write_stream_free v (FileAt tree path place) offset = (tt, tt)
write_stream_free v EmptyIn offset = (tt, tt)
write_stream_free v Discard offset = (tt, tt)
write_stream_free v Always offset = (tt, tt)
write_stream_free v (Entries rest) offset = (tt, tt)
write_stream_free v ScratchRoot offset = (tt, tt)
write_stream_free v (ScratchEntries from) offset = (tt, tt)
write_stream_free v (ScratchFile n may_write) offset = free_if (ScratchFile n may_write) may_write _ _ ((refl, tt), tt) (tt, tt)
write_stream_free v (ScratchIn n place) offset = (tt, tt)
write_stream_free v (ScratchOut n to) offset = (tt, tt)

append_free : (v : View) (c : Content) → IsFree c (descriptors.append-via-stream v c)
append_free v (Host id) = (tt, tt)
append_free v (Node tree path) = (tt, tt)
append_free v (FileAt tree path place) = (tt, tt)
append_free v EmptyIn = (tt, tt)
append_free v Discard = (tt, tt)
append_free v Always = (tt, tt)
append_free v (Entries rest) = (tt, tt)
append_free v ScratchRoot = (tt, tt)
append_free v (ScratchEntries from) = (tt, tt)
append_free v (ScratchFile n may_write) = free_if (ScratchFile n may_write) may_write _ _ ((refl, tt), tt) (tt, tt)
append_free v (ScratchIn n place) = (tt, tt)
append_free v (ScratchOut n to) = (tt, tt)

size_free : (v : View) (c : Content) (size : ℕ) → IsFree c (descriptors.set-size v c size)
size_free v (Host id) size = (tt, tt)
size_free v (Node tree path) size = (tt, tt)
size_free v (FileAt tree path place) size = (tt, tt)
size_free v EmptyIn size = (tt, tt)
size_free v Discard size = (tt, tt)
size_free v Always size = (tt, tt)
size_free v (Entries rest) size = (tt, tt)
size_free v ScratchRoot size = (tt, tt)
size_free v (ScratchEntries from) size = (tt, tt)
size_free v (ScratchFile n may_write) size = free_if (ScratchFile n may_write) may_write _ _ (stored_free (ScratchFile n may_write) _ _) (tt, tt)
size_free v (ScratchIn n place) size = (tt, tt)
size_free v (ScratchOut n to) size = (tt, tt)

times_free : (c : Content) → IsFree c (descriptors.set-times c)
times_free (Host id) = (tt, tt)
times_free (Node tree path) = (tt, tt)
times_free (FileAt tree path place) = (tt, tt)
times_free EmptyIn = (tt, tt)
times_free Discard = (tt, tt)
times_free Always = (tt, tt)
times_free (Entries rest) = (tt, tt)
times_free ScratchRoot = (tt, tt)
times_free (ScratchEntries from) = (tt, tt)
times_free (ScratchFile n may_write) = (tt, tt)
times_free (ScratchIn n place) = (tt, tt)
times_free (ScratchOut n to) = (tt, tt)

flags_free : (c : Content) → IsFree c (descriptors.get-flags c)
flags_free (Host id) = (tt, tt)
flags_free (Node tree path) = (tt, tt)
flags_free (FileAt tree path place) = (tt, tt)
flags_free EmptyIn = (tt, tt)
flags_free Discard = (tt, tt)
flags_free Always = (tt, tt)
flags_free (Entries rest) = (tt, tt)
flags_free ScratchRoot = (tt, tt)
flags_free (ScratchEntries from) = (tt, tt)
flags_free (ScratchFile n may_write) = (tt, tt)
flags_free (ScratchIn n place) = (tt, tt)
flags_free (ScratchOut n to) = (tt, tt)

type_free : (v : View) (c : Content) → IsFree c (descriptors.get-type v c)
type_free v (Host id) = (tt, tt)
type_free v (Node tree path) = (tt, tt)
type_free v (FileAt tree path place) = (tt, tt)
type_free v EmptyIn = (tt, tt)
type_free v Discard = (tt, tt)
type_free v Always = (tt, tt)
type_free v (Entries rest) = (tt, tt)
type_free v ScratchRoot = (tt, tt)
type_free v (ScratchEntries from) = (tt, tt)
type_free v (ScratchFile n may_write) = (tt, tt)
type_free v (ScratchIn n place) = (tt, tt)
type_free v (ScratchOut n to) = (tt, tt)

read_node_free : (self : Content) (node : Option TreeNode) (len : ℕ) (offset : ℕ) → IsFree self (descriptors.read_node node len offset)
read_node_free self None len offset = (tt, tt)
read_node_free self (Some Folder) len offset = (tt, tt)
read_node_free self (Some (File content)) len offset = (tt, tt)
read_node_free self (Some (Link target)) len offset = (tt, tt)

read_file_free : (v : View) (c : Content) (len : ℕ) (offset : ℕ) → IsFree c (descriptors.read v c len offset)
read_file_free v (Host id) len offset = (tt, tt)
read_file_free v (Node tree path) len offset = read_node_free (Node tree path) _ len offset
read_file_free v (FileAt tree path place) len offset = (tt, tt)
read_file_free v EmptyIn len offset = (tt, tt)
read_file_free v Discard len offset = (tt, tt)
read_file_free v Always len offset = (tt, tt)
read_file_free v (Entries rest) len offset = (tt, tt)
read_file_free v ScratchRoot len offset = (tt, tt)
read_file_free v (ScratchEntries from) len offset = (tt, tt)
read_file_free v (ScratchFile n may_write) len offset = (tt, tt)
read_file_free v (ScratchIn n place) len offset = (tt, tt)
read_file_free v (ScratchOut n to) len offset = (tt, tt)

write_file_free : (v : View) (c : Content) (bytes : List ℕ) (offset : ℕ) → IsFree c (descriptors.write v c bytes offset)
write_file_free v (Host id) bytes offset = (tt, tt)
write_file_free v (Node tree path) bytes offset = (tt, tt)
write_file_free v (FileAt tree path place) bytes offset = (tt, tt)
write_file_free v EmptyIn bytes offset = (tt, tt)
write_file_free v Discard bytes offset = (tt, tt)
write_file_free v Always bytes offset = (tt, tt)
write_file_free v (Entries rest) bytes offset = (tt, tt)
write_file_free v ScratchRoot bytes offset = (tt, tt)
write_file_free v (ScratchEntries from) bytes offset = (tt, tt)
write_file_free v (ScratchFile n may_write) bytes offset = free_if (ScratchFile n may_write) may_write _ _ (stored_free (ScratchFile n may_write) _ _) (tt, tt)
write_file_free v (ScratchIn n place) bytes offset = (tt, tt)
write_file_free v (ScratchOut n to) bytes offset = (tt, tt)

listed_free : (self : Content) (node : Option TreeNode) (entries : Content) → IsMade self entries → IsFree self (descriptors.listed node entries)
listed_free self None entries own = ((own, tt), tt)
listed_free self (Some Folder) entries own = ((own, tt), tt)
listed_free self (Some (File content)) entries own = (tt, tt)
listed_free self (Some (Link target)) entries own = ((own, tt), tt)

read_directory_free : (v : View) (c : Content) → IsFree ScratchRoot (descriptors.read-directory v c)
read_directory_free v (Host id) = ((refl, tt), tt)
read_directory_free v (Node tree path) = listed_free ScratchRoot _ _ refl
read_directory_free v (FileAt tree path place) = ((refl, tt), tt)
read_directory_free v EmptyIn = ((refl, tt), tt)
read_directory_free v Discard = ((refl, tt), tt)
read_directory_free v Always = ((refl, tt), tt)
read_directory_free v (Entries rest) = ((refl, tt), tt)
read_directory_free v ScratchRoot = ((refl, tt), tt)
read_directory_free v (ScratchEntries from) = ((refl, tt), tt)
read_directory_free v (ScratchFile n may_write) = (tt, tt)
read_directory_free v (ScratchIn n place) = ((refl, tt), tt)
read_directory_free v (ScratchOut n to) = ((refl, tt), tt)

create_free : (c : Content) → IsFree c (descriptors.create-directory-at c)
create_free (Host id) = (tt, tt)
create_free (Node tree path) = (tt, tt)
create_free (FileAt tree path place) = (tt, tt)
create_free EmptyIn = (tt, tt)
create_free Discard = (tt, tt)
create_free Always = (tt, tt)
create_free (Entries rest) = (tt, tt)
create_free ScratchRoot = (tt, tt)
create_free (ScratchEntries from) = (tt, tt)
create_free (ScratchFile n may_write) = (tt, tt)
create_free (ScratchIn n place) = (tt, tt)
create_free (ScratchOut n to) = (tt, tt)

remove_free : (v : View) (c : Content) (text : List ℕ) → IsFree c (descriptors.remove-directory-at v c text)
remove_free v (Host id) text = (tt, tt)
remove_free v (Node tree path) text = (tt, tt)
remove_free v (FileAt tree path place) text = (tt, tt)
remove_free v EmptyIn text = (tt, tt)
remove_free v Discard text = (tt, tt)
remove_free v Always text = (tt, tt)
remove_free v (Entries rest) text = (tt, tt)
remove_free v ScratchRoot text = scratch_free ScratchRoot (lead_in v.scratch text) (fails code.busy) (λ n. fails code.not_directory) (tt, tt) (λ n. (tt, tt))
remove_free v (ScratchEntries from) text = (tt, tt)
remove_free v (ScratchFile n may_write) text = (tt, tt)
remove_free v (ScratchIn n place) text = (tt, tt)
remove_free v (ScratchOut n to) text = (tt, tt)

unlink_free : (v : View) (c : Content) (text : List ℕ) → IsFree c (descriptors.unlink-file-at v c text)
unlink_free v (Host id) text = (tt, tt)
unlink_free v (Node tree path) text = (tt, tt)
unlink_free v (FileAt tree path place) text = (tt, tt)
unlink_free v EmptyIn text = (tt, tt)
unlink_free v Discard text = (tt, tt)
unlink_free v Always text = (tt, tt)
unlink_free v (Entries rest) text = (tt, tt)
unlink_free v ScratchRoot text = scratch_free ScratchRoot (lead_in v.scratch text) (fails code.is_directory) (λ n. if v.held n then fails code.busy else stores (removed v.scratch n) done) (tt, tt) (λ n. free_if ScratchRoot (v.held n) _ _ (tt, tt) (tt, tt))
unlink_free v (ScratchEntries from) text = (tt, tt)
unlink_free v (ScratchFile n may_write) text = (tt, tt)
unlink_free v (ScratchIn n place) text = (tt, tt)
unlink_free v (ScratchOut n to) text = (tt, tt)

stat_free : (v : View) (c : Content) → IsFree c (descriptors.stat v c)
stat_free v (Host id) = (tt, tt)
stat_free v (Node tree path) = (tt, tt)
stat_free v (FileAt tree path place) = (tt, tt)
stat_free v EmptyIn = (tt, tt)
stat_free v Discard = (tt, tt)
stat_free v Always = (tt, tt)
stat_free v (Entries rest) = (tt, tt)
stat_free v ScratchRoot = (tt, tt)
stat_free v (ScratchEntries from) = (tt, tt)
stat_free v (ScratchFile n may_write) = (tt, tt)
stat_free v (ScratchIn n place) = (tt, tt)
stat_free v (ScratchOut n to) = (tt, tt)

stat_at_free : (v : View) (c : Content) (flags : ℕ) (text : List ℕ) → IsFree c (descriptors.stat-at v c flags text)
stat_at_free v (Host id) flags text = (tt, tt)
stat_at_free v (Node tree path) flags text = found_free (Node tree path) (lead v.trees tree path text (descriptors.symlink-follow flags)) (λ found. returns (descriptors.stat_of (node_at v.trees tree found))) (λ found. (tt, tt))
stat_at_free v (FileAt tree path place) flags text = (tt, tt)
stat_at_free v EmptyIn flags text = (tt, tt)
stat_at_free v Discard flags text = (tt, tt)
stat_at_free v Always flags text = (tt, tt)
stat_at_free v (Entries rest) flags text = (tt, tt)
stat_at_free v ScratchRoot flags text = scratch_free ScratchRoot (lead_in v.scratch text) descriptors.stat_root (λ n. descriptors.stat_file v n) (tt, tt) (λ n. (tt, tt))
stat_at_free v (ScratchEntries from) flags text = (tt, tt)
stat_at_free v (ScratchFile n may_write) flags text = (tt, tt)
stat_at_free v (ScratchIn n place) flags text = (tt, tt)
stat_at_free v (ScratchOut n to) flags text = (tt, tt)

times_at_free : (v : View) (c : Content) (text : List ℕ) → IsFree c (descriptors.set-times-at v c text)
times_at_free v (Host id) text = (tt, tt)
times_at_free v (Node tree path) text = (tt, tt)
times_at_free v (FileAt tree path place) text = (tt, tt)
times_at_free v EmptyIn text = (tt, tt)
times_at_free v Discard text = (tt, tt)
times_at_free v Always text = (tt, tt)
times_at_free v (Entries rest) text = (tt, tt)
times_at_free v ScratchRoot text = scratch_free ScratchRoot (lead_in v.scratch text) (returns done) (λ n. returns done) (tt, tt) (λ n. (tt, tt))
times_at_free v (ScratchEntries from) text = (tt, tt)
times_at_free v (ScratchFile n may_write) text = (tt, tt)
times_at_free v (ScratchIn n place) text = (tt, tt)
times_at_free v (ScratchOut n to) text = (tt, tt)

hash_free : (v : View) (c : Content) → IsFree c (descriptors.metadata-hash v c)
hash_free v (Host id) = (tt, tt)
hash_free v (Node tree path) = (tt, tt)
hash_free v (FileAt tree path place) = (tt, tt)
hash_free v EmptyIn = (tt, tt)
hash_free v Discard = (tt, tt)
hash_free v Always = (tt, tt)
hash_free v (Entries rest) = (tt, tt)
hash_free v ScratchRoot = (tt, tt)
hash_free v (ScratchEntries from) = (tt, tt)
hash_free v (ScratchFile n may_write) = (tt, tt)
hash_free v (ScratchIn n place) = (tt, tt)
hash_free v (ScratchOut n to) = (tt, tt)

hash_at_free : (v : View) (c : Content) (flags : ℕ) (text : List ℕ) → IsFree c (descriptors.metadata-hash-at v c flags text)
hash_at_free v (Host id) flags text = (tt, tt)
hash_at_free v (Node tree path) flags text = found_free (Node tree path) (lead v.trees tree path text (descriptors.symlink-follow flags)) (λ found. descriptors.hash_of v tree found) (λ found. (tt, tt))
hash_at_free v (FileAt tree path place) flags text = (tt, tt)
hash_at_free v EmptyIn flags text = (tt, tt)
hash_at_free v Discard flags text = (tt, tt)
hash_at_free v Always flags text = (tt, tt)
hash_at_free v (Entries rest) flags text = (tt, tt)
hash_at_free v ScratchRoot flags text = scratch_free ScratchRoot (lead_in v.scratch text) (descriptors.hash_root v) (λ n. descriptors.hash_file v n) (tt, tt) (λ n. (tt, tt))
hash_at_free v (ScratchEntries from) flags text = (tt, tt)
hash_at_free v (ScratchFile n may_write) flags text = (tt, tt)
hash_at_free v (ScratchIn n place) flags text = (tt, tt)
hash_at_free v (ScratchOut n to) flags text = (tt, tt)

link_free : (self : Content) (node : Option TreeNode) → IsFree self (descriptors.link_at node)
link_free self None = (tt, tt)
link_free self (Some Folder) = (tt, tt)
link_free self (Some (File content)) = (tt, tt)
link_free self (Some (Link target)) = (tt, tt)

readlink_free : (v : View) (c : Content) (text : List ℕ) → IsFree c (descriptors.readlink-at v c text)
readlink_free v (Host id) text = (tt, tt)
readlink_free v (Node tree path) text = found_free (Node tree path) (lead v.trees tree path text false) (λ found. descriptors.link_at (node_at v.trees tree found)) (λ found. link_free (Node tree path) (node_at v.trees tree found))
readlink_free v (FileAt tree path place) text = (tt, tt)
readlink_free v EmptyIn text = (tt, tt)
readlink_free v Discard text = (tt, tt)
readlink_free v Always text = (tt, tt)
readlink_free v (Entries rest) text = (tt, tt)
readlink_free v ScratchRoot text = scratch_free ScratchRoot (lead_in v.scratch text) (fails code.invalid) (λ n. fails code.invalid) (tt, tt) (λ n. (tt, tt))
readlink_free v (ScratchEntries from) text = (tt, tt)
readlink_free v (ScratchFile n may_write) text = (tt, tt)
readlink_free v (ScratchIn n place) text = (tt, tt)
readlink_free v (ScratchOut n to) text = (tt, tt)

open_found_free : (self : Content) (node : Option TreeNode) (tree : ℕ) (path : Path) (flags : ℕ) → IsFree self (descriptors.open_found node tree path flags)
open_found_free self None tree path flags = free_if self (descriptors.exclusive flags) _ _ (tt, tt) ((refl, tt), tt)
open_found_free self (Some Folder) tree path flags = free_if self (descriptors.exclusive flags) _ _ (tt, tt) ((refl, tt), tt)
open_found_free self (Some (File content)) tree path flags = free_if self (descriptors.exclusive flags) _ _ (tt, tt) (free_if self (descriptors.directory flags) _ _ (tt, tt) ((refl, tt), tt))
open_found_free self (Some (Link target)) tree path flags = free_if self (descriptors.exclusive flags) _ _ (tt, tt) (tt, tt)

open_led_free : (self : Content) (v : View) (tree : ℕ) (answer : Answer) (flags : ℕ) → IsFree self (descriptors.open_led v tree answer flags)
open_led_free self v tree (Fails e) flags = free_if self (e == code.no_entry && descriptors.create flags) _ _ (tt, tt) (tt, tt)
open_led_free self v tree (At found) flags = open_found_free self _ tree found flags

open_made_free : (v : View) (name : List ℕ) (n : Option ℕ) (rights : ℕ) → IsFree ScratchRoot (descriptors.open_made v name n rights)
open_made_free v name None rights = (tt, tt)
open_made_free v name (Some n) rights = ((refl, tt), tt)

open_new_free : (v : View) (name : NewName) (rights : ℕ) → IsFree ScratchRoot (descriptors.open_new v name rights)
open_new_free v (Unnamed e) rights = (tt, tt)
open_new_free v (NewlyNamed name) rights = open_made_free v name _ rights

open_missing_free : (v : View) (e : ℕ) (text : List ℕ) (flags rights : ℕ) → IsFree ScratchRoot (descriptors.open_missing v e text flags rights)
open_missing_free v e text flags rights =
    free_if ScratchRoot (not (e == code.no_entry)) _ _ (tt, tt) (free_if ScratchRoot (not (descriptors.create flags)) _ _ (tt, tt) (free_if ScratchRoot (descriptors.directory flags) _ _ (tt, tt) (open_new_free v _ rights)))

open_root_free : (flags rights : ℕ) → IsFree ScratchRoot (descriptors.open_root flags rights)
open_root_free flags rights =
    free_if ScratchRoot (descriptors.exclusive flags) _ _ (tt, tt) (free_if ScratchRoot (descriptors.write_flag rights || descriptors.truncate flags) _ _ (tt, tt) ((refl, tt), tt))

open_file_free : (v : View) (n flags rights : ℕ) → IsFree ScratchRoot (descriptors.open_file v n flags rights)
open_file_free v n flags rights =
    free_if ScratchRoot (descriptors.exclusive flags) _ _ (tt, tt) (free_if ScratchRoot (descriptors.directory flags) _ _ (tt, tt) (free_if ScratchRoot (descriptors.truncate flags && not (descriptors.write_flag rights)) _ _ (tt, tt)
    (free_if ScratchRoot (descriptors.truncate flags) _ _ ((refl, tt), tt) ((refl, tt), tt))))

open_scratch_free : (v : View) (found : Found) (text : List ℕ) (flags rights : ℕ) → IsFree ScratchRoot (descriptors.open_scratch v found text flags rights)
open_scratch_free v (Missing e) text flags rights = open_missing_free v e text flags rights
open_scratch_free v TheRoot text flags rights = open_root_free flags rights
open_scratch_free v (TheFile n) text flags rights = open_file_free v n flags rights

open_free : (v : View) (c : Content) (follow : ℕ) (text : List ℕ) (flags : ℕ) (rights : ℕ) → IsFree c (descriptors.open-at v c follow text flags rights)
open_free v (Host id) follow text flags rights = (tt, tt)
open_free v (Node tree path) follow text flags rights = free_if (Node tree path) (descriptors.write_flag rights || descriptors.mutate-directory rights || descriptors.truncate flags) _ _ (tt, tt) (open_led_free (Node tree path) v tree (lead v.trees tree path text (descriptors.symlink-follow follow)) flags)
open_free v (FileAt tree path place) follow text flags rights = (tt, tt)
open_free v EmptyIn follow text flags rights = (tt, tt)
open_free v Discard follow text flags rights = (tt, tt)
open_free v Always follow text flags rights = (tt, tt)
open_free v (Entries rest) follow text flags rights = (tt, tt)
open_free v ScratchRoot follow text flags rights = open_scratch_free v (lead_in v.scratch text) text flags rights
open_free v (ScratchEntries from) follow text flags rights = (tt, tt)
open_free v (ScratchFile n may_write) follow text flags rights = (tt, tt)
open_free v (ScratchIn n place) follow text flags rights = (tt, tt)
open_free v (ScratchOut n to) follow text flags rights = (tt, tt)

link_pair_free : (self : Content) (pair : descriptors.Pair) → IsFree self (descriptors.link_pair pair)
link_pair_free self descriptors.Embedded = (tt, tt)
link_pair_free self descriptors.BothRoots = (tt, tt)
link_pair_free self descriptors.WithFile = (tt, tt)
link_pair_free self descriptors.Mixed = (tt, tt)

rename_new_free : (self : Content) (v : View) (n : ℕ) (name : NewName) → IsFree self (descriptors.rename_new v n name)
rename_new_free self v n (Unnamed e) = (tt, tt)
rename_new_free self v n (NewlyNamed name) = (tt, tt)

rename_over_free : (self : Content) (v : View) (n k : ℕ) → IsFree self (descriptors.rename_over v n k)
rename_over_free self v n k = free_if self (k == n) _ _ (tt, tt) (free_if self (v.held k) _ _ (tt, tt) (tt, tt))

rename_to_free : (self : Content) (v : View) (n : ℕ) (found : Found) (text : List ℕ) → IsFree self (descriptors.rename_to v n found text)
rename_to_free self v n TheRoot text = (tt, tt)
rename_to_free self v n (TheFile k) text = rename_over_free self v n k
rename_to_free self v n (Missing e) text = free_if self (e == code.no_entry) _ _ (rename_new_free self v n _) (tt, tt)

rename_pair_free : (self : Content) (v : View) (pair : descriptors.Pair) (old new : List ℕ) → IsFree self (descriptors.rename_pair v pair old new)
rename_pair_free self v descriptors.Embedded old new = (tt, tt)
rename_pair_free self v descriptors.BothRoots old new = scratch_free self (lead_in v.scratch old) (fails code.busy) (λ n. descriptors.rename_to v n (lead_in v.scratch new) new) (tt, tt) (λ n. rename_to_free self v n (lead_in v.scratch new) new)
rename_pair_free self v descriptors.WithFile old new = (tt, tt)
rename_pair_free self v descriptors.Mixed old new = (tt, tt)

next_free : (from : ℕ) (m : ScratchMap) (n : Option ℕ) → IsFree (ScratchEntries from) (entries.next_entry m n)
next_free from m None = (tt, tt)
next_free from m (Some n) = (tt, (refl, refl))

entry_free : (v : View) (c : Content) → IsFree c (entries.read-directory-entry v c)
entry_free v (Host id) = (tt, tt)
entry_free v (Node tree path) = (tt, tt)
entry_free v (FileAt tree path place) = (tt, tt)
entry_free v EmptyIn = (tt, tt)
entry_free v Discard = (tt, tt)
entry_free v Always = (tt, tt)
entry_free v (Entries []) = (tt, tt)
entry_free v (Entries (e ∷ rest)) = (tt, (refl, refl))
entry_free v ScratchRoot = (tt, tt)
entry_free v (ScratchEntries from) = next_free from v.scratch _
entry_free v (ScratchFile n may_write) = (tt, tt)
entry_free v (ScratchIn n place) = (tt, tt)
entry_free v (ScratchOut n to) = (tt, tt)

-- ---- all rows

-- `read-directory` lists the scratch folder, whatever its handle stands for otherwise
abbrev pub lists_directory : Name → Bool
lists_directory name = bytes_eq name (codes "[method]descriptor.read-directory")

abbrev pub acting : Name → Content → Content
acting name self = if lists_directory name then ScratchRoot else self

abbrev IsFreeRow : Named → Type 0
IsFreeRow row = (v : View) (args : PlainValues) → IsFree (acting row.0 (row_args.handle v 0 args)) (row.1 v args)

abbrev AreFree : List Named → Type 0
AreFree [] = Unit {0}
AreFree (row ∷ rows) = IsFreeRow row × AreFree rows

abbrev AllFree : List (List Named) → Type 0
AllFree [] = Unit {0}
AllFree (rows ∷ more) = AreFree rows × AllFree more

poll_are : AreFree poll_rows
poll_are = (λ v a. (tt, tt), (λ v a. (tt, tt), (λ v a. poll_of_free (row_args.handle v 0 a) v.content (list_in (nth 0 a)), tt)))

stream_are : AreFree stream_rows
stream_are = (λ v a. read_free v (row_args.handle v 0 a) (row_args.number 1 a), (λ v a. read_free v (row_args.handle v 0 a) (row_args.number 1 a), (λ v a. skip_free v (row_args.handle v 0 a) (row_args.number 1 a), (λ v a. skip_free v (row_args.handle v 0 a) (row_args.number 1 a), (λ v a. ((refl, tt), tt), (λ v a. (tt, tt), (λ v a. write_free v (row_args.handle v 0 a) (row_args.bytes 1 a), (λ v a. write_free v (row_args.handle v 0 a) (row_args.bytes 1 a), (λ v a. (tt, tt), (λ v a. (tt, tt), (λ v a. ((refl, tt), tt), (λ v a. zeroes_free v (row_args.handle v 0 a) (row_args.number 1 a), (λ v a. zeroes_free v (row_args.handle v 0 a) (row_args.number 1 a), (λ v a. (tt, tt), (λ v a. (tt, tt), tt)))))))))))))))

environment_are : AreFree environment_rows
environment_are = (λ v a. (tt, tt), (λ v a. (tt, tt), (λ v a. (tt, tt), tt)))

stdin_are : AreFree stdin_rows
stdin_are = (λ v a. ((refl, tt), tt), tt)

stdout_are : AreFree stdout_rows
stdout_are = (λ v a. ((refl, tt), tt), tt)

stderr_are : AreFree stderr_rows
stderr_are = (λ v a. ((refl, tt), tt), tt)

terminal_stdin_are : AreFree terminal_stdin_rows
terminal_stdin_are = (λ v a. (tt, tt), tt)

terminal_stdout_are : AreFree terminal_stdout_rows
terminal_stdout_are = (λ v a. (tt, tt), tt)

terminal_stderr_are : AreFree terminal_stderr_rows
terminal_stderr_are = (λ v a. (tt, tt), tt)

wall_are : AreFree wall_rows
wall_are = (λ v a. (tt, tt), (λ v a. (tt, tt), tt))

monotonic_are : AreFree monotonic_rows
monotonic_are = (λ v a. (tt, tt), (λ v a. (tt, tt), (λ v a. ((refl, tt), tt), (λ v a. ((refl, tt), tt), tt))))

filesystem_are : AreFree filesystem_rows
filesystem_are = (λ v a. read_stream_free v (row_args.handle v 0 a) (row_args.number 1 a), (λ v a. write_stream_free v (row_args.handle v 0 a) (row_args.number 1 a), (λ v a. append_free v (row_args.handle v 0 a), (λ v a. (tt, tt), (λ v a. (tt, tt), (λ v a. (tt, tt), (λ v a. size_free v (row_args.handle v 0 a) (row_args.number 1 a), (λ v a. times_free (row_args.handle v 0 a), (λ v a. flags_free (row_args.handle v 0 a), (λ v a. type_free v (row_args.handle v 0 a), (λ v a. read_file_free v (row_args.handle v 0 a) (row_args.number 1 a) (row_args.number 2 a), (λ v a. write_file_free v (row_args.handle v 0 a) (row_args.bytes 1 a) (row_args.number 2 a), (λ v a. read_directory_free v (row_args.handle v 0 a), (λ v a. create_free (row_args.handle v 0 a), (λ v a. remove_free v (row_args.handle v 0 a) (row_args.text 1 a), (λ v a. unlink_free v (row_args.handle v 0 a) (row_args.text 1 a), (λ v a. create_free (row_args.handle v 0 a), (λ v a. stat_free v (row_args.handle v 0 a), (λ v a. stat_at_free v (row_args.handle v 0 a) (row_args.flags 1 a) (row_args.text 2 a), (λ v a. times_at_free v (row_args.handle v 0 a) (row_args.text 2 a), (λ v a. link_pair_free (row_args.handle v 0 a) (descriptors.pair_of (row_args.handle v 0 a) (row_args.handle v 3 a)), (λ v a. rename_pair_free (row_args.handle v 0 a) v (descriptors.pair_of (row_args.handle v 0 a) (row_args.handle v 2 a)) (row_args.text 1 a) (row_args.text 3 a), (λ v a. open_free v (row_args.handle v 0 a) (row_args.flags 1 a) (row_args.text 2 a) (row_args.flags 3 a) (row_args.flags 4 a), (λ v a. readlink_free v (row_args.handle v 0 a) (row_args.text 1 a), (λ v a. (tt, tt), (λ v a. hash_free v (row_args.handle v 0 a), (λ v a. hash_at_free v (row_args.handle v 0 a) (row_args.flags 1 a) (row_args.text 2 a), (λ v a. entry_free v (row_args.handle v 0 a), tt))))))))))))))))))))))))))))

all_are : AllFree all_rows
all_are = (tt, (poll_are, (stream_are, (environment_are, (tt, (stdin_are, (stdout_are, (stderr_are, (tt, (tt, (terminal_stdin_are, (terminal_stdout_are, (terminal_stderr_are, (wall_are, (monotonic_are, (tt, (tt, (tt, (filesystem_are, tt)))))))))))))))))))

rows_at : (all : List (List Named)) (i : ℕ) → AllFree all → AreFree (slice_index_or all i [])
rows_at [] i free = tt
rows_at (rows ∷ more) zero free = free.0
rows_at (rows ∷ more) (suc i) free = rows_at more i free.1

same_acting : (x y : Name) (self : Content) → bytes_eq x y ≡ true → acting x self ≡ acting y self
same_acting x y self e = ap (λ n. acting n self) ((bytes_eq-Decides x y).0 e)

first_or_later : (self : Content) (b : Bool) (row : Named) (later : Option Named) (v : View) (args : PlainValues) → (b ≡ true → IsFree self (row.1 v args)) → IsFree self (by_row later v args)
    → IsFree self (by_row (cond b (Some row) later) v args)
first_or_later self true row later v args free rest = free refl
first_or_later self false row later v args free rest = rest

found_row : (rows : List Named) (name : Name) (v : View) (args : PlainValues) → AreFree rows → IsFree (acting name (row_args.handle v 0 args)) (by_row (find (λ row. bytes_eq row.0 name) rows) v args)
found_row [] name v args free = tt
found_row (row ∷ rows) name v args free =
    let self = row_args.handle v 0 args in
    first_or_later (acting name self) (bytes_eq row.0 name) row (find (λ r. bytes_eq r.0 name) rows) v args (λ same. subst (λ (c : Content). IsFree c (row.1 v args)) (same_acting row.0 name self same) (free.0 v args))
    (found_row rows name v args free.1)

-- what no function makes without the host
pub row_is_free : (interface : ℕ) (name : Name) (v : View) (args : PlainValues) → IsFree (acting name (row_args.handle v 0 args)) (row_of interface name v args)
row_is_free interface name v args = found_row (slice_index_or all_rows interface []) name v args (rows_at all_rows interface all_are)

-- ---- so a row makes no handle of the host

abbrev pub IsOwnContent : Content → Type 0
IsOwnContent content = is_host content ≡ false

abbrev pub AreOwnContents : List Content → Type 0
AreOwnContents [] = Unit {0}
AreOwnContents (c ∷ cs) = IsOwnContent c × AreOwnContents cs

abbrev pub OwnBecome : Option Content → Type 0
OwnBecome None = Unit {0}
OwnBecome (Some c) = IsOwnContent c

abbrev pub IsOwnRow : Row → Type 0
IsOwnRow Traps = Unit {0}
IsOwnRow (Does e) = AreOwnContents e.makes × OwnBecome e.becomes

pub own_of_made : (self content : Content) → IsMade self content → IsOwnContent content
own_of_made self (Host id) made = cc
own_of_made self _ made = refl

own_of_all : (self : Content) (cs : List Content) → AreMade self cs → AreOwnContents cs
own_of_all self [] made = tt
own_of_all self (c ∷ cs) made = (own_of_made self c made.0, own_of_all self cs made.1)

own_become : (self : Content) (c : Option Content) → MayBecome self c → OwnBecome c
own_become self None may = tt
own_become self (Some c) may = own_of_made self c may.0

own_of_free : (self : Content) (row : Row) → IsFree self row → IsOwnRow row
own_of_free self Traps free = tt
own_of_free self (Does e) free = (own_of_all self e.makes free.0, own_become self e.becomes free.1)

pub row_is_own : (interface : ℕ) (name : Name) (v : View) (args : PlainValues) → IsOwnRow (row_of interface name v args)
row_is_own interface name v args = own_of_free (acting name (row_args.handle v 0 args)) (row_of interface name v args) (row_is_free interface name v args)

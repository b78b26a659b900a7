-- No method traps.
use Rattle.std.proofs.Common.{◌≡◌, ℕ, Bool, true, false, List, [], ◌∷◌, Option, Some, None, refl}
use Rattle.std.specs.Prelude.{◌==◌, ◌&&◌, ◌||◌, not, nat_le, length, replicate, unwrap_or, if◌then◌else◌}
use Rattle.wit_types.specs.PlainValue.{PlainValue, PlainValues}
use Rattle.tree_table.specs.declared.entries.Node.{Node as TreeNode}
use Rattle.tree_table.specs.declared.entries.Node.TheVariants.{Folder, File, Link}
use Rattle.tree_table.specs.Paths.{Path, Answer, At, Fails}
use Rattle.tree_table.specs.Scratches.{ScratchMap, content_at, sized, written, removed}
use Rattle.reference_step.specs.Codes as code
use Rattle.reference_step.specs.Handles.{Content, Host, Node, FileAt, EmptyIn, Discard, Always, Entries, ScratchRoot, ScratchEntries, ScratchFile, ScratchIn, ScratchOut}
use Rattle.reference_step.specs.Nodes.{Found, TheRoot, TheFile, Missing, NewName, Named, Unnamed, new_name, lead, lead_in, node_at, children_at, bytes_at, next_file}
use Rattle.reference_step.specs.Descriptors as descriptor
use Rattle.reference_step.specs.EntryStreams as entries
use Rattle.reference_step.specs.OutputStreams as output
use Rattle.reference_step.specs.Rows.{handle, flags, text, bytes, number as num}
use Rattle.reference_step.specs.State.{View, Row, returns, fails, stores}
use Rattle.reference_step.specs.Values.{done, ok, number as number_value}
use Rattle.ref_virtual.specs.declared.methods.Look.{Look}
use Rattle.ref_virtual.specs.declared.methods.Look.TheVariants.{ReadViaStream, GetFlags, GetType, Read, ReadDirectory, Stat, StatAt, OpenAt, ReadlinkAt, MetadataHash, MetadataHashAt}
use Rattle.ref_virtual.specs.declared.methods.Change.{Change}
use Rattle.ref_virtual.specs.declared.methods.Change.TheVariants.{WriteViaStream, AppendViaStream, SetSize, SetTimes, Write, CreateDirectoryAt, RemoveDirectoryAt, UnlinkFileAt, SymlinkAt, SetTimesAt}
use Rattle.ref_virtual.specs.declared.methods.Pair.{Pair}
use Rattle.ref_virtual.specs.declared.methods.Pair.TheVariants.{LinkAt, RenameAt, IsSameObject}
use Rattle.ref_virtual.specs.declared.methods.Method.{Method}
use Rattle.ref_virtual.specs.declared.methods.Method.TheVariants.{Looks, Changes, Pairs, Syncs, ReadDirectoryEntry}
use Rattle.ref_virtual.specs.declared.stream_methods.InputMethod.{InputMethod}
use Rattle.ref_virtual.specs.declared.stream_methods.InputMethod.TheVariants.{Read as ReadStream, Skip, Subscribe}
use Rattle.ref_virtual.specs.declared.stream_methods.OutputMethod.{OutputMethod}
use Rattle.ref_virtual.specs.declared.stream_methods.OutputMethod.TheVariants.{CheckWrite, Write as WriteStream, Flush, WriteZeroes, Splice, Subscribe as SubscribeOut}
use Rattle.ref_virtual.specs.declared.stream_methods.StreamMethod.{StreamMethod}
use Rattle.ref_virtual.specs.declared.stream_methods.StreamMethod.TheVariants.{Input, Output}
use Rattle.ref_virtual.specs.Methods.{look_row, change_row, pair_row, method_row, input_row, output_row, stream_row}
use Rattle.ref_virtual.specs.Acting.{acts}

abbrev Acts : Row → Type 0
Acts row = acts row ≡ true

-- ---- what rows are made of

either : (b : Bool) (x y : Row) → Acts x → Acts y → Acts (if b then x else y)
either true x y p q = p
either false x y p q = q

found : (a : Answer) (go : Path → Row) → ((p : Path) → Acts (go p)) → Acts (descriptor.at_found a go)
found (Fails e) go p = refl
found (At path) go p = p path

in_folder : (x : Found) (root : Row) (file : ℕ → Row) → Acts root → ((n : ℕ) → Acts (file n)) → Acts (descriptor.in_scratch x root file)
in_folder (Missing e) root file p q = refl
in_folder TheRoot root file p q = p
in_folder (TheFile n) root file p q = q n

stored : (o : Option ScratchMap) (v : PlainValue) → Acts (descriptor.stored o v)
stored None v = refl
stored (Some m) v = refl

stream_node : (o : Option TreeNode) (offset : ℕ) (at : ℕ → Content) → Acts (descriptor.stream_at o offset at)
stream_node None offset at = refl
stream_node (Some Folder) offset at = refl
stream_node (Some (File content)) offset at = refl
stream_node (Some (Link target)) offset at = refl

read_node : (o : Option TreeNode) (len offset : ℕ) → Acts (descriptor.read_node o len offset)
read_node None len offset = refl
read_node (Some Folder) len offset = refl
read_node (Some (File content)) len offset = refl
read_node (Some (Link target)) len offset = refl

listed_node : (o : Option TreeNode) (c : Content) → Acts (descriptor.listed o c)
listed_node None c = refl
listed_node (Some Folder) c = refl
listed_node (Some (File content)) c = refl
listed_node (Some (Link target)) c = refl

link_node : (o : Option TreeNode) → Acts (descriptor.link_at o)
link_node None = refl
link_node (Some Folder) = refl
link_node (Some (File content)) = refl
link_node (Some (Link target)) = refl

open_node : (o : Option TreeNode) (tree : ℕ) (path : Path) (flags : ℕ) → Acts (descriptor.open_found o tree path flags)
open_node None tree path flags = either (descriptor.exclusive flags) _ _ refl refl
open_node (Some Folder) tree path flags = either (descriptor.exclusive flags) _ _ refl refl
open_node (Some (File content)) tree path flags = either (descriptor.exclusive flags) _ _ refl (either (descriptor.directory flags) _ _ refl refl)
open_node (Some (Link target)) tree path flags = either (descriptor.exclusive flags) _ _ refl refl

open_led : (v : View) (tree : ℕ) (a : Answer) (flags : ℕ) → Acts (descriptor.open_led v tree a flags)
open_led v tree (Fails e) flags = either (e == code.no_entry && descriptor.create flags) _ _ refl refl
open_led v tree (At path) flags = open_node _ tree path flags

open_tree : (v : View) (tree : ℕ) (path : Path) (follow : ℕ) (t : List ℕ) (opens rights : ℕ) → Acts (descriptor.open_node v tree path follow t opens rights)
open_tree v tree path follow t opens rights = either (descriptor.write_flag rights || descriptor.mutate-directory rights || descriptor.truncate opens) _ _ refl (open_led v tree (lead v.trees tree path t (descriptor.symlink-follow follow)) opens)

open_made : (v : View) (name : List ℕ) (o : Option ℕ) (rights : ℕ) → Acts (descriptor.open_made v name o rights)
open_made v name None rights = refl
open_made v name (Some n) rights = refl

open_new : (v : View) (name : NewName) (rights : ℕ) → Acts (descriptor.open_new v name rights)
open_new v (Unnamed e) rights = refl
open_new v (Named name) rights = open_made v name _ rights

open_scratch : (v : View) (x : Found) (text : List ℕ) (flags rights : ℕ) → Acts (descriptor.open_scratch v x text flags rights)
open_scratch v (Missing e) text flags rights = either (not (e == code.no_entry)) _ _ refl (either (not (descriptor.create flags)) _ _ refl (either (descriptor.directory flags) _ _ refl (open_new v (new_name text) rights)))
open_scratch v TheRoot text flags rights = either (descriptor.exclusive flags) _ _ refl (either (descriptor.write_flag rights || descriptor.truncate flags) _ _ refl refl)
open_scratch v (TheFile n) text flags rights = either (descriptor.exclusive flags) _ _ refl (either (descriptor.directory flags) _ _ refl (either (descriptor.truncate flags && not (descriptor.write_flag rights)) _ _ refl (either (descriptor.truncate flags) _ _ refl refl)))

-- ---- two descriptors

link_pair : (p : descriptor.Pair) → Acts (descriptor.link_pair p)
link_pair descriptor.Embedded = refl
link_pair descriptor.BothRoots = refl
link_pair descriptor.WithFile = refl
link_pair descriptor.Mixed = refl

rename_new : (v : View) (n : ℕ) (name : NewName) → Acts (descriptor.rename_new v n name)
rename_new v n (Unnamed e) = refl
rename_new v n (Named name) = refl

rename_to : (v : View) (n : ℕ) (x : Found) (text : List ℕ) → Acts (descriptor.rename_to v n x text)
rename_to v n TheRoot text = refl
rename_to v n (TheFile k) text = either (k == n) _ _ refl (either (v.held k) _ _ refl refl)
rename_to v n (Missing e) text = either (e == code.no_entry) _ _ (rename_new v n (new_name text)) refl

rename_pair : (v : View) (p : descriptor.Pair) (old new : List ℕ) → Acts (descriptor.rename_pair v p old new)
rename_pair v descriptor.Embedded old new = refl
rename_pair v descriptor.BothRoots old new = in_folder (lead_in v.scratch old) (fails code.busy) (λ n. descriptor.rename_to v n (lead_in v.scratch new) new) refl (λ n. rename_to v n (lead_in v.scratch new) new)
rename_pair v descriptor.WithFile old new = refl
rename_pair v descriptor.Mixed old new = refl

next : (m : ScratchMap) (o : Option ℕ) → Acts (entries.next_entry m o)
next m None = refl
next m (Some n) = refl

wrote : (file : ℕ) (place : Option ℕ) (len : ℕ) (o : Option ScratchMap) → Acts (output.wrote file place len o)
wrote file place len None = refl
wrote file place len (Some m) = refl

-- ---- methods

by_look : (P : Look → Type 0) → P ReadViaStream → P GetFlags → P GetType → P Read → P ReadDirectory → P Stat → P StatAt → P OpenAt → P ReadlinkAt → P MetadataHash → P MetadataHashAt → (look : Look) → P look
by_look P p0 p1 p2 p3 p4 p5 p6 p7 p8 p9 p10 ReadViaStream = p0
by_look P p0 p1 p2 p3 p4 p5 p6 p7 p8 p9 p10 GetFlags = p1
by_look P p0 p1 p2 p3 p4 p5 p6 p7 p8 p9 p10 GetType = p2
by_look P p0 p1 p2 p3 p4 p5 p6 p7 p8 p9 p10 Read = p3
by_look P p0 p1 p2 p3 p4 p5 p6 p7 p8 p9 p10 ReadDirectory = p4
by_look P p0 p1 p2 p3 p4 p5 p6 p7 p8 p9 p10 Stat = p5
by_look P p0 p1 p2 p3 p4 p5 p6 p7 p8 p9 p10 StatAt = p6
by_look P p0 p1 p2 p3 p4 p5 p6 p7 p8 p9 p10 OpenAt = p7
by_look P p0 p1 p2 p3 p4 p5 p6 p7 p8 p9 p10 ReadlinkAt = p8
by_look P p0 p1 p2 p3 p4 p5 p6 p7 p8 p9 p10 MetadataHash = p9
by_look P p0 p1 p2 p3 p4 p5 p6 p7 p8 p9 p10 MetadataHashAt = p10

by_change : (P : Change → Type 0) → P WriteViaStream → P AppendViaStream → P SetSize → P SetTimes → P Write → P CreateDirectoryAt → P RemoveDirectoryAt → P UnlinkFileAt → P SymlinkAt → P SetTimesAt → (change : Change) → P change
by_change P p0 p1 p2 p3 p4 p5 p6 p7 p8 p9 WriteViaStream = p0
by_change P p0 p1 p2 p3 p4 p5 p6 p7 p8 p9 AppendViaStream = p1
by_change P p0 p1 p2 p3 p4 p5 p6 p7 p8 p9 SetSize = p2
by_change P p0 p1 p2 p3 p4 p5 p6 p7 p8 p9 SetTimes = p3
by_change P p0 p1 p2 p3 p4 p5 p6 p7 p8 p9 Write = p4
by_change P p0 p1 p2 p3 p4 p5 p6 p7 p8 p9 CreateDirectoryAt = p5
by_change P p0 p1 p2 p3 p4 p5 p6 p7 p8 p9 RemoveDirectoryAt = p6
by_change P p0 p1 p2 p3 p4 p5 p6 p7 p8 p9 UnlinkFileAt = p7
by_change P p0 p1 p2 p3 p4 p5 p6 p7 p8 p9 SymlinkAt = p8
by_change P p0 p1 p2 p3 p4 p5 p6 p7 p8 p9 SetTimesAt = p9

module _ (v : View) (a : PlainValues) where
  look_acts : (look : Look) (c : Content) → Acts (look_row look v c a)
  look_acts look (Host id) = by_look (λ l. Acts (look_row l v (Host id) a)) refl refl refl refl refl refl refl refl refl refl refl look
  look_acts look (Node tree path) = by_look (λ l. Acts (look_row l v (Node tree path) a)) (stream_node (node_at v.trees tree path) (num 1 a) (FileAt tree path)) refl refl (read_node (node_at v.trees tree path) (num 1 a) (num 2 a)) (listed_node (node_at v.trees tree path) (Entries (children_at v.trees tree path))) refl (found (lead v.trees tree path (text 2 a) (descriptor.symlink-follow (flags 1 a))) (λ p. returns (descriptor.stat_of (node_at v.trees tree p))) (λ p. refl)) (open_tree v tree path (flags 1 a) (text 2 a) (flags 3 a) (flags 4 a)) (found (lead v.trees tree path (text 1 a) false) (λ p. descriptor.link_at (node_at v.trees tree p)) (λ p. link_node (node_at v.trees tree p))) refl (found (lead v.trees tree path (text 2 a) (descriptor.symlink-follow (flags 1 a))) (λ p. descriptor.hash_of v tree p) (λ p. refl)) look
  look_acts look (FileAt tree path place) = by_look (λ l. Acts (look_row l v (FileAt tree path place) a)) refl refl refl refl refl refl refl refl refl refl refl look
  look_acts look EmptyIn = by_look (λ l. Acts (look_row l v EmptyIn a)) refl refl refl refl refl refl refl refl refl refl refl look
  look_acts look Discard = by_look (λ l. Acts (look_row l v Discard a)) refl refl refl refl refl refl refl refl refl refl refl look
  look_acts look Always = by_look (λ l. Acts (look_row l v Always a)) refl refl refl refl refl refl refl refl refl refl refl look
  look_acts look (Entries rest) = by_look (λ l. Acts (look_row l v (Entries rest) a)) refl refl refl refl refl refl refl refl refl refl refl look
  look_acts look ScratchRoot = by_look (λ l. Acts (look_row l v ScratchRoot a)) refl refl refl refl refl refl (in_folder (lead_in v.scratch (text 2 a)) descriptor.stat_root (λ n. descriptor.stat_file v n) refl (λ n. refl)) (open_scratch v (lead_in v.scratch (text 2 a)) (text 2 a) (flags 3 a) (flags 4 a)) (in_folder (lead_in v.scratch (text 1 a)) (fails code.invalid) (λ n. fails code.invalid) refl (λ n. refl)) refl (in_folder (lead_in v.scratch (text 2 a)) (descriptor.hash_root v) (λ n. descriptor.hash_file v n) refl (λ n. refl)) look
  look_acts look (ScratchEntries number) = by_look (λ l. Acts (look_row l v (ScratchEntries number) a)) refl refl refl refl refl refl refl refl refl refl refl look
  look_acts look (ScratchFile number may_write) = by_look (λ l. Acts (look_row l v (ScratchFile number may_write) a)) refl refl refl refl refl refl refl refl refl refl refl look
  look_acts look (ScratchIn number place) = by_look (λ l. Acts (look_row l v (ScratchIn number place) a)) refl refl refl refl refl refl refl refl refl refl refl look
  look_acts look (ScratchOut number place) = by_look (λ l. Acts (look_row l v (ScratchOut number place) a)) refl refl refl refl refl refl refl refl refl refl refl look

  change_acts : (change : Change) (c : Content) → Acts (change_row change v c a)
  change_acts change (Host id) = by_change (λ k. Acts (change_row k v (Host id) a)) refl refl refl refl refl refl refl refl refl refl change
  change_acts change (Node tree path) = by_change (λ k. Acts (change_row k v (Node tree path) a)) refl refl refl refl refl refl refl refl refl refl change
  change_acts change (FileAt tree path place) = by_change (λ k. Acts (change_row k v (FileAt tree path place) a)) refl refl refl refl refl refl refl refl refl refl change
  change_acts change EmptyIn = by_change (λ k. Acts (change_row k v EmptyIn a)) refl refl refl refl refl refl refl refl refl refl change
  change_acts change Discard = by_change (λ k. Acts (change_row k v Discard a)) refl refl refl refl refl refl refl refl refl refl change
  change_acts change Always = by_change (λ k. Acts (change_row k v Always a)) refl refl refl refl refl refl refl refl refl refl change
  change_acts change (Entries rest) = by_change (λ k. Acts (change_row k v (Entries rest) a)) refl refl refl refl refl refl refl refl refl refl change
  change_acts change ScratchRoot = by_change (λ k. Acts (change_row k v ScratchRoot a)) refl refl refl refl refl refl (in_folder (lead_in v.scratch (text 1 a)) (fails code.busy) (λ n. fails code.not_directory) refl (λ n. refl)) (in_folder (lead_in v.scratch (text 1 a)) (fails code.is_directory) (λ n. if v.held n then fails code.busy else stores (removed v.scratch n) done) refl (λ n. either (v.held n) _ _ refl refl)) refl (in_folder (lead_in v.scratch (text 2 a)) (returns done) (λ n. returns done) refl (λ n. refl)) change
  change_acts change (ScratchEntries number) = by_change (λ k. Acts (change_row k v (ScratchEntries number) a)) refl refl refl refl refl refl refl refl refl refl change
  change_acts change (ScratchFile number may_write) = by_change (λ k. Acts (change_row k v (ScratchFile number may_write) a)) (either may_write _ _ refl refl) (either may_write _ _ refl refl) (either may_write _ _ (stored (sized v.scratch number (num 1 a)) done) refl) refl (either may_write _ _ (stored (written v.scratch number (num 2 a) (bytes 1 a)) (ok (number_value (length (bytes 1 a))))) refl) refl refl refl refl refl change
  change_acts change (ScratchIn number place) = by_change (λ k. Acts (change_row k v (ScratchIn number place) a)) refl refl refl refl refl refl refl refl refl refl change
  change_acts change (ScratchOut number place) = by_change (λ k. Acts (change_row k v (ScratchOut number place) a)) refl refl refl refl refl refl refl refl refl refl change

  pair_acts : (pair : Pair) (c : Content) → Acts (pair_row pair v c a)
  pair_acts LinkAt c = link_pair (descriptor.pair_of c (handle v 3 a))
  pair_acts RenameAt c = rename_pair v (descriptor.pair_of c (handle v 2 a)) (text 1 a) (text 3 a)
  pair_acts IsSameObject c = refl

  entry_acts : (c : Content) → Acts (entries.read-directory-entry v c)
  entry_acts (Host id) = refl
  entry_acts (Node tree path) = refl
  entry_acts (FileAt tree path place) = refl
  entry_acts EmptyIn = refl
  entry_acts Discard = refl
  entry_acts Always = refl
  entry_acts (Entries []) = refl
  entry_acts (Entries (e ∷ rest)) = refl
  entry_acts ScratchRoot = refl
  entry_acts (ScratchEntries number) = next v.scratch (next_file v.scratch number)
  entry_acts (ScratchFile number may_write) = refl
  entry_acts (ScratchIn number place) = refl
  entry_acts (ScratchOut number place) = refl

  pub method_acts : (method : Method) (c : Content) → acts (method_row method v c a) ≡ true
  method_acts (Looks look) c = look_acts look c
  method_acts (Changes change) c = change_acts change c
  method_acts (Pairs pair) c = pair_acts pair c
  method_acts Syncs c = refl
  method_acts ReadDirectoryEntry c = entry_acts c

  input_acts : (method : InputMethod) (c : Content) → Acts (input_row method v c a)
  input_acts ReadStream (Host id) = refl
  input_acts Skip (Host id) = refl
  input_acts ReadStream (Node tree path) = refl
  input_acts Skip (Node tree path) = refl
  input_acts ReadStream (FileAt tree path place) = either (nat_le (length (bytes_at v.trees tree path)) place) _ _ refl refl
  input_acts Skip (FileAt tree path place) = either (nat_le (length (bytes_at v.trees tree path)) place) _ _ refl refl
  input_acts ReadStream EmptyIn = refl
  input_acts Skip EmptyIn = refl
  input_acts ReadStream Discard = refl
  input_acts Skip Discard = refl
  input_acts ReadStream Always = refl
  input_acts Skip Always = refl
  input_acts ReadStream (Entries rest) = refl
  input_acts Skip (Entries rest) = refl
  input_acts ReadStream ScratchRoot = refl
  input_acts Skip ScratchRoot = refl
  input_acts ReadStream (ScratchEntries number) = refl
  input_acts Skip (ScratchEntries number) = refl
  input_acts ReadStream (ScratchFile number may_write) = refl
  input_acts Skip (ScratchFile number may_write) = refl
  input_acts ReadStream (ScratchIn number place) = either (nat_le (length (content_at v.scratch number)) place) _ _ refl refl
  input_acts Skip (ScratchIn number place) = either (nat_le (length (content_at v.scratch number)) place) _ _ refl refl
  input_acts ReadStream (ScratchOut number place) = refl
  input_acts Skip (ScratchOut number place) = refl
  input_acts Subscribe c = refl

  output_acts : (method : OutputMethod) (c : Content) → Acts (output_row method v c a)
  output_acts WriteStream (Host id) = refl
  output_acts WriteZeroes (Host id) = refl
  output_acts WriteStream (Node tree path) = refl
  output_acts WriteZeroes (Node tree path) = refl
  output_acts WriteStream (FileAt tree path place) = refl
  output_acts WriteZeroes (FileAt tree path place) = refl
  output_acts WriteStream EmptyIn = refl
  output_acts WriteZeroes EmptyIn = refl
  output_acts WriteStream Discard = refl
  output_acts WriteZeroes Discard = refl
  output_acts WriteStream Always = refl
  output_acts WriteZeroes Always = refl
  output_acts WriteStream (Entries rest) = refl
  output_acts WriteZeroes (Entries rest) = refl
  output_acts WriteStream ScratchRoot = refl
  output_acts WriteZeroes ScratchRoot = refl
  output_acts WriteStream (ScratchEntries number) = refl
  output_acts WriteZeroes (ScratchEntries number) = refl
  output_acts WriteStream (ScratchFile number may_write) = refl
  output_acts WriteZeroes (ScratchFile number may_write) = refl
  output_acts WriteStream (ScratchIn number place) = refl
  output_acts WriteZeroes (ScratchIn number place) = refl
  output_acts WriteStream (ScratchOut number place) = wrote number place (length (bytes 1 a)) (written v.scratch number (unwrap_or place (length (content_at v.scratch number))) (bytes 1 a))
  output_acts WriteZeroes (ScratchOut number place) = wrote number place (num 1 a) (written v.scratch number (unwrap_or place (length (content_at v.scratch number))) (replicate (num 1 a) 0))
  output_acts CheckWrite c = refl
  output_acts Flush c = refl
  output_acts Splice c = refl
  output_acts SubscribeOut c = refl

  pub stream_acts : (method : StreamMethod) (c : Content) → acts (stream_row method v c a) ≡ true
  stream_acts (Input method) c = input_acts method c
  stream_acts (Output method) c = output_acts method c

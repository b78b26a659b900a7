-- Rows of descriptors that open or change files and folders return what their functions' types say.
use Rattle.std.proofs.Common.{ℕ, ◌<◌, ◌^◌, true, not, ◌&&◌, ◌||◌, List, [], length, Option, Some, None, refl, lit<}
use Rattle.std.specs.Prelude.{◌==◌, unwrap_or}
use Rattle.wit_types.specs.Plain.{EightBytes}
use Rattle.tree_table.specs.declared.entries.Node.{Node as TreeNode}
use Rattle.tree_table.specs.declared.entries.Node.TheVariants.{Folder, File, Link}
use Rattle.tree_table.specs.Paths.{Path, Answer, At, Fails}
use Rattle.tree_table.specs.Trees.{entries_of, tree_map}
use Rattle.tree_table.specs.Scratches.{free_number, created, removed, sized, written, name_at, renamed, with_content}
use Rattle.reference_step.specs.Codes as code
use Rattle.reference_step.specs.Handles.{Content, Node, ScratchRoot, ScratchFile, ScratchOut}
use Rattle.reference_step.specs.Nodes.{node_at, lead, Found, TheRoot, TheFile, Missing, lead_in, NewName, Named, Unnamed, new_name}
use Rattle.reference_step.specs.Values.{number, ok, done}
use Rattle.reference_step.specs.State.{View}
use Rattle.reference_step.specs.Descriptors as descriptor
use Rattle.reference_host.proofs.ValueForms.{u64, handle, filed, number_has}
use Rattle.reference_host.proofs.CodeLaws.{HasCode, resolve_has, IsFound, lead_found, IsName, name_is}
use Rattle.reference_host.proofs.RowForms.{RowHas, either, fault, opens, opens_in, is_done, stores_done, in_scratch, stored}

-- ---- nodes of trees

open_found : (node : Option TreeNode) (tree : ℕ) (path : Path) (flags : ℕ) → RowHas (filed (Some handle)) (descriptor.open_found node tree path flags)
open_found (Some (Link target)) tree path flags = either _ (descriptor.exclusive flags) _ _ (fault (Some handle) code.exist (lit< tt)) (fault (Some handle) code.loop (lit< tt))
open_found (Some (File content)) tree path flags =
    either _ (descriptor.exclusive flags) _ _ (fault (Some handle) code.exist (lit< tt)) (either _ (descriptor.directory flags) _ _ (fault (Some handle) code.not_directory (lit< tt)) (opens (Node tree path)))
open_found None tree path flags = either _ (descriptor.exclusive flags) _ _ (fault (Some handle) code.exist (lit< tt)) (opens (Node tree path))
open_found (Some Folder) tree path flags = either _ (descriptor.exclusive flags) _ _ (fault (Some handle) code.exist (lit< tt)) (opens (Node tree path))

-- ---- two descriptors

link_pair : (p : descriptor.Pair) → RowHas (filed None) (descriptor.link_pair p)
unfolding RowHas
link_pair descriptor.Embedded = refl
link_pair descriptor.BothRoots = refl
link_pair descriptor.WithFile = refl
link_pair descriptor.Mixed = refl

pub link-at : (c other : Content) → RowHas (filed None) (descriptor.link-at c other)
link-at c other = link_pair (descriptor.pair_of c other)

-- ---- what a descriptor stands for alone

pub set-times : (c : Content) → RowHas (filed None) (descriptor.set-times c)
unfolding RowHas
set-times ScratchRoot = refl
set-times (ScratchFile n may_write) = refl
set-times _ = refl

pub create-directory-at : (c : Content) → RowHas (filed None) (descriptor.create-directory-at c)
unfolding RowHas
create-directory-at ScratchRoot = refl
create-directory-at (ScratchFile n may_write) = refl
create-directory-at _ = refl

module _ (v : View) where
  open_led : (tree : ℕ) (a : Answer) (flags : ℕ) → HasCode a → RowHas (filed (Some handle)) (descriptor.open_led v tree a flags)
  open_led tree (Fails e) flags is = either _ (e == code.no_entry && descriptor.create flags) _ _ (fault (Some handle) code.read_only (lit< tt)) (fault (Some handle) e is)
  open_led tree (At path) flags is = open_found (node_at v.trees tree path) tree path flags

  open_node : (tree : ℕ) (path : Path) (follow : ℕ) (text : List ℕ) (flags rights : ℕ) → RowHas (filed (Some handle)) (descriptor.open_node v tree path follow text flags rights)
  open_node tree path follow text flags rights =
      either _ (descriptor.write_flag rights || descriptor.mutate-directory rights || descriptor.truncate flags) _ _ (fault (Some handle) code.read_only (lit< tt))
      (open_led tree (lead v.trees tree path text (descriptor.symlink-follow follow)) flags (resolve_has (tree_map (entries_of v.trees tree)) path text (descriptor.symlink-follow follow)))

  -- ---- files of the scratch folder

  open_made : (name : List ℕ) (o : Option ℕ) (rights : ℕ) → RowHas (filed (Some handle)) (descriptor.open_made v name o rights)
  open_made name None rights = fault (Some handle) code.insufficient_space (lit< tt)
  open_made name (Some n) rights = opens_in (created v.scratch n name) (ScratchFile n (descriptor.write_flag rights))

  open_new : (name : NewName) (rights : ℕ) → IsName name → RowHas (filed (Some handle)) (descriptor.open_new v name rights)
  open_new (Unnamed e) rights is = fault (Some handle) e is
  open_new (Named name) rights is = open_made name (free_number v.scratch) rights

  open_missing : (e : ℕ) (text : List ℕ) (flags rights : ℕ) → e < 37 → RowHas (filed (Some handle)) (descriptor.open_missing v e text flags rights)
  open_missing e text flags rights is =
      either _ (not (e == code.no_entry)) _ _ (fault (Some handle) e is)
      (either _ (not (descriptor.create flags)) _ _ (fault (Some handle) code.no_entry (lit< tt))
      (either _ (descriptor.directory flags) _ _ (fault (Some handle) code.invalid (lit< tt)) (open_new (new_name text) rights (name_is text))))

  open_root : (flags rights : ℕ) → RowHas (filed (Some handle)) (descriptor.open_root flags rights)
  open_root flags rights =
      either _ (descriptor.exclusive flags) _ _ (fault (Some handle) code.exist (lit< tt))
      (either _ (descriptor.write_flag rights || descriptor.truncate flags) _ _ (fault (Some handle) code.is_directory (lit< tt)) (opens ScratchRoot))

  open_file : (n flags rights : ℕ) → RowHas (filed (Some handle)) (descriptor.open_file v n flags rights)
  open_file n flags rights =
      either _ (descriptor.exclusive flags) _ _ (fault (Some handle) code.exist (lit< tt))
      (either _ (descriptor.directory flags) _ _ (fault (Some handle) code.not_directory (lit< tt))
      (either _ (descriptor.truncate flags && not (descriptor.write_flag rights)) _ _ (fault (Some handle) code.invalid (lit< tt))
      (either _ (descriptor.truncate flags) _ _ (opens_in (with_content v.scratch n []) (ScratchFile n true)) (opens (ScratchFile n (descriptor.write_flag rights))))))

  open_scratch : (x : Found) (text : List ℕ) (flags rights : ℕ) → IsFound (length v.scratch.files) x → RowHas (filed (Some handle)) (descriptor.open_scratch v x text flags rights)
  open_scratch (Missing e) text flags rights is = open_missing e text flags rights is
  open_scratch TheRoot text flags rights is = open_root flags rights
  open_scratch (TheFile n) text flags rights is = open_file n flags rights

  pub open-at : (c : Content) (follow : ℕ) (text : List ℕ) (flags rights : ℕ) → RowHas (filed (Some handle)) (descriptor.open-at v c follow text flags rights)
  open-at (Node tree path) follow text flags rights = open_node tree path follow text flags rights
  open-at ScratchRoot follow text flags rights = open_scratch (lead_in v.scratch text) text flags rights (lead_found v.scratch text)
  open-at _ follow text flags rights = fault (Some handle) code.not_directory (lit< tt)

  -- ---- streams to a file

  pub write-via-stream : (c : Content) (offset : ℕ) → RowHas (filed (Some handle)) (descriptor.write-via-stream v c offset)
  write-via-stream ScratchRoot offset = fault (Some handle) code.is_directory (lit< tt)
  write-via-stream (ScratchFile n may_write) offset = either _ may_write _ _ (opens (ScratchOut n (Some offset))) (fault (Some handle) code.bad_descriptor (lit< tt))
  write-via-stream _ offset = fault (Some handle) code.read_only (lit< tt)

  pub append-via-stream : (c : Content) → RowHas (filed (Some handle)) (descriptor.append-via-stream v c)
  append-via-stream ScratchRoot = fault (Some handle) code.is_directory (lit< tt)
  append-via-stream (ScratchFile n may_write) = either _ may_write _ _ (opens (ScratchOut n None)) (fault (Some handle) code.bad_descriptor (lit< tt))
  append-via-stream _ = fault (Some handle) code.read_only (lit< tt)

  -- ---- changes

  pub set-size : (c : Content) (size : ℕ) → RowHas (filed None) (descriptor.set-size v c size)
  set-size ScratchRoot size = fault None code.is_directory (lit< tt)
  set-size (ScratchFile n may_write) size = either _ may_write _ _ (stored None (sized v.scratch n size) done refl) (fault None code.bad_descriptor (lit< tt))
  set-size _ size = fault None code.read_only (lit< tt)

  pub write : (c : Content) (bytes : List ℕ) (offset : ℕ) → length bytes < 2 ^ 64 → RowHas (filed (Some u64)) (descriptor.write v c bytes offset)
  write ScratchRoot bytes offset few = fault (Some u64) code.is_directory (lit< tt)
  write (ScratchFile n may_write) bytes offset few =
      either _ may_write _ _ (stored (Some u64) (written v.scratch n offset bytes) (ok (number (length bytes))) (number_has EightBytes (length bytes) few)) (fault (Some u64) code.bad_descriptor (lit< tt))
  write _ bytes offset few = fault (Some u64) code.read_only (lit< tt)

  pub remove-directory-at : (c : Content) (text : List ℕ) → RowHas (filed None) (descriptor.remove-directory-at v c text)
  remove-directory-at ScratchRoot text =
      in_scratch None (length v.scratch.files) (lead_in v.scratch text) _ _ (lead_found v.scratch text) (fault None code.busy (lit< tt)) (λ n less. fault None code.not_directory (lit< tt))
  remove-directory-at (ScratchFile n may_write) text = fault None code.not_directory (lit< tt)
  remove-directory-at _ text = fault None code.read_only (lit< tt)

  pub unlink-file-at : (c : Content) (text : List ℕ) → RowHas (filed None) (descriptor.unlink-file-at v c text)
  unlink-file-at ScratchRoot text =
      in_scratch None (length v.scratch.files) (lead_in v.scratch text) _ _ (lead_found v.scratch text) (fault None code.is_directory (lit< tt)) (λ n less. either _ (v.held n) _ _ (fault None code.busy (lit< tt)) (stores_done (removed v.scratch n)))
  unlink-file-at (ScratchFile n may_write) text = fault None code.not_directory (lit< tt)
  unlink-file-at _ text = fault None code.read_only (lit< tt)

  pub set-times-at : (c : Content) (text : List ℕ) → RowHas (filed None) (descriptor.set-times-at v c text)
  set-times-at ScratchRoot text = in_scratch None (length v.scratch.files) (lead_in v.scratch text) _ _ (lead_found v.scratch text) is_done (λ n less. is_done)
  set-times-at (ScratchFile n may_write) text = fault None code.not_directory (lit< tt)
  set-times-at _ text = fault None code.read_only (lit< tt)

  -- ---- other names

  rename_new : (n : ℕ) (name : NewName) → IsName name → RowHas (filed None) (descriptor.rename_new v n name)
  rename_new n (Unnamed e) is = fault None e is
  rename_new n (Named name) is = stores_done (renamed v.scratch n name)

  rename_over : (n k : ℕ) → RowHas (filed None) (descriptor.rename_over v n k)
  rename_over n k = either _ (k == n) _ _ is_done (either _ (v.held k) _ _ (fault None code.busy (lit< tt)) (stores_done (renamed v.scratch n (unwrap_or (name_at v.scratch k) []))))

  rename_to : (n : ℕ) (x : Found) (text : List ℕ) → IsFound (length v.scratch.files) x → RowHas (filed None) (descriptor.rename_to v n x text)
  rename_to n TheRoot text is = fault None code.exist (lit< tt)
  rename_to n (TheFile k) text is = rename_over n k
  rename_to n (Missing e) text is = either _ (e == code.no_entry) _ _ (rename_new n (new_name text) (name_is text)) (fault None e is)

  rename_pair : (p : descriptor.Pair) (old new : List ℕ) → RowHas (filed None) (descriptor.rename_pair v p old new)
  rename_pair descriptor.Embedded old new = fault None code.read_only (lit< tt)
  rename_pair descriptor.BothRoots old new =
      in_scratch None (length v.scratch.files) (lead_in v.scratch old) _ _ (lead_found v.scratch old) (fault None code.busy (lit< tt)) (λ n less. rename_to n (lead_in v.scratch new) new (lead_found v.scratch new))
  rename_pair descriptor.WithFile old new = fault None code.not_directory (lit< tt)
  rename_pair descriptor.Mixed old new = fault None code.cross_device (lit< tt)

  pub rename-at : (c other : Content) (old new : List ℕ) → RowHas (filed None) (descriptor.rename-at v c other old new)
  rename-at c other old new = rename_pair (descriptor.pair_of c other) old new

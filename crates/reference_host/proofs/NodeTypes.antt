-- Rows of descriptors that look at files and folders return what their functions' types say.
use Rattle.std.proofs.Common.{◌≡◌, ℕ, ◌<◌, ◌+◌, ◌-◌, ◌^◌, min, Bool, true, false, List, [], ◌∷◌, length, take, drop, reverse, position, Option, Some, None, refl, lit<, arith}
use Rattle.std.specs.Prelude.{unwrap_or}
use Rattle.std.proofs.lemmas.List.Elements.{All-head}
use Rattle.std.proofs.lemmas.List.Quantifiers.{position-Some}
use Rattle.wit_types.specs.Plain.{Plain, AsTuple, OneByte, EightBytes, BoolType, StringType, ListType, RecordType, FlagsType, End as NoParts, More as Part}
use Rattle.tree_table.specs.declared.entries.Node.{Node as TreeNode}
use Rattle.tree_table.specs.declared.entries.Node.TheVariants.{Folder, File, Link}
use Rattle.tree_table.specs.declared.entries.Entry.{Entry}
use Rattle.tree_table.specs.Paths.{Path}
use Rattle.tree_table.specs.Trees.{entries_of, tree_map, same_path}
use Rattle.tree_table.specs.Scratches.{content_at}
use Rattle.reference_step.specs.Codes as code
use Rattle.reference_step.specs.Handles.{Content, DirectoryEntry, Node, FileAt, Entries, ScratchRoot, ScratchEntries, ScratchFile}
use Rattle.reference_step.specs.Nodes.{node_at, lead, children_at, place_at, type_of, size_of, lead_in, stat_value, hash_value, entry_value, next_file}
use Rattle.reference_step.specs.State.{View, returns}
use Rattle.reference_step.specs.Descriptors as descriptor
use Rattle.reference_step.specs.EntryStreams as entries
use Rattle.reference_host.specs.Sound.{AreFileBytes, IsSoundNode, IsSoundEntry, IsSoundContent, IsSound}
use Rattle.reference_host.proofs.ValueForms.{Has, u8, handle, labels, optional, result, filed, descriptor_stat, metadata_hash, directory_entry, number_has, numbers_have, label_has}
use Rattle.reference_host.proofs.CodeLaws.{HasCode, resolve_has, lead_found}
use Rattle.reference_host.proofs.RowForms.{RowHas, both_true, fault, at_found, in_scratch, node_size, node_type, part_bytes}

-- what read returns: bytes, and whether they reach the end
abbrev pub read_part : Plain
read_part = RecordType AsTuple (Part [] (ListType u8) (Part [] BoolType NoParts))

abbrev pub descriptor_flags : Plain
descriptor_flags = FlagsType ([] ∷ [] ∷ [] ∷ [] ∷ [] ∷ [] ∷ [])

-- ---- values of wasi:filesystem/types

stat_has : (ty size : ℕ) → ty < 8 → size < 2 ^ 64 → Has descriptor_stat (stat_value ty size)
stat_has ty size type_is size_is = both_true _ _ (label_has 8 ty type_is) (both_true _ _ refl (both_true _ _ (number_has EightBytes size size_is) refl))

hash_has : (lower upper : ℕ) → lower < 2 ^ 64 → upper < 2 ^ 64 → Has metadata_hash (hash_value lower upper)
hash_has lower upper low up = both_true _ _ (number_has EightBytes lower low) (both_true _ _ (number_has EightBytes upper up) refl)

entry_has : (e : DirectoryEntry) → IsSoundEntry e → Has directory_entry (entry_value e)
entry_has e is = both_true _ _ (label_has 8 e.ty is) refl

bytes_from : (content : List ℕ) (len offset : ℕ) → AreFileBytes content → Has (result (Some read_part) (labels 37)) (descriptor.bytes_from content len offset)
bytes_from content len offset are =
    both_true _ _ (numbers_have OneByte (take (min len (length content - min offset (length content))) (drop (min offset (length content)) content)) (part_bytes content (min offset (length content)) (min len (length content - min offset (length content))) are).bytes) refl

-- ---- one node

stream : (node : Option TreeNode) (offset : ℕ) (at : ℕ → Content) → RowHas (filed (Some handle)) (descriptor.stream_at node offset at)
unfolding RowHas
stream (Some (File content)) offset at = refl
stream None offset at = refl
stream (Some Folder) offset at = refl
stream (Some (Link target)) offset at = refl

read_node : (node : Option TreeNode) (len offset : ℕ) → IsSoundNode node → RowHas (filed (Some read_part)) (descriptor.read_node node len offset)
unfolding RowHas
read_node (Some (File content)) len offset is = bytes_from content len offset is
read_node None len offset is = refl
read_node (Some Folder) len offset is = refl
read_node (Some (Link target)) len offset is = refl

listed : (node : Option TreeNode) (c : Content) → RowHas (filed (Some handle)) (descriptor.listed node c)
unfolding RowHas
listed (Some (File content)) c = refl
listed None c = refl
listed (Some Folder) c = refl
listed (Some (Link target)) c = refl

link : (node : Option TreeNode) → RowHas (filed (Some StringType)) (descriptor.link_at node)
unfolding RowHas
link (Some (Link target)) = refl
link None = refl
link (Some Folder) = refl
link (Some (File content)) = refl

stat_node : (node : Option TreeNode) → IsSoundNode node → Has (result (Some descriptor_stat) (labels 37)) (descriptor.stat_of node)
stat_node node is = stat_has (type_of node) (size_of node) (node_type node) (node_size node is)

pub get-flags : (c : Content) → RowHas (filed (Some descriptor_flags)) (descriptor.get-flags c)
unfolding RowHas
get-flags ScratchRoot = refl
get-flags (ScratchFile n true) = refl
get-flags (ScratchFile n false) = refl
get-flags _ = refl

module _ (v : View) (sound : IsSound v) where
  led : (tree : ℕ) (path : Path) (text : List ℕ) (follow : Bool) → HasCode (lead v.trees tree path text follow)
  led tree path text follow = resolve_has (tree_map (entries_of v.trees tree)) path text follow

  pub read-via-stream : (c : Content) (offset : ℕ) → RowHas (filed (Some handle)) (descriptor.read-via-stream v c offset)
  unfolding RowHas
  read-via-stream (Node tree path) offset = stream (node_at v.trees tree path) offset (FileAt tree path)
  read-via-stream (ScratchFile n may_write) offset = refl
  read-via-stream _ offset = refl

  pub get-type : (c : Content) → RowHas (filed (Some (labels 8))) (descriptor.get-type v c)
  unfolding RowHas
  get-type (Node tree path) = label_has 8 (type_of (node_at v.trees tree path)) (node_type (node_at v.trees tree path))
  get-type (ScratchFile n may_write) = refl
  get-type _ = refl

  pub read : (c : Content) (len offset : ℕ) → RowHas (filed (Some read_part)) (descriptor.read v c len offset)
  unfolding RowHas
  read (Node tree path) len offset = read_node (node_at v.trees tree path) len offset (sound.nodes tree path)
  read (ScratchFile n may_write) len offset = bytes_from (content_at v.scratch n) len offset (sound.files n)
  read _ len offset = refl

  pub read-directory : (c : Content) → RowHas (filed (Some handle)) (descriptor.read-directory v c)
  unfolding RowHas
  read-directory (Node tree path) = listed (node_at v.trees tree path) (Entries (children_at v.trees tree path))
  read-directory (ScratchFile n may_write) = refl
  read-directory _ = refl

  next : (o : Option ℕ) → RowHas (filed (Some (optional directory_entry))) (entries.next_entry v.scratch o)
  unfolding RowHas
  next None = refl
  next (Some n) = entry_has (entries.file_entry v.scratch n) (lit< tt)

  pub read-directory-entry : (c : Content) → IsSoundContent c → RowHas (filed (Some (optional directory_entry))) (entries.read-directory-entry v c)
  unfolding RowHas
  read-directory-entry (Entries (e ∷ rest)) is = entry_has e (All-head IsSoundEntry e rest is)
  read-directory-entry (Entries []) is = refl
  read-directory-entry (ScratchEntries from) is = next (next_file v.scratch from)
  read-directory-entry _ is = refl

  -- ---- what is known of a node

  root_stat : RowHas (filed (Some descriptor_stat)) descriptor.stat_root
  unfolding RowHas
  root_stat = stat_has code.directory 0 (lit< tt) (lit< tt)

  file_stat : (n : ℕ) → RowHas (filed (Some descriptor_stat)) (descriptor.stat_file v n)
  unfolding RowHas
  file_stat n = stat_has code.regular_file (length (content_at v.scratch n)) (lit< tt) (sound.files n).count

  node_stat : (tree : ℕ) (path : Path) → RowHas (filed (Some descriptor_stat)) (returns (descriptor.stat_of (node_at v.trees tree path)))
  unfolding RowHas
  node_stat tree path = stat_node (node_at v.trees tree path) (sound.nodes tree path)

  pub stat : (c : Content) → RowHas (filed (Some descriptor_stat)) (descriptor.stat v c)
  unfolding RowHas
  stat (Node tree path) = node_stat tree path
  stat (ScratchFile n may_write) = file_stat n
  stat _ = root_stat

  pub stat-at : (c : Content) (flags : ℕ) (text : List ℕ) → RowHas (filed (Some descriptor_stat)) (descriptor.stat-at v c flags text)
  stat-at (Node tree path) flags text =
      at_found (Some descriptor_stat) (lead v.trees tree path text (descriptor.symlink-follow flags)) _ (led tree path text (descriptor.symlink-follow flags)) (λ p. node_stat tree p)
  stat-at ScratchRoot flags text = in_scratch (Some descriptor_stat) (length v.scratch.files) (lead_in v.scratch text) _ _ (lead_found v.scratch text) root_stat (λ n less. file_stat n)
  stat-at _ flags text = fault (Some descriptor_stat) code.not_directory (lit< tt)

  place : (es : List Entry) (path : Path) (o : Option ℕ) → position (λ e. same_path (reverse e.path) path) es ≡ o → length es < 2 ^ 64 → unwrap_or o 0 < 2 ^ 64
  place es path None is less = lit< tt
  place es path (Some n) is less = let at = position-Some (λ e. same_path (reverse e.path) path) es n (record { path = []; node = Folder }) is in omega (arith, less, at.0)

  tree_hash : (tree : ℕ) (path : Path) → tree + 1 < 2 ^ 64 → RowHas (filed (Some metadata_hash)) (descriptor.hash_of v tree path)
  unfolding RowHas
  tree_hash tree path less =
      hash_has (place_at v.trees tree path) (tree + 1) (place (entries_of v.trees tree) path (position (λ e. same_path (reverse e.path) path) (entries_of v.trees tree)) refl (sound.entries tree)) less

  root_hash : RowHas (filed (Some metadata_hash)) (descriptor.hash_root v)
  unfolding RowHas
  root_hash = hash_has 0 (length v.trees + 1) (lit< tt) sound.trees

  file_hash : (n : ℕ) → n + 1 < 2 ^ 64 → RowHas (filed (Some metadata_hash)) (descriptor.hash_file v n)
  unfolding RowHas
  file_hash n less = hash_has (n + 1) (length v.trees + 1) less sound.trees

  pub metadata-hash : (c : Content) → IsSoundContent c → RowHas (filed (Some metadata_hash)) (descriptor.metadata-hash v c)
  unfolding RowHas
  metadata-hash (Node tree path) is = tree_hash tree path is
  metadata-hash (ScratchFile n may_write) is = file_hash n is
  metadata-hash _ is = root_hash

  pub metadata-hash-at : (c : Content) (flags : ℕ) (text : List ℕ) → IsSoundContent c → RowHas (filed (Some metadata_hash)) (descriptor.metadata-hash-at v c flags text)
  metadata-hash-at (Node tree path) flags text is =
      at_found (Some metadata_hash) (lead v.trees tree path text (descriptor.symlink-follow flags)) _ (led tree path text (descriptor.symlink-follow flags)) (λ p. tree_hash tree p is)
  metadata-hash-at ScratchRoot flags text is =
      in_scratch (Some metadata_hash) (length v.scratch.files) (lead_in v.scratch text) _ _ (lead_found v.scratch text) root_hash (λ n less. file_hash n (omega (arith, less, sound.numbers)))
  metadata-hash-at _ flags text is = fault (Some metadata_hash) code.not_directory (lit< tt)

  pub readlink-at : (c : Content) (text : List ℕ) → RowHas (filed (Some StringType)) (descriptor.readlink-at v c text)
  readlink-at (Node tree path) text = at_found (Some StringType) (lead v.trees tree path text false) _ (led tree path text false) (λ p. link (node_at v.trees tree p))
  readlink-at ScratchRoot text =
      in_scratch (Some StringType) (length v.scratch.files) (lead_in v.scratch text) _ _ (lead_found v.scratch text) (fault (Some StringType) code.invalid (lit< tt)) (λ n less. fault (Some StringType) code.invalid (lit< tt))
  readlink-at _ text = fault (Some StringType) code.not_directory (lit< tt)

-- Each method keeps the files that are held, by what its handle stands for.
use Rattle.std.proofs.Common.{◌≡◌, ℕ, ◌+◌, Bool, true, false, not, ◌&&◌, ◌||◌, nat_le, List, [], ◌∷◌, length, replicate, Option, Some, None, refl, sym, ap, ◌∙◌, arith}
use Rattle.std.specs.Prelude.{◌==◌, IsSome, option_map, unwrap_or, if◌then◌else◌}
use Rattle.wit_types.specs.PlainValue.{PlainValue}
use Rattle.tree_table.specs.declared.entries.Node.{Node as TreeNode}
use Rattle.tree_table.specs.declared.entries.Node.TheVariants.{Folder, File, Link}
use Rattle.tree_table.specs.Paths.{Path, Answer, At, Fails, resolve}
use Rattle.tree_table.specs.Scratches.{ScratchMap, file_at, name_at, content_at, find_file, free_number, created, removed, renamed, sized, written, with_content, read_at, scratch_tree}
use Rattle.reference_step.specs.Codes as code
use Rattle.reference_step.specs.Handles.{Content, Node, FileAt, Entries, ScratchRoot, ScratchEntries, ScratchFile, ScratchIn, ScratchOut}
use Rattle.reference_step.specs.Nodes.{node_at, lead, children_at, Found, TheRoot, TheFile, Missing, found_at, lead_in, NewName, Named, Unnamed, new_name, next_file, bytes_at}
use Rattle.reference_step.specs.Values.{done, closed}
use Rattle.reference_step.specs.State.{View, Row, returns, returns_nothing, fails, gives, gives_ok, gives_ok_in, moves, stores, stores_and_moves}
use Rattle.reference_step.specs.Descriptors as descriptor
use Rattle.reference_step.specs.InputStreams as input
use Rattle.reference_step.specs.OutputStreams as output
use Rattle.reference_step.specs.EntryStreams as entries
use Rattle.reference_step.specs.Pollables as pollables
use Rattle.ref_scratch.proofs.NameLemmas.{new_is}
use Rattle.reference_host.specs.Keeping.{KeepsFiles, IsThere, Keeps}
use Rattle.reference_host.proofs.MapLaws.{kept_self, kept_content, kept_created, kept_removed, kept_sized, kept_written, kept_renamed, led_there, led_name, stays_there, made_there}

module _ (v : View) where
  abbrev pub K : Row → Type 0
  K row = Keeps v.held v.scratch row

  abbrev pub There : Content → Type 0
  There c = IsThere v.scratch c

  same : KeepsFiles v.held v.scratch v.scratch
  same = kept_self v.held v.scratch

  -- ---- the forms of rows

  pub of_value : (x : PlainValue) → K (returns x)
  of_value x = record { files = same; makes = tt; becomes = tt }

  pub nothing : K returns_nothing
  nothing = record { files = same; makes = tt; becomes = tt }

  pub of_fault : (e : ℕ) → K (fails e)
  of_fault e = record { files = same; makes = tt; becomes = tt }

  pub of_new : (c : Content) → There c → K (gives c)
  of_new c there = record { files = same; makes = (there, tt); becomes = tt }

  of_ok : (c : Content) → There c → K (gives_ok c)
  of_ok c there = record { files = same; makes = (there, tt); becomes = tt }

  of_move : (c : Content) (x : PlainValue) → There c → K (moves c x)
  of_move c x there = record { files = same; makes = tt; becomes = there }

  of_store : (new : ScratchMap) (x : PlainValue) → KeepsFiles v.held v.scratch new → K (stores new x)
  of_store new x kept = record { files = kept; makes = tt; becomes = tt }

  of_ok_in : (new : ScratchMap) (c : Content) → KeepsFiles v.held v.scratch new → IsThere new c → K (gives_ok_in new c)
  of_ok_in new c kept there = record { files = kept; makes = (there, tt); becomes = tt }

  of_store_move : (new : ScratchMap) (c : Content) (x : PlainValue) → KeepsFiles v.held v.scratch new → IsThere new c → K (stores_and_moves new c x)
  of_store_move new c x kept there = record { files = kept; makes = tt; becomes = there }

  -- by a test
  either : (b : Bool) (x y : Row) → K x → K y → K (if b then x else y)
  either true x y p q = p
  either false x y p q = q

  unless : (b : Bool) (x y : Row) → K x → (b ≡ false → K y) → K (if b then x else y)
  unless true x y p q = p
  unless false x y p q = q refl

  -- ---- descriptors that stand for a node

  found : (a : Answer) (go : Path → Row) → ((p : Path) → K (go p)) → K (descriptor.at_found a go)
  found (Fails e) go each = of_fault e
  found (At p) go each = each p

  stream : (node : Option TreeNode) (offset : ℕ) (at : ℕ → Content) → ((o : ℕ) → There (at o)) → K (descriptor.stream_at node offset at)
  stream None offset at there = of_fault code.is_directory
  stream (Some Folder) offset at there = of_fault code.is_directory
  stream (Some (File content)) offset at there = of_ok (at _) (there _)
  stream (Some (Link target)) offset at there = of_fault code.is_directory

  read_node : (node : Option TreeNode) (len offset : ℕ) → K (descriptor.read_node node len offset)
  read_node None len offset = of_fault code.is_directory
  read_node (Some Folder) len offset = of_fault code.is_directory
  read_node (Some (File content)) len offset = of_value (descriptor.bytes_from content len offset)
  read_node (Some (Link target)) len offset = of_fault code.is_directory

  listed : (node : Option TreeNode) (c : Content) → There c → K (descriptor.listed node c)
  listed None c there = of_ok c there
  listed (Some Folder) c there = of_ok c there
  listed (Some (File content)) c there = of_fault code.not_directory
  listed (Some (Link target)) c there = of_ok c there

  link : (node : Option TreeNode) → K (descriptor.link_at node)
  link None = of_fault code.invalid
  link (Some Folder) = of_fault code.invalid
  link (Some (File content)) = of_fault code.invalid
  link (Some (Link target)) = of_value _

  open_found : (node : Option TreeNode) (tree : ℕ) (path : Path) (flags : ℕ) → K (descriptor.open_found node tree path flags)
  open_found None tree path flags = either (descriptor.exclusive flags) _ _ (of_fault code.exist) (of_ok (Node tree path) tt)
  open_found (Some Folder) tree path flags = either (descriptor.exclusive flags) _ _ (of_fault code.exist) (of_ok (Node tree path) tt)
  open_found (Some (File content)) tree path flags = either (descriptor.exclusive flags) _ _ (of_fault code.exist) (either (descriptor.directory flags) _ _ (of_fault code.not_directory) (of_ok (Node tree path) tt))
  open_found (Some (Link target)) tree path flags = either (descriptor.exclusive flags) _ _ (of_fault code.exist) (of_fault code.loop)

  open_led : (tree : ℕ) (a : Answer) (flags : ℕ) → K (descriptor.open_led v tree a flags)
  open_led tree (Fails e) flags = either (e == code.no_entry && descriptor.create flags) _ _ (of_fault code.read_only) (of_fault e)
  open_led tree (At path) flags = open_found (node_at v.trees tree path) tree path flags

  open_node : (tree : ℕ) (path : Path) (follow : ℕ) (text : List ℕ) (flags rights : ℕ) → K (descriptor.open_node v tree path follow text flags rights)
  open_node tree path follow text flags rights =
      either (descriptor.write_flag rights || descriptor.mutate-directory rights || descriptor.truncate flags) (fails code.read_only)
      (descriptor.open_led v tree (lead v.trees tree path text (descriptor.symlink-follow follow)) flags)
      (of_fault code.read_only)
      (open_led tree (lead v.trees tree path text (descriptor.symlink-follow follow)) flags)

  -- ---- the scratch folder

  in_scratch : (a : Answer) (root : Row) (file : ℕ → Row) → K root → ((n : ℕ) → found_at v.scratch a ≡ TheFile n → K (file n)) → K (descriptor.in_scratch (found_at v.scratch a) root file)
  in_scratch a root file at_root at_file = by (found_at v.scratch a) refl
    where
      by : (x : Found) → found_at v.scratch a ≡ x → K (descriptor.in_scratch x root file)
      by (Missing e) is = of_fault e
      by TheRoot is = at_root
      by (TheFile n) is = at_file n is

  stored : (o : Option ScratchMap) (x : PlainValue) → ((new : ScratchMap) → o ≡ Some new → KeepsFiles v.held v.scratch new) → K (descriptor.stored o x)
  stored None x kept = of_fault code.insufficient_space
  stored (Some new) x kept = of_store new x (kept new refl)

  open_made : (name : List ℕ) (o : Option ℕ) (rights : ℕ) → ((n : ℕ) → o ≡ Some n → IsSome (file_at (created v.scratch n name) n)) → K (descriptor.open_made v name o rights)
  open_made name None rights there = of_fault code.insufficient_space
  open_made name (Some n) rights there = of_ok_in (created v.scratch n name) (ScratchFile n (descriptor.write_flag rights)) (kept_created v.held v.scratch n name) (there n refl)

  open_new : (name : NewName) (rights : ℕ) → K (descriptor.open_new v name rights)
  open_new (Unnamed e) rights = of_fault e
  open_new (Named name) rights = open_made name (free_number v.scratch) rights (made_there v.scratch name)

  open_missing : (e : ℕ) (text : List ℕ) (flags rights : ℕ) → K (descriptor.open_missing v e text flags rights)
  open_missing e text flags rights =
      either (not (e == code.no_entry)) _ _ (of_fault e)
      (either (not (descriptor.create flags)) _ _ (of_fault code.no_entry) (either (descriptor.directory flags) _ _ (of_fault code.invalid) (open_new (new_name text) rights)))

  open_root : (flags rights : ℕ) → K (descriptor.open_root flags rights)
  open_root flags rights =
      either (descriptor.exclusive flags) _ _ (of_fault code.exist)
      (either (descriptor.write_flag rights || descriptor.truncate flags) _ _ (of_fault code.is_directory) (of_ok ScratchRoot tt))

  open_file : (n flags rights : ℕ) → IsSome (file_at v.scratch n) → K (descriptor.open_file v n flags rights)
  open_file n flags rights there =
      either (descriptor.exclusive flags) _ _ (of_fault code.exist)
      (either (descriptor.directory flags) _ _ (of_fault code.not_directory)
      (either (descriptor.truncate flags && not (descriptor.write_flag rights)) _ _ (of_fault code.invalid)
      (either (descriptor.truncate flags) _ _
      (of_ok_in (with_content v.scratch n []) (ScratchFile n true) (kept_content v.held v.scratch n []) (stays_there v.scratch n [] there))
      (of_ok (ScratchFile n (descriptor.write_flag rights)) there))))

  open_scratch : (a : Answer) (text : List ℕ) (flags rights : ℕ) → K (descriptor.open_scratch v (found_at v.scratch a) text flags rights)
  open_scratch a text flags rights = by (found_at v.scratch a) refl
    where
      by : (x : Found) → found_at v.scratch a ≡ x → K (descriptor.open_scratch v x text flags rights)
      by (Missing e) is = open_missing e text flags rights
      by TheRoot is = open_root flags rights
      by (TheFile n) is = open_file n flags rights (led_there v.scratch n a is)

  -- a file that is unlinked or replaced is not held
  free : (k : ℕ) (b : Bool) → v.held k ≡ b → b ≡ false → v.held k ≡ false
  free k b is e = is ∙ e

  unlinked : (n : ℕ) → K (if v.held n then fails code.busy else stores (removed v.scratch n) done)
  unlinked n = unless (v.held n) _ _ (of_fault code.busy) (λ free. of_store _ done (kept_removed v.held v.scratch n free))

  rename_new : (n : ℕ) (a : NewName) → ((name : List ℕ) → a ≡ Named name → find_file v.scratch name ≡ None) → K (descriptor.rename_new v n a)
  rename_new n (Unnamed e) none = of_fault e
  rename_new n (Named name) none = of_store (renamed v.scratch n name) done (kept_renamed v.held v.scratch n name (λ k is. absurd (clash k (sym is ∙ none name refl))))
    where
      clash : (k : ℕ) → Some k ≡ None → ⊥
      clash k e = cc

  rename_over : (n k : ℕ) → find_file v.scratch (unwrap_or (name_at v.scratch k) []) ≡ Some k → K (descriptor.rename_over v n k)
  rename_over n k is =
      either (k == n) _ _ (of_value done)
      (unless (v.held k) _ _ (of_fault code.busy) (λ free. of_store _ done (kept_renamed v.held v.scratch n (unwrap_or (name_at v.scratch k) []) (λ j e. found_free j free (sym is ∙ e)))))
    where
      found_free : (j : ℕ) → v.held k ≡ false → Some k ≡ Some j → v.held j ≡ false
      found_free j free e = let same : k ≡ j = cc in ap v.held (sym same) ∙ free

  rename_to : (n : ℕ) (text : List ℕ) → K (descriptor.rename_to v n (lead_in v.scratch text) text)
  rename_to n text = by (lead_in v.scratch text) refl
    where
      missing : (e : ℕ) (b : Bool) → (e == code.no_entry) ≡ b → lead_in v.scratch text ≡ Missing e → K (if b then descriptor.rename_new v n (new_name text) else fails e)
      missing e true is led =
          let e_is : e ≡ code.no_entry = grind (arith, is) in
          rename_new n (new_name text) (λ name new. (new_is v.scratch name text new (led ∙ ap Missing e_is)).0)
      missing e false is led = of_fault e

      by : (x : Found) → lead_in v.scratch text ≡ x → K (descriptor.rename_to v n x text)
      by TheRoot is = of_fault code.exist
      by (TheFile k) is = rename_over n k (led_name v.scratch k (resolve (scratch_tree v.scratch) [] text false) is)
      by (Missing e) is = missing e (e == code.no_entry) refl is

  -- ---- the methods of descriptors, by what they stand for

  pub read-via-stream : (c : Content) (offset : ℕ) → There c → K (descriptor.read-via-stream v c offset)
  read-via-stream (Node tree path) offset there = stream (node_at v.trees tree path) offset (FileAt tree path) (λ o. tt)
  read-via-stream (ScratchFile n w) offset there = of_ok (ScratchIn n offset) there
  read-via-stream _ offset there = of_fault code.is_directory

  pub write-via-stream : (c : Content) (offset : ℕ) → There c → K (descriptor.write-via-stream v c offset)
  write-via-stream ScratchRoot offset there = of_fault code.is_directory
  write-via-stream (ScratchFile n w) offset there = either w _ _ (of_ok (ScratchOut n (Some offset)) there) (of_fault code.bad_descriptor)
  write-via-stream _ offset there = of_fault code.read_only

  pub append-via-stream : (c : Content) → There c → K (descriptor.append-via-stream v c)
  append-via-stream ScratchRoot there = of_fault code.is_directory
  append-via-stream (ScratchFile n w) there = either w _ _ (of_ok (ScratchOut n None) there) (of_fault code.bad_descriptor)
  append-via-stream _ there = of_fault code.read_only

  pub set-size : (c : Content) (size : ℕ) → K (descriptor.set-size v c size)
  set-size ScratchRoot size = of_fault code.is_directory
  set-size (ScratchFile n w) size = either w _ _ (stored (sized v.scratch n size) done (kept_sized v.held v.scratch n size)) (of_fault code.bad_descriptor)
  set-size _ size = of_fault code.read_only

  pub set-times : (c : Content) → K (descriptor.set-times c)
  set-times ScratchRoot = of_value done
  set-times (ScratchFile n w) = of_value done
  set-times _ = of_fault code.read_only

  pub get-flags : (c : Content) → K (descriptor.get-flags c)
  get-flags ScratchRoot = of_value _
  get-flags (ScratchFile n w) = of_value _
  get-flags _ = of_value _

  pub get-type : (c : Content) → K (descriptor.get-type v c)
  get-type (Node tree path) = of_value _
  get-type (ScratchFile n w) = of_value _
  get-type _ = of_value _

  pub read : (c : Content) (len offset : ℕ) → K (descriptor.read v c len offset)
  read (Node tree path) len offset = read_node (node_at v.trees tree path) len offset
  read (ScratchFile n w) len offset = of_value _
  read _ len offset = of_fault code.is_directory

  pub write : (c : Content) (bytes : List ℕ) (offset : ℕ) → K (descriptor.write v c bytes offset)
  write ScratchRoot bytes offset = of_fault code.is_directory
  write (ScratchFile n w) bytes offset = either w _ _ (stored (written v.scratch n offset bytes) _ (kept_written v.held v.scratch n offset bytes)) (of_fault code.bad_descriptor)
  write _ bytes offset = of_fault code.read_only

  pub read-directory : (c : Content) → K (descriptor.read-directory v c)
  read-directory (Node tree path) = listed (node_at v.trees tree path) (Entries (children_at v.trees tree path)) tt
  read-directory (ScratchFile n w) = of_fault code.not_directory
  read-directory _ = of_ok (ScratchEntries 0) tt

  pub create-directory-at : (c : Content) → K (descriptor.create-directory-at c)
  create-directory-at ScratchRoot = of_fault code.unsupported
  create-directory-at (ScratchFile n w) = of_fault code.not_directory
  create-directory-at _ = of_fault code.read_only

  pub remove-directory-at : (c : Content) (text : List ℕ) → K (descriptor.remove-directory-at v c text)
  remove-directory-at ScratchRoot text = in_scratch (resolve (scratch_tree v.scratch) [] text false) _ _ (of_fault code.busy) (λ n is. of_fault code.not_directory)
  remove-directory-at (ScratchFile n w) text = of_fault code.not_directory
  remove-directory-at _ text = of_fault code.read_only

  pub unlink-file-at : (c : Content) (text : List ℕ) → K (descriptor.unlink-file-at v c text)
  unlink-file-at ScratchRoot text = in_scratch (resolve (scratch_tree v.scratch) [] text false) _ _ (of_fault code.is_directory) (λ n is. unlinked n)
  unlink-file-at (ScratchFile n w) text = of_fault code.not_directory
  unlink-file-at _ text = of_fault code.read_only

  pub stat : (c : Content) → K (descriptor.stat v c)
  stat (Node tree path) = of_value _
  stat (ScratchFile n w) = of_value _
  stat _ = of_value _

  pub stat-at : (c : Content) (flags : ℕ) (text : List ℕ) → K (descriptor.stat-at v c flags text)
  stat-at (Node tree path) flags text = found (lead v.trees tree path text (descriptor.symlink-follow flags)) _ (λ p. of_value _)
  stat-at ScratchRoot flags text = in_scratch (resolve (scratch_tree v.scratch) [] text false) _ _ (of_value _) (λ n is. of_value _)
  stat-at _ flags text = of_fault code.not_directory

  pub set-times-at : (c : Content) (text : List ℕ) → K (descriptor.set-times-at v c text)
  set-times-at ScratchRoot text = in_scratch (resolve (scratch_tree v.scratch) [] text false) _ _ (of_value done) (λ n is. of_value done)
  set-times-at (ScratchFile n w) text = of_fault code.not_directory
  set-times-at _ text = of_fault code.read_only

  pub metadata-hash : (c : Content) → K (descriptor.metadata-hash v c)
  metadata-hash (Node tree path) = of_value _
  metadata-hash (ScratchFile n w) = of_value _
  metadata-hash _ = of_value _

  pub metadata-hash-at : (c : Content) (flags : ℕ) (text : List ℕ) → K (descriptor.metadata-hash-at v c flags text)
  metadata-hash-at (Node tree path) flags text = found (lead v.trees tree path text (descriptor.symlink-follow flags)) _ (λ p. of_value _)
  metadata-hash-at ScratchRoot flags text = in_scratch (resolve (scratch_tree v.scratch) [] text false) _ _ (of_value _) (λ n is. of_value _)
  metadata-hash-at _ flags text = of_fault code.not_directory

  pub readlink-at : (c : Content) (text : List ℕ) → K (descriptor.readlink-at v c text)
  readlink-at (Node tree path) text = found (lead v.trees tree path text false) _ (λ p. link (node_at v.trees tree p))
  readlink-at ScratchRoot text = in_scratch (resolve (scratch_tree v.scratch) [] text false) _ _ (of_fault code.invalid) (λ n is. of_fault code.invalid)
  readlink-at _ text = of_fault code.not_directory

  pub open-at : (c : Content) (follow : ℕ) (text : List ℕ) (flags rights : ℕ) → K (descriptor.open-at v c follow text flags rights)
  open-at (Node tree path) follow text flags rights = open_node tree path follow text flags rights
  open-at ScratchRoot follow text flags rights = open_scratch (resolve (scratch_tree v.scratch) [] text false) text flags rights
  open-at _ follow text flags rights = of_fault code.not_directory

  pair : (p : descriptor.Pair) (old new : List ℕ) → K (descriptor.rename_pair v p old new)
  pair descriptor.Embedded old new = of_fault code.read_only
  pair descriptor.BothRoots old new = in_scratch (resolve (scratch_tree v.scratch) [] old false) _ _ (of_fault code.busy) (λ n is. rename_to n new)
  pair descriptor.WithFile old new = of_fault code.not_directory
  pair descriptor.Mixed old new = of_fault code.cross_device

  pub rename-at : (c other : Content) (old new : List ℕ) → K (descriptor.rename-at v c other old new)
  rename-at c other old new = pair (descriptor.pair_of c other) old new

  pub link-at : (c other : Content) → K (descriptor.link-at c other)
  link-at c other = by (descriptor.pair_of c other)
    where
      by : (p : descriptor.Pair) → K (descriptor.link_pair p)
      by descriptor.Embedded = of_fault code.read_only
      by descriptor.BothRoots = of_fault code.unsupported
      by descriptor.WithFile = of_fault code.not_directory
      by descriptor.Mixed = of_fault code.cross_device

  -- ---- streams and listings

  reads : (bytes : List ℕ) (place len : ℕ) (at : ℕ → Content) → ((p : ℕ) → There (at p)) → K (input.reads bytes place len at)
  reads bytes place len at there = either (nat_le (length bytes) place) _ _ (of_value closed) (of_move (at (place + length (read_at bytes place len))) _ (there _))

  skips : (bytes : List ℕ) (place len : ℕ) (at : ℕ → Content) → ((p : ℕ) → There (at p)) → K (input.skips bytes place len at)
  skips bytes place len at there = either (nat_le (length bytes) place) _ _ (of_value closed) (of_move (at (place + length (read_at bytes place len))) _ (there _))

  pub read_input : (c : Content) (len : ℕ) → There c → K (input.read v c len)
  read_input (FileAt tree path place) len there = reads (bytes_at v.trees tree path) place len (FileAt tree path) (λ p. tt)
  read_input (ScratchIn n place) len there = reads (content_at v.scratch n) place len (ScratchIn n) (λ p. there)
  read_input _ len there = of_value closed

  pub skip_input : (c : Content) (len : ℕ) → There c → K (input.skip v c len)
  skip_input (FileAt tree path place) len there = skips (bytes_at v.trees tree path) place len (FileAt tree path) (λ p. tt)
  skip_input (ScratchIn n place) len there = skips (content_at v.scratch n) place len (ScratchIn n) (λ p. there)
  skip_input _ len there = of_value closed

  wrote : (n : ℕ) (place : Option ℕ) (len : ℕ) (o : Option ScratchMap) → ((new : ScratchMap) → o ≡ Some new → KeepsFiles v.held v.scratch new × IsSome (file_at new n)) → K (output.wrote n place len o)
  wrote n place len None kept = of_value closed
  wrote n place len (Some new) kept = of_store_move new (ScratchOut n (option_map (λ p. p + len) place)) done (kept new refl).0 (kept new refl).1

  write_bytes : (n : ℕ) (place : Option ℕ) (len : ℕ) (bytes : List ℕ) → IsSome (file_at v.scratch n) → K (output.wrote n place len (written v.scratch n (unwrap_or place (length (content_at v.scratch n))) bytes))
  write_bytes n place len bytes there =
      wrote n place len (written v.scratch n (unwrap_or place (length (content_at v.scratch n))) bytes) (λ new e.
      (kept_written v.held v.scratch n _ bytes new e, (kept_written (λ k. true) v.scratch n _ bytes new e).kept n refl there))

  pub write_output : (c : Content) (bytes : List ℕ) → There c → K (output.write v c bytes)
  write_output (ScratchOut n place) bytes there = write_bytes n place (length bytes) bytes there
  write_output _ bytes there = of_value done

  pub write_zeroes : (c : Content) (len : ℕ) → There c → K (output.write-zeroes v c len)
  write_zeroes (ScratchOut n place) len there = write_bytes n place len (replicate len 0) there
  write_zeroes _ len there = of_value done

  next : (o : Option ℕ) → K (entries.next_entry v.scratch o)
  next None = of_value _
  next (Some n) = of_move (ScratchEntries (n + 1)) _ tt

  pub read-directory-entry : (c : Content) → K (entries.read-directory-entry v c)
  read-directory-entry (Entries (e ∷ rest)) = of_move (Entries rest) _ tt
  read-directory-entry (Entries []) = of_value _
  read-directory-entry (ScratchEntries from) = next (next_file v.scratch from)
  read-directory-entry _ = of_value _

  pub poll : (vs : List PlainValue) → K (pollables.poll_of v.content vs)
  poll [] = tt
  poll (x ∷ vs) = of_value _

-- What is no descriptor answers as a pollable would, and what is no listing has no entries.
use Rattle.std.proofs.Common.{◌≡◌, ℕ, true, false, List, refl}
use Rattle.wit_types.specs.PlainValue.{PlainValues}
use Rattle.tree_table.specs.Paths.{Path}
use Rattle.reference_step.specs.Codes as code
use Rattle.reference_step.specs.EntryStreams.{read-directory-entry}
use Rattle.reference_step.specs.InputStreams as input
use Rattle.reference_step.specs.OutputStreams as output
use Rattle.reference_step.specs.Handles.{Content, Host, Node, FileAt, EmptyIn, Discard, Always, Entries, ScratchRoot, ScratchEntries, ScratchFile, ScratchIn, ScratchOut}
use Rattle.reference_step.specs.State.{View, fails, returns}
use Rattle.reference_step.specs.Values.{ok, none, done, closed}
use Rattle.ref_virtual.specs.declared.methods.Look.{Look}
use Rattle.ref_virtual.specs.declared.methods.Look.TheVariants.{ReadViaStream, GetFlags, GetType, Read, ReadDirectory, Stat, StatAt, OpenAt, ReadlinkAt, MetadataHash, MetadataHashAt}
use Rattle.ref_virtual.specs.declared.methods.Change.{Change}
use Rattle.ref_virtual.specs.declared.methods.Change.TheVariants.{WriteViaStream, AppendViaStream, SetSize, SetTimes, Write, CreateDirectoryAt, RemoveDirectoryAt, UnlinkFileAt, SymlinkAt, SetTimesAt}
use Rattle.ref_virtual.specs.declared.methods.Pair.{Pair}
use Rattle.ref_virtual.specs.declared.methods.Pair.TheVariants.{LinkAt, RenameAt, IsSameObject}
use Rattle.ref_virtual.specs.declared.methods.Method.{Method}
use Rattle.ref_virtual.specs.declared.methods.Method.TheVariants.{Looks, Changes, Pairs, Syncs, ReadDirectoryEntry}
use Rattle.ref_virtual.specs.Methods.{look_row, change_row, pair_row, method_row}
use Rattle.ref_virtual.specs.Others.{is_no_descriptor, is_no_listing, is_no_source, is_no_sink, is_next, is_other}

by_look : (P : Look → Type 0) → P ReadViaStream → P GetFlags → P GetType → P Read → P ReadDirectory → P Stat → P StatAt → P OpenAt → P ReadlinkAt → P MetadataHash → P MetadataHashAt → (look : Look) → P look
by_look P p0 p1 p2 p3 p4 p5 p6 p7 p8 p9 p10 ReadViaStream = p0
by_look P p0 p1 p2 p3 p4 p5 p6 p7 p8 p9 p10 GetFlags = p1
by_look P p0 p1 p2 p3 p4 p5 p6 p7 p8 p9 p10 GetType = p2
by_look P p0 p1 p2 p3 p4 p5 p6 p7 p8 p9 p10 Read = p3
by_look P p0 p1 p2 p3 p4 p5 p6 p7 p8 p9 p10 ReadDirectory = p4
by_look P p0 p1 p2 p3 p4 p5 p6 p7 p8 p9 p10 Stat = p5
by_look P p0 p1 p2 p3 p4 p5 p6 p7 p8 p9 p10 StatAt = p6
by_look P p0 p1 p2 p3 p4 p5 p6 p7 p8 p9 p10 OpenAt = p7
by_look P p0 p1 p2 p3 p4 p5 p6 p7 p8 p9 p10 ReadlinkAt = p8
by_look P p0 p1 p2 p3 p4 p5 p6 p7 p8 p9 p10 MetadataHash = p9
by_look P p0 p1 p2 p3 p4 p5 p6 p7 p8 p9 p10 MetadataHashAt = p10

by_change : (P : Change → Type 0) → P WriteViaStream → P AppendViaStream → P SetSize → P SetTimes → P Write → P CreateDirectoryAt → P RemoveDirectoryAt → P UnlinkFileAt → P SymlinkAt → P SetTimesAt → (change : Change) → P change
by_change P p0 p1 p2 p3 p4 p5 p6 p7 p8 p9 WriteViaStream = p0
by_change P p0 p1 p2 p3 p4 p5 p6 p7 p8 p9 AppendViaStream = p1
by_change P p0 p1 p2 p3 p4 p5 p6 p7 p8 p9 SetSize = p2
by_change P p0 p1 p2 p3 p4 p5 p6 p7 p8 p9 SetTimes = p3
by_change P p0 p1 p2 p3 p4 p5 p6 p7 p8 p9 Write = p4
by_change P p0 p1 p2 p3 p4 p5 p6 p7 p8 p9 CreateDirectoryAt = p5
by_change P p0 p1 p2 p3 p4 p5 p6 p7 p8 p9 RemoveDirectoryAt = p6
by_change P p0 p1 p2 p3 p4 p5 p6 p7 p8 p9 UnlinkFileAt = p7
by_change P p0 p1 p2 p3 p4 p5 p6 p7 p8 p9 SymlinkAt = p8
by_change P p0 p1 p2 p3 p4 p5 p6 p7 p8 p9 SetTimesAt = p9

by_pair : (P : Pair → Type 0) → P LinkAt → P RenameAt → P IsSameObject → (pair : Pair) → P pair
by_pair P p0 p1 p2 LinkAt = p0
by_pair P p0 p1 p2 RenameAt = p1
by_pair P p0 p1 p2 IsSameObject = p2

module _ (v : View) (a : PlainValues) where
  pub other_look : (look : Look) (c : Content) → is_no_descriptor c ≡ true → look_row look v c a ≡ look_row look v Always a
  other_look look (Host id) is = by_look (λ l. look_row l v (Host id) a ≡ look_row l v Always a) refl refl refl refl refl refl refl refl refl refl refl look
  other_look look (Node tree path) is = cc
  other_look look (FileAt tree path place) is = by_look (λ l. look_row l v (FileAt tree path place) a ≡ look_row l v Always a) refl refl refl refl refl refl refl refl refl refl refl look
  other_look look EmptyIn is = by_look (λ l. look_row l v EmptyIn a ≡ look_row l v Always a) refl refl refl refl refl refl refl refl refl refl refl look
  other_look look Discard is = by_look (λ l. look_row l v Discard a ≡ look_row l v Always a) refl refl refl refl refl refl refl refl refl refl refl look
  other_look look Always is = by_look (λ l. look_row l v Always a ≡ look_row l v Always a) refl refl refl refl refl refl refl refl refl refl refl look
  other_look look (Entries rest) is = by_look (λ l. look_row l v (Entries rest) a ≡ look_row l v Always a) refl refl refl refl refl refl refl refl refl refl refl look
  other_look look ScratchRoot is = cc
  other_look look (ScratchEntries number) is = by_look (λ l. look_row l v (ScratchEntries number) a ≡ look_row l v Always a) refl refl refl refl refl refl refl refl refl refl refl look
  other_look look (ScratchFile number may_write) is = cc
  other_look look (ScratchIn number place) is = by_look (λ l. look_row l v (ScratchIn number place) a ≡ look_row l v Always a) refl refl refl refl refl refl refl refl refl refl refl look
  other_look look (ScratchOut number place) is = by_look (λ l. look_row l v (ScratchOut number place) a ≡ look_row l v Always a) refl refl refl refl refl refl refl refl refl refl refl look

  pub other_pair : (pair : Pair) (c : Content) → is_no_descriptor c ≡ true → pair_row pair v c a ≡ pair_row pair v Always a
  other_pair pair (Host id) is = by_pair (λ p. pair_row p v (Host id) a ≡ pair_row p v Always a) refl refl refl pair
  other_pair pair (Node tree path) is = cc
  other_pair pair (FileAt tree path place) is = by_pair (λ p. pair_row p v (FileAt tree path place) a ≡ pair_row p v Always a) refl refl refl pair
  other_pair pair EmptyIn is = by_pair (λ p. pair_row p v EmptyIn a ≡ pair_row p v Always a) refl refl refl pair
  other_pair pair Discard is = by_pair (λ p. pair_row p v Discard a ≡ pair_row p v Always a) refl refl refl pair
  other_pair pair Always is = by_pair (λ p. pair_row p v Always a ≡ pair_row p v Always a) refl refl refl pair
  other_pair pair (Entries rest) is = by_pair (λ p. pair_row p v (Entries rest) a ≡ pair_row p v Always a) refl refl refl pair
  other_pair pair ScratchRoot is = cc
  other_pair pair (ScratchEntries number) is = by_pair (λ p. pair_row p v (ScratchEntries number) a ≡ pair_row p v Always a) refl refl refl pair
  other_pair pair (ScratchFile number may_write) is = cc
  other_pair pair (ScratchIn number place) is = by_pair (λ p. pair_row p v (ScratchIn number place) a ≡ pair_row p v Always a) refl refl refl pair
  other_pair pair (ScratchOut number place) is = by_pair (λ p. pair_row p v (ScratchOut number place) a ≡ pair_row p v Always a) refl refl refl pair

  -- of these and of a node nothing can be changed
  pub other_change : (change : Change) (c : Content) → is_no_descriptor c ≡ true → fails code.read_only ≡ change_row change v c a
  other_change change (Host id) is = by_change (λ k. fails code.read_only ≡ change_row k v (Host id) a) refl refl refl refl refl refl refl refl refl refl change
  other_change change (Node tree path) is = cc
  other_change change (FileAt tree path place) is = by_change (λ k. fails code.read_only ≡ change_row k v (FileAt tree path place) a) refl refl refl refl refl refl refl refl refl refl change
  other_change change EmptyIn is = by_change (λ k. fails code.read_only ≡ change_row k v EmptyIn a) refl refl refl refl refl refl refl refl refl refl change
  other_change change Discard is = by_change (λ k. fails code.read_only ≡ change_row k v Discard a) refl refl refl refl refl refl refl refl refl refl change
  other_change change Always is = by_change (λ k. fails code.read_only ≡ change_row k v Always a) refl refl refl refl refl refl refl refl refl refl change
  other_change change (Entries rest) is = by_change (λ k. fails code.read_only ≡ change_row k v (Entries rest) a) refl refl refl refl refl refl refl refl refl refl change
  other_change change ScratchRoot is = cc
  other_change change (ScratchEntries number) is = by_change (λ k. fails code.read_only ≡ change_row k v (ScratchEntries number) a) refl refl refl refl refl refl refl refl refl refl change
  other_change change (ScratchFile number may_write) is = cc
  other_change change (ScratchIn number place) is = by_change (λ k. fails code.read_only ≡ change_row k v (ScratchIn number place) a) refl refl refl refl refl refl refl refl refl refl change
  other_change change (ScratchOut number place) is = by_change (λ k. fails code.read_only ≡ change_row k v (ScratchOut number place) a) refl refl refl refl refl refl refl refl refl refl change

  pub node_change : (change : Change) (tree : ℕ) (path : Path) → fails code.read_only ≡ change_row change v (Node tree path) a
  node_change change tree path = by_change (λ k. fails code.read_only ≡ change_row k v (Node tree path) a) refl refl refl refl refl refl refl refl refl refl change

  pub other_entry : (c : Content) → is_no_listing c ≡ true → returns (ok none) ≡ read-directory-entry v c
  other_entry (Host id) is = refl
  other_entry (Node tree path) is = refl
  other_entry (FileAt tree path place) is = refl
  other_entry EmptyIn is = refl
  other_entry Discard is = refl
  other_entry Always is = refl
  other_entry (Entries rest) is = cc
  other_entry ScratchRoot is = refl
  other_entry (ScratchEntries number) is = cc
  other_entry (ScratchFile number may_write) is = refl
  other_entry (ScratchIn number place) is = refl
  other_entry (ScratchOut number place) is = refl

  pub next_is : (method : Method) (c : Content) → is_next method ≡ true → read-directory-entry v c ≡ method_row method v c a
  next_is (Looks look) c is = cc
  next_is (Changes change) c is = cc
  next_is (Pairs pair) c is = cc
  next_is Syncs c is = cc
  next_is ReadDirectoryEntry c is = refl

pub other_next : (method : Method) (c : Content) → is_next method ≡ false → is_no_descriptor c ≡ true → is_other method c ≡ true
other_next (Looks look) c is other = other
other_next (Changes change) c is other = other
other_next (Pairs pair) c is other = other
other_next Syncs c is other = other
other_next ReadDirectoryEntry c is other = cc

-- ---- streams

module _ (v : View) (len : ℕ) where
  pub no_source_read : (c : Content) → is_no_source c ≡ true → returns closed ≡ input.read v c len
  no_source_read (Host id) is = refl
  no_source_read (Node tree path) is = refl
  no_source_read (FileAt tree path place) is = cc
  no_source_read EmptyIn is = refl
  no_source_read Discard is = refl
  no_source_read Always is = refl
  no_source_read (Entries rest) is = refl
  no_source_read ScratchRoot is = refl
  no_source_read (ScratchEntries number) is = refl
  no_source_read (ScratchFile number may_write) is = refl
  no_source_read (ScratchIn number place) is = cc
  no_source_read (ScratchOut number place) is = refl

  pub no_source_skip : (c : Content) → is_no_source c ≡ true → returns closed ≡ input.skip v c len
  no_source_skip (Host id) is = refl
  no_source_skip (Node tree path) is = refl
  no_source_skip (FileAt tree path place) is = cc
  no_source_skip EmptyIn is = refl
  no_source_skip Discard is = refl
  no_source_skip Always is = refl
  no_source_skip (Entries rest) is = refl
  no_source_skip ScratchRoot is = refl
  no_source_skip (ScratchEntries number) is = refl
  no_source_skip (ScratchFile number may_write) is = refl
  no_source_skip (ScratchIn number place) is = cc
  no_source_skip (ScratchOut number place) is = refl

  pub no_sink_zeroes : (c : Content) → is_no_sink c ≡ true → returns done ≡ output.write-zeroes v c len
  no_sink_zeroes (Host id) is = refl
  no_sink_zeroes (Node tree path) is = refl
  no_sink_zeroes (FileAt tree path place) is = refl
  no_sink_zeroes EmptyIn is = refl
  no_sink_zeroes Discard is = refl
  no_sink_zeroes Always is = refl
  no_sink_zeroes (Entries rest) is = refl
  no_sink_zeroes ScratchRoot is = refl
  no_sink_zeroes (ScratchEntries number) is = refl
  no_sink_zeroes (ScratchFile number may_write) is = refl
  no_sink_zeroes (ScratchIn number place) is = refl
  no_sink_zeroes (ScratchOut number place) is = cc

pub no_sink_write : (v : View) (bytes : List ℕ) (c : Content) → is_no_sink c ≡ true → returns done ≡ output.write v c bytes
no_sink_write v bytes (Host id) is = refl
no_sink_write v bytes (Node tree path) is = refl
no_sink_write v bytes (FileAt tree path place) is = refl
no_sink_write v bytes EmptyIn is = refl
no_sink_write v bytes Discard is = refl
no_sink_write v bytes Always is = refl
no_sink_write v bytes (Entries rest) is = refl
no_sink_write v bytes ScratchRoot is = refl
no_sink_write v bytes (ScratchEntries number) is = refl
no_sink_write v bytes (ScratchFile number may_write) is = refl
no_sink_write v bytes (ScratchIn number place) is = refl
no_sink_write v bytes (ScratchOut number place) is = cc

-- That the adapter's bytes and its handle map stand for the live handles.
use Rattle.std.specs.Prelude.{◌≡◌, ℕ, ◌+◌, ◌*◌, ◌<◌, ◌≤◌, List, map, length, take, drop, count_by, Bool, false, Option, Some, None, slice_get, slice_index_or}
use Rattle.tree_table.specs.Paths.{Path}
use Rattle.slot_tables.specs.Places.{entry_of as entry_in}
use Rattle.handle_space.specs.declared.cell.Cell.{Cell}
use Rattle.handle_space.specs.HandleMap.{HandleMap, own_entry, entry_at, live_count}
use Rattle.handle_space.specs.Shown.{IsSound, shown}
use Rattle.reference_step.specs.Handles.{Content, Host, Node, FileAt, EmptyIn, Discard, Always, Entries, ScratchRoot, ScratchEntries, ScratchFile, ScratchIn, ScratchOut, LiveHandle, Live, DirectoryEntry, is_host, handle_at, live_of_kind}
use Rattle.adapter_code.specs.declared.layout.Layout.{Layout}
use Rattle.adapter_code.specs.Layout.{calls_len, padded, table_at, image_at, transfer_at, pages_of}
use Rattle.table_bytes.specs.declared.entry.Entry.{Entry}
use Rattle.table_bytes.specs.declared.entry.Entry.TheVariants as entry
use Rattle.table_bytes.specs.Table.{places_of, IsTable}
use Rattle.row_runs.specs.RowRun.{Adapter}

-- what the nodes of the table of trees stand for: the tree and the path of a node, and the entries of a folder, that many from a node on
pub record Nodes : Type 0 where
  pub node_at : ℕ → Option (ℕ × Path)
  pub entries_at : ℕ → ℕ → List DirectoryEntry

-- a handle map that a table of handles shows
abbrev pub IsMap : HandleMap ℕ → Type 0
IsMap h = (cells : List Cell) × (freed : Option ℕ) × (free : ℕ) × IsSound cells freed free × (h ≡ shown cells freed free)

-- an entry stands for what a handle of a kind stands for
abbrev pub StandsFor : Nodes → HandleMap ℕ → ℕ → Content → Entry → Type 0
StandsFor nodes h kind (Host id) e = (index : ℕ) × (e ≡ entry.Host index) × (entry_at h index ≡ Some (own_entry kind id))
StandsFor nodes h kind (Node tree path) e = (node : ℕ) × (e ≡ entry.Node node) × (nodes.node_at node ≡ Some (tree, path))
StandsFor nodes h kind (FileAt tree path place) e = (node : ℕ) × (e ≡ entry.FileAt node place) × (nodes.node_at node ≡ Some (tree, path))
StandsFor nodes h kind EmptyIn e = e ≡ entry.EmptyIn
StandsFor nodes h kind Discard e = e ≡ entry.Discard
StandsFor nodes h kind Always e = e ≡ entry.Always
StandsFor nodes h kind (Entries rest) e = (node : ℕ) × (left : ℕ) × (e ≡ entry.Entries node left) × (nodes.entries_at node left ≡ rest)
StandsFor nodes h kind ScratchRoot e = e ≡ entry.ScratchRoot
StandsFor nodes h kind (ScratchEntries number) e = e ≡ entry.ScratchEntries number
StandsFor nodes h kind (ScratchFile number may_write) e = e ≡ entry.ScratchFile number may_write
StandsFor nodes h kind (ScratchIn number place) e = e ≡ entry.ScratchIn number place
StandsFor nodes h kind (ScratchOut number place) e = e ≡ entry.ScratchOut number place

-- the entry, or nothing, at each place of a kind
abbrev pub slots_of : Layout → List ℕ → ℕ → List (Option Entry)
slots_of l memory kind = map entry_in (places_of memory (table_at l kind) l.slots)

-- a live handle's place is used, by an entry that stands for it
pub record IsHeld (l : Layout) (nodes : Nodes) (a : Adapter) (x : LiveHandle) (at : ℕ) : Type 0 where
  pub kind : x.kind < 14
  pub entry : Entry
  pub here : slice_get (slots_of l a.memory x.kind) at ≡ Some (Some entry)
  pub stands : StandsFor nodes a.handles x.kind x.content entry

-- by count: as many places of a kind are free as are not those of live handles
pub record HasTable (l : Layout) (memory : List ℕ) (live : Live) (kind : ℕ) : Type 0 where
  pub free : ℕ
  pub table : IsTable memory (table_at l kind) l.slots free
  pub count : free + live_of_kind kind live ≡ l.slots

abbrev pub is_hosted : Option LiveHandle → Bool
is_hosted None = false
is_hosted (Some x) = is_host x.content

-- how many live handles are the host's
abbrev pub hosted_count : Live → ℕ
hosted_count live = count_by is_hosted live

-- the static data stands in its place
pub record IsWhole (l : Layout) (image memory : List ℕ) : Type 0 where
  pub size : length memory ≡ 65536 * pages_of l
  pub fits : length image ≤ padded l.image_len
  pub holds : take (length image) (drop (image_at l) memory) ≡ image

pub record Stands (l : Layout) (image : List ℕ) (nodes : Nodes) (live : Live) (a : Adapter) (place : ℕ → ℕ) : Type 0 where
  pub whole : IsWhole l image a.memory
  pub tables : (kind : ℕ) → kind < 14 → HasTable l a.memory live kind
  pub held : (id : ℕ) (x : LiveHandle) → handle_at live id ≡ Some x → IsHeld l nodes a x (place id)
  -- no two handles of a kind have one place
  pub apart : (i j : ℕ) (x y : LiveHandle) → handle_at live i ≡ Some x → handle_at live j ≡ Some y → x.kind ≡ y.kind → place i ≡ place j → i ≡ j
  -- the handle map is one that a table shows
  pub shown : IsMap a.handles
  -- it has as many entries as live handles are the host's, and no two of these have one entry
  pub count : live_count a.handles ≡ hosted_count live
  pub once : (i j : ℕ) (x y : LiveHandle) (index : ℕ) → handle_at live i ≡ Some x → handle_at live j ≡ Some y →
      slice_get (slots_of l a.memory x.kind) (place i) ≡ Some (Some (entry.Host index)) → slice_get (slots_of l a.memory y.kind) (place j) ≡ Some (Some (entry.Host index)) → i ≡ j

-- the part in which a row's run may write freely: that for flat arguments and results, and the transfer area
pub record OnlyAround (l : Layout) (old new : List ℕ) : Type 0 where
  pub size : length new ≡ length old
  pub same : (k : ℕ) → calls_len ≤ k → k < transfer_at l → slice_index_or new k 0 ≡ slice_index_or old k 0

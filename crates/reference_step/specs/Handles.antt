-- The live handles of an application, and what they stand for.
use Rattle.std.specs.Prelude.{ℕ, suc, ◌==◌, Bool, false, true, List, [], ◌∷◌, count_by, slice_index_or, slice_set, Option, Some, None, is_some, option_map}
use Rattle.std.specs.List.{list_any}
use Rattle.tree_table.specs.Paths.{Path}

-- an entry of a folder: its descriptor-type, and its name
pub record DirectoryEntry : Type 0 where
  pub ty : ℕ
  pub name : List ℕ

-- what a handle stands for
pub data Content : Type 0 where
  -- a handle of the host
  Host : (id : ℕ) → Content
  -- a folder or a file of the tree at a place, by its path with the innermost name first
  Node : (tree : ℕ) → (path : Path) → Content
  -- a stream over a file of a tree, and how far it has come
  FileAt : (tree : ℕ) → (path : Path) → (place : ℕ) → Content
  -- an input without bytes
  EmptyIn : Content
  -- an output that drops what it is given
  Discard : Content
  -- a pollable that is always ready
  Always : Content
  -- the entries of a folder that are still to come
  Entries : (rest : List DirectoryEntry) → Content
  -- the scratch folder; its files from a number on; one of them, and whether it may be written
  ScratchRoot : Content
  ScratchEntries : (number : ℕ) → Content
  ScratchFile : (number : ℕ) → (may_write : Bool) → Content
  -- a stream from a file of the scratch folder, and one to it, at a place or at the end
  ScratchIn : (number : ℕ) → (place : ℕ) → Content
  ScratchOut : (number : ℕ) → (place : Option ℕ) → Content

-- a live handle: the number of its kind, and what it stands for
pub record LiveHandle : Type 0 where
  pub kind : ℕ
  pub content : Content

-- the kinds of resources, by number
abbrev pub error : ℕ
error = 0

abbrev pub pollable : ℕ
pollable = 1

abbrev pub input-stream : ℕ
input-stream = 2

abbrev pub output-stream : ℕ
output-stream = 3

abbrev pub terminal-input : ℕ
terminal-input = 4

abbrev pub terminal-output : ℕ
terminal-output = 5

abbrev pub descriptor : ℕ
descriptor = 6

abbrev pub directory-entry-stream : ℕ
directory-entry-stream = 7

abbrev pub is_host : Content → Bool
is_host (Host _) = true
is_host _ = false

-- whether a scratch file is open by this; a listing does not hold it
abbrev pub holds : ℕ → Content → Bool
holds number (ScratchFile other _) = other == number
holds number (ScratchIn other _) = other == number
holds number (ScratchOut other _) = other == number
holds number _ = false

-- ---- places: what stands at each number, from 0

module _ {E : Type 0} where
  -- the least number at which nothing stands
  abbrev pub first_free : List (Option E) → ℕ
  first_free [] = 0
  first_free (None ∷ places) = 0
  first_free (Some e ∷ places) = suc (first_free places)

  -- one more stands there
  abbrev pub with_entry : List (Option E) → E → List (Option E)
  with_entry [] new = Some new ∷ []
  with_entry (None ∷ places) new = Some new ∷ places
  with_entry (Some e ∷ places) new = Some e ∷ with_entry places new

-- ---- the live handles, each at the place of its number

abbrev pub Live : Type 0
Live = List (Option LiveHandle)

abbrev pub handle_at : Live → ℕ → Option LiveHandle
handle_at live id = slice_index_or live id None

abbrev pub is_live : Live → ℕ → Bool
is_live live id = is_some (handle_at live id)

abbrev pub content_in : Option LiveHandle → Content
content_in None = Always
content_in (Some h) = h.content

-- what a live handle stands for
abbrev pub content_of : Live → ℕ → Content
content_of live id = content_in (handle_at live id)

-- the least number that is not live
abbrev pub fresh_id : Live → ℕ
fresh_id live = first_free live

abbrev pub is_of_kind : ℕ → Option LiveHandle → Bool
is_of_kind kind None = false
is_of_kind kind (Some h) = h.kind == kind

abbrev pub live_of_kind : ℕ → Live → ℕ
live_of_kind kind live = count_by (is_of_kind kind) live

-- a new handle gets the least number that is not live
abbrev pub with_handle : Live → ℕ → Content → Live
with_handle live kind content = with_entry live (record { kind = kind; content = content })

abbrev pub without_handle : Live → ℕ → Live
without_handle live id = slice_set live id None

abbrev pub standing_for : Content → LiveHandle → LiveHandle
standing_for content h = record h { content = content }

-- the handle stands for something else
abbrev pub with_content : Live → ℕ → Content → Live
with_content live id content = slice_set live id (option_map (standing_for content) (handle_at live id))

abbrev pub holds_open : ℕ → Option LiveHandle → Bool
holds_open number None = false
holds_open number (Some h) = holds number h.content

-- whether a live handle holds a scratch file
abbrev pub is_held : Live → ℕ → Bool
is_held live number = list_any (holds_open number) live

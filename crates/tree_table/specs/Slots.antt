-- What the table keeps of a node stands for.
use Rattle.std.specs.Prelude.{ℕ, ◌≤◌, List, [], ◌∷◌, length, IsUtf8, slice_range}
use Rattle.tree_table.specs.declared.entries.Node.{Node}
use Rattle.tree_table.specs.declared.entries.Node.TheVariants.{Folder, File, Link}
use Rattle.tree_table.specs.declared.slot.NodeKind.{NodeKind}
use Rattle.tree_table.specs.declared.slot.NodeKind.TheVariants as kinds
use Rattle.tree_table.specs.declared.slot.Span.{Span}
use Rattle.tree_table.specs.declared.slot.Slot.{Slot}
use Rattle.tree_table.specs.Tables.{Row}

abbrev pub kind_of : Node → NodeKind
kind_of Folder = kinds.Folder
kind_of (File content) = kinds.File
kind_of (Link target) = kinds.Link

abbrev pub node_from : NodeKind → List ℕ → Node
node_from kinds.Folder bytes = Folder
node_from kinds.File bytes = File bytes
node_from kinds.Link bytes = Link bytes

abbrev pub part : List ℕ → Span → List ℕ
part bytes span = slice_range bytes span.from span.to

abbrev pub row_of : List ℕ → Slot → Row
row_of bytes slot = record {
  tree = slot.tree;
  place = slot.place;
  name = part bytes slot.name;
  parent = slot.parent;
  from = slot.from;
  to = slot.to;
  node = node_from slot.kind (part bytes slot.content);
}

-- the spans of a slot are parts of the bytes, and its name is text
pub record IsWithin (bytes : List ℕ) (slot : Slot) : Type 0 where
  pub name_ordered : slot.name.from ≤ slot.name.to
  pub name_inside : slot.name.to ≤ length bytes
  pub content_ordered : slot.content.from ≤ slot.content.to
  pub content_inside : slot.content.to ≤ length bytes
  pub utf8 : IsUtf8 (part bytes slot.name)

abbrev pub AreWithin : List ℕ → List Slot → Type 0
AreWithin bytes [] = Unit {0}
AreWithin bytes (slot ∷ slots) = IsWithin bytes slot × AreWithin bytes slots

-- What the nodes of a table hold are parts of its bytes.
use Rattle.std.proofs.Common.{ℕ, zero, suc, ◌-◌, ◌<◌, ◌^◌, List, [], ◌∷◌, length, map, take, drop, length-take, length-drop, slice_get, All, lit<, arith}
use Rattle.std.specs.Option.{option_map_or}
use Rattle.std.proofs.lemmas.List.Elements.{All-nil, All-take, All-drop}
use Rattle.tree_table.specs.declared.entries.Node.TheVariants.{Folder}
use Rattle.tree_table.specs.declared.slot.NodeKind.{NodeKind}
use Rattle.tree_table.specs.declared.slot.NodeKind.TheVariants as kinds
use Rattle.tree_table.specs.declared.slot.Slot.{Slot}
use Rattle.tree_table.specs.Slots.{node_from, row_of}
use Rattle.tree_table.specs.Tables.{node_of, content_of}

abbrev pub AreBytes : List ℕ → Type 0
AreBytes bytes = All (λ b. b < 256) bytes × (length bytes < 2 ^ 64)

none : AreBytes []
none = (All-nil (λ b. b < 256), lit< tt)

part_bytes : (bytes : List ℕ) (from to : ℕ) → AreBytes bytes → AreBytes (take (to - from) (drop from bytes))
part_bytes bytes from to are =
    (All-take (λ b. b < 256) (to - from) (drop from bytes) (All-drop (λ b. b < 256) from bytes are.0), omega (arith, are.1, length-take (to - from) (drop from bytes), length-drop from bytes))

kind_bytes : (kind : NodeKind) (bytes : List ℕ) → AreBytes bytes → AreBytes (content_of (node_from kind bytes))
kind_bytes kinds.Folder bytes are = none
kind_bytes kinds.File bytes are = are
kind_bytes kinds.Link bytes are = are

rows_bytes : (bytes : List ℕ) (slots : List Slot) (i : ℕ) → AreBytes bytes → AreBytes (content_of (option_map_or (λ row. row.node) (slice_get (map (row_of bytes) slots) i) Folder))
rows_bytes bytes [] i are = none
rows_bytes bytes (slot ∷ slots) zero are = kind_bytes slot.kind (take (slot.content.to - slot.content.from) (drop slot.content.from bytes)) (part_bytes bytes slot.content.from slot.content.to are)
rows_bytes bytes (slot ∷ slots) (suc i) are = rows_bytes bytes slots i are

pub node_bytes : (roots : ℕ) (bytes : List ℕ) (slots : List Slot) (i : ℕ) → AreBytes bytes → AreBytes (content_of (node_of (record { roots = roots; rows = map (row_of bytes) slots }) i))
node_bytes roots bytes slots i are = rows_bytes bytes slots i are

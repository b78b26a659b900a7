-- What files in memory hold are parts of its bytes.
use Rattle.std.proofs.Common.{ℕ, zero, suc, ◌*◌, ◌<◌, ◌^◌, List, [], ◌∷◌, length, take, drop, get_or, length-take, length-drop, All, Option, Some, None, lit<, arith}
use Rattle.std.specs.Option.{option_map_or}
use Rattle.std.proofs.lemmas.List.Elements.{All-nil, All-take, All-drop}
use Rattle.tree_table.specs.Scratches.{content_at}
use Rattle.overlay_tree.specs.Pieces.{Entry, entry_blocks, piece_of, pieces, map_of}

abbrev pub AreBytes : List ℕ → Type 0
AreBytes bytes = All (λ b. b < 256) bytes × (length bytes < 2 ^ 64)

none : AreBytes []
none = (All-nil (λ b. b < 256), lit< tt)

front_bytes : (n : ℕ) (bytes : List ℕ) → AreBytes bytes → AreBytes (take n bytes)
front_bytes n bytes are = (All-take (λ b. b < 256) n bytes are.0, omega (arith, are.1, length-take n bytes))

back_bytes : (n : ℕ) (bytes : List ℕ) → AreBytes bytes → AreBytes (drop n bytes)
back_bytes n bytes are = (All-drop (λ b. b < 256) n bytes are.0, omega (arith, are.1, length-drop n bytes))

piece_bytes : (entry : Option Entry) (bytes : List ℕ) → AreBytes bytes → AreBytes (option_map_or (λ f. f.content) (piece_of entry bytes) [])
piece_bytes None bytes are = none
piece_bytes (Some e) bytes are = front_bytes e.len bytes are

pieces_bytes : (entries : List (Option Entry)) (bytes : List ℕ) (number : ℕ) → AreBytes bytes → AreBytes (option_map_or (λ f. f.content) (get_or (pieces entries bytes) number None) [])
pieces_bytes [] bytes number are = none
pieces_bytes (entry ∷ entries) bytes zero are = piece_bytes entry bytes are
pieces_bytes (entry ∷ entries) bytes (suc number) are = pieces_bytes entries (drop (entry_blocks entry * 4096) bytes) number (back_bytes (entry_blocks entry * 4096) bytes are)

pub content_bytes : (blocks : ℕ) (entries : List (Option Entry)) (bytes : List ℕ) (number : ℕ) → AreBytes bytes → AreBytes (content_at (map_of blocks entries bytes) number)
content_bytes blocks entries bytes number are = pieces_bytes entries bytes number are

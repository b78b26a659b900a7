-- Sections that are added to a component, with the bytes that spell them.
use Rattle.std.specs.Prelude.{◌≡◌, ℕ, ◌<◌, ◌^◌, List, [], ◌∷◌, ◌++◌, length}
use Rattle.std.specs.List.{AllByRecursion}
use Rattle.wasm_ast.specs.declared.component.Section.{Section}
use Rattle.comp_grammar.specs.Trees.{Part, Tree, Nested, plain_section}
use Rattle.comp_grammar.specs.Components.{add}
use Rattle.comp_write.specs.Copying.{SpellsBare}
use Rattle.virt_output.specs.declared.piece.Piece.{Piece}
use Rattle.virt_output.specs.Pieces.{id_of, content_of, ItemsFit}
use Rattle.virt_output.specs.Bytes.{section_bytes}

-- The piece may be written, and its section was added.
pub record IsPut (piece : Piece) (old new : List ℕ) : Type 0 where
  pub fits : ItemsFit piece
  pub short : length (content_of piece) < 2 ^ 32
  pub added : new ≡ old ++ section_bytes (id_of piece) (content_of piece)

-- the component that a section holds, if it holds one
abbrev pub inner_of : Part → List Tree
inner_of (Nested span t) = t ∷ []
inner_of _ = []

abbrev pub HoldsNone : Section → Type 0
HoldsNone s = inner_of (plain_section s) ≡ []

-- a component with these sections too
abbrev pub with_sections : Tree → List Section → Tree
with_sections t [] = t
with_sections t (s ∷ ss) = with_sections (add t (plain_section s)) ss

-- After the bytes of whatever component these bytes spell it with these sections too.
abbrev pub SpellMore : List Section → List ℕ → Type 0
SpellMore sections bytes = (t : Tree) → (before : List ℕ) → SpellsBare 0 t before → SpellsBare 0 (with_sections t sections) (before ++ bytes)

-- Sections were added after those that were there, and after the bytes those that spell them. None holds a component.
pub record Extends (old_sections new_sections : List Section) (old new : List ℕ) : Type 0 where
  pub sections : List Section
  pub bytes : List ℕ
  pub more : new_sections ≡ old_sections ++ sections
  pub longer : new ≡ old ++ bytes
  pub spelled : SpellMore sections bytes
  pub alone : AllByRecursion HoldsNone sections

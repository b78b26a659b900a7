-- Two components in one, put together part by part.
use Rattle.std.specs.Prelude.{◌≡◌, ℕ, List, [], ◌∷◌, ◌++◌, length}
use Rattle.wasm_ast.specs.declared.component.Section.{Section}
use Rattle.comp_grammar.specs.Trees.{Tree, Nested, plain, plain_section, plain_sections}
use Rattle.comp_grammar.specs.Components.{no_span}
use Rattle.comp_write.specs.Copying.{SpellsBare}
use Rattle.output_same.specs.Holding.{components_in}
use Rattle.virt_output.specs.Bytes.{section_bytes}
use Rattle.virt_output.specs.Pieces.{head_of_component}
use Rattle.comp_pair.specs.declared.assembled.Front.{Front}
use Rattle.comp_pair.specs.declared.assembled.Assembled.{Assembled}

-- a section with a component in it was added, and the bytes that spell it
pub record HoldsMore (inner : Tree) (old_sections new_sections : List Section) (old new : List ℕ) : Type 0 where
  pub section : Section
  pub is : plain_section section ≡ Nested no_span inner
  pub more : new_sections ≡ old_sections ++ section ∷ []
  pub spelled : SpellsBare 0 (plain_sections old_sections) old → SpellsBare 0 (plain_sections new_sections) new

-- these bytes stand unchanged among all, as the content of a section for a component
abbrev pub HasSection : List ℕ → List ℕ → Type 0
HasSection content all = (before : List ℕ) × (rest : List ℕ) × (all ≡ before ++ (section_bytes 4 content ++ rest))

-- a component that holds the first component, and no other, with its bytes
pub record IsFront (first : Tree) (f : Front) : Type 0 where
  pub spelled : SpellsBare 0 (plain_sections f.sections.items) f.bytes.items
  pub components : components_in (plain_sections f.sections.items) ≡ first ∷ []

-- the whole with the second component in it, which has that many bytes
pub record IsAssembled (first second : Tree) (size : ℕ) (a : Assembled) : Type 0 where
  pub spelled : (bytes : List ℕ) → length bytes ≡ size → SpellsBare 0 second bytes → SpellsBare 0 (plain a.whole) (a.front.items ++ (bytes ++ a.back.items))
  pub components : components_in (plain a.whole) ≡ first ∷ second ∷ []
  pub before : List ℕ
  pub front : a.front.items ≡ before ++ head_of_component size

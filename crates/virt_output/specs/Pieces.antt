-- The sections that pieces are, and how they are written (Component Model, Binary.md, "Component Definitions").
use Rattle.std.specs.Prelude.{◌≡◌, ℕ, ◌<◌, ◌≤◌, ◌^◌, List, ◌∷◌, ◌++◌, length, Result, Ok, Err}
use Rattle.wasm_format.specs.Format.{u32_format, vec, sized, anything}
use Rattle.wasm_ast.specs.declared.component.Span.{Span}
use Rattle.wasm_ast.specs.declared.module.Module.{Module}
use Rattle.wasm_ast.specs.Modules.{core_module}
use Rattle.wasm_ast.specs.ComponentItems.{instance, alias, component_export}
use Rattle.comp_grammar.specs.Trees.{Part, Tree, CoreModule, Nested, CoreInstances, Instances, Aliases, Types, Canons, Imports, Exports}
use Rattle.comp_grammar.specs.CoreInstances.{core_instance}
use Rattle.comp_grammar.specs.Items.{canon, component_import}
use Rattle.comp_grammar.specs.TypeSections.{type_items}
use Rattle.comp_write.specs.Copying.{SpellsBare}
use Rattle.virt_output.specs.declared.piece.Piece.{Piece}
use Rattle.virt_output.specs.declared.piece.Piece.TheVariants as pieces
use Rattle.virt_output.specs.declared.fault.PieceFault.{PieceFault}
use Rattle.virt_output.specs.declared.fault.PieceFault.TheVariants.{NoMemory, TooLong}

abbrev pub id_of : Piece → ℕ
id_of (pieces.CoreModule bytes) = 1
id_of (pieces.CoreInstances items) = 2
id_of (pieces.Component bytes) = 4
id_of (pieces.Instances items) = 5
id_of (pieces.Aliases items) = 6
id_of (pieces.Types items) = 7
id_of (pieces.Canons items) = 8
id_of (pieces.Imports items) = 10
id_of (pieces.Exports items) = 11

-- what stands after the size
abbrev pub content_of : Piece → List ℕ
content_of (pieces.CoreModule bytes) = bytes.now
content_of (pieces.CoreInstances items) = (vec core_instance).write items
content_of (pieces.Component bytes) = bytes.now
content_of (pieces.Instances items) = (vec instance).write items
content_of (pieces.Aliases items) = (vec alias).write items
content_of (pieces.Types items) = type_items.write items
content_of (pieces.Canons items) = (vec canon).write items
content_of (pieces.Imports items) = (vec component_import).write items
content_of (pieces.Exports items) = (vec component_export).write items

-- The items may be written.
abbrev pub ItemsFit : Piece → Type 0
ItemsFit (pieces.CoreModule bytes) = Unit {0}
ItemsFit (pieces.CoreInstances items) = (vec core_instance).Fits items
ItemsFit (pieces.Component bytes) = Unit {0}
ItemsFit (pieces.Instances items) = (vec instance).Fits items
ItemsFit (pieces.Aliases items) = (vec alias).Fits items
ItemsFit (pieces.Types items) = type_items.Fits items
ItemsFit (pieces.Canons items) = (vec canon).Fits items
ItemsFit (pieces.Imports items) = (vec component_import).Fits items
ItemsFit (pieces.Exports items) = (vec component_export).Fits items

-- The section has these items, or holds what these bytes spell.
abbrev pub IsPieceOf : Piece → Part → Type 0
IsPieceOf (pieces.CoreModule bytes) part = (span : Span) × (m : Module) × (part ≡ CoreModule span m) × core_module.Spells 0 m bytes.now
IsPieceOf (pieces.CoreInstances items) part = part ≡ CoreInstances items
IsPieceOf (pieces.Component bytes) part = (span : Span) × (t : Tree) × (part ≡ Nested span t) × SpellsBare 0 t bytes.now
IsPieceOf (pieces.Instances items) part = part ≡ Instances items
IsPieceOf (pieces.Aliases items) part = part ≡ Aliases items
IsPieceOf (pieces.Types items) part = part ≡ Types items
IsPieceOf (pieces.Canons items) part = part ≡ Canons items
IsPieceOf (pieces.Imports items) part = part ≡ Imports items
IsPieceOf (pieces.Exports items) part = part ≡ Exports items

-- A section with this content was added after the bytes that were there, or its content is too long.
abbrev pub Adds : ℕ → List ℕ → List ℕ → List ℕ → Result (Unit {0}) PieceFault → Type 0
Adds id content old new (Ok done) = (length content < 2 ^ 32) × (new ≡ old ++ id ∷ (sized anything).write content)
Adds id content old new (Err TooLong) = 2 ^ 32 ≤ length content
Adds id content old new (Err NoMemory) = Unit {0}

-- the id and the size of a nested component that has that many bytes
abbrev pub head_of_component : ℕ → List ℕ
head_of_component size = 4 ∷ u32_format.write size

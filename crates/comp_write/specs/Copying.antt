-- Writing components (Component Model, Binary.md, "Component Definitions"). Each section is written in its shortest spelling, but for
-- nested modules, nested components and custom sections: their bytes are copied, unread, from the input where they stand.
use Rattle.std.specs.Prelude.{◌≡◌, ℕ, ◌-◌, ◌<◌, ◌≤◌, ◌^◌, List, [], ◌∷◌, ◌++◌, length, take, drop}
use Rattle.std.specs.List.{AllByRecursion}
use Rattle.wasm_format.specs.Format.{AreBytes, vec, sized, anything}
use Rattle.wasm_ast.specs.declared.component.Span.{Span}
use Rattle.wasm_ast.specs.Modules.{note, core_module}
use Rattle.wasm_ast.specs.ComponentItems.{instance, alias, component_export}
use Rattle.comp_grammar.specs.Trees.{Part, Tree, CoreModule, Nested, CoreInstances, Instances, Aliases, Types, Canons, Imports, Exports, Custom, End, More}
use Rattle.comp_grammar.specs.CoreInstances.{core_instance}
use Rattle.comp_grammar.specs.Items.{canon, component_import}
use Rattle.comp_grammar.specs.TypeSections.{type_items}
use Rattle.comp_grammar.specs.Components.{no_span, parts_of, preamble, SpellsAt}

-- ---- components up to the places where their parts stand

unfoldable mutual
  pub bare_part : Part → Part
  bare_part (CoreModule span m) = CoreModule no_span m
  bare_part (Nested span inner) = Nested no_span (bare inner)
  bare_part (CoreInstances items) = CoreInstances items
  bare_part (Instances items) = Instances items
  bare_part (Aliases items) = Aliases items
  bare_part (Types items) = Types items
  bare_part (Canons items) = Canons items
  bare_part (Imports items) = Imports items
  bare_part (Exports items) = Exports items
  bare_part (Custom span) = Custom no_span

  pub bare : Tree → Tree
  bare End = End
  bare (More part rest) = More (bare_part part) (bare rest)

-- The bytes, which stand at this offset, are a spelling of the component, up to the places where its parts stand.
abbrev pub SpellsBare : ℕ → Tree → List ℕ → Type 0
SpellsBare at t text = (u : Tree) × SpellsAt at u text × (bare u ≡ bare t)

-- ---- what is copied

-- the bytes of a part of the input
abbrev pub cut : Span → List ℕ → List ℕ
cut span source = take (span.to - span.from) (drop span.from source)

-- The part lies in the input, and a size can say its length.
abbrev pub LiesIn : Span → List ℕ → Type 0
LiesIn span source = (span.from ≤ span.to) × (span.to ≤ length source) × (span.to - span.from < 2 ^ 32)

-- What a section copies lies in the input, and is a spelling of what stands with it.
abbrev pub IsCopyable : List ℕ → Part → Type 0
IsCopyable source (CoreModule span m) = LiesIn span source × core_module.Spells span.from m (cut span source)
IsCopyable source (Nested span inner) = LiesIn span source × SpellsBare span.from inner (cut span source)
IsCopyable source (Custom span) = LiesIn span source × note.Spells span.from tt (cut span source)
IsCopyable source (CoreInstances items) = Unit {0}
IsCopyable source (Instances items) = Unit {0}
IsCopyable source (Aliases items) = Unit {0}
IsCopyable source (Types items) = Unit {0}
IsCopyable source (Canons items) = Unit {0}
IsCopyable source (Imports items) = Unit {0}
IsCopyable source (Exports items) = Unit {0}

-- The component may be written: some bytes spell it, and what is copied is a spelling of what stands with it.
pub record MayWrite (source : List ℕ) (t : Tree) : Type 0 where
  pub spelled : (text : List ℕ) × AreBytes text × SpellsBare 0 t text
  pub copied : AllByRecursion (IsCopyable source) (parts_of t)

-- ---- what is written

abbrev pub section_bytes : List ℕ → Part → List ℕ
section_bytes source (Custom span) = 0 ∷ (sized anything).write (cut span source)
section_bytes source (CoreModule span m) = 1 ∷ (sized anything).write (cut span source)
section_bytes source (CoreInstances items) = 2 ∷ (sized (vec core_instance)).write items
section_bytes source (Nested span inner) = 4 ∷ (sized anything).write (cut span source)
section_bytes source (Instances items) = 5 ∷ (sized (vec instance)).write items
section_bytes source (Aliases items) = 6 ∷ (sized (vec alias)).write items
section_bytes source (Types items) = 7 ∷ (sized type_items).write items
section_bytes source (Canons items) = 8 ∷ (sized (vec canon)).write items
section_bytes source (Imports items) = 10 ∷ (sized (vec component_import)).write items
section_bytes source (Exports items) = 11 ∷ (sized (vec component_export)).write items

abbrev pub all_bytes : List ℕ → List Part → List ℕ
all_bytes source [] = []
all_bytes source (part ∷ parts) = section_bytes source part ++ all_bytes source parts

abbrev pub component_bytes : List ℕ → Tree → List ℕ
component_bytes source t = preamble ++ all_bytes source (parts_of t)

-- What a section copies lies in the input, and what it holds may be written.
abbrev pub IsWritable : List ℕ → Part → Type 0
IsWritable source (Custom span) = LiesIn span source
IsWritable source (CoreModule span m) = LiesIn span source
IsWritable source (Nested span inner) = LiesIn span source
IsWritable source (CoreInstances items) = (sized (vec core_instance)).Fits items
IsWritable source (Instances items) = (sized (vec instance)).Fits items
IsWritable source (Aliases items) = (sized (vec alias)).Fits items
IsWritable source (Types items) = (sized type_items).Fits items
IsWritable source (Canons items) = (sized (vec canon)).Fits items
IsWritable source (Imports items) = (sized (vec component_import)).Fits items
IsWritable source (Exports items) = (sized (vec component_export)).Fits items

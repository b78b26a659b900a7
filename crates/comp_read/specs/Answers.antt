-- What reading a component answers.
use Rattle.std.specs.Prelude.{◌≡◌, ℕ, ◌+◌, ◌≤◌, ◌⊎◌, List, ◌++◌, length, take, Result, Ok, Err}
use Rattle.wasm_format.specs.declared.stop.Stop.{Stop}
use Rattle.wasm_format.specs.declared.stop.Stop.TheVariants as stops
use Rattle.wasm_format.specs.Format.{Format}
use Rattle.wasm_format.specs.Sections.{SectionsSpell}
use Rattle.wasm_ast.specs.declared.component.Component.{Component}
use Rattle.comp_grammar.specs.Trees.{Part, Tree, End, plain}
use Rattle.comp_grammar.specs.Components.{preamble, section, sections, component, SpellsComponent}
use Rattle.comp_grammar.specs.Depths.{depth_of}
use Rattle.comp_read.specs.Causes.{CauseAtAnyDepth}
use Rattle.comp_read.specs.declared.reading.CompReadFault.{CompReadFault}
use Rattle.comp_read.specs.declared.reading.CompReadFault.TheVariants.{Malformed, Unsupported, TooNested, NoMemory}

-- what may stand in the outermost component
abbrev pub inside : Format Tree
inside = component 99

-- After the preamble and sections that the bytes spell, reading the next section stops so.
abbrev pub StopsAt : Stop → List ℕ → Type 0
StopsAt stop text = (parts : List Part) × (front more : List ℕ) × (text ≡ preamble ++ (front ++ more)) × SectionsSpell (sections inside) End 8 parts front
    × ((section inside).read (record { at = 8 + length front; rest = more }) ≡ Err stop)

-- It meets this byte at this offset, a tag that the table of its place lacks.
abbrev pub MeetsTag : ℕ → ℕ → List ℕ → Type 0
MeetsTag at byte text = StopsAt (stops.Unsupported at byte) text

-- It reaches a component 101 deep.
abbrev pub ReachesTooDeep : List ℕ → Type 0
ReachesTooDeep text = StopsAt stops.TooNested text

-- how deep components may stand in one another
abbrev pub most_deep : ℕ
most_deep = 100

-- The bytes are a spelling of this component, which is at most so deep.
abbrev pub SpellsReadable : Tree → List ℕ → Type 0
SpellsReadable t text = SpellsComponent t text × (depth_of t ≤ most_deep)

-- That many bytes at the front of the text are a component, and no more are; or none are, and the number is 0.
abbrev pub IsLongest : ℕ → List ℕ → Type 0
IsLongest at text = ((at ≡ 0) ⊎ ((t : Tree) × SpellsReadable t (take at text))) × ((n : ℕ) (t : Tree) → n ≤ length text → SpellsReadable t (take n text) → n ≤ at)

abbrev pub IsNoComponent : List ℕ → Type 0
IsNoComponent text = (t : Tree) → SpellsReadable t text → ⊥

-- This byte stands at this offset, and no bytes that begin as the text does, up to and with it, are a component, however deep.
abbrev pub IsCause : ℕ → ℕ → List ℕ → Type 0
IsCause at byte text = CauseAtAnyDepth (record { at = 0; rest = text }) at byte

-- The text is a spelling of this component, and of no other, however deep.
abbrev pub IsTheComponent : Tree → List ℕ → Type 0
IsTheComponent t text = SpellsReadable t text × ((u : Tree) → SpellsComponent u text → u ≡ t)

abbrev pub Answers : Result Component CompReadFault → List ℕ → Type 0
Answers (Ok c) text = IsTheComponent (plain c) text
Answers (Err (Unsupported at byte)) text = MeetsTag at byte text × IsNoComponent text × (ReachesTooDeep text → ⊥) × IsCause at byte text
Answers (Err (TooNested depth)) text = (depth ≡ 101) × ReachesTooDeep text × IsNoComponent text × ((a byte : ℕ) → MeetsTag a byte text → ⊥)
Answers (Err (Malformed at)) text = IsLongest at text × IsNoComponent text × ((a byte : ℕ) → MeetsTag a byte text → ⊥) × (ReachesTooDeep text → ⊥)
Answers (Err NoMemory) text = Unit {0}

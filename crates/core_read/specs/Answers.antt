-- What reading a module answers.
use Rattle.std.specs.Prelude.{◌≡◌, ℕ, ◌+◌, ◌≤◌, ◌⊎◌, List, ◌++◌, length, take, Result, Ok, Err}
use Rattle.wasm_format.specs.declared.stop.Stop.TheVariants as stops
use Rattle.wasm_format.specs.Sections.{SectionsSpell, built}
use Rattle.wasm_ast.specs.declared.module.Module.{Module}
use Rattle.wasm_ast.specs.declared.section.CoreSection.{CoreSection}
use Rattle.wasm_ast.specs.Modules.{preamble, section, sections, no_sections, core_module, SpellsModule}
use Rattle.format_causes.specs.Causes.{Cause}
use Rattle.core_read.specs.declared.reading.ReadFault.{ReadFault}
use Rattle.core_read.specs.declared.reading.ReadFault.TheVariants.{Malformed, Unsupported, NoMemory}

-- After the preamble and sections that the bytes spell, reading the next section meets this byte at this offset, a tag that the
-- table of its place lacks.
abbrev pub MeetsTag : ℕ → ℕ → List ℕ → Type 0
MeetsTag at byte text = (parts : List CoreSection) × (front more : List ℕ) × (text ≡ preamble ++ (front ++ more)) × SectionsSpell sections no_sections 8 parts front
    × ((section (built sections no_sections parts)).read (record { at = 8 + length front; rest = more }) ≡ Err (stops.Unsupported at byte))

-- That many bytes at the front of the text are a module, and no more are; or none are, and the number is 0.
abbrev pub IsLongest : ℕ → List ℕ → Type 0
IsLongest at text = ((at ≡ 0) ⊎ ((m : Module) × SpellsModule m (take at text))) × ((n : ℕ) (m : Module) → n ≤ length text → SpellsModule m (take n text) → n ≤ at)

abbrev pub IsNoModule : List ℕ → Type 0
IsNoModule text = (m : Module) → SpellsModule m text → ⊥

-- This byte stands at this offset, and no bytes that begin as the text does, up to and with it, are a module.
abbrev pub IsCause : ℕ → ℕ → List ℕ → Type 0
IsCause at byte text = Cause core_module (record { at = 0; rest = text }) at byte

-- The text is a spelling of this module, and of no other.
abbrev pub IsTheModule : Module → List ℕ → Type 0
IsTheModule m text = SpellsModule m text × ((n : Module) → SpellsModule n text → n ≡ m)

abbrev pub Answers : Result Module ReadFault → List ℕ → Type 0
Answers (Ok m) text = IsTheModule m text
Answers (Err (Unsupported at byte)) text = MeetsTag at byte text × IsNoModule text × IsCause at byte text
Answers (Err (Malformed at)) text = IsLongest at text × IsNoModule text × ((a byte : ℕ) → MeetsTag a byte text → ⊥)
Answers (Err NoMemory) text = Unit {0}

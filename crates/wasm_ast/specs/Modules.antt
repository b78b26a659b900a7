-- The format of core modules (WebAssembly Core 2.0, section 5.5.16).
use Rattle.std.specs.Prelude.{◌≡◌, ℕ, Bool, true, false, List, [], ◌∷◌, ◌++◌, length, nat_lt, ◌==◌, ◌&&◌, Option, Some, None}
use Rattle.wasm_format.specs.Format.{Format, choose, lacking, misplaced, tagged, both, image, fixed, vec, vec_of, u32_format, sized, anything, name}
use Rattle.wasm_format.specs.Sections.{Sections, built, to_the_end}
use Rattle.wasm_ast.specs.declared.instr.Instr.{Instr}
use Rattle.wasm_ast.specs.declared.module.CoreFunc.{CoreFunc}
use Rattle.wasm_ast.specs.declared.module.Limits.{Limits}
use Rattle.wasm_ast.specs.declared.module.TableType.{TableType}
use Rattle.wasm_ast.specs.declared.module.Import.{Import}
use Rattle.wasm_ast.specs.declared.module.Global.{Global}
use Rattle.wasm_ast.specs.declared.module.Export.{Export}
use Rattle.wasm_ast.specs.declared.module.Elements.{Elements}
use Rattle.wasm_ast.specs.declared.module.Body.{Body}
use Rattle.wasm_ast.specs.declared.module.Data.{Data}
use Rattle.wasm_ast.specs.declared.module.Module.{Module}
use Rattle.wasm_ast.specs.declared.section.CoreSection.{CoreSection}
use Rattle.wasm_ast.specs.declared.section.CoreSection.TheVariants as kind
use Rattle.wasm_ast.specs.Types.{core_func, limits, table_type}
use Rattle.wasm_ast.specs.Items.{import, export, global, elements, body, segment}

-- What is read so far: the sections of a module, and the place of the last one in their order, from 1.
pub record Progress : Type 0 where
  pub rank : ℕ
  pub found : Module

-- ---- one section

abbrev pub section_tag : CoreSection → ℕ
section_tag kind.Custom = 0
section_tag (kind.Types x) = 1
section_tag (kind.Imports x) = 2
section_tag (kind.Functions x) = 3
section_tag (kind.Tables x) = 4
section_tag (kind.Memories x) = 5
section_tag (kind.Globals x) = 6
section_tag (kind.Exports x) = 7
section_tag (kind.Start x) = 8
section_tag (kind.Elements x) = 9
section_tag (kind.Code x) = 10
section_tag (kind.Segments x) = 11
section_tag (kind.DataCount x) = 12

abbrev pub types_of : CoreSection → List CoreFunc
types_of (kind.Types x) = x
types_of _ = []

abbrev pub imports_of : CoreSection → List Import
imports_of (kind.Imports x) = x
imports_of _ = []

abbrev pub functions_of : CoreSection → List ℕ
functions_of (kind.Functions x) = x
functions_of _ = []

abbrev pub tables_of : CoreSection → List TableType
tables_of (kind.Tables x) = x
tables_of _ = []

abbrev pub memories_of : CoreSection → List Limits
memories_of (kind.Memories x) = x
memories_of _ = []

abbrev pub globals_of : CoreSection → List Global
globals_of (kind.Globals x) = x
globals_of _ = []

abbrev pub exports_of : CoreSection → List Export
exports_of (kind.Exports x) = x
exports_of _ = []

abbrev pub elements_of : CoreSection → List Elements
elements_of (kind.Elements x) = x
elements_of _ = []

abbrev pub code_of : CoreSection → List Body
code_of (kind.Code x) = x
code_of _ = []

abbrev pub segments_of : CoreSection → List Data
segments_of (kind.Segments x) = x
segments_of _ = []

-- the function of a start section, and the number of a data count
abbrev pub number_in : CoreSection → ℕ
number_in (kind.Start x) = x
number_in (kind.DataCount x) = x
number_in _ = 0

-- A custom section is a name and any bytes. Nothing of it is kept.
unfoldable pub note : Format (Unit {0})
note = image (λ n. tt) (λ u. ([], [])) (both name anything)

-- a section, which stands after those that come before it in the order of sections
abbrev pub ranked : {A : Type 0} → ℕ → ℕ → Format A → Format A
ranked last rank F = choose (nat_lt last rank) F misplaced

-- as many segments as the data count says, if there is one
abbrev pub counted : Option ℕ → Format (List Data)
counted None = vec segment
counted (Some n) = vec_of n segment

-- sections 0 to 6, after the id
unfoldable pub low_section : Progress → ℕ → Format CoreSection
low_section s b =
    choose (b == 0) (image (λ u. kind.Custom) (λ p. tt) (sized note)) (
    choose (b == 1) (image kind.Types types_of (ranked s.rank 1 (sized (vec core_func)))) (
    choose (b == 2) (image kind.Imports imports_of (ranked s.rank 2 (sized (vec import)))) (
    choose (b == 3) (image kind.Functions functions_of (ranked s.rank 3 (sized (vec u32_format)))) (
    choose (b == 4) (image kind.Tables tables_of (ranked s.rank 4 (sized (vec table_type)))) (
    choose (b == 5) (image kind.Memories memories_of (ranked s.rank 5 (sized (vec limits)))) (
    choose (b == 6) (image kind.Globals globals_of (ranked s.rank 6 (sized (vec global))))
    (lacking b)))))))

-- sections from 7 on. There are as many bodies as functions.
unfoldable pub high_section : Progress → ℕ → Format CoreSection
high_section s b =
    choose (b == 7) (image kind.Exports exports_of (ranked s.rank 7 (sized (vec export)))) (
    choose (b == 8) (image kind.Start number_in (ranked s.rank 8 (sized u32_format))) (
    choose (b == 9) (image kind.Elements elements_of (ranked s.rank 9 (sized (vec elements)))) (
    choose (b == 10) (image kind.Code code_of (ranked s.rank 11 (sized (vec_of (length s.found.functions) (sized body))))) (
    choose (b == 11) (image kind.Segments segments_of (ranked s.rank 12 (sized (counted s.found.data_count)))) (
    choose (b == 12) (image kind.DataCount number_in (ranked s.rank 10 (sized u32_format)))
    (lacking b))))))

unfoldable pub section : Progress → Format CoreSection
section s = tagged section_tag (λ b. choose (nat_lt b 7) (low_section s b) (high_section s b))

-- ---- all sections

abbrev pub add_section : Progress → CoreSection → Progress
add_section s kind.Custom = s
add_section s (kind.Types x) = record { rank = 1; found = record s.found { types = x } }
add_section s (kind.Imports x) = record { rank = 2; found = record s.found { imports = x } }
add_section s (kind.Functions x) = record { rank = 3; found = record s.found { functions = x } }
add_section s (kind.Tables x) = record { rank = 4; found = record s.found { tables = x } }
add_section s (kind.Memories x) = record { rank = 5; found = record s.found { memories = x } }
add_section s (kind.Globals x) = record { rank = 6; found = record s.found { globals = x } }
add_section s (kind.Exports x) = record { rank = 7; found = record s.found { exports = x } }
add_section s (kind.Start x) = record { rank = 8; found = record s.found { start = Some x } }
add_section s (kind.Elements x) = record { rank = 9; found = record s.found { elements = x } }
add_section s (kind.DataCount x) = record { rank = 10; found = record s.found { data_count = Some x } }
add_section s (kind.Code x) = record { rank = 11; found = record s.found { code = x } }
add_section s (kind.Segments x) = record { rank = 12; found = record s.found { segments = x } }

abbrev pub is_count_of : Option ℕ → ℕ → Bool
is_count_of None n = true
is_count_of (Some count) n = n == count

-- There are as many bodies as functions, and as many segments as the data count says.
abbrev pub has_counts : Progress → Bool
has_counts s = (length s.found.code == length s.found.functions) && is_count_of s.found.data_count (length s.found.segments)

unfoldable pub sections : Sections Progress CoreSection
sections = record { form = section; next = add_section; can_end = has_counts }

abbrev pub no_module : Module
no_module = record { types = []; imports = []; functions = []; tables = []; memories = []; globals = []; exports = []; start = None; elements = []; data_count = None; code = []; segments = [] }

abbrev pub no_sections : Progress
no_sections = record { rank = 0; found = no_module }

-- ---- what is written: a section for each list that is not empty, in order

abbrev pub unless_empty : {A : Type 0} → (List A → CoreSection) → List A → List CoreSection
unless_empty make [] = []
unless_empty make (a ∷ items) = make (a ∷ items) ∷ []

abbrev pub if_there : (ℕ → CoreSection) → Option ℕ → List CoreSection
if_there make None = []
if_there make (Some n) = make n ∷ []

abbrev pub sections_of : Module → List CoreSection
sections_of m =
    unless_empty kind.Types m.types ++ (unless_empty kind.Imports m.imports ++ (unless_empty kind.Functions m.functions ++ (
    unless_empty kind.Tables m.tables ++ (unless_empty kind.Memories m.memories ++ (unless_empty kind.Globals m.globals ++ (
    unless_empty kind.Exports m.exports ++ (if_there kind.Start m.start ++ (unless_empty kind.Elements m.elements ++ (
    if_there kind.DataCount m.data_count ++ (unless_empty kind.Code m.code ++ unless_empty kind.Segments m.segments))))))))))

-- ---- modules

abbrev pub preamble : List ℕ
preamble = 0 ∷ 0x61 ∷ 0x73 ∷ 0x6D ∷ 1 ∷ 0 ∷ 0 ∷ 0 ∷ []

-- the sections after the preamble
unfoldable pub all_sections : Format Progress
all_sections = to_the_end sections no_sections (λ s. sections_of s.found)

unfoldable pub core_module : Format Module
core_module = image (λ p. p.1.found) (λ m. (tt, built sections no_sections (sections_of m))) (both (fixed {A = Unit {0}} preamble tt) all_sections)

-- The bytes are a spelling of the module.
abbrev pub SpellsModule : Module → List ℕ → Type 0
SpellsModule m text = core_module.Spells 0 m text

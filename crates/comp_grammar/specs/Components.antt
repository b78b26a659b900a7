-- The format of components (Component Model, Binary.md, "Component Definitions").
use Rattle.std.specs.Prelude.{ℕ, zero, suc, true, nat_lt, ◌==◌, List, [], ◌∷◌, Err}
use Rattle.wasm_format.specs.declared.stop.Stop.TheVariants.{TooNested}
use Rattle.wasm_format.specs.Format.{Format, choose, lacking, tagged, both, image, spanned, fixed, vec, sized}
use Rattle.wasm_format.specs.Sections.{Sections, to_the_end}
use Rattle.wasm_ast.specs.declared.module.Module.{Module}
use Rattle.wasm_ast.specs.declared.component.Span.{Span}
use Rattle.wasm_ast.specs.declared.component.CoreInstance.{CoreInstance}
use Rattle.wasm_ast.specs.declared.component.Instance.{Instance}
use Rattle.wasm_ast.specs.declared.component.Alias.{Alias}
use Rattle.wasm_ast.specs.declared.component.TypeItem.{TypeItem}
use Rattle.wasm_ast.specs.declared.component.Canon.{Canon}
use Rattle.wasm_ast.specs.declared.component.ComponentImport.{ComponentImport}
use Rattle.wasm_ast.specs.declared.component.ComponentExport.{ComponentExport}
use Rattle.wasm_ast.specs.Modules.{note, no_module, core_module}
use Rattle.wasm_ast.specs.ComponentItems.{instance, alias, component_export}
use Rattle.comp_grammar.specs.Trees.{Part, Tree, CoreModule, Nested, CoreInstances, Instances, Aliases, Types, Canons, Imports, Exports, Custom, End, More}
use Rattle.comp_grammar.specs.CoreInstances.{core_instance}
use Rattle.comp_grammar.specs.Items.{canon, component_import}
use Rattle.comp_grammar.specs.TypeSections.{type_items}

-- ---- one section

abbrev pub section_tag : Part → ℕ
section_tag (Custom span) = 0
section_tag (CoreModule span m) = 1
section_tag (CoreInstances items) = 2
section_tag (Nested span inner) = 4
section_tag (Instances items) = 5
section_tag (Aliases items) = 6
section_tag (Types items) = 7
section_tag (Canons items) = 8
section_tag (Imports items) = 10
section_tag (Exports items) = 11

abbrev pub no_span : Span
no_span = record { from = 0; to = 0 }

abbrev pub custom_in : Part → Span
custom_in (Custom span) = span
custom_in _ = no_span

abbrev pub core_module_in : Part → Span × Module
core_module_in (CoreModule span m) = (span, m)
core_module_in _ = (no_span, no_module)

abbrev pub nested_in : Part → Span × Tree
nested_in (Nested span inner) = (span, inner)
nested_in _ = (no_span, End)

abbrev pub core_instances_in : Part → List CoreInstance
core_instances_in (CoreInstances items) = items
core_instances_in _ = []

abbrev pub instances_in : Part → List Instance
instances_in (Instances items) = items
instances_in _ = []

abbrev pub aliases_in : Part → List Alias
aliases_in (Aliases items) = items
aliases_in _ = []

abbrev pub types_in : Part → List TypeItem
types_in (Types items) = items
types_in _ = []

abbrev pub canons_in : Part → List Canon
canons_in (Canons items) = items
canons_in _ = []

abbrev pub imports_in : Part → List ComponentImport
imports_in (Imports items) = items
imports_in _ = []

abbrev pub exports_in : Part → List ComponentExport
exports_in (Exports items) = items
exports_in _ = []

-- a part of the input, and what stands there
abbrev pub beside : {A : Type 0} → ℕ → ℕ → A → Span × A
beside from to a = (record { from = from; to = to }, a)

-- a part of the input alone
abbrev pub span_of : {A : Type 0} → ℕ → ℕ → A → Span
span_of from to a = record { from = from; to = to }

-- a custom section: a name and any bytes, of which the place is kept
unfoldable pub custom : Format Span
custom = spanned span_of note

unfoldable pub placed_module : Format (Span × Module)
placed_module = spanned beside core_module

unfoldable pub placed : Format Tree → Format (Span × Tree)
placed inner = spanned beside inner

-- a nested component, after the id, which is spelled as inner says
unfoldable pub nested_section : Format Tree → Format Part
nested_section inner = image (λ p. Nested p.0 p.1) nested_in (sized (placed inner))

-- sections 0 to 2
unfoldable pub low_section : ℕ → Format Part
low_section b =
    choose (b == 0) (image Custom custom_in (sized custom)) (
    choose (b == 1) (image (λ p. CoreModule p.0 p.1) core_module_in (sized placed_module)) (
    choose (b == 2) (image CoreInstances core_instances_in (sized (vec core_instance)))
    (lacking b)))

-- sections from 5 on
unfoldable pub high_section : ℕ → Format Part
high_section b =
    choose (b == 5) (image Instances instances_in (sized (vec instance))) (
    choose (b == 6) (image Aliases aliases_in (sized (vec alias))) (
    choose (b == 7) (image Types types_in (sized type_items)) (
    choose (b == 8) (image Canons canons_in (sized (vec canon))) (
    choose (b == 10) (image Imports imports_in (sized (vec component_import))) (
    choose (b == 11) (image Exports exports_in (sized (vec component_export)))
    (lacking b))))))

unfoldable pub section : Format Tree → Format Part
section inner = tagged section_tag (λ b. choose (b == 4) (nested_section inner) (choose (nat_lt b 5) (low_section b) (high_section b)))

-- ---- components

-- a section more, at the end
abbrev pub add : Tree → Part → Tree
add End part = More part End
add (More first rest) part = More first (add rest part)

abbrev pub parts_of : Tree → List Part
parts_of End = []
parts_of (More part rest) = part ∷ parts_of rest

-- Sections may repeat, and stand in any order.
unfoldable pub sections : Format Tree → Sections Tree Part
sections inner = record { form = λ t. section inner; next = add; can_end = λ t. true }

-- 61 73 6D is the magic number; the version is 0D, and the layer 1 that of components
abbrev pub preamble : List ℕ
preamble = 0 ∷ 0x61 ∷ 0x73 ∷ 0x6D ∷ 0x0D ∷ 0 ∷ 1 ∷ 0 ∷ []

-- no component, however it goes on
abbrev pub too_nested : Format Tree
too_nested = record { Spells = λ at t text. ⊥; read = λ p. Err TooNested; Fits = λ t. ⊥; write = λ t. [] }

-- the sections after the preamble, to the end of the bytes
unfoldable pub all_sections : Format Tree → Format Tree
all_sections inner = to_the_end (sections inner) End parts_of

abbrev pub component_over : Format Tree → Format Tree
component_over inner = image (λ p. p.1) (λ t. (tt, t)) (both (fixed {A = Unit {0}} preamble tt) (all_sections inner))

-- Components of which at most that many stand in one another.
unfoldable pub component : ℕ → Format Tree
component zero = too_nested
component (suc depth) = component_over (component depth)

-- The bytes, which stand at this offset, are a spelling of the component, however deep components stand in one another.
abbrev pub SpellsAt : ℕ → Tree → List ℕ → Type 0
SpellsAt at t text = (depth : ℕ) × (component depth).Spells at t text

-- The bytes are a spelling of the component.
abbrev pub SpellsComponent : Tree → List ℕ → Type 0
SpellsComponent t text = SpellsAt 0 t text

-- The tree of each section, by the lists of its parts.
use Rattle.std.proofs.Common.{◌≡◌, ap, refl, sym, ◌∙◌, List, [], ◌∷◌, ◌++◌}
use Rattle.wasm_ast.specs.declared.component.Span.{Span}
use Rattle.wasm_ast.specs.declared.component.Section.{Section, Row_of-Section, end_of-Section, more_of-Section, items-the_row-Section, items_hidden-the_row-Section-0}
use Rattle.wasm_ast.specs.declared.component.Section.TheBlock.{hidden-the_row-Section-0}
use Rattle.wasm_ast.specs.declared.component.Section.TheVariants as sections
use Rattle.wasm_ast.specs.declared.component.Component.{Component}
use Rattle.wasm_ast.specs.declared.component.CoreInstance.{CoreInstance}
use Rattle.wasm_ast.specs.declared.component.Instance.{Instance}
use Rattle.wasm_ast.specs.declared.component.Alias.{Alias}
use Rattle.wasm_ast.specs.declared.component.TypeItem.{TypeItem}
use Rattle.wasm_ast.specs.declared.component.Canon.{Canon}
use Rattle.wasm_ast.specs.declared.component.ComponentImport.{ComponentImport}
use Rattle.wasm_ast.specs.declared.component.ComponentExport.{ComponentExport}
use Rattle.wasm_ast.specs.declared.module.Module.{Module}
use Rattle.wasm_ast.specs.Boxed.{Held}
use Rattle.comp_grammar.specs.Trees.{CoreModule, Nested, CoreInstances, Instances, Aliases, Types, Canons, Imports, Exports, Custom, More, plain_section, plain_row, plain_sections, plain}
use Rattle.comp_grammar.specs.Components.{add}

sections-row : (n : _) (row : Row_of-Section n) → plain_sections (items-the_row-Section n row) ≡ plain_row row
unfolding plain_row
sections-row n end_of-Section = refl
sections-row n (more_of-Section {n = m} s rest) = ap (More (plain_section s)) (sections-row m rest)

pub plain-Nested : (span : Span) (c : Component) → plain_section (sections.Nested span c) ≡ Nested span (plain c)
unfolding plain_section
plain-Nested span c = ap (Nested span) (sym (sections-row _ (hidden-the_row-Section-0 c.sections)) ∙ ap plain_sections (items_hidden-the_row-Section-0 c.sections))

pub plain-CoreInstances : (items : List CoreInstance) → plain_section (sections.CoreInstances items) ≡ CoreInstances items
unfolding plain_section
plain-CoreInstances items = refl

pub plain-Instances : (items : List Instance) → plain_section (sections.Instances items) ≡ Instances items
unfolding plain_section
plain-Instances items = refl

pub plain-Aliases : (items : List Alias) → plain_section (sections.Aliases items) ≡ Aliases items
unfolding plain_section
plain-Aliases items = refl

pub plain-Types : (items : List TypeItem) → plain_section (sections.Types items) ≡ Types items
unfolding plain_section
plain-Types items = refl

pub plain-Canons : (items : List Canon) → plain_section (sections.Canons items) ≡ Canons items
unfolding plain_section
plain-Canons items = refl

pub plain-Imports : (items : List ComponentImport) → plain_section (sections.Imports items) ≡ Imports items
unfolding plain_section
plain-Imports items = refl

pub plain-Exports : (items : List ComponentExport) → plain_section (sections.Exports items) ≡ Exports items
unfolding plain_section
plain-Exports items = refl

pub plain-CoreModule : (span : Span) (m : Held Module) → plain_section (sections.CoreModule span m) ≡ CoreModule span m.value
unfolding plain_section
plain-CoreModule span m = refl

pub plain-Custom : (span : Span) → plain_section (sections.Custom span) ≡ Custom span
unfolding plain_section
plain-Custom span = refl

-- a section more, at the end
pub plain-push : (xs : List Section) (s : Section) → plain_sections (xs ++ s ∷ []) ≡ add (plain_sections xs) (plain_section s)
plain-push [] s = refl
plain-push (x ∷ xs) s = ap (More (plain_section x)) (plain-push xs s)

pub ruleset plains = (plain-Nested, plain-CoreInstances, plain-Instances, plain-Aliases, plain-Types, plain-Canons, plain-Imports, plain-Exports, plain-CoreModule, plain-Custom)

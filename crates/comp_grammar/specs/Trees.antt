-- Components without the places where their parts lie in memory, so that two components are equal where their trees are.
use Rattle.std.specs.Prelude.{List, [], ◌∷◌}
use Rattle.wasm_ast.specs.declared.component.Span.{Span}
use Rattle.wasm_ast.specs.declared.component.CoreInstance.{CoreInstance}
use Rattle.wasm_ast.specs.declared.component.Instance.{Instance}
use Rattle.wasm_ast.specs.declared.component.Alias.{Alias}
use Rattle.wasm_ast.specs.declared.component.TypeItem.{TypeItem}
use Rattle.wasm_ast.specs.declared.component.Canon.{Canon}
use Rattle.wasm_ast.specs.declared.component.ComponentImport.{ComponentImport}
use Rattle.wasm_ast.specs.declared.component.ComponentExport.{ComponentExport}
use Rattle.wasm_ast.specs.declared.module.Module.{Module}
use Rattle.wasm_ast.specs.declared.component.Section.{Section, Row_of-Section, end_of-Section, more_of-Section}
use Rattle.wasm_ast.specs.declared.component.Section.TheVariants as sections
use Rattle.wasm_ast.specs.declared.component.Component.{Component}

mutual
  -- a section
  pub data Part : Type 0 where
    CoreModule : Span → Module → Part
    Nested : Span → Tree → Part
    CoreInstances : List CoreInstance → Part
    Instances : List Instance → Part
    Aliases : List Alias → Part
    Types : List TypeItem → Part
    Canons : List Canon → Part
    Imports : List ComponentImport → Part
    Exports : List ComponentExport → Part
    Custom : Span → Part

  -- a component: its sections, in the order in which they stand
  pub data Tree : Type 0 where
    End : Tree
    More : (part : Part) → (rest : Tree) → Tree

unfoldable mutual
  pub plain_section : Section → Part
  plain_section (sections.CoreModule span m) = CoreModule span m.value
  plain_section (sections.Nested' span shape row) = Nested span (plain_row row)
  plain_section (sections.CoreInstances items) = CoreInstances items
  plain_section (sections.Instances items) = Instances items
  plain_section (sections.Aliases items) = Aliases items
  plain_section (sections.Types items) = Types items
  plain_section (sections.Canons items) = Canons items
  plain_section (sections.Imports items) = Imports items
  plain_section (sections.Exports items) = Exports items
  plain_section (sections.Custom span) = Custom span

  pub plain_row : {n : _} → Row_of-Section n → Tree
  plain_row end_of-Section = End
  plain_row (more_of-Section section rest) = More (plain_section section) (plain_row rest)

-- the same of lists
abbrev pub plain_sections : List Section → Tree
plain_sections [] = End
plain_sections (s ∷ rest) = More (plain_section s) (plain_sections rest)

abbrev pub plain : Component → Tree
plain c = plain_sections c.sections.items

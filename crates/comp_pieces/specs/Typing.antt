-- Items of a section of types that may be written, where no instance type is opened.
use Rattle.std.specs.Prelude.{◌≡◌}
use Rattle.wasm_ast.specs.declared.component.TypeDef.{TypeDef}
use Rattle.wasm_ast.specs.declared.component.TypeItem.{TypeItem}
use Rattle.comp_grammar.specs.Types.{type_def, declarations_in}
use Rattle.comp_grammar.specs.TypeSections.{definition, declaration, declarations_of}

pub record IsPlainDef (d : TypeDef) : Type 0 where
  pub fits : type_def.Fits d
  pub none : declarations_in d ≡ 0

-- a definition of the section
pub record IsDefined (item : TypeItem) : Type 0 where
  pub fits : definition.Fits item
  pub none : declarations_of item ≡ 0

-- what an instance type declares
pub record IsDeclared (item : TypeItem) : Type 0 where
  pub fits : declaration.Fits item
  pub none : declarations_of item ≡ 0

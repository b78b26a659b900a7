-- Whether a component joins two others: it holds both, makes an instance of each, and its own sections make nothing. (This project's own.)
use Rattle.std.specs.Prelude.{◌≡◌, ℕ, List, None}
use Rattle.std.specs.List.{AllByRecursion}
use Rattle.wasm_ast.specs.declared.component.Section.{Section as ASection}
use Rattle.wasm_ast.specs.declared.component.Span.{Span}
use Rattle.wasm_ast.specs.declared.component.NamedItem.{NamedItem}
use Rattle.wasm_ast.specs.declared.component.Alias.{Alias}
use Rattle.wasm_ast.specs.declared.component.Alias.TheVariants as aliases
use Rattle.wasm_ast.specs.declared.component.OuterSort.TheVariants as outer_sorts
use Rattle.wasm_ast.specs.declared.component.TypeItem.{TypeItem}
use Rattle.wasm_ast.specs.declared.component.TypeItem.TheVariants as items
use Rattle.wasm_ast.specs.KeptTypes.{resource_destructor}
use Rattle.comp_grammar.specs.Trees.{Part, Tree, Nested, Aliases, Types, Imports, Exports, More as Section, plain_sections}
use Rattle.comp_write.specs.Copying.{bare}
use Rattle.comp_joins.specs.Joining.{in_front, Joint, instance_of, joining}

-- ---- sections that import, define value types, name what instances export, and export

-- it defines no resource
abbrev pub DefinesNoResource : TypeItem → Type 0
DefinesNoResource (items.Define def) = resource_destructor def ≡ None
DefinesNoResource _ = Unit {0}

-- it names an export of an instance, or a type of a scope further out
abbrev pub NamesAnItem : Alias → Type 0
NamesAnItem (aliases.Export sort instance name) = Unit {0}
NamesAnItem (aliases.Outer outer_sorts.Type count index) = Unit {0}
NamesAnItem _ = ⊥

abbrev pub MakesNothing : Part → Type 0
MakesNothing (Types items) = AllByRecursion DefinesNoResource items
MakesNothing (Aliases items) = AllByRecursion NamesAnItem items
MakesNothing (Imports items) = Unit {0}
MakesNothing (Exports items) = Unit {0}
MakesNothing _ = ⊥

-- ---- the form

-- The whole joins these two, and its own sections make nothing.
pub record IsJoining (first second whole : Tree) : Type 0 where
  pub joint : Joint
  pub is : whole ≡ joining joint first second
  pub front : AllByRecursion MakesNothing joint.front
  pub between : AllByRecursion MakesNothing joint.between
  pub behind : AllByRecursion MakesNothing joint.behind

-- The same, where the two are these but for the places in which their parts lie in memory.
pub record Joins (first second whole : Tree) : Type 0 where
  pub one : Tree
  pub other : Tree
  pub first_one : bare one ≡ bare first
  pub second_one : bare other ≡ bare second
  pub joining : IsJoining one other whole

-- ---- a component read from its front

-- what follows some sections that make nothing
pub record IsPast (old rest : List ASection) : Type 0 where
  pub parts : List Part
  pub nothing : AllByRecursion MakesNothing parts
  pub is : plain_sections old ≡ in_front parts (plain_sections rest)

-- what follows a component and the section that makes one instance of the component at this index
pub record IsPastInstance (component : ℕ) (old rest : List ASection) : Type 0 where
  pub span : Span
  pub inner : Tree
  pub args : List NamedItem
  pub is : plain_sections old ≡ Section (Nested span inner) (Section (instance_of component args) (plain_sections rest))

-- What is judged of the definitions of a section is judged of the section.
use Rattle.std.proofs.Common.{◌≡◌, refl, sym, subst, ℕ, List, [], ◌∷◌, map, Option, Some, None}
use Rattle.std.specs.Prelude.{Result, Ok, Err, IfOk}
use Rattle.wasm_ast.specs.declared.component.Span.{Span}
use Rattle.wasm_ast.specs.declared.component.CoreInstance.{CoreInstance}
use Rattle.wasm_ast.specs.declared.component.Instance.{Instance}
use Rattle.wasm_ast.specs.declared.component.Alias.{Alias}
use Rattle.wasm_ast.specs.declared.component.TypeItem.{TypeItem}
use Rattle.wasm_ast.specs.declared.component.Canon.{Canon}
use Rattle.wasm_ast.specs.declared.component.ComponentImport.{ComponentImport}
use Rattle.wasm_ast.specs.declared.component.ComponentExport.{ComponentExport}
use Rattle.comp_grammar.specs.Trees.{Part, Tree, CoreModule, Nested, CoreInstances, Instances, Aliases, Types, Canons, Imports, Exports, Custom}
use Rattle.comp_types.specs.Declarations.{grouped}
use Rattle.comp_types.specs.Definitions.{ACoreInstance, AnInstance, AnAlias, ACanon, AnImport, AnExport, types_in}
use Rattle.comp_types.specs.Spaces.{Space}
use Rattle.comp_types.specs.Added.{entered, after_tree, and_nested}
use Rattle.comp_types.specs.Validity.{IsValidTree, BreaksTree}
use Rattle.comp_types.proofs.VerdictLaws.{sound_tree}
use Rattle.comp_defining.specs.declared.scopes.Scopes.{Scopes}
use Rattle.comp_defining.specs.Around.{StandAll}
use Rattle.comp_defining.specs.Judged.{JudgedEach}
use Rattle.comp_validate.specs.declared.components.Broken.{Broken}
use Rattle.comp_validate.specs.Judged.{JudgedPart, JudgedTree}

pub part_core_instances : (around : List Space) (s : Space) (items : List CoreInstance) (x : Scopes) (answer : Option ℕ) → JudgedEach around s (map ACoreInstance items) x answer → JudgedPart around s (CoreInstances items) x answer
part_core_instances around s items x None h = h
part_core_instances around s items x (Some rule) h = h

pub part_instances : (around : List Space) (s : Space) (items : List Instance) (x : Scopes) (answer : Option ℕ) → JudgedEach around s (map AnInstance items) x answer → JudgedPart around s (Instances items) x answer
part_instances around s items x None h = h
part_instances around s items x (Some rule) h = h

pub part_aliases : (around : List Space) (s : Space) (items : List Alias) (x : Scopes) (answer : Option ℕ) → JudgedEach around s (map AnAlias items) x answer → JudgedPart around s (Aliases items) x answer
part_aliases around s items x None h = h
part_aliases around s items x (Some rule) h = h

pub part_types : (around : List Space) (s : Space) (items : List TypeItem) (x : Scopes) (answer : Option ℕ) → JudgedEach around s (types_in (grouped items)) x answer → JudgedPart around s (Types items) x answer
part_types around s items x None h = h
part_types around s items x (Some rule) h = h

pub part_canons : (around : List Space) (s : Space) (items : List Canon) (x : Scopes) (answer : Option ℕ) → JudgedEach around s (map ACanon items) x answer → JudgedPart around s (Canons items) x answer
part_canons around s items x None h = h
part_canons around s items x (Some rule) h = h

pub part_imports : (around : List Space) (s : Space) (items : List ComponentImport) (x : Scopes) (answer : Option ℕ) → JudgedEach around s (map AnImport items) x answer → JudgedPart around s (Imports items) x answer
part_imports around s items x None h = h
part_imports around s items x (Some rule) h = h

pub part_exports : (around : List Space) (s : Space) (items : List ComponentExport) (x : Scopes) (answer : Option ℕ) → JudgedEach around s (map AnExport items) x answer → JudgedPart around s (Exports items) x answer
part_exports around s items x None h = h
part_exports around s items x (Some rule) h = h

pub part_custom : (around : List Space) (s : Space) (span : Span) (x : Scopes) → StandAll around s x → JudgedPart around s (Custom span) x None
part_custom around s span x h = (tt, h)

-- ---- components in the component

pub nested_breaks : (around : List Space) (s : Space) (span : Span) (tree : Tree) (x y : Scopes) (broken : Broken) → JudgedTree (s ∷ around) (entered s) tree y (Some broken) → JudgedPart around s (Nested span tree) x (Some 2)
nested_breaks around s span tree x y broken h = (refl, λ valid. sound_tree (s ∷ around) (entered s) tree broken.rule broken.section valid h)

pub nested_valid : (around : List Space) (s : Space) (span : Span) (tree : Tree) (x y : Scopes) → JudgedTree (s ∷ around) (entered s) tree y None → StandAll around (and_nested s (after_tree (s ∷ around) (entered s) tree)) x → JudgedPart around s (Nested span tree) x None
nested_valid around s span tree x y h k = (h.0, k)

-- A component that holds another one, makes one instance of it without arguments, and exports what that one exports under the same
-- names. (This project's own: the form of a component that is wrapped and needs nothing.)
use Rattle.std.specs.Prelude.{◌≡◌, ◌⊎◌, ℕ, ◌+◌, List, [], ◌∷◌, map, Some, None, Bool, true, false}
use Rattle.wasm_ast.specs.declared.component.Span.{Span}
use Rattle.wasm_ast.specs.declared.component.Sort.{Sort}
use Rattle.wasm_ast.specs.declared.component.Sort.TheVariants as sorts
use Rattle.wasm_ast.specs.declared.component.Instance.TheVariants as instances
use Rattle.wasm_ast.specs.declared.component.Alias.{Alias}
use Rattle.wasm_ast.specs.declared.component.Alias.TheVariants as aliases
use Rattle.wasm_ast.specs.declared.component.ComponentExport.{ComponentExport}
use Rattle.wit_types.specs.Plain.{Name}
use Rattle.comp_grammar.specs.Trees.{Tree, Nested, Instances, Aliases, Exports, End, More}
use Rattle.comp_link.specs.Linking.{Given, Givens, GivenFunc, GivenInstance, GivenResource, GivenType, find, linked}

-- an export that is handed on
pub record Handed : Type 0 where
  pub name : Name
  pub sort : Sort

-- an alias of the export of the instance at this index; and of the one instance
abbrev pub alias_at : ℕ → Handed → Alias
alias_at k e = aliases.Export e.sort k e.name

abbrev pub alias_of : Handed → Alias
alias_of e = alias_at 0 e

abbrev pub export_at : Handed → ℕ → ComponentExport
export_at e index = record { name = e.name; sort = e.sort; index = index; desc = None }

-- the aliases by their indexes, from these on
abbrev pub exports_from : (functions instances types : ℕ) → List Handed → List ComponentExport
exports_from f i t [] = []
exports_from f i t (e ∷ es) = elim e.sort [
  | sorts.Func ↦ export_at e f ∷ exports_from (f + 1) i t es
  | sorts.Instance ↦ export_at e i ∷ exports_from f (i + 1) t es
  | sorts.Type ↦ export_at e t ∷ exports_from f i (t + 1) es
]

-- the sections that hand these on; the aliased instances stand after the one instance
abbrev pub handing : List Handed → Tree
handing es = More (Aliases (map alias_of es)) (More (Exports (exports_from 0 1 0 es)) End)

-- where nothing is handed on, there may be none
abbrev pub HandOn : List Handed → Tree → Type 0
HandOn es sections = (sections ≡ handing es) ⊎ ((es ≡ []) × (sections ≡ End))

abbrev pub wrapping : Span → Tree → Tree → Tree
wrapping span tree sections =
    More (Nested span tree)
    (More (Instances (instances.Instantiate 0 [] ∷ []))
    sections)

-- ---- these are all exports, each by its sort

abbrev pub is_of_sort : Sort → Given → Bool
is_of_sort sorts.Func (GivenFunc target) = true
is_of_sort sorts.Instance (GivenInstance items) = true
is_of_sort sorts.Type (GivenResource r) = true
is_of_sort sorts.Type GivenType = true
is_of_sort _ _ = false

abbrev pub IsThere : Givens → Handed → Type 0
IsThere exports e = (item : Given) × (find e.name exports ≡ Some item) × (is_of_sort e.sort item ≡ true)

abbrev pub AreThere : Givens → List Handed → Type 0
AreThere exports [] = Unit {0}
AreThere exports (e ∷ es) = IsThere exports e × AreThere exports es

abbrev pub IsNamed : Name → List Handed → Type 0
IsNamed name [] = ⊥
IsNamed name (e ∷ es) = (e.name ≡ name) ⊎ IsNamed name es

pub record AreExports (exports : Givens) (es : List Handed) : Type 0 where
  pub each : AreThere exports es
  pub all : (name : Name) (item : Given) → find name exports ≡ Some item → IsNamed name es

-- `w` holds `c` unchanged and hands on all that it exports
abbrev pub Wraps : Tree → Tree → Type 0
Wraps w c = (span : Span) × (es : List Handed) × (sections : Tree) × (w ≡ wrapping span c sections) × HandOn es sections × AreExports (linked c).exports es

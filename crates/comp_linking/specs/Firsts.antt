-- The first definition of a section of types, with what it declares, in the flat list of its items.
use Rattle.std.specs.Prelude.{◌≡◌, ℕ, ◌+◌, zero, suc, List, [], ◌∷◌, Option, Some, None}
use Rattle.wasm_ast.specs.declared.component.TypeDef.TheVariants as defs
use Rattle.wasm_ast.specs.declared.component.TypeItem.{TypeItem}
use Rattle.wasm_ast.specs.declared.component.TypeItem.TheVariants as items
use Rattle.comp_types.specs.Declarations.{Declaration, Done, Then, grouped}
use Rattle.comp_types.specs.Definitions.{AType}
use Rattle.comp_types.specs.Spaces.{Space}
use Rattle.comp_link.specs.Plans.{Plan, NewResource, if_some, of_type}
use Rattle.comp_linking.specs.declared.planner.Planner.{Planner}
use Rattle.comp_linking.specs.Goes.{Plans}

-- how many declarations stand after an item
abbrev pub declared_by : TypeItem → ℕ
declared_by (items.Define (defs.Instance n)) = n
declared_by _ = 0

-- how many items the first that many definitions take, with what they declare
abbrev pub taken : ℕ → List TypeItem → ℕ
taken zero xs = 0
taken (suc n) [] = 0
taken (suc n) (x ∷ xs) = suc (taken (n + declared_by x) xs)

-- the destructor, if it has one, of an item that defines a resource
abbrev pub destructor_in : TypeItem → Option (Option ℕ)
destructor_in (items.Define (defs.Resource destructor)) = Some destructor
destructor_in _ = None

abbrev pub of_item : Space → TypeItem → Plan
of_item s item = if_some (λ destructor. NewResource s.next destructor) (destructor_in item)

-- the definition that the first item begins, and these items are
abbrev pub PlansFirst : TypeItem → List TypeItem → Planner → Planner → Type 0
PlansFirst item first x y = (d : Declaration) → grouped first ≡ Then d Done → ((s : Space) → of_item s item ≡ of_type s d) → Plans (AType d) x y

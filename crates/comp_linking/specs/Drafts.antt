-- What a draft names and plans, by the modules of the whole component and the components that are planned so far.
use Rattle.std.specs.Prelude.{◌≡◌, ℕ, List, ◌++◌, map, Option, Some, None, slice_get}
use Rattle.std.specs.Option.{option_map}
use Rattle.wasm_ast.specs.Boxed.{Held}
use Rattle.wasm_ast.specs.declared.module.Module.{Module}
use Rattle.comp_types.specs.Spaces.{NestedComponent}
use Rattle.comp_link.specs.Plans.{Plan, End, Scope}
use Rattle.comp_link.specs.declared.items.PlanItem.{PlanItem}
use Rattle.comp_link.specs.Planned.{PlannedComponent, plan_item, plan_items}
use Rattle.comp_linking.specs.declared.draft.Draft.{Draft}

abbrev pub some_item : List (Held Module) → List PlannedComponent → Option PlanItem → Plan
some_item ms cs None = End
some_item ms cs (Some item) = plan_item ms cs item

-- ---- what numbers name

abbrev pub module_at : List (Held Module) → ℕ → Option Module
module_at ms n = option_map (λ (m : Held Module). m.value) (slice_get ms n)

abbrev pub plan_at : List PlannedComponent → ℕ → Option Plan
plan_at cs n = option_map (λ (c : PlannedComponent). c.plan) (slice_get cs n)

abbrev pub own_at : List PlannedComponent → ℕ → Option (List ℕ)
own_at cs n = option_map (λ (c : PlannedComponent). c.own) (slice_get cs n)

-- these are the numbers of the modules and components of a scope
abbrev pub NamesModules : List (Held Module) → Scope → List ℕ → Type 0
NamesModules ms scope numbers = map (module_at ms) numbers ≡ map (λ (m : Module). Some m) scope.modules

pub record NamesComponents (cs : List PlannedComponent) (scope : Scope) (known : List NestedComponent) (numbers : List ℕ) : Type 0 where
  pub plans : map (plan_at cs) numbers ≡ map (λ (p : Plan). Some p) scope.components
  pub owns : map (own_at cs) numbers ≡ map (λ (c : NestedComponent). Some c.own) known

-- whatever components come after
pub record IsDraft (ms : List (Held Module)) (cs : List PlannedComponent) (scope : Scope) (known : List NestedComponent) (plan : Plan) (draft : Draft) : Type 0 where
  pub modules : NamesModules ms scope draft.modules.items
  pub components : (more : List PlannedComponent) → NamesComponents (cs ++ more) scope known draft.components.items
  pub items : (more : List PlannedComponent) → plan_items ms (cs ++ more) draft.items.items ≡ plan

-- A draft for which a component further out stands, and what is named in one.
use Rattle.std.specs.Prelude.{◌≡◌, ℕ, List, ◌∷◌, ◌++◌, Option, Some, None, slice_get, ⊤}
use Rattle.std.specs.Option.{option_map, option_and_then}
use Rattle.wasm_ast.specs.Boxed.{Held}
use Rattle.wasm_ast.specs.declared.module.Module.{Module}
use Rattle.comp_types.specs.Spaces.{Space, NestedComponent}
use Rattle.comp_link.specs.Plans.{Plan, Scope}
use Rattle.comp_link.specs.Planned.{PlannedComponent}
use Rattle.comp_linking.specs.declared.draft.Draft.{Draft}
use Rattle.comp_linking.specs.Drafts.{IsDraft, module_at, plan_at, own_at}
use Rattle.comp_linking.specs.declared.planner.Planner.{Planner}
use Rattle.comp_linking.specs.Walks.{At, made, scopes, spaces, Walks}

abbrev pub AreNamed : List (Held Module) → List PlannedComponent → Option At → Option Draft → Type 0
AreNamed ms cs None None = ⊤
AreNamed ms cs (Some a) (Some draft) = IsDraft ms cs a.scope a.space.components a.plan draft
AreNamed ms cs _ _ = ⊥

-- the module at an index of a component further out, and the component there with its plan
abbrev pub outer_module : List At → ℕ → ℕ → Option Module
outer_module here count index = option_and_then (λ (o : Scope). slice_get o.modules index) (slice_get (scopes here) count)

abbrev pub outer_plan : List At → ℕ → ℕ → Option Plan
outer_plan here count index = option_and_then (λ (o : Scope). slice_get o.components index) (slice_get (scopes here) count)

abbrev pub outer_known : List At → ℕ → ℕ → Option NestedComponent
outer_known here count index = option_and_then (λ (o : Space). slice_get o.components index) (slice_get (spaces here) count)

-- the number is that of the module there, or neither is there
abbrev pub NumbersModule : Planner → ℕ → ℕ → Option ℕ → Type 0
NumbersModule x count index number = (ms todo : List (Held Module)) (outer : List At) (a : At) → Walks ms todo outer a x
    → option_map (module_at ms) number ≡ option_map (λ (m : Module). Some m) (outer_module (a ∷ outer) count index)

pub record AreOne (cs : List PlannedComponent) (plan : Option Plan) (known : Option NestedComponent) (number : Option ℕ) : Type 0 where
  pub plans : option_map (plan_at cs) number ≡ option_map (λ (p : Plan). Some p) plan
  pub owns : option_map (own_at cs) number ≡ option_map (λ (c : NestedComponent). Some c.own) known

abbrev pub NumbersComponent : Planner → ℕ → ℕ → Option ℕ → Type 0
NumbersComponent x count index number = (ms todo : List (Held Module)) (outer : List At) (a : At) → Walks ms todo outer a x
    → (more : List PlannedComponent) → AreOne (made ms x.components.items ++ more) (outer_plan (a ∷ outer) count index) (outer_known (a ∷ outer) count index) number

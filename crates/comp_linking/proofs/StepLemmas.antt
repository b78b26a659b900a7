-- A definition that is valid and is judged breaks no rule; then the planner is after it.
use Rattle.std.proofs.Common.{◌≡◌, sym, subst, ℕ, List, ◌++◌, Option, Some, None}
use Rattle.wasm_ast.specs.Boxed.{Held}
use Rattle.wasm_ast.specs.declared.module.Module.{Module}
use Rattle.comp_types.specs.Spaces.{Space, NestedComponent}
use Rattle.comp_types.specs.Definitions.{Definition}
use Rattle.comp_types.specs.Added.{after}
use Rattle.comp_types.specs.Validity.{BreaksDefinition}
use Rattle.comp_scopes.specs.declared.scope.Scope.{Scope as Kept}
use Rattle.comp_scopes.specs.Judged.{Judged}
use Rattle.comp_defining.specs.declared.scopes.Scopes.{Scopes}
use Rattle.comp_defining.specs.Around.{StandAll}
use Rattle.comp_defining.specs.Judged.{JudgedIn}
use Rattle.comp_defining.proofs.Inner.{judged_inner}
use Rattle.type_table.specs.Tables.{Types, Grew}
use Rattle.type_table.specs.Anew.{HasNew, Makes}
use Rattle.type_table.proofs.HasLaws.{grew_same, grew_then}
use Rattle.comp_link.specs.Plans.{Scope, followed, planned_by, scope_after}
use Rattle.comp_link.specs.declared.items.PlanItem.{PlanItem}
use Rattle.comp_link.specs.Planned.{PlannedComponent, plan_items}
use Rattle.comp_linking.specs.declared.draft.Draft.{Draft}
use Rattle.comp_linking.specs.Drafts.{some_item, IsDraft}
use Rattle.comp_linking.specs.declared.planner.Planner.{Planner}
use Rattle.comp_linking.specs.Walks.{At, spaces, scopes, at_after, made, Walks}
use Rattle.comp_linking.proofs.DraftLemmas.{item_more}

-- what breaks no rule is added
pub stands_after : (around : List Space) (s : Space) (d : Definition) (x : Scopes) (rule : Option ℕ) → ((r : ℕ) → BreaksDefinition around s d r → ⊥) → JudgedIn around s d x rule → StandAll around (after around s d) x
stands_after around s d x None none h = h.1
stands_after around s d x (Some r) none h = absurd (none r h)

pub behind_item : (ms todo : List (Held Module)) (outer : List At) (a : At) (d : Definition) (x : Planner) (y : Scopes) (draft : Draft) (item : Option PlanItem)
    → Walks ms todo outer a x → StandAll (spaces outer) (after (spaces outer) a.space d) y
    → scope_after (scopes outer) a.scope d ≡ a.scope → (after (spaces outer) a.space d).components ≡ a.space.components
    → draft.modules.items ≡ x.inner.modules.items → draft.components.items ≡ x.inner.components.items
    → ((ms' : List (Held Module)) (cs' : List PlannedComponent) → plan_items ms' cs' draft.items.items ≡ followed (plan_items ms' cs' x.inner.items.items) (some_item ms' cs' item))
    → ((more : List PlannedComponent) → some_item ms (made ms x.components.items ++ more) item ≡ planned_by a.scope a.space d)
    → Walks ms todo outer (at_after outer a d) (record x { scopes = y; inner = draft })
behind_item ms todo outer a d x y draft item h stand scope known m k i p =
    let cs = made ms x.components.items in
    let plan = followed a.plan (planned_by a.scope a.space d) in
    let behind : IsDraft ms cs a.scope a.space.components plan draft = item_more ms cs a.scope a.space.components a.plan (planned_by a.scope a.space d) x.inner draft item h.inner m k i p in
    record {
      scopes = stand;
      rest = h.rest;
      inner = subst (λ (c : Scope). IsDraft ms cs c (after (spaces outer) a.space d).components plan draft) (sym scope)
          (subst (λ (c : List NestedComponent). IsDraft ms cs a.scope c plan draft) (sym known) behind);
      outer = h.outer;
    }

-- a definition that makes value types anew, which the table keeps
pub behind_made : (ms todo : List (Held Module)) (outer : List At) (a : At) (d : Definition) (x : Planner) (y : Kept) (types : Types) (rule : Option ℕ) (draft : Draft) (item : Option PlanItem)
    → Walks ms todo outer a x → Makes x.scopes.types types a.space d rule → Judged (spaces outer) a.space d y rule → ((r : ℕ) → BreaksDefinition (spaces outer) a.space d r → ⊥)
    → scope_after (scopes outer) a.scope d ≡ a.scope → (after (spaces outer) a.space d).components ≡ a.space.components
    → draft.modules.items ≡ x.inner.modules.items → draft.components.items ≡ x.inner.components.items
    → ((ms' : List (Held Module)) (cs' : List PlannedComponent) → plan_items ms' cs' draft.items.items ≡ followed (plan_items ms' cs' x.inner.items.items) (some_item ms' cs' item))
    → ((more : List PlannedComponent) → some_item ms (made ms x.components.items ++ more) item ≡ planned_by a.scope a.space d)
    → Walks ms todo outer (at_after outer a d) (record x { scopes = record x.scopes { inner = y; types = types }; inner = draft })
behind_made ms todo outer a d x y types rule draft item h makes judged none scope known m k i p =
    let z : Scopes = record x.scopes { inner = y; types = types } in
    behind_item ms todo outer a d x z draft item h (stands_after (spaces outer) a.space d z rule none (judged_inner (spaces outer) a.space d x.scopes y types rule h.scopes makes judged)) scope known m k i p

-- one that makes none
pub behind_judged : (ms todo : List (Held Module)) (outer : List At) (a : At) (d : Definition) (x : Planner) (y : Kept) (rule : Option ℕ) (draft : Draft) (item : Option PlanItem)
    → Walks ms todo outer a x → HasNew x.scopes.types a.space d → Judged (spaces outer) a.space d y rule → ((r : ℕ) → BreaksDefinition (spaces outer) a.space d r → ⊥)
    → scope_after (scopes outer) a.scope d ≡ a.scope → (after (spaces outer) a.space d).components ≡ a.space.components
    → draft.modules.items ≡ x.inner.modules.items → draft.components.items ≡ x.inner.components.items
    → ((ms' : List (Held Module)) (cs' : List PlannedComponent) → plan_items ms' cs' draft.items.items ≡ followed (plan_items ms' cs' x.inner.items.items) (some_item ms' cs' item))
    → ((more : List PlannedComponent) → some_item ms (made ms x.components.items ++ more) item ≡ planned_by a.scope a.space d)
    → Walks ms todo outer (at_after outer a d) (record x { scopes = record x.scopes { inner = y }; inner = draft })
behind_judged ms todo outer a d x y rule draft item h has judged none scope known m k i p =
    behind_made ms todo outer a d x y x.scopes.types rule draft item h (grew_same x.scopes.types, λ e. has) judged none scope known m k i p

-- where the table grew before
pub makes_behind : (old mid new : Types) (s : Space) (d : Definition) (rule : Option ℕ) → Grew old mid → Makes mid new s d rule → Makes old new s d rule
makes_behind old mid new s d rule grew makes = (grew_then old mid new grew makes.0, makes.1)

-- What is kept while the sections of a component are walked over: where the walk is, in the component and in those around it.
use Rattle.std.specs.Prelude.{◌≡◌, ℕ, List, [], ◌∷◌, map, drop, reverse, Some, ⊤}
use Rattle.wasm_ast.specs.Boxed.{Held}
use Rattle.wasm_ast.specs.declared.module.Module.{Module}
use Rattle.comp_grammar.specs.Trees.{Part, Tree, CoreModule, Nested, End as NoParts, More as Section}
use Rattle.comp_types.specs.Spaces.{Space}
use Rattle.comp_types.specs.Definitions.{Definition, definitions}
use Rattle.comp_types.specs.Added.{after, after_part, and_nested, entered, nested_of, root}
use Rattle.comp_defining.specs.Around.{StandAll}
use Rattle.comp_link.specs.Plans.{Plan, End, Scope, no_scope, and_module, and_plan, followed, planned_by, scope_after}
use Rattle.comp_link.specs.declared.linked.ComponentPlan.{ComponentPlan}
use Rattle.comp_link.specs.Planned.{PlannedComponent, and_components}
use Rattle.comp_linking.specs.declared.draft.Draft.{Draft}
use Rattle.comp_linking.specs.declared.planner.Planner.{Planner}
use Rattle.comp_linking.specs.Drafts.{IsDraft}

-- the index spaces at a place of a component, what can be named there, and what is planned so far
pub record At : Type 0 where
  pub space : Space
  pub scope : Scope
  pub plan : Plan

abbrev pub spaces : List At → List Space
spaces outer = map (λ (a : At). a.space) outer

abbrev pub scopes : List At → List Scope
scopes outer = map (λ (a : At). a.scope) outer

-- ---- where definitions and sections lead

abbrev pub at_after : List At → At → Definition → At
at_after outer a d = record {
  space = after (spaces outer) a.space d;
  scope = scope_after (scopes outer) a.scope d;
  plan = followed a.plan (planned_by a.scope a.space d);
}

abbrev pub at_all : List At → At → List Definition → At
at_all outer a [] = a
at_all outer a (d ∷ ds) = at_all outer (at_after outer a d) ds

-- the beginning of a component in this one
abbrev pub at_entered : At → At
at_entered a = record { space = entered a.space; scope = no_scope; plan = End }

-- after a component in this one, whose end that is
abbrev pub at_nested : At → At → At
at_nested a inner = record a { space = and_nested a.space inner.space; scope = and_plan a.scope (Some inner.plan) }

abbrev mutual
  pub at_part : List At → At → Part → At
  at_part outer a (CoreModule span m) = record a { space = after_part (spaces outer) a.space (CoreModule span m); scope = and_module a.scope (Some m) }
  at_part outer a (Nested span tree) = at_nested a (at_tree (a ∷ outer) (at_entered a) tree)
  at_part outer a part = at_all outer a (definitions part)

  pub at_tree : List At → At → Tree → At
  at_tree outer a NoParts = a
  at_tree outer a (Section part rest) = at_tree outer (at_part outer a part) rest

abbrev pub at_root : At
at_root = record { space = root; scope = no_scope; plan = End }

-- ---- what the planner keeps

abbrev pub made : List (Held Module) → List ComponentPlan → List PlannedComponent
made ms components = and_components ms [] components

abbrev pub AreDrafts : List (Held Module) → List PlannedComponent → List At → List Draft → Type 0
AreDrafts ms cs [] [] = ⊤
AreDrafts ms cs (a ∷ outer) (draft ∷ drafts) = IsDraft ms cs a.scope a.space.components a.plan draft × AreDrafts ms cs outer drafts
AreDrafts ms cs _ _ = ⊥

-- the planner is at this place; these modules are still to come
pub record Walks (ms todo : List (Held Module)) (around : List At) (a : At) (x : Planner) : Type 0 where
  pub scopes : StandAll (spaces around) a.space x.scopes
  pub rest : drop x.count ms ≡ todo
  pub inner : IsDraft ms (made ms x.components.items) a.scope a.space.components a.plan x.inner
  pub outer : AreDrafts ms (made ms x.components.items) around (reverse x.outer.items)

-- the component at whose end this is was left: the index spaces are those around it, its draft is still the innermost
pub record Leaves (ms todo : List (Held Module)) (around : List At) (t a : At) (resources : List ℕ) (x : Planner) : Type 0 where
  pub scopes : StandAll (spaces around) (and_nested t.space a.space) x.scopes
  pub rest : drop x.count ms ≡ todo
  pub inner : IsDraft ms (made ms x.components.items) a.scope a.space.components a.plan x.inner
  pub outer : AreDrafts ms (made ms x.components.items) (t ∷ around) (reverse x.outer.items)
  pub own : resources ≡ (nested_of a.space).own

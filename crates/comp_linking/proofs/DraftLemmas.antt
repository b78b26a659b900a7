-- A draft with one item more, and with one component more after those that are planned.
use Rattle.std.proofs.Common.{◌≡◌, ◌∙◌, ap, sym, subst, List, [], ◌∷◌, ◌++◌, map, Option}
use Rattle.std.proofs.lemmas.List.{append_assoc}
use Rattle.wasm_ast.specs.Boxed.{Held}
use Rattle.wasm_ast.specs.declared.module.Module.{Module}
use Rattle.comp_types.specs.Spaces.{NestedComponent}
use Rattle.comp_link.specs.Plans.{Plan, Scope, followed}
use Rattle.comp_link.specs.declared.items.PlanItem.{PlanItem}
use Rattle.comp_link.specs.Planned.{PlannedComponent, plan_items}
use Rattle.comp_linking.specs.declared.draft.Draft.{Draft}
use Rattle.comp_linking.specs.Drafts.{some_item, module_at, NamesComponents, IsDraft}
use Rattle.comp_linking.specs.Walks.{At, AreDrafts}

pub item_more : (ms : List (Held Module)) (cs : List PlannedComponent) (scope : Scope) (known : List NestedComponent) (plan p : Plan) (x y : Draft) (item : Option PlanItem)
    → IsDraft ms cs scope known plan x → y.modules.items ≡ x.modules.items → y.components.items ≡ x.components.items
    → ((ms' : List (Held Module)) (cs' : List PlannedComponent) → plan_items ms' cs' y.items.items ≡ followed (plan_items ms' cs' x.items.items) (some_item ms' cs' item))
    → ((more : List PlannedComponent) → some_item ms (cs ++ more) item ≡ p)
    → IsDraft ms cs scope known (followed plan p) y
item_more ms cs scope known plan p x y item h m k i e = record {
  modules = ap (map (module_at ms)) m ∙ h.modules;
  components = λ more. subst (NamesComponents (cs ++ more) scope known) (sym k) (h.components more);
  items = λ more. i ms (cs ++ more) ∙ (λ j. followed (h.items more j) (e more j));
}

pub component_behind : (ms : List (Held Module)) (cs : List PlannedComponent) (c : PlannedComponent) (scope : Scope) (known : List NestedComponent) (plan : Plan) (x : Draft)
    → IsDraft ms cs scope known plan x → IsDraft ms (cs ++ c ∷ []) scope known plan x
component_behind ms cs c scope known plan x h = record {
  modules = h.modules;
  components = λ more. subst (λ l. NamesComponents l scope known x.components.items) (sym (append_assoc cs (c ∷ []) more)) (h.components (c ∷ more));
  items = λ more. ap (λ l. plan_items ms l x.items.items) (append_assoc cs (c ∷ []) more) ∙ h.items (c ∷ more);
}

pub components_behind : (ms : List (Held Module)) (cs : List PlannedComponent) (c : PlannedComponent) (outer : List At) (drafts : List Draft) → AreDrafts ms cs outer drafts → AreDrafts ms (cs ++ c ∷ []) outer drafts
components_behind ms cs c [] [] h = tt
components_behind ms cs c [] (d ∷ drafts) h = absurd h
components_behind ms cs c (a ∷ outer) [] h = absurd h
components_behind ms cs c (a ∷ outer) (d ∷ drafts) h = (component_behind ms cs c a.scope a.space.components a.plan d h.0, components_behind ms cs c outer drafts h.1)

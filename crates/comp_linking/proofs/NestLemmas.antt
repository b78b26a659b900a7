-- Components in components: a draft is begun, and becomes a plan that can be named.
use Rattle.std.proofs.Common.{◌≡◌, ◌∙◌, ◌+◌, ap, sym, subst, refl, ℕ, List, [], ◌∷◌, ◌++◌, map, length, reverse, Some, slice_get, arith}
use Rattle.std.specs.Prelude.{option_map}
use Rattle.std.proofs.lemmas.List.{append_assoc, append-nil, length-append}
use Rattle.wasm_ast.specs.Boxed.{Held}
use Rattle.wasm_ast.specs.declared.module.Module.{Module}
use Rattle.comp_types.specs.Spaces.{Space, NestedComponent}
use Rattle.comp_types.specs.Added.{nested_of}
use Rattle.comp_defining.proofs.AroundLemmas.{rev_push}
use Rattle.comp_link.specs.Plans.{Plan, End, no_scope, and_plan}
use Rattle.comp_link.specs.declared.linked.ComponentPlan.{ComponentPlan}
use Rattle.comp_link.specs.Planned.{PlannedComponent, plan_items, planned_component, and_components}
use Rattle.comp_link.proofs.Earlier.{components_more}
use Rattle.comp_linking.specs.declared.draft.Draft.{Draft}
use Rattle.comp_linking.specs.Drafts.{module_at, plan_at, own_at, IsDraft}
use Rattle.comp_linking.specs.Walks.{At, AreDrafts, made}
use Rattle.comp_linking.proofs.DraftLemmas.{component_behind}
use Rattle.comp_linking.proofs.NameLemmas.{both_behind}

pub fresh : (ms : List (Held Module)) (cs : List PlannedComponent) (draft : Draft) → draft.modules.items ≡ [] → draft.components.items ≡ [] → draft.items.items ≡ [] → IsDraft ms cs no_scope [] End draft
fresh ms cs draft m c i = record {
  modules = ap (map (module_at ms)) m;
  components = λ more. record { plans = ap (map (plan_at (cs ++ more))) c; owns = ap (map (own_at (cs ++ more))) c };
  items = λ more. ap (plan_items ms (cs ++ more)) i;
}

pub draft_pushed : (ms : List (Held Module)) (cs : List PlannedComponent) (outer : List At) (a : At) (drafts all : List Draft) (d x : Draft)
    → AreDrafts ms cs outer (reverse drafts) → IsDraft ms cs a.scope a.space.components a.plan x → d ≡ x → all ≡ drafts ++ d ∷ [] → AreDrafts ms cs (a ∷ outer) (reverse all)
draft_pushed ms cs outer a drafts all d x hs h e p =
    subst (AreDrafts ms cs (a ∷ outer)) (sym (ap reverse p ∙ rev_push drafts d)) (subst (IsDraft ms cs a.scope a.space.components a.plan) (sym e) h, hs)

pub draft_popped : (ms : List (Held Module)) (cs : List PlannedComponent) (outer : List At) (drafts all : List Draft) (d : Draft) → AreDrafts ms cs outer (reverse all) → all ≡ drafts ++ d ∷ [] → AreDrafts ms cs outer (d ∷ reverse drafts)
draft_popped ms cs outer drafts all d h p = subst (AreDrafts ms cs outer) (ap reverse p ∙ rev_push drafts d) h

pub no_draft : (ms : List (Held Module)) (cs : List PlannedComponent) (outer : List At) (t : At) (all : List Draft) → AreDrafts ms cs (t ∷ outer) (reverse all) → all ≡ [] → ⊥
no_draft ms cs outer t all h e = subst (λ (ds : List Draft). AreDrafts ms cs (t ∷ outer) (reverse ds)) e h

-- ---- the plan that is added

as_many : (ms : List (Held Module)) (cs : List PlannedComponent) (xs : List ComponentPlan) → length (and_components ms cs xs) ≡ length cs + length xs
as_many ms cs [] = omega arith
as_many ms cs (x ∷ xs) = let e = as_many ms (cs ++ planned_component ms cs x ∷ []) xs in omega (arith, e, length-append cs (planned_component ms cs x ∷ []))

at_seam : {A : Type 0} (xs : List A) (y : A) (ys : List A) → slice_get (xs ++ y ∷ ys) (length xs) ≡ Some y
at_seam [] y ys = refl
at_seam (x ∷ xs) y ys = at_seam xs y ys

-- the number of the component that is added
found : (ms : List (Held Module)) (xs : List ComponentPlan) (p : PlannedComponent) (more : List PlannedComponent) (n : ℕ) → n ≡ length xs → slice_get (made ms xs ++ p ∷ [] ++ more) n ≡ Some p
found ms xs p more n e =
    let many : n ≡ length (made ms xs) = omega (arith, e, as_many ms [] xs) in
    ap (slice_get (made ms xs ++ p ∷ [] ++ more)) many ∙ (ap (λ l. slice_get l (length (made ms xs))) (append_assoc (made ms xs) (p ∷ []) more) ∙ at_seam (made ms xs) p more)

pub with_plan : (ms : List (Held Module)) (xs : List ComponentPlan) (t : At) (inner : Space) (plan : Plan) (own : List ℕ) (n : ℕ) (x y : Draft)
    → IsDraft ms (made ms xs) t.scope t.space.components t.plan x → own ≡ (nested_of inner).own → n ≡ length xs
    → y.modules.items ≡ x.modules.items → y.components.items ≡ x.components.items ++ n ∷ [] → y.items.items ≡ x.items.items
    → IsDraft ms (made ms xs ++ record { plan = plan; own = own } ∷ []) (and_plan t.scope (Some plan)) (t.space.components ++ nested_of inner ∷ []) t.plan y
with_plan ms xs t inner plan own n x y h o e m c i =
    let p : PlannedComponent = record { plan = plan; own = own } in
    let cs = made ms xs ++ p ∷ [] in
    let k = component_behind ms (made ms xs) p t.scope t.space.components t.plan x h in
    record {
      modules = ap (map (module_at ms)) m ∙ k.modules;
      components = λ more. record {
        plans = ap (map (plan_at (cs ++ more))) c
            ∙ both_behind (plan_at (cs ++ more)) (λ (q : Plan). Some q) x.components.items t.scope.components (Some n) (Some plan) (k.components more).plans
            (ap (λ o. Some (option_map (λ (q : PlannedComponent). q.plan) o)) (found ms xs p more n e));
        owns = ap (map (own_at (cs ++ more))) c
            ∙ both_behind (own_at (cs ++ more)) (λ (q : NestedComponent). Some q.own) x.components.items t.space.components (Some n) (Some (nested_of inner)) (k.components more).owns
            (ap (λ o. Some (option_map (λ (q : PlannedComponent). q.own) o)) (found ms xs p more n e) ∙ ap (λ rs. Some (Some rs)) o);
      };
      items = λ more. ap (plan_items ms (cs ++ more)) i ∙ k.items more;
    }

-- the components with the plan of this draft
pub with_component : (ms : List (Held Module)) (xs ys : List ComponentPlan) (c : ComponentPlan) (a : At) (x : Draft)
    → IsDraft ms (made ms xs) a.scope a.space.components a.plan x → c.items ≡ x.items.items → ys ≡ xs ++ c ∷ [] → made ms ys ≡ made ms xs ++ record { plan = a.plan; own = c.own } ∷ []
with_component ms xs ys c a x h e p =
    let plan : plan_items ms (made ms xs) c.items ≡ a.plan = ap (plan_items ms (made ms xs)) e ∙ (ap (λ l. plan_items ms l x.items.items) (sym (append-nil (made ms xs))) ∙ h.items []) in
    ap (made ms) p ∙ (components_more ms [] xs c ∙ (λ i. made ms xs ++ (let q : PlannedComponent = record { plan = plan i; own = c.own } in q) ∷ []))

use Rattle.std.proofs.Common.{◌≡◌, ◌∙◌, ap, sym, subst, reverse, refl, List, [], ◌∷◌, ◌++◌, length, Some, arith}
use Rattle.comp_types.specs.Added.{nested_of}
use Rattle.comp_link.specs.Plans.{and_plan}
use Rattle.comp_link.specs.declared.linked.ComponentPlan.{ComponentPlan}
use Rattle.comp_link.specs.Planned.{PlannedComponent}
use Rattle.comp_linking.specs.declared.draft.Draft.{Draft}
use Rattle.comp_linking.specs.Drafts.{IsDraft}
use Rattle.comp_defining.proofs.AroundLemmas.{empty_is}
use Rattle.comp_linking.specs.Walks.{AreDrafts, made}
use Rattle.comp_linking.proofs.DraftLemmas.{components_behind}
use Rattle.comp_linking.proofs.NestLemmas.{no_draft, draft_popped, with_plan, with_component}
use Rattle.comp_linking.proofs.nested.keep_plan.Goals as goal

pub returns-in_default : goal.returns-in_default
returns-in_default c = λ ms todo outer t a h.
    let x = c.args.planner.now in
    let e : length x.outer.items ≡ 0 = omega (arith, c.in_default.ensures.cases.0, x.outer.ok.0) in
    absurd (no_draft ms (made ms x.components.items) outer t x.outer.items h.outer (empty_is x.outer.items e))

pub returns : goal.returns
returns c = λ ms todo outer t a h.
    let x = c.args.planner.now in
    let xs = x.components.items in
    let cs = made ms xs in
    let draft : Draft = c.replace-ended.new.dest in
    let plan : ComponentPlan = record { items = c.new-items.result; own = c.args.own } in
    let p : PlannedComponent = record { plan = a.plan; own = c.args.own } in
    let popped = draft_popped ms cs (t ∷ outer) c.pop.new.self.items x.outer.items c.in-Some.draft h.outer c.in-Some.ensures.items in
    let here : IsDraft ms cs t.scope t.space.components t.plan draft = subst (IsDraft ms cs t.scope t.space.components t.plan) (sym c.replace-ended.ensures.after) popped.0 in
    let kept = with_component ms xs c.push.new.self.items plan a x.inner h.inner (c.new-items.ensures ∙ ap (λ (d : Draft). d.items.items) c.replace-ended.ensures.value) c.in_ok-push.ensures.items in
    let many : c.in-Ok.number ≡ length xs = omega (arith, c.in-Ok.ensures) in
    let after : Draft = record draft { components = c.push-2.new.self } in
    let inner = with_plan ms xs t a.space a.plan c.args.own c.in-Ok.number draft after here h.own many refl c.in_ok-push-2.ensures.items refl in
    record {
      scopes = h.scopes;
      rest = h.rest;
      inner = subst (λ (l : List PlannedComponent). IsDraft ms l (and_plan t.scope (Some a.plan)) (t.space.components ++ nested_of a.space ∷ []) t.plan after) (sym kept) inner;
      outer = subst (λ (l : List PlannedComponent). AreDrafts ms l outer (reverse c.pop.new.self.items)) (sym kept) (components_behind ms cs p outer (reverse c.pop.new.self.items) popped.1);
    }

use Rattle.std.proofs.Common.{refl, sym, subst, List, [], reverse}
use Rattle.comp_link.specs.Plans.{End, no_scope}
use Rattle.comp_link.specs.declared.linked.ComponentPlan.{ComponentPlan}
use Rattle.comp_linking.specs.declared.draft.Draft.{Draft}
use Rattle.comp_linking.specs.Drafts.{IsDraft}
use Rattle.comp_linking.specs.Walks.{AreDrafts, made}
use Rattle.comp_linking.proofs.NestLemmas.{fresh}
use Rattle.comp_linking.proofs.planner.Planner.root.Goals as goal

pub returns : goal.returns
returns c = λ ms. record {
  scopes = c.root-scopes.ensures;
  rest = refl;
  inner = subst (λ (cs : List ComponentPlan). IsDraft ms (made ms cs) no_scope [] End c.new-inner.result) (sym c.new-2.ensures.items)
      (fresh ms [] c.new-inner.result c.new-inner.ensures.modules c.new-inner.ensures.components c.new-inner.ensures.items);
  outer = subst (λ (ds : List Draft). AreDrafts ms (made ms c.new-2.result.items) [] (reverse ds)) (sym c.new.ensures.items) tt;
}

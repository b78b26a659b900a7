use Rattle.std.proofs.Common.{sym, subst, []}
use Rattle.comp_link.specs.Plans.{End, no_scope}
use Rattle.comp_linking.specs.Drafts.{IsDraft}
use Rattle.comp_linking.specs.Walks.{spaces, made}
use Rattle.comp_linking.proofs.NestLemmas.{fresh, draft_pushed}
use Rattle.comp_linking.proofs.nested.enter.Goals as goal

pub returns : goal.returns
returns c = λ ms todo outer a h.
    let x = c.args.planner.now in
    let cs = made ms x.components.items in
    record {
      scopes = c.in_ok-enter.ensures (spaces outer) a.space h.scopes;
      rest = h.rest;
      inner = subst (IsDraft ms cs no_scope [] End) (sym c.replace-draft.ensures.after) (fresh ms cs c.new-inner.result c.new-inner.ensures.modules c.new-inner.ensures.components c.new-inner.ensures.items);
      outer = draft_pushed ms cs outer a x.outer.items _ _ x.inner h.outer h.inner c.replace-draft.ensures.value c.in_ok-push.ensures.items;
    }

use Rattle.std.proofs.Common.{ap, ◌∙◌, sym, Some}
use Rattle.core_body.specs.Machine.{pops}
use Rattle.core_body.specs.Sources.{spelled}
use Rattle.core_body.specs.Views.{context_of}
use Rattle.core_body.proofs.PlaceLemmas.{short-yes, short-no}
use Rattle.core_body.proofs.stack.Stack.take_long.Goals as goal

pub returns-in-Left-clause-yes : goal.returns-in-Left-clause-yes
returns-in-Left-clause-yes c =
    let d = context_of c.args.scope.now in
    ap (λ l. pops c.args.dead l (spelled d c.args.due)) (sym c.place.ensures.rest) ∙ c.in-Left.ensures.met c.args.dead ∙ ap (λ l. Some l) (sym c.keep.ensures.level)

pub returns-in-Differs-clause-no : goal.returns-in-Differs-clause-no
returns-in-Differs-clause-no c =
    let d = context_of c.args.scope.now in
    ap (λ l. pops c.args.dead l (spelled d c.args.due)) (sym c.place.ensures.rest) ∙ c.in-Differs.ensures.met c.args.dead

pub returns-in-Short-clause-yes : goal.returns-in-Short-clause-yes
returns-in-Short-clause-yes c =
    let d = context_of c.args.scope.now in
    short-yes c.args.dead _ _ (ap (λ l. pops c.args.dead l (spelled d c.args.due)) (sym c.place.ensures.rest) ∙ c.in-Short.ensures.met c.args.dead) c.clear.ensures.level

pub returns-in-Short-clause-no : goal.returns-in-Short-clause-no
returns-in-Short-clause-no c =
    let d = context_of c.args.scope.now in
    short-no c.args.dead _ (ap (λ l. pops c.args.dead l (spelled d c.args.due)) (sym c.place.ensures.rest) ∙ c.in-Short.ensures.met c.args.dead)

use Rattle.std.proofs.Common.{ap, ◌∙◌, sym, [], ◌∷◌, Some}
use Rattle.core_body.specs.Machine.{put}
use Rattle.core_body.proofs.stack.Stack.choose.Goals as goal

pub returns-then-not-take-clause-level : goal.returns-then-not-take-clause-level
returns-then-not-take-clause-level c = let o = c.args.operand in ap (put (o ∷ [])) (c.if-not-take.ensures.no (o ∷ o ∷ []))

pub returns-then-not-take-2-clause-level : goal.returns-then-not-take-2-clause-level
returns-then-not-take-2-clause-level c =
    let o = c.args.operand in
    ap (put (o ∷ [])) (c.if-not-take.ensures.yes (o ∷ o ∷ []) ∙ c.if-not-take-2.ensures.no (o ∷ []))

pub returns-then-not-take-3-clause-level : goal.returns-then-not-take-3-clause-level
returns-then-not-take-3-clause-level c =
    let o = c.args.operand in
    ap (put (o ∷ [])) (c.if-not-take.ensures.yes (o ∷ o ∷ []) ∙ c.if-not-take-2.ensures.yes (o ∷ []) ∙ c.if-not-take-3.ensures.no [])

pub returns-clause-level : goal.returns-clause-level
returns-clause-level c =
    let o = c.args.operand in
    ap (put (o ∷ [])) (c.if-not-take.ensures.yes (o ∷ o ∷ []) ∙ c.if-not-take-2.ensures.yes (o ∷ []) ∙ c.if-not-take-3.ensures.yes [])
    ∙ ap (λ l. Some l) (sym c.in_ok-push.ensures.level)

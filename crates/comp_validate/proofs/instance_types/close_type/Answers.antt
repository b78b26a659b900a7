use Rattle.std.proofs.Common.{◌≡◌, refl, Some, None}
use Rattle.std.proofs.lemmas.Result.{IfOk-weaker}
use Rattle.comp_validate.proofs.ClosingLemmas.{closes_in}
use Rattle.comp_validate.proofs.instance_types.close_type.Goals as goal

pub returns-in-None-clause-inner : goal.returns-in-None-clause-inner
returns-in-None-clause-inner c = λ around t s h. absurd (c.in-None.ensures.closed around t s h)

pub returns-in-None-clause-alone : goal.returns-in-None-clause-alone
returns-in-None-clause-alone c = λ s h. (refl, (c.in-None.ensures.alone s h).1)

pub returns-in-Some-clause-inner : goal.returns-in-Some-clause-inner
returns-in-Some-clause-inner c = IfOk-weaker c.close_inner.result _ _ (λ rule k around t s h.
    let closed = c.in-Some.ensures.closed around t s h in
    closes_in around t s c.close.new.self c.close_inner.new.scope rule closed.1 closed.0.1 (k t s closed.1.inner closed.0.0)) c.close_inner.ensures

pub returns-in-Some-clause-alone : goal.returns-in-Some-clause-alone
returns-in-Some-clause-alone c = IfOk-weaker c.close_inner.result _ _ (λ rule k s h. let never : Some c.in-Some.inner ≡ None = (c.in-Some.ensures.alone s h).0 in absurd (cc)) c.close_inner.ensures

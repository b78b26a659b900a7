use Rattle.std.proofs.Common.{refl, subst}
use Rattle.std.proofs.lemmas.Result.{IfOk-weaker}
use Rattle.comp_validate.specs.Rest.{Rest, Step, in_front}
use Rattle.comp_validate.proofs.StepLemmas.{joined}
use Rattle.comp_validate.proofs.type_sections.pass.Goals as goal

pub returns-in-Some : goal.returns-in-Some
returns-in-Some c = λ around s ds h.
    let all = in_front c.args.item.now ds in
    subst (Step (Rest c.args.counts.now around s all) c.close_whole.new.counts all c.close_whole.new.scopes) c.in-Some.is (c.in_ok-rule.ensures.step around s all h)

pub returns-in-None : goal.returns-in-None
returns-in-None c =
    IfOk-weaker c.define_item.result _ _ (λ rule k around s ds h.
    let all = in_front c.args.item.now ds in
    joined (Rest c.args.counts.now around s all) c.close_whole.new.counts c.define_item.new.counts ds all c.close_whole.new.scopes c.define_item.new.scopes rule
    (subst (Step (Rest c.args.counts.now around s all) c.close_whole.new.counts all c.close_whole.new.scopes) c.in-None.is (c.in_ok-rule.ensures.step around s all h))
    (λ outer t stand. k (c.in_ok-rule.ensures.ready c.in-None.is) outer t ds stand)) c.define_item.ensures

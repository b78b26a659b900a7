use Rattle.std.proofs.Common.{◌≡◌, ◌∙◌, ap, arith, subst, ℕ, List, ◌∷◌}
use Rattle.comp_validate.specs.Rest.{Rest, Leads}
use Rattle.comp_validate.proofs.StepLemmas.{HasClosed, step_close}
use Rattle.comp_validate.proofs.type_sections.close_whole.Goals as goal

pub returns-in-Some-2-clause-step : goal.returns-in-Some-2-clause-step
returns-in-Some-2-clause-step c = λ around s ds h.
    let e : c.in-Some.count ≡ 0 = omega (arith, c.if-count-ne0.false) in
    let l = subst (λ (cs : List ℕ). Leads (Rest c.args.counts.now around s ds) cs ds c.loop-count.scopes) (c.in-Some.ensures ∙ ap (λ n. n ∷ c.pop.new.self) e) (c.loop-count.invariant around s ds h) in
    step_close (Rest c.args.counts.now around s ds) c.pop.new.self ds c.loop-count.scopes c.close_type.new.scopes _ l
    (subst (HasClosed c.loop-count.scopes c.close_type.new.scopes) c.in-Some-2.is (record { inner = c.in_ok-rule.ensures.inner; alone = c.in_ok-rule.ensures.alone }))

pub loop-count-preserved : goal.loop-count-preserved
loop-count-preserved c = λ around s ds h.
    let e : c.in-Some.count ≡ 0 = omega (arith, c.if-count-ne0.false) in
    let l = subst (λ (cs : List ℕ). Leads (Rest c.args.counts.now around s ds) cs ds c.loop-count.scopes) (c.in-Some.ensures ∙ ap (λ n. n ∷ c.pop.new.self) e) (c.loop-count.invariant around s ds h) in
    step_close (Rest c.args.counts.now around s ds) c.pop.new.self ds c.loop-count.scopes c.close_type.new.scopes _ l
    (subst (HasClosed c.loop-count.scopes c.close_type.new.scopes) c.in_default-2.is (record { inner = c.in_ok-rule.ensures.inner; alone = c.in_ok-rule.ensures.alone }))

use Rattle.std.proofs.Common.{subst, ℕ, List}
use Rattle.comp_types.specs.Declarations.{Done}
use Rattle.comp_validate.specs.Rest.{Rest, Leads}
use Rattle.comp_validate.proofs.StepLemmas.{HasClosed, step_end}
use Rattle.comp_validate.proofs.type_sections.close_all.Goals as goal

pub returns-in-Some-2 : goal.returns-in-Some-2
returns-in-Some-2 c = λ around s h.
    let l = subst (λ (cs : List ℕ). Leads (Rest c.args.counts.now around s Done) cs Done c.loop-left.scopes) c.in-Some.ensures (c.loop-left.invariant around s h) in
    step_end (Rest c.args.counts.now around s Done) _ c.pop.new.self c.loop-left.scopes c.close_type.new.scopes _ l
    (subst (HasClosed c.loop-left.scopes c.close_type.new.scopes) c.in-Some-2.is (record { inner = c.in_ok-rule.ensures.inner; alone = c.in_ok-rule.ensures.alone }))

pub loop-left-preserved : goal.loop-left-preserved
loop-left-preserved c = λ around s h.
    let l = subst (λ (cs : List ℕ). Leads (Rest c.args.counts.now around s Done) cs Done c.loop-left.scopes) c.in-Some.ensures (c.loop-left.invariant around s h) in
    step_end (Rest c.args.counts.now around s Done) _ c.pop.new.self c.loop-left.scopes c.close_type.new.scopes _ l
    (subst (HasClosed c.loop-left.scopes c.close_type.new.scopes) c.in_default-2.is (record { inner = c.in_ok-rule.ensures.inner; alone = c.in_ok-rule.ensures.alone }))

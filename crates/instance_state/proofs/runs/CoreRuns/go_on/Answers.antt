use Rattle.std.proofs.Common.{◌≡◌, ◌++◌, ◌∷◌, ◌∙◌, [], true, sym, ap, subst}
use Rattle.core_store.specs.Fine.{IsFine}
use Rattle.instance_state.specs.Ready.{AreReady}
use Rattle.instance_state.specs.Done.{Ran}
use Rattle.instance_state.proofs.Readying.{counts_on, inner_ready, one_last}
use Rattle.instance_state.proofs.Going.{ran_ready}
use Rattle.instance_state.proofs.runs.CoreRuns.go_on.Goals as goal

pub run_call-requires-clause-can : goal.run_call-requires-clause-can
run_call-requires-clause-can c =
    let calls : AreReady (c.pop.new.self.items ++ c.in-Some.call ∷ []) c.self.inside.going c.self.inside.store = subst (λ cs. AreReady cs c.self.inside.going c.self.inside.store) c.in-Some.ensures.items c.self.invariant.1 in
    let ready : AreReady (c.pop.new.self.items ++ c.in-Some.call ∷ []) true c.self.inside.store = subst (λ g. AreReady (c.pop.new.self.items ++ c.in-Some.call ∷ []) g c.self.inside.store) c.if-not-self.false calls in
    (inner_ready c.pop.new.self.items c.in-Some.call true c.self.inside.store ready).1.follows.can

pub invariant_of-self-in-Ok : goal.invariant_of-self-in-Ok
invariant_of-self-in-Ok c =
    let calls : AreReady (c.pop.new.self.items ++ c.in-Some.call ∷ []) c.self.inside.going c.self.inside.store = subst (λ cs. AreReady cs c.self.inside.going c.self.inside.store) c.in-Some.ensures.items c.self.invariant.1 in
    let ready : AreReady (c.pop.new.self.items ++ c.in-Some.call ∷ []) true c.self.inside.store = subst (λ g. AreReady (c.pop.new.self.items ++ c.in-Some.call ∷ []) g c.self.inside.store) c.if-not-self.false calls in (
      subst IsFine c.in-Ok.ensures.pauses.scene c.self.invariant.0,
      subst (λ g. AreReady c.run_call.new.calls.items g c.run_call.new.store) (sym c.goes_on-self-inside.ensures)
          (ran_ready c.pop.new.self.items c.in-Some.call c.self.inside.store c.args.budget.now c.in-Ok.pause c.run_call.new.calls.items c.run_call.new.store c.run_call.new.budget ready c.in-Ok.ensures),
      counts_on c.self.inside.store c.run_call.new.store c.self.inside.counts c.in-Ok.ensures.pauses.scene c.self.invariant.2,
    )

pub returns-in-Ok-clause-goes : goal.returns-in-Ok-clause-goes
returns-in-Ok-clause-goes c outer call e going =
    let same : (c.pop.new.self.items ≡ outer) × (c.in-Some.call ≡ call) = one_last c.pop.new.self.items outer c.in-Some.call call (sym c.in-Some.ensures.items ∙ (ap (λ v. v.calls) c.self.view_is ∙ e)) in (
      subst (λ s. Ran outer call s c.args.budget.now c.in-Ok.pause c.run_call.new.calls.items c.run_call.new.store c.run_call.new.budget) (ap (λ v. v.store) c.self.view_is)
          (subst (λ o. Ran o call c.self.inside.store c.args.budget.now c.in-Ok.pause c.run_call.new.calls.items c.run_call.new.store c.run_call.new.budget) same.0
          (subst (λ k. Ran c.pop.new.self.items k c.self.inside.store c.args.budget.now c.in-Ok.pause c.run_call.new.calls.items c.run_call.new.store c.run_call.new.budget) same.1 c.in-Ok.ensures)),
      c.goes_on-self-inside.ensures,
    )

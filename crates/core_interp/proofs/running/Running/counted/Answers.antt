use Rattle.std.proofs.Common.{◌≡◌, ◌-◌, ◌+◌, arith}
use Rattle.core_interp.proofs.Stepping.{stepped, step_traps, spent_all}
use Rattle.core_interp.proofs.running.Running.counted.Goals as goal

pub returns-then-budget-eq0-clause-leads : goal.returns-then-budget-eq0-clause-leads
returns-then-budget-eq0-clause-leads c = spent_all c.args.self.now c.args.store.now _ c.if-budget-eq0.true c.requires.steps

pub returns-clause-leads : goal.returns-clause-leads
returns-clause-leads c =
    let e : c.args.budget.now ≡ c.args.budget.now - 1 + 1 = omega arith in
    stepped c.args.self.now c.step.new.self c.args.store.now c.step.new.store _ _ c.in_ok-flow.flow e c.in_ok-flow.ensures.leads

pub returns-clause-traps : goal.returns-clause-traps
returns-clause-traps c =
    let e : c.args.budget.now ≡ c.args.budget.now - 1 + 1 = omega arith in
    step_traps c.args.self.now c.args.store.now _ _ c.in_ok-flow.flow e c.requires.steps

use Rattle.core_interp.specs.Run.{goes}
use Rattle.core_interp.proofs.Entries.{remains_on, traps_on}
use Rattle.core_interp.proofs.Stepping.{then_leads}
use Rattle.core_interp.proofs.running.Running.run_on.Goals as goal

pub returns-in_default-clause-leads : goal.returns-in_default-clause-leads
returns-in_default-clause-leads c =
    then_leads (goes c.args.self.now c.args.store.now) c.loop-scope.self c.run_in.new.self c.loop-scope.store c.run_in.new.store c.args.budget.now c.loop-scope.budget c.run_in.new.budget c.in_ok-flow.flow c.in_ok-flow.ensures.budget c.loop-scope.invariant.budget c.loop-scope.invariant.leads c.in_ok-flow.ensures.leads

pub returns-in_default-clause-entry : goal.returns-in_default-clause-entry
returns-in_default-clause-entry c = remains_on c.in_ok-flow.flow c.args.self.now c.loop-scope.self c.run_in.new.self c.loop-scope.invariant.entry c.in_ok-flow.ensures.entry

pub returns-in_default-clause-traps : goal.returns-in_default-clause-traps
returns-in_default-clause-traps c =
    traps_on (goes c.args.self.now c.args.store.now) (goes c.loop-scope.self c.loop-scope.store) c.args.budget.now c.loop-scope.budget c.run_in.new.budget c.in_ok-flow.flow c.in_ok-flow.ensures.budget c.loop-scope.invariant.budget c.loop-scope.invariant.leads c.in_ok-flow.ensures.traps

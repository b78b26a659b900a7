use Rattle.core_interp.specs.Run.{goes}
use Rattle.core_interp.proofs.Entries.{remains_on, traps_on}
use Rattle.core_interp.proofs.Stepping.{then_leads}
use Rattle.core_interp.proofs.running.Running.run_in.Goals as goal

pub returns-in_default-2-clause-leads : goal.returns-in_default-2-clause-leads
returns-in_default-2-clause-leads c =
    then_leads (goes c.args.self.now c.args.store.now) c.loop-flow.self c.stretch.new.self c.loop-flow.store c.stretch.new.store c.args.budget.now c.loop-flow.left c.stretch.new.budget c.in_ok-flow.flow c.in_ok-flow.ensures.budget c.loop-flow.invariant.budget c.loop-flow.invariant.leads c.in_ok-flow.ensures.leads

pub returns-in_default-2-clause-entry : goal.returns-in_default-2-clause-entry
returns-in_default-2-clause-entry c = remains_on c.in_ok-flow.flow c.args.self.now c.loop-flow.self c.stretch.new.self c.loop-flow.invariant.entry c.in_ok-flow.ensures.entry

pub returns-in_default-2-clause-traps : goal.returns-in_default-2-clause-traps
returns-in_default-2-clause-traps c =
    traps_on (goes c.args.self.now c.args.store.now) (goes c.loop-flow.self c.loop-flow.store) c.args.budget.now c.loop-flow.left c.stretch.new.budget c.in_ok-flow.flow c.in_ok-flow.ensures.budget c.loop-flow.invariant.budget c.loop-flow.invariant.leads c.in_ok-flow.ensures.traps

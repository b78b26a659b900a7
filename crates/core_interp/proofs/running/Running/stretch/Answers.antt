use Rattle.core_interp.specs.Run.{goes}
use Rattle.core_interp.proofs.Entries.{remains_on, traps_on}
use Rattle.core_interp.proofs.Stepping.{then_leads}
use Rattle.core_interp.proofs.Came.{code_now, spaces_now, same_entries, falls_on}
use Rattle.core_interp.proofs.running.Running.stretch.Goals as goal

pub one-requires-clause-code : goal.one-requires-clause-code
one-requires-clause-code c = code_now c.args.code.now c.args.spaces.now c.args.self.now c.args.store.now c.args.budget.now c.run_straight.new.self c.run_straight.new.store c.run_straight.new.budget c.requires.code c.requires.spaces c.in_ok-run_straight.ensures

pub one-requires-clause-spaces : goal.one-requires-clause-spaces
one-requires-clause-spaces c = spaces_now c.args.code.now c.args.spaces.now c.args.self.now c.args.store.now c.args.budget.now c.run_straight.new.self c.run_straight.new.store c.run_straight.new.budget c.requires.code c.requires.spaces c.in_ok-run_straight.ensures

pub returns-clause-leads : goal.returns-clause-leads
returns-clause-leads c =
    then_leads (goes c.args.self.now c.args.store.now) c.run_straight.new.self c.one.new.self c.run_straight.new.store c.one.new.store c.args.budget.now c.run_straight.new.budget c.one.new.budget c.in_ok-flow.flow c.in_ok-flow.ensures.budget c.in_ok-run_straight.ensures.budget c.in_ok-run_straight.ensures.leads c.in_ok-flow.ensures.leads

pub returns-clause-traps : goal.returns-clause-traps
returns-clause-traps c =
    traps_on (goes c.args.self.now c.args.store.now) (goes c.run_straight.new.self c.run_straight.new.store) c.args.budget.now c.run_straight.new.budget c.one.new.budget c.in_ok-flow.flow c.in_ok-flow.ensures.budget c.in_ok-run_straight.ensures.budget c.in_ok-run_straight.ensures.leads c.in_ok-flow.ensures.traps

pub returns-clause-entry : goal.returns-clause-entry
returns-clause-entry c = remains_on c.in_ok-flow.flow c.args.self.now c.run_straight.new.self c.one.new.self (same_entries c.args.self.now c.run_straight.new.self c.in_ok-run_straight.ensures.controls) c.in_ok-flow.ensures.entry

pub returns-clause-falls : goal.returns-clause-falls
returns-clause-falls c = falls_on c.in_ok-flow.flow c.args.self.now c.run_straight.new.self _ _ _ c.in_ok-run_straight.ensures.controls c.in_ok-run_straight.ensures.budget c.in_ok-flow.ensures.falls

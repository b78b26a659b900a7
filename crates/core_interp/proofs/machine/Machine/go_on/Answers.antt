use Rattle.std.proofs.Common.{◌-◌, subst, refl}
use Rattle.core_interp.specs.declared.control.Flow.{Flow}
use Rattle.core_interp.specs.declared.machine.Machine.{Machine}
use Rattle.core_interp.specs.Session.{goes_on}
use Rattle.core_interp.specs.Run.{RunLeads, Remains, ahead, goes}
use Rattle.core_interp.proofs.Pauses.{runs_ready, asked_entry, asks_no_trap, ended_leads, asking_leads, exhausted_leads}
use Rattle.core_interp.proofs.machine.Machine.go_on.Goals as goal

pub run_on-requires-clause-ready : goal.run_on-requires-clause-ready
run_on-requires-clause-ready c = runs_ready c.args.self.now c.args.store.now c.requires.stage c.requires.can

pub returns-in_ok-pause-in-Asking : goal.returns-in_ok-pause-in-Asking
returns-in_ok-pause-in-Asking c =
    let lead = subst (λ (w : Flow). RunLeads (ahead (goes c.args.self.now.running c.args.store.now) (c.args.budget.now - c.run_on.new.budget)) c.run_on.new.budget w c.run_on.new.self c.run_on.new.store) c.in-Asking.is c.in_ok-flow.ensures.leads in
    record { scene = c.in_ok-flow.ensures.scene; budget = c.in_ok-flow.ensures.budget; entry = asked_entry _ _ _ _ _ c.in_ok-pause-in-Asking.ensures; traps = asks_no_trap (goes_on c.args.self.now c.args.store.now) (c.args.budget.now - c.run_on.new.budget) _ _ _ _ _ c.in_ok-pause-in-Asking.ensures; leads = asking_leads c.args.self.now (let k : Machine = record c.args.self.now { running = c.run_on.new.self } in k) c.ask.new.self c.args.store.now c.run_on.new.store c.args.budget.now c.run_on.new.budget c.in-Asking.callee c.in_ok-pause-in-Asking.pause c.requires.stage c.requires.stage refl c.in_ok-flow.ensures.scene c.requires.can lead (subst (λ (w : Flow). Remains w c.args.self.now.running c.run_on.new.self) c.in-Asking.is c.in_ok-flow.ensures.entry) c.in_ok-pause-in-Asking.ensures }

pub returns-in-Exhausted : goal.returns-in-Exhausted
returns-in-Exhausted c =
    let lead = subst (λ (w : Flow). RunLeads (ahead (goes c.args.self.now.running c.args.store.now) (c.args.budget.now - c.run_on.new.budget)) c.run_on.new.budget w c.run_on.new.self c.run_on.new.store) c.in-Exhausted.is c.in_ok-flow.ensures.leads in
    record { scene = c.in_ok-flow.ensures.scene; budget = c.in_ok-flow.ensures.budget; entry = refl; traps = tt; leads = exhausted_leads c.args.self.now (let k : Machine = record c.args.self.now { running = c.run_on.new.self } in k) c.args.store.now c.run_on.new.store c.args.budget.now c.run_on.new.budget c.requires.stage c.requires.stage refl c.in_ok-flow.ensures.scene c.requires.can lead (subst (λ (w : Flow). Remains w c.args.self.now.running c.run_on.new.self) c.in-Exhausted.is c.in_ok-flow.ensures.entry) }

pub returns-in_ok-values-in-Ended-clause-leads : goal.returns-in_ok-values-in-Ended-clause-leads
returns-in_ok-values-in-Ended-clause-leads c =
    let lead = subst (λ (w : Flow). RunLeads (ahead (goes c.args.self.now.running c.args.store.now) (c.args.budget.now - c.run_on.new.budget)) c.run_on.new.budget w c.run_on.new.self c.run_on.new.store) c.in-Ended.is c.in_ok-flow.ensures.leads in
    let stays = subst (λ (w : Flow). Remains w c.args.self.now.running c.run_on.new.self) c.in-Ended.is c.in_ok-flow.ensures.entry in
    ended_leads c.args.self.now c.args.store.now c.run_on.new.store c.args.budget.now c.run_on.new.budget c.in-Ended.count c.run_on.new.self c.in_ok-values-in-Ended.values (let k : Machine = record c.args.self.now { running = c.run_on.new.self } in k) c.requires.stage refl c.in_ok-flow.ensures.scene c.requires.can lead stays c.in_ok-values-in-Ended.ensures

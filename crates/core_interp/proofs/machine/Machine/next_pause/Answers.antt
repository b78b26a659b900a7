use Rattle.core_interp.proofs.Pauses.{answered_leads}
use Rattle.core_interp.proofs.machine.Machine.next_pause.Goals as goal

pub returns-in_ok-values-in-Answered-clause-leads : goal.returns-in_ok-values-in-Answered-clause-leads
returns-in_ok-values-in-Answered-clause-leads c =
    answered_leads c.args.self.now c.args.store.now c.args.budget.now c.height-count.result c.in_ok-values-in-Answered.values c.in-Answered.is c.requires.can c.height-count.ensures c.in_ok-values-in-Answered.ensures

use Rattle.core_interp.proofs.Entering.{leads_from}
use Rattle.core_interp.proofs.Stepping.{return_can, return_goes}
use Rattle.core_interp.proofs.running.Running.return_from.Goals as goal

pub back-flow-requires : goal.back-flow-requires
back-flow-requires c = return_can c.args.self.now c.args.store.now c.requires

pub returns-clause-leads : goal.returns-clause-leads
returns-clause-leads c = leads_from _ _ c.back-flow.result c.back-flow.new.self c.back-flow.new.store (λ rs n. return_goes c.args.self.now c.args.store.now rs n c.requires) c.back-flow.ensures.leads

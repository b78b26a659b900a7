use Rattle.core_interp.proofs.Entering.{leads_from}
use Rattle.core_interp.proofs.Stepping.{br_can, br_goes}
use Rattle.core_interp.proofs.running.Running.br.Goals as goal

pub branch-flow-requires : goal.branch-flow-requires
branch-flow-requires c = br_can c.args.self.now c.args.store.now c.args.label c.requires

pub returns-clause-leads : goal.returns-clause-leads
returns-clause-leads c = leads_from _ _ c.branch-flow.result c.branch-flow.new.self c.branch-flow.new.store (λ rs n. br_goes c.args.self.now c.args.store.now c.args.label rs n c.requires) c.branch-flow.ensures.leads

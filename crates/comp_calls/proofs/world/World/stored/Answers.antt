use Rattle.comp_calls.specs.Moments.{at}
use Rattle.call_moments.proofs.Serves.{stored_params, stored_result}
use Rattle.comp_calls.proofs.world.World.stored.Goals as goal

pub returns-in-Params-clause-leads : goal.returns-in-Params-clause-leads
returns-in-Params-clause-leads g c = stored_params g.H.Host.step (at g.H.Host.kept c.args.self.now) (at g.H.Host.kept c.serve.new.self) c.args.then c.in-Params.service c.args.flat c.serve.result c.in-Params.is c.serve.ensures.leads

pub returns-in-Result-clause-leads : goal.returns-in-Result-clause-leads
returns-in-Result-clause-leads g c = stored_result g.H.Host.step (at g.H.Host.kept c.args.self.now) (at g.H.Host.kept c.leave.new.self) c.args.then c.in-Result.due c.args.flat c.leave.result c.in-Result.is c.leave.ensures.leads

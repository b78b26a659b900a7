use Rattle.comp_calls.specs.Moments.{at}
use Rattle.call_moments.proofs.Leaving.{outside_leads}
use Rattle.comp_calls.proofs.world.World.go_back.Goals as goal

pub returns-in-Outside-clause-leads : goal.returns-in-Outside-clause-leads
returns-in-Outside-clause-leads g c = λ G waiting w. outside_leads g.H.Host.step G (at g.H.Host.kept c.args.self.now) waiting c.args.back c.in-Outside.value c.in-Outside.is w

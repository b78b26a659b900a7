use Rattle.std.proofs.Common.{ap}
use Rattle.comp_calls.specs.Moments.{at}
use Rattle.call_moments.proofs.Serves.{serve_goes, serve_ends}
use Rattle.comp_calls.proofs.world.World.serve.Goals as goal

pub returns-in_err-begin_code-clause-leads : goal.returns-in_err-begin_code-clause-leads
returns-in_err-begin_code-clause-leads g c =
    serve_ends g.H.Host.step (at g.H.Host.kept c.args.self.now) (at g.H.Host.kept c.begin_code.new.self) c.args.service c.args.flat.now c.deref.result.now.code (ap (λ l. l.code) c.deref.ensures) c.in_err-begin_code.field-0.0 c.from_residual.result c.in_err-begin_code.ensures.leads c.from_residual.ensures.1

pub returns-clause-leads : goal.returns-clause-leads
returns-clause-leads g c = serve_goes g.H.Host.step (at g.H.Host.kept c.args.self.now) (at g.H.Host.kept c.begin_code.new.self) c.args.service c.args.flat.now c.deref.result.now.code (ap (λ l. l.code) c.deref.ensures) c.in_ok-begin_code.ensures.leads

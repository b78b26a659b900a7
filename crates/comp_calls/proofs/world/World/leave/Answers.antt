use Rattle.std.proofs.Common.{ap, sym, ◌∙◌}
use Rattle.comp_calls.specs.Moments.{at}
use Rattle.call_moments.proofs.Serves.{host_leads, quiet_leads, post_leads_on, left_there}
use Rattle.comp_calls.proofs.world.World.leave.Goals as goal

pub returns-in_err-exit-in-None-clause-leads : goal.returns-in_err-exit-in-None-clause-leads
returns-in_err-exit-in-None-clause-leads g c =
    left_there g.H.Host.step (at g.H.Host.kept c.args.self.now) (at g.H.Host.kept c.exit.new.self) c.args.due c.in-Served.served c.args.back c.in_err-exit-in-None.field-0.0 c.from_residual.result c.in-Served.is c.in_err-exit-in-None.ensures.does
    (at g.H.Host.kept c.exit.new.self)

pub returns-in-Host-clause-leads : goal.returns-in-Host-clause-leads
returns-in-Host-clause-leads g c = host_leads g.H.Host.step (at g.H.Host.kept c.args.self.now) (at g.H.Host.kept c.go_back.new.self) c.args.due c.args.back c.go_back.result c.in-Host.is c.go_back.ensures.leads

pub returns-in_ok-exit-in-None-clause-leads : goal.returns-in_ok-exit-in-None-clause-leads
returns-in_ok-exit-in-None-clause-leads g c =
    quiet_leads g.H.Host.step (at g.H.Host.kept c.args.self.now) (at g.H.Host.kept c.exit.new.self) (at g.H.Host.kept c.go_back-in-None.new.self) c.args.due c.in-Served.served c.args.back c.go_back-in-None.result c.in-Served.is
    (ap (λ l. l.post) (sym c.deref.ensures) ∙ c.in-None.is) c.in_ok-exit-in-None.ensures.does c.go_back-in-None.ensures.leads

pub returns-in-Some-clause-leads : goal.returns-in-Some-clause-leads
returns-in-Some-clause-leads g c =
    post_leads_on g.H.Host.step (at g.H.Host.kept c.args.self.now) (at g.H.Host.kept c.post_return.new.self) c.args.due c.in-Served.served c.in-Some.post c.args.back c.post_return.result c.in-Served.is (ap (λ l. l.post) (sym c.deref.ensures) ∙ c.in-Some.is)
    c.post_return.ensures.leads

use Rattle.std.proofs.Common.{sym, ap}
use Rattle.comp_calls.specs.Moments.{at}
use Rattle.call_moments.proofs.Dropping.{loses}
use Rattle.comp_calls.proofs.world.World.drop_at_host.Goals as goal

pub returns-clause-leads : goal.returns-clause-leads
returns-clause-leads g c =
    let w = c.args.self.now in
    let old = at g.H.Host.kept w in
    loses g.H.Host.step old c.args.resource c.args.rep (at g.H.Host.kept c.resume-2.new.self) c.resume-2.result (record old { kept = g.H.Host.kept c.drop_handle.new.self }) c.in-Some.name.now (sym c.in-Some.ensures.value)
    (ap (λ (k : _). record old { kept = k }) c.in_ok-drop_handle.ensures) _ c.empty.ensures c.resume-2.ensures.leads

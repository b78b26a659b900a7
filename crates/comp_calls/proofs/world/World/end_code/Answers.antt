use Rattle.std.proofs.Common.{Err, refl}
use Rattle.call_moments.specs.declared.end.Stop.TheVariants as stops
use Rattle.comp_calls.specs.Moments.{at}
use Rattle.comp_calls.proofs.Popped.{none_left}
use Rattle.call_moments.proofs.Ending.{start_ends, served_ends, granted_ends, returned_ends, destroyed_ends, no_frame}
use Rattle.comp_calls.proofs.world.World.end_code.Goals as goal

pub returns-in_default-clause-leads : goal.returns-in_default-clause-leads
returns-in_default-clause-leads g c =
    let old = at g.H.Host.kept c.args.self.now in
    no_frame g.H.Host.step old c.args.results (none_left c.args.self.now.frames c.in_default.ensures.cases.0) (record old { frames = c.pop.new.self.items }) (Err stops.Trapped)

pub returns-in-Starts-clause-leads : goal.returns-in-Starts-clause-leads
returns-in-Starts-clause-leads g c =
    let old = at g.H.Host.kept c.args.self.now in
    start_ends g.H.Host.step old (record old { frames = c.pop.new.self.items }) c.args.results c.in-Some.frame c.pop.new.self.items c.in-Some.ensures.items refl c.in-Starts.is

pub returns-in-Serves-clause-leads : goal.returns-in-Serves-clause-leads
returns-in-Serves-clause-leads g c =
    let old = at g.H.Host.kept c.args.self.now in
    served_ends g.H.Host.step old (record old { frames = c.pop.new.self.items }) c.args.results c.in-Some.frame c.pop.new.self.items c.in-Some.ensures.items refl c.in-Serves.service c.in-Serves.is (at g.H.Host.kept c.served.new.self)
    c.served.result c.served.ensures.leads

pub returns-in-Grants-clause-leads : goal.returns-in-Grants-clause-leads
returns-in-Grants-clause-leads g c =
    let old = at g.H.Host.kept c.args.self.now in
    granted_ends g.H.Host.step old (record old { frames = c.pop.new.self.items }) c.args.results c.in-Some.frame c.pop.new.self.items c.in-Some.ensures.items refl c.in-Grants.storing c.in-Grants.is (at g.H.Host.kept c.granted.new.self)
    c.granted.result c.granted.ensures.leads

pub returns-in-Returns-clause-leads : goal.returns-in-Returns-clause-leads
returns-in-Returns-clause-leads g c =
    let old = at g.H.Host.kept c.args.self.now in
    returned_ends g.H.Host.step old (record old { frames = c.pop.new.self.items }) c.args.results c.in-Some.frame c.pop.new.self.items c.in-Some.ensures.items refl c.in-Returns.back c.in-Returns.is (at g.H.Host.kept c.returned.new.self)
    c.returned.result c.returned.ensures.leads

pub returns-in-Destroys-clause-leads : goal.returns-in-Destroys-clause-leads
returns-in-Destroys-clause-leads g c =
    let old = at g.H.Host.kept c.args.self.now in
    destroyed_ends g.H.Host.step old (record old { frames = c.pop.new.self.items }) c.args.results c.in-Some.frame c.pop.new.self.items c.in-Some.ensures.items refl c.in-Destroys.visit c.in-Destroys.is (at g.H.Host.kept c.destroyed.new.self)
    c.destroyed.result c.destroyed.ensures.leads

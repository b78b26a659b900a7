use Rattle.std.proofs.Common.{ap}
use Rattle.comp_calls.specs.Moments.{at}
use Rattle.call_moments.proofs.AskingLaws.{asking_none, asking_fails, asking_goes, asking_stops}
use Rattle.comp_calls.proofs.world.World.ask_for.Goals as goal

pub returns-in_default-clause-leads : goal.returns-in_default-clause-leads
returns-in_default-clause-leads g c = asking_none g.H.Host.step c.args.storing c.args.align c.args.len (at g.H.Host.kept c.args.self.now) c.in_default.is

pub returns-in_err-depth-clause-leads : goal.returns-in_err-depth-clause-leads
returns-in_err-depth-clause-leads g c =
    let new = at g.H.Host.kept c.begin_call.new.self in
    asking_fails g.H.Host.step c.args.storing c.args.align c.args.len (at g.H.Host.kept c.args.self.now) new new c.in-Some.realloc c.in-Some.is c.from_residual.result c.in_err-depth.field-0.0 c.in_err-depth.ensures.begins
    (ap g.H.Host.kept c.in_err-depth.ensures.host) c.from_residual.ensures.1

pub returns-in_err-begin_code-clause-leads : goal.returns-in_err-begin_code-clause-leads
returns-in_err-begin_code-clause-leads g c =
    asking_stops g.H.Host.step c.args.storing c.args.align c.args.len (at g.H.Host.kept c.args.self.now) (at g.H.Host.kept c.begin_call.new.self) (at g.H.Host.kept c.begin_code.new.self) c.in-Some.realloc c.in-Some.is c.in_ok-depth.depth
    c.in_ok-depth.ensures.begins (ap (at g.H.Host.kept) c.in_ok-depth.ensures.same) c.in_ok-args.args c.in_ok-args.ensures c.in_err-begin_code.field-0.0 c.from_residual-in_err-begin_code.result c.in_err-begin_code.ensures.leads
    c.from_residual-in_err-begin_code.ensures.1

pub returns-clause-leads : goal.returns-clause-leads
returns-clause-leads g c =
    asking_goes g.H.Host.step c.args.storing c.args.align c.args.len (at g.H.Host.kept c.args.self.now) (at g.H.Host.kept c.begin_call.new.self) (at g.H.Host.kept c.begin_code.new.self) c.in-Some.realloc c.in-Some.is c.in_ok-depth.depth
    c.in_ok-depth.ensures.begins (ap (at g.H.Host.kept) c.in_ok-depth.ensures.same) c.in_ok-args.args c.in_ok-args.ensures c.in_ok-begin_code.ensures.leads

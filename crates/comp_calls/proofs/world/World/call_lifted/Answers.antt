use Rattle.std.proofs.Common.{ap}
use Rattle.wit_types.specs.PlainValue.{plain_value}
use Rattle.comp_calls.specs.Moments.{at}
use Rattle.call_moments.proofs.Calling.{call_fails, call_refused, call_leads}
use Rattle.comp_calls.proofs.world.World.call_lifted.Goals as goal

pub returns-in_err-depth-clause-leads : goal.returns-in_err-depth-clause-leads
returns-in_err-depth-clause-leads g c =
    call_fails g.H.Host.step (at g.H.Host.kept c.args.self.now) (at g.H.Host.kept c.begin_call.new.self) c.args.number c.args.lifting c.args.caller c.args.depth (plain_value c.args.value) c.from_residual.result c.in_err-depth.field-0.0
    c.in_err-depth.ensures.begins (ap g.H.Host.kept c.in_err-depth.ensures.host) c.from_residual.ensures.1

pub returns-in_err-enter-clause-leads : goal.returns-in_err-enter-clause-leads
returns-in_err-enter-clause-leads g c =
    call_refused g.H.Host.step (at g.H.Host.kept c.args.self.now) (at g.H.Host.kept c.enter.new.self) c.args.number c.args.lifting c.args.caller c.args.depth (plain_value c.args.value) c.from_residual-in_err-enter.result (at g.H.Host.kept c.begin_call.new.self)
    c.in_ok-depth.depth c.in_ok-depth.ensures.begins (ap (at g.H.Host.kept) c.in_ok-depth.ensures.same) c.in_err-enter.field-0.0 c.in_err-enter.ensures.does c.from_residual-in_err-enter.ensures.1

pub returns-clause-leads : goal.returns-clause-leads
returns-clause-leads g c =
    call_leads g.H.Host.step (at g.H.Host.kept c.args.self.now) (at g.H.Host.kept c.lower_params.new.self) c.args.number c.args.lifting c.args.caller c.args.depth (plain_value c.args.value) c.lower_params.result (at g.H.Host.kept c.begin_call.new.self)
    c.in_ok-depth.depth c.in_ok-depth.ensures.begins (ap (at g.H.Host.kept) c.in_ok-depth.ensures.same) (at g.H.Host.kept c.enter.new.self) c.in_ok-enter.ensures.does c.lower_params.ensures.leads

use Rattle.std.proofs.Common.{ap}
use Rattle.comp_link.specs.Planned.{args_named}
use Rattle.comp_calls.specs.Moments.{at}
use Rattle.comp_interp.proofs.Instantiated.{step_ends_component, enters}
use Rattle.comp_interp.proofs.assembly.Assembly.make_component.Goals as goal

pub returns-in_err-take_step-clause-begins : goal.returns-in_err-take_step-clause-begins
returns-in_err-take_step-clause-begins g c =
    let old = at g.H.Host.kept c.args.self.now.world in
    step_ends_component g.H.Host.step old (at g.H.Host.kept c.take_step.new.self) c.in_err-take_step.field-0.0 c.in_err-take_step.ensures.budget (ap g.H.Host.kept c.take_step.ensures.host) (args_named c.args.args.now) c.args.self.now.made.items _ c.args.level.now.making
    c.from_residual-in_err-take_step.result c.from_residual-in_err-take_step.ensures.1

pub returns-clause-begins : goal.returns-clause-begins
returns-clause-begins g c =
    let old = at g.H.Host.kept c.args.self.now.world in
    enters g.H.Host.step old (at g.H.Host.kept c.take_step.new.self) (ap (at g.H.Host.kept) c.in_ok-take_step.ensures.same) c.in_ok-take_step.ensures.budget (args_named c.args.args.now) c.args.self.now.made.items c.begin.new.self.made.items c.args.level.now.making c.in_ok-given.given
    c.begin.result (at g.H.Host.kept c.begin.new.self.world) c.in_ok-given.ensures c.begin.ensures.enters

use Rattle.std.proofs.Common.{Ok, Err}
use Rattle.comp_calls.specs.Moments.{at}
use Rattle.call_moments.specs.Functions.{HasServed}
use Rattle.call_moments.proofs.Results.{served_fails, served_outside, served_inside, served_nowhere}
use Rattle.comp_calls.proofs.Begun.{ends_so, lifted_as}
use Rattle.comp_calls.proofs.world.World.served.Goals as goal

pub returns-in_err-value-clause-leads : goal.returns-in_err-value-clause-leads
returns-in_err-value-clause-leads g c =
    let old = at g.H.Host.kept c.args.self.now in
    let new = at g.H.Host.kept c.lift_result.new.self in
    ends_so (λ r. HasServed g.H.Host.step old c.args.service c.args.results r new) c.in_err-value.field-0.0 c.from_residual.result c.from_residual.ensures.1
    (served_fails g.H.Host.step c.args.service old new c.args.results c.in_err-value.field-0.0 (lifted_as g.H.Host.step old new c.args.service.instance c.args.results (Err c.in_err-value.field-0.0) c.deref.result.now c.args.service.lifting.value c.deref.ensures c.in_err-value.ensures.lifts))

pub returns-in-Outside-clause-leads : goal.returns-in-Outside-clause-leads
returns-in-Outside-clause-leads g c =
    let old = at g.H.Host.kept c.args.self.now in
    let mid = at g.H.Host.kept c.lift_result.new.self in
    served_outside g.H.Host.step c.args.service old mid c.args.results c.in_ok-value.value (lifted_as g.H.Host.step old mid c.args.service.instance c.args.results (Ok c.in_ok-value.value) c.deref.result.now c.args.service.lifting.value c.deref.ensures c.in_ok-value.ensures.lifts)
    (at g.H.Host.kept c.leave.new.self) c.leave.result c.in-Outside.is c.leave.ensures.leads

pub returns-in_err-below-in-Inside-clause-leads : goal.returns-in_err-below-in-Inside-clause-leads
returns-in_err-below-in-Inside-clause-leads g c =
    let old = at g.H.Host.kept c.args.self.now in
    let mid = at g.H.Host.kept c.lift_result.new.self in
    served_nowhere g.H.Host.step c.args.service old mid c.args.results c.in_ok-value.value (lifted_as g.H.Host.step old mid c.args.service.instance c.args.results (Ok c.in_ok-value.value) c.deref.result.now c.args.service.lifting.value c.deref.ensures c.in_ok-value.ensures.lifts) (at g.H.Host.kept c.lift_result.new.self) c.from_residual-in_err-below-in-Inside.result c.in-Inside.call
    c.in_err-below-in-Inside.field-0.0 c.in-Inside.is c.in_err-below-in-Inside.ensures

pub returns-in_ok-below-in-Inside-clause-leads : goal.returns-in_ok-below-in-Inside-clause-leads
returns-in_ok-below-in-Inside-clause-leads g c =
    let old = at g.H.Host.kept c.args.self.now in
    let mid = at g.H.Host.kept c.lift_result.new.self in
    served_inside g.H.Host.step c.args.service old mid c.args.results c.in_ok-value.value (lifted_as g.H.Host.step old mid c.args.service.instance c.args.results (Ok c.in_ok-value.value) c.deref.result.now c.args.service.lifting.value c.deref.ensures c.in_ok-value.ensures.lifts)
    (at g.H.Host.kept c.lower_result.new.self) c.lower_result.result c.in-Inside.call c.in_ok-below-in-Inside.below c.in-Inside.is c.in_ok-below-in-Inside.ensures c.lower_result.ensures.leads

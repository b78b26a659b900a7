use Rattle.std.proofs.Common.{◌≡◌, length, Some, Err, refl}
use Rattle.std.specs.Prelude.{slice_get}
use Rattle.std.proofs.lemmas.Option.{slice_get_read}
use Rattle.wit_types.specs.PlainValue.{plain_value}
use Rattle.call_moments.specs.declared.end.Stop.TheVariants as stops
use Rattle.comp_calls.specs.Moments.{at}
use Rattle.comp_calls.proofs.Begun.{params_stop, params_go}
use Rattle.call_moments.proofs.Following.{with_instance}
use Rattle.call_moments.proofs.Lowered.{params_there}
use Rattle.comp_calls.proofs.world.World.lower_params.Goals as goal

pub returns-in_default-clause-leads : goal.returns-in_default-clause-leads
returns-in_default-clause-leads g c = params_there g.H.Host.step c.args.service (plain_value c.args.value) (at g.H.Host.kept c.args.self.now) c.in_default.ensures.item.3 (at g.H.Host.kept c.args.self.now) (Err stops.Trapped)

pub returns-in_err-plan-clause-leads : goal.returns-in_err-plan-clause-leads
returns-in_err-plan-clause-leads g c =
    let old = at g.H.Host.kept c.args.self.now in
    let k = c.args.service.instance in
    let i = c.in-Some.instance.now in
    let found : slice_get old.instances k ≡ Some i = slice_get_read old.instances (length old.instances) k i refl c.in-Some.ensures.item.3.0 c.in-Some.ensures.value in
    params_stop g.H.Host.step c.args.service (plain_value c.args.value) old i c.begin_params.new.callee found c.deref.result.now c.deref.ensures c.passed-passed.result.now c.passed-passed.ensures c.in_err-plan.field-0.0 c.from_residual.result (with_instance old k c.begin_params.new.callee) refl c.in_err-plan.ensures.lowers
    c.from_residual.ensures.1

pub returns-clause-leads : goal.returns-clause-leads
returns-clause-leads g c =
    let old = at g.H.Host.kept c.args.self.now in
    let k = c.args.service.instance in
    let i = c.in-Some.instance.now in
    let found : slice_get old.instances k ≡ Some i = slice_get_read old.instances (length old.instances) k i refl c.in-Some.ensures.item.3.0 c.in-Some.ensures.value in
    params_go g.H.Host.step c.args.service (plain_value c.args.value) old i c.begin_params.new.callee found c.deref.result.now c.deref.ensures c.passed-passed.result.now c.passed-passed.ensures c.deref-2.result.now c.deref-2.ensures c.in_ok-plan.ensures.code c.in_ok-plan.plan
    c.in_ok-plan.ensures.lowers c.in_ok-plan.ensures.waits _ (at g.H.Host.kept c.store.new.self) c.store.result c.store.ensures.leads

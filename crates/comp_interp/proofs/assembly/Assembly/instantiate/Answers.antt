use Rattle.std.proofs.Common.{◌≡◌, ap, subst, refl, ◌≤◌, length, Some, slice_get}
use Rattle.std.proofs.lemmas.Option.{slice_get_read}
use Rattle.comp_link.specs.Linking.{and_core_instance}
use Rattle.instance_making.specs.Shown.{Stands}
use Rattle.comp_calls.specs.Moments.{at}
use Rattle.comp_interp.proofs.Failing.{instance_there}
use Rattle.comp_interp.proofs.Instantiated.{step_ends_module, instantiates, fails}
use Rattle.comp_interp.proofs.assembly.Assembly.instantiate.Goals as goal

pub returns-in_err-take_step : goal.returns-in_err-take_step
returns-in_err-take_step g c =
    let old = at g.H.Host.kept c.args.self.now.world in
    step_ends_module g.H.Host.step old (at g.H.Host.kept c.take_step.new.self) c.in_err-take_step.field-0.0 c.in_err-take_step.ensures.budget (ap g.H.Host.kept c.take_step.ensures.host) c.args.core_module.now c.args.args.now c.args.self.now.made.items _ c.args.making.now _
    c.from_residual-in_err-take_step.result c.from_residual-in_err-take_step.ensures.1

pub returns-in_default : goal.returns-in_default
returns-in_default g c = λ before gm G ga idle fits.
    let old = at g.H.Host.kept c.args.self.now.world in
    absurd (instance_there before _ old c.args.making.now gm ga (subst (λ n. n ≤ c.args.making.now.instance) (ap (λ w. length w.instances.items) c.in_ok-take_step.ensures.same) c.in_default.ensures.item.3))

pub returns-in_err-made : goal.returns-in_err-made
returns-in_err-made g c =
    let old = at g.H.Host.kept c.args.self.now.world in
    let mid = at g.H.Host.kept c.take_step.new.self in
    let l = c.args.making.now in
    let i = c.in-Some.instance.now in
    let found : slice_get mid.instances l.instance ≡ Some i = slice_get_read mid.instances (length mid.instances) l.instance i refl c.in-Some.ensures.item.3.0 c.in-Some.ensures.value in
    fails g.H.Host.step old mid (ap (at g.H.Host.kept) c.in_ok-take_step.ensures.same) c.in_ok-take_step.ensures.budget c.args.core_module.now c.args.args.now c.args.self.now.made.items l c.in_ok-externs.externs c.in_ok-externs.ensures i found c.instantiate.new.self c.in_err-made.field-0.0
    c.in_err-made.ensures c.from_residual-in_err-made.result c.from_residual-in_err-made.ensures.1 _ (ap g.H.Host.kept c.take_step.ensures.host) _ _

pub returns : goal.returns
returns g c =
    let old = at g.H.Host.kept c.args.self.now.world in
    let mid = at g.H.Host.kept c.take_step.new.self in
    let l = c.args.making.now in
    let i = c.in-Some.instance.now in
    let found : slice_get mid.instances l.instance ≡ Some i = slice_get_read mid.instances (length mid.instances) l.instance i refl c.in-Some.ensures.item.3.0 c.in-Some.ensures.value in
    instantiates g.H.Host.step old mid (ap (at g.H.Host.kept) c.in_ok-take_step.ensures.same) c.in_ok-take_step.ensures.budget c.args.core_module.now c.args.args.now c.args.self.now.made.items l c.in_ok-externs.externs c.in_ok-externs.ensures i found c.instantiate.new.self
    c.in_ok-made.made c.in_ok-made.ensures c.keep_core_items.new.self
    (λ before gm stands. subst (λ xs. Stands before c.keep_core_items.new.self (and_core_instance gm xs)) c.as_slice.ensures (c.in_ok-keep_core_items.ensures before gm stands))

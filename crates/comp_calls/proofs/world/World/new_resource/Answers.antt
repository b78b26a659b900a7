use Rattle.std.proofs.Common.{◌≡◌, length, Some, refl, sym, ◌∙◌}
use Rattle.std.specs.Prelude.{slice_get}
use Rattle.std.proofs.lemmas.Option.{slice_get_read}
use Rattle.instance_state.specs.Shown.{config_of}
use Rattle.comp_calls.specs.Moments.{at}
use Rattle.comp_calls.proofs.Lifting.{makes_stops}
use Rattle.call_moments.proofs.Following.{with_instance}
use Rattle.call_moments.proofs.Dropping.{makes_leads}
use Rattle.comp_calls.proofs.world.World.new_resource.Goals as goal

pub returns-in_err-index-clause-leads : goal.returns-in_err-index-clause-leads
returns-in_err-index-clause-leads g c = λ e.
    let old = at g.H.Host.kept c.args.self.now in
    let i = c.in-Some.instance.now in
    let found : slice_get old.instances c.args.number ≡ Some i = slice_get_read old.instances (length old.instances) c.args.number i refl c.in-Some.ensures.item.3.0 c.in-Some.ensures.value in
    makes_stops g.H.Host.step old c.args.number c.args.args.now c.in_ok-rep.rep (sym c.only_word.ensures ∙ c.in_ok-rep.ensures.ok_part) i found c.args.resource e c.owns-owns.result c.owns-owns.ensures c.in_err-index.field-0.0 (config_of c.make_resource.new.self)
    (with_instance old c.args.number c.make_resource.new.self) c.from_residual-in_err-index.result c.in_err-index.ensures.done refl c.from_residual-in_err-index.ensures.1

pub returns-clause-leads : goal.returns-clause-leads
returns-clause-leads g c = λ e.
    let old = at g.H.Host.kept c.args.self.now in
    let i = c.in-Some.instance.now in
    let found : slice_get old.instances c.args.number ≡ Some i = slice_get_read old.instances (length old.instances) c.args.number i refl c.in-Some.ensures.item.3.0 c.in-Some.ensures.value in
    makes_leads g.H.Host.step old c.args.number c.args.args.now c.in_ok-rep.rep (sym c.only_word.ensures ∙ c.in_ok-rep.ensures.ok_part) i found c.args.resource e c.owns-owns.result c.owns-owns.ensures c.make_resource.new.self c.in_ok-index.index _
    (at g.H.Host.kept c.resume-2.new.self) c.resume-2.result c.in_ok-index.ensures.done c.in_ok-index.ensures.code c.in_ok-one_word.ensures c.resume-2.ensures.leads

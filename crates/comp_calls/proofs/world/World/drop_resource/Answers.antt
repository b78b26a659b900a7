use Rattle.std.proofs.Common.{◌≡◌, ◌∙◌, length, Some, Err, refl, sym, ap}
use Rattle.std.specs.Prelude.{slice_get}
use Rattle.std.proofs.lemmas.Option.{slice_get_read}
use Rattle.comp_worlds.specs.Groups.{ResourceDrop}
use Rattle.comp_worlds.specs.Locals.{gives_in}
use Rattle.instance_state.specs.Shown.{config_of}
use Rattle.call_moments.specs.declared.end.Stop.TheVariants as stops
use Rattle.call_moments.specs.Shown.{depth_of}
use Rattle.comp_calls.specs.Moments.{at}
use Rattle.call_moments.proofs.Following.{with_instance}
use Rattle.call_moments.proofs.Dropping.{drops_none, performs_there, drops_fails, drops_borrowed, drops_host, drops_owner}
use Rattle.comp_calls.proofs.world.World.drop_resource.Goals as goal

pub returns-in_err-index-clause-leads : goal.returns-in_err-index-clause-leads
returns-in_err-index-clause-leads g c =
    let old = at g.H.Host.kept c.args.self.now in
    drops_none g.H.Host.step old c.args.number c.args.args.now c.args.resource (depth_of c.args.depth) (sym c.only_word.ensures ∙ c.in_err-index.ensures.ok_part) c.from_residual.result old

pub returns-in_default-clause-leads : goal.returns-in_default-clause-leads
returns-in_default-clause-leads g c =
    let old = at g.H.Host.kept c.args.self.now in
    performs_there g.H.Host.step old c.args.number c.args.args.now (ResourceDrop c.args.resource) (depth_of c.args.depth) c.in_default.ensures.item.3 (Err stops.Trapped) old

pub returns-in_err-rep-clause-leads : goal.returns-in_err-rep-clause-leads
returns-in_err-rep-clause-leads g c =
    let old = at g.H.Host.kept c.args.self.now in
    let i = c.in-Some.instance.now in
    let found : slice_get old.instances c.args.number ≡ Some i = slice_get_read old.instances (length old.instances) c.args.number i refl c.in-Some.ensures.item.3.0 c.in-Some.ensures.value in
    drops_fails g.H.Host.step old c.args.number c.args.args.now c.in_ok-index.index (sym c.only_word.ensures ∙ c.in_ok-index.ensures.ok_part) i found c.args.resource (depth_of c.args.depth)
    (with_instance old c.args.number c.remove.new.self) c.from_residual-in_err-rep.result c.in_err-rep.ensures.done refl c.from_residual-in_err-rep.ensures.1

pub returns-in_default-2-clause-leads : goal.returns-in_default-2-clause-leads
returns-in_default-2-clause-leads g c =
    let old = at g.H.Host.kept c.args.self.now in
    let i = c.in-Some.instance.now in
    let found : slice_get old.instances c.args.number ≡ Some i = slice_get_read old.instances (length old.instances) c.args.number i refl c.in-Some.ensures.item.3.0 c.in-Some.ensures.value in
    drops_borrowed g.H.Host.step old c.args.number c.args.args.now c.in_ok-index.index (sym c.only_word.ensures ∙ c.in_ok-index.ensures.ok_part) i found c.args.resource (depth_of c.args.depth) c.remove.new.self c.in_ok-rep.field-0
    c.in_ok-rep.ensures.done c.in_ok-rep.ensures.code c.in_default-2.is _ c.empty.ensures (at g.H.Host.kept c.resume-in_default-2.new.self) c.resume-in_default-2.result c.resume-in_default-2.ensures.leads

pub returns-in-None-clause-leads : goal.returns-in-None-clause-leads
returns-in-None-clause-leads g c =
    let old = at g.H.Host.kept c.args.self.now in
    let i = c.in-Some.instance.now in
    let found : slice_get old.instances c.args.number ≡ Some i = slice_get_read old.instances (length old.instances) c.args.number i refl c.in-Some.ensures.item.3.0 c.in-Some.ensures.value in
    drops_host g.H.Host.step old c.args.number c.args.args.now c.in_ok-index.index (sym c.only_word.ensures ∙ c.in_ok-index.ensures.ok_part) i found c.args.resource (depth_of c.args.depth) c.remove.new.self c.in_ok-rep.field-0
    c.in_ok-rep.ensures.done c.in_ok-rep.ensures.code c.in-Some-2.rep c.in-Some-2.is c.in-None.ensures (at g.H.Host.kept c.drop_at_host.new.self) c.drop_at_host.result c.drop_at_host.ensures.leads

pub returns-in-Some-owner-clause-leads : goal.returns-in-Some-owner-clause-leads
returns-in-Some-owner-clause-leads g c =
    let old = at g.H.Host.kept c.args.self.now in
    let i = c.in-Some.instance.now in
    let j = c.remove.new.self in
    let found : slice_get old.instances c.args.number ≡ Some i = slice_get_read old.instances (length old.instances) c.args.number i refl c.in-Some.ensures.item.3.0 c.in-Some.ensures.value in
    drops_owner g.H.Host.step old c.args.number c.args.args.now c.in_ok-index.index (sym c.only_word.ensures ∙ c.in_ok-index.ensures.ok_part) i found c.args.resource (depth_of c.args.depth) j c.in-Some-2.rep
    (c.in_ok-rep.ensures.done ∙ ap (λ (o : _). Some (gives_in o (config_of j))) c.in-Some-2.is) c.in_ok-rep.ensures.code c.args.depth refl c.in-Some-owner.owner c.in-Some-owner.ensures (at g.H.Host.kept c.destroy.new.self)
    c.destroy.result c.destroy.ensures.leads

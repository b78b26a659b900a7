use Rattle.std.proofs.Common.{◌≡◌, length, Some, refl}
use Rattle.std.specs.Prelude.{slice_get}
use Rattle.std.proofs.lemmas.Option.{slice_get_read}
use Rattle.comp_worlds.specs.Acts.{◌>>◌}
use Rattle.call_moments.specs.Stops.{stop_of_store}
use Rattle.call_moments.specs.Shown.{depth_of, purpose_of}
use Rattle.call_moments.specs.Leads.{so_far}
use Rattle.comp_calls.specs.Moments.{at}
use Rattle.call_moments.specs.Functions.{run, behind}
use Rattle.call_moments.proofs.Following.{with_instance}
use Rattle.call_moments.proofs.Resuming.{begin_leads, begin_fails, fails_on}
use Rattle.comp_calls.proofs.world.World.begin_code.Goals as goal

pub returns-in_err-begin-clause-leads : goal.returns-in_err-begin-clause-leads
returns-in_err-begin-clause-leads g c = λ G waiting w can.
    let is = c.args.self.now.instances.items in
    let i = c.in-Some.instance.now in
    let found : slice_get is c.args.number ≡ Some i = slice_get_read is (length is) c.args.number i refl c.in-Some.ensures.item.3.0 c.in-Some.ensures.value in
    let old = at g.H.Host.kept c.args.self.now in
    let whole = so_far old (run g.H.Host.step G (depth_of c.args.depth) c.args.number c.args.code c.args.args.now >> behind g.H.Host.step G waiting c.args.number (purpose_of c.args.purpose)) in
    let new = with_instance old c.args.number (record { code = c.begin.new.self; handles = i.handles; entered = i.entered; closed = i.closed }) in
    let fault = c.in_err-begin.field-0.0 in
    fails_on g.H.Host.step G whole old new fault c.from_residual.result c.from_residual.ensures.1
    (begin_fails g.H.Host.step G old c.args.number i i found c.args.purpose c.args.code c.args.args.now waiting w can whole new c.args.depth.calls c.begin.new.self fault (stop_of_store fault) c.in_err-begin.ensures refl)

pub returns-clause-leads : goal.returns-clause-leads
returns-clause-leads g c = λ G waiting w can.
    let is = c.args.self.now.instances.items in
    let i = c.in-Some.instance.now in
    let found : slice_get is c.args.number ≡ Some i = slice_get_read is (length is) c.args.number i refl c.in-Some.ensures.item.3.0 c.in-Some.ensures.value in
    begin_leads g.H.Host.step G (at g.H.Host.kept c.args.self.now) c.args.number i (record { code = c.begin.new.self; handles = i.handles; entered = i.entered; closed = i.closed }) found c.args.purpose c.args.code c.args.args.now waiting w can refl c.args.depth.calls
    c.in_ok-begin.ensures c.push.new.self.items c.in_ok-push.ensures.items

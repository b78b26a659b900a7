use Rattle.std.proofs.Common.{◌≡◌, ◌≤◌, ap, length, Some, Ok, refl, subst}
use Rattle.std.specs.Prelude.{slice_get}
use Rattle.std.proofs.lemmas.Option.{slice_get_read}
use Rattle.call_moments.specs.declared.frame.Flow.TheVariants as flows
use Rattle.comp_calls.specs.Moments.{at}
use Rattle.call_moments.proofs.Following.{with_instance}
use Rattle.call_moments.proofs.Serves.{ends_as, post_leads, post_fails, post_there}
use Rattle.comp_calls.proofs.world.World.post_return.Goals as goal

pub returns-in_err-depth-clause-leads : goal.returns-in_err-depth-clause-leads
returns-in_err-depth-clause-leads g c =
    post_fails g.H.Host.step (at g.H.Host.kept c.args.self.now) (at g.H.Host.kept c.begin_call.new.self) c.args.served c.args.post c.args.back c.in_err-depth.field-0.0 c.from_residual.result c.in_err-depth.ensures.begins (ap g.H.Host.kept c.in_err-depth.ensures.host) c.from_residual.ensures.1

pub returns-in_default-clause-leads : goal.returns-in_default-clause-leads
returns-in_default-clause-leads g c = λ G waiting w takes.
    absurd (post_there g.H.Host.step (at g.H.Host.kept c.args.self.now) c.args.served.instance c.args.post (length c.args.served.results) takes
    (subst (λ (x : _). length x.instances.items ≤ c.args.served.instance) c.in_ok-depth.ensures.same c.in_default.ensures.item.3))

pub returns-in_err-begin_code-clause-leads : goal.returns-in_err-begin_code-clause-leads
returns-in_err-begin_code-clause-leads g c =
    let old = at g.H.Host.kept c.args.self.now in
    let mid1 = at g.H.Host.kept c.begin_call.new.self in
    let is = c.begin_call.new.self.instances.items in
    let i = c.in-Some.instance.now in
    let k = c.args.served.instance in
    let found : slice_get is k ≡ Some i = slice_get_read is (length is) k i refl c.in-Some.ensures.item.3.0 c.in-Some.ensures.value in
    let mid2 = with_instance mid1 k c.close.new.self in
    let new = at g.H.Host.kept c.begin_code.new.self in
    post_leads g.H.Host.step old mid1 mid2 new c.args.served c.args.post c.args.back c.in_ok-depth.depth c.from_residual-in_err-begin_code.result c.in_ok-depth.ensures.begins (ap (at g.H.Host.kept) c.in_ok-depth.ensures.same)
    (record { before = i; after = c.close.new.self; found = found; goes = c.close.ensures.done; code = c.close.ensures.code; is = refl })
    (λ G waiting w can. ends_as g.H.Host.step mid2 new G _ c.in_err-begin_code.field-0.0 c.from_residual-in_err-begin_code.result c.from_residual-in_err-begin_code.ensures.1 (c.in_err-begin_code.ensures.leads G waiting w can))

pub returns-clause-leads : goal.returns-clause-leads
returns-clause-leads g c =
    let old = at g.H.Host.kept c.args.self.now in
    let mid1 = at g.H.Host.kept c.begin_call.new.self in
    let is = c.begin_call.new.self.instances.items in
    let i = c.in-Some.instance.now in
    let k = c.args.served.instance in
    let found : slice_get is k ≡ Some i = slice_get_read is (length is) k i refl c.in-Some.ensures.item.3.0 c.in-Some.ensures.value in
    post_leads g.H.Host.step old mid1 (with_instance mid1 k c.close.new.self) (at g.H.Host.kept c.begin_code.new.self) c.args.served c.args.post c.args.back c.in_ok-depth.depth (Ok flows.Goes) c.in_ok-depth.ensures.begins
    (ap (at g.H.Host.kept) c.in_ok-depth.ensures.same) (record { before = i; after = c.close.new.self; found = found; goes = c.close.ensures.done; code = c.close.ensures.code; is = refl }) c.in_ok-begin_code.ensures.leads

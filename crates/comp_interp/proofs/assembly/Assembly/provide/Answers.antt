use Rattle.std.proofs.Common.{◌≡◌, length, refl, Some, slice_get}
use Rattle.std.proofs.lemmas.Option.{slice_get_read}
use Rattle.instance_state.specs.Targets.{func_of}
use Rattle.call_moments.specs.Stops.{stop_of_store}
use Rattle.comp_link.specs.Linking.{with_canon}
use Rattle.comp_calls.specs.Moments.{at}
use Rattle.comp_interp.proofs.Gathering.{provided_so}
use Rattle.comp_interp.proofs.Failing.{instance_there, row_there, came_failed, provides_if_still}
use Rattle.comp_interp.proofs.assembly.Assembly.provide.Goals as goal

pub returns-in_default : goal.returns-in_default
returns-in_default g c = λ before gm stages ga idle e. absurd (instance_there before _ (at g.H.Host.kept c.args.self.now.world) c.args.making.now gm ga c.in_default.ensures.item.3)

pub returns-in_default-get_mut : goal.returns-in_default-get_mut
returns-in_default-get_mut g c = λ before gm stages ga idle e. absurd (row_there before _ (at g.H.Host.kept c.args.self.now.world) c.args.making.now gm ga c.in_default-get_mut.ensures.item.3)

pub returns-in_err-place : goal.returns-in_err-place
returns-in_err-place g c = λ before gm stages ga idle e.
    let m = at g.H.Host.kept c.args.self.now.world in
    let is = m.instances in
    let i = c.in-Some.instance.now in
    let found : slice_get is c.args.making.now.instance ≡ Some i = slice_get_read is (length is) c.args.making.now.instance i refl c.in-Some.ensures.item.3.0 c.in-Some.ensures.value in
    came_failed g.H.Host.step before stages m (with_canon gm c.args.ty (func_of c.args.canon)) c.from_residual.result _ _ _ (stop_of_store c.in_err-place.field-0.0)
    (provides_if_still i.code c.provide.new.self c.args.ty c.args.making.now.canons c.in_err-place.field-0.0 (idle.still c.args.making.now.instance i found) c.in_err-place.ensures) c.from_residual.ensures.1

pub returns : goal.returns
returns g c = λ before gm stages ga idle e.
    let m = at g.H.Host.kept c.args.self.now.world in
    let is = m.instances in
    let l = c.args.making.now in
    let i = c.in-Some.instance.now in
    let found : slice_get is l.instance ≡ Some i = slice_get_read is (length is) l.instance i refl c.in-Some.ensures.item.3.0 c.in-Some.ensures.value in
    let rows = m.group.canons.items in
    let row = c.in-Some-get_mut.canons.now in
    let row_found : slice_get rows l.instance ≡ Some row = slice_get_read rows (length rows) l.instance row refl c.in-Some-get_mut.ensures.item.3.0 c.in-Some-get_mut.ensures.value in
    provided_so g.H.Host.step before _ m l gm ga idle i c.provide.new.self found c.in_ok-place.place c.args.ty c.in_ok-place.ensures c.args.canon row c.push.new.self row_found c.in_ok-push.ensures.items c.keep_canon.new.self
    (λ place. c.in_ok-keep_canon.ensures before gm c.args.ty (func_of c.args.canon) place ga.stands) stages e _ refl refl

use Rattle.std.proofs.Common.{◌∙◌, sym, subst, refl, Some}
use Rattle.std.specs.Option.{option_map}
use Rattle.comp_types.specs.Views.{item_of}
use Rattle.comp_link.specs.Planned.{item_named}
use Rattle.comp_link.specs.Linking.{bound_if, and_bound, and_given, and_export, given_at}
use Rattle.instance_making.specs.Made.{IsSame}
use Rattle.instance_making.specs.Shown.{Stands}
use Rattle.instance_making.proofs.PartnerLemmas.{partners_append}
use Rattle.instance_making.proofs.FoundLemmas.{same_none, same_some, holds_with, find_and}
use Rattle.instance_making.proofs.KeepLemmas.{with_bound, with_exports, item_export}
use Rattle.instance_making.proofs.making.Making.export.Goals as goal

pub returns-in-None : goal.returns-in-None
returns-in-None c = λ before g k h.
    let stated = option_map item_of c.args.stated.now in
    let o = given_at g (item_named c.args.item) in
    subst (λ p. Stands before c.args.self.now (and_export g c.args.name.now p stated)) (sym (same_none before o (subst (λ i. IsSame before i o) c.in-None.is (c.in_ok-given_at.ensures before g h)))) h

pub returns-in_ok-keep-in-Some : goal.returns-in_ok-keep-in-Some
returns-in_ok-keep-in-Some c = λ before g k h.
    let stated = option_map item_of c.args.stated.now in
    let o = given_at g (item_named c.args.item) in
    let x = same_some before c.in-Some.item o (subst (λ i. IsSame before i o) c.in-Some.is (c.in_ok-given_at.ensures before g h)) in
    let by = bound_if (Some x.0) stated in
    let m = record c.args.self.now { resources = c.bind_stated.new.resources } in
    let one = with_bound before c.args.self.now m g by h refl (λ r. c.in_ok-bind_stated-in-Some.ensures before x.0 k x.2 r ∙ partners_append c.args.self.now.resources g.resources by h.resources r) in
    let two = with_exports before m (record m { exports = c.add.new.self }) (and_bound g by) (and_given g.exports c.args.name.now x.0) one refl
    (holds_with before c.args.self.now.exports c.add.new.self g.exports (and_given g.exports c.args.name.now x.0) c.args.name.now (Some c.in_ok-share-in-Some.field-0) (Some x.0) h.exports (c.in_ok-share-in-Some.ensures before x.0 x.2) c.in_ok-add-in-Some.ensures (λ q. find_and q g.exports c.args.name.now x.0)) in
    subst (λ p. Stands before c.keep.new.self (and_export g c.args.name.now p stated)) (sym x.1)
    (subst (λ n. Stands before c.keep.new.self n) (item_export g x.0 by (and_given g.exports c.args.name.now x.0)) (c.in_ok-keep-in-Some.ensures before (record (and_bound g by) { exports = and_given g.exports c.args.name.now x.0 }) x.0 x.2 two))

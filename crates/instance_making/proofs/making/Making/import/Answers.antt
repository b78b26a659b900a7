use Rattle.std.proofs.Common.{◌∙◌, sym, subst, refl}
use Rattle.comp_types.specs.Views.{item_of}
use Rattle.comp_link.specs.Linking.{find, bound, and_bound}
use Rattle.instance_making.specs.Made.{IsSame}
use Rattle.instance_making.specs.Shown.{Stands}
use Rattle.instance_making.proofs.PartnerLemmas.{partners_append}
use Rattle.instance_making.proofs.KeepLemmas.{with_bound, item_bound}
use Rattle.instance_making.proofs.making.Making.import.Goals as goal

pub returns : goal.returns
returns c = λ before g k h.
    let o = find c.args.name.now g.given in
    let by = bound o (item_of c.args.ty.now) in
    let same = c.in_ok-item.ensures before g.given k h.given in
    let there = subst (λ i. IsSame before i o) (sym c.as_ref.ensures.value) same in
    let one = with_bound before c.args.self.now (record c.args.self.now { resources = c.bind.new.resources }) g by h refl (λ r. c.in_ok-bind.ensures before o k there r ∙ partners_append c.args.self.now.resources g.resources by h.resources r) in
    subst (λ m. Stands before c.keep_some.new.self m) (item_bound g o by) (c.in_ok-keep_some.ensures before (and_bound g by) o same one)

use Rattle.std.proofs.Common.{◌∙◌, ap, refl, ◌++◌, ◌∷◌, [], Some}
use Rattle.comp_types.specs.Substitution.{partner_of}
use Rattle.comp_types.specs.GivenResources.{numbered}
use Rattle.comp_link.specs.Linking.{GivenInstance, own_bound, and_bound, and_item}
use Rattle.instance_making.proofs.PartnerLemmas.{partners_append, own_same}
use Rattle.instance_making.proofs.KeepLemmas.{with_bound, in_whole}
use Rattle.instance_making.proofs.making.Making.hold.Goals as goal

pub returns : goal.returns
returns c = λ before g h k s t.
    let own = numbered c.args.own.now c.args.first in
    let by = own_bound h.resources own in
    let one = with_bound before c.args.self.now (record c.args.self.now { resources = c.bind_own.new.resources }) g by s refl (λ r. c.in_ok-bind_own.ensures r
    ∙ (ap (λ xs. partner_of (c.args.self.now.resources ++ xs) r) (own_same c.args.inner.resources h.resources own t.resources) ∙ partners_append c.args.self.now.resources g.resources by s.resources r)) in
    let two = c.in_ok-keep_instance.ensures before (and_bound g by) h.exports k one t.exports in
    (two.0, in_whole (before ++ h.exports ∷ []) c.keep_instance.new.self (and_item (and_bound g by) (Some (GivenInstance h.exports))) h.whole two.1)

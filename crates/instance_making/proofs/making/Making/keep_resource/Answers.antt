use Rattle.std.proofs.Common.{◌∙◌, ap, refl, List, [], ◌∷◌, ◌++◌, ℕ}
use Rattle.comp_types.specs.Substitution.{partner_of}
use Rattle.instance_making.proofs.PartnerLemmas.{partners_pair, partners_append}
use Rattle.instance_making.proofs.KeepLemmas.{with_bound, in_whole}
use Rattle.instance_making.proofs.making.Making.keep_resource.Goals as goal

pub returns : goal.returns
returns c = λ made g destructor number h.
    in_whole made _ _ _
    (with_bound made c.args.self.now _ g ((c.args.resource, g.whole.next_resource) ∷ []) h refl
    (λ r. ap (λ xs. partner_of xs r) c.in_ok-push.ensures.ok ∙ (partners_pair c.args.self.now.resources c.args.resource c.args.number r
    ∙ (ap (λ n. partner_of (c.args.self.now.resources ++ (c.args.resource, n) ∷ []) r) number
    ∙ partners_append c.args.self.now.resources g.resources ((c.args.resource, g.whole.next_resource) ∷ []) h.resources r))))

use Rattle.std.proofs.Common.{◌∙◌, ap, sym, ◌++◌}
use Rattle.std.specs.Option.{option_copied}
use Rattle.comp_types.specs.Items.{KindItem, ResourceKind}
use Rattle.comp_types.specs.Substitution.{partner_of}
use Rattle.comp_link.specs.Linking.{bound}
use Rattle.instance_making.proofs.PartnerLemmas.{partners_none, partners_pair}
use Rattle.instance_making.proofs.BoundLemmas.{no_resource, some_resource}
use Rattle.instance_making.proofs.bound.bind_resource.Goals as goal

pub returns-in-None : goal.returns-in-None
returns-in-None c = λ before o same.
    partners_none c.args.resources.now (bound o (KindItem (ResourceKind c.args.resource))) (no_resource before (option_copied c.args.given) o c.args.resource same (sym c.resource_in.ensures ∙ c.in-None.is))

pub returns-in_ok-push-in-Some : goal.returns-in_ok-push-in-Some
returns-in_ok-push-in-Some c = λ before o same r.
    ap (λ xs. partner_of xs r) c.in_ok-push-in-Some.ensures.ok ∙ (partners_pair c.args.resources.now c.args.resource c.in-Some.number r
    ∙ ap (λ by. partner_of (c.args.resources.now ++ by) r) (sym (some_resource before (option_copied c.args.given) o c.args.resource c.in-Some.number same (sym c.resource_in.ensures ∙ c.in-Some.is))))

use Rattle.std.proofs.Common.{◌∙◌}
use Rattle.comp_types.specs.Substitution.{func_with}
use Rattle.instance_making.proofs.PartnerLemmas.{partners_in}
use Rattle.instance_making.proofs.making.Making.lifting.Goals as goal

pub returns : goal.returns
returns c = λ made g h i. record {
  code = c.core_function.ensures made g h i;
  ty = (c.in_ok-ty.ensures ∙ (λ j. func_with (λ r. partners_in c.args.self.now.resources g.resources h.resources r j) c.args.ty.now.value)) i;
  options = c.options_in.ensures made g h i;
  post = c.post_in.ensures made g h i;
}

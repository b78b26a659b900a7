use Rattle.std.proofs.Common.{◌∙◌, sym, subst, ◌++◌, ◌∷◌, [], List}
use Rattle.instance_making.specs.declared.named.Named.{Named}
use Rattle.instance_making.specs.declared.given.Given.{Given}
use Rattle.instance_making.specs.Made.{AreMade}
use Rattle.instance_making.proofs.MoreLemmas.{made_and, made_last}
use Rattle.instance_making.proofs.imports.and_instance.Goals as goal

pub returns : goal.returns
returns c = λ before items k e. (
  subst (λ (is : List (Named Given)). AreMade is (before ++ items ∷ [])) (sym c.in_ok-push.ensures.items) (made_and before c.args.made.now.items c.args.items items k e),
  made_last before c.args.made.now.items items c.len-number.result k (c.len-number.ensures ∙ c.args.made.now.ok.0),
)

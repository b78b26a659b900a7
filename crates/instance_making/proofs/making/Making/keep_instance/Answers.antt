use Rattle.std.proofs.Common.{◌∙◌, sym, subst, refl, ◌++◌, ◌∷◌, [], List}
use Rattle.instance_making.specs.declared.named.Named.{Named}
use Rattle.instance_making.specs.declared.given.Given.{Given}
use Rattle.instance_making.specs.Made.{AreMade}
use Rattle.instance_making.proofs.MoreLemmas.{made_and, made_last, stands_more}
use Rattle.instance_making.proofs.MakingLemmas.{and_instance}
use Rattle.instance_making.proofs.making.Making.keep_instance.Goals as goal

pub returns : goal.returns
returns c = λ before g items k h e. (
  subst (λ (is : List (Named Given)). AreMade is (before ++ items ∷ [])) (sym c.in_ok-push.ensures.items) (made_and before c.args.made.now.items c.args.exports items k e),
  and_instance (before ++ items ∷ []) c.args.self.now _ g c.len-number.result items (stands_more before (items ∷ []) c.args.self.now g h) (made_last before c.args.made.now.items items c.len-number.result k (c.len-number.ensures ∙ c.args.made.now.ok.0)) refl c.in_ok-push-2.ensures.items,
)

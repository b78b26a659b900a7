use Rattle.std.proofs.Common.{refl, subst}
use Rattle.instance_making.specs.declared.given.Given.{Given}
use Rattle.instance_making.specs.Made.{IsGiven}
use Rattle.instance_making.proofs.MakingLemmas.{keep_instance}
use Rattle.instance_making.proofs.making.Making.keep.Goals as goal

pub returns-in_ok-push-in-Instance : goal.returns-in_ok-push-in-Instance
returns-in_ok-push-in-Instance c = λ made g given k h.
    keep_instance made c.args.self.now _ g c.in-Instance.number given (subst (λ (i : Given). IsGiven made i given) c.in-Instance.is k) h refl c.in_ok-push-in-Instance.ensures.items

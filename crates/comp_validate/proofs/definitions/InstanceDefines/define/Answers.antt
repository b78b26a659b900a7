use Rattle.std.proofs.lemmas.Result.{IfOk-weaker}
use Rattle.comp_types.specs.Definitions.{AnInstance}
use Rattle.comp_defining.proofs.Inner.{judged_inner}
use Rattle.comp_validate.proofs.definitions.InstanceDefines.define.Goals as goal

pub returns : goal.returns
returns c =
    IfOk-weaker c.define_instance.result _ _ (λ rule k around s h.
    let both = k around s h.inner h.covered.0 in
    judged_inner around s (AnInstance c.args.self.now) c.args.scopes.now c.define_instance.new.scope c.define_instance.new.types rule h both.1 both.0) c.define_instance.ensures

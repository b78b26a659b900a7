use Rattle.std.proofs.lemmas.Result.{IfOk-weaker}
use Rattle.comp_types.specs.Definitions.{ACoreInstance}
use Rattle.comp_validate.proofs.InnerLemmas.{judged_shared}
use Rattle.comp_validate.proofs.definitions.CoreInstanceDefines.define.Goals as goal

pub returns : goal.returns
returns c =
    IfOk-weaker c.define_core_instance.result _ _ (λ rule k around s h.
    judged_shared around s (ACoreInstance c.args.self.now) c.args.scopes.now c.define_core_instance.new.scope rule h tt (k around s h.inner)) c.define_core_instance.ensures

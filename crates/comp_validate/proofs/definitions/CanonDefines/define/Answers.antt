use Rattle.std.proofs.lemmas.Result.{IfOk-weaker}
use Rattle.comp_types.specs.Definitions.{ACanon}
use Rattle.comp_validate.proofs.InnerLemmas.{judged_shared}
use Rattle.comp_validate.proofs.definitions.CanonDefines.define.Goals as goal

pub returns : goal.returns
returns c =
    IfOk-weaker c.define_canon.result _ _ (λ rule k around s h.
    judged_shared around s (ACanon c.args.self.now) c.args.scopes.now c.define_canon.new.scope rule h tt (k around s h.inner)) c.define_canon.ensures

use Rattle.std.proofs.lemmas.Result.{IfOk-weaker}
use Rattle.comp_validate.proofs.definitions.define_counted.Goals as goal

pub returns : goal.returns
returns g c = IfOk-weaker c.define.result _ _ (λ rule k around s h. k around s (c.in_ok-walk.ensures around s h)) c.define.ensures

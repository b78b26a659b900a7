use Rattle.std.proofs.lemmas.Result.{IfOk-weaker}
use Rattle.comp_validate.proofs.declarations.define_alone.Goals as goal

pub returns : goal.returns
returns c = IfOk-weaker c.add_alone.result _ _ (λ rule k around s h. k around s (c.in_ok-walk.ensures around s h)) c.add_alone.ensures

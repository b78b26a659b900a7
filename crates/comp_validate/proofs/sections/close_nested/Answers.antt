use Rattle.std.proofs.Common.{◌∷◌}
use Rattle.std.proofs.lemmas.Result.{on_ok_weaker}
use Rattle.comp_validate.proofs.sections.close_nested.Goals as goal

pub returns : goal.returns
returns c = on_ok_weaker c.add_closed.result (λ k around t s h. k around t s (c.in_ok-walk.ensures (t ∷ around) s h)) c.add_closed.ensures

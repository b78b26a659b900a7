use Rattle.std.proofs.Common.{refl}
use Rattle.std.proofs.lemmas.Result.{on_ok_weaker}
use Rattle.comp_defining.proofs.scopes.Scopes.enter.Goals as goal

pub returns : goal.returns
returns c = on_ok_weaker c.open_scope.result (λ k around s h. k around s h refl) c.open_scope.ensures

use Rattle.std.proofs.Common.{◌≡◌, ◌+◌, arith}
use Rattle.std.proofs.lemmas.Result.{on_ok_weaker}
use Rattle.comp_defining.proofs.scopes.Scopes.open_type.Goals as goal

pub returns : goal.returns
returns c = on_ok_weaker c.open_scope.result (λ k around s h. k around s h (let e : c.in-Some.inside ≡ c.args.self.now.inside + 1 = omega (arith, c.in-Some.ensures) in omega (arith, h.inside))) c.open_scope.ensures

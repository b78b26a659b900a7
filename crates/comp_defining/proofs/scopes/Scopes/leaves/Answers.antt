use Rattle.std.proofs.Common.{◌∙◌, ◌<◌, ap, ◌∷◌, length, arith}
use Rattle.std.specs.Prelude.{nat_lt}
use Rattle.std.proofs.lemmas.Bool.Decides.{nat_tests}
use Rattle.comp_defining.proofs.AroundLemmas.{leaves_is}
use Rattle.comp_defining.proofs.scopes.Scopes.leaves.Goals as goal

pub returns : goal.returns
returns c = λ around s h there.
    let below : c.args.count < length (s ∷ around) = grind (arith, nat_tests) in
    ap (λ n. nat_lt n c.args.count) h.inside ∙ leaves_is (s ∷ around) c.args.count below

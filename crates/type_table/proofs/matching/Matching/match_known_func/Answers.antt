use Rattle.std.proofs.Common.{refl, Bool}
use Rattle.std.specs.Prelude.{IsTrue}
use Rattle.type_table.specs.Walked.{Remembers, Keeps}
use Rattle.type_table.proofs.WalkParts.{ok-on}
use Rattle.type_table.proofs.matching.Matching.match_known_func.Goals as goal

pub invariant_of-self : goal.invariant_of-self
invariant_of-self c =
    let types = c.self.inside.types.now in
    let old = c.self.inside.walked in
    let mid = c.match_funcs-walk.new.walked in
    c.settle.ensures.kept types
    (ok-on c.match_funcs-walk.result c.match_funcs-walk.result (λ (same : Bool). Keeps types old mid same) (λ (same : Bool). IsTrue same → Remembers types mid) refl
    (λ same keeps. keeps c.self.invariant) c.match_funcs-walk.ensures.kept)

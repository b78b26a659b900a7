use Rattle.std.proofs.Common.{◌≤◌, ◌∙◌, ap, length, arith}
use Rattle.core_body.specs.Pieces.{piece_of}
use Rattle.core_body.proofs.PlaceLemmas.{rest-skip, down-whole}
use Rattle.core_body.specs.Views.{context_of}
use Rattle.core_body.proofs.stack.Stack.place.Goals as goal

pub returns-clause-rest : goal.returns-clause-rest
returns-clause-rest c =
    let d = context_of c.args.scope.now in
    let s = c.args.self.now in
    let whole : length s.pieces.items ≤ c.len.result = omega (arith, s.pieces.ok.0) in
    rest-skip d s c.len.result c.nothing.result (ap (piece_of d) c.nothing.ensures) ∙ down-whole d s c.len.result whole

pub returns-clause-lies : goal.returns-clause-lies
returns-clause-lies c =
    let d = context_of c.args.scope.now in
    let s = c.args.self.now in
    record {
      low = omega (arith, s.pieces.ok.0, s.bounded);
      high = omega (arith, s.pieces.ok.0);
      over = λ e. ap (piece_of d) c.nothing.ensures;
    }

use Rattle.std.proofs.Common.{sym, ap, subst}
use Rattle.core_body.specs.declared.piece.Piece.{Piece}
use Rattle.core_body.specs.Pieces.{piece_of, Meet}
use Rattle.core_body.specs.Views.{context_of}
use Rattle.core_body.proofs.PieceLemmas.{meet-same}
use Rattle.core_body.proofs.piece.bite.Goals as goal

pub returns-then-same_fronts : goal.returns-then-same_fronts
returns-then-same_fronts c =
    let d = context_of c.args.scope.now in
    let P : Piece → Type 0 = λ p. Meet d p c.args.due c.nothing.result (record { of = c.args.due.of; len = 0 }) in
    subst P (sym c.in-Many.is) (meet-same d c.in-Many.run' c.args.due c.nothing.result c.if-same_fronts.ensures (ap (piece_of d) c.nothing.ensures))

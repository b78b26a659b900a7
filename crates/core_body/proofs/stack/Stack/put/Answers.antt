use Rattle.std.proofs.Common.{◌∙◌, ap, drop, reverse}
use Rattle.core_body.specs.Pieces.{pieces_of}
use Rattle.core_body.proofs.PieceLemmas.{level-push}
use Rattle.core_body.specs.Views.{context_of}
use Rattle.core_body.proofs.stack.Stack.put.Goals as goal

pub returns-clause-level : goal.returns-clause-level
returns-clause-level c =
    let d = context_of c.args.scope.now in
    let s = c.args.self.now in
    ap (λ l. pieces_of d (reverse (drop s.height l))) c.in_ok-push.ensures.items ∙ ap (pieces_of d) (level-push s.pieces.items s.height c.args.piece s.bounded)

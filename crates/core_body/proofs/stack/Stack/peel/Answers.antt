use Rattle.std.proofs.Common.{◌≡◌, ◌≤◌, ◌+◌, ◌-◌, ◌∙◌, ◌∷◌, sym, ap, length, arith}
use Rattle.core_body.specs.Views.{context_of}
use Rattle.core_body.proofs.PlaceLemmas.{level-one, down-whole, down-none}
use Rattle.core_body.proofs.stack.Stack.peel.Goals as goal

pub returns-then-len-self-clause-level : goal.returns-then-len-self-clause-level
returns-then-len-self-clause-level c =
    let d = context_of c.args.scope.now in
    let s = c.args.self.now in
    let n = length s.pieces.items in
    let low : n ≤ s.height = omega (arith, s.pieces.ok.0) in
    let whole : n ≤ n = omega arith in
    let none = sym (down-whole d s n whole) ∙ down-none d s n low in
    (none, none)

pub returns-in-One-clause-level : goal.returns-in-One-clause-level
returns-in-One-clause-level c =
    let d = context_of c.args.scope.now in
    let s = c.args.self.now in
    let at = c.len-last.result - 1 in
    let e : at + 1 ≡ length s.pieces.items = omega (arith, s.pieces.ok.0) in
    let low : s.height ≤ at = omega (arith, s.pieces.ok.0) in
    level-one d s at c.index.result.now c.in-One.operand e low c.index.ensures c.in-One.is ∙ ap (λ l. c.in-One.operand ∷ l) (sym c.cut.ensures.level)

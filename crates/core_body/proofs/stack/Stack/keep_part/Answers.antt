use Rattle.std.proofs.Common.{◌≡◌, ◌≤◌, ◌<◌, ◌∙◌, sym, ap, length, drop, take, set, reverse, arith}
use Rattle.core_body.specs.Pieces.{pieces_of}
use Rattle.core_body.specs.Views.{context_of}
use Rattle.core_body.proofs.PlaceLemmas.{rest-skip, down-whole, keep-level, keep-below}
use Rattle.core_body.proofs.stack.Stack.keep_part.Goals as goal

pub returns-then-rest-len-clause-level : goal.returns-then-rest-len-clause-level
returns-then-rest-len-clause-level c =
    let d = context_of c.args.scope.now in
    let s = c.args.self.now in
    let high = c.requires.high in
    let past : length s.pieces.items ≤ c.args.rest.at = omega (arith, s.pieces.ok.0) in
    let end : c.args.rest.at ≡ length s.pieces.items = omega arith in
    sym (rest-skip d s c.args.rest.at c.args.rest.part (c.requires.over end) ∙ down-whole d s c.args.rest.at past)

pub returns-clause-level : goal.returns-clause-level
returns-clause-level c =
    let d = context_of c.args.scope.now in
    let s = c.args.self.now in
    let inside : c.args.rest.at < length s.pieces.items = omega (arith, s.pieces.ok.0) in
    ap (λ l. pieces_of d (reverse (drop s.height (set l c.args.rest.at c.args.rest.part)))) c.truncate.ensures.items
    ∙ keep-level d s c.args.rest.at c.args.rest.part c.requires.low inside

pub returns-clause-outer : goal.returns-clause-outer
returns-clause-outer c =
    let s = c.args.self.now in
    let inside : c.args.rest.at < length s.pieces.items = omega (arith, s.pieces.ok.0) in
    ap (λ l. take s.height (set l c.args.rest.at c.args.rest.part)) c.truncate.ensures.items ∙ keep-below s.pieces.items s.height c.args.rest.at c.args.rest.part c.requires.low inside

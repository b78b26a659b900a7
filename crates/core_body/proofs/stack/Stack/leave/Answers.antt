use Rattle.std.proofs.Common.{◌≡◌, ap, ◌∙◌, length, arith, min, reverse, take, drop}
use Rattle.std.proofs.lemmas.List.{take_min, drop_min}
use Rattle.core_body.specs.Pieces.{pieces_of}
use Rattle.core_body.specs.Views.{context_of}
use Rattle.core_body.proofs.stack.Stack.leave.Goals as goal

pub returns-clause-level : goal.returns-clause-level
returns-clause-level c =
    let items = c.truncate.new.self in
    let same : c.min-self.result ≡ min c.args.height (length items.items) = omega (arith, items.ok.0) in
    ap (λ n. pieces_of (context_of c.args.scope.now) (reverse (drop n items.items))) same
    ∙ ap (λ l. pieces_of (context_of c.args.scope.now) (reverse l)) (drop_min c.args.height items.items)
    ∙ ap (λ l. pieces_of (context_of c.args.scope.now) (reverse (drop c.args.height l))) c.truncate.ensures.items

pub returns-clause-outer : goal.returns-clause-outer
returns-clause-outer c =
    let items = c.truncate.new.self in
    let same : c.min-self.result ≡ min c.args.height (length items.items) = omega (arith, items.ok.0) in
    ap (λ n. take n items.items) same ∙ take_min c.args.height items.items ∙ ap (take c.args.height) c.truncate.ensures.items

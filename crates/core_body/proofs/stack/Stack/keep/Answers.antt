use Rattle.std.proofs.Common.{◌∙◌, sym}
use Rattle.core_body.specs.Views.{context_of}
use Rattle.core_body.proofs.PlaceLemmas.{rest-skip}
use Rattle.core_body.proofs.stack.Stack.keep.Goals as goal

pub returns-then-is_nothing-clause-level : goal.returns-then-is_nothing-clause-level
returns-then-is_nothing-clause-level c =
    let d = context_of c.args.scope.now in
    c.cut.ensures.level ∙ sym (rest-skip d c.args.self.now c.args.rest.at c.args.rest.part (c.if-is_nothing.ensures d))

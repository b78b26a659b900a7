use Rattle.std.proofs.Common.{◌++◌, ◌∙◌, sym, ap, length}
use Rattle.virt_base.specs.declared.core_type.CoreType.TheVariants.{I32}
use Rattle.core_body.specs.Sources.{listed}
use Rattle.core_body.specs.Stack.{level_of}
use Rattle.core_body.specs.Typing.{operands}
use Rattle.core_body.proofs.PieceLemmas.{operands-none, operands-one, operands-whole}
use Rattle.core_body.specs.Views.{context_of}
use Rattle.core_body.proofs.stack.Stack.push_all.Goals as goal

pub returns-then-count-eq0-clause-level : goal.returns-then-count-eq0-clause-level
returns-then-count-eq0-clause-level c =
    let d = context_of c.args.scope.now in
    let types = c.listed-types.result.now in
    sym (ap (λ l. operands l ++ level_of d c.args.self.now) (sym c.listed-types.ensures) ∙ ap (λ l. l ++ level_of d c.args.self.now) (operands-none types c.if-count-eq0.true))

pub returns-then-count-eq1-clause-level : goal.returns-then-count-eq1-clause-level
returns-then-count-eq1-clause-level c =
    let d = context_of c.args.scope.now in
    let types = c.listed-types.result.now in
    c.in_ok-push.ensures.level
    ∙ sym (ap (λ l. operands l ++ level_of d c.args.self.now) (sym c.listed-types.ensures) ∙ ap (λ l. l ++ level_of d c.args.self.now) (operands-one types I32 c.if-count-eq1.true))

pub returns-clause-level : goal.returns-clause-level
returns-clause-level c =
    let d = context_of c.args.scope.now in
    c.in_ok-put.ensures.level
    ∙ ap (λ l. l ++ level_of d c.args.self.now) (operands-whole (listed d c.args.source) (length c.listed-types.result.now) (ap length c.listed-types.ensures))

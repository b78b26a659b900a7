use Rattle.std.proofs.Common.{◌∙◌, sym, true≢false}
use Rattle.core_body.specs.Sources.{listed}
use Rattle.core_body.specs.Views.{context_of}
use Rattle.core_body.proofs.StackLemmas.{same_list-operands}
use Rattle.core_body.proofs.step.same_operands.Goals as goal

pub returns : goal.returns
returns c =
    let d = context_of c.args.scope.now in
    same_list-operands (listed d c.args.a) (listed d c.args.b) c.same_lists.result (λ e. c.same_lists.ensures.0 e) (λ e same. true≢false (sym (c.same_lists.ensures.1 same) ∙ e))

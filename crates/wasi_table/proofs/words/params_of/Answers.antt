use Rattle.std.proofs.Common.{◌∙◌, ◌≡◌, sym, ap, [], arith}
use Rattle.std.proofs.lemmas.List.{nil_from_length}
use Rattle.wit_types.specs.declared.types.Fields.{out-roll-Fields}
use Rattle.wasi_table.specs.Before.{fields_before}
use Rattle.wasi_table.specs.Words.{operands, types_in}
use Rattle.wasi_table.proofs.OperandLemmas.{fields_before-End}
use Rattle.wasi_table.proofs.words.params_of.Goals as goal

pub returns : goal.returns
returns c =
    let empty : c.loop-operand.stack.items ≡ [] = nil_from_length c.loop-operand.stack.items (let k = c.in_default.ensures.cases in omega (arith, k.0, c.loop-operand.stack.ok)) in
    rw out-roll-Fields (sym (fields_before-End c.loop-operand.items.items) ∙ ap (λ os. fields_before c.loop-operand.items.items (types_in (operands os))) (sym empty) ∙ c.loop-operand.invariant)

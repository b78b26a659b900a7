use Rattle.std.proofs.Common.{◌∙◌, ap, ℕ, drop}
use Rattle.wasm_ast.specs.Numeric.{numeric}
use Rattle.core_integer.specs.Integer.{integer}
use Rattle.core_store.specs.Plain.{operand_in}
use Rattle.core_slots.specs.Stacked.{with_operands}
use Rattle.core_interp.proofs.Numerics.{unary, binary}
use Rattle.core_interp.proofs.operands.calculate.Goals as goal

pub returns-then-kind-eq1 : goal.returns-then-kind-eq1
returns-then-kind-eq1 c sp s =
    unary c.args.op c.in-Some.kind sp s c.args.slots.now (with_operands c.args.slots.now (drop 1 c.args.slots.now.operands)) c.put.new.slots c.top.result c.integer-outcome.result c.put.result
    (c.in-Some.ensures ∙ ap numeric c.code-code.ensures.value)
    c.if-kind-eq1.true c.top.ensures
    (c.integer-outcome.ensures.value ∙ ap (λ (k : ℕ). integer k c.operand.result 0) c.code-code.ensures.value ∙ ap (λ (v : ℕ). integer c.args.op v 0) c.operand.ensures.value)
    c.put.ensures

pub returns : goal.returns
returns c sp s =
    binary c.args.op c.in-Some.kind sp s c.args.slots.now c.pop-last.new.self (with_operands c.pop-last.new.self (drop 1 c.pop-last.new.self.operands)) c.put-in-Some.new.slots c.top-first.result c.pop-last.result c.integer-outcome-in-Some.result c.put-in-Some.result
    (c.in-Some.ensures ∙ ap numeric c.code-code.ensures.value)
    c.if-kind-eq1.false c.pop-last.ensures c.top-first.ensures
    (c.integer-outcome-in-Some.ensures.value ∙ ap (λ (k : ℕ). integer k c.operand-in-Some.result c.operand-in-Some-2.result) c.code-code.ensures.value ∙ ap (λ (v : ℕ). integer c.args.op v c.operand-in-Some-2.result) c.operand-in-Some.ensures.value ∙ ap (λ (v : ℕ). integer c.args.op (operand_in c.in-Some.kind.from c.top-first.result) v) c.operand-in-Some-2.ensures.value)
    c.put-in-Some.ensures

use Rattle.std.proofs.Common.{sym, ◌∙◌, arith}
use Rattle.std.proofs.lemmas.List.{length-drop}
use Rattle.std.proofs.lemmas.Result.{err_from_is_err_and}
use Rattle.virt_base.specs.Place.{place}
use Rattle.wasm_format.proofs.UntilLoop.{stands_closed, never_closed, goes_on, stops}
use Rattle.wasm_format.proofs.until.read_until.Goals as goal

pub returns-then-is_over-clause-value : goal.returns-then-is_over-clause-value
returns-then-is_over-clause-value g c =
    rw (c.new.ensures, c.in_ok-whole.ensures, length-drop c.args.c.now.at c.args.c.now.bytes.now) (stands_closed g.W.Walk.sections c.loop.items.items _ c.loop.state (place c.loop.c) _ (sym c.is_over.ensures ∙ c.if-is_over.true) c.loop.invariant.read)

pub returns-then-is_over-2-clause-value : goal.returns-then-is_over-2-clause-value
returns-then-is_over-2-clause-value g c =
    rw (c.new-then-is_over-2.ensures, c.in_ok-whole-2.ensures, length-drop c.args.c.now.at c.args.c.now.bytes.now) (stands_closed g.W.Walk.sections c.loop.items.items _ c.loop.state (place c.loop.c) _ (sym c.is_over-2.ensures ∙ c.if-is_over-2.true) c.loop.invariant.read)

pub returns-clause-value : goal.returns-clause-value
returns-clause-value g c =
    rw (length-drop c.args.c.now.at c.args.c.now.bytes.now) (never_closed g.W.Walk.sections c.loop.items.items _ c.loop.state (place c.loop.c) _ (omega (arith, c.loop-test.false)) (sym c.is_over-2.ensures ∙ c.if-is_over-2.false) c.loop.invariant.read)

pub returns-in_err-item-clause-value : goal.returns-in_err-item-clause-value
returns-in_err-item-clause-value g c =
    let p = err_from_is_err_and c.from_residual-in_err-item.result c.from_residual-in_err-item.ensures.1 in
    rw (p.1, p.2, length-drop c.args.c.now.at c.args.c.now.bytes.now) (stops g.W.Walk.sections c.in_err-item.field-0.0 c.loop.items.items _ c.loop.counter c.loop.state (place c.loop.c) _ c.loop-test.true (sym c.is_over.ensures ∙ c.if-is_over.false) c.in_err-item.ensures.value c.loop.invariant.read)

pub loop-preserved : goal.loop-preserved
loop-preserved g c = record {
  input = c.in_ok-item.ensures.input ∙ c.loop.invariant.input;
  read = rw (c.in_ok-push.ensures.items, c.in_ok-step.ensures) (goes_on g.W.Walk.sections c.loop.items.items _ c.loop.counter c.loop.state (place c.loop.c) c.in_ok-item.item (place c.read_item.new.c) _ c.loop-test.true (sym c.is_over.ensures ∙ c.if-is_over.false) c.in_ok-item.ensures.value c.loop.invariant.read);
}

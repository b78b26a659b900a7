use Rattle.std.proofs.Common.{arith, ◌∙◌, subst, ◌-◌, length}
use Rattle.std.proofs.lemmas.List.{length-drop}
use Rattle.std.proofs.lemmas.Result.{err_from_is_err_and}
use Rattle.virt_base.specs.Place.{rest, place}
use Rattle.wasm_format.specs.Sections.{Ran, run, Run}
use Rattle.wasm_format.proofs.SectionLoop.{any_count, last_count, goes_on, stops}
use Rattle.wasm_format.proofs.sections.read_sections.Goals as goal

pub returns-then-c-clause-ran : goal.returns-then-c-clause-ran
returns-then-c-clause-ran g c =
    let G = g.B.Building.sections in
    rw (length-drop c.args.c.now.at c.args.c.now.bytes.now)
    (subst (λ (r : Run _). Ran c.finish.result c.finish.new.good r) (any_count G (length c.args.c.now.bytes.now - c.args.c.now.at - c.loop.counter) c.loop.state c.loop.good c.loop.c.at (rest c.loop.c) (omega (arith, c.loop.c.within, length-drop c.loop.c.at c.loop.c.bytes.now)) ∙ c.loop.invariant.read) c.finish.ensures.ran)

pub returns-clause-ran : goal.returns-clause-ran
returns-clause-ran g c =
    let G = g.B.Building.sections in
    rw (length-drop c.args.c.now.at c.args.c.now.bytes.now)
    (subst (λ (r : Run _). Ran c.finish-2.result c.finish-2.new.good r) (last_count G (length c.args.c.now.bytes.now - c.args.c.now.at) c.loop.counter c.loop.state c.loop.good c.loop.c.at (rest c.loop.c) c.loop-test.false ∙ c.loop.invariant.read) c.finish-2.ensures.ran)

pub returns-in_err-part-clause-ran : goal.returns-in_err-part-clause-ran
returns-in_err-part-clause-ran g c =
    let G = g.B.Building.sections in
    let count = length c.args.c.now.bytes.now - c.args.c.now.at in
    let p = err_from_is_err_and c.from_residual.result c.from_residual.ensures.1 in
    rw (p.1, p.2, length-drop c.args.c.now.at c.args.c.now.bytes.now) (stops G c.in_err-part.field-0.0 count c.loop.counter c.loop.state c.loop.good c.loop.c.at (rest c.loop.c) c.note_end.new.good (run G count c.args.state c.args.good.now c.args.c.now.at (rest c.args.c.now)) c.loop-test.true (omega (arith, c.loop.c.within, length-drop c.loop.c.at c.loop.c.bytes.now)) c.in_err-part.ensures.value c.loop.invariant.read c.note_end.ensures)

pub loop-preserved : goal.loop-preserved
loop-preserved g c =
    let G = g.B.Building.sections in
    let count = length c.args.c.now.bytes.now - c.args.c.now.at in
    record {
      input = c.in_ok-part.ensures.input ∙ c.loop.invariant.input;
      read = rw (c.in_ok-add.ensures, c.note_end.ensures) (goes_on G count c.loop.counter c.loop.state c.loop.good c.loop.c.at (rest c.loop.c) c.in_ok-part.part (place c.read_part.new.c) (run G count c.args.state c.args.good.now c.args.c.now.at (rest c.args.c.now)) c.loop-test.true (omega (arith, c.loop.c.within, length-drop c.loop.c.at c.loop.c.bytes.now)) c.in_ok-part.ensures.value c.loop.invariant.read);
    }

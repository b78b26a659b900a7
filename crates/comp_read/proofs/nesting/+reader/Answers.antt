use Rattle.std.proofs.Common.{◌≡◌, ◌+◌, ◌-◌, ℕ, List, Bor, take, length, ap, ◌∙◌, arith}
use Rattle.std.proofs.lemmas.List.{length-take, length-drop}
use Rattle.std.proofs.lemmas.Result.{err_from_is_err_and}
use Rattle.virt_base.specs.Place.{place, rest}
use Rattle.wasm_format.proofs.Within.{within_err, within_short, within_ok}
use Rattle.comp_grammar.specs.Trees.{plain, plain_sections}
use Rattle.comp_grammar.specs.Components.{placed, component}
use Rattle.comp_grammar.proofs.PlainLemmas.{plain-push}
use Rattle.comp_read.specs.Runs.{plain_placed}
use Rattle.comp_read.proofs.ComponentLoop.{none_so_deep, section_more, section_stops, sections_done, sections_short, placed_no_front, placed_stops, placed_done}
use Rattle.comp_read.proofs.nesting.+reader.Goals as goal

pub read_nested-returns-in_err-nested-clause-value : goal.read_nested-returns-in_err-nested-clause-value
read_nested-returns-in_err-nested-clause-value t c =
    let p = err_from_is_err_and c.from_residual-in_err-nested.result c.from_residual-in_err-nested.ensures.1 in
    rw (p.1, p.2, c.in_ok-size.ensures.value) (within_err (placed (component c.args.depth)) c.in_err-nested.field-0.0 c.read.new.c.bytes.now c.read.new.c.at c.in_ok-size.field-0 (omega arith) c.in_err-nested.ensures.value)

pub read_nested-returns-then-inside-end-clause-value : goal.read_nested-returns-then-inside-end-clause-value
read_nested-returns-then-inside-end-clause-value t c =
    let same : c.read_placed.new.c.bytes.now ≡ take (c.read.new.c.at + c.in_ok-size.field-0) c.read.new.c.bytes.now = ap (λ (b : Bor (List ℕ)). b.now) c.in_ok-nested.ensures.input in
    rw c.in_ok-size.ensures.value (within_short (placed (component c.args.depth)) c.read.new.c.bytes.now c.read_placed.new.c.bytes.now c.read.new.c.at c.in_ok-size.field-0 c.read_placed.new.c.at (plain_placed c.in_ok-nested.nested) (omega arith) same (omega (arith, c.read_placed.new.c.within, ap length same, length-take (c.read.new.c.at + c.in_ok-size.field-0) c.read.new.c.bytes.now)) c.in_ok-nested.ensures.value)

pub read_nested-returns-clause-value : goal.read_nested-returns-clause-value
read_nested-returns-clause-value t c =
    let same : c.read_placed.new.c.bytes.now ≡ take (c.read.new.c.at + c.in_ok-size.field-0) c.read.new.c.bytes.now = ap (λ (b : Bor (List ℕ)). b.now) c.in_ok-nested.ensures.input in
    rw c.in_ok-size.ensures.value (within_ok (placed (component c.args.depth)) c.read.new.c.bytes.now c.read_placed.new.c.bytes.now c.read.new.c.at c.in_ok-size.field-0 c.read_placed.new.c.at (plain_placed c.in_ok-nested.nested) (omega arith) same c.if-inside-end.false c.in_ok-nested.ensures.value)

pub read_placed-returns-then-depth-eq0-clause-value : goal.read_placed-returns-then-depth-eq0-clause-value
read_placed-returns-then-depth-eq0-clause-value t c = none_so_deep c.args.depth (place c.args.c.now) c.if-depth-eq0.true

pub read_placed-returns-in_err-expect_bytes-clause-value : goal.read_placed-returns-in_err-expect_bytes-clause-value
read_placed-returns-in_err-expect_bytes-clause-value t c =
    let p = err_from_is_err_and c.from_residual.result c.from_residual.ensures.1 in
    rw (p.1, p.2) (placed_no_front c.in_err-expect_bytes.field-0.0 c.args.depth (place c.args.c.now) (omega (arith, c.if-depth-eq0.false)) (rw c.as_slice.ensures at c.in_err-expect_bytes.ensures.value))

pub read_placed-returns-in_err-component-clause-value : goal.read_placed-returns-in_err-component-clause-value
read_placed-returns-in_err-component-clause-value t c =
    let p = err_from_is_err_and c.from_residual-in_err-component.result c.from_residual-in_err-component.ensures.1 in
    rw (p.1, p.2) (placed_stops c.in_err-component.field-0.0 c.args.depth (place c.args.c.now) (place c.expect_bytes.new.c) (omega (arith, c.if-depth-eq0.false)) (rw c.as_slice.ensures at c.in_ok-expect_bytes.ensures.value) c.in_err-component.ensures.value)

pub read_placed-returns-clause-value : goal.read_placed-returns-clause-value
read_placed-returns-clause-value t c =
    placed_done c.args.depth (place c.args.c.now) (place c.expect_bytes.new.c) (place c.read_all.new.c) (plain c.in_ok-component.component) (omega (arith, c.if-depth-eq0.false)) (rw c.as_slice.ensures at c.in_ok-expect_bytes.ensures.value) c.in_ok-component.ensures.value

pub read_sections-returns-then-c-clause-ran : goal.read_sections-returns-then-c-clause-ran
read_sections-returns-then-c-clause-ran t c =
    rw (c.in_ok-whole.ensures, length-drop c.args.c.now.at c.args.c.now.bytes.now)
    (sections_done (component c.args.depth) _ (plain_sections c.loop.sections.items) c.loop.good c.loop.c.at (rest c.loop.c) _ (omega (arith, c.if-c.true, c.loop.c.within, length-drop c.loop.c.at c.loop.c.bytes.now)) c.loop.invariant.read)

pub read_sections-returns-in_err-section-clause-ran : goal.read_sections-returns-in_err-section-clause-ran
read_sections-returns-in_err-section-clause-ran t c =
    let p = err_from_is_err_and c.from_residual-in_err-section.result c.from_residual-in_err-section.ensures.1 in
    rw (p.1, p.2, length-drop c.args.c.now.at c.args.c.now.bytes.now)
    (section_stops (component c.args.depth) c.in_err-section.field-0.0 (length c.args.c.now.bytes.now - c.args.c.now.at) c.loop.counter (plain_sections c.loop.sections.items) c.loop.good c.loop.c.at (rest c.loop.c) _ c.loop-test.true (omega (arith, c.if-c.false, c.loop.c.within, length-drop c.loop.c.at c.loop.c.bytes.now)) c.in_err-section.ensures.value c.loop.invariant.read)

pub read_sections-loop-preserved : goal.read_sections-loop-preserved
read_sections-loop-preserved t c = record {
  input = c.in_ok-section.ensures.input ∙ c.loop.invariant.input;
  read =
      rw (c.in_ok-push.ensures.items, plain-push c.loop.sections.items c.in_ok-section.section)
      (section_more (component c.args.depth) (length c.args.c.now.bytes.now - c.args.c.now.at) c.loop.counter (plain_sections c.loop.sections.items) c.loop.good c.loop.c.at (rest c.loop.c) _ (place c.read_section.new.c) _ c.loop-test.true (omega (arith, c.if-c.false, c.loop.c.within, length-drop c.loop.c.at c.loop.c.bytes.now)) c.in_ok-section.ensures.value c.loop.invariant.read);
}

pub read_sections-returns-then-c-2-clause-ran : goal.read_sections-returns-then-c-2-clause-ran
read_sections-returns-then-c-2-clause-ran t c =
    rw (length-drop c.args.c.now.at c.args.c.now.bytes.now)
    (sections_short (component c.args.depth) (length c.args.c.now.bytes.now - c.args.c.now.at) c.loop.counter (plain_sections c.loop.sections.items) c.loop.good c.loop.c.at (rest c.loop.c) _ c.loop-test.false (omega (arith, c.if-c-2.true, length-drop c.loop.c.at c.loop.c.bytes.now)) c.loop.invariant.read)

pub read_sections-returns-clause-ran : goal.read_sections-returns-clause-ran
read_sections-returns-clause-ran t c =
    rw (c.in_ok-whole-2.ensures, length-drop c.args.c.now.at c.args.c.now.bytes.now)
    (sections_done (component c.args.depth) _ (plain_sections c.loop.sections.items) c.loop.good c.loop.c.at (rest c.loop.c) _ (omega (arith, c.if-c-2.false, c.loop.c.within, length-drop c.loop.c.at c.loop.c.bytes.now)) c.loop.invariant.read)

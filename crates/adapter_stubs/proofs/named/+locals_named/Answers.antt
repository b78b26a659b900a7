use Rattle.std.proofs.Common.{◌≡◌, suc, ◌+◌, ◌*◌, max, drop, refl, sym, ap, ◌∙◌, arith}
use Rattle.std.proofs.lemmas.Option.{slice_get_read}
use Rattle.adapter_code.specs.Code.{Stop, before, code_of}
use Rattle.adapter_code.proofs.Codes.{size, size_at, size_if, size_repeat}
use Rattle.adapter_stubs.specs.Named.{span}
use Rattle.adapter_stubs.proofs.Spans.{span_if, span_repeat, span_left}
use Rattle.adapter_stubs.proofs.named.+locals_named.Goals as goal

pub named_in-locals_named-requires : goal.named_in-locals_named-requires
named_in-locals_named-requires t c =
    let sized = ap (λ st. size (before st Stop)) c.in-If.is ∙ size_if c.in-If.test c.in-If.yes c.in-If.no in
    let now : 4 * size (before c.args.statement.now Stop) ≡ t = c.decreases in
    let part = ap (λ l. size (code_of l)) c.deref.ensures.value in
    omega (arith, sized, now, part)

pub named_in-locals_named-requires-in-If : goal.named_in-locals_named-requires-in-If
named_in-locals_named-requires-in-If t c =
    let sized = ap (λ st. size (before st Stop)) c.in-If.is ∙ size_if c.in-If.test c.in-If.yes c.in-If.no in
    let now : 4 * size (before c.args.statement.now Stop) ≡ t = c.decreases in
    let part = ap (λ l. size (code_of l)) c.deref-in-If.ensures.value in
    omega (arith, sized, now, part)

pub named_in-locals_named-requires-in-Repeat : goal.named_in-locals_named-requires-in-Repeat
named_in-locals_named-requires-in-Repeat t c =
    let sized = ap (λ st. size (before st Stop)) c.in-Repeat.is ∙ size_repeat c.in-Repeat.name c.in-Repeat.count c.in-Repeat.body in
    let now : 4 * size (before c.args.statement.now Stop) ≡ t = c.decreases in
    let part = ap (λ l. size (code_of l)) c.deref-in-Repeat.ensures.value in
    omega (arith, sized, now, part)

pub named_in-returns-in-If : goal.named_in-returns-in-If
named_in-returns-in-If t c =
    let all = ap (λ st. span (before st Stop)) c.in-If.is ∙ span_if c.in-If.test c.in-If.yes c.in-If.no in
    let first = c.locals_named.ensures ∙ ap (λ l. span (code_of l)) c.deref.ensures.value in
    let other = c.locals_named-in-If.ensures ∙ ap (λ l. span (code_of l)) c.deref-in-If.ensures.value in
    c.greater.ensures ∙ ap (λ n. max n c.greater-nested.result) c.behind.ensures
    ∙ ap (max (suc c.in-If.test)) (c.greater-nested.ensures ∙ ap (λ n. max n c.locals_named-in-If.result) first ∙ ap (max (span (code_of c.in-If.yes.items))) other)
    ∙ sym all

pub named_in-returns-in-Repeat : goal.named_in-returns-in-Repeat
named_in-returns-in-Repeat t c =
    let all = ap (λ st. span (before st Stop)) c.in-Repeat.is ∙ span_repeat c.in-Repeat.name c.in-Repeat.count c.in-Repeat.body in
    let found = c.locals_named-in-Repeat.ensures ∙ ap (λ l. span (code_of l)) c.deref-in-Repeat.ensures.value in
    c.greater-in-Repeat.ensures ∙ ap (λ n. max n c.locals_named-in-Repeat.result) c.behind-in-Repeat.ensures ∙ ap (max (suc c.in-Repeat.count)) found ∙ sym all

pub locals_named-named_in-requires : goal.locals_named-named_in-requires
locals_named-named_in-requires t c =
    let st = c.statement-item.result in
    let i = c.loop-statement.statement-index in
    let there = slice_get_read c.args.list.now _ i st refl c.loop-statement-test.true c.statement-item.is in
    let smaller = size_at i c.args.list.now st there in
    let now : 4 * size (code_of c.args.list.now) + 1 ≡ t = c.decreases in
    omega (arith, smaller, now)

pub locals_named-loop-statement-preserved : goal.locals_named-loop-statement-preserved
locals_named-loop-statement-preserved t c =
    let st = c.statement-item.result in
    let i = c.loop-statement.statement-index in
    let there = slice_get_read c.args.list.now _ i st refl c.loop-statement-test.true c.statement-item.is in
    let most : c.greater-most.result ≡ max c.loop-statement.most (span (before st Stop)) = c.greater-most.ensures ∙ ap (max c.loop-statement.most) c.named_in.ensures in
    record {
      left = ap (λ n. max n (span (code_of (drop (i + 1) c.args.list.now)))) most ∙ sym (span_left i c.args.list.now st c.loop-statement.most there) ∙ c.loop-statement.invariant.left;
    }

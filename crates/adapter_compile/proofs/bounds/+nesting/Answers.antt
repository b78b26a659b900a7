use Rattle.std.proofs.Common.{◌≡◌, ◌+◌, ◌*◌, max, drop, refl, sym, ap, ◌∙◌, arith}
use Rattle.std.proofs.Math.Nat.{le-max_left, le-max_right}
use Rattle.std.proofs.lemmas.Option.{slice_get_read}
use Rattle.adapter_code.specs.Code.{Stop, before, code_of}
use Rattle.adapter_code.proofs.Codes.{size, size_at, size_if, size_repeat}
use Rattle.adapter_compile.specs.Bounds.{nesting}
use Rattle.adapter_compile.proofs.Lists.{nesting_if, nesting_repeat, nesting_at, nesting_left}
use Rattle.adapter_compile.proofs.bounds.+nesting.Goals as goal

pub nesting_in-nesting_of-requires : goal.nesting_in-nesting_of-requires
nesting_in-nesting_of-requires t c =
    let sized = ap (λ st. size (before st Stop)) c.in-If.is ∙ size_if c.in-If.test c.in-If.yes c.in-If.no in
    let now : 4 * size (before c.args.statement.now Stop) ≡ t = c.decreases in
    let part = ap (λ l. size (code_of l)) c.deref.ensures.value in
    let nested = ap (λ st. nesting (before st Stop)) c.in-If.is ∙ nesting_if c.in-If.test c.in-If.yes c.in-If.no in
    let same = ap (λ l. nesting (code_of l)) c.deref.ensures.value in
    let le = le-max_left (nesting (code_of c.in-If.yes.items)) (nesting (code_of c.in-If.no.items)) in
    (omega (arith, sized, now, part), omega (arith, c.requires, nested, same, le))

pub nesting_in-nesting_of-requires-in-If : goal.nesting_in-nesting_of-requires-in-If
nesting_in-nesting_of-requires-in-If t c =
    let sized = ap (λ st. size (before st Stop)) c.in-If.is ∙ size_if c.in-If.test c.in-If.yes c.in-If.no in
    let now : 4 * size (before c.args.statement.now Stop) ≡ t = c.decreases in
    let part = ap (λ l. size (code_of l)) c.deref-in-If.ensures.value in
    let nested = ap (λ st. nesting (before st Stop)) c.in-If.is ∙ nesting_if c.in-If.test c.in-If.yes c.in-If.no in
    let same = ap (λ l. nesting (code_of l)) c.deref-in-If.ensures.value in
    let le = le-max_right (nesting (code_of c.in-If.yes.items)) (nesting (code_of c.in-If.no.items)) in
    (omega (arith, sized, now, part), omega (arith, c.requires, nested, same, le))

pub nesting_in-nesting_of-requires-in-Repeat : goal.nesting_in-nesting_of-requires-in-Repeat
nesting_in-nesting_of-requires-in-Repeat t c =
    let sized = ap (λ st. size (before st Stop)) c.in-Repeat.is ∙ size_repeat c.in-Repeat.name c.in-Repeat.count c.in-Repeat.body in
    let now : 4 * size (before c.args.statement.now Stop) ≡ t = c.decreases in
    let part = ap (λ l. size (code_of l)) c.deref-in-Repeat.ensures.value in
    let nested = ap (λ st. nesting (before st Stop)) c.in-Repeat.is ∙ nesting_repeat c.in-Repeat.name c.in-Repeat.count c.in-Repeat.body in
    let same = ap (λ l. nesting (code_of l)) c.deref-in-Repeat.ensures.value in
    (omega (arith, sized, now, part), omega (arith, c.requires, nested, same))

pub nesting_in-overflow_add-result : goal.nesting_in-overflow_add-result
nesting_in-overflow_add-result t c =
    let nested = ap (λ st. nesting (before st Stop)) c.in-Repeat.is ∙ nesting_repeat c.in-Repeat.name c.in-Repeat.count c.in-Repeat.body in
    let same = ap (λ l. nesting (code_of l)) c.deref-in-Repeat.ensures.value in
    let found : c.nesting_of-in-Repeat.result ≡ nesting (code_of c.deref-in-Repeat.result.now) = c.nesting_of-in-Repeat.ensures in
    omega (arith, c.requires, nested, same, found)

pub nesting_in-returns-in-If : goal.nesting_in-returns-in-If
nesting_in-returns-in-If t c =
    let nested = ap (λ st. nesting (before st Stop)) c.in-If.is ∙ nesting_if c.in-If.test c.in-If.yes c.in-If.no in
    let first = c.nesting_of.ensures ∙ ap (λ l. nesting (code_of l)) c.deref.ensures.value in
    let other = c.nesting_of-in-If.ensures ∙ ap (λ l. nesting (code_of l)) c.deref-in-If.ensures.value in
    c.greater.ensures ∙ ap (λ n. max n c.nesting_of-in-If.result) first ∙ ap (max (nesting (code_of c.in-If.yes.items))) other ∙ sym nested

pub nesting_in-returns-in-Repeat : goal.nesting_in-returns-in-Repeat
nesting_in-returns-in-Repeat t c =
    let nested = ap (λ st. nesting (before st Stop)) c.in-Repeat.is ∙ nesting_repeat c.in-Repeat.name c.in-Repeat.count c.in-Repeat.body in
    let same = ap (λ l. nesting (code_of l)) c.deref-in-Repeat.ensures.value in
    let found : c.nesting_of-in-Repeat.result ≡ nesting (code_of c.deref-in-Repeat.result.now) = c.nesting_of-in-Repeat.ensures in
    omega (arith, nested, same, found)

pub nesting_of-nesting_in-requires : goal.nesting_of-nesting_in-requires
nesting_of-nesting_in-requires t c =
    let st = c.statement-item.result in
    let i = c.loop-statement.statement-index in
    let there = slice_get_read c.args.list.now _ i st refl c.loop-statement-test.true c.statement-item.is in
    let smaller = size_at i c.args.list.now st there in
    let now : 4 * size (code_of c.args.list.now) + 1 ≡ t = c.decreases in
    (omega (arith, smaller, now), omega (arith, c.requires, nesting_at i c.args.list.now st there))

pub nesting_of-loop-statement-preserved : goal.nesting_of-loop-statement-preserved
nesting_of-loop-statement-preserved t c =
    let st = c.statement-item.result in
    let i = c.loop-statement.statement-index in
    let there = slice_get_read c.args.list.now _ i st refl c.loop-statement-test.true c.statement-item.is in
    let most : c.greater-most.result ≡ max c.loop-statement.most (nesting (before st Stop)) = c.greater-most.ensures ∙ ap (max c.loop-statement.most) c.nesting_in.ensures in
    record {
      left = ap (λ n. max n (nesting (code_of (drop (i + 1) c.args.list.now)))) most ∙ sym (nesting_left i c.args.list.now st c.loop-statement.most there) ∙ c.loop-statement.invariant.left;
    }

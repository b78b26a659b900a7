use Rattle.std.proofs.Common.{◌≡◌, ℕ, zero, suc, ◌+◌, ◌*◌, ◌-◌, ◌<◌, ◌≤◌, max, false, refl, sym, ap, ◌∙◌, arith}
use Rattle.std.proofs.Math.Nat.{le-max_left, le-max_right, max-le}
use Rattle.std.proofs.lemmas.Option.{slice_get_read}
use Rattle.adapter_code.specs.Code.{Stop, before, code_of}
use Rattle.adapter_code.proofs.Codes.{size, size_at, size_if, size_repeat}
use Rattle.adapter_compile.specs.Bounds.{brackets}
use Rattle.adapter_compile.proofs.Lists.{brackets_if, brackets_repeat, brackets_at}
use Rattle.adapter_compile.proofs.bounds.+is_shallow.Goals as goal

pub list_is_within-one_is_within-requires : goal.list_is_within-one_is_within-requires
list_is_within-one_is_within-requires t c =
    let st = c.statement-item.result in
    let i = c.loop-statement.statement-index in
    let there = slice_get_read c.args.list.now _ i st refl c.loop-statement-test.true c.statement-item.is in
    let smaller = size_at i c.args.list.now st there in
    let now : 4 * size (code_of c.args.list.now) + 1 ≡ t = c.decreases in
    (omega (arith, smaller, now), tt)

pub list_is_within-returns-then-not-one_is_within : goal.list_is_within-returns-then-not-one_is_within
list_is_within-returns-then-not-one_is_within t c =
    let st = c.statement-item.result in
    let i = c.loop-statement.statement-index in
    let there = slice_get_read c.args.list.now _ i st refl c.loop-statement-test.true c.statement-item.is in (
      λ e. cc,
      λ le.
          let yes' = c.one_is_within.ensures.1 (omega (arith, le, brackets_at i c.args.list.now st there)) in
          let no' : c.one_is_within.result ≡ false = c.if-not-one_is_within.true in
          sym no' ∙ yes',
    )

pub one_is_within-list_is_within-requires : goal.one_is_within-list_is_within-requires
one_is_within-list_is_within-requires t c =
    let sized = ap (λ st. size (before st Stop)) c.in-If.is ∙ size_if c.in-If.test c.in-If.yes c.in-If.no in
    let now : 4 * size (before c.args.statement.now Stop) ≡ t = c.decreases in
    let part = ap (λ l. size (code_of l)) c.deref.ensures.value in
    (omega (arith, sized, now, part), tt)

pub one_is_within-list_is_within-requires-in-If : goal.one_is_within-list_is_within-requires-in-If
one_is_within-list_is_within-requires-in-If t c =
    let sized = ap (λ st. size (before st Stop)) c.in-If.is ∙ size_if c.in-If.test c.in-If.yes c.in-If.no in
    let now : 4 * size (before c.args.statement.now Stop) ≡ t = c.decreases in
    let part = ap (λ l. size (code_of l)) c.deref-in-If.ensures.value in
    (omega (arith, sized, now, part), tt)

pub one_is_within-list_is_within-requires-in-Repeat : goal.one_is_within-list_is_within-requires-in-Repeat
one_is_within-list_is_within-requires-in-Repeat t c =
    let sized = ap (λ st. size (before st Stop)) c.in-Repeat.is ∙ size_repeat c.in-Repeat.name c.in-Repeat.count c.in-Repeat.body in
    let now : 4 * size (before c.args.statement.now Stop) ≡ t = c.decreases in
    let part = ap (λ l. size (code_of l)) c.deref-in-Repeat.ensures.value in
    (omega (arith, sized, now, part), tt)

pub one_is_within-returns-then-not-list_is_within : goal.one_is_within-returns-then-not-list_is_within
one_is_within-returns-then-not-list_is_within t c =
    let nested = ap (λ st. brackets (before st Stop)) c.in-If.is ∙ brackets_if c.in-If.test c.in-If.yes c.in-If.no in
    let same = ap (λ l. brackets (code_of l)) c.deref.ensures.value in
    let some : c.args.most ≡ 0 → ⊥ = c.if-most-eq0.false in
    let no' : c.list_is_within.result ≡ false = c.if-not-list_is_within.true in (
      λ e. cc,
      λ le.
          let first = le-max_left (brackets (code_of c.in-If.yes.items)) (brackets (code_of c.in-If.no.items)) in
          let yes' = c.list_is_within.ensures.1 (omega (arith, nested, same, first, le)) in
          sym no' ∙ yes',
    )

pub one_is_within-returns-else-not-list_is_within : goal.one_is_within-returns-else-not-list_is_within
one_is_within-returns-else-not-list_is_within t c =
    let a = brackets (code_of c.in-If.yes.items) in
    let b = brackets (code_of c.in-If.no.items) in
    let nested = ap (λ st. brackets (before st Stop)) c.in-If.is ∙ brackets_if c.in-If.test c.in-If.yes c.in-If.no in
    let same = ap (λ l. brackets (code_of l)) c.deref.ensures.value in
    let other = ap (λ l. brackets (code_of l)) c.deref-in-If.ensures.value in
    let some : c.args.most ≡ 0 → ⊥ = c.if-most-eq0.false in
    let first : brackets (code_of c.deref.result.now) ≤ c.args.most - 1 = c.list_is_within.ensures.0 c.if-not-list_is_within.false in (
      λ e.
          let last : brackets (code_of c.deref-in-If.result.now) ≤ c.args.most - 1 = c.list_is_within-in-If.ensures.0 e in
          let both : max a b ≤ c.args.most - 1 = max-le (omega (arith, same, first)) (omega (arith, other, last)) in
          omega (arith, nested, both, positive c.args.most some),
      λ le. c.list_is_within-in-If.ensures.1 (omega (arith, nested, other, le-max_right a b, le)),
    )
  where
    positive : (n : ℕ) → (n ≡ 0 → ⊥) → 0 < n
    positive zero h = absurd (h refl)
    positive (suc n) h = omega arith

pub one_is_within-returns-else-most-lt2 : goal.one_is_within-returns-else-most-lt2
one_is_within-returns-else-most-lt2 t c =
    let nested = ap (λ st. brackets (before st Stop)) c.in-Repeat.is ∙ brackets_repeat c.in-Repeat.name c.in-Repeat.count c.in-Repeat.body in
    let same = ap (λ l. brackets (code_of l)) c.deref-in-Repeat.ensures.value in
    let some = c.if-most-lt2.false in (
      λ e. let inside = c.list_is_within-in-Repeat.ensures.0 e in omega (arith, nested, same, inside, some),
      λ le. c.list_is_within-in-Repeat.ensures.1 (omega (arith, nested, same, le, some)),
    )

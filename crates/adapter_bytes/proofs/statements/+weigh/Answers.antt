use Rattle.std.proofs.Common.{◌≡◌, ◌+◌, ◌*◌, ◌<◌, refl, sym, ap, subst, ◌∙◌, arith}
use Rattle.std.proofs.lemmas.Option.{slice_get_read}
use Rattle.adapter_code.specs.Code.{Stop, before, code_of}
use Rattle.adapter_code.proofs.Codes.{size, size_at, size_if, size_repeat}
use Rattle.adapter_bytes.specs.Spelled.{statements, AreNumbered}
use Rattle.adapter_bytes.proofs.Weighing.{statements_if, statements_repeat, numbered_if, numbered_repeat, if_some_map, if_none_map}
use Rattle.adapter_bytes.proofs.statements.+weigh.Goals as goal

pub weigh-weigh_one-requires : goal.weigh-weigh_one-requires
weigh-weigh_one-requires t c =
    let st = c.statement-item.result in
    let i = c.loop-statement.statement-index in
    let there = slice_get_read c.args.list.now _ i st refl c.loop-statement-test.true c.statement-item.is in
    let smaller = size_at i c.args.list.now st there in
    let now : 4 * size (code_of c.args.list.now) + 1 ≡ t = c.decreases in
    (omega (arith, smaller, now), tt)

pub weigh_one-weigh-requires : goal.weigh_one-weigh-requires
weigh_one-weigh-requires t c =
    let sized = ap (λ st. size (before st Stop)) c.in-If.is ∙ size_if c.in-If.test c.in-If.yes c.in-If.no in
    let now : 4 * size (before c.args.statement.now Stop) ≡ t = c.decreases in
    let part = ap (λ l. size (code_of l)) c.deref.ensures.value in
    (omega (arith, sized, now, part), tt)

pub weigh_one-weigh-requires-in-Some : goal.weigh_one-weigh-requires-in-Some
weigh_one-weigh-requires-in-Some t c =
    let sized = ap (λ st. size (before st Stop)) c.in-If.is ∙ size_if c.in-If.test c.in-If.yes c.in-If.no in
    let now : 4 * size (before c.args.statement.now Stop) ≡ t = c.decreases in
    let part = ap (λ l. size (code_of l)) c.deref-in-Some.ensures.value in
    (omega (arith, sized, now, part), tt)

pub weigh_one-weigh-requires-in-Repeat : goal.weigh_one-weigh-requires-in-Repeat
weigh_one-weigh-requires-in-Repeat t c =
    let sized = ap (λ st. size (before st Stop)) c.in-Repeat.is ∙ size_repeat c.in-Repeat.name c.in-Repeat.count c.in-Repeat.body in
    let now : 4 * size (before c.args.statement.now Stop) ≡ t = c.decreases in
    let part = ap (λ l. size (code_of l)) c.deref-in-Repeat.ensures.value in
    (omega (arith, sized, now, part), tt)

pub weigh_one-returns-in-Some-weigh-clause-some : goal.weigh_one-returns-in-Some-weigh-clause-some
weigh_one-returns-in-Some-weigh-clause-some t c =
    let whole = ap (λ st. statements (before st Stop)) c.in-If.is ∙ statements_if c.in-If.test c.in-If.yes c.in-If.no in
    let first = ap (λ l. statements (code_of l)) c.deref.ensures.value in
    let other = ap (λ l. statements (code_of l)) c.deref-in-Some.ensures.value in
    if_some_map c.spend.result _ _ (λ x e. omega (arith, e, whole, first, other, c.in-Some.ensures.some, c.in-Some-weigh.ensures.some)) c.spend.ensures.some

pub weigh_one-returns-in-Some-weigh-clause-none : goal.weigh_one-returns-in-Some-weigh-clause-none
weigh_one-returns-in-Some-weigh-clause-none t c =
    let whole = ap (λ st. statements (before st Stop)) c.in-If.is ∙ statements_if c.in-If.test c.in-If.yes c.in-If.no in
    let first = ap (λ l. statements (code_of l)) c.deref.ensures.value in
    let other = ap (λ l. statements (code_of l)) c.deref-in-Some.ensures.value in
    if_none_map c.spend.result _ _ (λ e. omega (arith, e, whole, first, other, c.in-Some.ensures.some, c.in-Some-weigh.ensures.some)) c.spend.ensures.none

pub weigh_one-returns-in-Some-weigh-clause-numbered : goal.weigh_one-returns-in-Some-weigh-clause-numbered
weigh_one-returns-in-Some-weigh-clause-numbered t c =
    let first = subst (λ l. AreNumbered (code_of l)) c.deref.ensures.value c.in-Some.ensures.numbered in
    let other = subst (λ l. AreNumbered (code_of l)) c.deref-in-Some.ensures.value c.in-Some-weigh.ensures.numbered in
    let all = subst (λ st. AreNumbered (before st Stop)) (sym c.in-If.is) (numbered_if c.in-If.test c.in-If.yes c.in-If.no first other) in
    if_some_map c.spend.result _ _ (λ x e. all) c.spend.ensures.some

pub weigh_one-returns-in-None-weigh-clause-none : goal.weigh_one-returns-in-None-weigh-clause-none
weigh_one-returns-in-None-weigh-clause-none t c =
    let whole = ap (λ st. statements (before st Stop)) c.in-If.is ∙ statements_if c.in-If.test c.in-If.yes c.in-If.no in
    let first = ap (λ l. statements (code_of l)) c.deref.ensures.value in
    let other = ap (λ l. statements (code_of l)) c.deref-in-Some.ensures.value in
    omega (arith, whole, first, other, c.in-Some.ensures.some, c.in-None-weigh.ensures.none)

pub weigh_one-returns-in-None-clause-none : goal.weigh_one-returns-in-None-clause-none
weigh_one-returns-in-None-clause-none t c =
    let whole = ap (λ st. statements (before st Stop)) c.in-If.is ∙ statements_if c.in-If.test c.in-If.yes c.in-If.no in
    let first = ap (λ l. statements (code_of l)) c.deref.ensures.value in
    omega (arith, whole, first, c.in-None.ensures.none)

pub weigh_one-returns-in-Some-weigh-2-clause-some : goal.weigh_one-returns-in-Some-weigh-2-clause-some
weigh_one-returns-in-Some-weigh-2-clause-some t c =
    let whole = ap (λ st. statements (before st Stop)) c.in-Repeat.is ∙ statements_repeat c.in-Repeat.name c.in-Repeat.count c.in-Repeat.body in
    let body = ap (λ l. statements (code_of l)) c.deref-in-Repeat.ensures.value in
    if_some_map c.spend-in-Some-weigh-2.result _ _ (λ x e. omega (arith, e, whole, body, c.in-Some-weigh-2.ensures.some)) c.spend-in-Some-weigh-2.ensures.some

pub weigh_one-returns-in-Some-weigh-2-clause-none : goal.weigh_one-returns-in-Some-weigh-2-clause-none
weigh_one-returns-in-Some-weigh-2-clause-none t c =
    let whole = ap (λ st. statements (before st Stop)) c.in-Repeat.is ∙ statements_repeat c.in-Repeat.name c.in-Repeat.count c.in-Repeat.body in
    let body = ap (λ l. statements (code_of l)) c.deref-in-Repeat.ensures.value in
    if_none_map c.spend-in-Some-weigh-2.result _ _ (λ e. omega (arith, e, whole, body, c.in-Some-weigh-2.ensures.some)) c.spend-in-Some-weigh-2.ensures.none

pub weigh_one-returns-in-Some-weigh-2-clause-numbered : goal.weigh_one-returns-in-Some-weigh-2-clause-numbered
weigh_one-returns-in-Some-weigh-2-clause-numbered t c =
    let body = subst (λ l. AreNumbered (code_of l)) c.deref-in-Repeat.ensures.value c.in-Some-weigh-2.ensures.numbered in
    let all = subst (λ st. AreNumbered (before st Stop)) (sym c.in-Repeat.is) (numbered_repeat c.in-Repeat.name c.in-Repeat.count c.in-Repeat.body body) in
    if_some_map c.spend-in-Some-weigh-2.result _ _ (λ x e. all) c.spend-in-Some-weigh-2.ensures.some

pub weigh_one-returns-in-None-weigh-2-clause-none : goal.weigh_one-returns-in-None-weigh-2-clause-none
weigh_one-returns-in-None-weigh-2-clause-none t c =
    let whole = ap (λ st. statements (before st Stop)) c.in-Repeat.is ∙ statements_repeat c.in-Repeat.name c.in-Repeat.count c.in-Repeat.body in
    let body = ap (λ l. statements (code_of l)) c.deref-in-Repeat.ensures.value in
    omega (arith, whole, body, c.in-None-weigh-2.ensures.none)

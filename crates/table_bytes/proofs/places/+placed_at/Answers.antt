use Rattle.std.proofs.Common.{◌≡◌, ◌+◌, ◌*◌, length, drop, refl, sym, ap, subst, ◌∙◌, true, arith}
use Rattle.std.proofs.lemmas.List.{drop_all}
use Rattle.std.proofs.lemmas.Option.{slice_get_read}
use Rattle.adapter_code.specs.Code.{Choose, Turns, Stop, before, code_of, followed_by}
use Rattle.adapter_code.specs.Placed.{place_in, placed, within}
use Rattle.adapter_code.proofs.Codes.{size, size_at, size_if, size_repeat}
use Rattle.table_bytes.proofs.Placing.{within_at, within_if, within_repeat, placed_if, placed_repeat, placed_more, placed_all}
use Rattle.table_bytes.proofs.places.+placed_at.Goals as goal

pub one_at-placed_at-requires : goal.one_at-placed_at-requires
one_at-placed_at-requires t c =
    let sized = ap (λ st. size (before st Stop)) c.in-If.is ∙ size_if c.in-If.test c.in-If.yes c.in-If.no in
    let now : 4 * size (before c.args.statement.now Stop) ≡ t = c.decreases in
    let part = ap (λ l. size (code_of l)) c.deref.ensures.value in
    let parts = within_if (length c.args.places.now) c.in-If.test c.in-If.yes c.in-If.no (sym (ap (λ st. within (length c.args.places.now) (before st Stop)) c.in-If.is) ∙ c.requires) in
    (omega (arith, sized, now, part), ap (λ l. within (length c.args.places.now) (code_of l)) c.deref.ensures.value ∙ parts.1)

pub one_at-placed_at-requires-in-If : goal.one_at-placed_at-requires-in-If
one_at-placed_at-requires-in-If t c =
    let sized = ap (λ st. size (before st Stop)) c.in-If.is ∙ size_if c.in-If.test c.in-If.yes c.in-If.no in
    let now : 4 * size (before c.args.statement.now Stop) ≡ t = c.decreases in
    let part = ap (λ l. size (code_of l)) c.deref-in-If.ensures.value in
    let parts = within_if (length c.args.places.now) c.in-If.test c.in-If.yes c.in-If.no (sym (ap (λ st. within (length c.args.places.now) (before st Stop)) c.in-If.is) ∙ c.requires) in
    (omega (arith, sized, now, part), ap (λ l. within (length c.args.places.now) (code_of l)) c.deref-in-If.ensures.value ∙ parts.2)

pub one_at-placed_at-requires-in-Repeat : goal.one_at-placed_at-requires-in-Repeat
one_at-placed_at-requires-in-Repeat t c =
    let sized = ap (λ st. size (before st Stop)) c.in-Repeat.is ∙ size_repeat c.in-Repeat.name c.in-Repeat.count c.in-Repeat.body in
    let now : 4 * size (before c.args.statement.now Stop) ≡ t = c.decreases in
    let part = ap (λ l. size (code_of l)) c.deref-in-Repeat.ensures.value in
    let parts = within_repeat (length c.args.places.now) c.in-Repeat.name c.in-Repeat.count c.in-Repeat.body (sym (ap (λ st. within (length c.args.places.now) (before st Stop)) c.in-Repeat.is) ∙ c.requires) in
    (omega (arith, sized, now, part), ap (λ l. within (length c.args.places.now) (code_of l)) c.deref-in-Repeat.ensures.value ∙ parts.1)

pub one_at-returns-in_ok-other-in-If : goal.one_at-returns-in_ok-other-in-If
one_at-returns-in_ok-other-in-If t c =
    let places = c.args.places.now in
    let whole = ap (λ st. placed places (before st Stop)) c.in-If.is ∙ placed_if places c.in-If.test c.in-If.yes c.in-If.no in
    let first = c.in_ok-first-in-If.ensures ∙ ap (λ l. placed places (code_of l)) c.deref.ensures.value in
    let other = c.in_ok-other-in-If.ensures ∙ ap (λ l. placed places (code_of l)) c.deref-in-If.ensures.value in
    λ rest. c.choose.ensures rest ∙ ap (λ i. Choose i (code_of c.in_ok-first-in-If.first.items) (code_of c.in_ok-other-in-If.other.items) rest) c.at.ensures
    ∙ ap (λ f. Choose (place_in places c.in-If.test) f (code_of c.in_ok-other-in-If.other.items) rest) first
    ∙ ap (λ o. Choose (place_in places c.in-If.test) (placed places (code_of c.in-If.yes.items)) o rest) other
    ∙ sym (ap (λ q. followed_by q rest) whole)

pub one_at-returns-in_ok-body-in-Repeat : goal.one_at-returns-in_ok-body-in-Repeat
one_at-returns-in_ok-body-in-Repeat t c =
    let places = c.args.places.now in
    let whole = ap (λ st. placed places (before st Stop)) c.in-Repeat.is ∙ placed_repeat places c.in-Repeat.name c.in-Repeat.count c.in-Repeat.body in
    let body = c.in_ok-body-in-Repeat.ensures ∙ ap (λ l. placed places (code_of l)) c.deref-in-Repeat.ensures.value in
    λ rest. c.repeat.ensures rest ∙ ap (λ i. Turns c.in-Repeat.name i (code_of c.in_ok-body-in-Repeat.body.items) rest) c.at-in-Repeat.ensures
    ∙ ap (λ b. Turns c.in-Repeat.name (place_in places c.in-Repeat.count) b rest) body
    ∙ sym (ap (λ q. followed_by q rest) whole)

pub placed_at-one_at-requires : goal.placed_at-one_at-requires
placed_at-one_at-requires t c =
    let st = c.statement-item.result in
    let i = c.loop-statement.statement-index in
    let there = slice_get_read c.args.list.now _ i st refl c.loop-statement-test.true c.statement-item.is in
    let smaller = size_at i c.args.list.now st there in
    let now : 4 * size (code_of c.args.list.now) + 1 ≡ t = c.decreases in
    (omega (arith, smaller, now), within_at (length c.args.places.now) i c.args.list.now st c.requires there)

pub placed_at-loop-statement-preserved : goal.placed_at-loop-statement-preserved
placed_at-loop-statement-preserved t c =
    let st = c.statement-item.result in
    let i = c.loop-statement.statement-index in
    let there = slice_get_read c.args.list.now _ i st refl c.loop-statement-test.true c.statement-item.is in
    record {
      so_far = ap (λ l. followed_by (code_of l) (placed c.args.places.now (code_of (drop (i + 1) c.args.list.now)))) c.in_ok-push.ensures.items ∙ placed_more c.args.places.now i c.args.list.now c.loop-statement.new.items st c.in_ok-one_at.field-0 there c.in_ok-one_at.ensures c.loop-statement.invariant.so_far;
    }

pub placed_at-returns : goal.placed_at-returns
placed_at-returns t c =
    placed_all c.args.places.now c.loop-statement.statement-index c.args.list.now c.loop-statement.new.items (drop_all c.loop-statement.statement-index c.args.list.now c.loop-statement-test.false) c.loop-statement.invariant.so_far

use Rattle.std.proofs.Common.{◌≡◌, ℕ, suc, ◌+◌, ◌-◌, ◌*◌, drop, refl, sym, ap, ◌∙◌, subst, arith, IfOk, Ok, Err, Result}
use Rattle.std.proofs.lemmas.List.{drop_all}
use Rattle.std.proofs.lemmas.Option.{slice_get_read}
use Rattle.virt_base.specs.declared.fault.NoMemory.{NoMemory}
use Rattle.adapter_code.specs.declared.flow.Flow.{Flow}
use Rattle.adapter_code.specs.declared.flow.Flow.TheVariants.{Left as Leaves, Over as Ends}
use Rattle.adapter_code.specs.declared.statement.Width.TheVariants.{Narrow}
use Rattle.adapter_code.specs.Code.{Stop, before, code_of}
use Rattle.adapter_code.specs.Run.{turns, chosen, number_at, runs}
use Rattle.adapter_code.specs.Shown.{seen, Shows}
use Rattle.adapter_code.specs.Plain.{IsUsable, AreUsable}
use Rattle.adapter_code.proofs.Places.{has_place}
use Rattle.adapter_code.proofs.Codes.{size, size_at, size_if, size_repeat, before_if, before_repeat, usable_at, usable_if, usable_repeat}
use Rattle.adapter_code.proofs.Running.{IsTurning, left_all, left_more, left_last, left_none, last_of, turning_all, turning_more, turning_none, turning_out, turning_last, at_stop, chosen_yes, chosen_no}
use Rattle.adapter_code.proofs.evaluator.+eval.Goals as goal

pub run_list-loop-statement-init : goal.run_list-loop-statement-init
run_list-loop-statement-init t c = record { rest = left_all _ _; wide = refl }

pub repeat-loop-left-init : goal.repeat-loop-left-init
repeat-loop-left-init t c = record { rest = turning_all _ _ _ _; wide = refl }

pub run_list-run_one-requires : goal.run_list-run_one-requires
run_list-run_one-requires t c =
    let st = c.statement-item.result in
    let i = c.loop-statement.statement-index in
    let there = slice_get_read c.args.list.now _ i st refl c.loop-statement-test.true c.statement-item.is in
    let smaller = size_at i c.args.list.now st there in
    let now : 4 * size (code_of c.args.list.now) + 1 ≡ t = c.decreases in
    (omega (arith, smaller, now), subst (λ w. IsUsable w st) (sym c.loop-statement.invariant.wide) (usable_at _ i c.args.list.now st c.requires there))

pub run_list-loop-statement-preserved : goal.run_list-loop-statement-preserved
run_list-loop-statement-preserved t c =
    let st = c.statement-item.result in
    let i = c.loop-statement.statement-index in
    let there = slice_get_read c.args.list.now _ i st refl c.loop-statement-test.true c.statement-item.is in
    record {
      rest = left_more c.args.list.now i st (seen c.args.state.now) (seen c.loop-statement.state) (seen c.run_one.new.state) there c.loop-statement.invariant.rest
          (λ k. subst (λ w. Shows (runs (before st Stop) k (seen c.loop-statement.state)) w (seen c.run_one.new.state)) c.in-Next.is (c.in_ok-other.ensures.shows k));
      wide = c.in_ok-other.ensures.wide ∙ c.loop-statement.invariant.wide;
    }

pub run_list-returns-in_default : goal.run_list-returns-in_default
run_list-returns-in_default t c =
    let st = c.statement-item.result in
    let i = c.loop-statement.statement-index in
    let there = slice_get_read c.args.list.now _ i st refl c.loop-statement-test.true c.statement-item.is in
    record {
      shows = left_last c.args.list.now i st (seen c.args.state.now) (seen c.loop-statement.state) (seen c.run_one.new.state) c.in_ok-other.other there c.loop-statement.invariant.rest c.in_ok-other.ensures.shows (last_of c.in_ok-other.other c.in_default.not-Next);
      wide = c.in_ok-other.ensures.wide ∙ c.loop-statement.invariant.wide;
    }

pub run_list-returns-clause-shows : goal.run_list-returns-clause-shows
run_list-returns-clause-shows t c =
    left_none c.args.list.now (drop c.loop-statement.statement-index c.args.list.now) (seen c.args.state.now) (seen c.loop-statement.state) c.loop-statement.invariant.rest (drop_all c.loop-statement.statement-index c.args.list.now c.loop-statement-test.false)

pub repeat-loop-left-preserved : goal.repeat-loop-left-preserved
repeat-loop-left-preserved t c =
    let e : c.loop-left.left ≡ suc (c.loop-left.left - 1) = omega (arith, c.loop-left-test.true) in
    let f = runs (code_of c.args.body.now) in
    record {
      rest = turning_more c.args.name f c.args.count (c.loop-left.left - 1) (seen c.args.state.now) (seen c.loop-left.state) (seen c.run_list.new.state)
          (subst (λ n. IsTurning c.args.name f c.args.count n (seen c.args.state.now) (seen c.loop-left.state)) e c.loop-left.invariant.rest)
          (λ k. subst (λ w. Shows (f k (seen c.loop-left.state)) w (seen c.run_list.new.state)) c.in-Next.is (c.in_ok-run_list.ensures.shows k));
      wide = c.in_ok-run_list.ensures.wide ∙ c.loop-left.invariant.wide;
    }

pub repeat-returns-clause-shows : goal.repeat-returns-clause-shows
repeat-returns-clause-shows t c =
    let e : c.loop-left.left ≡ 0 = omega (arith, c.loop-left-test.false) in
    turning_none c.args.name (runs (code_of c.args.body.now)) c.args.count (seen c.args.state.now) (seen c.loop-left.state)
    (subst (λ n. IsTurning c.args.name (runs (code_of c.args.body.now)) c.args.count n (seen c.args.state.now) (seen c.loop-left.state)) e c.loop-left.invariant.rest)

pub run_one-run_list-requires : goal.run_one-run_list-requires
run_one-run_list-requires t c =
    let sized = ap (λ st. size (before st Stop)) c.in-If.is ∙ size_if c.in-If.test c.in-If.yes c.in-If.no in
    let now : 4 * size (before c.args.statement.now Stop) ≡ t = c.decreases in
    let part = ap (λ l. size (code_of l)) c.deref.ensures.value in
    (omega (arith, sized, now, part), subst (AreUsable _) (sym c.deref.ensures.value) (usable_if _ c.in-If.test c.in-If.yes c.in-If.no (subst (IsUsable _) c.in-If.is c.requires)).1)

pub run_one-run_list-requires-else-number-ne0 : goal.run_one-run_list-requires-else-number-ne0
run_one-run_list-requires-else-number-ne0 t c =
    let sized = ap (λ st. size (before st Stop)) c.in-If.is ∙ size_if c.in-If.test c.in-If.yes c.in-If.no in
    let now : 4 * size (before c.args.statement.now Stop) ≡ t = c.decreases in
    let part = ap (λ l. size (code_of l)) c.deref-else-number-ne0.ensures.value in
    (omega (arith, sized, now, part), subst (AreUsable _) (sym c.deref-else-number-ne0.ensures.value) (usable_if _ c.in-If.test c.in-If.yes c.in-If.no (subst (IsUsable _) c.in-If.is c.requires)).2)

pub run_one-number-requires : goal.run_one-number-requires
run_one-number-requires t c =
    has_place c.args.state.now.locals.items c.in-If.test Narrow (usable_if _ c.in-If.test c.in-If.yes c.in-If.no (subst (IsUsable _) c.in-If.is c.requires)).0

pub run_one-number-turns-requires : goal.run_one-number-turns-requires
run_one-number-turns-requires t c =
    has_place c.args.state.now.locals.items c.in-Repeat.count Narrow (usable_repeat _ c.in-Repeat.name c.in-Repeat.count c.in-Repeat.body (subst (IsUsable _) c.in-Repeat.is c.requires)).0

pub run_one-repeat-requires : goal.run_one-repeat-requires
run_one-repeat-requires t c =
    let sized = ap (λ st. size (before st Stop)) c.in-Repeat.is ∙ size_repeat c.in-Repeat.name c.in-Repeat.count c.in-Repeat.body in
    let now : 4 * size (before c.args.statement.now Stop) ≡ t = c.decreases in
    let part = ap (λ l. size (code_of l)) c.deref-in-Repeat.ensures.value in
    (omega (arith, sized, now, part), subst (AreUsable _) (sym c.deref-in-Repeat.ensures.value) (usable_repeat _ c.in-Repeat.name c.in-Repeat.count c.in-Repeat.body (subst (IsUsable _) c.in-Repeat.is c.requires)).1)

if_ok_map : (r : Result Flow NoMemory) (P Q : Flow → Type 0) → IfOk r P → ((w : Flow) → P w → Q w) → IfOk r Q
if_ok_map (Ok w) P Q p f = f w p
if_ok_map (Err e) P Q p f = tt

pub repeat-returns-then-other-name-clause-shows : goal.repeat-returns-then-other-name-clause-shows
repeat-returns-then-other-name-clause-shows t c =
    let e : c.loop-left.left ≡ suc (c.loop-left.left - 1) = omega (arith, c.loop-left-test.true) in
    let f = runs (code_of c.args.body.now) in
    turning_out c.args.name f c.args.count (c.loop-left.left - 1) (seen c.args.state.now) (seen c.loop-left.state) (seen c.run_list.new.state)
    (subst (λ n. IsTurning c.args.name f c.args.count n (seen c.args.state.now) (seen c.loop-left.state)) e c.loop-left.invariant.rest)
    (λ k. subst (λ w. Shows (f k (seen c.loop-left.state)) w (seen c.run_list.new.state)) (c.in-Left.is ∙ ap Leaves c.if-other-name.true) (c.in_ok-run_list.ensures.shows k))

pub repeat-returns-in-Left-clause-shows : goal.repeat-returns-in-Left-clause-shows
repeat-returns-in-Left-clause-shows t c =
    let e : c.loop-left.left ≡ suc (c.loop-left.left - 1) = omega (arith, c.loop-left-test.true) in
    let f = runs (code_of c.args.body.now) in
    turning_last c.args.name f c.args.count (c.loop-left.left - 1) (seen c.args.state.now) (seen c.loop-left.state) (seen c.run_list.new.state) (Leaves c.in-Left.other)
    (subst (λ n. IsTurning c.args.name f c.args.count n (seen c.args.state.now) (seen c.loop-left.state)) e c.loop-left.invariant.rest)
    (λ k. subst (λ w. Shows (f k (seen c.loop-left.state)) w (seen c.run_list.new.state)) c.in-Left.is (c.in_ok-run_list.ensures.shows k))
    c.if-other-name.false

pub repeat-returns-in-Over-clause-shows : goal.repeat-returns-in-Over-clause-shows
repeat-returns-in-Over-clause-shows t c =
    let e : c.loop-left.left ≡ suc (c.loop-left.left - 1) = omega (arith, c.loop-left-test.true) in
    let f = runs (code_of c.args.body.now) in
    turning_last c.args.name f c.args.count (c.loop-left.left - 1) (seen c.args.state.now) (seen c.loop-left.state) (seen c.run_list.new.state) (Ends c.in-Over.end)
    (subst (λ n. IsTurning c.args.name f c.args.count n (seen c.args.state.now) (seen c.loop-left.state)) e c.loop-left.invariant.rest)
    (λ k. subst (λ w. Shows (f k (seen c.loop-left.state)) w (seen c.run_list.new.state)) c.in-Over.is (c.in_ok-run_list.ensures.shows k))
    tt

pub run_one-returns-then-number-ne0-clause-shows : goal.run_one-returns-then-number-ne0-clause-shows
run_one-returns-then-number-ne0-clause-shows t c =
    let s = seen c.args.state.now in
    let u = seen c.run_list.new.state in
    let x = number_at s c.in-If.test in
    if_ok_map c.run_list.result (λ w. (k : ℕ) → Shows (runs (code_of c.deref.result.now) k s) w u) (λ w. (k : ℕ) → Shows (runs (before c.args.statement.now Stop) k s) w u) c.run_list.ensures.shows
    (λ w h k.
    subst (λ code. Shows (runs code k s) w u) (sym (ap (λ st. before st Stop) c.in-If.is ∙ before_if c.in-If.test c.in-If.yes c.in-If.no Stop))
    (at_stop (chosen x (runs (code_of c.in-If.yes.items) (suc k) s) (runs (code_of c.in-If.no.items) (suc k) s)) w u
    (subst (λ r. Shows r w u) (sym (chosen_yes x (runs (code_of c.in-If.yes.items) (suc k) s) (runs (code_of c.in-If.no.items) (suc k) s) (λ z. c.if-number-ne0.true (c.number.ensures.value ∙ z))))
    (subst (λ l. Shows (runs (code_of l) (suc k) s) w u) c.deref.ensures.value (h (suc k))))))

pub run_one-returns-else-number-ne0-clause-shows : goal.run_one-returns-else-number-ne0-clause-shows
run_one-returns-else-number-ne0-clause-shows t c =
    let s = seen c.args.state.now in
    let u = seen c.run_list-else-number-ne0.new.state in
    let x = number_at s c.in-If.test in
    if_ok_map c.run_list-else-number-ne0.result (λ w. (k : ℕ) → Shows (runs (code_of c.deref-else-number-ne0.result.now) k s) w u) (λ w. (k : ℕ) → Shows (runs (before c.args.statement.now Stop) k s) w u) c.run_list-else-number-ne0.ensures.shows
    (λ w h k.
    subst (λ code. Shows (runs code k s) w u) (sym (ap (λ st. before st Stop) c.in-If.is ∙ before_if c.in-If.test c.in-If.yes c.in-If.no Stop))
    (at_stop (chosen x (runs (code_of c.in-If.yes.items) (suc k) s) (runs (code_of c.in-If.no.items) (suc k) s)) w u
    (subst (λ r. Shows r w u) (sym (chosen_no x (runs (code_of c.in-If.yes.items) (suc k) s) (runs (code_of c.in-If.no.items) (suc k) s) (sym c.number.ensures.value ∙ c.if-number-ne0.false)))
    (subst (λ l. Shows (runs (code_of l) (suc k) s) w u) c.deref-else-number-ne0.ensures.value (h (suc k))))))

pub run_one-returns-in-Repeat-clause-shows : goal.run_one-returns-in-Repeat-clause-shows
run_one-returns-in-Repeat-clause-shows t c =
    let s = seen c.args.state.now in
    let u = seen c.repeat.new.state in
    if_ok_map c.repeat.result (λ w. (k : ℕ) → Shows (turns c.in-Repeat.name (runs (code_of c.deref-in-Repeat.result.now)) c.number-turns.result k s) w u) (λ w. (k : ℕ) → Shows (runs (before c.args.statement.now Stop) k s) w u) c.repeat.ensures.shows
    (λ w h k.
    subst (λ code. Shows (runs code k s) w u) (sym (ap (λ st. before st Stop) c.in-Repeat.is ∙ before_repeat c.in-Repeat.name c.in-Repeat.count c.in-Repeat.body Stop))
    (at_stop (turns c.in-Repeat.name (runs (code_of c.in-Repeat.body.items)) (number_at s c.in-Repeat.count) (suc k) s) w u
    (subst (λ n. Shows (turns c.in-Repeat.name (runs (code_of c.in-Repeat.body.items)) n (suc k) s) w u) c.number-turns.ensures.value
    (subst (λ l. Shows (turns c.in-Repeat.name (runs (code_of l)) c.number-turns.result (suc k) s) w u) c.deref-in-Repeat.ensures.value (h (suc k))))))

use Rattle.std.proofs.Common.{◌≡◌, suc, ◌+◌, ◌*◌, ◌++◌, ◌∷◌, [], None, Some, OnOk, length, reverse, drop, refl, sym, ap, ◌∙◌, subst, arith}
use Rattle.std.proofs.Math.Nat.{le-max_left, le-max_right}
use Rattle.std.proofs.lemmas.List.{length-append}
use Rattle.std.proofs.lemmas.Option.{slice_get_read}
use Rattle.adapter_code.specs.Code.{Stop, before, code_of}
use Rattle.adapter_code.proofs.Codes.{size, size_at, size_if, size_repeat}
use Rattle.wasm_ast.specs.declared.instr.Instr.TheVariants.{End}
use Rattle.adapter_compile.specs.Instructions.{code_in, turns_end}
use Rattle.adapter_compile.specs.Bounds.{brackets}
use Rattle.adapter_compile.proofs.Lists.{brackets_if, brackets_repeat, brackets_at, code_left, code_if, code_repeat, reverse_pushed, choice_written, turns_written}
use Rattle.adapter_compile.proofs.code.+put_routine.Goals as goal

pub put_list-put_one-requires : goal.put_list-put_one-requires
put_list-put_one-requires t c =
    let st = c.statement-item.result in
    let i = c.loop-statement.statement-index in
    let there = slice_get_read c.args.list.now _ i st refl c.loop-statement-test.true c.statement-item.is in
    let smaller = size_at i c.args.list.now st there in
    let now : 4 * size (code_of c.args.list.now) + 1 ≡ t = c.decreases in
    let same = ap length c.loop-statement.invariant.labels in
    (omega (arith, smaller, now), (omega (arith, c.requires.room, same, brackets_at i c.args.list.now st there), omega (arith, c.requires.inner, same)))

pub put_one-put_list-requires : goal.put_one-put_list-requires
put_one-put_list-requires t c =
    let sized = ap (λ st. size (before st Stop)) c.in-If.is ∙ size_if c.in-If.test c.in-If.yes c.in-If.no in
    let now : 4 * size (before c.args.statement.now Stop) ≡ t = c.decreases in
    let part = ap (λ l. size (code_of l)) c.deref.ensures.value in
    let nested = ap (λ st. brackets (before st Stop)) c.in-If.is ∙ brackets_if c.in-If.test c.in-If.yes c.in-If.no in
    let same = ap (λ l. brackets (code_of l)) c.deref.ensures.value in
    let le = le-max_left (brackets (code_of c.in-If.yes.items)) (brackets (code_of c.in-If.no.items)) in
    let long = ap length c.in_ok-push-in-If.ensures.items ∙ length-append c.args.labels.now.items (None ∷ []) in
    (omega (arith, sized, now, part), (omega (arith, c.requires.room, nested, same, le, long), omega (arith, c.requires.inner, long)))

pub put_one-put_list-requires-in-If : goal.put_one-put_list-requires-in-If
put_one-put_list-requires-in-If t c =
    let sized = ap (λ st. size (before st Stop)) c.in-If.is ∙ size_if c.in-If.test c.in-If.yes c.in-If.no in
    let now : 4 * size (before c.args.statement.now Stop) ≡ t = c.decreases in
    let part = ap (λ l. size (code_of l)) c.deref-in-If.ensures.value in
    let nested = ap (λ st. brackets (before st Stop)) c.in-If.is ∙ brackets_if c.in-If.test c.in-If.yes c.in-If.no in
    let same = ap (λ l. brackets (code_of l)) c.deref-in-If.ensures.value in
    let le = le-max_right (brackets (code_of c.in-If.yes.items)) (brackets (code_of c.in-If.no.items)) in
    let long = ap length (c.in_ok-put_list-in-If.ensures.labels ∙ c.in_ok-push-in-If.ensures.items) ∙ length-append c.args.labels.now.items (None ∷ []) in
    (omega (arith, sized, now, part), (omega (arith, c.requires.room, nested, same, le, long), omega (arith, c.requires.inner, long)))

pub put_one-put_list-requires-in-Repeat : goal.put_one-put_list-requires-in-Repeat
put_one-put_list-requires-in-Repeat t c =
    let sized = ap (λ st. size (before st Stop)) c.in-Repeat.is ∙ size_repeat c.in-Repeat.name c.in-Repeat.count c.in-Repeat.body in
    let now : 4 * size (before c.args.statement.now Stop) ≡ t = c.decreases in
    let part = ap (λ l. size (code_of l)) c.deref-in-Repeat.ensures.value in
    let nested = ap (λ st. brackets (before st Stop)) c.in-Repeat.is ∙ brackets_repeat c.in-Repeat.name c.in-Repeat.count c.in-Repeat.body in
    let same = ap (λ l. brackets (code_of l)) c.deref-in-Repeat.ensures.value in
    let one = ap length c.in_ok-push-in-Repeat.ensures.items ∙ length-append c.args.labels.now.items (Some c.in-Repeat.name ∷ []) in
    let two = ap length c.in_ok-push-in-Repeat-2.ensures.items ∙ length-append c.push-in-Repeat.new.self.items (None ∷ []) in
    (omega (arith, sized, now, part), (omega (arith, c.requires.room, nested, same, one, two), omega (arith, c.requires.inner, one, two)))

pub put_one-returns-in_ok-put_list-in-If-2-clause-code : goal.put_one-returns-in_ok-put_list-in-If-2-clause-code
put_one-returns-in_ok-put_list-in-If-2-clause-code t c =
    let ws = c.args.widths.now in
    let calls = c.args.calls.now in
    let ls = reverse c.args.labels.now.items in
    let d = c.args.depth in
    let l1 = reverse_pushed _ _ None c.in_ok-push-in-If.ensures.items in
    let l2 = reverse_pushed _ _ None (c.in_ok-put_list-in-If.ensures.labels ∙ c.in_ok-push-in-If.ensures.items) in
    let path : c.put_list-in-If.new.out.items ++ End ∷ [] ≡ c.args.out.now.items ++ code_in ws calls ls d (before c.args.statement.now Stop) =
    choice_written c.args.out.now.items c.put.new.out.items c.put-in-If.new.out.items c.put_list.new.out.items c.put-in-If-2.new.out.items c.put_list-in-If.new.out.items
    (code_in ws calls (None ∷ ls) d (code_of c.in-If.yes.items)) (code_in ws calls (None ∷ ls) d (code_of c.in-If.no.items)) c.in-If.test
    (c.in_ok-put-in-If.ensures ∙ ap (λ i. c.args.out.now.items ++ i ∷ []) c.get.ensures)
    c.in_ok-put-in-If-2.ensures
    (c.in_ok-put_list-in-If.ensures.code ∙ ap (λ r. c.put-in-If.new.out.items ++ code_in ws calls r d (code_of c.deref.result.now)) l1 ∙ ap (λ b. c.put-in-If.new.out.items ++ code_in ws calls (None ∷ ls) d (code_of b)) c.deref.ensures.value)
    c.in_ok-put-in-If-3.ensures
    (c.in_ok-put_list-in-If-2.ensures.code ∙ ap (λ r. c.put-in-If-2.new.out.items ++ code_in ws calls r d (code_of c.deref-in-If.result.now)) l2 ∙ ap (λ b. c.put-in-If-2.new.out.items ++ code_in ws calls (None ∷ ls) d (code_of b)) c.deref-in-If.ensures.value)
    ∙ ap (λ x. c.args.out.now.items ++ x) (sym (code_if ws calls ls d c.in-If.test c.in-If.yes c.in-If.no) ∙ ap (λ st. code_in ws calls ls d (before st Stop)) (sym c.in-If.is)) in
    subst (λ x. OnOk c.put-in-If-3.result (c.put-in-If-3.new.out.items ≡ x)) path c.put-in-If-3.ensures

pub put_one-returns-in_ok-put_list-in-Repeat-clause-code : goal.put_one-returns-in_ok-put_list-in-Repeat-clause-code
put_one-returns-in_ok-put_list-in-Repeat-clause-code t c =
    let ws = c.args.widths.now in
    let calls = c.args.calls.now in
    let ls = reverse c.args.labels.now.items in
    let d = c.args.depth in
    let counter = length ws + d in
    let more : d + 1 ≡ suc d = omega arith in
    let l1 = reverse_pushed _ _ (Some c.in-Repeat.name) c.in_ok-push-in-Repeat.ensures.items in
    let l2 = reverse_pushed _ _ None c.in_ok-push-in-Repeat-2.ensures.items ∙ ap (λ r. None ∷ r) l1 in
    let path : c.put_list-in-Repeat.new.out.items ++ turns_end counter ≡ c.args.out.now.items ++ code_in ws calls ls d (before c.args.statement.now Stop) =
    turns_written c.args.out.now.items c.begin_turns.new.out.items c.put_list-in-Repeat.new.out.items (code_in ws calls (None ∷ Some c.in-Repeat.name ∷ ls) (suc d) (code_of c.in-Repeat.body.items)) c.in-Repeat.count counter
    c.in_ok-begin_turns-in-Repeat.ensures
    (c.in_ok-put_list-in-Repeat.ensures.code
    ∙ ap (λ r. c.begin_turns.new.out.items ++ code_in ws calls r (d + 1) (code_of c.deref-in-Repeat.result.now)) l2
    ∙ ap (λ n. c.begin_turns.new.out.items ++ code_in ws calls (None ∷ Some c.in-Repeat.name ∷ ls) n (code_of c.deref-in-Repeat.result.now)) more
    ∙ ap (λ b. c.begin_turns.new.out.items ++ code_in ws calls (None ∷ Some c.in-Repeat.name ∷ ls) (suc d) (code_of b)) c.deref-in-Repeat.ensures.value)
    ∙ ap (λ x. c.args.out.now.items ++ x) (sym (code_repeat ws calls ls d c.in-Repeat.name c.in-Repeat.count c.in-Repeat.body) ∙ ap (λ st. code_in ws calls ls d (before st Stop)) (sym c.in-Repeat.is)) in
    subst (λ x. OnOk c.end_turns.result (c.end_turns.new.out.items ≡ x)) path c.end_turns.ensures

pub put_list-loop-statement-preserved : goal.put_list-loop-statement-preserved
put_list-loop-statement-preserved t c =
    let ws = c.args.widths.now in
    let calls = c.args.calls.now in
    let ls = reverse c.args.labels.now.items in
    let d = c.args.depth in
    let st = c.statement-item.result in
    let i = c.loop-statement.statement-index in
    let there = slice_get_read c.args.list.now _ i st refl c.loop-statement-test.true c.statement-item.is in
    let written : c.put_one.new.out.items ≡ c.loop-statement.out.items ++ code_in ws calls ls d (before st Stop) =
    c.in_ok-put_one.ensures.code ∙ ap (λ l. c.loop-statement.out.items ++ code_in ws calls (reverse l) d (before st Stop)) c.loop-statement.invariant.labels in
    record {
      code = ap (λ o. o ++ code_in ws calls ls d (code_of (drop (i + 1) c.args.list.now))) written ∙ sym (code_left ws calls ls d i c.args.list.now st c.loop-statement.out.items there) ∙ c.loop-statement.invariant.code;
      labels = c.in_ok-put_one.ensures.labels ∙ c.loop-statement.invariant.labels;
    }

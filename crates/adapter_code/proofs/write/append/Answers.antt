use Rattle.std.proofs.Common.{◌≡◌, List, [], ◌∷◌, ◌++◌, length, refl, sym, ap, ◌∙◌, append_assoc, append-nil, arith}
use Rattle.std.specs.Vec.Iter.{into_iter_items}
use Rattle.adapter_code.specs.Code.{code_of}
use Rattle.adapter_code.proofs.Codes.{code_append}
use Rattle.adapter_code.proofs.write.append.Goals as goal

nothing_left : {X : Type 0} (l : List X) → length l ≡ 0 → l ≡ []
nothing_left [] h = refl
nothing_left (x ∷ xs) h = absurd (omega arith)

pub loop-statement-preserved : goal.loop-statement-preserved
loop-statement-preserved c =
    let at = c.loop-statement in
    let x = c.in-Some.statement in
    let steps : into_iter_items at.statement-iterator ≡ x ∷ into_iter_items c.next.new.self = c.in-Some.ensures.steps.0 in
    record {
      so_far = c.in_ok-push.ensures.items ∙ ap (λ xs. xs ++ x ∷ []) at.invariant.so_far ∙ append_assoc c.args.list.now.items at.yielded (x ∷ []);
      rest = append_assoc at.yielded (x ∷ []) _ ∙ rw (← steps) at.invariant.rest;
      count =
          let was = at.invariant.count in
          let gone = c.in-Some.ensures.steps.1 in
          let short = ap length steps in
          omega arith;
    }

pub returns : goal.returns
returns c =
    let at = c.loop-statement in
    let none = c.in-None.ensures.steps in
    let empty : into_iter_items at.statement-iterator ≡ [] = nothing_left _ (sym at.invariant.count ∙ none.0) in
    let all = sym (append-nil at.yielded) ∙ rw empty at at.invariant.rest ∙ c.into_iter-statement-iterator.ensures.into_iter_gives.0 in
    ap code_of (at.invariant.so_far ∙ ap (λ xs. c.args.list.now.items ++ xs) all) ∙ code_append c.args.list.now.items c.args.more.items

use Rattle.std.proofs.Common.{◌≡◌, ◌↔◌, Bool, true, false, ◌+◌, ◌*◌, [], ◌∷◌, ◌++◌, drop, refl, sym, ap, ◌∙◌, subst, arith, IfOk, Ok, Err, Result}
use Rattle.std.proofs.lemmas.Option.{slice_get_read}
use Rattle.virt_base.specs.declared.fault.NoMemory.{NoMemory}
use Rattle.adapter_code.specs.Code.{Stop, before, code_of}
use Rattle.adapter_code.specs.WellFormed.{IsWellFormed}
use Rattle.adapter_code.proofs.Codes.{size, size_at, size_if, size_repeat, before_if, before_repeat, well_at, well_join, well_named, named_front, named_back}
use Rattle.adapter_code.proofs.Running.{drop_from}
use Rattle.adapter_code.proofs.well_formed.+is_well_formed.Goals as goal

if_ok_map : (r : Result Bool NoMemory) (P Q : Bool → Type 0) → IfOk r P → ((w : Bool) → P w → Q w) → IfOk r Q
if_ok_map (Ok w) P Q p f = f w p
if_ok_map (Err e) P Q p f = tt

pub body_is_fine-returns-clause-fine : goal.body_is_fine-returns-clause-fine
body_is_fine-returns-clause-fine t c =
    let ws = c.args.widths.now in
    let old = c.args.names.now.items in
    let code = code_of c.args.body.now in
    let items = c.in_ok-push.ensures.items in (
      λ e. well_named ws (old ++ c.args.name ∷ []) (c.args.name ∷ old) code (λ n h. named_front n c.args.name old h) (subst (λ xs. IsWellFormed ws xs code) items (c.in_ok-fine.ensures.fine.0 e)),
      λ w. c.in_ok-fine.ensures.fine.1 (subst (λ xs. IsWellFormed ws xs code) (sym items) (well_named ws (c.args.name ∷ old) (old ++ c.args.name ∷ []) code (λ n h. named_back n c.args.name old h) w)),
    )

pub list_is_fine-one_is_fine-requires : goal.list_is_fine-one_is_fine-requires
list_is_fine-one_is_fine-requires t c =
    let st = c.statement-item.result in
    let i = c.loop-statement.statement-index in
    let there = slice_get_read c.args.list.now _ i st refl c.loop-statement-test.true c.statement-item.is in
    let smaller = size_at i c.args.list.now st there in
    let now : 4 * size (code_of c.args.list.now) + 1 ≡ t = c.decreases in
    (omega (arith, smaller, now), tt)

pub list_is_fine-returns-then-not-branch-clause-fine : goal.list_is_fine-returns-then-not-branch-clause-fine
list_is_fine-returns-then-not-branch-clause-fine t c =
    let st = c.statement-item.result in
    let i = c.loop-statement.statement-index in
    let there = slice_get_read c.args.list.now _ i st refl c.loop-statement-test.true c.statement-item.is in (
      λ e. cc,
      λ w.
          let yes' = c.in_ok-one_is_fine.ensures.fine.1 (subst (λ xs. IsWellFormed c.args.widths.now xs (before st Stop)) (sym c.loop-statement.invariant.same) (well_at c.args.widths.now c.args.names.now.items i c.args.list.now st w there)) in
          let no' : c.in_ok-one_is_fine.field-0 ≡ false = c.if-not-branch.true in
          sym no' ∙ yes',
    )

pub list_is_fine-loop-statement-preserved : goal.list_is_fine-loop-statement-preserved
list_is_fine-loop-statement-preserved t c =
    let st = c.statement-item.result in
    let i = c.loop-statement.statement-index in
    let there = slice_get_read c.args.list.now _ i st refl c.loop-statement-test.true c.statement-item.is in
    let ws = c.args.widths.now in
    let names = c.args.names.now.items in
    let yes' : c.in_ok-one_is_fine.field-0 ≡ true = c.if-not-branch.false in
    let first = subst (λ xs. IsWellFormed ws xs (before st Stop)) c.loop-statement.invariant.same (c.in_ok-one_is_fine.ensures.fine.0 yes') in
    record {
      so_far = λ w. c.loop-statement.invariant.so_far (subst (λ l. IsWellFormed ws names (code_of l)) (sym (drop_from i c.args.list.now st there)) (well_join ws names st (code_of (drop (i + 1) c.args.list.now)) first w));
      same = c.in_ok-one_is_fine.ensures.same ∙ c.loop-statement.invariant.same;
    }

pub one_is_fine-list_is_fine-requires : goal.one_is_fine-list_is_fine-requires
one_is_fine-list_is_fine-requires t c =
    let sized = ap (λ st. size (before st Stop)) c.in-If.is ∙ size_if c.in-If.test c.in-If.yes c.in-If.no in
    let now : 4 * size (before c.args.statement.now Stop) ≡ t = c.decreases in
    let part = ap (λ l. size (code_of l)) c.deref.ensures.value in
    (omega (arith, sized, now, part), tt)

pub one_is_fine-returns-then-not-branch-clause-fine : goal.one_is_fine-returns-then-not-branch-clause-fine
one_is_fine-returns-then-not-branch-clause-fine t c =
    let ws = c.args.widths.now in
    let names = c.args.names.now.items in (
      λ e. cc,
      λ w.
          let u = subst (IsWellFormed ws names) (ap (λ st. before st Stop) c.in-If.is ∙ before_if c.in-If.test c.in-If.yes c.in-If.no Stop) w in
          let yes' = c.in_ok-list_is_fine-in-If.ensures.fine.1 (subst (λ l. IsWellFormed ws names (code_of l)) (sym c.deref.ensures.value) u.1) in
          let no' : c.in_ok-list_is_fine-in-If.field-0 ≡ false = c.if-not-branch.true in
          sym no' ∙ yes',
    )

pub one_is_fine-list_is_fine-requires-in-If : goal.one_is_fine-list_is_fine-requires-in-If
one_is_fine-list_is_fine-requires-in-If t c =
    let sized = ap (λ st. size (before st Stop)) c.in-If.is ∙ size_if c.in-If.test c.in-If.yes c.in-If.no in
    let now : 4 * size (before c.args.statement.now Stop) ≡ t = c.decreases in
    let part = ap (λ l. size (code_of l)) c.deref-in-If.ensures.value in
    (omega (arith, sized, now, part), tt)

pub one_is_fine-body_is_fine-requires : goal.one_is_fine-body_is_fine-requires
one_is_fine-body_is_fine-requires t c =
    let sized = ap (λ st. size (before st Stop)) c.in-Repeat.is ∙ size_repeat c.in-Repeat.name c.in-Repeat.count c.in-Repeat.body in
    let now : 4 * size (before c.args.statement.now Stop) ≡ t = c.decreases in
    let part = ap (λ l. size (code_of l)) c.deref-in-Repeat.ensures.value in
    (omega (arith, sized, now, part), tt)

pub one_is_fine-returns-else-not-branch-clause-fine : goal.one_is_fine-returns-else-not-branch-clause-fine
one_is_fine-returns-else-not-branch-clause-fine t c =
    let ws = c.args.widths.now in
    let names = c.args.names.now.items in
    let same = ap (λ st. before st Stop) c.in-If.is ∙ before_if c.in-If.test c.in-If.yes c.in-If.no Stop in
    let tested : c.has_width.result ≡ true = c.if-not-has_width.false in
    let first_fine : c.in_ok-list_is_fine-in-If.field-0 ≡ true = c.if-not-branch.false in
    let first = subst (λ l. IsWellFormed ws names (code_of l)) c.deref.ensures.value (c.in_ok-list_is_fine-in-If.ensures.fine.0 first_fine) in
    let kept = c.in_ok-list_is_fine-in-If.ensures.same in
    if_ok_map c.list_is_fine-in-If.result (λ fine. fine ≡ true ↔ IsWellFormed ws c.list_is_fine.new.names.items (code_of c.deref-in-If.result.now)) (λ fine. fine ≡ true ↔ IsWellFormed ws names (before c.args.statement.now Stop)) c.list_is_fine-in-If.ensures.fine
    (λ fine h. (
      λ e. subst (IsWellFormed ws names) (sym same) (c.has_width.ensures.0 tested, first, subst (λ l. IsWellFormed ws names (code_of l)) c.deref-in-If.ensures.value (subst (λ xs. IsWellFormed ws xs (code_of c.deref-in-If.result.now)) kept (h.0 e)), tt),
      λ w. h.1 (subst (λ xs. IsWellFormed ws xs (code_of c.deref-in-If.result.now)) (sym kept) (subst (λ l. IsWellFormed ws names (code_of l)) (sym c.deref-in-If.ensures.value) (subst (IsWellFormed ws names) same w).2)),
    ))

pub one_is_fine-returns-else-not-has_width-2-clause-fine : goal.one_is_fine-returns-else-not-has_width-2-clause-fine
one_is_fine-returns-else-not-has_width-2-clause-fine t c =
    let ws = c.args.widths.now in
    let names = c.args.names.now.items in
    let inner = c.in-Repeat.name ∷ names in
    let same = ap (λ st. before st Stop) c.in-Repeat.is ∙ before_repeat c.in-Repeat.name c.in-Repeat.count c.in-Repeat.body Stop in
    let tested : c.has_width-in-Repeat.result ≡ true = c.if-not-has_width-2.false in
    if_ok_map c.body_is_fine.result (λ fine. fine ≡ true ↔ IsWellFormed ws inner (code_of c.deref-in-Repeat.result.now)) (λ fine. fine ≡ true ↔ IsWellFormed ws names (before c.args.statement.now Stop)) c.body_is_fine.ensures.fine
    (λ fine h. (
      λ e. subst (IsWellFormed ws names) (sym same) (c.has_width-in-Repeat.ensures.0 tested, subst (λ l. IsWellFormed ws inner (code_of l)) c.deref-in-Repeat.ensures.value (h.0 e), tt),
      λ w. h.1 (subst (λ l. IsWellFormed ws inner (code_of l)) (sym c.deref-in-Repeat.ensures.value) (subst (IsWellFormed ws names) same w).1),
    ))

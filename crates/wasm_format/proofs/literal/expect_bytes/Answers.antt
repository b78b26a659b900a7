use Rattle.std.proofs.Common.{◌≡◌, ◌∙◌, ◌+◌, ◌++◌, ℕ, List, length, drop, ap, subst, Ok}
use Rattle.std.proofs.lemmas.List.{drop-drop, take_rest}
use Rattle.virt_base.specs.Place.{rest}
use Rattle.wasm_format.proofs.Laws.{fixed_is, fixed_not}
use Rattle.wasm_format.proofs.literal.expect_bytes.Goals as goal

pub returns-then-not-begins_with-clause-value : goal.returns-then-not-begins_with-clause-value
returns-then-not-begins_with-clause-value c =
    fixed_not c.args.bytes.now (rest c.args.c.now) tt c.args.c.now.at (subst (λ (z : List ℕ). (more : List ℕ) → z ≡ c.args.bytes.now ++ more → ⊥) (take_rest c.args.c.now.bytes.now c.args.c.now.at) (c.begins_with.ensures.no c.if-not-begins_with.true))

pub returns-clause-value : goal.returns-clause-value
returns-clause-value c =
    fixed_is c.args.bytes.now (rest c.args.c.now) tt c.args.c.now.at (subst (λ (z : List ℕ). z ≡ c.args.bytes.now ++ drop (length c.args.bytes.now) z) (take_rest c.args.c.now.bytes.now c.args.c.now.at) (c.begins_with.ensures.yes c.if-not-begins_with.false))
    ∙ ap (λ (z : List ℕ). Ok (tt, record { at = c.args.c.now.at + length c.args.bytes.now; rest = z })) (drop-drop (length c.args.bytes.now) c.args.c.now.at c.args.c.now.bytes.now)

pub returns-then-not-begins_with-clause-given : goal.returns-then-not-begins_with-clause-given
returns-then-not-begins_with-clause-given c =
    fixed_not c.args.bytes.now (rest c.args.c.now) tt c.args.c.now.at (subst (λ (z : List ℕ). (more : List ℕ) → z ≡ c.args.bytes.now ++ more → ⊥) (take_rest c.args.c.now.bytes.now c.args.c.now.at) (c.begins_with.ensures.no c.if-not-begins_with.true))

pub returns-clause-given : goal.returns-clause-given
returns-clause-given c =
    fixed_is c.args.bytes.now (rest c.args.c.now) tt c.args.c.now.at (subst (λ (z : List ℕ). z ≡ c.args.bytes.now ++ drop (length c.args.bytes.now) z) (take_rest c.args.c.now.bytes.now c.args.c.now.at) (c.begins_with.ensures.yes c.if-not-begins_with.false))
    ∙ ap (λ (z : List ℕ). Ok (tt, record { at = c.args.c.now.at + length c.args.bytes.now; rest = z })) (drop-drop (length c.args.bytes.now) c.args.c.now.at c.args.c.now.bytes.now)

use Rattle.std.proofs.Common.{◌≡◌, ◌∙◌, sym, length, true, false, arith, ◌<◌}
use Rattle.std.specs.Prelude.{◌==◌, nat_eq}
use Rattle.std.specs.List.{starts_with}
use Rattle.std.proofs.lemmas.Bool.Decides.{nat_tests}
use Rattle.policy_text.proofs.PathOrder.{covers-unrank, within_longer, within_same, not_within}
use Rattle.policy_text.proofs.paths.covers.Goals as goal

pub returns-then-inner-outer : goal.returns-then-inner-outer
returns-then-inner-outer c =
    let begins : starts_with nat_eq c.args.inner.now c.args.outer.now ≡ true = sym c.starts_with.ensures.value ∙ c.if-starts_with.true in
    let same : (length c.args.inner.now == length c.args.outer.now) ≡ true = grind (arith, nat_tests) in
    same ∙ sym (covers-unrank c.args.outer.now c.args.inner.now ∙ within_same c.args.outer.now c.args.inner.now begins c.if-inner-outer.true)

pub returns-else-inner-outer : goal.returns-else-inner-outer
returns-else-inner-outer c =
    let begins : starts_with nat_eq c.args.inner.now c.args.outer.now ≡ true = sym c.starts_with.ensures.value ∙ c.if-starts_with.true in
    let longer : length c.args.outer.now < length c.args.inner.now = omega (arith, c.if-starts_with.ensures) in
    sym (covers-unrank c.args.outer.now c.args.inner.now ∙ within_longer c.args.outer.now c.args.inner.now begins 0 longer)

pub returns-else-starts_with : goal.returns-else-starts_with
returns-else-starts_with c =
    let differs : starts_with nat_eq c.args.inner.now c.args.outer.now ≡ false = sym c.starts_with.ensures.value ∙ c.if-starts_with.false in
    c.if-starts_with.false ∙ sym (covers-unrank c.args.outer.now c.args.inner.now ∙ not_within c.args.outer.now c.args.inner.now differs)

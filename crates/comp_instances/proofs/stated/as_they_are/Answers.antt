use Rattle.std.proofs.Common.{◌≡◌, ◌∷◌, ◌+◌, [], ℕ, List, ap, get_or, drop, subst, sym, length, arith}
use Rattle.std.specs.Prelude.{◌≤◌}
use Rattle.std.proofs.lemmas.List.{drop_more, at_drop_all}
use Rattle.std.proofs.lemmas.List.Elements.{All-nil, All-cons, All-head, All-tail}
use Rattle.comp_types.specs.Subtyping.{Takes}
use Rattle.comp_types.specs.Substitution.{and_pair}
use Rattle.comp_types.specs.Rules.{as_they_are}
use Rattle.comp_instances.proofs.AmongLemmas.{AreSame, gives_pair, same-pair, takes_pair}
use Rattle.comp_instances.proofs.stated.as_they_are.Goals as goal

pub loop-resource-init : goal.loop-resource-init
loop-resource-init c =
    record {
      same = subst (λ (ps : List (ℕ × ℕ)). AreSame ps) (sym c.empty-by.ensures) (λ y x h. absurd (cc));
      onward = λ partner t u. u;
      back = λ partner t. (subst (λ (ps : List (ℕ × ℕ)). Takes partner ps) (sym c.empty-by.ensures) (All-nil (λ (p : ℕ × ℕ). partner p.0 ≡ p.1)), t);
    }

pub loop-resource-preserved : goal.loop-resource-preserved
loop-resource-preserved c =
    let these = c.args.these.now in
    let i = c.loop-resource.resource-index in
    let old = c.loop-resource.by in
    let x = get_or these i 0 in
    let rest = as_they_are (drop (i + 1) these) in
    let inv = c.loop-resource.invariant in
    let pairs : as_they_are (drop i these) ≡ (x, x) ∷ rest = ap as_they_are (drop_more these i 0 c.loop-resource-test.true) in
    let made : c.push.new.self ≡ and_pair old x x = c.in_ok-push.ensures.ok in
    record {
      same = subst (λ (ps : List (ℕ × ℕ)). AreSame ps) (sym made) (same-pair old x inv.same);
      onward = λ partner t u.
          let k = takes_pair partner old x inv.same (subst (λ (ps : List (ℕ × ℕ)). Takes partner ps) made t) in
          inv.onward partner k.0 (subst (λ (ps : List (ℕ × ℕ)). Takes partner ps) (sym pairs) (All-cons (λ (p : ℕ × ℕ). partner p.0 ≡ p.1) (x, x) rest k.1 u));
      back = λ partner t.
          let k = inv.back partner t in
          let m = subst (λ (ps : List (ℕ × ℕ)). Takes partner ps) pairs k.1 in (
            subst (λ (ps : List (ℕ × ℕ)). Takes partner ps) (sym made) (gives_pair partner old x k.0 (All-head (λ (p : ℕ × ℕ). partner p.0 ≡ p.1) (x, x) rest m)),
            All-tail (λ (p : ℕ × ℕ). partner p.0 ≡ p.1) (x, x) rest m,
          );
    }

pub returns : goal.returns
returns c =
    let these = c.args.these.now in
    let i = c.loop-resource.resource-index in
    let inv = c.loop-resource.invariant in
    let past : length these ≤ i = omega (arith, c.loop-resource-test.false) in
    let none : as_they_are (drop i these) ≡ [] = at_drop_all as_they_are these i past in
    record {
      onward = λ partner t. inv.onward partner t (subst (λ (ps : List (ℕ × ℕ)). Takes partner ps) (sym none) (All-nil (λ (p : ℕ × ℕ). partner p.0 ≡ p.1)));
      back = λ partner t. (inv.back partner t).0;
    }

use Rattle.std.proofs.Common.{◌≡◌, ◌∙◌, ℕ, List, sym, subst, length, rules, vec_len}
use Rattle.core_body.specs.Parts.{FourNames, Follows}
use Rattle.core_body.proofs.PartLemmas.{follows-more}
use Rattle.core_body.proofs.parts.four_times.Goals as goal

pub loop-preserved : goal.loop-preserved
loop-preserved c =
    let ws = c.args.q.now.first.now in
    let xs = c.args.q.now.second.now in
    let ys = c.args.q.now.third.now in
    let zs = c.args.q.now.fourth.now in
    let old = c.loop.new.items in
    let place = c.name_at-place.result in
    let counted : vec_len c.loop.new ≡ length old = search rules in
    subst (λ (ns : List ℕ). Follows ws xs ys zs ns) (sym c.in_ok-push.ensures.items)
    (follows-more ws xs ys zs old place c.loop.invariant (subst (λ n. FourNames ws xs ys zs place n) (c.len-here.ensures ∙ counted) c.if-not-four_names.ensures))

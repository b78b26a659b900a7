use Rattle.std.proofs.Common.{◌≡◌, ◌∙◌, ap, sym, subst, drop, ◌++◌, ◌+◌, ◌∷◌, []}
use Rattle.std.proofs.lemmas.List.{drop_more, drop_all}
use Rattle.comp_types.specs.Substitution.{partner_of}
use Rattle.comp_types.specs.GivenResources.{numbered}
use Rattle.comp_link.specs.Linking.{own_bound}
use Rattle.instance_making.specs.Shown.{SamePartners}
use Rattle.instance_making.proofs.PartnerLemmas.{partners_step, partners_done, partners_pair}
use Rattle.instance_making.proofs.bound.bind_own.Goals as goal

pub loop-resource-preserved : goal.loop-resource-preserved
loop-resource-preserved c =
    let i = c.loop-resource.resource-index in
    let xs = c.args.own.now in
    let rest = drop (i + 1) xs in
    let now = c.loop-resource.resources in
    let m = c.loop-resource.number in
    let p = c.partner.result in
    let all = c.args.resources.now ++ own_bound c.args.inner.now (numbered xs c.args.first) in
    let next : own_bound c.args.inner.now (numbered (drop i xs) m) ≡ (m, p) ∷ own_bound c.args.inner.now (numbered rest c.in_ok-number.number) =
    ap (λ ys. own_bound c.args.inner.now (numbered ys m)) (drop_more xs i 0 c.loop-resource-test.true)
    ∙ (ap (λ q. (m, q) ∷ own_bound c.args.inner.now (numbered rest (m + 1))) (sym c.partner.ensures)
    ∙ ap (λ k. (m, p) ∷ own_bound c.args.inner.now (numbered rest k)) (sym c.in_ok-number.ensures)) in
    partners_step c.push.new.self now ((m, p) ∷ []) (own_bound c.args.inner.now (numbered rest c.in_ok-number.number)) all
    (λ r. ap (λ ys. partner_of ys r) c.in_ok-push.ensures.ok ∙ partners_pair now m p r)
    (subst (λ ys. SamePartners (now ++ ys) all) next c.loop-resource.invariant)

pub returns : goal.returns
returns c =
    let i = c.loop-resource.resource-index in
    let xs = c.args.own.now in
    partners_done c.loop-resource.resources (own_bound c.args.inner.now (numbered (drop i xs) c.loop-resource.number)) (c.args.resources.now ++ own_bound c.args.inner.now (numbered xs c.args.first))
    (ap (λ ys. own_bound c.args.inner.now (numbered ys c.loop-resource.number)) (drop_all i xs c.loop-resource-test.false)) c.loop-resource.invariant

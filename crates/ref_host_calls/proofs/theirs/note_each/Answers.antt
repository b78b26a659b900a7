use Rattle.std.proofs.Common.{◌≡◌, ◌++◌, ◌+◌, List, ◌∷◌, drop, get_or, map, rules, sym, ap, ◌∙◌}
use Rattle.wit_types.specs.declared.value.Value.{Value}
use Rattle.wit_types.specs.PlainValue.{plain_value}
use Rattle.reference_step.specs.Steps.{offer_of}
use Rattle.ref_host_calls.specs.Offers.{shown, shown_all}
use Rattle.ref_host_calls.proofs.OfferLemmas.{next_of, noted_more, noted_end, none_left}
use Rattle.ref_host_calls.proofs.theirs.note_each.Goals as goal

pub loop-value-preserved : goal.loop-value-preserved
loop-value-preserved g c = λ f.
    let same : get_or c.args.values.now c.loop-value.value-index c.value-item.result ≡ c.value-item.result = search rules in
    let rest = drop (c.loop-value.value-index + 1) c.args.values.now in
    let cut = next_of c.args.values.now c.loop-value.value-index c.value-item.result c.loop-value-test.true ∙ ap (λ (v : Value). v ∷ rest) same in
    noted_more (shown g.H.Host.step f) c.loop-value.offers.items c.push.new.self.items c.offer_of.result (offer_of g.H.Host.step c.args.policy.now (plain_value c.value-item.result)) (map (λ v. offer_of g.H.Host.step c.args.policy.now v) (map plain_value rest)) _ c.in_ok-push.ensures.items (c.offer_of.ensures f)
    (ap (λ (each : List Value). shown_all g.H.Host.step f c.loop-value.offers.items ++ map (λ v. offer_of g.H.Host.step c.args.policy.now v) (map plain_value each)) (sym cut) ∙ c.loop-value.invariant f)

pub returns : goal.returns
returns g c = λ f.
    noted_end _ _ _ (ap (λ each. map (λ v. offer_of g.H.Host.step c.args.policy.now v) (map plain_value each)) (none_left c.args.values.now c.loop-value.value-index c.loop-value-test.false)) (c.loop-value.invariant f)

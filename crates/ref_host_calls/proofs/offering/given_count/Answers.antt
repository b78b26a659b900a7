use Rattle.std.proofs.Common.{◌≡◌, ◌+◌, Bool, true, false, drop, ap, ◌∙◌, rules, arith, if◌then◌else◌}
use Rattle.reference_step.specs.Steps.{given_count}
use Rattle.ref_host_calls.specs.Offers.{shown_all}
use Rattle.ref_host_calls.proofs.OfferLemmas.{next_of, none_left, count_next}
use Rattle.ref_host_calls.proofs.offering.given_count.Goals.{then-is_given, else-is_given}
use Rattle.ref_host_calls.proofs.offering.given_count.Goals as goal

pub loop-offer-preserved : goal.loop-offer-preserved
loop-offer-preserved g c =
    let bound = c.loop-offer.invariant.bound in
    elim c.if-is_given.branch [
      | then-is_given w ↦
          let one : c.is_given.result ≡ true = search rules in
          let more = w.count-is in
          record {
            bound = omega arith;
            counted = λ f.
                let is = c.is_given.ensures f ∙ ap (λ (b : Bool). if b then 1 else 0) one in
                count_next c.loop-offer.count c.if-is_given.count _ 1 _ _ (ap (λ each. given_count g.H.Host.step (shown_all g.H.Host.step f each)) (next_of c.args.offers.now c.loop-offer.offer-index _ c.loop-offer-test.true) ∙ ap (λ n. n + given_count g.H.Host.step (shown_all g.H.Host.step f (drop (c.loop-offer.offer-index + 1) c.args.offers.now))) is) (c.loop-offer.invariant.counted f) more;
          }
      | else-is_given w ↦
          let none : c.is_given.result ≡ false = search rules in
          let more = w.count-is in
          record {
            bound = omega arith;
            counted = λ f.
                let is = c.is_given.ensures f ∙ ap (λ (b : Bool). if b then 1 else 0) none in
                count_next c.loop-offer.count c.if-is_given.count _ 0 _ _ (ap (λ each. given_count g.H.Host.step (shown_all g.H.Host.step f each)) (next_of c.args.offers.now c.loop-offer.offer-index _ c.loop-offer-test.true) ∙ ap (λ n. n + given_count g.H.Host.step (shown_all g.H.Host.step f (drop (c.loop-offer.offer-index + 1) c.args.offers.now))) is) (c.loop-offer.invariant.counted f) (omega (arith, more));
          }
    ]

pub returns : goal.returns
returns g c = λ f.
    let none = ap (λ each. given_count g.H.Host.step (shown_all g.H.Host.step f each)) (none_left c.args.offers.now c.loop-offer.offer-index c.loop-offer-test.false) in
    let all = c.loop-offer.invariant.counted f in
    omega (arith, none, all)

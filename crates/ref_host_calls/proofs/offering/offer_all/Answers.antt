use Rattle.std.proofs.Common.{◌≡◌, ◌+◌, List, ◌++◌, true, false, Some, drop, length, map, rules, refl, sym, ap, subst, ◌∙◌}
use Rattle.std.proofs.lemmas.List.Elements.{All-get_or}
use Rattle.wit_types.specs.declared.value.Value.{Value}
use Rattle.wit_types.specs.PlainValue.{plain_value}
use Rattle.host_port.specs.Calls.{Gives, Trap}
use Rattle.host_port.specs.Hosts.{Reaction}
use Rattle.reference_step.specs.State.{Reference}
use Rattle.reference_step.specs.Steps.{offers}
use Rattle.ref_host_calls.specs.Reactions.{IsReaction}
use Rattle.ref_host_calls.specs.declared.offers.Offer.{Offer}
use Rattle.ref_guards.proofs.KeepLaws.{keeps-same, keeps-then}
use Rattle.ref_host_calls.specs.Offers.{folders_at, offer_inside, shown_all}
use Rattle.ref_host_calls.proofs.OfferLemmas.{next_of, none_left}
use Rattle.ref_host_calls.proofs.offering.offer_all.Goals as goal

pub loop-offer-preserved : goal.loop-offer-preserved
loop-offer-preserved g c =
    let so : c.in_ok-goes.goes ≡ true = search rules in
    let limits = c.in_ok-goes.ensures.limits in
    let before_limits = c.loop-offer.invariant.limits in
    record {
      slots = limits.0 ∙ c.loop-offer.invariant.slots;
      limits = (limits.0 ∙ before_limits.0, limits.1 ∙ before_limits.1);
      keeps = keeps-then _ _ _ _ c.loop-offer.invariant.keeps (c.in_ok-goes.ensures.keeps (All-get_or (λ o. offer_inside (length c.args.folders.trees.now) o ≡ true) c.args.offers.now c.loop-offer.offer-index _ c.loop-offer-test.true c.requires.inside));
      goes = λ f r base seen before.
          let old = c.loop-offer.invariant.goes f r base seen before in
          let new = c.in_ok-goes.ensures.goes so f r base old.shows (shown_all g.H.Host.step f (drop (c.loop-offer.offer-index + 1) c.args.offers.now)) old.seen in
          let split = ap (λ (each : List Offer). offers g.H.Host.step (folders_at r f c.args.folders c.loop-offer.live (g.H.Host.kept c.loop-offer.inner).state) old.shows (map plain_value c.loop-offer.values.items) (shown_all g.H.Host.step f each)) (next_of c.args.offers.now c.loop-offer.offer-index _ c.loop-offer-test.true) in
          record { shows = new.shows; seen = new.seen; same = old.same ∙ split ∙ new.same };
    }

pub loop-offer-init : goal.loop-offer-init
loop-offer-init g c = record {
  slots = c.requires.slots;
  limits = (refl, refl);
  keeps = keeps-same _ _ _ refl;
  goes = λ f r base seen before. record {
    shows = seen;
    seen = before;
    same = ap (λ (vs : List Value). offers g.H.Host.step (folders_at r f c.args.folders c.args.live.now (g.H.Host.kept c.args.inner.now).state) seen (map plain_value vs) (shown_all g.H.Host.step f c.args.offers.now)) (sym c.new-values.ensures.items);
  };
}

pub returns-then-not-goes-clause-keeps : goal.returns-then-not-goes-clause-keeps
returns-then-not-goes-clause-keeps g c = keeps-then _ _ _ _ c.loop-offer.invariant.keeps (c.in_ok-goes.ensures.keeps (All-get_or (λ o. offer_inside (length c.args.folders.trees.now) o ≡ true) c.args.offers.now c.loop-offer.offer-index _ c.loop-offer-test.true c.requires.inside))

pub returns-then-not-goes-clause-reaction : goal.returns-then-not-goes-clause-reaction
returns-then-not-goes-clause-reaction g c = λ f r base seen before.
    let stopped : c.in_ok-goes.goes ≡ false = search rules in
    let old = c.loop-offer.invariant.goes f r base seen before in
    let split = ap (λ (each : List Offer). offers g.H.Host.step (folders_at r f c.args.folders c.loop-offer.live (g.H.Host.kept c.loop-offer.inner).state) old.shows (map plain_value c.loop-offer.values.items) (shown_all g.H.Host.step f each)) (next_of c.args.offers.now c.loop-offer.offer-index _ c.loop-offer-test.true) in
    let stop = c.in_ok-goes.ensures.stops stopped f r base old.shows (shown_all g.H.Host.step f (drop (c.loop-offer.offer-index + 1) c.args.offers.now)) old.seen in
    subst (λ (x : Reaction (Reference g.H.Host.State)). IsReaction x Trap (folders_at r f c.args.folders c.offer_one.new.live (g.H.Host.kept c.offer_one.new.inner).state) base (g.H.Host.kept c.offer_one.new.inner).seen) (sym (old.same ∙ split)) stop

pub returns-clause-reaction : goal.returns-clause-reaction
returns-clause-reaction g c = λ f r base seen before.
    let old = c.loop-offer.invariant.goes f r base seen before in
    let ends = ap (λ (each : List Offer). offers g.H.Host.step (folders_at r f c.args.folders c.loop-offer.live (g.H.Host.kept c.loop-offer.inner).state) old.shows (map plain_value c.loop-offer.values.items) (shown_all g.H.Host.step f each)) (none_left c.args.offers.now c.loop-offer.offer-index c.loop-offer-test.false) in
    let whole = old.same ∙ ends in
    record {
      answer = ap (λ v. Gives (Some v)) c.list.ensures ∙ sym (ap (λ (x : Reaction (Reference g.H.Host.State)). x.answer) whole);
      next = sym (ap (λ (x : Reaction (Reference g.H.Host.State)). x.next) whole);
      seen = old.seen ∙ sym (ap (λ (x : Reaction (Reference g.H.Host.State)). base ++ x.seen) whole);
    }

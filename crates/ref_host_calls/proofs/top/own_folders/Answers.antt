use Rattle.std.proofs.Common.{◌++◌, List, [], sym, ap, subst, ◌∙◌}
use Rattle.std.proofs.lemmas.List.{append-nil}
use Rattle.host_port.specs.Calls.{plain_answer}
use Rattle.reference_step.specs.Steps.{Offer as PlainOffer, offers, roots_from, scratch_offer}
use Rattle.ref_host_calls.specs.Reactions.{IsReaction}
use Rattle.ref_host_calls.specs.declared.offers.Offer.{Offer}
use Rattle.ref_host_calls.specs.Offers.{folders_at, shown_all}
use Rattle.ref_host_calls.proofs.OfferedLemmas.{ok_map}
use Rattle.ref_host_calls.proofs.top.own_folders.Goals as goal

pub returns-clause-reaction : goal.returns-clause-reaction
returns-clause-reaction g c = ok_map c.offer_all.result _ _ (λ a e f r holds.
    let h = g.H.Host.step in
    let k = g.H.Host.kept c.args.inner.now in
    let own = roots_from h 0 c.args.folders.trees.now ++ scratch_offer h c.args.folders.policy.now.fs_scratch in
    let these = ap (shown_all h f) c.as_slice.ensures.value ∙ c.in_ok-note_own.ensures.noted f holds ∙ ap (λ (xs : List Offer). shown_all h f xs ++ own) c.new-offers.ensures.items in
    subst (λ (xs : List (PlainOffer h)). IsReaction (offers h (folders_at r f c.args.folders c.args.live.now k.state) [] [] xs) (plain_answer a) (folders_at r f c.args.folders c.offer_all.new.live (g.H.Host.kept c.offer_all.new.inner).state) k.seen (g.H.Host.kept c.offer_all.new.inner).seen) these (e f r k.seen [] (sym (append-nil k.seen)))) c.offer_all.ensures.reaction

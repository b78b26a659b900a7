use Rattle.std.proofs.Common.{◌+◌, ◌++◌, ℕ, ◌∷◌, length, map, nat_le, sym, ap, subst, ◌∙◌}
use Rattle.wit_types.specs.PlainValue.{plain_value}
use Rattle.host_port.specs.Calls.{Trap}
use Rattle.host_port.specs.Hosts.{Reaction}
use Rattle.reference_step.specs.State.{Reference}
use Rattle.reference_step.specs.Steps.{offers}
use Rattle.ref_rules.specs.Lives.{LiveTable, count_of_kind}
use Rattle.ref_host_calls.specs.Reactions.{IsReaction}
use Rattle.ref_host_calls.specs.declared.offers.Offer.{Offer}
use Rattle.ref_host_calls.specs.Offers.{folders_at, offer_inside, shown}
use Rattle.ref_host_calls.specs.Offered.{GoesOn}
use Rattle.ref_host_calls.proofs.OfferLemmas.{on_map}
use Rattle.ref_host_calls.proofs.OfferedLemmas.{ok_four, given, not_given}
use Rattle.ref_host_calls.proofs.offering.offer_one.Goals as goal

pub returns-in-Given-clause-goes : goal.returns-in-Given-clause-goes
returns-in-Given-clause-goes g c = ok_four c.give_folder.result _ _ _ _ _ (λ goes fits handle value none so f r base seen rest before.
    let k = g.H.Host.kept c.args.inner.now in
    let room = fits ∙ ap (λ (n : ℕ). nat_le (1 + count_of_kind 6 c.args.live.now.handles) n) c.requires in
    subst (λ (o : Offer). GoesOn g.H.Host.step (folders_at r f c.args.folders c.args.live.now k.state) seen (map plain_value c.args.values.now.items) (shown g.H.Host.step f o ∷ rest) (folders_at r f c.args.folders c.give_folder.new.live k.state) (map plain_value c.give_folder.new.values.items) rest base k.seen) (sym c.in-Given.is)
    (record {
      shows = seen;
      seen = before;
      same = given g.H.Host.step f r c.args.folders c.args.live.now seen (map plain_value c.args.values.now.items) rest c.in-Given.folder c.in-Given.name.now k.state goes room so c.give_folder.new.live (map plain_value c.give_folder.new.values.items) (handle so) (value so);
    })) c.give_folder.ensures.fits c.give_folder.ensures.handle c.give_folder.ensures.value c.give_folder.ensures.none

pub returns-in-Given-clause-stops : goal.returns-in-Given-clause-stops
returns-in-Given-clause-stops g c = ok_four c.give_folder.result _ _ _ _ _ (λ goes fits handle value none never f r base seen rest before.
    let k = g.H.Host.kept c.args.inner.now in
    let room = fits ∙ ap (λ (n : ℕ). nat_le (1 + count_of_kind 6 c.args.live.now.handles) n) c.requires in
    let is = not_given g.H.Host.step f r c.args.folders c.args.live.now seen (map plain_value c.args.values.now.items) rest c.in-Given.folder c.in-Given.name.now k.state goes room never in
    subst (λ (o : Offer). IsReaction (offers g.H.Host.step (folders_at r f c.args.folders c.args.live.now k.state) seen (map plain_value c.args.values.now.items) (shown g.H.Host.step f o ∷ rest)) Trap (folders_at r f c.args.folders c.give_folder.new.live k.state) base k.seen) (sym c.in-Given.is)
    (record {
      answer = sym (ap (λ (x : Reaction (Reference g.H.Host.State)). x.answer) is);
      next = ap (λ (l : LiveTable). folders_at r f c.args.folders l k.state) (none never) ∙ sym (ap (λ (x : Reaction (Reference g.H.Host.State)). x.next) is);
      seen = before ∙ sym (ap (λ (x : Reaction (Reference g.H.Host.State)). base ++ x.seen) is);
    })) c.give_folder.ensures.fits c.give_folder.ensures.handle c.give_folder.ensures.value c.give_folder.ensures.none

pub returns-in-Given-clause-keeps : goal.returns-in-Given-clause-keeps
returns-in-Given-clause-keeps g c = on_map c.give_folder.result _ _ (λ keeps inside. keeps (length c.args.folders.trees.now) (ap (offer_inside (length c.args.folders.trees.now)) (sym c.in-Given.is) ∙ inside)) c.give_folder.ensures.keeps

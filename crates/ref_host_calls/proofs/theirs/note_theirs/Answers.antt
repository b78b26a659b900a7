use Rattle.std.proofs.Common.{◌++◌, map, sym, ap, ◌∙◌}
use Rattle.reference_step.specs.Steps.{offer_of}
use Rattle.ref_host_calls.specs.Offers.{shown_all}
use Rattle.ref_host_calls.proofs.OfferLemmas.{nothing_more, on_map}
use Rattle.ref_host_calls.proofs.theirs.note_theirs.Goals as goal

pub returns-in-Some : goal.returns-in-Some
returns-in-Some g c = on_map c.note_values.result _ _ (λ e f. e f ∙ ap (λ vs. shown_all g.H.Host.step f c.args.offers.now.items ++ map (λ v. offer_of g.H.Host.step c.args.policy.now v) vs) (sym c.in-Some.ensures.some)) c.note_values.ensures

pub returns-in-None : goal.returns-in-None
returns-in-None g c = λ f. nothing_more _ _ (ap (map (λ v. offer_of g.H.Host.step c.args.policy.now v)) c.in-None.ensures.none)

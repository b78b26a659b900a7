use Rattle.std.proofs.Common.{◌++◌, map, sym, ap, ◌∙◌}
use Rattle.wit_types.specs.PlainValue.{byte_values}
use Rattle.reference_step.specs.Steps.{offer_of}
use Rattle.reference_step.specs.Values.{items}
use Rattle.ref_host_calls.specs.Offers.{shown, shown_all}
use Rattle.ref_host_calls.proofs.OfferLemmas.{next_of, noted_more, noted_end, none_left}
use Rattle.ref_host_calls.proofs.theirs.note_bytes.Goals as goal

pub loop-byte-preserved : goal.loop-byte-preserved
loop-byte-preserved g c = λ f.
    noted_more (shown g.H.Host.step f) c.loop-byte.offers.items c.push.new.self.items c.offer_by.result _ _ _ c.in_ok-push.ensures.items (c.offer_by.ensures f)
    (ap (λ each. shown_all g.H.Host.step f c.loop-byte.offers.items ++ map (λ v. offer_of g.H.Host.step c.args.policy.now v) (items (byte_values each))) (sym (next_of c.args.bytes.now c.loop-byte._byte-index 0 c.loop-byte-test.true)) ∙ c.loop-byte.invariant f)

pub returns : goal.returns
returns g c = λ f.
    noted_end _ _ _ (ap (λ each. map (λ v. offer_of g.H.Host.step c.args.policy.now v) (items (byte_values each))) (none_left c.args.bytes.now c.loop-byte._byte-index c.loop-byte-test.false)) (c.loop-byte.invariant f)

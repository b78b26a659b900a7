use Rattle.std.proofs.Common.{◌≡◌, ◌++◌, map, sym, ap, ◌∙◌}
use Rattle.wit_types.specs.PlainValue.{plain_value, plain_values, byte_values}
use Rattle.wit_types.proofs.ValueLemmas.{plain_values-Each, plain_values-Bytes}
use Rattle.reference_step.specs.Steps.{offer_of}
use Rattle.reference_step.specs.Values.{items}
use Rattle.ref_host_calls.specs.Offers.{shown_all}
use Rattle.ref_host_calls.proofs.OfferLemmas.{items_listed, on_map}
use Rattle.ref_host_calls.proofs.theirs.note_values.Goals as goal

pub returns-in-Each : goal.returns-in-Each
returns-in-Each g c =
    let same : map plain_value c.as_slice.result.now ≡ items (plain_values c.args.values.now) =
    ap (map plain_value) c.as_slice.ensures.value ∙ sym (items_listed c.in-Each.values.items) ∙ ap items (sym (ap plain_values c.in-Each.is ∙ plain_values-Each _)) in
    on_map c.note_each.result _ _ (λ e f. e f ∙ ap (λ vs. shown_all g.H.Host.step f c.args.offers.now.items ++ map (λ v. offer_of g.H.Host.step c.args.policy.now v) vs) same) c.note_each.ensures

pub returns-in-Bytes : goal.returns-in-Bytes
returns-in-Bytes g c =
    let same : items (byte_values c.as_slice-in-Bytes.result.now) ≡ items (plain_values c.args.values.now) =
    ap (λ bs. items (byte_values bs)) c.as_slice-in-Bytes.ensures ∙ ap items (sym (ap plain_values c.in-Bytes.is ∙ plain_values-Bytes _)) in
    on_map c.note_bytes.result _ _ (λ e f. e f ∙ ap (λ vs. shown_all g.H.Host.step f c.args.offers.now.items ++ map (λ v. offer_of g.H.Host.step c.args.policy.now v) vs) same) c.note_bytes.ensures

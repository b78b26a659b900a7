use Rattle.std.proofs.Common.{◌≡◌, ◌∙◌, ap, sym, subst, []}
use Rattle.std.specs.Prelude.{Option}
use Rattle.wit_types.specs.declared.types.WitType.TheVariants.{Result}
use Rattle.wit_types.specs.Plain.{AsResult, End, Parts, Plain, VariantType, case_part, payload_of, plain}
use Rattle.wit_types.proofs.PlainLemmas.{plain-Result}
use Rattle.comp_facts.specs.Facts.{IsFactsOf}
use Rattle.comp_facts.specs.Keys.{keys_of}
use Rattle.comp_types.specs.Known.{AreKnownOf}
use Rattle.comp_defining.specs.Parts.{and_case, known_of}
use Rattle.comp_defining.proofs.PartLemmas.{result-cases}
use Rattle.comp_defining.proofs.kinds.result_at.Goals as goal

pub new-requires : goal.new-requires
new-requires c =
    let p = c.in_ok-shared_payload.field-0 in
    let q = c.in_ok-shared_payload-2.field-0 in
    let ok = known_of c.in_ok-ok.ok in
    let err = known_of c.in_ok-err.err in
    let cases = and_case (and_case End [] ok) [] err in
    let is : plain (Result p q) ≡ VariantType AsResult cases =
    plain-Result p q
    ∙ (ap (λ (o : Option Plain). VariantType AsResult (case_part [] o (case_part [] (payload_of q) End))) c.in_ok-shared_payload.ensures
    ∙ (ap (λ (o : Option Plain). VariantType AsResult (case_part [] ok (case_part [] o End))) c.in_ok-shared_payload-2.ensures
    ∙ ap (VariantType AsResult) (sym (result-cases ok err)))) in
    let kept : AreKnownOf cases c.add_payload-2.new.known = c.in_ok-add_payload-2.ensures (and_case End [] ok) (c.in_ok-add_payload.ensures End c.none-known.ensures) in
    record {
      facts = subst (λ (t : Plain). IsFactsOf t c.variant-facts.result) (sym is) (c.variant-facts.ensures cases kept.facts);
      keys = kept.keys ∙ sym (ap keys_of is);
    }

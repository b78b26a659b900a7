use Rattle.std.proofs.Common.{◌≡◌, ◌∙◌, ap, refl, sym, subst}
use Rattle.wit_types.specs.declared.types.Cases.{Cases, out-Cases, out-roll-Cases}
use Rattle.wit_types.specs.declared.types.WitType.TheVariants.{Variant}
use Rattle.wit_types.specs.Plain.{AsVariant, Plain, VariantType, cases_of, plain}
use Rattle.wit_types.proofs.PlainLemmas.{plain-Variant}
use Rattle.comp_facts.specs.Facts.{IsFactsOf}
use Rattle.comp_facts.specs.Keys.{keys_of}
use Rattle.comp_defining.proofs.kinds.variant_at.Goals as goal

pub new-requires : goal.new-requires
new-requires c =
    let e : plain (Variant c.in_ok-shared.field-0) ≡ VariantType AsVariant (cases_of c.in_ok-items.items.items) = plain-Variant c.in_ok-shared.field-0 ∙ (ap (λ (cs : Cases). VariantType AsVariant (cases_of (out-Cases cs).items.items)) c.in_ok-shared.ensures ∙ rw out-roll-Cases refl) in
    record {
      facts = subst (λ (t : Plain). IsFactsOf t c.variant-facts.result) (sym e) (c.variant-facts.ensures (cases_of c.in_ok-items.items.items) c.in_ok-items.ensures.kept.facts);
      keys = c.in_ok-items.ensures.kept.keys ∙ sym (ap keys_of e);
    }

pub returns : goal.returns
returns c = λ s h.
    c.new.ensures ∙ (plain-Variant c.in_ok-shared.field-0
    ∙ (ap (λ (cs : Cases). VariantType AsVariant (cases_of (out-Cases cs).items.items)) c.in_ok-shared.ensures
    ∙ rw out-roll-Cases (ap (VariantType AsVariant) (c.in_ok-items.ensures.cases s h))))

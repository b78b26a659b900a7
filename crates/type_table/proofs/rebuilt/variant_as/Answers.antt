use Rattle.std.proofs.Common.{◌≡◌, ◌∙◌, ap, refl, sym, subst}
use Rattle.wit_types.specs.declared.types.Cases.{out-Cases, out-roll-Cases}
use Rattle.wit_types.specs.declared.types.WitType.TheVariants.{Variant}
use Rattle.wit_types.specs.Plain.{Plain, VariantType, AsVariant, plain, cases_of}
use Rattle.wit_types.proofs.PlainLemmas.{plain-Variant}
use Rattle.comp_facts.specs.Facts.{IsFactsOf}
use Rattle.comp_facts.specs.Keys.{keys_of}
use Rattle.type_table.proofs.rebuilt.variant_as.Goals as goal

pub new-requires-clause-facts : goal.new-requires-clause-facts
new-requires-clause-facts c =
    let s = c.in_ok-shared.field-0 in
    let ps = cases_of c.in_ok-items.items.items in
    let same : cases_of (out-Cases s.value).items.items ≡ ps = rw (c.in_ok-shared.ensures, out-roll-Cases) refl in
    let is : plain (Variant s) ≡ VariantType AsVariant ps = plain-Variant s ∙ ap (VariantType AsVariant) same in
    subst (λ (p : Plain). IsFactsOf p c.variant-facts.result) (sym is) (c.variant-facts.ensures ps c.in_ok-items.ensures.kept.facts)

pub new-requires-clause-keys : goal.new-requires-clause-keys
new-requires-clause-keys c =
    let s = c.in_ok-shared.field-0 in
    let ps = cases_of c.in_ok-items.items.items in
    let same : cases_of (out-Cases s.value).items.items ≡ ps = rw (c.in_ok-shared.ensures, out-roll-Cases) refl in
    let is : plain (Variant s) ≡ VariantType AsVariant ps = plain-Variant s ∙ ap (VariantType AsVariant) same in
    c.in_ok-items.ensures.kept.keys ∙ ap keys_of (sym is)

pub returns : goal.returns
returns c =
    let s = c.in_ok-shared.field-0 in
    let ps = cases_of c.in_ok-items.items.items in
    let same : cases_of (out-Cases s.value).items.items ≡ ps = rw (c.in_ok-shared.ensures, out-roll-Cases) refl in
    let is : plain (Variant s) ≡ VariantType AsVariant ps = plain-Variant s ∙ ap (VariantType AsVariant) same in
    c.new.ensures ∙ (is ∙ ap (VariantType AsVariant) c.in_ok-items.ensures.cases)

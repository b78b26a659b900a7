use Rattle.std.proofs.Common.{◌≡◌, ◌∙◌, List, ap, sym, subst}
use Rattle.wit_types.specs.declared.types.WitType.TheVariants.{Enum}
use Rattle.wit_types.specs.Plain.{AsEnum, Name, Plain, VariantType, bare, plain}
use Rattle.wit_types.proofs.PlainLemmas.{plain-Enum}
use Rattle.comp_facts.specs.Facts.{IsFactsOf}
use Rattle.comp_facts.specs.Keys.{keys_of}
use Rattle.comp_defining.proofs.kinds.enum_of.Goals as goal

pub new-requires : goal.new-requires
new-requires c =
    let labels = c.args.labels.now in
    let is : plain (Enum c.in_ok-shared.field-0) ≡ VariantType AsEnum (bare labels) =
    plain-Enum c.in_ok-shared.field-0 ∙ ap (λ (ls : List Name). VariantType AsEnum (bare ls)) (c.in_ok-shared.ensures ∙ c.in_ok-copy_labels.ensures) in
    record {
      facts = subst (λ (t : Plain). IsFactsOf t c.variant-facts.result) (sym is) (c.variant-facts.ensures (bare labels) c.bare_parts-known.ensures.facts);
      keys = c.bare_parts-known.ensures.keys ∙ sym (ap keys_of is);
    }

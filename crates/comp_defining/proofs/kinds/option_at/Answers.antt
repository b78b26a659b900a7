use Rattle.std.proofs.Common.{◌≡◌, ◌∙◌, ap, sym, subst, []}
use Rattle.wit_types.specs.declared.types.WitType.TheVariants.{Option as Optional}
use Rattle.wit_types.specs.Plain.{AsOption, Bare, End, More, Plain, VariantType, plain}
use Rattle.wit_types.proofs.PlainLemmas.{plain-Option}
use Rattle.comp_facts.specs.Facts.{IsFactsOf}
use Rattle.comp_facts.specs.Keys.{keys_of}
use Rattle.comp_types.specs.Known.{AreKnownOf}
use Rattle.comp_defining.proofs.kinds.option_at.Goals as goal

pub new-requires : goal.new-requires
new-requires c =
    let ty = c.in_ok-item.item.value in
    let is : plain (Optional c.in_ok-shared_type.field-0) ≡ VariantType AsOption (Bare [] (More [] ty End)) =
    plain-Option c.in_ok-shared_type.field-0 ∙ ap (λ (t : Plain). VariantType AsOption (Bare [] (More [] t End))) (c.in_ok-shared_type.ensures ∙ c.deref.ensures) in
    let kept : AreKnownOf (Bare [] (More [] ty End)) c.add.new.self =
    subst (λ (t : Plain). AreKnownOf (Bare [] (More [] t End)) c.add.new.self) c.deref-2.ensures (c.in_ok-add.ensures (Bare [] End) (c.add_bare.ensures End c.none-known.ensures)) in
    record {
      facts = subst (λ (t : Plain). IsFactsOf t c.variant-facts.result) (sym is) (c.variant-facts.ensures (Bare [] (More [] ty End)) kept.facts);
      keys = kept.keys ∙ sym (ap keys_of is);
    }

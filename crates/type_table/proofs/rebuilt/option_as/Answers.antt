use Rattle.std.proofs.Common.{◌≡◌, ◌∙◌, ap, sym, subst, []}
use Rattle.wit_types.specs.declared.types.WitType.TheVariants.{Option as Optional}
use Rattle.wit_types.specs.Plain.{Plain, VariantType, AsOption, Bare, More, End, plain}
use Rattle.wit_types.proofs.PlainLemmas.{plain-Option}
use Rattle.comp_facts.specs.Facts.{IsFactsOf}
use Rattle.comp_facts.specs.Keys.{keys_of}
use Rattle.comp_types.specs.Known.{AreKnownOf}
use Rattle.type_table.proofs.rebuilt.option_as.Goals as goal

pub new-requires-clause-facts : goal.new-requires-clause-facts
new-requires-clause-facts c =
    let s = c.in_ok-shared_type.field-0 in
    let known : AreKnownOf (Bare [] (More [] c.deref.result.now End)) c.add.new.self = c.in_ok-add.ensures (Bare [] End) (c.add_bare.ensures End c.none-known.ensures) in
    let is : plain (Optional s) ≡ VariantType AsOption (Bare [] (More [] c.deref.result.now End)) =
    plain-Option s ∙ ap (λ (t : Plain). VariantType AsOption (Bare [] (More [] t End))) (c.in_ok-shared_type.ensures ∙ (c.deref-2.ensures ∙ sym c.deref.ensures)) in
    subst (λ (p : Plain). IsFactsOf p c.variant-facts.result) (sym is) (c.variant-facts.ensures (Bare [] (More [] c.deref.result.now End)) known.facts)

pub new-requires-clause-keys : goal.new-requires-clause-keys
new-requires-clause-keys c =
    let s = c.in_ok-shared_type.field-0 in
    let known : AreKnownOf (Bare [] (More [] c.deref.result.now End)) c.add.new.self = c.in_ok-add.ensures (Bare [] End) (c.add_bare.ensures End c.none-known.ensures) in
    let is : plain (Optional s) ≡ VariantType AsOption (Bare [] (More [] c.deref.result.now End)) =
    plain-Option s ∙ ap (λ (t : Plain). VariantType AsOption (Bare [] (More [] t End))) (c.in_ok-shared_type.ensures ∙ (c.deref-2.ensures ∙ sym c.deref.ensures)) in
    known.keys ∙ ap keys_of (sym is)

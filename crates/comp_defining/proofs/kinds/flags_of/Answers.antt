use Rattle.std.proofs.Common.{◌≡◌, ◌∙◌, ap, sym, subst}
use Rattle.wit_types.specs.declared.types.WitType.TheVariants.{Flags}
use Rattle.wit_types.specs.Plain.{FlagsType, Plain, plain}
use Rattle.wit_types.proofs.PlainLemmas.{plain-Flags}
use Rattle.comp_facts.specs.Facts.{IsFactsOf}
use Rattle.comp_facts.specs.Keys.{keys_of}
use Rattle.comp_defining.proofs.kinds.flags_of.Goals as goal

pub new-requires : goal.new-requires
new-requires c =
    let is : plain (Flags c.in_ok-shared.field-0) ≡ FlagsType c.args.labels.now = plain-Flags c.in_ok-shared.field-0 ∙ ap FlagsType (c.in_ok-shared.ensures ∙ c.in_ok-copy_labels.ensures) in
    record {
      facts = subst (λ (t : Plain). IsFactsOf t c.flags.result) (sym is) c.flags.ensures;
      keys = c.empty.ensures ∙ sym (ap keys_of is);
    }

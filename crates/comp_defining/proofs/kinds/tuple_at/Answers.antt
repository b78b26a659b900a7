use Rattle.std.proofs.Common.{◌≡◌, ◌∙◌, ap, sym, subst, rules, arith}
use Rattle.wit_types.specs.declared.types.WitType.TheVariants.{Tuple}
use Rattle.wit_types.specs.Plain.{AsTuple, Plain, RecordType, plain, types_of}
use Rattle.wit_types.proofs.PlainLemmas.{plain-Tuple}
use Rattle.comp_facts.specs.Facts.{IsFactsOf}
use Rattle.comp_facts.specs.Keys.{keys_of}
use Rattle.comp_defining.proofs.kinds.tuple_at.Goals as goal

pub new-requires : goal.new-requires
new-requires c =
    let e : plain (Tuple c.in_ok-shared.field-0) ≡ RecordType AsTuple (types_of c.in_ok-items.items.items) = first_of (search (rules, plain-Tuple), grind (arith, plain-Tuple)) in
    record {
      facts = subst (λ (t : Plain). IsFactsOf t c.record-facts.result) (sym e) (c.record-facts.ensures (types_of c.in_ok-items.items.items) c.in_ok-items.ensures.kept.facts);
      keys = c.in_ok-items.ensures.kept.keys ∙ sym (ap keys_of e);
    }

use Rattle.std.proofs.Common.{◌≡◌, ◌∙◌, ap, refl, sym, subst}
use Rattle.wit_types.specs.declared.types.Fields.{Fields, out-Fields, out-roll-Fields}
use Rattle.wit_types.specs.declared.types.WitType.TheVariants.{Record}
use Rattle.wit_types.specs.Plain.{AsRecord, Plain, RecordType, fields_of, plain}
use Rattle.wit_types.proofs.PlainLemmas.{plain-Record}
use Rattle.comp_facts.specs.Facts.{IsFactsOf}
use Rattle.comp_facts.specs.Keys.{keys_of}
use Rattle.comp_defining.proofs.kinds.record_at.Goals as goal

pub new-requires : goal.new-requires
new-requires c =
    let e : plain (Record c.in_ok-shared.field-0) ≡ RecordType AsRecord (fields_of c.in_ok-items.items.items) = plain-Record c.in_ok-shared.field-0 ∙ (ap (λ (fs : Fields). RecordType AsRecord (fields_of (out-Fields fs).items.items)) c.in_ok-shared.ensures ∙ rw out-roll-Fields refl) in
    record {
      facts = subst (λ (t : Plain). IsFactsOf t c.record-facts.result) (sym e) (c.record-facts.ensures (fields_of c.in_ok-items.items.items) c.in_ok-items.ensures.kept.facts);
      keys = c.in_ok-items.ensures.kept.keys ∙ sym (ap keys_of e);
    }

pub returns : goal.returns
returns c = λ s h.
    c.new.ensures ∙ (plain-Record c.in_ok-shared.field-0
    ∙ (ap (λ (fs : Fields). RecordType AsRecord (fields_of (out-Fields fs).items.items)) c.in_ok-shared.ensures
    ∙ rw out-roll-Fields (ap (RecordType AsRecord) (c.in_ok-items.ensures.fields s h))))

use Rattle.std.proofs.Common.{◌≡◌, ◌∙◌, ap, refl, sym, subst}
use Rattle.wit_types.specs.declared.types.Fields.{out-Fields, out-roll-Fields}
use Rattle.wit_types.specs.declared.types.WitType.TheVariants.{Record}
use Rattle.wit_types.specs.Plain.{Plain, RecordType, AsRecord, plain, fields_of}
use Rattle.wit_types.proofs.PlainLemmas.{plain-Record}
use Rattle.comp_facts.specs.Facts.{IsFactsOf}
use Rattle.comp_facts.specs.Keys.{keys_of}
use Rattle.type_table.proofs.rebuilt.record_as.Goals as goal

pub new-requires-clause-facts : goal.new-requires-clause-facts
new-requires-clause-facts c =
    let s = c.in_ok-shared.field-0 in
    let ps = fields_of c.in_ok-items.items.items in
    let same : fields_of (out-Fields s.value).items.items ≡ ps = rw (c.in_ok-shared.ensures, out-roll-Fields) refl in
    let is : plain (Record s) ≡ RecordType AsRecord ps = plain-Record s ∙ ap (RecordType AsRecord) same in
    subst (λ (p : Plain). IsFactsOf p c.record-facts.result) (sym is) (c.record-facts.ensures ps c.in_ok-items.ensures.kept.facts)

pub new-requires-clause-keys : goal.new-requires-clause-keys
new-requires-clause-keys c =
    let s = c.in_ok-shared.field-0 in
    let ps = fields_of c.in_ok-items.items.items in
    let same : fields_of (out-Fields s.value).items.items ≡ ps = rw (c.in_ok-shared.ensures, out-roll-Fields) refl in
    let is : plain (Record s) ≡ RecordType AsRecord ps = plain-Record s ∙ ap (RecordType AsRecord) same in
    c.in_ok-items.ensures.kept.keys ∙ ap keys_of (sym is)

pub returns : goal.returns
returns c =
    let s = c.in_ok-shared.field-0 in
    let ps = fields_of c.in_ok-items.items.items in
    let same : fields_of (out-Fields s.value).items.items ≡ ps = rw (c.in_ok-shared.ensures, out-roll-Fields) refl in
    let is : plain (Record s) ≡ RecordType AsRecord ps = plain-Record s ∙ ap (RecordType AsRecord) same in
    c.new.ensures ∙ (is ∙ ap (RecordType AsRecord) c.in_ok-items.ensures.fields)

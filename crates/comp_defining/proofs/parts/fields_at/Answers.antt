use Rattle.std.proofs.Common.{◌≡◌, ◌∙◌, ap, sym, rules, [], arith}
use Rattle.std.proofs.lemmas.Grind.{common_steps}
use Rattle.wit_types.specs.Plain.{fields_of}
use Rattle.comp_types.specs.Types.{fields_of as fields_due, value_of}
use Rattle.comp_defining.proofs.PartLemmas.{and_parts, part-first, parts_end, nil_of}
use Rattle.comp_defining.proofs.parts.fields_at.Goals as goal

pub loop-label-preserved : goal.loop-label-preserved
loop-label-preserved c = record {
  due = λ s h.
      ap (λ ps. and_parts ps (fields_due s c.in-Some.more.now)) (c.in_ok-add_field.ensures.fields s h)
      ∙ (part-first (fields_of c.loop-label.fields.items) c.in-Some.label.now.label (value_of s c.in-Some.label.now.ty) (fields_due s c.in-Some.more.now)
      ∙ (ap (λ ls. and_parts (fields_of c.loop-label.fields.items) (fields_due s ls)) (sym c.in-Some.ensures.cases.0)
      ∙ c.loop-label.invariant.due s h));
  kept = c.in_ok-add_field.ensures.kept c.loop-label.invariant.kept;
}

pub returns-clause-fields : goal.returns-clause-fields
returns-clause-fields c = λ s h.
    let e : c.loop-label.rest.now ≡ [] = first_of (search (rules, nil_of), grind (arith, common_steps, nil_of)) in
    sym (parts_end (fields_of c.loop-label.fields.items))
    ∙ (ap (λ ls. and_parts (fields_of c.loop-label.fields.items) (fields_due s ls)) (sym e) ∙ c.loop-label.invariant.due s h)

use Rattle.std.proofs.Common.{◌≡◌, ◌∙◌, ap, sym, rules, [], arith}
use Rattle.std.specs.Prelude.{option_map}
use Rattle.std.proofs.lemmas.Grind.{common_steps}
use Rattle.wit_types.specs.Plain.{cases_of}
use Rattle.comp_types.specs.Types.{cases_of as cases_due, value_of}
use Rattle.comp_defining.proofs.PartLemmas.{and_parts, case-first, parts_end, nil_of}
use Rattle.comp_defining.proofs.parts.cases_at.Goals as goal

pub loop-label-preserved : goal.loop-label-preserved
loop-label-preserved c = record {
  due = λ s h.
      ap (λ ps. and_parts ps (cases_due s c.in-Some.more.now)) (c.in_ok-add_case.ensures.cases s h)
      ∙ (case-first (cases_of c.loop-label.cases.items) c.in-Some.label.now.label (option_map (value_of s) c.in-Some.label.now.ty) (cases_due s c.in-Some.more.now)
      ∙ (ap (λ ls. and_parts (cases_of c.loop-label.cases.items) (cases_due s ls)) (sym c.in-Some.ensures.cases.0)
      ∙ c.loop-label.invariant.due s h));
  kept = c.in_ok-add_case.ensures.kept c.loop-label.invariant.kept;
}

pub returns-clause-cases : goal.returns-clause-cases
returns-clause-cases c = λ s h.
    let e : c.loop-label.rest.now ≡ [] = first_of (search (rules, nil_of), grind (arith, common_steps, nil_of)) in
    sym (parts_end (cases_of c.loop-label.cases.items))
    ∙ (ap (λ ls. and_parts (cases_of c.loop-label.cases.items) (cases_due s ls)) (sym e) ∙ c.loop-label.invariant.due s h)

use Rattle.std.proofs.Common.{◌≡◌, ◌∙◌, ap, sym, rules, [], map, arith}
use Rattle.std.proofs.lemmas.Grind.{common_steps}
use Rattle.wit_types.specs.Plain.{types_of}
use Rattle.comp_types.specs.Types.{unnamed, value_of}
use Rattle.comp_defining.proofs.PartLemmas.{and_parts, part-first, parts_end, nil_of}
use Rattle.comp_defining.proofs.parts.types_at.Goals as goal

pub loop-value-preserved : goal.loop-value-preserved
loop-value-preserved c = record {
  due = λ s h.
      ap (λ ps. and_parts ps (unnamed (map (value_of s) c.in-Some.more.now))) (c.in_ok-add_type.ensures.types s h)
      ∙ (part-first (types_of c.loop-value.types.items) [] (value_of s c.in-Some.value.now) (unnamed (map (value_of s) c.in-Some.more.now))
      ∙ (ap (λ ls. and_parts (types_of c.loop-value.types.items) (unnamed (map (value_of s) ls))) (sym c.in-Some.ensures.cases.0)
      ∙ c.loop-value.invariant.due s h));
  kept = c.in_ok-add_type.ensures.kept c.loop-value.invariant.kept;
}

pub returns-clause-types : goal.returns-clause-types
returns-clause-types c = λ s h.
    let e : c.loop-value.rest.now ≡ [] = first_of (search (rules, nil_of), grind (arith, common_steps, nil_of)) in
    sym (parts_end (types_of c.loop-value.types.items))
    ∙ (ap (λ ls. and_parts (types_of c.loop-value.types.items) (unnamed (map (value_of s) ls))) (sym e) ∙ c.loop-value.invariant.due s h)

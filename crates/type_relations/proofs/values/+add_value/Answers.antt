use Rattle.std.proofs.Common.{◌∙◌, ap, drop, ◌+◌}
use Rattle.wit_types.specs.declared.types.Field.{out-Field}
use Rattle.wit_types.specs.declared.types.Case.{out-Case}
use Rattle.wit_types.specs.Plain.{plain, payload_of, fields_of, types_of, cases_of}
use Rattle.comp_types.specs.GivenResources.{named_in_value, named_in_parts, named_in_answer}
use Rattle.type_relations.specs.Once.{and_each}
use Rattle.type_relations.proofs.OnceLemmas.{onward, next_is}
use Rattle.type_relations.proofs.ValueLemmas.{named-case_part}
use Rattle.type_relations.proofs.values.+add_value.Goals as goal

pub add_types-loop-ty-preserved : goal.add_types-loop-ty-preserved
add_types-loop-ty-preserved t c =
    let x = c.ty-item.result in
    let l = c.loop-ty in
    onward _ l.found _ (named_in_value (plain x)) (named_in_parts (types_of (drop (l.ty-index + 1) c.args.types.now)))
    (l.invariant ∙ ap (λ xs. and_each l.found (named_in_parts (types_of xs))) (next_is c.args.types.now l.ty-index x c.loop-ty-test.true c.ty-item.is)) c.in_ok-add_value.ensures

pub add_fields-loop-field-preserved : goal.add_fields-loop-field-preserved
add_fields-loop-field-preserved t c =
    let x = c.field-item.result in
    let l = c.loop-field in
    onward _ l.found _ (named_in_value (plain (out-Field x).ty)) (named_in_parts (fields_of (drop (l.field-index + 1) c.args.fields.now)))
    (l.invariant ∙ ap (λ xs. and_each l.found (named_in_parts (fields_of xs))) (next_is c.args.fields.now l.field-index x c.loop-field-test.true c.field-item.is)) c.in_ok-add_value.ensures

pub add_cases-loop-case-preserved : goal.add_cases-loop-case-preserved
add_cases-loop-case-preserved t c =
    let x = c.case-item.result in
    let l = c.loop-case in
    let rest = cases_of (drop (l.case-index + 1) c.args.cases.now) in
    onward _ l.found _ (named_in_answer (payload_of (out-Case x).ty)) (named_in_parts rest)
    (l.invariant
    ∙ (ap (λ xs. and_each l.found (named_in_parts (cases_of xs))) (next_is c.args.cases.now l.case-index x c.loop-case-test.true c.case-item.is)
    ∙ ap (and_each l.found) (named-case_part (out-Case x).name (payload_of (out-Case x).ty) rest))) c.in_ok-add_payload.ensures

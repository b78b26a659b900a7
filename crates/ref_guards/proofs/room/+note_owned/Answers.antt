use Rattle.std.proofs.Common.{◌+◌, [], ◌∷◌, drop, sym, ap, ◌∙◌, arith}
use Rattle.std.proofs.lemmas.List.{drop_more}
use Rattle.wit_types.specs.Plain.{plain, payload_of, case_part, End, fields_of, types_of, cases_of}
use Rattle.wit_types.proofs.PlainLemmas.{plain-Result}
use Rattle.reference_step.specs.Rules.{owns, owns_in}
use Rattle.ref_guards.proofs.RoomLemmas.{as_many, noted_next, owns-case_part, owns-two}
use Rattle.ref_guards.proofs.room.+note_owned.Goals as goal

pub note_fields-loop-field-preserved : goal.note_fields-loop-field-preserved
note_fields-loop-field-preserved t c = noted_next _ _ _ _ (λ kind. owns kind (plain c.field-item.result.ty)) _ _ c.loop-field.invariant (λ kind.
    ap (λ xs. owns_in kind (fields_of xs)) (drop_more c.args.fields.now c.loop-field.field-index c.field-item.result c.loop-field-test.true)
    ∙ ap (λ f. owns_in kind (fields_of (f ∷ drop (c.loop-field.field-index + 1) c.args.fields.now))) (sym c.field-item.is)) c.note_owned.ensures

pub note_types-loop-ty-preserved : goal.note_types-loop-ty-preserved
note_types-loop-ty-preserved t c = noted_next _ _ _ _ (λ kind. owns kind (plain c.ty-item.result)) _ _ c.loop-ty.invariant (λ kind.
    ap (λ xs. owns_in kind (types_of xs)) (drop_more c.args.types.now c.loop-ty.ty-index c.ty-item.result c.loop-ty-test.true)
    ∙ ap (λ f. owns_in kind (types_of (f ∷ drop (c.loop-ty.ty-index + 1) c.args.types.now))) (sym c.ty-item.is)) c.note_owned.ensures

pub note_cases-loop-case-preserved : goal.note_cases-loop-case-preserved
note_cases-loop-case-preserved t c = noted_next _ _ _ _ (λ kind. owns_in kind (case_part [] (payload_of c.case-item.result.ty) End)) _ _ c.loop-case.invariant (λ kind.
    ap (λ xs. owns_in kind (cases_of xs)) (drop_more c.args.cases.now c.loop-case.case-index c.case-item.result c.loop-case-test.true)
    ∙ ap (λ f. owns_in kind (cases_of (f ∷ drop (c.loop-case.case-index + 1) c.args.cases.now))) (sym c.case-item.is)
    ∙ owns-case_part kind _ _ _) c.note_payload.ensures

pub note_owned-returns-in-Result : goal.note_owned-returns-in-Result
note_owned-returns-in-Result t c = λ many is.
    c.note_payload-in-Result.ensures (λ kind. many kind + owns_in kind (case_part [] (payload_of c.in-Result.ok) End)) (c.note_payload.ensures many is)
    ∙ as_many (λ kind. many kind + owns_in kind (case_part [] (payload_of c.in-Result.ok) End) + owns_in kind (case_part [] (payload_of c.in-Result.err) End)) (λ kind. many kind + owns kind (plain c.args.ty.now)) (λ kind.
    let all = ap (owns kind) (ap plain c.in-Result.is ∙ plain-Result c.in-Result.ok c.in-Result.err) in
    omega (arith, all, owns-two kind (payload_of c.in-Result.ok) (payload_of c.in-Result.err)))

use Rattle.std.proofs.Common.{ap, sym, ◌∙◌}
use Rattle.std.proofs.Math.ListN.{drop_of_length-le}
use Rattle.abi_layout.specs.Flat.{types_of, add_within, join_within, within}
use Rattle.wit_types.specs.Layout.{flat_fields, flat_cases}
use Rattle.wit_types.specs.Plain.{fields_of, cases_of, types_of as parts_of}
use Rattle.wit_types.proofs.PlainLemmas.{plain-Variant, plain-Option, plain-Result}
use Rattle.abi_layout.proofs.FlatLemmas.{variant_is, joined_is, join-nil, more_fields, more_cases, fields_start, cases_start, cases_end, add_within-flat, flat_fields-drop, flat_types-drop, flat_cases-drop, flat_cases-case_part}
use Rattle.abi_layout.proofs.flattening.+flatten.Goals as goal

pub flatten-returns-in-Variant : goal.flatten-returns-in-Variant
flatten-returns-in-Variant t c =
    rw (c.in-Variant.is, plain-Variant, ← c.deref-in-Variant.ensures, ← c.deref-in-Variant-2.ensures.value) (variant_is _ _ _ c.variant.ensures c.flatten_cases.ensures)

pub flatten-returns-in-Option : goal.flatten-returns-in-Option
flatten-returns-in-Option t c =
    rw (c.in-Option.is, plain-Option, join-nil, ← c.deref-in-Option.ensures) (variant_is _ _ _ c.variant-in-Option.ensures c.flatten.ensures)

pub flatten-returns-in-Result : goal.flatten-returns-in-Result
flatten-returns-in-Result t c =
    rw (c.in-Result.is, plain-Result, flat_cases-case_part)
    (variant_is _ _ _ c.variant-in-Result.ensures (joined_is _ _ _ _ _ c.joined.ensures c.flatten_payload.ensures c.flatten_payload-in-Result.ensures))

pub flatten_fields-loop-field-init : goal.flatten_fields-loop-field-init
flatten_fields-loop-field-init t c = fields_start _ _ c.empty-all.ensures

pub flatten_fields-loop-field-preserved : goal.flatten_fields-loop-field-preserved
flatten_fields-loop-field-preserved t c =
    more_fields _ _ _ _ _ _ c.append.ensures c.flatten-part.ensures
    (ap (add_within (types_of c.loop-field.all)) (sym (flat_fields-drop _ _ c.field-item.result c.loop-field-test.true c.field-item.is)) ∙ c.loop-field.invariant)

pub flatten_fields-returns : goal.flatten_fields-returns
flatten_fields-returns t c =
    add_within-flat _ _ ∙ ap (λ z. add_within (types_of c.loop-field.all) (flat_fields (fields_of z))) (sym (drop_of_length-le c.args.fields.now {i = c.loop-field.field-index} c.loop-field-test.false)) ∙ c.loop-field.invariant

pub flatten_types-loop-ty-init : goal.flatten_types-loop-ty-init
flatten_types-loop-ty-init t c = fields_start _ _ c.empty-all.ensures

pub flatten_types-loop-ty-preserved : goal.flatten_types-loop-ty-preserved
flatten_types-loop-ty-preserved t c =
    more_fields _ _ _ _ _ _ c.append.ensures c.flatten-part.ensures
    (ap (add_within (types_of c.loop-ty.all)) (sym (flat_types-drop _ _ c.ty-item.result c.loop-ty-test.true c.ty-item.is)) ∙ c.loop-ty.invariant)

pub flatten_types-returns : goal.flatten_types-returns
flatten_types-returns t c =
    add_within-flat _ _ ∙ ap (λ z. add_within (types_of c.loop-ty.all) (flat_fields (parts_of z))) (sym (drop_of_length-le c.args.types.now {i = c.loop-ty.ty-index} c.loop-ty-test.false)) ∙ c.loop-ty.invariant

pub flatten_cases-loop-case-init : goal.flatten_cases-loop-case-init
flatten_cases-loop-case-init t c = cases_start _ _ c.empty-all.ensures

pub flatten_cases-loop-case-preserved : goal.flatten_cases-loop-case-preserved
flatten_cases-loop-case-preserved t c =
    more_cases _ _ _ _ _ _ c.joined-all.ensures c.flatten_payload-payload.ensures
    (ap (λ z. join_within (types_of c.loop-case.all) (within z)) (sym (flat_cases-drop _ _ c.case-item.result c.loop-case-test.true c.case-item.is)) ∙ c.loop-case.invariant)

pub flatten_cases-returns : goal.flatten_cases-returns
flatten_cases-returns t c =
    sym (cases_end _ _) ∙ ap (λ z. join_within (types_of c.loop-case.all) (within (flat_cases (cases_of z)))) (sym (drop_of_length-le c.args.cases.now {i = c.loop-case.case-index} c.loop-case-test.false)) ∙ c.loop-case.invariant

pub flatten_payload-returns-in-Some : goal.flatten_payload-returns-in-Some
flatten_payload-returns-in-Some t c = rw (c.in-Some.is, join-nil, ← c.deref.ensures) c.flatten.ensures

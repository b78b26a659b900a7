use Rattle.std.proofs.Common.{◌≡◌, ◌+◌, ◌<◌, ap, sym, ◌∙◌, arith, rules, drop, List, [], Option, Some, None, subst, length}
use Rattle.std.specs.Prelude.{IfOk}
use Rattle.std.proofs.Math.ListN.{drop_of_length-le}
use Rattle.wit_types.specs.declared.types.Field.{Field, out-Field}
use Rattle.wit_types.specs.declared.types.WitType.{WitType}
use Rattle.wit_types.specs.declared.types.WitType.TheFolds.{the_lemmas}
use Rattle.wit_types.specs.declared.value.Value.{Value}
use Rattle.wit_types.specs.Layout.{flat, flat_cases}
use Rattle.wit_types.specs.Limits.{parts, all_parts}
use Rattle.wit_types.specs.Plain.{Plain, Parts, plain, fields_of, types_of, payload_of}
use Rattle.wit_types.specs.PlainValue.{PlainValue, plain_value}
use Rattle.wit_types.proofs.ValueLemmas.{plain_value-Variant}
use Rattle.abi_layout.specs.Loading.{has_ranges, parts_have_ranges}
use Rattle.abi_layout.proofs.LayoutLemmas.{all_parts-two}
use Rattle.abi_load.specs.Loaded.{bytes_at}
use Rattle.abi_load.specs.Lifted.{words}
use Rattle.abi_load.proofs.Chains.{fields_cut, types_cut}
use Rattle.abi_load.proofs.Payloads.{other_named, payload_parts}
use Rattle.abi_load.proofs.Sizes.{plain_is-Record, plain_is-Tuple, plain_is-Variant, plain_is-Option, plain_is-Result}
use Rattle.abi_load.proofs.Lifts.{case_is, case_none, case_some, variant_chosen, variant_past, enum_is, option_none, option_some, result_is, lifts_more, lifts_end, flats_more, payload_flats, payload_ranges, or_second, flat_ranges, ok_ranges, err_ranges, ok_flats, err_flats, one_flat}
use Rattle.abi_load.proofs.Only.{short}
use Rattle.abi_load.proofs.lifting.+lift_at.Goals as goal

-- ---- variants

pub lift_variant-returns-then-index-cases-clause-trap : goal.lift_variant-returns-then-index-cases-clause-trap
lift_variant-returns-then-index-cases-clause-trap t c =
    λ h. variant_past (bytes_at c.args.store.now c.args.memory) c.args.cases.now (words c.args.flat.now) c.args.k c.low_word-number.result c.low_word-number.ensures c.if-index-cases.true

pub lift_variant-lift_case-requires : goal.lift_variant-lift_case-requires
lift_variant-lift_case-requires t c =
    let few = payload_parts c.args.cases.now c.low_word-number.result c.index-cases-index.result c.if-index-cases.false in
    let room = payload_flats c.args.cases.now c.low_word-number.result c.index-cases-index.result c.if-index-cases.false in
    (search (rules, the_lemmas), ((λ h. c.requires.memory (payload_ranges c.args.cases.now c.low_word-number.result c.index-cases-index.result c.if-index-cases.false h)), (omega arith, omega arith)))

pub lift_variant-returns-clause-ok : goal.lift_variant-returns-clause-ok
lift_variant-returns-clause-ok t c =
    let same = variant_chosen (bytes_at c.args.store.now c.args.memory) c.args.cases.now (words c.args.flat.now) c.args.k c.low_word-number.result c.index-cases-index.result c.low_word-number.ensures c.if-index-cases.false in
    subst (λ (o : Option PlainValue). IfOk c.lift_case.result (λ v. o ≡ Some (plain_value v))) (sym same) c.lift_case.ensures.ok

pub lift_variant-returns-clause-trap : goal.lift_variant-returns-clause-trap
lift_variant-returns-clause-trap t c =
    let same = variant_chosen (bytes_at c.args.store.now c.args.memory) c.args.cases.now (words c.args.flat.now) c.args.k c.low_word-number.result c.index-cases-index.result c.low_word-number.ensures c.if-index-cases.false in
    λ h. same ∙ c.lift_case.ensures.trap h

-- ---- fields

pub lift_fields-loop-field-preserved : goal.lift_fields-loop-field-preserved
lift_fields-loop-field-preserved t c =
    let fs = c.args.fields.now in
    let i = c.loop-field.field-index in
    let f = c.field-item.result in
    let cut = fields_cut fs i f c.loop-field-test.true c.field-item.is in
    let flats = flats_more (fields_of (drop i fs)) (fields_of (drop (i + 1) fs)) (out-Field f).name (plain (out-Field f).ty) cut in
    let sizes : all_parts (fields_of (drop i fs)) ≡ parts (plain (out-Field f).ty) + all_parts (fields_of (drop (i + 1) fs)) = ap all_parts cut in
    record {
      values = lifts_more (bytes_at c.args.store.now c.args.memory) _ (fields_of (drop i fs)) (fields_of (drop (i + 1) fs)) (out-Field f).name (plain (out-Field f).ty) (words c.args.flat.now) c.loop-field.k _ c.loop-field.values.items
          c.push.new.self.items c.in_ok-value.value c.loop-field.invariant.values cut (ap (λ j. c.loop-field.k + j) c.flat_count-k.ensures) c.in_ok-value.ensures.ok c.in_ok-push.ensures.items;
      ranges = λ h. c.loop-field.invariant.ranges (ap parts_have_ranges cut ∙ or_second (has_ranges (plain (out-Field f).ty)) (parts_have_ranges (fields_of (drop (i + 1) fs))) h);
      few = omega arith;
      room = omega arith;
    }

pub lift_fields-returns-clause-ok : goal.lift_fields-returns-clause-ok
lift_fields-returns-clause-ok t c =
    lifts_end (bytes_at c.args.store.now c.args.memory) _ (fields_of (drop c.loop-field.field-index c.args.fields.now)) (words c.args.flat.now) c.loop-field.k c.loop-field.values.items c.loop-field.invariant.values
    (ap (λ (v : List Field). fields_of v) (drop_of_length-le c.args.fields.now {i = c.loop-field.field-index} c.loop-field-test.false))

pub lift_types-loop-ty-preserved : goal.lift_types-loop-ty-preserved
lift_types-loop-ty-preserved t c =
    let ts = c.args.types.now in
    let i = c.loop-ty.ty-index in
    let ty = c.ty-item.result in
    let cut = types_cut ts i ty c.loop-ty-test.true c.ty-item.is in
    let flats = flats_more (types_of (drop i ts)) (types_of (drop (i + 1) ts)) [] (plain ty) cut in
    let sizes : all_parts (types_of (drop i ts)) ≡ parts (plain ty) + all_parts (types_of (drop (i + 1) ts)) = ap all_parts cut in
    record {
      values = lifts_more (bytes_at c.args.store.now c.args.memory) _ (types_of (drop i ts)) (types_of (drop (i + 1) ts)) [] (plain ty) (words c.args.flat.now) c.loop-ty.k _ c.loop-ty.values.items
          c.push.new.self.items c.in_ok-value.value c.loop-ty.invariant.values cut (ap (λ j. c.loop-ty.k + j) c.flat_count-k.ensures) c.in_ok-value.ensures.ok c.in_ok-push.ensures.items;
      ranges = λ h. c.loop-ty.invariant.ranges (ap parts_have_ranges cut ∙ or_second (has_ranges (plain ty)) (parts_have_ranges (types_of (drop (i + 1) ts))) h);
      few = omega arith;
      room = omega arith;
    }

pub lift_types-returns-clause-ok : goal.lift_types-returns-clause-ok
lift_types-returns-clause-ok t c =
    lifts_end (bytes_at c.args.store.now c.args.memory) _ (types_of (drop c.loop-ty.ty-index c.args.types.now)) (words c.args.flat.now) c.loop-ty.k c.loop-ty.values.items c.loop-ty.invariant.values
    (ap (λ (v : List WitType). types_of v) (drop_of_length-le c.args.types.now {i = c.loop-ty.ty-index} c.loop-ty-test.false))

-- ---- calls

pub lift_at-lift_short-requires : goal.lift_at-lift_short-requires
lift_at-lift_short-requires t c =
    short _ c.in_default.not-S64 c.in_default.not-U64 c.in_default.not-Str c.in_default.not-List c.in_default.not-Record c.in_default.not-Tuple c.in_default.not-Variant c.in_default.not-Enum c.in_default.not-Option c.in_default.not-Result

pub lift_at-lift_fields-requires : goal.lift_at-lift_fields-requires
lift_at-lift_fields-requires t c =
    let whole = plain_is-Record c.args.ty.now c.in-Record.fields c.deref-in-Record.result.now c.deref-in-Record-2.result.now c.in-Record.is c.deref-in-Record.ensures c.deref-in-Record-2.ensures.value in
    let sizes = ap parts whole in
    let flats = ap (λ (p : Plain). length (flat p)) whole in
    (search (rules, the_lemmas), ((λ h. c.requires.memory (ap has_ranges whole ∙ h)), (omega arith, omega arith)))

pub lift_at-lift_types-requires : goal.lift_at-lift_types-requires
lift_at-lift_types-requires t c =
    let whole = plain_is-Tuple c.args.ty.now c.in-Tuple.types c.deref-in-Tuple.result.now c.deref-in-Tuple-2.result.now c.in-Tuple.is c.deref-in-Tuple.ensures c.deref-in-Tuple-2.ensures.value in
    let sizes = ap parts whole in
    let flats = ap (λ (p : Plain). length (flat p)) whole in
    (search (rules, the_lemmas), ((λ h. c.requires.memory (ap has_ranges whole ∙ h)), (omega arith, omega arith)))

pub lift_at-lift_variant-requires : goal.lift_at-lift_variant-requires
lift_at-lift_variant-requires t c =
    let whole = plain_is-Variant c.args.ty.now c.in-Variant.cases c.deref-in-Variant.result.now c.deref-in-Variant-2.result.now c.in-Variant.is c.deref-in-Variant.ensures c.deref-in-Variant-2.ensures.value in
    let sizes = ap parts whole in
    let flats = ap (λ (p : Plain). length (flat p)) whole in
    (search (rules, the_lemmas), ((λ h. c.requires.memory (ap has_ranges whole ∙ h)), (omega arith, omega arith)))

pub lift_at-lift_option-requires : goal.lift_at-lift_option-requires
lift_at-lift_option-requires t c =
    let whole = plain_is-Option c.args.ty.now c.in-Option.some c.deref-in-Option.result.now c.in-Option.is c.deref-in-Option.ensures in
    let sizes = ap parts whole in
    let flats = ap (λ (p : Plain). length (flat p)) whole in
    let one = one_flat (plain c.deref-in-Option.result.now) in
    (search (rules, the_lemmas), ((λ h. c.requires.memory (ap has_ranges whole ∙ flat_ranges (plain c.deref-in-Option.result.now) h)), (omega arith, omega arith)))

pub lift_at-lift_case-requires : goal.lift_at-lift_case-requires
lift_at-lift_case-requires t c =
    let whole = plain_is-Result c.args.ty.now c.in-Result.ok c.in-Result.err c.in-Result.is in
    let sizes = ap parts whole in
    let two = all_parts-two (payload_of c.in-Result.ok) (payload_of c.in-Result.err) in
    let flats = ap (λ (p : Plain). length (flat p)) whole in
    let one = ok_flats (payload_of c.in-Result.ok) (payload_of c.in-Result.err) in
    (search (rules, the_lemmas), ((λ h. c.requires.memory (ap has_ranges whole ∙ ok_ranges (payload_of c.in-Result.ok) (payload_of c.in-Result.err) h)), (omega arith, omega arith)))

pub lift_at-lift_case-requires-else-number-eq0 : goal.lift_at-lift_case-requires-else-number-eq0
lift_at-lift_case-requires-else-number-eq0 t c =
    let whole = plain_is-Result c.args.ty.now c.in-Result.ok c.in-Result.err c.in-Result.is in
    let sizes = ap parts whole in
    let two = all_parts-two (payload_of c.in-Result.ok) (payload_of c.in-Result.err) in
    let flats = ap (λ (p : Plain). length (flat p)) whole in
    let one = err_flats (payload_of c.in-Result.ok) (payload_of c.in-Result.err) in
    (search (rules, the_lemmas), ((λ h. c.requires.memory (ap has_ranges whole ∙ err_ranges (payload_of c.in-Result.ok) (payload_of c.in-Result.err) h)), (omega arith, omega arith)))

pub lift_at-returns-else-number-eq0-clause-ok : goal.lift_at-returns-else-number-eq0-clause-ok
lift_at-returns-else-number-eq0-clause-ok t c =
    let n = c.low_word-number.result in
    let some : 0 < c.low_word-number.result = omega arith in
    let same = result_is (bytes_at c.args.store.now c.args.memory) c.args.ty.now c.in-Result.ok c.in-Result.err (words c.args.flat.now) c.args.k n (payload_of c.in-Result.err) c.in-Result.is c.low_word-number.ensures c.if-number-gt1.false
    (other_named n (payload_of c.in-Result.ok) (payload_of c.in-Result.err) some) in
    subst (λ (o : Option PlainValue). IfOk c.lift_case-else-number-eq0.result (λ v. o ≡ Some (plain_value v))) (sym same) c.lift_case-else-number-eq0.ensures.ok

pub lift_at-returns-in-Enum-clause-ok : goal.lift_at-returns-in-Enum-clause-ok
lift_at-returns-in-Enum-clause-ok t c =
    let same = enum_is (bytes_at c.args.store.now c.args.memory) c.args.ty.now c.in-Enum.labels c.deref-in-Enum.result.now (words c.args.flat.now) c.args.k c.len.result c.in-Enum.is c.deref-in-Enum.ensures c.len.ensures in
    subst (λ (o : Option PlainValue). IfOk c.lift_enum.result (λ v. o ≡ Some (plain_value v))) (sym same) c.lift_enum.ensures.ok

pub lift_at-returns-in-Enum-clause-trap : goal.lift_at-returns-in-Enum-clause-trap
lift_at-returns-in-Enum-clause-trap t c =
    let same = enum_is (bytes_at c.args.store.now c.args.memory) c.args.ty.now c.in-Enum.labels c.deref-in-Enum.result.now (words c.args.flat.now) c.args.k c.len.result c.in-Enum.is c.deref-in-Enum.ensures c.len.ensures in
    λ h. same ∙ c.lift_enum.ensures.trap h

-- ---- cases and options

pub lift_case-lift_at-requires : goal.lift_case-lift_at-requires
lift_case-lift_at-requires t c =
    let same = case_is c.args.ty.now c.in-Some.ty c.deref.result.now c.in-Some.is c.deref.ensures in
    let sizes = ap all_parts same in
    let flats = ap (λ (v : Parts). length (flat_cases v)) same in
    let one = one_flat (plain c.deref.result.now) in
    (search (rules, the_lemmas), ((λ h. c.requires.memory (ap parts_have_ranges same ∙ flat_ranges (plain c.deref.result.now) h)), (omega arith, omega arith)))

pub lift_case-returns-in-None-clause-ok : goal.lift_case-returns-in-None-clause-ok
lift_case-returns-in-None-clause-ok t c = case_none (bytes_at c.args.store.now c.args.memory) c.args.number c.args.ty.now (words c.args.flat.now) c.args.k c.in-None.is

pub lift_case-returns-in_ok-new-in-Some-clause-ok : goal.lift_case-returns-in_ok-new-in-Some-clause-ok
lift_case-returns-in_ok-new-in-Some-clause-ok t c =
    case_some (bytes_at c.args.store.now c.args.memory) c.args.number c.args.ty.now c.in-Some.ty (words c.args.flat.now) c.args.k c.deref.result.now c.in_ok-value-in-Some.value c.in_ok-new-in-Some.field-0
    c.in-Some.is c.deref.ensures c.in_ok-value-in-Some.ensures.ok c.in_ok-new-in-Some.ensures.ok

pub lift_option-returns-then-number-eq0-clause-ok : goal.lift_option-returns-then-number-eq0-clause-ok
lift_option-returns-then-number-eq0-clause-ok t c =
    option_none (bytes_at c.args.store.now c.args.memory) (plain c.args.some.now) (words c.args.flat.now) c.args.k c.low_word-number.result c.low_word-number.ensures c.if-number-eq0.true ∙ ap Some (sym (plain_value-Variant 0 None))

pub lift_option-returns-clause-ok : goal.lift_option-returns-clause-ok
lift_option-returns-clause-ok t c =
    option_some (bytes_at c.args.store.now c.args.memory) (plain c.args.some.now) (words c.args.flat.now) c.args.k c.low_word-number.result (Some (plain_value c.in_ok-new.field-0.value)) c.low_word-number.ensures (omega arith)
    (c.in_ok-value.ensures.ok ∙ ap (λ (v : Value). Some (plain_value v)) (sym c.in_ok-new.ensures.ok))
    ∙ ap Some (sym (plain_value-Variant 1 (Some c.in_ok-new.field-0)))

use Rattle.std.proofs.Common.{◌≡◌, ◌+◌, ◌-◌, ◌*◌, ap, refl, sym, ◌∙◌, arith, rules, drop, List, Option, Some, None, subst}
use Rattle.std.specs.Prelude.{IfOk}
use Rattle.std.proofs.Math.ListN.{drop_of_length-le}
use Rattle.std.proofs.lemmas.Result.{err_from_is_err_and}
use Rattle.wit_types.specs.declared.types.Field.{Field, out-Field}
use Rattle.wit_types.specs.declared.types.WitType.{WitType}
use Rattle.wit_types.specs.declared.types.WitType.TheFolds.{the_lemmas}
use Rattle.wit_types.specs.Plain.{plain, fields_of, types_of, cases_of, payload_of}
use Rattle.wit_types.specs.PlainValue.{PlainValue, plain_value}
use Rattle.wit_types.specs.Layout.{align_to}
use Rattle.wit_types.specs.Limits.{parts, all_parts}
use Rattle.abi_layout.specs.Loading.{loads_at}
use Rattle.abi_load.specs.Loaded.{bytes_at}
use Rattle.abi_load.proofs.Chains.{fields_more, fields_end, fields_cut, types_more, types_cut, items_more, items_stop, items_end, mul_more}
use Rattle.abi_load.proofs.Payloads.{enum_loaded, option_none, option_some, option_offset, case_none, case_some, cases_offset, payload_parts, variant_chosen, variant_past, cases_wide}
use Rattle.abi_load.proofs.Steps.{fault_kept, variant_unread}
use Rattle.abi_layout.proofs.LayoutLemmas.{all_parts-two}
use Rattle.wit_types.proofs.ValueLemmas.{plain_value-Variant}
use Rattle.wit_types.specs.declared.value.Value.{Value}
use Rattle.abi_load.proofs.Sizes.{parts-Record, parts-Tuple, parts-Variant, parts-Option, parts-List, parts-Result}
use Rattle.abi_load.proofs.Only.{four_bytes}
use Rattle.abi_load.proofs.loading.+load_at.Goals as goal

pub load_at-load_list-requires : goal.load_at-load_list-requires
load_at-load_list-requires t c =
    let same : parts (plain c.deref-in-List.result.now) ≡ parts (plain c.in-List.item.value) = ap (λ (w : WitType). parts (plain w)) c.deref-in-List.ensures in
    let whole = parts-List c.args.ty.now c.in-List.item c.in-List.is in
    (search (rules, the_lemmas), (c.requires.memory, (omega arith, omega arith)))

pub load_at-load_fields-requires : goal.load_at-load_fields-requires
load_at-load_fields-requires t c =
    let whole = parts-Record c.args.ty.now c.in-Record.fields c.deref-in-Record.result.now c.deref-in-Record-2.result.now c.in-Record.is c.deref-in-Record.ensures c.deref-in-Record-2.ensures.value in
    (search (rules, the_lemmas), (c.requires.memory, (omega arith, omega arith)))

pub load_at-load_types-requires : goal.load_at-load_types-requires
load_at-load_types-requires t c =
    let whole = parts-Tuple c.args.ty.now c.in-Tuple.types c.deref-in-Tuple.result.now c.deref-in-Tuple-2.result.now c.in-Tuple.is c.deref-in-Tuple.ensures c.deref-in-Tuple-2.ensures.value in
    (search (rules, the_lemmas), (c.requires.memory, (omega arith, omega arith)))

pub load_at-load_variant-requires : goal.load_at-load_variant-requires
load_at-load_variant-requires t c =
    let whole = parts-Variant c.args.ty.now c.in-Variant.cases c.deref-in-Variant.result.now c.deref-in-Variant-2.result.now c.in-Variant.is c.deref-in-Variant.ensures c.deref-in-Variant-2.ensures.value in
    (search (rules, the_lemmas), (c.requires.memory, (omega arith, omega arith)))

pub load_at-load_option-requires : goal.load_at-load_option-requires
load_at-load_option-requires t c =
    let same : parts (plain c.deref-in-Option.result.now) ≡ parts (plain c.in-Option.some.value) = ap (λ (w : WitType). parts (plain w)) c.deref-in-Option.ensures in
    let whole = parts-Option c.args.ty.now c.in-Option.some c.in-Option.is in
    (search (rules, the_lemmas), (c.requires.memory, (omega arith, omega arith)))

pub load_at-returns-in_default-clause-ok : goal.load_at-returns-in_default-clause-ok
load_at-returns-in_default-clause-ok t c =
    let same =
    four_bytes (bytes_at c.args.store.now c.args.memory) c.args.at c.args.ty.now c.in_default.not-Bool c.in_default.not-S8 c.in_default.not-U8 c.in_default.not-S16 c.in_default.not-U16 c.in_default.not-S64 c.in_default.not-U64 c.in_default.not-Str
    c.in_default.not-Flags c.in_default.not-List c.in_default.not-Record c.in_default.not-Tuple c.in_default.not-Variant c.in_default.not-Enum c.in_default.not-Option c.in_default.not-Result in
    subst (λ (o : Option PlainValue). IfOk c.load_number-in_default.result (λ v. o ≡ Some (plain_value v))) (sym same) c.load_number-in_default.ensures.ok

pub load_at-returns-in_default-clause-trap : goal.load_at-returns-in_default-clause-trap
load_at-returns-in_default-clause-trap t c =
    let same =
    four_bytes (bytes_at c.args.store.now c.args.memory) c.args.at c.args.ty.now c.in_default.not-Bool c.in_default.not-S8 c.in_default.not-U8 c.in_default.not-S16 c.in_default.not-U16 c.in_default.not-S64 c.in_default.not-U64 c.in_default.not-Str
    c.in_default.not-Flags c.in_default.not-List c.in_default.not-Record c.in_default.not-Tuple c.in_default.not-Variant c.in_default.not-Enum c.in_default.not-Option c.in_default.not-Result in
    λ h. same ∙ c.load_number-in_default.ensures.trap h

pub load_at-returns-in-Enum-clause-ok : goal.load_at-returns-in-Enum-clause-ok
load_at-returns-in-Enum-clause-ok t c =
    let same = enum_loaded (bytes_at c.args.store.now c.args.memory) c.args.ty.now c.in-Enum.labels c.deref-in-Enum.result.now c.args.at c.len-in-Enum.result c.in-Enum.is c.deref-in-Enum.ensures c.len-in-Enum.ensures in
    subst (λ (o : Option PlainValue). IfOk c.load_enum.result (λ v. o ≡ Some (plain_value v))) (sym same) c.load_enum.ensures.ok

pub load_at-returns-in-Enum-clause-trap : goal.load_at-returns-in-Enum-clause-trap
load_at-returns-in-Enum-clause-trap t c =
    let same = enum_loaded (bytes_at c.args.store.now c.args.memory) c.args.ty.now c.in-Enum.labels c.deref-in-Enum.result.now c.args.at c.len-in-Enum.result c.in-Enum.is c.deref-in-Enum.ensures c.len-in-Enum.ensures in
    λ h. same ∙ c.load_enum.ensures.trap h

pub load_fields-loop-field-preserved : goal.load_fields-loop-field-preserved
load_fields-loop-field-preserved t c =
    let fs = c.args.fields.now in
    let i = c.loop-field.field-index in
    let f = c.field-item.result in
    let begin = c.align_to-start.ensures.value ∙ ap (align_to c.loop-field.offset) c.layout_of-layout.ensures.align in
    let end = ap (λ k. c.align_to-start.result + k) c.layout_of-layout.ensures.size in
    let cut : all_parts (fields_of (drop i fs)) ≡ parts (plain (out-Field f).ty) + all_parts (fields_of (drop (i + 1) fs)) = ap all_parts (fields_cut fs i f c.loop-field-test.true c.field-item.is) in
    record {
      values = fields_more (bytes_at c.args.store.now c.args.memory) _ fs i f c.args.at c.loop-field.offset c.align_to-start.result _ c.loop-field.values.items c.push.new.self.items c.in_ok-value.value
          c.loop-field-test.true c.field-item.is c.loop-field.invariant.values begin end c.in_ok-value.ensures.ok c.in_ok-push.ensures.items;
      few = omega arith;
      room = omega arith;
    }

pub load_fields-returns-clause-ok : goal.load_fields-returns-clause-ok
load_fields-returns-clause-ok t c =
    fields_end (bytes_at c.args.store.now c.args.memory) _ (fields_of (drop c.loop-field.field-index c.args.fields.now)) c.args.at c.loop-field.offset c.loop-field.values.items c.loop-field.invariant.values
    (ap (λ (v : List Field). fields_of v) (drop_of_length-le c.args.fields.now {i = c.loop-field.field-index} c.loop-field-test.false))

pub load_types-loop-ty-preserved : goal.load_types-loop-ty-preserved
load_types-loop-ty-preserved t c =
    let ts = c.args.types.now in
    let i = c.loop-ty.ty-index in
    let ty = c.ty-item.result in
    let begin = c.align_to-start.ensures.value ∙ ap (align_to c.loop-ty.offset) c.layout_of-layout.ensures.align in
    let end = ap (λ k. c.align_to-start.result + k) c.layout_of-layout.ensures.size in
    let cut : all_parts (types_of (drop i ts)) ≡ parts (plain ty) + all_parts (types_of (drop (i + 1) ts)) = ap all_parts (types_cut ts i ty c.loop-ty-test.true c.ty-item.is) in
    record {
      values = types_more (bytes_at c.args.store.now c.args.memory) _ ts i ty c.args.at c.loop-ty.offset c.align_to-start.result _ c.loop-ty.values.items c.push.new.self.items c.in_ok-value.value
          c.loop-ty-test.true c.ty-item.is c.loop-ty.invariant.values begin end c.in_ok-value.ensures.ok c.in_ok-push.ensures.items;
      few = omega arith;
      room = omega arith;
    }

pub load_types-returns-clause-ok : goal.load_types-returns-clause-ok
load_types-returns-clause-ok t c =
    fields_end (bytes_at c.args.store.now c.args.memory) _ (types_of (drop c.loop-ty.ty-index c.args.types.now)) c.args.at c.loop-ty.offset c.loop-ty.values.items c.loop-ty.invariant.values
    (ap (λ (v : List WitType). types_of v) (drop_of_length-le c.args.types.now {i = c.loop-ty.ty-index} c.loop-ty-test.false))

pub load_items-loop-done-preserved : goal.load_items-loop-done-preserved
load_items-loop-done-preserved t c =
    let m = c.args.count - c.loop-done._done in
    let k = c.args.count - (c.loop-done._done + 1) in
    let step : c.args.count - c.loop-done._done ≡ c.args.count - (c.loop-done._done + 1) + 1 = omega arith in
    let more : (c.args.count - c.loop-done._done) * c.args.width ≡ (c.args.count - (c.loop-done._done + 1)) * c.args.width + c.args.width = mul_more m k c.args.width step in
    record {
      values = items_more (λ p. loads_at (bytes_at c.args.store.now c.args.memory) (plain c.args.item.now) p) c.args.width c.loop-done.at m k _ c.loop-done.values.items c.push.new.self.items c.in_ok-value.value
          c.loop-done.invariant.values step c.in_ok-value.ensures.ok c.in_ok-push.ensures.items;
      room = omega arith;
    }

pub load_items-returns-in_err-value-clause-trap : goal.load_items-returns-in_err-value-clause-trap
load_items-returns-in_err-value-clause-trap t c =
    let p = err_from_is_err_and c.from_residual-in_err-value.result c.from_residual-in_err-value.ensures.1 in
    let step : c.args.count - c.loop-done._done ≡ c.args.count - (c.loop-done._done + 1) + 1 = omega arith in
    rw (p.1, p.2) (λ h. items_stop (λ q. loads_at (bytes_at c.args.store.now c.args.memory) (plain c.args.item.now) q) c.args.width c.loop-done.at (c.args.count - c.loop-done._done) (c.args.count - (c.loop-done._done + 1)) _ c.loop-done.values.items
    c.loop-done.invariant.values step (c.in_err-value.ensures.trap (fault_kept _ _ h)))

pub load_items-returns-clause-ok : goal.load_items-returns-clause-ok
load_items-returns-clause-ok t c =
    items_end (λ q. loads_at (bytes_at c.args.store.now c.args.memory) (plain c.args.item.now) q) c.args.width c.loop-done.at (c.args.count - c.loop-done._done) _ c.loop-done.values.items c.loop-done.invariant.values (omega arith)

pub load_option-returns-then-number-eq0-clause-ok : goal.load_option-returns-then-number-eq0-clause-ok
load_option-returns-then-number-eq0-clause-ok t c =
    option_none (bytes_at c.args.store.now c.args.memory) (plain c.args.some.now) c.args.at c.in_ok-number.number c.in_ok-number.ensures.ok c.if-number-eq0.true ∙ ap Some (sym (plain_value-Variant 0 None))

pub load_option-returns-clause-ok : goal.load_option-returns-clause-ok
load_option-returns-clause-ok t c =
    option_some (bytes_at c.args.store.now c.args.memory) (plain c.args.some.now) c.args.at c.in_ok-number.number (c.args.at + c.payload_offset-offset.result) c.payload_offset-offset.result
    (plain_value c.in_ok-new.field-0.value) c.in_ok-number.ensures.ok (omega arith) refl
    (option_offset (plain c.args.some.now) c.layout_of.result.align c.payload_offset-offset.result c.layout_of.ensures.align c.payload_offset-offset.ensures.value)
    (c.in_ok-value.ensures.ok ∙ ap (λ (v : Value). Some (plain_value v)) (sym c.in_ok-new.ensures.ok))
    ∙ ap Some (sym (plain_value-Variant 1 (Some c.in_ok-new.field-0)))

pub load_variant-returns-in_err-number-clause-trap : goal.load_variant-returns-in_err-number-clause-trap
load_variant-returns-in_err-number-clause-trap t c =
    let p = err_from_is_err_and c.from_residual.result c.from_residual.ensures.1 in
    rw (p.1, p.2) (λ h. variant_unread (bytes_at c.args.store.now c.args.memory) (cases_of c.args.cases.now) c.args.at c.discriminant_width.result
    (cases_wide c.args.cases.now c.discriminant_width.result c.discriminant_width.ensures.value) (c.in_err-number.ensures.trap (fault_kept _ _ h)))

pub load_variant-returns-then-index-cases-clause-trap : goal.load_variant-returns-then-index-cases-clause-trap
load_variant-returns-then-index-cases-clause-trap t c =
    λ h. variant_past (bytes_at c.args.store.now c.args.memory) c.args.cases.now c.args.at c.discriminant_width.result c.in_ok-number.number c.discriminant_width.ensures.value c.in_ok-number.ensures.ok c.if-index-cases.true

pub load_variant-load_case-requires : goal.load_variant-load_case-requires
load_variant-load_case-requires t c =
    let few = payload_parts c.args.cases.now c.in_ok-number.number c.index-cases-index.result c.if-index-cases.false in
    (search (rules, the_lemmas), (c.requires.memory, (omega arith, omega arith)))

pub load_variant-returns-clause-ok : goal.load_variant-returns-clause-ok
load_variant-returns-clause-ok t c =
    let there = ap (λ k. c.args.at + k) (cases_offset c.args.cases.now c.layout_of_cases.result.align c.payload_offset-offset.result c.layout_of_cases.ensures.align c.payload_offset-offset.ensures.value) in
    let same = variant_chosen (bytes_at c.args.store.now c.args.memory) c.args.cases.now c.args.at c.discriminant_width.result c.in_ok-number.number (c.args.at + c.payload_offset-offset.result) c.index-cases-index.result
    c.discriminant_width.ensures.value there c.in_ok-number.ensures.ok c.if-index-cases.false in
    subst (λ (o : Option PlainValue). IfOk c.load_case.result (λ v. o ≡ Some (plain_value v))) (sym same) c.load_case.ensures.ok

pub load_variant-returns-clause-trap : goal.load_variant-returns-clause-trap
load_variant-returns-clause-trap t c =
    let there = ap (λ k. c.args.at + k) (cases_offset c.args.cases.now c.layout_of_cases.result.align c.payload_offset-offset.result c.layout_of_cases.ensures.align c.payload_offset-offset.ensures.value) in
    let same = variant_chosen (bytes_at c.args.store.now c.args.memory) c.args.cases.now c.args.at c.discriminant_width.result c.in_ok-number.number (c.args.at + c.payload_offset-offset.result) c.index-cases-index.result
    c.discriminant_width.ensures.value there c.in_ok-number.ensures.ok c.if-index-cases.false in
    λ h. same ∙ c.load_case.ensures.trap h

pub load_at-load_case-requires : goal.load_at-load_case-requires
load_at-load_case-requires t c =
    let whole = parts-Result c.args.ty.now c.in-Result.ok c.in-Result.err c.in-Result.is in
    let two = all_parts-two (payload_of c.in-Result.ok) (payload_of c.in-Result.err) in
    let near = c.in_ok-case-in-Result.ensures.near in
    (search (rules, the_lemmas), (c.requires.memory, (omega arith, omega arith)))

pub load_at-load_case-requires-else-case-eq0 : goal.load_at-load_case-requires-else-case-eq0
load_at-load_case-requires-else-case-eq0 t c =
    let whole = parts-Result c.args.ty.now c.in-Result.ok c.in-Result.err c.in-Result.is in
    let two = all_parts-two (payload_of c.in-Result.ok) (payload_of c.in-Result.err) in
    let near = c.in_ok-case-in-Result.ensures.near in
    (search (rules, the_lemmas), (c.requires.memory, (omega arith, omega arith)))

pub load_case-returns-in-None-clause-ok : goal.load_case-returns-in-None-clause-ok
load_case-returns-in-None-clause-ok t c = case_none (bytes_at c.args.store.now c.args.memory) c.args.number c.args.ty.now c.args.at c.in-None.is

pub load_case-returns-in_ok-new-in-Some-clause-ok : goal.load_case-returns-in_ok-new-in-Some-clause-ok
load_case-returns-in_ok-new-in-Some-clause-ok t c =
    case_some (bytes_at c.args.store.now c.args.memory) c.args.number c.args.ty.now c.in-Some.ty c.args.at c.deref.result.now c.in_ok-value-in-Some.value c.in_ok-new-in-Some.field-0
    c.in-Some.is c.deref.ensures c.in_ok-value-in-Some.ensures.ok c.in_ok-new-in-Some.ensures.ok

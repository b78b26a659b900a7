use Rattle.std.proofs.Common.{◌≡◌, ◌+◌, ◌≤◌, ◌*◌, ℕ, refl, sym, ap, ◌∙◌, subst, arith, length, drop, get_or}
use Rattle.wit_types.specs.declared.types.Field.{out-Field}
use Rattle.wit_types.specs.declared.types.WitType.{WitType}
use Rattle.wit_types.specs.Plain.{AsEnum, plain, payload_of, fields_of, types_of, cases_of}
use Rattle.wit_types.specs.PlainValue.{ListValue, plain_value, values_of, payload_of as value_payload_of}
use Rattle.wit_types.specs.Limits.{parts, all_parts}
use Rattle.wit_types.proofs.PlainLemmas.{plain-Enum}
use Rattle.wit_types.proofs.ValueLemmas.{plain_value-List, plain_values-Bytes}
use Rattle.abi_layout.specs.Handles.{handles, field_handles, item_handles, renumbered, renumbered_fields, renumbered_items}
use Rattle.value_handles.proofs.Laws.{case_at, no_label_handles, bytes_items, none_in_items, no_handles}
use Rattle.value_handles.proofs.Changes.{change_at, labels_stay, bytes_items_stay, stays, items_stay as each_stays}
use Rattle.value_handles.proofs.Sizes.{option_parts, field_parts, type_parts, case_parts}
use Rattle.value_handles.proofs.Turns.{turned_starts, turned_end, next_is, next_part, as_long, items_turn, items_count, items_stay, no_items, fields_turn, fields_count, values_end, none_left, fields_end, types_end, type_cut}
use Rattle.value_handles.proofs.renumbering.+renumber.Goals as goal

pub renumber-returns-in-Enum-clause-value : goal.renumber-returns-in-Enum-clause-value
renumber-returns-in-Enum-clause-value t c = rw (c.in-Enum.is, plain-Enum) (sym (labels_stay AsEnum _ (plain_value c.args.value) (drop c.args.at.now c.args.numbers.now)))

pub renumber-returns-in-Enum-clause-next : goal.renumber-returns-in-Enum-clause-next
renumber-returns-in-Enum-clause-next t c = rw (c.in-Enum.is, plain-Enum, no_label_handles AsEnum _ (plain_value c.args.value)) (omega arith)

pub renumber_case-renumber_payload-requires : goal.renumber_case-renumber_payload-requires
renumber_case-renumber_payload-requires t c =
    let now : 5 * all_parts (cases_of c.args.cases.now) + 3 ≡ t = c.decreases in
    let few = case_parts c.args.cases.now c.args.number c.index-cases-number.result c.if-number-cases.false in
    let same = ap length (case_at c.args.cases.now c.args.number c.index-cases-number.result (value_payload_of c.args.payload) c.if-number-cases.false) in
    let room = c.requires.room in
    (omega arith, omega arith)

pub renumber_case-returns-clause-value : goal.renumber_case-returns-clause-value
renumber_case-returns-clause-value t c =
    c.renumber_payload.ensures.value ∙ sym (change_at c.args.cases.now c.args.number c.index-cases-number.result (value_payload_of c.args.payload) (drop c.args.at.now c.args.numbers.now) c.if-number-cases.false)

pub renumber_case-returns-clause-next : goal.renumber_case-returns-clause-next
renumber_case-returns-clause-next t c =
    c.renumber_payload.ensures.next ∙ ap (λ hs. c.args.at.now + length hs) (sym (case_at c.args.cases.now c.args.number c.index-cases-number.result (value_payload_of c.args.payload) c.if-number-cases.false))

pub renumber_items-returns-in-Bytes-clause-value : goal.renumber_items-returns-in-Bytes-clause-value
renumber_items-returns-in-Bytes-clause-value t c =
    rw (c.in-Bytes.is, plain_values-Bytes) (sym (bytes_items_stay (plain c.args.item.now) _ (drop c.args.at.now c.args.numbers.now)))

pub renumber_items-returns-in-Bytes-clause-next : goal.renumber_items-returns-in-Bytes-clause-next
renumber_items-returns-in-Bytes-clause-next t c = rw (c.in-Bytes.is, plain_values-Bytes, bytes_items (plain c.args.item.now) _) (omega arith)

pub renumber_list-returns-else-has_handles-clause-value : goal.renumber_list-returns-else-has_handles-clause-value
renumber_list-returns-else-has_handles-clause-value t c =
    rw (c.in-List.is, plain_value-List)
    (ap ListValue (sym (each_stays (λ v. handles (plain c.args.item.now) v) (λ v ns. renumbered (plain c.args.item.now) v ns) (λ v ns. stays (plain c.args.item.now) v ns (sym c.has_handles.ensures ∙ c.if-has_handles.false)) _ (drop c.args.at.now c.args.numbers.now))))

pub renumber_list-returns-else-has_handles-clause-next : goal.renumber_list-returns-else-has_handles-clause-next
renumber_list-returns-else-has_handles-clause-next t c =
    rw (c.in-List.is, plain_value-List, none_in_items (λ v. handles (plain c.args.item.now) v) (λ v. no_handles (plain c.args.item.now) v (sym c.has_handles.ensures ∙ c.if-has_handles.false)) _) (omega arith)

-- ---- the items of a list

pub renumber_each-loop-i-init : goal.renumber_each-loop-i-init
renumber_each-loop-i-init t c = record { turned = turned_starts _ _; count = refl; long = refl }

pub renumber_each-renumber-requires : goal.renumber_each-renumber-requires
renumber_each-renumber-requires t c =
    let now : 5 * parts (plain c.args.item.now) + 1 ≡ t = c.decreases in
    let cut = next_is c.args.values.items c.loop-i.items.items c.loop-i.i c.take_item-value.result c.take_item-value.ensures.item c.loop-i.invariant.turned.rest in
    let count = items_count (λ v. handles (plain c.args.item.now) v) (λ v ns. renumbered (plain c.args.item.now) v ns) c.args.values.items c.loop-i.i c.loop-i.at _ _ c.take_item-value.result cut c.loop-i.invariant.count refl in
    let room = c.requires.room in
    (omega arith, omega arith)

pub renumber_each-loop-i-preserved : goal.renumber_each-loop-i-preserved
renumber_each-loop-i-preserved t c =
    let cut = next_is c.args.values.items c.loop-i.items.items c.loop-i.i c.take_item-value.result c.take_item-value.ensures.item c.loop-i.invariant.turned.rest in
    record {
      turned =
          items_turn (λ v. handles (plain c.args.item.now) v) (λ v ns. renumbered (plain c.args.item.now) v ns) c.args.values.items c.loop-i.items.items c.take_item-value.new.items.items c.put_item.new.items.items c.loop-i.i c.loop-i.at _ c.args.numbers.now
          c.take_item-value.result _ c.renumber.result _ c.take_item-value.ensures.item c.take_item-value.ensures.others c.put_item.ensures c.loop-i.invariant.turned c.renumber.ensures.value c.renumber.ensures.next;
      count = items_count (λ v. handles (plain c.args.item.now) v) (λ v ns. renumbered (plain c.args.item.now) v ns) c.args.values.items c.loop-i.i c.loop-i.at _ _ c.take_item-value.result cut c.loop-i.invariant.count c.renumber.ensures.next;
      long = as_long c.loop-i.items.items c.take_item-value.new.items.items c.put_item.new.items.items c.loop-i.i _ _ c.take_item-value.ensures.others c.put_item.ensures ∙ c.loop-i.invariant.long;
    }

pub renumber_each-returns-clause-value : goal.renumber_each-returns-clause-value
renumber_each-returns-clause-value t c =
    let long = c.loop-i.invariant.long in
    let len = c.len-i-end.ensures in
    let past = c.loop-i-test.false in
    turned_end c.args.values.items c.loop-i.items.items c.loop-i.i _ _
    (items_stay (λ v. handles (plain c.args.item.now) v) (λ v ns. renumbered (plain c.args.item.now) v ns) c.args.values.items c.loop-i.i (drop c.loop-i.at c.args.numbers.now) (let le : length c.args.values.items ≤ c.loop-i.i = omega arith in le))
    c.loop-i.invariant.turned

-- ---- the fields by fields

pub renumber_fields_each-loop-i-init : goal.renumber_fields_each-loop-i-init
renumber_fields_each-loop-i-init t c = record { turned = turned_starts _ _; count = refl; long = refl }

pub renumber_fields_each-returns-then-i-len-clause-value : goal.renumber_fields_each-returns-then-i-len-clause-value
renumber_fields_each-returns-then-i-len-clause-value t c =
    let long = c.loop-i.invariant.long in
    let len = c.len.ensures in
    let past = c.if-i-len.true in
    turned_end c.args.values.items c.loop-i.items.items c.loop-i.i _ _
    (values_end (fields_of (drop c.loop-i.i c.args.fields.now)) c.args.values.items c.loop-i.i (drop c.loop-i.at c.args.numbers.now) (let le : length c.args.values.items ≤ c.loop-i.i = omega arith in le)) c.loop-i.invariant.turned

pub renumber_fields_each-returns-then-i-len-clause-next : goal.renumber_fields_each-returns-then-i-len-clause-next
renumber_fields_each-returns-then-i-len-clause-next t c =
    let long = c.loop-i.invariant.long in
    let len = c.len.ensures in
    let past = c.if-i-len.true in
    let none = none_left (fields_of (drop c.loop-i.i c.args.fields.now)) c.args.values.items c.loop-i.i (let le : length c.args.values.items ≤ c.loop-i.i = omega arith in le) in
    let count = c.loop-i.invariant.count in
    omega arith

pub renumber_fields_each-renumber-requires : goal.renumber_fields_each-renumber-requires
renumber_fields_each-renumber-requires t c =
    let now : 5 * all_parts (fields_of c.args.fields.now) + 1 ≡ t = c.decreases in
    let few = field_parts c.args.fields.now c.loop-i.i c.index-fields-i.result c.loop-i-test.true in
    let cut = next_is c.args.values.items c.loop-i.items.items c.loop-i.i c.take_item-value.result c.take_item-value.ensures.item c.loop-i.invariant.turned.rest in
    let count = fields_count (fields_of (drop c.loop-i.i c.args.fields.now)) (fields_of (drop (c.loop-i.i + 1) c.args.fields.now)) _ (plain (out-Field (get_or c.args.fields.now c.loop-i.i c.index-fields-i.result)).ty) c.args.values.items c.loop-i.i c.loop-i.at _ _ c.take_item-value.result (ap fields_of (next_part c.args.fields.now c.loop-i.i c.index-fields-i.result c.loop-i-test.true)) cut c.loop-i.invariant.count refl in
    let room = c.requires.room in
    (omega arith, omega arith)

pub renumber_fields_each-loop-i-preserved : goal.renumber_fields_each-loop-i-preserved
renumber_fields_each-loop-i-preserved t c =
    let cut = next_is c.args.values.items c.loop-i.items.items c.loop-i.i c.take_item-value.result c.take_item-value.ensures.item c.loop-i.invariant.turned.rest in
    record {
      turned =
          fields_turn (fields_of (drop c.loop-i.i c.args.fields.now)) (fields_of (drop (c.loop-i.i + 1) c.args.fields.now)) _ (plain (out-Field (get_or c.args.fields.now c.loop-i.i c.index-fields-i.result)).ty) c.args.values.items c.loop-i.items.items c.take_item-value.new.items.items c.put_item.new.items.items c.loop-i.i c.loop-i.at _ c.args.numbers.now
          c.take_item-value.result _ c.renumber.result _ (ap fields_of (next_part c.args.fields.now c.loop-i.i c.index-fields-i.result c.loop-i-test.true)) c.take_item-value.ensures.item c.take_item-value.ensures.others c.put_item.ensures c.loop-i.invariant.turned c.renumber.ensures.value c.renumber.ensures.next;
      count = fields_count (fields_of (drop c.loop-i.i c.args.fields.now)) (fields_of (drop (c.loop-i.i + 1) c.args.fields.now)) _ (plain (out-Field (get_or c.args.fields.now c.loop-i.i c.index-fields-i.result)).ty) c.args.values.items c.loop-i.i c.loop-i.at _ _ c.take_item-value.result (ap fields_of (next_part c.args.fields.now c.loop-i.i c.index-fields-i.result c.loop-i-test.true)) cut c.loop-i.invariant.count c.renumber.ensures.next;
      long = as_long c.loop-i.items.items c.take_item-value.new.items.items c.put_item.new.items.items c.loop-i.i _ _ c.take_item-value.ensures.others c.put_item.ensures ∙ c.loop-i.invariant.long;
    }

pub renumber_fields_each-returns-clause-value : goal.renumber_fields_each-returns-clause-value
renumber_fields_each-returns-clause-value t c = turned_end c.args.values.items c.loop-i.items.items c.loop-i.i _ _ (fields_end c.args.fields.now c.args.values.items c.loop-i.i (drop c.loop-i.at c.args.numbers.now) c.loop-i-test.false) c.loop-i.invariant.turned

-- ---- the fields by types

pub renumber_parts_each-loop-i-init : goal.renumber_parts_each-loop-i-init
renumber_parts_each-loop-i-init t c = record { turned = turned_starts _ _; count = refl; long = refl }

pub renumber_parts_each-returns-then-i-len-clause-value : goal.renumber_parts_each-returns-then-i-len-clause-value
renumber_parts_each-returns-then-i-len-clause-value t c =
    let long = c.loop-i.invariant.long in
    let len = c.len.ensures in
    let past = c.if-i-len.true in
    turned_end c.args.values.items c.loop-i.items.items c.loop-i.i _ _
    (values_end (types_of (drop c.loop-i.i c.args.types.now)) c.args.values.items c.loop-i.i (drop c.loop-i.at c.args.numbers.now) (let le : length c.args.values.items ≤ c.loop-i.i = omega arith in le)) c.loop-i.invariant.turned

pub renumber_parts_each-returns-then-i-len-clause-next : goal.renumber_parts_each-returns-then-i-len-clause-next
renumber_parts_each-returns-then-i-len-clause-next t c =
    let long = c.loop-i.invariant.long in
    let len = c.len.ensures in
    let past = c.if-i-len.true in
    let none = none_left (types_of (drop c.loop-i.i c.args.types.now)) c.args.values.items c.loop-i.i (let le : length c.args.values.items ≤ c.loop-i.i = omega arith in le) in
    let count = c.loop-i.invariant.count in
    omega arith

pub renumber_parts_each-renumber-requires : goal.renumber_parts_each-renumber-requires
renumber_parts_each-renumber-requires t c =
    let now : 5 * all_parts (types_of c.args.types.now) + 1 ≡ t = c.decreases in
    let few = type_parts c.args.types.now c.loop-i.i c.index-types-i.result c.loop-i-test.true in
    let same = ap (λ (z : WitType). parts (plain z)) c.index-types-i.is in
    let cut = next_is c.args.values.items c.loop-i.items.items c.loop-i.i c.take_item-value.result c.take_item-value.ensures.item c.loop-i.invariant.turned.rest in
    let count = fields_count (types_of (drop c.loop-i.i c.args.types.now)) (types_of (drop (c.loop-i.i + 1) c.args.types.now)) _ (plain c.index-types-i.result) c.args.values.items c.loop-i.i c.loop-i.at _ _ c.take_item-value.result (type_cut c.args.types.now c.loop-i.i c.index-types-i.result c.loop-i-test.true c.index-types-i.is) cut c.loop-i.invariant.count refl in
    let room = c.requires.room in
    (omega arith, omega arith)

pub renumber_parts_each-loop-i-preserved : goal.renumber_parts_each-loop-i-preserved
renumber_parts_each-loop-i-preserved t c =
    let cut = next_is c.args.values.items c.loop-i.items.items c.loop-i.i c.take_item-value.result c.take_item-value.ensures.item c.loop-i.invariant.turned.rest in
    record {
      turned =
          fields_turn (types_of (drop c.loop-i.i c.args.types.now)) (types_of (drop (c.loop-i.i + 1) c.args.types.now)) _ (plain c.index-types-i.result) c.args.values.items c.loop-i.items.items c.take_item-value.new.items.items c.put_item.new.items.items c.loop-i.i c.loop-i.at _ c.args.numbers.now
          c.take_item-value.result _ c.renumber.result _ (type_cut c.args.types.now c.loop-i.i c.index-types-i.result c.loop-i-test.true c.index-types-i.is) c.take_item-value.ensures.item c.take_item-value.ensures.others c.put_item.ensures c.loop-i.invariant.turned c.renumber.ensures.value c.renumber.ensures.next;
      count = fields_count (types_of (drop c.loop-i.i c.args.types.now)) (types_of (drop (c.loop-i.i + 1) c.args.types.now)) _ (plain c.index-types-i.result) c.args.values.items c.loop-i.i c.loop-i.at _ _ c.take_item-value.result (type_cut c.args.types.now c.loop-i.i c.index-types-i.result c.loop-i-test.true c.index-types-i.is) cut c.loop-i.invariant.count c.renumber.ensures.next;
      long = as_long c.loop-i.items.items c.take_item-value.new.items.items c.put_item.new.items.items c.loop-i.i _ _ c.take_item-value.ensures.others c.put_item.ensures ∙ c.loop-i.invariant.long;
    }

pub renumber_parts_each-returns-clause-value : goal.renumber_parts_each-returns-clause-value
renumber_parts_each-returns-clause-value t c = turned_end c.args.values.items c.loop-i.items.items c.loop-i.i _ _ (types_end c.args.types.now c.args.values.items c.loop-i.i (drop c.loop-i.at c.args.numbers.now) c.loop-i-test.false) c.loop-i.invariant.turned

use Rattle.std.proofs.Common.{◌≡◌, ◌+◌, ◌*◌, ℕ, length, drop}
use Rattle.wit_types.specs.Plain.{plain, payload_of, fields_of, types_of, cases_of}
use Rattle.wit_types.specs.PlainValue.{values_of}
use Rattle.wit_types.specs.Limits.{parts, all_parts}
use Rattle.abi_layout.specs.Handles.{handles, field_handles, item_handles, renumbered, renumbered_fields, renumbered_items}
use Rattle.value_handles.proofs.Turns.{Turned}
use Rattle.value_handles.proofs.Sizes.{option_parts}
use Rattle.value_handles.proofs.renumbering.+renumber.Given as goal

-- the recursion goes down in the type

abbrev pub decreases-renumber : goal.decreases-renumber
decreases-renumber l = 5 * parts (plain l.ty.now)

abbrev pub decreases-renumber_list : goal.decreases-renumber_list
decreases-renumber_list l = 5 * parts (plain l.item.now) + 3

abbrev pub decreases-renumber_items : goal.decreases-renumber_items
decreases-renumber_items l = 5 * parts (plain l.item.now) + 2

abbrev pub decreases-renumber_each : goal.decreases-renumber_each
decreases-renumber_each l = 5 * parts (plain l.item.now) + 1

abbrev pub decreases-renumber_record : goal.decreases-renumber_record
decreases-renumber_record l = 5 * all_parts (fields_of l.fields.now) + 3

abbrev pub decreases-renumber_fields : goal.decreases-renumber_fields
decreases-renumber_fields l = 5 * all_parts (fields_of l.fields.now) + 2

abbrev pub decreases-renumber_fields_each : goal.decreases-renumber_fields_each
decreases-renumber_fields_each l = 5 * all_parts (fields_of l.fields.now) + 1

abbrev pub decreases-renumber_tuple : goal.decreases-renumber_tuple
decreases-renumber_tuple l = 5 * all_parts (types_of l.types.now) + 3

abbrev pub decreases-renumber_parts : goal.decreases-renumber_parts
decreases-renumber_parts l = 5 * all_parts (types_of l.types.now) + 2

abbrev pub decreases-renumber_parts_each : goal.decreases-renumber_parts_each
decreases-renumber_parts_each l = 5 * all_parts (types_of l.types.now) + 1

abbrev pub decreases-renumber_variant : goal.decreases-renumber_variant
decreases-renumber_variant l = 5 * all_parts (cases_of l.cases.now) + 4

abbrev pub decreases-renumber_case : goal.decreases-renumber_case
decreases-renumber_case l = 5 * all_parts (cases_of l.cases.now) + 3

abbrev pub decreases-renumber_payload : goal.decreases-renumber_payload
decreases-renumber_payload l = 5 * option_parts (payload_of l.ty.now) + 2

abbrev pub decreases-renumber_present : goal.decreases-renumber_present
decreases-renumber_present l = 5 * parts (plain l.ty.now) + 1

abbrev pub decreases-renumber_option : goal.decreases-renumber_option
decreases-renumber_option l = 5 * parts (plain l.some.now) + 4

abbrev pub decreases-renumber_result : goal.decreases-renumber_result
decreases-renumber_result l = 5 * (option_parts (payload_of l.ok.now) + option_parts (payload_of l.err.now)) + 4

-- the turns

abbrev pub invariant-renumber_each-loop-i : goal.invariant-renumber_each-loop-i
invariant-renumber_each-loop-i l = record {
  turned :
      Turned l.fn.values.items l.items.items l.i
      (renumbered_items (λ v. handles (plain l.item) v) (λ v ns. renumbered (plain l.item) v ns) (values_of l.fn.values.items) (drop l.fn.at l.numbers))
      (renumbered_items (λ v. handles (plain l.item) v) (λ v ns. renumbered (plain l.item) v ns) (values_of (drop l.i l.fn.values.items)) (drop l.at l.numbers));
  count : l.at + length (item_handles (λ v. handles (plain l.item) v) (values_of (drop l.i l.fn.values.items))) ≡ l.fn.at + length (item_handles (λ v. handles (plain l.item) v) (values_of l.fn.values.items));
  long : length l.items.items ≡ length l.fn.values.items;
}

abbrev pub invariant-renumber_fields_each-loop-i : goal.invariant-renumber_fields_each-loop-i
invariant-renumber_fields_each-loop-i l = record {
  turned :
      Turned l.fn.values.items l.items.items l.i
      (renumbered_fields (fields_of l.fields) (values_of l.fn.values.items) (drop l.fn.at l.numbers))
      (renumbered_fields (fields_of (drop l.i l.fields)) (values_of (drop l.i l.fn.values.items)) (drop l.at l.numbers));
  count : l.at + length (field_handles (fields_of (drop l.i l.fields)) (values_of (drop l.i l.fn.values.items))) ≡ l.fn.at + length (field_handles (fields_of l.fields) (values_of l.fn.values.items));
  long : length l.items.items ≡ length l.fn.values.items;
}

abbrev pub invariant-renumber_parts_each-loop-i : goal.invariant-renumber_parts_each-loop-i
invariant-renumber_parts_each-loop-i l = record {
  turned :
      Turned l.fn.values.items l.items.items l.i
      (renumbered_fields (types_of l.types) (values_of l.fn.values.items) (drop l.fn.at l.numbers))
      (renumbered_fields (types_of (drop l.i l.types)) (values_of (drop l.i l.fn.values.items)) (drop l.at l.numbers));
  count : l.at + length (field_handles (types_of (drop l.i l.types)) (values_of (drop l.i l.fn.values.items))) ≡ l.fn.at + length (field_handles (types_of l.types) (values_of l.fn.values.items));
  long : length l.items.items ≡ length l.fn.values.items;
}

use Rattle.std.proofs.Common.{◌≡◌, drop, ◌++◌}
use Rattle.wit_types.specs.Plain.{plain, fields_of, types_of}
use Rattle.wit_types.specs.PlainValue.{values_of}
use Rattle.abi_layout.specs.Handles.{handles, field_handles, item_handles}
use Rattle.value_handles.specs.Shown.{shown}
use Rattle.value_handles.proofs.collecting.+collect_handles.Given as goal

abbrev pub invariant-collect_each-loop-value : goal.invariant-collect_each-loop-value
invariant-collect_each-loop-value l =
    shown l.found.items ++ item_handles (λ v. handles (plain l.item) v) (values_of (drop l.value-index l.values)) ≡ shown l.fn.found.items ++ item_handles (λ v. handles (plain l.item) v) (values_of l.values)

abbrev pub invariant-collect_fields_each-loop-i : goal.invariant-collect_fields_each-loop-i
invariant-collect_fields_each-loop-i l =
    shown l.found.items ++ field_handles (fields_of (drop l.i l.fields)) (values_of (drop l.i l.values)) ≡ shown l.fn.found.items ++ field_handles (fields_of l.fields) (values_of l.values)

abbrev pub invariant-collect_parts_each-loop-i : goal.invariant-collect_parts_each-loop-i
invariant-collect_parts_each-loop-i l =
    shown l.found.items ++ field_handles (types_of (drop l.i l.types)) (values_of (drop l.i l.values)) ≡ shown l.fn.found.items ++ field_handles (types_of l.types) (values_of l.values)

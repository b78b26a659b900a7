use Rattle.std.proofs.Common.{◌≡◌, ◌+◌, length, drop}
use Rattle.wit_types.specs.Plain.{fields_of}
use Rattle.wit_types.specs.PlainValue.{values_of}
use Rattle.abi_layout.specs.Handles.{field_handles, renumbered_fields}
use Rattle.value_handles.proofs.Turns.{Turned}
use Rattle.ref_host_calls.proofs.arguments.renumber_each.Given as goal

abbrev pub invariant-loop-i : goal.invariant-loop-i
invariant-loop-i l = record {
  turned :
      Turned l.fn.values.items l.items.items l.i
      (renumbered_fields (fields_of l.params) (values_of l.fn.values.items) l.numbers)
      (renumbered_fields (fields_of (drop l.i l.params)) (values_of (drop l.i l.fn.values.items)) (drop l.at l.numbers));
  count : l.at + length (field_handles (fields_of (drop l.i l.params)) (values_of (drop l.i l.fn.values.items))) ≡ length (field_handles (fields_of l.params) (values_of l.fn.values.items));
  long : length l.items.items ≡ length l.fn.values.items;
}

use Rattle.std.proofs.Common.{◌≡◌, ◌≤◌, ◌+◌, ◌*◌, ℕ, length}
use Rattle.std.specs.Prelude.{reverse}
use Rattle.wit_types.specs.Plain.{plain, payload_of}
use Rattle.wit_types.specs.PlainValue.{values_of}
use Rattle.wit_types.specs.Layout.{flat_fields}
use Rattle.wit_types.specs.Limits.{parts, all_parts}
use Rattle.abi_layout.specs.Storing.{lower_fields}
use Rattle.abi_store.specs.Parts.{parts_from, payload_parts}
use Rattle.abi_store.specs.Flows.{chain}
use Rattle.abi_store.specs.Slots.{slots_lowered}
use Rattle.abi_store.proofs.flats.+lower.Given as goal

abbrev pub decreases-lower : goal.decreases-lower
decreases-lower l = 3 * parts (plain l.ty.now) + 2

abbrev pub decreases-lower_parts : goal.decreases-lower_parts
decreases-lower_parts l = 3 * all_parts (parts_from l.parts.now 0) + 3

abbrev pub decreases-lower_record : goal.decreases-lower_record
decreases-lower_record l = 3 * all_parts (parts_from l.parts 0) + 4

abbrev pub decreases-lower_payload : goal.decreases-lower_payload
decreases-lower_payload l = 3 * payload_parts (payload_of l.ty) + 3

abbrev pub decreases-lower_variant : goal.decreases-lower_variant
decreases-lower_variant l = 3 * parts (plain l.ty.now) + 1

abbrev pub invariant-lower_parts-loop-value : goal.invariant-lower_parts-loop-value
invariant-lower_parts-loop-value l = record {
  flats : (k : ℕ) →
      chain (slots_lowered l.slots.items) (lower_fields (parts_from l.parts l.next) (values_of (reverse l.left.items))) k
      ≡ chain (slots_lowered l.initial.slots.items) (lower_fields (parts_from l.parts 0) (values_of (reverse l.initial.left.items))) k;
  small : all_parts (parts_from l.parts l.next) ≤ all_parts (parts_from l.parts 0);
  few : length (flat_fields (parts_from l.parts l.next)) ≤ 16;
  count : l.next + length l.left.items ≡ length l.initial.left.items;
}

abbrev pub decreases-lower_parts-loop-value : goal.decreases-lower_parts-loop-value
decreases-lower_parts-loop-value l = length l.left.items

use Rattle.std.proofs.Common.{◌≡◌, ◌<◌, ◌≤◌, ◌+◌, drop, length}
use Rattle.std.specs.Prelude.{IsTrue}
use Rattle.wit_types.specs.Layout.{flat_fields}
use Rattle.wit_types.specs.Limits.{all_parts}
use Rattle.wit_types.specs.Plain.{fields_of, types_of}
use Rattle.wit_types.specs.PlainValue.{values_of}
use Rattle.abi_layout.specs.Loading.{lift_fields, parts_have_ranges}
use Rattle.abi_load.specs.Loaded.{bytes_at}
use Rattle.abi_load.specs.Lifted.{words}
use Rattle.abi_load.proofs.Chains.{behind}
use Rattle.abi_load.proofs.lifting.+lift_at.Given as goal

abbrev pub invariant-lift_fields-loop-field : goal.invariant-lift_fields-loop-field
invariant-lift_fields-loop-field l = record {
  values : lift_fields (bytes_at l.store l.memory) (fields_of l.fields) (words l.flat) l.start ≡ behind (values_of l.values.items) (lift_fields (bytes_at l.store l.memory) (fields_of (drop l.field-index l.fields)) (words l.flat) l.k);
  ranges : IsTrue (parts_have_ranges (fields_of (drop l.field-index l.fields))) → l.memory < length l.store.memories;
  few : all_parts (fields_of (drop l.field-index l.fields)) ≤ 1000000;
  room : l.k + length (flat_fields (fields_of (drop l.field-index l.fields))) ≤ 16;
}

abbrev pub invariant-lift_types-loop-ty : goal.invariant-lift_types-loop-ty
invariant-lift_types-loop-ty l = record {
  values : lift_fields (bytes_at l.store l.memory) (types_of l.types) (words l.flat) l.start ≡ behind (values_of l.values.items) (lift_fields (bytes_at l.store l.memory) (types_of (drop l.ty-index l.types)) (words l.flat) l.k);
  ranges : IsTrue (parts_have_ranges (types_of (drop l.ty-index l.types))) → l.memory < length l.store.memories;
  few : all_parts (types_of (drop l.ty-index l.types)) ≤ 1000000;
  room : l.k + length (flat_fields (types_of (drop l.ty-index l.types))) ≤ 16;
}

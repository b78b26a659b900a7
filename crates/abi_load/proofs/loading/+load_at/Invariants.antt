use Rattle.std.proofs.Common.{◌≡◌, ◌≤◌, ◌+◌, ◌-◌, ◌*◌, ◌^◌, drop}
use Rattle.wit_types.specs.Limits.{all_parts}
use Rattle.wit_types.specs.Plain.{plain, fields_of, types_of}
use Rattle.wit_types.specs.PlainValue.{values_of}
use Rattle.abi_layout.specs.Loading.{fields_at, items_at, loads_at}
use Rattle.abi_load.specs.Loaded.{bytes_at}
use Rattle.abi_load.proofs.Chains.{behind}
use Rattle.abi_load.proofs.loading.+load_at.Given as goal

abbrev pub invariant-load_fields-loop-field : goal.invariant-load_fields-loop-field
invariant-load_fields-loop-field l = record {
  values : fields_at (bytes_at l.store l.memory) (fields_of l.fields) l.at 0 ≡ behind (values_of l.values.items) (fields_at (bytes_at l.store l.memory) (fields_of (drop l.field-index l.fields)) l.at l.offset);
  few : all_parts (fields_of (drop l.field-index l.fields)) ≤ 1000000;
  room : l.offset + 32 * all_parts (fields_of (drop l.field-index l.fields)) ≤ 32 * all_parts (fields_of l.fields);
}

abbrev pub invariant-load_types-loop-ty : goal.invariant-load_types-loop-ty
invariant-load_types-loop-ty l = record {
  values : fields_at (bytes_at l.store l.memory) (types_of l.types) l.at 0 ≡ behind (values_of l.values.items) (fields_at (bytes_at l.store l.memory) (types_of (drop l.ty-index l.types)) l.at l.offset);
  few : all_parts (types_of (drop l.ty-index l.types)) ≤ 1000000;
  room : l.offset + 32 * all_parts (types_of (drop l.ty-index l.types)) ≤ 32 * all_parts (types_of l.types);
}

abbrev pub invariant-load_items-loop-done : goal.invariant-load_items-loop-done
invariant-load_items-loop-done l = record {
  values : items_at (λ p. loads_at (bytes_at l.store l.memory) (plain l.item) p) l.width l.place l.count ≡ behind (values_of l.values.items) (items_at (λ p. loads_at (bytes_at l.store l.memory) (plain l.item) p) l.width l.at (l.count - l._done));
  room : l.at + (l.count - l._done) * l.width ≤ 2 ^ 49;
}

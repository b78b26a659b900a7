use Rattle.std.proofs.Common.{◌≡◌, ◌≤◌, ◌+◌, ◌*◌, max, drop}
use Rattle.wit_types.specs.Plain.{fields_of, types_of, cases_of}
use Rattle.wit_types.specs.Layout.{greatest_alignment, end_of, greatest_size}
use Rattle.wit_types.specs.Limits.{all_parts}
use Rattle.abi_layout.proofs.memory.+layout_of.Given as goal

abbrev pub invariant-layout_of_fields-loop-field : goal.invariant-layout_of_fields-loop-field
invariant-layout_of_fields-loop-field l = record {
  end : end_of (fields_of (drop l.field-index l.fields)) l.end ≡ end_of (fields_of l.fields) 0;
  align : max l.align (greatest_alignment (fields_of (drop l.field-index l.fields))) ≡ greatest_alignment (fields_of l.fields);
  least : 1 ≤ l.align;
  few : all_parts (fields_of (drop l.field-index l.fields)) ≤ 1000000;
  room : l.end + 32 * all_parts (fields_of (drop l.field-index l.fields)) ≤ 32 * all_parts (fields_of l.fields);
}

abbrev pub invariant-layout_of_types-loop-ty : goal.invariant-layout_of_types-loop-ty
invariant-layout_of_types-loop-ty l = record {
  end : end_of (types_of (drop l.ty-index l.types)) l.end ≡ end_of (types_of l.types) 0;
  align : max l.align (greatest_alignment (types_of (drop l.ty-index l.types))) ≡ greatest_alignment (types_of l.types);
  least : 1 ≤ l.align;
  few : all_parts (types_of (drop l.ty-index l.types)) ≤ 1000000;
  room : l.end + 32 * all_parts (types_of (drop l.ty-index l.types)) ≤ 32 * all_parts (types_of l.types);
}

abbrev pub invariant-layout_of_cases-loop-case : goal.invariant-layout_of_cases-loop-case
invariant-layout_of_cases-loop-case l = record {
  size : max l.most.size (greatest_size (cases_of (drop l.case-index l.cases))) ≡ greatest_size (cases_of l.cases);
  align : max l.most.align (greatest_alignment (cases_of (drop l.case-index l.cases))) ≡ greatest_alignment (cases_of l.cases);
  least : 1 ≤ l.most.align;
  few : all_parts (cases_of (drop l.case-index l.cases)) ≤ 1000000;
}

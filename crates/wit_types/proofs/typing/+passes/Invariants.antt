use Rattle.std.proofs.Common.{◌≡◌, drop}
use Rattle.wit_types.specs.Plain.{plain, fields_of, types_of}
use Rattle.wit_types.specs.PlainValue.{values_of}
use Rattle.wit_types.specs.HasType.{is_of, are_of, all_pass}
use Rattle.wit_types.proofs.typing.+passes.Given as goal

abbrev pub invariant-are_values-loop-value : goal.invariant-are_values-loop-value
invariant-are_values-loop-value l = all_pass (λ v. is_of (plain l.item) v) (values_of (drop l.value-index l.values)) ≡ all_pass (λ v. is_of (plain l.item) v) (values_of l.values)

abbrev pub invariant-are_fields_each-loop-i : goal.invariant-are_fields_each-loop-i
invariant-are_fields_each-loop-i l = are_of (fields_of (drop l.i l.fields)) (values_of (drop l.i l.values)) ≡ are_of (fields_of l.fields) (values_of l.values)

abbrev pub invariant-are_types_each-loop-i : goal.invariant-are_types_each-loop-i
invariant-are_types_each-loop-i l = are_of (types_of (drop l.i l.types)) (values_of (drop l.i l.values)) ≡ are_of (types_of l.types) (values_of l.values)

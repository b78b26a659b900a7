-- The formats of types are exact, by the laws of what they are made of.
use Rattle.std.proofs.Common.{ℕ}
use Rattle.wasm_format.proofs.Laws.{IsExact, exact_choose, exact_lacking, exact_tagged, exact_peeked, exact_value, exact_both, exact_image, exact_behind, exact_closed_by, exact_u32, exact_vec, exact_name, filled_tagged, filled_image}
use Rattle.wasm_format.proofs.NumberLaws.{exact_s33_index, filled_s33_index}
use Rattle.comp_grammar.specs.Types.{primitive_of, primitive, val_type, maybe_type, label_type, case_type, func_result, destructor, aggregate_def, other_def, type_def}

ruleset exact = (exact_choose, exact_lacking, exact_tagged, exact_value, exact_both, exact_image, exact_behind, exact_closed_by, exact_u32, exact_vec, exact_name)

pub exact_primitive_of : (b : ℕ) → IsExact (primitive_of b)
unfolding primitive_of
exact_primitive_of b = search exact depth 28

pub exact_primitive : IsExact primitive
unfolding primitive
exact_primitive = search (exact, exact_primitive_of) depth 4

pub exact_val_type : IsExact val_type
unfolding val_type primitive
exact_val_type = search (exact_peeked, exact_tagged, exact_image, exact_primitive_of, exact_s33_index, filled_tagged, filled_image, filled_s33_index) depth 12

pub exact_maybe_type : IsExact maybe_type
unfolding maybe_type
exact_maybe_type = search (exact, exact_val_type) depth 12

pub exact_label_type : IsExact label_type
unfolding label_type
exact_label_type = search (exact, exact_val_type) depth 8

pub exact_case_type : IsExact case_type
unfolding case_type
exact_case_type = search (exact, exact_maybe_type) depth 8

pub exact_func_result : IsExact func_result
unfolding func_result
exact_func_result = search (exact, exact_val_type) depth 12

pub exact_destructor : IsExact destructor
unfolding destructor
exact_destructor = search exact depth 12

pub exact_aggregate_def : (b : ℕ) → IsExact (aggregate_def b)
unfolding aggregate_def
exact_aggregate_def b = search (exact, exact_val_type, exact_label_type, exact_case_type) depth 20

pub exact_other_def : (b : ℕ) → IsExact (other_def b)
unfolding other_def
exact_other_def b = search (exact, exact_val_type, exact_maybe_type, exact_label_type, exact_func_result, exact_destructor) depth 22

pub exact_type_def : IsExact type_def
unfolding type_def
exact_type_def = search (exact, exact_primitive_of, exact_aggregate_def, exact_other_def) depth 8

-- Reading types of components stops at a tag for a cause, by the laws of what their formats are made of.
use Rattle.std.proofs.Common.{ℕ}
use Rattle.wasm_format.proofs.Laws.{exact_name}
use Rattle.wasm_ast.proofs.TypeLaws.{exact}
use Rattle.comp_grammar.specs.Types.{primitive_of, primitive, val_type, maybe_type, label_type, case_type, func_result, destructor, aggregate_def, other_def, type_def}
use Rattle.comp_grammar.proofs.TypeLaws.{exact_val_type, exact_maybe_type, exact_label_type, exact_case_type}
use Rattle.format_causes.specs.Causes.{IsCaused}
use Rattle.format_causes.proofs.CauseLaws.{IsCausedBehind, caused_tagged, caused_image, caused_peeked, caused_s33_index}
use Rattle.format_causes.proofs.ListCauses.{caused_name}
use Rattle.format_causes.proofs.TypeCauses.{causes}

behind_primitive_of : (b : ℕ) → IsCausedBehind b (primitive_of b)
unfolding primitive_of
behind_primitive_of b = search causes depth 30

caused_val_type : IsCaused val_type
unfolding val_type primitive
caused_val_type = search (caused_peeked, caused_tagged, caused_image, behind_primitive_of, caused_s33_index) depth 12

caused_maybe_type : IsCaused maybe_type
unfolding maybe_type
caused_maybe_type = search (causes, caused_val_type) depth 14

caused_label_type : IsCaused label_type
unfolding label_type
caused_label_type = search (causes, exact_name, caused_name, caused_val_type) depth 8

caused_case_type : IsCaused case_type
unfolding case_type
caused_case_type = search (causes, exact_name, caused_name, exact_maybe_type, caused_maybe_type) depth 8

caused_func_result : IsCaused func_result
unfolding func_result
caused_func_result = search (causes, caused_val_type) depth 14

caused_destructor : IsCaused destructor
unfolding destructor
caused_destructor = search causes depth 14

behind_aggregate_def : (b : ℕ) → IsCausedBehind b (aggregate_def b)
unfolding aggregate_def
behind_aggregate_def b = search (causes, exact_name, exact_val_type, exact_label_type, exact_case_type, caused_name, caused_val_type, caused_label_type, caused_case_type) depth 22

behind_other_def : (b : ℕ) → IsCausedBehind b (other_def b)
unfolding other_def
behind_other_def b = search (causes, exact, exact_maybe_type, exact_label_type, caused_val_type, caused_maybe_type, caused_label_type, caused_func_result, caused_destructor) depth 24

pub caused_type_def : IsCaused type_def
unfolding type_def
caused_type_def = search (causes, behind_primitive_of, behind_aggregate_def, behind_other_def) depth 8

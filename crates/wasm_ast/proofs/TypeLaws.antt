-- The formats of types are exact, each by the laws of what it is made of.
use Rattle.std.proofs.Common.{ℕ}
use Rattle.wasm_format.proofs.Laws.{IsExact, IsExactToEnd, IsFilled, exact_choose, exact_lacking, exact_misplaced, exact_tagged, exact_peeked, exact_literal, exact_fixed, exact_value, exact_both, exact_image, exact_behind, exact_closed_by, exact_u32, exact_vec, exact_vec_of, exact_sized, exact_name, to_end, both_to_end, image_to_end, anything_to_end, filled_tagged, filled_image}
use Rattle.wasm_format.proofs.NumberLaws.{exact_s32, exact_s64, exact_s33_index, filled_s33_index}
use Rattle.wasm_format.specs.Format.{Format, is_tag_byte}
use Rattle.wasm_ast.specs.Types.{core_type_of, core_type, ref_type, core_func, limits, table_type, mutability, global_type, is_tagged_block, block_type}

pub ruleset exact = (exact_choose, exact_lacking, exact_misplaced, exact_tagged, exact_literal, exact_value, exact_both, exact_image, exact_behind, exact_closed_by, exact_u32, exact_vec, exact_sized, to_end)

pub exact_core_type_of : (b : ℕ) → IsExact (core_type_of b)
exact_core_type_of b = search exact depth 12

pub exact_core_type : IsExact core_type
unfolding core_type
exact_core_type = search (exact_tagged, exact_core_type_of) depth 4

pub exact_ref_type : IsExact ref_type
unfolding ref_type
exact_ref_type = search exact depth 12

pub exact_core_func : IsExact core_func
unfolding core_func
exact_core_func = search (exact, exact_core_type) depth 16

pub exact_limits : IsExact limits
unfolding limits
exact_limits = search exact depth 12

pub exact_table_type : IsExact table_type
unfolding table_type
exact_table_type = search (exact, exact_ref_type, exact_limits) depth 8

pub exact_mutability : IsExact mutability
unfolding mutability
exact_mutability = search exact depth 12

pub exact_global_type : IsExact global_type
unfolding global_type
exact_global_type = search (exact, exact_core_type, exact_mutability) depth 8

pub exact_block_type : IsExact block_type
unfolding block_type
exact_block_type = search (exact_peeked, exact_tagged, exact_choose, exact_value, exact_image, exact_core_type_of, exact_s33_index, filled_tagged, filled_image, filled_s33_index) depth 12

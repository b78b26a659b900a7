-- Reading types stops at a tag for a cause, by the laws of what their formats are made of.
use Rattle.std.proofs.Common.{ℕ}
use Rattle.wasm_ast.specs.Types.{core_type_of, core_type, ref_type, core_func, limits, table_type, mutability, global_type, block_type}
use Rattle.wasm_ast.proofs.TypeLaws.{exact, exact_core_type, exact_ref_type}
use Rattle.format_causes.specs.Causes.{IsCaused}
use Rattle.format_causes.proofs.CauseLaws.{IsCausedBehind, behind_lacking, behind_choose, behind_image, behind_of, caused_tagged, caused_peeked, caused_misplaced, caused_literal, caused_value, caused_behind, caused_closed_by, caused_both, caused_image, caused_u32, caused_s33_index}
use Rattle.format_causes.proofs.ListCauses.{caused_vec, caused_sized}

pub ruleset causes = (behind_lacking, behind_choose, behind_image, behind_of, caused_tagged, caused_misplaced, caused_literal, caused_value, caused_behind, caused_closed_by, caused_both, caused_image, caused_u32, caused_vec, caused_sized)

pub behind_core_type_of : (b : ℕ) → IsCausedBehind b (core_type_of b)
behind_core_type_of b = search causes depth 14 fits 20000

pub caused_core_type : IsCaused core_type
unfolding core_type
caused_core_type = search (caused_tagged, behind_core_type_of) depth 4

pub caused_ref_type : IsCaused ref_type
unfolding ref_type
caused_ref_type = search causes depth 14

pub caused_core_func : IsCaused core_func
unfolding core_func
caused_core_func = search (causes, exact, exact_core_type, caused_core_type) depth 18

pub caused_limits : IsCaused limits
unfolding limits
caused_limits = search (causes, exact) depth 14

pub caused_table_type : IsCaused table_type
unfolding table_type
caused_table_type = search (causes, exact_ref_type, caused_ref_type, caused_limits) depth 8

pub caused_mutability : IsCaused mutability
unfolding mutability
caused_mutability = search causes depth 14

pub caused_global_type : IsCaused global_type
unfolding global_type
caused_global_type = search (causes, exact_core_type, caused_core_type, caused_mutability) depth 8

pub caused_block_type : IsCaused block_type
unfolding block_type
caused_block_type = search (behind_core_type_of, caused_peeked, caused_tagged, behind_choose, behind_image, behind_of, caused_value, caused_image, caused_s33_index) depth 14

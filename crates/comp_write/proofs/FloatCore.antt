-- The formats of core modules keep no places.
use Rattle.std.proofs.Common.{ℕ, Bool, false, [], ◌∷◌, Option, Some, None}
use Rattle.wasm_ast.specs.Types.{core_type_of, core_type, ref_type, core_func, limits, table_type, mutability, global_type, block_type}
use Rattle.wasm_ast.specs.Instructions.{mem_arg, branch_table, variable_op, load_op, memory_op, second_op, other_op, high_op, op_of, control, instr_of, instr}
use Rattle.wasm_ast.specs.Expressions.{nested, expr}
use Rattle.wasm_ast.specs.Items.{import_item, import, export_item, export, global, local_run, body, kind_and_funcs, low_elements, high_elements, elements, segment}
use Rattle.wasm_ast.specs.Modules.{Progress, note, counted, low_section, high_section, section, sections, no_sections, sections_of, all_sections, core_module}
use Rattle.comp_write.proofs.FloatLaws.{IsFloating, floating_choose, floating_lacking, floating_misplaced, floating_tagged, floating_peeked, floating_literal, floating_fixed, floating_value, floating_both, floating_image, floating_behind, floating_closed_by, floating_u32, floating_s32, floating_s64, floating_s33_index, floating_vec, floating_vec_of, floating_sized, floating_anything, floating_name, floating_until, floating_to_the_end}

pub ruleset floating = (floating_choose, floating_lacking, floating_misplaced, floating_tagged, floating_literal, floating_value, floating_both, floating_image, floating_behind, floating_closed_by, floating_u32, floating_vec, floating_vec_of, floating_sized, floating_anything, floating_name)

-- ---- types

pub floating_core_type_of : (b : ℕ) → IsFloating (core_type_of b)
floating_core_type_of b = search floating depth 12

pub floating_core_type : IsFloating core_type
unfolding core_type
floating_core_type = search (floating_tagged, floating_core_type_of) depth 4

pub floating_ref_type : IsFloating ref_type
unfolding ref_type
floating_ref_type = search floating depth 12

pub floating_core_func : IsFloating core_func
unfolding core_func
floating_core_func = search (floating, floating_core_type) depth 16

pub floating_limits : IsFloating limits
unfolding limits
floating_limits = search floating depth 12

pub floating_table_type : IsFloating table_type
unfolding table_type
floating_table_type = search (floating, floating_ref_type, floating_limits) depth 8

pub floating_mutability : IsFloating mutability
unfolding mutability
floating_mutability = search floating depth 12

pub floating_global_type : IsFloating global_type
unfolding global_type
floating_global_type = search (floating, floating_core_type, floating_mutability) depth 8

pub floating_block_type : IsFloating block_type
unfolding block_type
floating_block_type = search (floating_peeked, floating_tagged, floating_choose, floating_value, floating_image, floating_core_type_of, floating_s33_index) depth 12

-- ---- instructions

pub floating_mem_arg : IsFloating mem_arg
unfolding mem_arg
floating_mem_arg = search floating depth 8

pub floating_branch_table : IsFloating branch_table
unfolding branch_table
floating_branch_table = search floating depth 8

floating_variable_op : (b : ℕ) → IsFloating (variable_op b)
unfolding variable_op
floating_variable_op b = search floating depth 16

floating_load_op : (b : ℕ) → IsFloating (load_op b)
unfolding load_op
floating_load_op b = search (floating, floating_mem_arg) depth 20

floating_memory_op : (b : ℕ) → IsFloating (memory_op b)
unfolding memory_op
floating_memory_op b = search (floating, floating_mem_arg) depth 16

floating_second_op : (b : ℕ) → IsFloating (second_op b)
unfolding second_op
floating_second_op b = search floating depth 18

floating_other_op : (b : ℕ) → IsFloating (other_op b)
floating_other_op b = search (floating, floating_s32, floating_ref_type, floating_second_op) depth 14

floating_high_op : (b : ℕ) → IsFloating (high_op b)
unfolding high_op
floating_high_op b = search (floating, floating_other_op) depth 4

floating_op_of : (b : ℕ) → IsFloating (op_of b)
unfolding op_of
floating_op_of b = search (floating, floating_variable_op, floating_load_op, floating_memory_op, floating_high_op) depth 8

floating_control : (b : ℕ) → IsFloating (control b)
unfolding control
floating_control b = search (floating, floating_block_type, floating_branch_table) depth 20

pub floating_instr_of : (b : ℕ) → IsFloating (instr_of b)
unfolding instr_of
floating_instr_of b = search (floating, floating_core_type, floating_s64, floating_control, floating_op_of) depth 8

pub floating_instr : (may_else : Bool) → IsFloating (instr may_else)
unfolding instr
floating_instr may_else = search (floating, floating_instr_of) depth 8

pub floating_expr : IsFloating expr
unfolding expr nested
floating_expr = floating_until nested (false ∷ []) (λ s. floating_instr _)

-- ---- items

pub floating_import_item : IsFloating import_item
unfolding import_item
floating_import_item = search (floating, floating_table_type, floating_limits, floating_global_type) depth 12

pub floating_import : IsFloating import
unfolding import
floating_import = search (floating, floating_name, floating_import_item) depth 12

pub floating_export_item : IsFloating export_item
unfolding export_item
floating_export_item = search floating depth 12

pub floating_export : IsFloating export
unfolding export
floating_export = search (floating, floating_name, floating_export_item) depth 12

pub floating_global : IsFloating global
unfolding global
floating_global = search (floating, floating_global_type, floating_expr) depth 8

pub floating_local_run : IsFloating local_run
unfolding local_run
floating_local_run = search (floating, floating_core_type) depth 8

pub floating_body : IsFloating body
unfolding body
floating_body = search (floating, floating_local_run, floating_expr) depth 8

floating_kind_and_funcs : IsFloating kind_and_funcs
unfolding kind_and_funcs
floating_kind_and_funcs = search floating depth 8

floating_low_elements : (b : ℕ) → IsFloating (low_elements b)
unfolding low_elements
floating_low_elements b = search (floating, floating_kind_and_funcs, floating_expr) depth 14

floating_high_elements : (b : ℕ) → IsFloating (high_elements b)
unfolding high_elements
floating_high_elements b = search (floating, floating_ref_type, floating_expr) depth 14

pub floating_elements : IsFloating elements
unfolding elements
floating_elements = search (floating, floating_low_elements, floating_high_elements) depth 6

pub floating_segment : IsFloating segment
unfolding segment
floating_segment = search (floating, floating_expr) depth 16

-- ---- modules

pub floating_note : IsFloating note
unfolding note
floating_note = search floating depth 6

floating_counted : (count : Option ℕ) → IsFloating (counted count)
floating_counted None = search (floating, floating_segment) depth 4
floating_counted (Some n) = search (floating_vec_of, floating_segment) depth 4

floating_low_section : (s : Progress) (b : ℕ) → IsFloating (low_section s b)
unfolding low_section
floating_low_section s b = search (floating, floating_note, floating_core_func, floating_import, floating_table_type, floating_limits, floating_global) depth 20

floating_high_section : (s : Progress) (b : ℕ) → IsFloating (high_section s b)
unfolding high_section
floating_high_section s b = search (floating, floating_vec_of, floating_export, floating_elements, floating_body, floating_counted) depth 20

pub floating_section : (s : Progress) → IsFloating (section s)
unfolding section
floating_section s = search (floating, floating_low_section, floating_high_section) depth 6

pub floating_all_sections : IsFloating all_sections
unfolding all_sections sections
floating_all_sections = floating_to_the_end sections no_sections (λ s. sections_of s.found) floating_section

pub floating_core_module : IsFloating core_module
unfolding core_module
floating_core_module = search (floating, floating_fixed, floating_all_sections) depth 6

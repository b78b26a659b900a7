-- Reading instructions and expressions stops at a tag for a cause, by the laws of what their formats are made of.
use Rattle.std.proofs.Common.{ℕ, Bool, false, [], ◌∷◌}
use Rattle.wasm_ast.specs.Instructions.{mem_arg, branch_table, variable_op, load_op, memory_op, second_op, other_op, high_op, op_of, control, instr_of, instr}
use Rattle.wasm_ast.specs.Expressions.{Open, may_else, nested, expr}
use Rattle.wasm_ast.proofs.TypeLaws.{exact, exact_core_type}
use Rattle.wasm_ast.proofs.InstructionLaws.{exact_nested}
use Rattle.format_causes.specs.Causes.{IsCaused}
use Rattle.format_causes.proofs.CauseLaws.{IsCausedBehind, caused_s32, caused_s64}
use Rattle.format_causes.proofs.SectionCauses.{caused_until}
use Rattle.format_causes.proofs.TypeCauses.{causes, caused_core_type, caused_ref_type, caused_block_type}

pub caused_mem_arg : IsCaused mem_arg
unfolding mem_arg
caused_mem_arg = search (causes, exact) depth 8

pub caused_branch_table : IsCaused branch_table
unfolding branch_table
caused_branch_table = search (causes, exact) depth 8

behind_variable_op : (b : ℕ) → IsCausedBehind b (variable_op b)
unfolding variable_op
behind_variable_op b = search causes depth 18 fits 20000

behind_load_op : (b : ℕ) → IsCausedBehind b (load_op b)
unfolding load_op
behind_load_op b = search (causes, caused_mem_arg) depth 22 fits 20000

behind_memory_op : (b : ℕ) → IsCausedBehind b (memory_op b)
unfolding memory_op
behind_memory_op b = search (causes, caused_mem_arg) depth 18 fits 20000

behind_second_op : (b : ℕ) → IsCausedBehind b (second_op b)
unfolding second_op
behind_second_op b = search (causes, exact) depth 20 fits 20000

behind_other_op : (b : ℕ) → IsCausedBehind b (other_op b)
behind_other_op b = search (causes, caused_s32, caused_ref_type, behind_second_op) depth 16 fits 20000

behind_high_op : (b : ℕ) → IsCausedBehind b (high_op b)
unfolding high_op
behind_high_op b = search (causes, behind_other_op) depth 6 fits 20000

behind_op_of : (b : ℕ) → IsCausedBehind b (op_of b)
unfolding op_of
behind_op_of b = search (causes, behind_variable_op, behind_load_op, behind_memory_op, behind_high_op) depth 8 fits 20000

behind_control : (b : ℕ) → IsCausedBehind b (control b)
unfolding control
behind_control b = search (causes, exact, caused_block_type, caused_branch_table) depth 22 fits 20000

pub behind_instr_of : (b : ℕ) → IsCausedBehind b (instr_of b)
unfolding instr_of
behind_instr_of b = search (causes, exact_core_type, caused_core_type, caused_s64, behind_control, behind_op_of) depth 10 fits 20000

pub caused_instr : (may_else : Bool) → IsCaused (instr may_else)
unfolding instr
caused_instr may_else = search (causes, behind_instr_of) depth 8

caused_nested : (s : Open) → IsCaused (nested.form s)
unfolding nested
caused_nested s = caused_instr (may_else s)

pub caused_expr : IsCaused expr
unfolding expr
caused_expr = caused_until nested (false ∷ []) exact_nested caused_nested

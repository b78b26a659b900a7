-- The formats of instructions and expressions are exact, each by the laws of what it is made of.
use Rattle.std.proofs.Common.{ℕ, Bool, false, [], ◌∷◌}
use Rattle.wasm_format.proofs.Laws.{IsExact}
use Rattle.wasm_format.proofs.NumberLaws.{exact_s32, exact_s64}
use Rattle.wasm_format.proofs.SectionLaws.{AreExact}
use Rattle.wasm_format.proofs.UntilLaws.{exact_until}
use Rattle.wasm_format.specs.Format.{Format}
use Rattle.wasm_ast.specs.Instructions.{mem_arg, branch_table, variable_op, load_op, memory_op, second_op, other_op, high_op, op_of, control, instr_of, instr}
use Rattle.wasm_ast.specs.Expressions.{nested, expr}
use Rattle.wasm_ast.proofs.TypeLaws.{exact, exact_core_type, exact_ref_type, exact_block_type}

pub exact_mem_arg : IsExact mem_arg
unfolding mem_arg
exact_mem_arg = search exact depth 8

pub exact_branch_table : IsExact branch_table
unfolding branch_table
exact_branch_table = search exact depth 8

exact_variable_op : (b : ℕ) → IsExact (variable_op b)
unfolding variable_op
exact_variable_op b = search exact depth 16

exact_load_op : (b : ℕ) → IsExact (load_op b)
unfolding load_op
exact_load_op b = search (exact, exact_mem_arg) depth 20

exact_memory_op : (b : ℕ) → IsExact (memory_op b)
unfolding memory_op
exact_memory_op b = search (exact, exact_mem_arg) depth 16

exact_second_op : (b : ℕ) → IsExact (second_op b)
unfolding second_op
exact_second_op b = search exact depth 18

exact_other_op : (b : ℕ) → IsExact (other_op b)
exact_other_op b = search (exact, exact_s32, exact_ref_type, exact_second_op) depth 14

exact_high_op : (b : ℕ) → IsExact (high_op b)
unfolding high_op
exact_high_op b = search (exact, exact_other_op) depth 4

exact_op_of : (b : ℕ) → IsExact (op_of b)
unfolding op_of
exact_op_of b = search (exact, exact_variable_op, exact_load_op, exact_memory_op, exact_high_op) depth 8

exact_control : (b : ℕ) → IsExact (control b)
unfolding control
exact_control b = search (exact, exact_block_type, exact_branch_table) depth 20

pub exact_instr_of : (b : ℕ) → IsExact (instr_of b)
unfolding instr_of
exact_instr_of b = search (exact, exact_core_type, exact_s64, exact_control, exact_op_of) depth 8

pub exact_instr : (may_else : Bool) → IsExact (instr may_else)
unfolding instr
exact_instr may_else = search (exact, exact_instr_of) depth 8

pub exact_nested : AreExact nested
unfolding nested instr
exact_nested = record { exact = λ s. exact_instr _; nonempty = λ s at part h. h; no_tag = λ s at a byte e. cc }

pub exact_expr : IsExact expr
unfolding expr
exact_expr = exact_until nested (false ∷ []) exact_nested

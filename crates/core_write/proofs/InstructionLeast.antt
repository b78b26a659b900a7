-- What bytes spell as an instruction, or as an expression, is written in no more bytes.
use Rattle.std.proofs.Common.{ℕ, Bool, false, [], ◌∷◌, eqb}
use Rattle.wasm_format.specs.Format.{choose, value, misplaced}
use Rattle.wasm_format.proofs.LeastLaws.{IsLeast, HasTag}
use Rattle.wasm_format.proofs.LeastNumbers.{least_s32, least_s64}
use Rattle.wasm_format.proofs.LeastLists.{least_until}
use Rattle.wasm_ast.specs.declared.instr.Instr.TheVariants.{Else}
use Rattle.wasm_ast.specs.Instructions.{op_code, second_code, opcode, mem_arg, branch_table, variable_op, load_op, memory_op, second_op, other_op, high_op, op_of, control, instr_of, instr}
use Rattle.wasm_ast.specs.Expressions.{nested, expr}
use Rattle.core_write.proofs.TypeLeast.{tags, least, least_core_type, least_ref_type, least_block_type}

-- ---- operations

least_mem_arg : IsLeast mem_arg
unfolding mem_arg
least_mem_arg = search least depth 8

least_branch_table : IsLeast branch_table
unfolding branch_table
least_branch_table = search least depth 8

least_variable_op : (b : ℕ) → IsLeast (variable_op b)
unfolding variable_op
least_variable_op b = search least depth 16

least_load_op : (b : ℕ) → IsLeast (load_op b)
unfolding load_op
least_load_op b = search (least, least_mem_arg) depth 20

least_memory_op : (b : ℕ) → IsLeast (memory_op b)
unfolding memory_op
least_memory_op b = search (least, least_mem_arg) depth 16

second_tags : (b : ℕ) → HasTag second_code b (second_op b)
unfolding second_op
second_tags b = search tags depth 18

least_second_op : (b : ℕ) → IsLeast (second_op b)
unfolding second_op
least_second_op b = search least depth 18

least_other_op : (b : ℕ) → IsLeast (other_op b)
least_other_op b = search (least, second_tags, least_s32, least_ref_type, least_second_op) depth 14

least_high_op : (b : ℕ) → IsLeast (high_op b)
unfolding high_op
least_high_op b = search (least, least_other_op) depth 4

least_op_of : (b : ℕ) → IsLeast (op_of b)
unfolding op_of
least_op_of b = search (least, least_variable_op, least_load_op, least_memory_op, least_high_op) depth 8

-- ---- opcodes

variable_codes : (b : ℕ) → HasTag op_code b (variable_op b)
unfolding variable_op
variable_codes b = search tags depth 16

load_codes : (b : ℕ) → HasTag op_code b (load_op b)
unfolding load_op
load_codes b = search tags depth 20

memory_codes : (b : ℕ) → HasTag op_code b (memory_op b)
unfolding memory_op
memory_codes b = search tags depth 16

second_codes : (b : ℕ) → HasTag op_code 0xFC (second_op b)
unfolding second_op
second_codes b = search tags depth 18

high_codes : (b : ℕ) → HasTag op_code b (high_op b)
unfolding high_op
high_codes b = search (tags, second_codes) depth 14

op_codes : (b : ℕ) → HasTag op_code b (op_of b)
unfolding op_of
op_codes b = search (tags, variable_codes, load_codes, memory_codes, high_codes) depth 8

-- ---- instructions

least_control : (b : ℕ) → IsLeast (control b)
unfolding control
least_control b = search (least, least_block_type, least_branch_table) depth 20

control_codes : (b : ℕ) → HasTag opcode b (control b)
unfolding control
control_codes b = search tags depth 20

least_instr_of : (b : ℕ) → IsLeast (instr_of b)
unfolding instr_of
least_instr_of b = search (least, least_core_type, least_s64, least_control, least_op_of) depth 8

instr_codes : (b : ℕ) → HasTag opcode b (instr_of b)
unfolding instr_of
instr_codes b = search (tags, control_codes, op_codes) depth 8

else_codes : (may_else : Bool) (b : ℕ) → HasTag opcode b (choose (eqb b 0x05) (choose may_else (value Else) misplaced) (instr_of b))
else_codes may_else b = search (tags, instr_codes) depth 8

pub least_instr : (may_else : Bool) → IsLeast (instr may_else)
unfolding instr
least_instr may_else = search (least, else_codes, least_instr_of) depth 8

pub least_expr : IsLeast expr
unfolding expr nested
least_expr = least_until nested (false ∷ []) (λ s. least_instr _)

-- The instructions of routines: each may be written, in at most eleven bytes.
use Rattle.std.proofs.Common.{◌≡◌, ℕ, ◌+◌, ◌<◌, ◌≤◌, ◌^◌, Bool, true, false, List, [], ◌∷◌, Option, Some, None, length, refl, arith}
use Rattle.std.specs.Int.{w32, w64, cast_signed}
use Rattle.core_integer.specs.Operators.{wrap}
use Rattle.wasm_format.specs.Format.{u32_format}
use Rattle.wasm_format.specs.Numbers.{s32_format, s64_format}
use Rattle.wasm_ast.specs.declared.instr.BlockType.TheVariants.{Empty}
use Rattle.wasm_ast.specs.declared.instr.LoadOp.{LoadOp}
use Rattle.wasm_ast.specs.declared.instr.LoadOp.TheVariants as loads
use Rattle.wasm_ast.specs.declared.instr.StoreOp.{StoreOp}
use Rattle.wasm_ast.specs.declared.instr.StoreOp.TheVariants as stores
use Rattle.wasm_ast.specs.declared.instr.Op.TheVariants as op
use Rattle.wasm_ast.specs.declared.instr.Instr.{Instr}
use Rattle.wasm_ast.specs.declared.instr.Instr.TheVariants.{Plain, Unreachable, Block, Loop, If, Else, End, Br, BrIf, Call}
use Rattle.wasm_ast.specs.Types.{block_type}
use Rattle.wasm_ast.specs.Instructions.{mem_arg, variable_op, load_op, memory_op, high_op, op_of, control, instr_of, instr}
use Rattle.wasm_ast.specs.Expressions.{Open, after_instr}
use Rattle.adapter_code.specs.declared.statement.Width.{Width}
use Rattle.adapter_code.specs.declared.statement.Width.TheVariants.{Narrow, Broad}
use Rattle.adapter_code.specs.declared.statement.IntOp.{IntOp}
use Rattle.adapter_code.specs.declared.statement.IntOp.TheVariants.{Eq, Ne, LtU, LeU, Add, Sub, Mul, And, Or, Xor, Shl, ShrU}
use Rattle.adapter_compile.specs.Instructions.{get, set, tee, numeric, constant, opcode, at_offset, call_of}
use Rattle.adapter_bytes.proofs.Numbers.{few_unsigned, few_signed, small_fits, wide_fits}

-- an instruction that opens and closes nothing
pub record IsShort (i : Instr) : Type 0 where
  pub stays : (o : Open) → after_instr o i ≡ o
  pub fits : (may : Bool) → (instr may).Fits i
  pub few : (may : Bool) → length ((instr may).write i) ≤ 11

pub get_short : (x : ℕ) → x < 2 ^ 32 → IsShort (get x)
unfolding instr instr_of op_of variable_op u32_format
get_short x lt = record { stays = λ o. refl; fits = λ may. (refl, (refl, lt)); few = λ may. omega (arith, few_unsigned 4 x) }

pub set_short : (x : ℕ) → x < 2 ^ 32 → IsShort (set x)
unfolding instr instr_of op_of variable_op u32_format
set_short x lt = record { stays = λ o. refl; fits = λ may. (refl, (refl, lt)); few = λ may. omega (arith, few_unsigned 4 x) }

pub tee_short : (x : ℕ) → x < 2 ^ 32 → IsShort (tee x)
unfolding instr instr_of op_of variable_op u32_format
tee_short x lt = record { stays = λ o. refl; fits = λ may. (refl, (refl, lt)); few = λ may. omega (arith, few_unsigned 4 x) }

pub get_global_short : (x : ℕ) → x < 2 ^ 32 → IsShort (Plain (op.GlobalGet x))
unfolding instr instr_of op_of variable_op u32_format
get_global_short x lt = record { stays = λ o. refl; fits = λ may. (refl, (refl, lt)); few = λ may. omega (arith, few_unsigned 4 x) }

pub set_global_short : (x : ℕ) → x < 2 ^ 32 → IsShort (Plain (op.GlobalSet x))
unfolding instr instr_of op_of variable_op u32_format
set_global_short x lt = record { stays = λ o. refl; fits = λ may. (refl, (refl, lt)); few = λ may. omega (arith, few_unsigned 4 x) }

pub constant_short : (w : Width) (v : ℕ) → IsShort (constant w v)
unfolding instr instr_of op_of high_op s32_format s64_format
constant_short Narrow v = record { stays = λ o. refl; fits = λ may. (refl, (refl, small_fits v)); few = λ may. omega (arith, few_signed 9 (cast_signed w32 (wrap w32 v))) }
constant_short Broad v = record { stays = λ o. refl; fits = λ may. (refl, wide_fits v); few = λ may. omega (arith, few_signed 9 (cast_signed w64 (wrap w64 v))) }

zero_fits : 0 < 2 ^ 32
zero_fits = omega arith

pub load_short : (load : LoadOp) (offset : ℕ) → offset < 2 ^ 32 → IsShort (Plain (op.Load load (at_offset offset)))
unfolding instr instr_of op_of load_op mem_arg u32_format
load_short loads.I32 offset lt = record { stays = λ o. refl; fits = λ may. (refl, (refl, (refl, (zero_fits, lt)))); few = λ may. omega (arith, few_unsigned 4 offset) }
load_short loads.I64 offset lt = record { stays = λ o. refl; fits = λ may. (refl, (refl, (refl, (zero_fits, lt)))); few = λ may. omega (arith, few_unsigned 4 offset) }
load_short loads.I32Narrow8S offset lt = record { stays = λ o. refl; fits = λ may. (refl, (refl, (refl, (zero_fits, lt)))); few = λ may. omega (arith, few_unsigned 4 offset) }
load_short loads.I32Narrow8U offset lt = record { stays = λ o. refl; fits = λ may. (refl, (refl, (refl, (zero_fits, lt)))); few = λ may. omega (arith, few_unsigned 4 offset) }
load_short loads.I32Narrow16S offset lt = record { stays = λ o. refl; fits = λ may. (refl, (refl, (refl, (zero_fits, lt)))); few = λ may. omega (arith, few_unsigned 4 offset) }
load_short loads.I32Narrow16U offset lt = record { stays = λ o. refl; fits = λ may. (refl, (refl, (refl, (zero_fits, lt)))); few = λ may. omega (arith, few_unsigned 4 offset) }
load_short loads.I64Narrow8S offset lt = record { stays = λ o. refl; fits = λ may. (refl, (refl, (refl, (zero_fits, lt)))); few = λ may. omega (arith, few_unsigned 4 offset) }
load_short loads.I64Narrow8U offset lt = record { stays = λ o. refl; fits = λ may. (refl, (refl, (refl, (zero_fits, lt)))); few = λ may. omega (arith, few_unsigned 4 offset) }
load_short loads.I64Narrow16S offset lt = record { stays = λ o. refl; fits = λ may. (refl, (refl, (refl, (zero_fits, lt)))); few = λ may. omega (arith, few_unsigned 4 offset) }
load_short loads.I64Narrow16U offset lt = record { stays = λ o. refl; fits = λ may. (refl, (refl, (refl, (zero_fits, lt)))); few = λ may. omega (arith, few_unsigned 4 offset) }
load_short loads.I64Narrow32S offset lt = record { stays = λ o. refl; fits = λ may. (refl, (refl, (refl, (zero_fits, lt)))); few = λ may. omega (arith, few_unsigned 4 offset) }
load_short loads.I64Narrow32U offset lt = record { stays = λ o. refl; fits = λ may. (refl, (refl, (refl, (zero_fits, lt)))); few = λ may. omega (arith, few_unsigned 4 offset) }

pub store_short : (store : StoreOp) (offset : ℕ) → offset < 2 ^ 32 → IsShort (Plain (op.Store store (at_offset offset)))
unfolding instr instr_of op_of memory_op mem_arg u32_format
store_short stores.I32 offset lt = record { stays = λ o. refl; fits = λ may. (refl, (refl, (refl, (zero_fits, lt)))); few = λ may. omega (arith, few_unsigned 4 offset) }
store_short stores.I64 offset lt = record { stays = λ o. refl; fits = λ may. (refl, (refl, (refl, (zero_fits, lt)))); few = λ may. omega (arith, few_unsigned 4 offset) }
store_short stores.I32Narrow8 offset lt = record { stays = λ o. refl; fits = λ may. (refl, (refl, (refl, (zero_fits, lt)))); few = λ may. omega (arith, few_unsigned 4 offset) }
store_short stores.I32Narrow16 offset lt = record { stays = λ o. refl; fits = λ may. (refl, (refl, (refl, (zero_fits, lt)))); few = λ may. omega (arith, few_unsigned 4 offset) }
store_short stores.I64Narrow8 offset lt = record { stays = λ o. refl; fits = λ may. (refl, (refl, (refl, (zero_fits, lt)))); few = λ may. omega (arith, few_unsigned 4 offset) }
store_short stores.I64Narrow16 offset lt = record { stays = λ o. refl; fits = λ may. (refl, (refl, (refl, (zero_fits, lt)))); few = λ may. omega (arith, few_unsigned 4 offset) }
store_short stores.I64Narrow32 offset lt = record { stays = λ o. refl; fits = λ may. (refl, (refl, (refl, (zero_fits, lt)))); few = λ may. omega (arith, few_unsigned 4 offset) }

-- ---- operators: one byte

pub operator_short : (o : IntOp) (w : Width) → IsShort (numeric (opcode o w))
unfolding instr instr_of op_of high_op
operator_short Eq Narrow = record { stays = λ o. refl; fits = λ may. (refl, refl); few = λ may. omega arith }
operator_short Eq Broad = record { stays = λ o. refl; fits = λ may. (refl, refl); few = λ may. omega arith }
operator_short Ne Narrow = record { stays = λ o. refl; fits = λ may. (refl, refl); few = λ may. omega arith }
operator_short Ne Broad = record { stays = λ o. refl; fits = λ may. (refl, refl); few = λ may. omega arith }
operator_short LtU Narrow = record { stays = λ o. refl; fits = λ may. (refl, refl); few = λ may. omega arith }
operator_short LtU Broad = record { stays = λ o. refl; fits = λ may. (refl, refl); few = λ may. omega arith }
operator_short LeU Narrow = record { stays = λ o. refl; fits = λ may. (refl, refl); few = λ may. omega arith }
operator_short LeU Broad = record { stays = λ o. refl; fits = λ may. (refl, refl); few = λ may. omega arith }
operator_short Add Narrow = record { stays = λ o. refl; fits = λ may. (refl, refl); few = λ may. omega arith }
operator_short Add Broad = record { stays = λ o. refl; fits = λ may. (refl, refl); few = λ may. omega arith }
operator_short Sub Narrow = record { stays = λ o. refl; fits = λ may. (refl, refl); few = λ may. omega arith }
operator_short Sub Broad = record { stays = λ o. refl; fits = λ may. (refl, refl); few = λ may. omega arith }
operator_short Mul Narrow = record { stays = λ o. refl; fits = λ may. (refl, refl); few = λ may. omega arith }
operator_short Mul Broad = record { stays = λ o. refl; fits = λ may. (refl, refl); few = λ may. omega arith }
operator_short And Narrow = record { stays = λ o. refl; fits = λ may. (refl, refl); few = λ may. omega arith }
operator_short And Broad = record { stays = λ o. refl; fits = λ may. (refl, refl); few = λ may. omega arith }
operator_short Or Narrow = record { stays = λ o. refl; fits = λ may. (refl, refl); few = λ may. omega arith }
operator_short Or Broad = record { stays = λ o. refl; fits = λ may. (refl, refl); few = λ may. omega arith }
operator_short Xor Narrow = record { stays = λ o. refl; fits = λ may. (refl, refl); few = λ may. omega arith }
operator_short Xor Broad = record { stays = λ o. refl; fits = λ may. (refl, refl); few = λ may. omega arith }
operator_short Shl Narrow = record { stays = λ o. refl; fits = λ may. (refl, refl); few = λ may. omega arith }
operator_short Shl Broad = record { stays = λ o. refl; fits = λ may. (refl, refl); few = λ may. omega arith }
operator_short ShrU Narrow = record { stays = λ o. refl; fits = λ may. (refl, refl); few = λ may. omega arith }
operator_short ShrU Broad = record { stays = λ o. refl; fits = λ may. (refl, refl); few = λ may. omega arith }

pub is_zero_short : IsShort (numeric 0x45)
unfolding instr instr_of op_of high_op
is_zero_short = record { stays = λ o. refl; fits = λ may. (refl, refl); few = λ may. omega arith }

pub wrap_short : IsShort (numeric 0xA7)
unfolding instr instr_of op_of high_op
wrap_short = record { stays = λ o. refl; fits = λ may. (refl, refl); few = λ may. omega arith }

pub extend_short : IsShort (numeric 0xAD)
unfolding instr instr_of op_of high_op
extend_short = record { stays = λ o. refl; fits = λ may. (refl, refl); few = λ may. omega arith }

-- ---- branches and calls

pub trap_short : IsShort Unreachable
unfolding instr instr_of control
trap_short = record { stays = λ o. refl; fits = λ may. refl; few = λ may. omega arith }

pub branch_short : (x : ℕ) → x < 2 ^ 32 → IsShort (Br x)
unfolding instr instr_of control u32_format
branch_short x lt = record { stays = λ o. refl; fits = λ may. (refl, lt); few = λ may. omega (arith, few_unsigned 4 x) }

pub branch_if_short : (x : ℕ) → x < 2 ^ 32 → IsShort (BrIf x)
unfolding instr instr_of control u32_format
branch_if_short x lt = record { stays = λ o. refl; fits = λ may. (refl, lt); few = λ may. omega (arith, few_unsigned 4 x) }

pub invoke_short : (x : ℕ) → x < 2 ^ 32 → IsShort (Call x)
unfolding instr instr_of control u32_format
invoke_short x lt = record { stays = λ o. refl; fits = λ may. (refl, lt); few = λ may. omega (arith, few_unsigned 4 x) }

pub call_short : (o : Option ℕ) → ((f : ℕ) → o ≡ Some f → f < 2 ^ 32) → IsShort (call_of o)
call_short None h = trap_short
call_short (Some f) h = invoke_short f (h f refl)

-- ---- brackets: at most two bytes

pub record IsBracket (i : Instr) : Type 0 where
  pub fits : (may : Bool) → (instr may).Fits i
  pub few : (may : Bool) → length ((instr may).write i) ≤ 2

pub block_bracket : IsBracket (Block Empty)
unfolding instr instr_of control block_type
block_bracket = record { fits = λ may. (refl, (refl, refl)); few = λ may. omega arith }

pub loop_bracket : IsBracket (Loop Empty)
unfolding instr instr_of control block_type
loop_bracket = record { fits = λ may. (refl, (refl, refl)); few = λ may. omega arith }

pub if_bracket : IsBracket (If Empty)
unfolding instr instr_of control block_type
if_bracket = record { fits = λ may. (refl, (refl, refl)); few = λ may. omega arith }

pub end_bracket : IsBracket End
unfolding instr instr_of control
end_bracket = record { fits = λ may. refl; few = λ may. omega arith }

-- an `else` may stand where an `if` is open
pub else_fits : (instr true).Fits Else
unfolding instr
else_fits = refl

pub else_few : length ((instr true).write Else) ≤ 2
unfolding instr
else_few = omega arith

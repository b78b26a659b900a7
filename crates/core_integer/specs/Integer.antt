-- The numeric instructions on integers (WebAssembly Core 2.0, section 5.4.7), by opcode.
use Rattle.std.specs.Prelude.{ℕ, ◌-◌, ◌^◌, ◌<◌, ◌==◌, not, nat_lt, nat_le, bit_and, bit_or, bit_xor, if◌then◌else◌, List, [], ◌∷◌, slice_index_or, Option, Some, None, Result, Ok, map}
use Rattle.std.specs.Int.{Width, w8, w16, w32, w64, from_bool}
use Rattle.virt_base.specs.declared.fault.Trap.{Trap}
use Rattle.virt_base.specs.declared.core_type.CoreType.{CoreType}
use Rattle.virt_base.specs.declared.core_type.CoreType.TheVariants.{I32}
use Rattle.wasm_ast.specs.declared.numeric.Numeric.{Numeric}
use Rattle.wasm_ast.specs.Numeric.{is_from_to}
use Rattle.core_integer.specs.Operators.{undefined, iadd, isub, imul, idiv_u, idiv_s, irem_u, irem_s, ishl, ishr_s, ishr_u, irotl, irotr, iclz, ictz, ipopcnt, ilt_s, ile_s, iextend_s, wrap}

-- eq and the other comparisons, in the order of their opcodes: 1 for true
abbrev pub tests : Width → ℕ → ℕ → List ℕ
tests n a b = map from_bool (
    (a == b) ∷ not (a == b)
    ∷ ilt_s n a b ∷ nat_lt a b ∷ ilt_s n b a ∷ nat_lt b a
    ∷ ile_s n a b ∷ nat_le a b ∷ ile_s n b a ∷ nat_le b a ∷ [])

-- clz, ctz and popcnt
abbrev pub counts : Width → ℕ → List ℕ
counts n a = iclz n a ∷ ictz n a ∷ ipopcnt a ∷ []

-- from add to rotr, in the order of their opcodes
abbrev pub results : Width → ℕ → ℕ → List (Result ℕ Trap)
results n a b =
    Ok (iadd n a b) ∷ Ok (isub n a b) ∷ Ok (imul n a b)
    ∷ idiv_s n a b ∷ idiv_u a b ∷ irem_s n a b ∷ irem_u a b
    ∷ Ok (bit_and a b) ∷ Ok (bit_or a b) ∷ Ok (bit_xor a b)
    ∷ Ok (ishl n a b) ∷ Ok (ishr_s n a b) ∷ Ok (ishr_u n a b) ∷ Ok (irotl n a b) ∷ Ok (irotr n a b) ∷ []

-- the instructions between widths
abbrev pub converted : ℕ → ℕ → ℕ
converted op a =
    -- i32.wrap_i64; i64.extend_i32_s and _u
    if op == 0xA7 then wrap w32 a else (
    if op == 0xAC then iextend_s w32 w64 a else (
    if op == 0xAD then a else (
    -- i32.extend8_s and 16_s
    if op == 0xC0 then iextend_s w8 w32 a else (
    if op == 0xC1 then iextend_s w16 w32 a else (
    -- i64.extend8_s, 16_s and 32_s
    if op == 0xC2 then iextend_s w8 w64 a else (
    if op == 0xC3 then iextend_s w16 w64 a
    else iextend_s w32 w64 a))))))

-- the value of the instruction at its operands, or a trap; b is not looked at where it takes one
abbrev pub integer : ℕ → ℕ → ℕ → Result ℕ Trap
integer op a b =
    -- i32.eqz and i64.eqz
    if op == 0x45 then Ok (from_bool (a == 0)) else (
    if op == 0x50 then Ok (from_bool (a == 0)) else (
    if is_from_to 0x46 0x4F op then Ok (slice_index_or (tests w32 a b) (op - 0x46) 0) else (
    if is_from_to 0x51 0x5A op then Ok (slice_index_or (tests w64 a b) (op - 0x51) 0) else (
    if is_from_to 0x67 0x69 op then Ok (slice_index_or (counts w32 a) (op - 0x67) 0) else (
    if is_from_to 0x79 0x7B op then Ok (slice_index_or (counts w64 a) (op - 0x79) 0) else (
    if is_from_to 0x6A 0x78 op then slice_index_or (results w32 a b) (op - 0x6A) undefined else (
    if is_from_to 0x7C 0x8A op then slice_index_or (results w64 a b) (op - 0x7C) undefined else
    Ok (converted op a))))))))

-- an operand of an i32 is below 2^32
abbrev pub IsOperand : CoreType → ℕ → Type 0
IsOperand I32 a = a < 2 ^ 32
IsOperand t a = Unit {0}

-- the operands are those that the instruction takes
abbrev pub AreOperands : Option Numeric → ℕ → ℕ → Type 0
AreOperands None a b = Unit {0}
AreOperands (Some n) a b = IsOperand n.from a × (1 < n.params → IsOperand n.from b)

-- a result of an i32 is below 2^32
abbrev pub IsResult : Option Numeric → ℕ → Type 0
IsResult None r = Unit {0}
IsResult (Some n) r = IsOperand n.to r

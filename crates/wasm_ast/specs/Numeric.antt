-- The numeric instructions on integers (WebAssembly Core 2.0, section 5.4.7), by opcode.
use Rattle.std.specs.Prelude.{◌≡◌, ℕ, Bool, true, is_some, nat_le, ◌&&◌, Option, Some, None, if◌then◌else◌}
use Rattle.virt_base.specs.declared.core_type.CoreType.{CoreType}
use Rattle.virt_base.specs.declared.core_type.CoreType.TheVariants.{I32, I64}
use Rattle.wasm_ast.specs.declared.numeric.Numeric.{Numeric}

abbrev pub takes : ℕ → CoreType → CoreType → Numeric
takes params from to = record { params = params; from = from; to = to }

abbrev pub is_from_to : ℕ → ℕ → ℕ → Bool
is_from_to first last op = nat_le first op && nat_le op last

abbrev pub numeric : ℕ → Option Numeric
numeric op =
    -- i32.eqz, and the ten comparisons
    if is_from_to 0x45 0x45 op then Some (takes 1 I32 I32) else (
    if is_from_to 0x46 0x4F op then Some (takes 2 I32 I32) else (
    -- i64.eqz, and the ten comparisons
    if is_from_to 0x50 0x50 op then Some (takes 1 I64 I32) else (
    if is_from_to 0x51 0x5A op then Some (takes 2 I64 I32) else (
    -- i32: clz, ctz, popcnt, and the fifteen from add to rotr
    if is_from_to 0x67 0x69 op then Some (takes 1 I32 I32) else (
    if is_from_to 0x6A 0x78 op then Some (takes 2 I32 I32) else (
    -- the same for i64
    if is_from_to 0x79 0x7B op then Some (takes 1 I64 I64) else (
    if is_from_to 0x7C 0x8A op then Some (takes 2 I64 I64) else (
    -- i32.wrap_i64; i64.extend_i32_s and _u
    if is_from_to 0xA7 0xA7 op then Some (takes 1 I64 I32) else (
    if is_from_to 0xAC 0xAD op then Some (takes 1 I32 I64) else (
    -- i32.extend8_s and 16_s; i64.extend8_s, 16_s and 32_s
    if is_from_to 0xC0 0xC1 op then Some (takes 1 I32 I32) else (
    if is_from_to 0xC2 0xC4 op then Some (takes 1 I64 I64)
    else None)))))))))))

abbrev pub is_numeric : ℕ → Bool
is_numeric op = is_some (numeric op)

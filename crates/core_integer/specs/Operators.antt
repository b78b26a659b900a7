-- Operators on integers (WebAssembly Core 2.0, section 4.3.2), at the width N of 32 or 64 bits.
-- An integer is a number below 2^N; a signed operator reads it in two's complement.
use Rattle.std.specs.Prelude.{ℕ, ◌+◌, ◌-◌, ◌*◌, ◌/◌, ◌%◌, ◌^◌, ◌==◌, Bool, ◌&&◌, int_lt, int_le, int_div, int_rem, count_ones, if◌then◌else◌, Result, Ok, Err}
use Rattle.std.specs.Int.{Width, cast_signed, cast_unsigned, int_shr, leading_zeros, trailing_zeros, rotate_left, rotate_right}
use Rattle.virt_base.specs.declared.fault.Trap.{Trap}
use mir.Val.{bits, hbits}

-- a partial operator's answer where its operands have no result
abbrev pub undefined : Result ℕ Trap
undefined = Err (record {})

abbrev pub iadd : Width → ℕ → ℕ → ℕ
iadd n a b = (a + b) % 2 ^ bits n

abbrev pub isub : Width → ℕ → ℕ → ℕ
isub n a b = (a + (2 ^ bits n - b)) % 2 ^ bits n

abbrev pub imul : Width → ℕ → ℕ → ℕ
imul n a b = (a * b) % 2 ^ bits n

abbrev pub idiv_u : ℕ → ℕ → Result ℕ Trap
idiv_u a b = if b == 0 then undefined else Ok (a / b)

-- the quotient is truncated toward zero; that of the least integer by -1 is no integer
abbrev pub idiv_s : Width → ℕ → ℕ → Result ℕ Trap
idiv_s n a b =
    if b == 0 then undefined else (
    if a == 2 ^ hbits n && b == 2 ^ bits n - 1 then undefined
    else Ok (cast_unsigned n (int_div (cast_signed n a) (cast_signed n b))))

abbrev pub irem_u : ℕ → ℕ → Result ℕ Trap
irem_u a b = if b == 0 then undefined else Ok (a % b)

-- the remainder has the sign of the dividend
abbrev pub irem_s : Width → ℕ → ℕ → Result ℕ Trap
irem_s n a b = if b == 0 then undefined else Ok (cast_unsigned n (int_rem (cast_signed n a) (cast_signed n b)))

-- the distance of a shift or a rotation is taken modulo N
abbrev pub ishl : Width → ℕ → ℕ → ℕ
ishl n a b = (a * 2 ^ (b % bits n)) % 2 ^ bits n

abbrev pub ishr_s : Width → ℕ → ℕ → ℕ
ishr_s n a b = cast_unsigned n (int_shr (cast_signed n a) (b % bits n))

abbrev pub ishr_u : Width → ℕ → ℕ → ℕ
ishr_u n a b = a / 2 ^ (b % bits n)

abbrev pub irotl : Width → ℕ → ℕ → ℕ
irotl n a b = rotate_left n a b

abbrev pub irotr : Width → ℕ → ℕ → ℕ
irotr n a b = rotate_right n a b

abbrev pub iclz : Width → ℕ → ℕ
iclz n a = leading_zeros n a

abbrev pub ictz : Width → ℕ → ℕ
ictz n a = trailing_zeros n a

abbrev pub ipopcnt : ℕ → ℕ
ipopcnt a = count_ones a

abbrev pub ilt_s : Width → ℕ → ℕ → Bool
ilt_s n a b = int_lt (cast_signed n a) (cast_signed n b)

abbrev pub ile_s : Width → ℕ → ℕ → Bool
ile_s n a b = int_le (cast_signed n a) (cast_signed n b)

-- the lowest bits of an integer, read at a smaller width m, as an integer of width n
abbrev pub iextend_s : Width → Width → ℕ → ℕ
iextend_s m n a = cast_unsigned n (cast_signed m (a % 2 ^ bits m))

abbrev pub wrap : Width → ℕ → ℕ
wrap n a = a % 2 ^ bits n

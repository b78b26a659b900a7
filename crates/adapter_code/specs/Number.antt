-- Numbers of 32 and 64 bits as core code has them (WebAssembly Core 2.0, section 4.3.2), and numbers in a byte memory.
use Rattle.std.specs.Prelude.{ℕ, ◌+◌, ◌==◌, not, nat_lt, nat_le, bit_and, bit_or, bit_xor, List, length, take, drop, Option, Some, None, if◌then◌else◌}
use Rattle.std.specs.Int.{w32, w64, from_bool}
use Rattle.std.specs.Int.{Width as CoreWidth}
use Rattle.std.specs.List.{splice}
use Rattle.core_integer.specs.Operators.{iadd, isub, imul, ishl, ishr_u, wrap}
use Rattle.core_memory.specs.Number.{number, bytes_of}
use Rattle.adapter_code.specs.declared.statement.Width.{Width}
use Rattle.adapter_code.specs.declared.statement.Width.TheVariants.{Narrow, Broad}
use Rattle.adapter_code.specs.declared.statement.IntOp.{IntOp}
use Rattle.adapter_code.specs.declared.statement.IntOp.TheVariants.{Eq, Ne, LtU, LeU, Add, Sub, Mul, And, Or, Xor, Shl, ShrU}

-- the width of core numbers
abbrev pub core : Width → CoreWidth
core Narrow = w32
core Broad = w64

-- the low bits of a number
abbrev pub low : Width → ℕ → ℕ
low w v = wrap (core w) v

-- an operator on two numbers of one width
abbrev pub result_of : IntOp → Width → ℕ → ℕ → ℕ
result_of Eq w x y = from_bool (x == y)
result_of Ne w x y = from_bool (not (x == y))
result_of LtU w x y = from_bool (nat_lt x y)
result_of LeU w x y = from_bool (nat_le x y)
result_of Add w x y = iadd (core w) x y
result_of Sub w x y = isub (core w) x y
result_of Mul w x y = imul (core w) x y
result_of And w x y = bit_and x y
result_of Or w x y = bit_or x y
result_of Xor w x y = bit_xor x y
result_of Shl w x y = ishl (core w) x y
result_of ShrU w x y = ishr_u (core w) x y

-- the width of an operator's result
abbrev pub given_by : IntOp → Width → Width
given_by Eq w = Narrow
given_by Ne w = Narrow
given_by LtU w = Narrow
given_by LeU w = Narrow
given_by Add w = w
given_by Sub w = w
given_by Mul w = w
given_by And w = w
given_by Or w = w
given_by Xor w = w
given_by Shl w = w
given_by ShrU w = w

-- the low bits, with zeros above
abbrev pub moved : Width → Width → ℕ → ℕ
moved Narrow Broad v = low Narrow v
moved Narrow Narrow v = v
moved Broad Narrow v = v
moved Broad Broad v = v

-- the number of that many bytes at a place of a memory
unfoldable pub word : List ℕ → ℕ → ℕ → ℕ
word memory place width = number (take width (drop place memory))

-- the memory with the lowest bytes of a number at a place
unfoldable pub put : List ℕ → ℕ → ℕ → ℕ → List ℕ
put memory place width v = splice memory place (place + width) (bytes_of width v)

-- a load, or none where the bytes pass the memory's end
abbrev pub loaded : List ℕ → ℕ → ℕ → Option ℕ
loaded memory place width = if nat_le (place + width) (length memory) then Some (word memory place width) else None

-- a store, or none where the bytes pass the memory's end
abbrev pub stored : List ℕ → ℕ → ℕ → ℕ → Option (List ℕ)
stored memory place width v = if nat_le (place + width) (length memory) then Some (put memory place width v) else None

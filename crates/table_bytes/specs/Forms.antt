-- Parts of routines that come again and again.
use Rattle.std.specs.Prelude.{ℕ}
use Rattle.adapter_code.specs.declared.statement.Statement.{Const, Int}
use Rattle.adapter_code.specs.declared.statement.IntOp.TheVariants.{Add, Sub, Mul}
use Rattle.adapter_code.specs.Code.{Code, Stop, Then}

-- a local and a constant; the local for the result holds the constant first
abbrev pub plus_code : ℕ → ℕ → ℕ → Code → Code
plus_code to a v rest = Then (Const to v) (Then (Int Add to a to) rest)

-- a local less a constant, which another local holds meanwhile
abbrev pub minus_code : ℕ → ℕ → ℕ → ℕ → Code → Code
minus_code to a v scratch rest = Then (Const scratch v) (Then (Int Sub to a scratch) rest)

-- where an element of that many bytes stands, after a base
abbrev pub element_code : ℕ → ℕ → ℕ → ℕ → ℕ → Code → Code
element_code to base index size scratch rest = Then (Const scratch size) (Then (Int Mul to index scratch) (Then (Int Add to to base) rest))

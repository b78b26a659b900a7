-- Well-formed routines.
use Rattle.std.specs.Prelude.{ℕ, ◌≡◌, ◌⊎◌, ◌<◌, List, [], ◌∷◌, length, Some, slice_get}
use Rattle.core_memory.specs.Number.{IsWidth}
use Rattle.adapter_code.specs.declared.statement.Width.{Width}
use Rattle.adapter_code.specs.declared.statement.Width.TheVariants.{Narrow, Broad}
use Rattle.adapter_code.specs.declared.statement.Statement.{Statement, Const, Move, Int, Load, Store, Leave, NewHandle, DropHandle, Trap, Answer}
use Rattle.adapter_code.specs.Number.{given_by}
use Rattle.adapter_code.specs.Code.{Code, Stop, Then, Choose, Turns}

-- one of these names
abbrev pub IsNamed : ℕ → List ℕ → Type 0
IsNamed name [] = ⊥
IsNamed name (n ∷ names) = (name ≡ n) ⊎ IsNamed name names

-- a local is there and has a width
abbrev pub HasWidth : List Width → ℕ → Width → Type 0
HasWidth ws i w = slice_get ws i ≡ Some w

-- a width of a load or a store at a local; eight bytes need a wide one
abbrev pub IsSize : Width → ℕ → Type 0
IsSize Narrow size = (size ≡ 1) ⊎ ((size ≡ 2) ⊎ (size ≡ 4))
IsSize Broad size = IsWidth size

-- a statement that holds no others, over locals of these widths, in `Repeat`s of these names
abbrev pub IsFine : List Width → List ℕ → Statement → Type 0
IsFine ws names (Const to v) = to < length ws
IsFine ws names (Move to from) = (to < length ws) × (from < length ws)
IsFine ws names (Int op to a b) = (w : Width) × HasWidth ws a w × HasWidth ws b w × HasWidth ws to (given_by op w)
IsFine ws names (Load to at offset size) = (w : Width) × HasWidth ws at Narrow × HasWidth ws to w × IsSize w size
IsFine ws names (Store from at offset size) = (w : Width) × HasWidth ws at Narrow × HasWidth ws from w × IsSize w size
IsFine ws names (Leave name) = IsNamed name names
IsFine ws names (NewHandle kind rep to) = (kind < 14) × HasWidth ws rep Narrow × HasWidth ws to Narrow
IsFine ws names (DropHandle kind index) = (kind < 14) × HasWidth ws index Narrow
IsFine ws names Trap = Unit {0}
IsFine ws names Answer = Unit {0}
IsFine ws names other = ⊥

-- a routine: each local that it names is there with the width that is needed, each `Leave` stands inside a `Repeat` that
-- it names, and each width and each kind is one that there is
abbrev pub IsWellFormed : List Width → List ℕ → Code → Type 0
IsWellFormed ws names Stop = Unit {0}
IsWellFormed ws names (Then statement rest) = IsFine ws names statement × IsWellFormed ws names rest
IsWellFormed ws names (Choose test first other rest) = HasWidth ws test Narrow × IsWellFormed ws names first × IsWellFormed ws names other × IsWellFormed ws names rest
IsWellFormed ws names (Turns name count body rest) = HasWidth ws count Narrow × IsWellFormed ws (name ∷ names) body × IsWellFormed ws names rest

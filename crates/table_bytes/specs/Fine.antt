-- Whether a routine is well formed, as a test that computes: of a routine that is written out it is `refl` that it is.
use Rattle.std.specs.Prelude.{ℕ, ◌==◌, ◌&&◌, ◌||◌, nat_lt, Bool, true, false, List, [], ◌∷◌, length, Option, Some, None, slice_get}
use Rattle.adapter_code.specs.declared.statement.Width.{Width}
use Rattle.adapter_code.specs.declared.statement.Width.TheVariants.{Narrow, Broad}
use Rattle.adapter_code.specs.declared.statement.IntOp.{IntOp}
use Rattle.adapter_code.specs.declared.statement.Statement.{Statement, Const, Move, Int, Load, Store, Leave, NewHandle, DropHandle, Trap, Answer}
use Rattle.adapter_code.specs.Number.{given_by}
use Rattle.adapter_code.specs.Code.{Code, Stop, Then, Choose, Turns}

abbrev pub is_width : Option Width → Width → Bool
is_width None w = false
is_width (Some Narrow) Narrow = true
is_width (Some Narrow) Broad = false
is_width (Some Broad) Narrow = false
is_width (Some Broad) Broad = true

abbrev pub has_width : List Width → ℕ → Width → Bool
has_width ws i w = is_width (slice_get ws i) w

abbrev pub has_size : Option Width → ℕ → Bool
has_size None size = false
has_size (Some Narrow) size = (size == 1) || ((size == 2) || (size == 4))
has_size (Some Broad) size = (size == 1) || ((size == 2) || ((size == 4) || (size == 8)))

-- an operator on a local of a width, if it is there, and on another
abbrev pub operates : List Width → IntOp → ℕ → ℕ → Option Width → Bool
operates ws op to b None = false
operates ws op to b (Some w) = has_width ws b w && has_width ws to (given_by op w)

abbrev pub is_named : ℕ → List ℕ → Bool
is_named name [] = false
is_named name (n ∷ names) = (name == n) || is_named name names

abbrev pub is_fine : List Width → List ℕ → Statement → Bool
is_fine ws names (Const to v) = nat_lt to (length ws)
is_fine ws names (Move to from) = nat_lt to (length ws) && nat_lt from (length ws)
is_fine ws names (Int op to a b) = operates ws op to b (slice_get ws a)
is_fine ws names (Load to at offset size) = has_width ws at Narrow && has_size (slice_get ws to) size
is_fine ws names (Store from at offset size) = has_width ws at Narrow && has_size (slice_get ws from) size
is_fine ws names (Leave name) = is_named name names
is_fine ws names (NewHandle kind rep to) = nat_lt kind 14 && (has_width ws rep Narrow && has_width ws to Narrow)
is_fine ws names (DropHandle kind index) = nat_lt kind 14 && has_width ws index Narrow
is_fine ws names Trap = true
is_fine ws names Answer = true
is_fine ws names other = false

abbrev pub well_formed : List Width → List ℕ → Code → Bool
well_formed ws names Stop = true
well_formed ws names (Then statement rest) = is_fine ws names statement && well_formed ws names rest
well_formed ws names (Choose test first other rest) = has_width ws test Narrow && (well_formed ws names first && (well_formed ws names other && well_formed ws names rest))
well_formed ws names (Turns name count body rest) = has_width ws count Narrow && (well_formed ws (name ∷ names) body && well_formed ws names rest)

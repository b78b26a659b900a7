-- A routine over locals of its own, at home in another list of locals.
use Rattle.std.specs.Prelude.{ℕ, ◌&&◌, ◌==◌, not, nat_lt, Bool, true, List, [], ◌∷◌, slice_index_or, slice_set}
use Rattle.adapter_code.specs.declared.statement.Statement.{Statement, Const, Move, Int, Load, Store, NewHandle, DropHandle}
use Rattle.adapter_code.specs.declared.state.Local.{Local}
use Rattle.adapter_code.specs.Code.{Code, Stop, Then, Choose, Turns}
use Rattle.adapter_code.specs.Run.{State, Run, Next, Left, Over}

-- the place of a routine's own local
abbrev pub place_in : List ℕ → ℕ → ℕ
place_in places i = slice_index_or places i 0

abbrev pub moved_to : List ℕ → Statement → Statement
moved_to places (Const to v) = Const (place_in places to) v
moved_to places (Move to from) = Move (place_in places to) (place_in places from)
moved_to places (Int op to a b) = Int op (place_in places to) (place_in places a) (place_in places b)
moved_to places (Load to at offset size) = Load (place_in places to) (place_in places at) offset size
moved_to places (Store from at offset size) = Store (place_in places from) (place_in places at) offset size
moved_to places (NewHandle kind rep to) = NewHandle kind (place_in places rep) (place_in places to)
moved_to places (DropHandle kind index) = DropHandle kind (place_in places index)
moved_to places other = other

-- a routine whose own local i stands at the i-th of these places
abbrev pub placed : List ℕ → Code → Code
placed places Stop = Stop
placed places (Then st rest) = Then (moved_to places st) (placed places rest)
placed places (Choose test first other rest) = Choose (place_in places test) (placed places first) (placed places other) (placed places rest)
placed places (Turns name count body rest) = Turns name (place_in places count) (placed places body) (placed places rest)

-- locals with those of a routine at their places
abbrev pub with_own : List ℕ → List Local → List Local → List Local
with_own [] own outer = outer
with_own (p ∷ ps) [] outer = outer
with_own (p ∷ ps) (l ∷ ls) outer = slice_set (with_own ps ls outer) p l

-- a routine's own state in that of another list of locals
abbrev pub inside : List ℕ → List Local → State → State
inside places outer s = record s { locals = with_own places s.locals outer }

abbrev pub run_inside : List ℕ → List Local → Run → Run
run_inside places outer (Next k s) = Next k (inside places outer s)
run_inside places outer (Left name k s) = Left name k (inside places outer s)
run_inside places outer (Over e k s) = Over e k (inside places outer s)

-- each local that is named is one of that many
abbrev pub statement_within : ℕ → Statement → Bool
statement_within n (Const to v) = nat_lt to n
statement_within n (Move to from) = nat_lt to n && nat_lt from n
statement_within n (Int op to a b) = nat_lt to n && (nat_lt a n && nat_lt b n)
statement_within n (Load to at offset size) = nat_lt to n && nat_lt at n
statement_within n (Store from at offset size) = nat_lt from n && nat_lt at n
statement_within n (NewHandle kind rep to) = nat_lt rep n && nat_lt to n
statement_within n (DropHandle kind index) = nat_lt index n
statement_within n other = true

abbrev pub within : ℕ → Code → Bool
within n Stop = true
within n (Then st rest) = statement_within n st && within n rest
within n (Choose test first other rest) = nat_lt test n && (within n first && (within n other && within n rest))
within n (Turns name count body rest) = nat_lt count n && (within n body && within n rest)

-- the places differ, and are among that many
abbrev pub differs : ℕ → List ℕ → Bool
differs p [] = true
differs p (q ∷ ps) = not (p == q) && differs p ps

abbrev pub are_places : ℕ → List ℕ → Bool
are_places n [] = true
are_places n (p ∷ ps) = nat_lt p n && (differs p ps && are_places n ps)

-- What a routine does, by recursion on its statements.
use Rattle.std.specs.Prelude.{ℕ, zero, suc, ◌+◌, List, [], ◌∷◌, ◌++◌, Option, Some, None, ◌==◌, if◌then◌else◌, slice_index_or, slice_set}
use Rattle.handle_space.specs.HandleMap.{HandleMap, Answered, own_entry, add, take_own}
use Rattle.adapter_code.specs.declared.statement.Width.{Width}
use Rattle.adapter_code.specs.declared.statement.Width.TheVariants.{Narrow, Broad}
use Rattle.adapter_code.specs.declared.statement.Statement.{Statement, Const, Move, Int, Load, Store, Leave, NewHandle, DropHandle, Trap, Answer}
use Rattle.adapter_code.specs.declared.state.Local.{Local}
use Rattle.adapter_code.specs.declared.state.Local.TheVariants.{Small, Wide}
use Rattle.adapter_code.specs.declared.state.Effect.{Effect}
use Rattle.adapter_code.specs.declared.state.Effect.TheVariants.{Made, Dropped}
use Rattle.adapter_code.specs.declared.state.CodeEnd.{CodeEnd}
use Rattle.adapter_code.specs.declared.state.CodeEnd.TheVariants.{Answer as Answered', Trap as Trapped'}
use Rattle.adapter_code.specs.Number.{low, moved, result_of, loaded, stored}
use Rattle.adapter_code.specs.Code.{Code, Stop, Then, Choose, Turns}

-- what a routine works on
pub record State : Type 0 where
  pub locals : List Local
  pub memory : List ℕ
  pub table : HandleMap ℕ
  pub effects : List Effect

-- how a list of statements ends, with the number of statements run so far
pub data Run : Type 0 where
  Next : (k : ℕ) (s : State) → Run
  Left : (name k : ℕ) (s : State) → Run
  Over : (end : CodeEnd) (k : ℕ) (s : State) → Run

abbrev pub value : Local → ℕ
value (Small v) = v
value (Wide v) = v

abbrev pub local_width : Local → Width
local_width (Small v) = Narrow
local_width (Wide v) = Broad

-- a local of the same width
abbrev pub with_value : Local → ℕ → Local
with_value (Small v) n = Small n
with_value (Wide v) n = Wide n

abbrev pub local_at : List Local → ℕ → Local
local_at ls i = slice_index_or ls i (Small 0)

abbrev pub number_at : State → ℕ → ℕ
number_at s i = value (local_at s.locals i)

abbrev pub width_at : State → ℕ → Width
width_at s i = local_width (local_at s.locals i)

abbrev pub set_local : State → ℕ → ℕ → State
set_local s i n = record s { locals = slice_set s.locals i (with_value (local_at s.locals i) n) }

-- the adapter's own resource of a kind; the host's has the kind's number
abbrev pub own_resource : ℕ → ℕ
own_resource kind = 14 + kind

abbrev pub then_run : Run → (ℕ → State → Run) → Run
then_run (Next k s) go = go k s
then_run (Left name k s) go = Left name k s
then_run (Over e k s) go = Over e k s

-- the end of a turn
abbrev pub turn_end : ℕ → Run → (ℕ → State → Run) → Run
turn_end name (Next k s) go = go k s
turn_end name (Left m k s) go = if m == name then Next k s else Left m k s
turn_end name (Over e k s) go = Over e k s

-- that many turns, each of which counts one
abbrev pub turns : ℕ → (ℕ → State → Run) → ℕ → ℕ → State → Run
turns name body zero k s = Next k s
turns name body (suc n) k s = turn_end name (body (suc k) s) (turns name body n)

-- the first where a number is not 0, else the second
abbrev pub chosen : ℕ → Run → Run → Run
chosen zero first other = other
chosen (suc n) first other = first

abbrev pub after_load : ℕ → ℕ → State → Option ℕ → Run
after_load to k s None = Over Trapped' k s
after_load to k s (Some v) = Next k (set_local s to v)

abbrev pub after_store : ℕ → State → Option (List ℕ) → Run
after_store k s None = Over Trapped' k s
after_store k s (Some m) = Next k (record s { memory = m })

abbrev pub after_new : ℕ → ℕ → ℕ → ℕ → State → Option (Answered ℕ ℕ) → Run
after_new kind rep to k s None = Over Trapped' k s
after_new kind rep to k s (Some a) =
    Next k (record (set_local s to a.answer) { table = a.map; effects = s.effects ++ Made kind rep a.answer ∷ [] })

abbrev pub after_drop : ℕ → ℕ → ℕ → State → Option (Answered ℕ ℕ) → Run
after_drop kind index k s None = Over Trapped' k s
after_drop kind index k s (Some a) = Next k (record s { table = a.map; effects = s.effects ++ Dropped kind a.answer index ∷ [] })

-- a statement that holds no others, and that has been counted
abbrev pub does : Statement → ℕ → State → Run
does (Const to v) k s = Next k (set_local s to (low (width_at s to) v))
does (Move to from) k s = Next k (set_local s to (moved (width_at s to) (width_at s from) (number_at s from)))
does (Int op to a b) k s = Next k (set_local s to (result_of op (width_at s a) (number_at s a) (number_at s b)))
does (Load to at offset size) k s = after_load to k s (loaded s.memory (number_at s at + offset) size)
does (Store from at offset size) k s = after_store k s (stored s.memory (number_at s at + offset) size (number_at s from))
does (Leave name) k s = Left name k s
does (NewHandle kind rep to) k s = after_new kind (number_at s rep) to k s (add s.table (own_entry (own_resource kind) (number_at s rep)))
does (DropHandle kind index) k s = after_drop kind (number_at s index) k s (take_own s.table (number_at s index) kind)
does Trap k s = Over Trapped' k s
does Answer k s = Over Answered' k s
does other k s = Next k s

-- a routine; each statement counts one as it is begun, and k have been counted before
abbrev pub runs : Code → ℕ → State → Run
runs Stop k s = Next k s
runs (Then statement rest) k s = then_run (does statement (suc k) s) (runs rest)
runs (Choose test first other rest) k s = then_run (chosen (number_at s test) (runs first (suc k) s) (runs other (suc k) s)) (runs rest)
runs (Turns name count body rest) k s = then_run (turns name (runs body) (number_at s count) (suc k) s) (runs rest)

-- what a routine's run gives: its end, the state after it, and the number of statements run
pub record RoutineRun : Type 0 where
  pub end : CodeEnd
  pub state : State
  pub count : ℕ

-- the end of a routine's list is an answer
abbrev pub ended : Run → RoutineRun
ended (Next k s) = record { end = Answered'; state = s; count = k }
ended (Left name k s) = record { end = Trapped'; state = s; count = k }
ended (Over e k s) = record { end = e; state = s; count = k }

abbrev pub routine_run : Code → State → RoutineRun
routine_run code s = ended (runs code 0 s)

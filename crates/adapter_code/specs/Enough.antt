-- What is enough before a routine, so that a fact holds of its run: computed from the routine, in plain arithmetic.
use Rattle.std.specs.Prelude.{◌≡◌, ◌≢◌, ℕ, suc, ◌+◌, ◌-◌, ◌*◌, ◌^◌, ◌<◌, ◌≤◌, ◌==◌, if◌then◌else◌, length, Option}
use Rattle.handle_space.specs.HandleMap.{Answered, own_entry, add, take_own}
use Rattle.adapter_code.specs.declared.statement.Width.{Width}
use Rattle.adapter_code.specs.declared.statement.Width.TheVariants.{Narrow, Broad}
use Rattle.adapter_code.specs.declared.statement.IntOp.{IntOp}
use Rattle.adapter_code.specs.declared.statement.IntOp.TheVariants.{Eq, Ne, LtU, LeU, Add, Sub, Mul, And, Or, Xor, Shl, ShrU}
use Rattle.adapter_code.specs.declared.statement.Statement.{Statement, Const, Move, Int, Load, Store, Leave, NewHandle, DropHandle, Trap, Answer}
use Rattle.adapter_code.specs.declared.state.CodeEnd.TheVariants.{Answer as Answered', Trap as Trapped'}
use Rattle.adapter_code.specs.Number.{word, put, result_of}
use Rattle.adapter_code.specs.Code.{Code, Stop, Then, Choose, Turns}
use Rattle.adapter_code.specs.Run.{State, Run, Next, Left, Over, width_at, number_at, set_local, own_resource, turns, after_new, after_drop, runs}

-- numbers of a width are below this
abbrev pub top : Width → ℕ
top Narrow = 2 ^ 32
top Broad = 2 ^ 64

-- an operator without wrapping, and when its result does not wrap
abbrev pub plainly : IntOp → Width → ℕ → ℕ → ℕ
plainly Add w a b = a + b
plainly Sub w a b = a - b
plainly Mul w a b = a * b
plainly Eq w a b = result_of Eq w a b
plainly Ne w a b = result_of Ne w a b
plainly LtU w a b = result_of LtU w a b
plainly LeU w a b = result_of LeU w a b
plainly And w a b = result_of And w a b
plainly Or w a b = result_of Or w a b
plainly Xor w a b = result_of Xor w a b
plainly Shl w a b = result_of Shl w a b
plainly ShrU w a b = result_of ShrU w a b

abbrev pub NoWrap : IntOp → Width → ℕ → ℕ → Type 0
NoWrap Add w a b = a + b < top w
NoWrap Sub w a b = (b ≤ a) × (a < top w)
NoWrap Mul w a b = a * b < top w
NoWrap Eq w a b = Unit {0}
NoWrap Ne w a b = Unit {0}
NoWrap LtU w a b = Unit {0}
NoWrap LeU w a b = Unit {0}
NoWrap And w a b = Unit {0}
NoWrap Or w a b = Unit {0}
NoWrap Xor w a b = Unit {0}
NoWrap Shl w a b = Unit {0}
NoWrap ShrU w a b = Unit {0}

-- a copy loses no bits
abbrev pub NoLoss : Width → Width → ℕ → Type 0
NoLoss Narrow Broad v = v < 2 ^ 32
NoLoss Narrow Narrow v = Unit {0}
NoLoss Broad w v = Unit {0}

-- a fact of a run's end, or else a fact of what goes on there
abbrev pub Behind : (ℕ → State → Type 0) → (Run → Type 0) → Run → Type 0
Behind go wanted (Next k s) = go k s
Behind go wanted (Left name k s) = wanted (Left name k s)
Behind go wanted (Over e k s) = wanted (Over e k s)

-- the same of a turn of a `Repeat`: a way out of it goes on after it
abbrev pub TurnEnds : ℕ → (ℕ → State → Type 0) → (Run → Type 0) → Run → Type 0
TurnEnds name go wanted (Next k s) = go k s
TurnEnds name go wanted (Left m k s) = wanted (if m == name then Next k s else Left m k s)
TurnEnds name go wanted (Over e k s) = wanted (Over e k s)

-- enough before a statement that holds no others, and that has been counted, where `wanted` is asked of its end
abbrev pub EnoughOf : Statement → (Run → Type 0) → ℕ → State → Type 0
EnoughOf (Const to v) wanted k s = (v < top (width_at s to)) × wanted (Next k (set_local s to v))
EnoughOf (Move to from) wanted k s = NoLoss (width_at s to) (width_at s from) (number_at s from) × wanted (Next k (set_local s to (number_at s from)))
EnoughOf (Int op to a b) wanted k s =
    NoWrap op (width_at s a) (number_at s a) (number_at s b) × wanted (Next k (set_local s to (plainly op (width_at s a) (number_at s a) (number_at s b))))
EnoughOf (Load to at offset size) wanted k s =
    (number_at s at + offset + size ≤ length s.memory) × wanted (Next k (set_local s to (word s.memory (number_at s at + offset) size)))
EnoughOf (Store from at offset size) wanted k s =
    (number_at s at + offset + size ≤ length s.memory) × wanted (Next k (record s { memory = put s.memory (number_at s at + offset) size (number_at s from) }))
EnoughOf (Leave name) wanted k s = wanted (Left name k s)
EnoughOf (NewHandle kind rep to) wanted k s =
    (a : Option (Answered ℕ ℕ)) → add s.table (own_entry (own_resource kind) (number_at s rep)) ≡ a → wanted (after_new kind (number_at s rep) to k s a)
EnoughOf (DropHandle kind index) wanted k s =
    (a : Option (Answered ℕ ℕ)) → take_own s.table (number_at s index) kind ≡ a → wanted (after_drop kind (number_at s index) k s a)
EnoughOf Trap wanted k s = wanted (Over Trapped' k s)
EnoughOf Answer wanted k s = wanted (Over Answered' k s)
EnoughOf other wanted k s = wanted (Next k s)

-- enough before a routine; of the turns of a `Repeat` the fact itself is asked, which `loop_holds` gives from an invariant
abbrev pub Enough : Code → (Run → Type 0) → ℕ → State → Type 0
Enough Stop wanted k s = wanted (Next k s)
Enough (Then st rest) wanted k s = EnoughOf st (λ r. Behind (λ k t. Enough rest wanted k t) wanted r) (suc k) s
Enough (Choose test first other rest) wanted k s =
    (number_at s test ≢ 0 → Enough first (λ r. Behind (λ k t. Enough rest wanted k t) wanted r) (suc k) s)
    × (number_at s test ≡ 0 → Enough other (λ r. Behind (λ k t. Enough rest wanted k t) wanted r) (suc k) s)
Enough (Turns name count body rest) wanted k s =
    Behind (λ k t. Enough rest wanted k t) wanted (turns name (runs body) (number_at s count) (suc k) s)

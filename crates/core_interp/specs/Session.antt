-- A machine over its pauses.
use Rattle.std.specs.Prelude.{ℕ, ◌≡◌, ◌+◌, ◌-◌, ◌<◌, ◌≤◌, List, [], ◌∷◌, ◌++◌, Option, Some, None, length, drop, reverse, replicate, slice_get}
use Rattle.virt_base.specs.declared.core_type.CoreType.{CoreType}
use Rattle.core_store.specs.declared.value.CoreValue.{CoreValue}
use Rattle.core_store.specs.declared.value.StoreFunc.{StoreFunc}
use Rattle.core_store.specs.declared.value.StoreFunc.TheVariants.{Inside, Outside}
use Rattle.wasm_ast.specs.declared.module.CoreFunc.{CoreFunc}
use Rattle.core_store.specs.State.{State}
use Rattle.core_store.specs.Words.{words, values_in, HaveTypes}
use Rattle.core_store.specs.Config.{Reply, Outcome, Done, Trapped, Asks, Spent, bare}
use Rattle.core_store.specs.Eval.{Enter, arguments, function_type, deep, go, finish, eval}
use Rattle.core_slots.specs.Stacked.{Stacked, with_operands}
use Rattle.core_interp.specs.declared.machine.Stage.{Stage}
use Rattle.core_interp.specs.declared.machine.Stage.TheVariants.{Starts, Runs, Answered, Due}
use Rattle.core_interp.specs.declared.machine.Machine.{Machine}
use Rattle.core_interp.specs.declared.machine.Pause.{Pause}
use Rattle.core_interp.specs.declared.machine.Pause.TheVariants as pauses
use Rattle.core_store.specs.Scene.{Grew, CameBack, scene_of, results_at}
use Rattle.core_store.specs.Laws.{Answers}
use Rattle.core_interp.specs.Rest.{config_of}
use Rattle.core_store.specs.Fine.{params_of}
use Rattle.core_interp.specs.Run.{goes, Ready, outermost}

-- the types of the results that are due
abbrev pub results_due : Machine → State → List CoreType
results_due m s = results_at (scene_of s) m.entry

abbrev pub goes_staged : Stage → Machine → State → List Reply → ℕ → Outcome
goes_staged Starts m s rs n = finish (results_due m s) (go (Enter m.entry) n (config_of m.running.slots bare s rs))
goes_staged Runs m s rs n = finish (results_due m s) (goes m.running s rs n)
goes_staged Answered m s rs n = Done (values_in (length s.functions) (results_due m s) (reverse m.running.slots.operands)) s n
goes_staged Due m s rs n = deep n

-- how a machine goes on
abbrev pub goes_on : Machine → State → List Reply → ℕ → Outcome
goes_on m s rs n = goes_staged m.stage m s rs n

-- no call is begun, and the arguments are there
pub record IsFirst (m : Machine) (s : State) : Type 0 where
  pub callee : StoreFunc
  pub callee_is : slice_get s.functions m.entry ≡ Some callee
  pub count : length m.running.slots.operands ≡ params_of callee
  pub function : m.running.function ≡ m.entry
  pub at : m.running.at ≡ 0
  pub locals : m.running.slots.locals ≡ []
  pub callers : m.running.slots.callers ≡ []
  pub controls : m.running.controls.items ≡ []

abbrev pub IsStaged : Stage → Machine → State → Type 0
IsStaged Starts m s = IsFirst m s
IsStaged Runs m s = Ready m.running s × (outermost m.running ≡ length (results_due m s) ∷ [])
IsStaged Answered m s = length m.running.slots.operands ≡ length (results_due m s)
IsStaged Due m s = Unit {0}

-- a machine can run over a store
pub record CanRun (m : Machine) (s : State) : Type 0 where
  pub entry : m.entry < length s.functions
  pub staged : IsStaged m.stage m s

-- how many results a machine awaits of the call that it asked for
abbrev pub awaited : Machine → ℕ
awaited m = m.awaits

-- an answer to the question of a machine that has that many results: the store only grew in between, and the calls that were begun came back
pub record IsAnswer (count : ℕ) (s : State) (r : Reply) : Type 0 where
  pub results : length r.results ≡ count
  pub back : CameBack s r.store

abbrev pub answered_slots : Stacked → List CoreValue → Stacked
answered_slots a results = with_operands a (reverse (words results) ++ drop (length results) a.operands)

-- the machine once the results of the call that it asked for are there
abbrev pub resumed : Machine → List CoreValue → Machine
resumed m results = record m { running = record m.running { slots = answered_slots m.running.slots results } }

-- a machine has room for that many results of the call that it asked for
pub record IsAwaited (m : Machine) (count : ℕ) : Type 0 where
  pub due : count ≡ awaited m
  pub room : count ≤ length m.running.slots.operands

-- it asked for a call of a function of this number with these arguments, which have the types of its parameters, and awaits its results
pub record Asked (number : ℕ) (args : List CoreValue) (m : Machine) (s : State) : Type 0 where
  pub function : ℕ
  pub ty : CoreFunc
  pub function_is : slice_get s.functions function ≡ Some (Outside ty number)
  pub typed : HaveTypes ty.params args
  pub awaited : IsAwaited m (length ty.results)

-- X with that many steps more
abbrev pub granted : (List Reply → ℕ → Outcome) → ℕ → List Reply → ℕ → Outcome
granted X taken rs n = X rs (taken + n)

-- where a pause leads, X being the rest of the run after the steps that were taken, with b steps left in the budget
abbrev pub PauseLeads : (List Reply → ℕ → Outcome) → ℕ → Pause → Machine → State → Type 0
PauseLeads X b (pauses.Done values) m s = ((rs : List Reply) (n : ℕ) → X rs n ≡ Done values s n) × HaveTypes (results_due m s) values
PauseLeads X b pauses.Trapped m s = (rs : List Reply) (n : ℕ) → X rs n ≡ Trapped
PauseLeads X b (pauses.AtHost number args) m s =
    ((n : ℕ) → X [] n ≡ Asks number args s n)
    × ((r : Reply) → IsAnswer (awaited m) s r → ((rs : List Reply) (n : ℕ) → X (r ∷ rs) n ≡ goes_on (resumed m r.results) r.store rs n) × CanRun (resumed m r.results) r.store)
    × Asked number args m s
    × (m.entry < length s.functions)
PauseLeads X b pauses.Spent m s =
    (b ≡ 0) × ((rs : List Reply) → X rs 0 ≡ Spent) × ((rs : List Reply) (n : ℕ) → X rs n ≡ goes_on m s rs n) × ((t : State) → CameBack s t → CanRun m t)
PauseLeads X b pauses.TooDeep m s = (0 < b) × ((rs : List Reply) (n : ℕ) → X rs n ≡ deep n)

-- a machine that traps does so after its last step: with one less it is spent
abbrev pub PauseTraps : (List Reply → ℕ → Outcome) → ℕ → Pause → Type 0
PauseTraps X taken pauses.Trapped = (0 < taken) × ((rs : List Reply) → X rs (taken - 1) ≡ Spent)
PauseTraps X taken p = Unit {0}

-- This call, of which these replies are used and that many steps are taken, is at this machine and store: with that many steps more
-- it goes on as the machine does. The store only grew since the call began, and came back for each question that was answered.
pub record Follows (first : State) (f : ℕ) (args : List CoreValue) (used : List Reply) (taken : ℕ) (m : Machine) (s : State) : Type 0 where
  pub can : CanRun m s
  pub so_far : (rs : List Reply) (n : ℕ) → eval first f args (used ++ rs) (taken + n) ≡ goes_on m s rs n
  pub answers : (n : ℕ) → Answers CameBack (λ us. eval first f args us n) used
  pub grew : Grew first s
  pub due : results_due m s ≡ results_at (scene_of first) f

-- what a pause says of the call, of which that many steps are taken, with that many left in the budget
abbrev pub Says : State → ℕ → List CoreValue → List Reply → ℕ → ℕ → Pause → Machine → State → Type 0
Says first f args used taken left (pauses.Done values) m s =
    ((rs : List Reply) (n : ℕ) → eval first f args (used ++ rs) (taken + n) ≡ Done values s n)
    × HaveTypes (results_at (scene_of first) f) values
    × CameBack first s
Says first f args used taken left pauses.Trapped m s =
    ((rs : List Reply) (n : ℕ) → eval first f args (used ++ rs) (taken + n) ≡ Trapped)
    × (0 < taken)
    × ((rs : List Reply) → eval first f args (used ++ rs) (taken - 1) ≡ Spent)
Says first f args used taken left (pauses.AtHost number asked) m s =
    ((n : ℕ) → eval first f args used (taken + n) ≡ Asks number asked s n)
    × Asked number asked m s
    × ((r : Reply) → IsAnswer (awaited m) s r → Follows first f args (used ++ r ∷ []) taken (resumed m r.results) r.store)
Says first f args used taken left pauses.Spent m s =
    (left ≡ 0) × ((rs : List Reply) → eval first f args (used ++ rs) taken ≡ Spent) × Follows first f args used taken m s × ((t : State) → CameBack s t → CanRun m t)
Says first f args used taken left pauses.TooDeep m s = (0 < left) × ((rs : List Reply) (n : ℕ) → eval first f args (used ++ rs) (taken + n) ≡ deep n)

-- What a call of `run` did: the budget went down by the steps that it took, no item of the store was added or taken away, and
-- the pause says this of whatever call the machine was at.
pub record Pauses (old : Machine) (s : State) (before : ℕ) (pause : Pause) (new : Machine) (t : State) (after : ℕ) : Type 0 where
  pub budget : after ≤ before
  pub scene : scene_of s ≡ scene_of t
  pub says : (first : State) (f : ℕ) (args : List CoreValue) (used : List Reply) (taken : ℕ) →
      Follows first f args used taken old s → Says first f args used (taken + (before - after)) after pause new t

-- a function that takes that many arguments
abbrev pub IsCallable : Option StoreFunc → ℕ → Type 0
IsCallable None n = ⊥
IsCallable (Some g) n = n ≡ params_of g

-- the function is the embedder's
abbrev pub IsOutside : Option StoreFunc → Type 0
IsOutside None = ⊥
IsOutside (Some (Inside ty instance locals body)) = ⊥
IsOutside (Some (Outside ty number)) = Unit {0}

abbrev pub params_at : Option StoreFunc → ℕ
params_at f = length (function_type f).params

-- a machine asks: its arguments are taken, and zeros stand where the results will
abbrev pub asking : CoreFunc → Machine → Machine
asking ty m = record m {
  running = record m.running { slots = with_operands m.running.slots (replicate (length ty.results) 0 ++ drop (length ty.params) m.running.slots.operands) };
  awaits = length ty.results;
}

abbrev pub AsksBy : Option StoreFunc → State → Machine → Machine → Pause → Type 0
AsksBy (Some (Outside ty number)) s old new (pauses.AtHost k args) = (k ≡ number) × (args ≡ arguments s ty old.running.slots.operands) × (new ≡ asking ty old)
AsksBy f s old new p = ⊥

-- a call too deep is due
abbrev pub Dues : ℕ → Pause → Type 0
Dues b pauses.Spent = b ≡ 0
Dues b pauses.TooDeep = 0 < b
Dues b (pauses.Done values) = ⊥
Dues b pauses.Trapped = ⊥
Dues b (pauses.AtHost number args) = ⊥

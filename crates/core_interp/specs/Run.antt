-- What a run says.
use Rattle.std.specs.Prelude.{ℕ, suc, ◌≡◌, ◌+◌, ◌-◌, ◌<◌, ◌≤◌, ◌^◌, List, [], ◌∷◌, ◌++◌, Option, Some, None, length, reverse, slice_get, drop, take}
use Rattle.wasm_ast.specs.declared.module.CoreFunc.{CoreFunc}
use Rattle.wasm_ast.specs.declared.instr.Instr.{Instr}
use Rattle.wasm_ast.specs.declared.instr.Instr.TheVariants.{Plain, SelectTyped, BrTable, End, Else}
use Rattle.wasm_ast.specs.declared.instr.Op.{Op}
use Rattle.wasm_ast.specs.declared.instr.Op.TheVariants.{Select}
use Rattle.wasm_ast.specs.declared.instr.BranchTable.{BranchTable}
use Rattle.wasm_ast.specs.Boxed.{Held}
use Rattle.core_store.specs.Tree.{Part, parts}
use Rattle.core_store.specs.declared.value.CoreValue.{CoreValue}
use Rattle.core_store.specs.declared.value.StoreFunc.TheVariants.{Outside}
use Rattle.core_store.specs.State.{State}
use Rattle.core_store.specs.Words.{words}
use Rattle.core_store.specs.Config.{Reply, Config, Trapped, Asks, Spent, Out, Next, Over, bare}
use Rattle.core_store.specs.Eval.{target, arguments, deep}
use Rattle.core_slots.specs.Stacked.{Stacked, with_operands}
use Rattle.core_interp.specs.declared.control.Control.{Control}
use Rattle.core_interp.specs.declared.control.Control.TheVariants.{Label, Called, Entry}
use Rattle.core_interp.specs.declared.control.Flow.{Flow}
use Rattle.core_interp.specs.declared.control.Flow.TheVariants.{On, Ended, Failed, Asking, Exhausted, Deep}
use Rattle.core_interp.specs.declared.running.Running.{Running}
use Rattle.core_store.specs.Scene.{Scene, scene_of, code_at, spaces_at, IsInside}
use Rattle.core_interp.specs.Rest.{goes_at}
use Rattle.core_store.specs.Fine.{frame_at}
use Rattle.core_interp.specs.Valid.{IsReady}
use Rattle.core_interp.specs.Jumping.{IsJumping, jumps, IsReturning, returns_from, IsEntering, enters}

abbrev pub progress : Running → List Control
progress m = reverse m.controls.items

-- the rest of a run
abbrev pub goes : Running → State → List Reply → ℕ → Out
goes m s replies n = goes_at (scene_of s) m.function m.at m.slots (progress m) s replies n

abbrev pub own_parts : Running → State → List Part
own_parts m s = parts (drop m.at (code_at (scene_of s) m.function))

-- how many calls are in progress
abbrev pub calls : List Control → ℕ
calls [] = 0
calls (Label to a h ∷ cs) = calls cs
calls (Called f to r ∷ cs) = calls cs + 1
calls (Entry r ∷ cs) = calls cs + 1

-- a run can go on from a place in a function
pub record ReadyAt (w : Scene) (f at : ℕ) (a : Stacked) (cs : List Control) : Type 0 where
  pub inside : IsInside w (slice_get w.functions f)
  pub ready : IsReady w (frame_at w f (length a.locals)) (code_at w f) (parts (drop at (code_at w f))) a cs

pub record Ready (m : Running) (s : State) : Type 0 where
  pub at : ReadyAt (scene_of s) m.function m.at m.slots (progress m)
  pub counted : calls (progress m) ≤ s.nesting

-- operands with a call's results on them
abbrev pub answered : CoreFunc → Stacked → List CoreValue → Stacked
answered ty a results = with_operands a (reverse (words results) ++ drop (length ty.params) a.operands)

-- the run stands before this instruction
pub record IsBefore (i : Instr) (m : Running) (s : State) : Type 0 where
  pub there : slice_get (code_at (scene_of s) m.function) m.at ≡ Some i
  pub small : m.at + 1 < 2 ^ 64
  pub ready : Ready m s

-- the rest of a run, X, is that from a place in a function
pub record LeadsTo (X : List Reply → ℕ → Out) (f at : ℕ) (a : Stacked) (cs : List Control) (s : State) : Type 0 where
  pub goes : (rs : List Reply) (n : ℕ) → X rs n ≡ goes_at (scene_of s) f at a cs s rs n
  pub ready : ReadyAt (scene_of s) f at a cs
  pub counted : calls cs ≤ s.nesting

-- a function of the embedder is called, and the rest of the run, X, goes on when it answered
pub record AsksFor (X : List Reply → ℕ → Out) (callee : ℕ) (m : Running) (s : State) : Type 0 where
  pub ty : CoreFunc
  pub number : ℕ
  pub callee_is : slice_get s.functions callee ≡ Some (Outside ty number)
  pub fits : length ty.params ≤ length m.slots.operands
  pub asks : (n : ℕ) → X [] n ≡ Over (Asks number (arguments s ty m.slots.operands) s n)
  pub goes : (r : Reply) (rs : List Reply) (n : ℕ) → X (r ∷ rs) n ≡ goes_at (scene_of s) m.function m.at (answered ty m.slots r.results) (progress m) r.store rs n
  pub ready : (results : List CoreValue) → length results ≡ length ty.results → ReadyAt (scene_of s) m.function m.at (answered ty m.slots results) (progress m)
  pub counted : calls (progress m) ≤ s.nesting

-- the configuration after the outermost call, of that many results
abbrev pub ended : ℕ → Stacked → State → List Reply → Config
ended r a s rs = record { stack = take r a.operands ++ []; locals = []; spaces = bare; store = s; replies = rs }

-- where the rest of a run leads
abbrev pub Leads : (List Reply → ℕ → Out) → Flow → Running → State → Type 0
Leads X On m s = LeadsTo X m.function m.at m.slots (progress m) s
Leads X (Ended r) m s = (r ≤ length m.slots.operands) × ((rs : List Reply) (n : ℕ) → X rs n ≡ Next n (ended r m.slots s rs))
Leads X Failed m s = (rs : List Reply) (n : ℕ) → X rs n ≡ Over Trapped
Leads X (Asking f) m s = AsksFor X f m s
Leads X Deep m s = (rs : List Reply) (n : ℕ) → X rs n ≡ Over (deep n)
Leads X Exhausted m s = ⊥

-- the rest of a run from an instruction that takes a step
abbrev pub steps : Running → State → List Reply → ℕ → Out
steps m s rs n = goes m s rs (suc n)

-- an instruction that takes a step
abbrev pub IsCounted : Instr → Type 0
IsCounted End = ⊥
IsCounted Else = ⊥
IsCounted i = Unit {0}

-- X with that many steps more
abbrev pub ahead : (List Reply → ℕ → Out) → ℕ → List Reply → ℕ → Out
ahead X b rs n = X rs (b + n)

-- where the rest of a run, X, leads after the steps that were taken, with b steps left in the budget
abbrev pub RunLeads : (List Reply → ℕ → Out) → ℕ → Flow → Running → State → Type 0
RunLeads X b On m s = ((rs : List Reply) (n : ℕ) → X rs n ≡ goes m s rs n) × Ready m s
RunLeads X b (Ended r) m s = (r ≤ length m.slots.operands) × ((rs : List Reply) (n : ℕ) → X rs n ≡ Next n (ended r m.slots s rs))
RunLeads X b Failed m s = (rs : List Reply) (n : ℕ) → X rs n ≡ Over Trapped
RunLeads X b (Asking f) m s = AsksFor X f m s
RunLeads X b Deep m s = (rs : List Reply) (n : ℕ) → X rs n ≡ Over (deep n)
RunLeads X b Exhausted m s =
    (b ≡ 0) × ((rs : List Reply) → X rs 0 ≡ Over Spent) × ((rs : List Reply) (n : ℕ) → X rs n ≡ goes m s rs n) × Ready m s

-- a run that traps does so after its last step: with one less it is spent
abbrev pub TrapsBehind : (List Reply → ℕ → Out) → ℕ → Flow → Type 0
TrapsBehind X taken Failed = (0 < taken) × ((rs : List Reply) → X rs (taken - 1) ≡ Over Spent)
TrapsBehind X taken w = Unit {0}

abbrev pub IsNoTrap : Flow → Type 0
IsNoTrap Failed = ⊥
IsNoTrap w = Unit {0}

-- the results that calls from outside have: of one in progress there is one
abbrev pub entries : List Control → List ℕ
entries [] = []
entries (Label to a h ∷ cs) = entries cs
entries (Called f to r ∷ cs) = entries cs
entries (Entry r ∷ cs) = r ∷ entries cs

abbrev pub outermost : Running → List ℕ
outermost m = entries (progress m)

-- the call from outside stays in progress, or ends with its results
abbrev pub Remains : Flow → Running → Running → Type 0
Remains On old new = outermost new ≡ outermost old
Remains (Ended r) old new = r ∷ outermost new ≡ outermost old
Remains Failed old new = Unit {0}
Remains (Asking f) old new = outermost new ≡ outermost old
Remains Deep old new = Unit {0}
Remains Exhausted old new = outermost new ≡ outermost old

-- how long a run can go on without a step
abbrev pub Falls : Flow → ℕ → ℕ → Type 0
Falls On a b = a < b
Falls w a b = Unit {0}

-- a run stops here
abbrev pub Stops : Flow → Type 0
Stops On = ⊥
Stops w = Unit {0}

-- what is left after the instruction at hand
abbrev pub next_parts : Running → State → List Part
next_parts m s = parts (drop (m.at + 1) (code_at (scene_of s) m.function))

-- a branch to a label can be made from the instruction at hand
pub record Branches (m : Running) (s : State) (k : ℕ) : Type 0 where
  pub inside : IsInside (scene_of s) (slice_get s.functions m.function)
  pub counted : calls (progress m) ≤ s.nesting
  pub jumping : IsJumping (scene_of s) (frame_at (scene_of s) m.function (length m.slots.locals)) (code_at (scene_of s) m.function) (next_parts m s) m.slots (progress m) k

-- the rest of a run from a branch to a label
abbrev pub branches : Running → State → ℕ → List Reply → ℕ → Out
branches m s k rs n = jumps (scene_of s) (spaces_at (scene_of s) m.function) (code_at (scene_of s) m.function) (next_parts m s) m.slots (progress m) s rs k n

-- a return can be made from the instruction at hand
pub record Returns (m : Running) (s : State) : Type 0 where
  pub counted : calls (progress m) ≤ s.nesting
  pub returning : IsReturning (scene_of s) (frame_at (scene_of s) m.function (length m.slots.locals)) (code_at (scene_of s) m.function) (next_parts m s) m.slots (progress m)

abbrev pub backs : Running → State → List Reply → ℕ → Out
backs m s rs n = returns_from (scene_of s) (spaces_at (scene_of s) m.function) (code_at (scene_of s) m.function) (next_parts m s) m.slots (progress m) s rs n

-- the function at a place can be called from the instruction at hand
pub record Enters (m : Running) (s : State) (f : ℕ) : Type 0 where
  pub inside : IsInside (scene_of s) (slice_get s.functions m.function)
  pub counted : calls (progress m) ≤ s.nesting
  pub small : m.at + 1 < 2 ^ 64
  pub entering : IsEntering (scene_of s) (frame_at (scene_of s) m.function (length m.slots.locals)) (code_at (scene_of s) m.function) (next_parts m s) m.slots (progress m) f

abbrev pub entry : Running → State → ℕ → List Reply → ℕ → Out
entry m s f rs n = enters (scene_of s) (spaces_at (scene_of s) m.function) (code_at (scene_of s) m.function) (next_parts m s) m.slots (progress m) s rs f n

-- the instruction at hand takes a step
pub record Steps (m : Running) (s : State) : Type 0 where
  pub ready : Ready m s
  pub within : m.at < length (code_at (scene_of s) m.function)
  pub counted : (i : Instr) → slice_get (code_at (scene_of s) m.function) m.at ≡ Some i → IsCounted i

-- an instruction does as this one, which goes on to the next
abbrev pub Performs : Instr → Op → Type 0
Performs (Plain o) p = o ≡ p
Performs (SelectTyped ts) p = Select ≡ p
Performs _ p = ⊥

-- a br_table is at hand
pub record IsTable (m : Running) (s : State) : Type 0 where
  pub table : Held BranchTable
  pub before : IsBefore (BrTable table) m s

abbrev pub HasTable : Option Instr → Type 0
HasTable None = ⊥
HasTable (Some (BrTable t)) = Unit {0}
HasTable (Some _) = ⊥

abbrev pub TakesLabel : Option Instr → ℕ → ℕ → Type 0
TakesLabel None index label = Unit {0}
TakesLabel (Some (BrTable t)) index label = label ≡ target t.value index
TakesLabel (Some _) index label = Unit {0}

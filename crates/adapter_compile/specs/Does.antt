-- What the core code of a routine does, by core evaluation.
use Rattle.std.specs.Prelude.{◌≡◌, ℕ, zero, suc, ◌+◌, ◌*◌, ◌<◌, ◌≤◌, ◌^◌, List, [], ◌∷◌, ◌++◌, Bool, true, ◌⊎◌, Some, map, length, slice_get, take, drop, replicate}
use Rattle.std.specs.List.{All}
use Rattle.virt_base.specs.declared.core_type.CoreType.{CoreType}
use Rattle.virt_base.specs.declared.core_type.CoreType.TheVariants as types
use Rattle.wasm_ast.specs.declared.module.CoreFunc.{CoreFunc}
use Rattle.wasm_ast.specs.declared.module.Body.{Body}
use Rattle.wasm_ast.specs.declared.module.LocalRun.{LocalRun}
use Rattle.wasm_ast.specs.declared.instr.Instr.{Instr}
use Rattle.wasm_ast.specs.declared.instr.Instr.TheVariants.{End}
use Rattle.core_store.specs.Tree.{tree}
use Rattle.core_store.specs.declared.value.CoreValue.{CoreValue}
use Rattle.core_store.specs.declared.value.CoreValue.TheVariants as values
use Rattle.core_store.specs.declared.value.CoreSpaces.{CoreSpaces}
use Rattle.core_store.specs.declared.value.StoreFunc.TheVariants.{Inside}
use Rattle.core_store.specs.State.{State as StoreState, memory_at, can_enter}
use Rattle.core_store.specs.Locals.{each_local}
use Rattle.core_store.specs.Effects.{with_memory}
use Rattle.core_store.specs.Config.{Reply, Config, Outcome, Done, Spent, Trapped, Out, Over, spaces_of}
use Rattle.core_store.specs.Eval.{exec, go, eval}
use Rattle.handle_space.specs.HandleMap.{HandleMap}
use Rattle.adapter_code.specs.declared.statement.Width.{Width}
use Rattle.adapter_code.specs.declared.statement.Width.TheVariants.{Narrow, Broad}
use Rattle.adapter_code.specs.declared.state.Local.{Local}
use Rattle.adapter_code.specs.declared.state.Local.TheVariants.{Small, Wide}
use Rattle.adapter_code.specs.declared.state.Effect.{Effect}
use Rattle.adapter_code.specs.declared.state.CodeEnd.{CodeEnd}
use Rattle.adapter_code.specs.declared.state.CodeEnd.TheVariants.{Answer, Trap}
use Rattle.adapter_code.specs.Code.{Code}
use Rattle.adapter_code.specs.Run.{State, RoutineRun, value, local_width, local_at, routine_run}
use Rattle.adapter_code.specs.WellFormed.{IsWellFormed}
use Rattle.adapter_compile.specs.declared.calls.HandleCalls.{HandleCalls}
use Rattle.adapter_compile.specs.Instructions.{routine_code}
use Rattle.adapter_compile.specs.Bounds.{nesting}
use Rattle.adapter_compile.specs.Handles.{Numbers, HasCalls, AreHosted, Refused, Follows, IsTable}

-- where a routine's code stands: the index spaces of its instance, the store, of which it changes one memory alone, and the
-- place of that memory
pub record Home : Type 0 where
  pub spaces : CoreSpaces
  pub store : StoreState
  pub memory : ℕ

-- the store with these bytes in the memory, of whose pages these are made
abbrev pub store_with : Home → List ℕ → List Bool → StoreState
store_with home bytes made = with_memory home.store home.memory (record { bytes = bytes; made = made; max = (memory_at home.store home.memory).max })

-- the routine's state as a configuration: the function's locals are the routine's and further ones after
abbrev pub config_of : Home → State → List ℕ → List Bool → List Reply → Config
config_of home s behind made replies = record {
  stack = [];
  locals = map value s.locals ++ behind;
  spaces = home.spaces;
  store = store_with home s.memory made;
  replies = replies;
}

-- the memory is there, and so are the functions by which handles are made and dropped
pub record IsHome (calls : HandleCalls) (numbers : Numbers) (home : Home) : Type 0 where
  pub memory : slice_get home.spaces.memories 0 ≡ Some home.memory
  pub within : home.memory < length home.store.memories
  pub hosted : AreHosted calls numbers home.spaces home.store.functions

abbrev pub Fits : Local → Type 0
Fits (Small v) = v < 2 ^ 32
Fits (Wide v) = Unit {0}

-- a state of numbers within their widths, with a table of handles
pub record IsInRange (s : State) : Type 0 where
  pub locals : (i : ℕ) → Fits (local_at s.locals i)
  pub memory : All (λ b. b < 256) s.memory
  pub table : IsTable s.table

-- where a run is after a routine: at its answer it is where the code goes on, with what the routine left; a trap is a trap, or
-- a handle that the handle map refuses
abbrev pub ArrivesAt : Numbers → (A : Type 0) → (Outcome → A) → CodeEnd → HandleMap ℕ → (List Reply → A) → (List Reply → A) → HandleMap ℕ → Type 0
ArrivesAt numbers A over Answer table behind X h = (h ≡ table) × ((rs : List Reply) → X rs ≡ behind rs)
ArrivesAt numbers A over Trap table behind X h = ((rs : List Reply) → X rs ≡ over Trapped) ⊎ Refused numbers A over X h

-- the code of a routine, before other code, does what the routine does from a state: in few steps, with the routine's end,
-- memory, handle map and effects
pub record DoesIn (numbers : Numbers) (home : Home) (code : List Instr) (behind : List Instr) (s : State) (further : List ℕ) (made : List Bool) (run : RoutineRun) : Type 0 where
  pub steps : ℕ
  pub effects : List Effect
  pub further' : List ℕ
  pub made' : List Bool
  pub some : 0 < steps
  pub few : steps ≤ 32 * (1 + run.count)
  pub has : run.state.effects ≡ s.effects ++ effects
  pub long : length further' ≡ length further
  pub wide : map local_width run.state.locals ≡ map local_width s.locals
  pub range : IsInRange run.state
  pub begins : (rs : List Reply) → exec go (tree (code ++ behind)) 0 (config_of home s further made rs) ≡ Over Spent
  pub goes : (n : ℕ) →
      Follows numbers Out Over (λ rs. exec go (tree (code ++ behind)) (steps + n) (config_of home s further made rs)) s.table effects
      (ArrivesAt numbers Out Over run.end run.state.table (λ rs. exec go (tree behind) n (config_of home run.state further' made' rs)))

-- the code of each well-formed routine does so in every home, from every state, before whatever code
abbrev pub RoutinesDo : Type 0
RoutinesDo =
    (ws : List Width) (calls : HandleCalls) (numbers : Numbers) (home : Home) (code : Code) (behind : List Instr) (s : State) (further : List ℕ) (made : List Bool) →
    IsWellFormed ws [] code → HasCalls calls code → IsHome calls numbers home → map local_width s.locals ≡ ws → nesting code ≤ length further → IsInRange s →
    DoesIn numbers home (routine_code ws calls code) behind s further made (routine_run code s)

-- ---- a whole function

-- its type: that many of the routine's locals are the parameters, and it has no result
abbrev pub core_type : Width → CoreType
core_type Narrow = types.I32
core_type Broad = types.I64

abbrev pub routine_type : ℕ → List Width → CoreFunc
routine_type params ws = record { params = map core_type (take params ws); results = [] }

abbrev pub core_value : Local → CoreValue
core_value (Small v) = values.I32 v
core_value (Wide v) = values.I64 v

-- the declaration of locals of these widths, and of that many counters after them
abbrev pub counters_of : ℕ → List LocalRun
counters_of zero = []
counters_of (suc n) = record { count = suc n; ty = types.I32 } ∷ []

abbrev pub local_of : Width → LocalRun
local_of w = record { count = 1; ty = core_type w }

abbrev pub declared_of : List Width → ℕ → List LocalRun
declared_of ws counters = map local_of ws ++ counters_of counters

-- its body
abbrev pub body_of : ℕ → List Width → HandleCalls → Code → Body
body_of params ws calls code = record { locals = declared_of (drop params ws) (nesting code); code = routine_code ws calls code ++ End ∷ [] }

-- the locals after the parameters are zeros
abbrev pub BeginsAsZeros : ℕ → List Local → Type 0
BeginsAsZeros params ls = map value (drop params ls) ≡ replicate (length (drop params ls)) 0

-- the function of a body is at this place of the store, and may be called
pub record IsPlaced (params : ℕ) (ws : List Width) (body : Body) (home : Home) (f : ℕ) : Type 0 where
  pub instance : ℕ
  pub function : slice_get home.store.functions f ≡ Some (Inside (routine_type params ws) instance (each_local body.locals) body.code)
  pub spaces : spaces_of home.store.instances instance ≡ home.spaces
  pub enters : can_enter home.store ≡ true

-- a call of the function at a place does what the routine does from a state, whose first locals are the arguments
pub record DoesCalled (numbers : Numbers) (home : Home) (f params : ℕ) (s : State) (made : List Bool) (run : RoutineRun) : Type 0 where
  pub steps : ℕ
  pub effects : List Effect
  pub made' : List Bool
  pub some : 0 < steps
  pub few : steps ≤ 32 * (1 + run.count)
  pub has : run.state.effects ≡ s.effects ++ effects
  pub begins : (rs : List Reply) → eval (store_with home s.memory made) f (map core_value (take params s.locals)) rs 0 ≡ Spent
  pub goes : (n : ℕ) →
      Follows numbers Outcome (λ o. o) (λ rs. eval (store_with home s.memory made) f (map core_value (take params s.locals)) rs (steps + n)) s.table effects
      (ArrivesAt numbers Outcome (λ o. o) run.end run.state.table (λ rs. Done [] (store_with home run.state.memory made') n))

-- a body does so at each place, from every state
abbrev pub Compiles : ℕ → List Width → HandleCalls → Code → Body → Type 0
Compiles params ws calls code body =
    (numbers : Numbers) (home : Home) (f : ℕ) (s : State) (made : List Bool) →
    HasCalls calls code → IsHome calls numbers home → IsPlaced params ws body home f → map local_width s.locals ≡ ws → BeginsAsZeros params s.locals → IsInRange s →
    DoesCalled numbers home f params s made (routine_run code s)

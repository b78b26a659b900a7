-- The code of a stub: a routine before, the host's function where the first routine asks for it, and then a routine after it.
use Rattle.std.specs.Prelude.{◌≡◌, ◌≢◌, ℕ, zero, suc, ◌+◌, ◌<◌, List, [], ◌∷◌, ◌++◌, Bool, map, length, take, drop, if◌then◌else◌}
use Rattle.wasm_ast.specs.declared.module.CoreFunc.{CoreFunc}
use Rattle.wasm_ast.specs.declared.instr.BlockType.TheVariants.{Empty}
use Rattle.wasm_ast.specs.declared.instr.Instr.{Instr}
use Rattle.wasm_ast.specs.declared.instr.Instr.TheVariants.{If, End, Call}
use Rattle.core_store.specs.Tree.{tree}
use Rattle.core_store.specs.State.{memory_at}
use Rattle.core_store.specs.Words.{words, values_in}
use Rattle.core_store.specs.Config.{Reply, Over, Asks, then_do}
use Rattle.core_store.specs.Eval.{block_end, exec, go}
use Rattle.handle_space.specs.HandleMap.{HandleMap}
use Rattle.adapter_code.specs.declared.statement.Width.{Width}
use Rattle.adapter_code.specs.declared.statement.Width.TheVariants.{Narrow}
use Rattle.adapter_code.specs.Code.{Code}
use Rattle.adapter_code.specs.Run.{State, value, local_width, number_at, set_local}
use Rattle.adapter_code.specs.WellFormed.{HasWidth}
use Rattle.adapter_compile.specs.declared.calls.HandleCalls.{HandleCalls}
use Rattle.adapter_compile.specs.Instructions.{get, set, routine_code}
use Rattle.adapter_compile.specs.Handles.{IsOutside}
use Rattle.adapter_compile.specs.Does.{Home, store_with, config_of, IsInRange}
use Rattle.adapter_stubs.specs.declared.host_call.HostCall.{HostCall}

-- that many locals from one on, in order
abbrev pub gets : ℕ → ℕ → List Instr
gets from zero = []
gets from (suc n) = get from ∷ gets (suc from) n

-- the local of the flat result stands after the flag and what goes to the host
abbrev pub result_at : ℕ → HostCall → ℕ
result_at flag c = flag + 1 + c.params

abbrev pub keeps_result : ℕ → HostCall → List Instr
keeps_result flag c = if c.gives then set (result_at flag c) ∷ [] else []

-- where the flag is not 0 the host is asked, and then the routine after it runs
abbrev pub host_code : List Width → HandleCalls → ℕ → HostCall → Code → List Instr
host_code ws calls flag c after =
    get flag ∷ If Empty ∷ (gets (flag + 1) c.params ++ Call c.function ∷ (keeps_result flag c ++ (routine_code ws calls after ++ End ∷ [])))

-- the numbers that go to the host
abbrev pub given : ℕ → HostCall → State → List ℕ
given flag c s = map value (take c.params (drop (flag + 1) s.locals))

-- where the routine after the host's answer stands, and from which state it runs: what the answer left
abbrev pub home_behind : Home → Reply → Home
home_behind home r = record { spaces = home.spaces; store = r.store; memory = home.memory }

abbrev pub result_in : List ℕ → ℕ
result_in [] = 0
result_in (w ∷ ws) = w

abbrev pub state_behind : ℕ → HostCall → Home → State → Reply → HandleMap ℕ → State
state_behind flag c home s r table =
    record (if c.gives then set_local s (result_at flag c) (result_in (words r.results)) else s) { memory = (memory_at r.store home.memory).bytes; table = table }

-- the answer has as many results as are due, and the memory is still there
pub record Answers (c : HostCall) (home : Home) (r : Reply) : Type 0 where
  pub count : length r.results ≡ (if c.gives then 1 else 0)
  pub within : home.memory < length r.store.memories

-- from a state in which the flag is 0, in two steps, the code goes on after
abbrev pub Skips : List Width → HandleCalls → ℕ → HostCall → Code → List Instr → Home → State → List ℕ → List Bool → Type 0
Skips ws calls flag c after behind home s further made =
    number_at s flag ≡ 0 → (n : ℕ) (rs : List Reply) →
    exec go (tree (host_code ws calls flag c after ++ behind)) (2 + n) (config_of home s further made rs) ≡ exec go (tree behind) n (config_of home s further made rs)

-- else the host is asked with the numbers in the locals after the flag
abbrev pub AsksHost : List Width → HandleCalls → ℕ → HostCall → Code → List Instr → ℕ → CoreFunc → Home → State → List ℕ → List Bool → Type 0
AsksHost ws calls flag c after behind number ty home s further made =
    number_at s flag ≢ 0 → (n : ℕ) →
    exec go (tree (host_code ws calls flag c after ++ behind)) (3 + c.params + n) (config_of home s further made [])
    ≡ Over (Asks number (values_in (length home.store.functions) ty.params (given flag c s)) (store_with home s.memory made) n)

-- and once it has answered, the routine after it runs, and then the code after
abbrev pub GoesOn : List Width → HandleCalls → ℕ → HostCall → Code → List Instr → Home → State → List ℕ → List Bool → Type 0
GoesOn ws calls flag c after behind home s further made =
    number_at s flag ≢ 0 → (r : Reply) (rs : List Reply) (table : HandleMap ℕ) → Answers c home r → (n : ℕ) →
    exec go (tree (host_code ws calls flag c after ++ behind)) (3 + c.params + (if c.gives then 1 else 0) + n) (config_of home s further made (r ∷ rs))
    ≡ then_do (block_end 0 0 (exec go (tree (routine_code ws calls after ++ End ∷ [])) n (config_of (home_behind home r) (state_behind flag c home s r table) further (memory_at r.store home.memory).made rs))) (exec go (tree behind))

-- the locals that are named are there, and the flag is one of 32 bits
pub record HasLocals (ws : List Width) (flag : ℕ) (c : HostCall) : Type 0 where
  pub narrow : HasWidth ws flag Narrow
  pub within : result_at flag c < length ws

pub record AsksSo (ws : List Width) (calls : HandleCalls) (flag : ℕ) (c : HostCall) (after : Code) (behind : List Instr) (number : ℕ) (ty : CoreFunc) (home : Home) (s : State) (further : List ℕ) (made : List Bool) : Type 0 where
  pub skips : Skips ws calls flag c after behind home s further made
  pub asks : AsksHost ws calls flag c after behind number ty home s further made
  pub goes : GoesOn ws calls flag c after behind home s further made

abbrev pub StubsAsk : Type 0
StubsAsk =
    (ws : List Width) (calls : HandleCalls) (flag : ℕ) (c : HostCall) (after : Code) (behind : List Instr) (number : ℕ) (ty : CoreFunc) (home : Home) (s : State) (further : List ℕ) (made : List Bool) →
    HasLocals ws flag c → IsOutside home.spaces home.store.functions c.function ty number → length ty.params ≡ c.params → map local_width s.locals ≡ ws → IsInRange s →
    AsksSo ws calls flag c after behind number ty home s further made

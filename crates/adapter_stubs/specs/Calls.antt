-- What a call of a stub's function does: it runs the routine before; where that leaves the flag 0 it ends with the flat result;
-- else it asks the host's function, if there is one, and once that has answered it runs the routine after it.
use Rattle.std.specs.Prelude.{◌≡◌, ℕ, zero, suc, ◌+◌, ◌*◌, ◌<◌, ◌≤◌, ◌^◌, List, [], ◌∷◌, ◌++◌, Bool, Option, Some, None, map, length, take, drop, slice_get}
use Rattle.std.specs.List.{All}
use Rattle.virt_base.specs.declared.core_type.CoreType.{CoreType}
use Rattle.virt_base.specs.declared.core_type.CoreType.TheVariants.{I32, I64, Funcref, Externref}
use Rattle.core_store.specs.declared.value.CoreValue.{CoreValue}
use Rattle.core_store.specs.declared.value.StoreFunc.{StoreFunc}
use Rattle.core_store.specs.State.{memory_at}
use Rattle.core_store.specs.Words.{words}
use Rattle.core_store.specs.Config.{Reply, Outcome, Done, Asks, Spent}
use Rattle.core_store.specs.Eval.{entered_store, left_store, eval}
use Rattle.handle_space.specs.HandleMap.{HandleMap}
use Rattle.adapter_code.specs.declared.state.Local.{Local}
use Rattle.adapter_code.specs.declared.state.Effect.{Effect}
use Rattle.adapter_code.specs.declared.state.CodeEnd.{CodeEnd}
use Rattle.adapter_code.specs.declared.state.CodeEnd.TheVariants.{Answer, Trap}
use Rattle.adapter_code.specs.Code.{code_of}
use Rattle.adapter_code.specs.Run.{State, RoutineRun, local_width, local_at, number_at, routine_run}
use Rattle.adapter_compile.specs.declared.calls.HandleCalls.{HandleCalls}
use Rattle.adapter_compile.specs.Handles.{Numbers, IsOutside, IsTable, HasCalls, Follows}
use Rattle.adapter_compile.specs.Does.{Home, IsHome, IsInRange, store_with, core_value, BeginsAsZeros, ArrivesAt}
use Rattle.adapter_transfer.specs.Transfer.{Stands}
use Rattle.adapter_stubs.specs.declared.stub.HostFunc.{HostFunc}
use Rattle.adapter_stubs.specs.declared.stub.Stub.{Stub}
use Rattle.adapter_stubs.specs.Stub.{home_behind, state_behind}
use Rattle.adapter_stubs.specs.Widths.{stub_widths, flag_of, result_of}
use Rattle.adapter_stubs.specs.Bodies.{host_call, stub_body, IsStub}

-- ---- the numbers that pass

-- the arguments are the first locals
abbrev pub arguments_in : Stub → State → List CoreValue
arguments_in s t = map core_value (take (length s.flat.params) t.locals)

-- what goes to the host stands after the flag
abbrev pub given_in : Stub → HostFunc → State → List CoreValue
given_in s h t = map core_value (take (length h.flat.params) (drop (flag_of s + 1) t.locals))

-- the flat result, where there is one
abbrev pub results_in : List CoreType → Local → List CoreValue
results_in [] l = []
results_in (t ∷ ts) l = core_value l ∷ []

abbrev pub flat_in : Stub → State → List CoreValue
flat_in s t = results_in s.flat.results (local_at t.locals (result_of s))

-- ---- whom it asks

-- nobody where the routine before traps or leaves the flag 0
abbrev pub whom : CodeEnd → ℕ → Option HostFunc → Option HostFunc
whom Trap flag host = None
whom Answer zero host = None
whom Answer (suc flag) host = host

abbrev pub asked_behind : Stub → RoutineRun → Option HostFunc
asked_behind s run = whom run.end (number_at run.state (flag_of s)) s.host

-- the host's function of an index is the embedder's of this number
abbrev pub HasHost : (ℕ → ℕ) → Home → ℕ → Option HostFunc → Type 0
HasHost asks home at None = Unit {0}
HasHost asks home at (Some h) = IsOutside home.spaces home.store.functions at h.flat (asks h.function)

-- ---- its answer

-- a number of each type
abbrev pub FitsType : CoreType → ℕ → Type 0
FitsType I32 w = w < 2 ^ 32
FitsType I64 w = Unit {0}
FitsType Funcref w = Unit {0}
FitsType Externref w = Unit {0}

abbrev pub AreFlat : List CoreType → List ℕ → Type 0
AreFlat [] [] = Unit {0}
AreFlat [] (w ∷ ws) = ⊥
AreFlat (t ∷ ts) [] = ⊥
AreFlat (t ∷ ts) (w ∷ ws) = FitsType t w × AreFlat ts ws

-- results of the function's type, in a store in which the functions and the memory still stand, with whatever handles
pub record IsAnswer (h : HostFunc) (home : Home) (r : Reply) (table : HandleMap ℕ) : Type 0 where
  pub flat : AreFlat h.flat.results (words r.results)
  pub functions : (i : ℕ) (f : StoreFunc) → slice_get home.store.functions i ≡ Some f → slice_get r.store.functions i ≡ Some f
  pub within : home.memory < length r.store.memories
  pub bytes : All (λ b. b < 256) (memory_at r.store home.memory).bytes
  pub handles : IsTable table

-- the run of the routine after it, in the memory and with the handles that the answer left, and with its result in its local
abbrev pub after_run : Stub → HostFunc → Home → State → Reply → HandleMap ℕ → RoutineRun
after_run s h home t r table = routine_run (code_of s.after.items) (state_behind (flag_of s) (host_call 0 h) home t r table)

-- ---- a call

-- where it stands while it is in progress
abbrev pub entered_home : Home → Home
entered_home home = record { spaces = home.spaces; store = entered_store home.store; memory = home.memory }

-- it ends as the routine before, with the flat result of what that leaves
pub record StubEnds (numbers : Numbers) (home : Home) (f : ℕ) (s : Stub) (t : State) (made : List Bool) (run : RoutineRun) : Type 0 where
  pub steps : ℕ
  pub effects : List Effect
  pub made' : List Bool
  pub some : 0 < steps
  pub few : steps ≤ 32 * (1 + run.count)
  pub has : run.state.effects ≡ t.effects ++ effects
  pub begins : (rs : List Reply) → eval (store_with home t.memory made) f (arguments_in s t) rs 0 ≡ Spent
  pub goes : (n : ℕ) →
      Follows numbers Outcome (λ o. o) (λ rs. eval (store_with home t.memory made) f (arguments_in s t) rs (steps + n)) t.table effects
      (ArrivesAt numbers Outcome (λ o. o) run.end run.state.table (λ rs. Done (flat_in s run.state) (store_with home run.state.memory made') n))

-- the rest of a call after an answer, where that many steps were taken and statements run before it
pub record StubResumes (h : HostFunc) (before counted : ℕ) (t : State) (run : RoutineRun) : Type 0 where
  pub steps : ℕ
  pub effects : List Effect
  pub made : List Bool
  pub few : length h.flat.params ≤ 17 → before + steps ≤ 32 * (1 + (counted + run.count))
  pub has : run.state.effects ≡ t.effects ++ effects

-- it asks the host after the effects of the routine before, and ends as the routine after it
pub record StubAsks (numbers : Numbers) (asks : ℕ → ℕ) (home : Home) (f : ℕ) (s : Stub) (t : State) (made : List Bool) (run : RoutineRun) (h : HostFunc) : Type 0 where
  pub steps : ℕ
  pub effects : List Effect
  pub made' : List Bool
  pub some : 0 < steps
  pub few : length h.flat.params ≤ 17 → steps ≤ 32 * (1 + run.count)
  pub has : run.state.effects ≡ t.effects ++ effects
  pub begins : (rs : List Reply) → eval (store_with home t.memory made) f (arguments_in s t) rs 0 ≡ Spent
  pub rest : (r : Reply) (table : HandleMap ℕ) → IsAnswer h home r table → StubResumes h steps run.count run.state (after_run s h home run.state r table)
  pub goes : (n : ℕ) →
      Follows numbers Outcome (λ o. o) (λ rs. eval (store_with home t.memory made) f (arguments_in s t) rs (steps + n)) t.table effects
      (λ X table.
      (table ≡ run.state.table)
      × (X [] ≡ Asks (asks h.function) (given_in s h run.state) (store_with (entered_home home) run.state.memory made') n)
      × ((r : Reply) (answered : HandleMap ℕ) (is : IsAnswer h home r answered) (m : ℕ) → n ≡ (rest r answered is).steps + m →
      Follows numbers Outcome (λ o. o) (λ rs. X (r ∷ rs)) answered (rest r answered is).effects
      (let last = after_run s h home run.state r answered in
      ArrivesAt numbers Outcome (λ o. o) last.end last.state.table (λ rs. Done (flat_in s last.state) (left_store (store_with (home_behind home r) last.state.memory (rest r answered is).made)) m))))

abbrev pub StubDue : Numbers → (ℕ → ℕ) → Home → ℕ → Stub → State → List Bool → RoutineRun → Option HostFunc → Type 0
StubDue numbers asks home f s t made run None = StubEnds numbers home f s t made run
StubDue numbers asks home f s t made run (Some h) = StubAsks numbers asks home f s t made run h

abbrev pub StubDoes : Numbers → (ℕ → ℕ) → Home → ℕ → Stub → State → List Bool → Type 0
StubDoes numbers asks home f s t made =
    let run = routine_run (code_of s.before.items) t in StubDue numbers asks home f s t made run (asked_behind s run)

-- in a home in which a stub's function stands, and so do the functions that it calls, a call does so from every state
abbrev pub StubsRun : Type 0
StubsRun =
    (calls : HandleCalls) (numbers : Numbers) (asks : ℕ → ℕ) (home : Home) (f at : ℕ) (s : Stub) (t : State) (made : List Bool) →
    IsStub s → HasCalls calls (code_of s.before.items) → HasCalls calls (code_of s.after.items) → IsHome calls numbers home → Stands s.flat (stub_body calls at s) home.spaces home.store f → HasHost asks home at s.host →
    map local_width t.locals ≡ stub_widths s → BeginsAsZeros (length s.flat.params) t.locals → IsInRange t →
    StubDoes numbers asks home f s t made

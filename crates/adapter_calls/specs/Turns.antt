-- Questions of core code for handles, asked one after another, with any number of steps to spare. (This project's own.)
use Rattle.std.specs.Prelude.{◌≡◌, ℕ, ◌+◌, ◌≤◌, List, [], ◌∷◌, None, Bool, map, take}
use Rattle.core_store.specs.Config.{Outcome, Done}
use Rattle.core_store.specs.Eval.{eval}
use Rattle.core_store.specs.State.{State as StoreState}
use Rattle.handle_space.specs.HandleMap.{HandleMap}
use Rattle.adapter_code.specs.declared.state.Effect.{Effect}
use Rattle.adapter_code.specs.Run.{State, RoutineRun}
use Rattle.adapter_compile.specs.Does.{Home, store_with, core_value, ArrivesAt, DoesCalled}
use Rattle.adapter_compile.specs.Handles.{Numbers, question, answer, Grants}
use Rattle.adapter_stubs.specs.declared.stub.Stub.{Stub}
use Rattle.adapter_stubs.specs.Calls.{arguments_in, flat_in, StubEnds}
use Rattle.comp_frames.specs.Running.{Rest}

-- X asks for these effects one after another, each of which the handle map has, and then P holds. Each question is asked with any number
-- of steps above these, and leaves as many more; in its store calls may nest without a limit.
abbrev pub AsksInTurn : Numbers → (start : ℕ) → Rest → HandleMap ℕ → List Effect → (Rest → HandleMap ℕ → Type 0) → Type 0
AsksInTurn numbers start X h [] P = P X h
AsksInTurn numbers start X h (e ∷ es) P =
    (t : StoreState) × (left : ℕ) × (h' : HandleMap ℕ) × ((n : ℕ) → X [] (start + n) ≡ question numbers e t (left + n)) × (left ≤ start) × (t.deepest ≡ None) × Grants h e h'
    × AsksInTurn numbers start (λ replies. X (answer e t ∷ replies)) h' es P

-- ---- calls

-- A call of a routine's function, in a store in which calls may nest without a limit, asks for its effects in turn, and then arrives where
-- the routine ends.
abbrev pub CalledAsksInTurn : Type 0
CalledAsksInTurn =
    (numbers : Numbers) (home : Home) (f params : ℕ) (s : State) (made : List Bool) (run : RoutineRun) → home.store.deepest ≡ None → (does : DoesCalled numbers home f params s made run) →
    AsksInTurn numbers does.steps (λ replies n. eval (store_with home s.memory made) f (map core_value (take params s.locals)) replies n) s.table does.effects
    (λ X h. (n : ℕ) → ArrivesAt numbers Outcome (λ o. o) run.end run.state.table (λ replies. Done [] (store_with home run.state.memory does.made') n) (λ replies. X replies (does.steps + n)) h)

-- So does a call of a stub's function that asks nobody.
abbrev pub StubAsksInTurn : Type 0
StubAsksInTurn =
    (numbers : Numbers) (home : Home) (f : ℕ) (stub : Stub) (s : State) (made : List Bool) (run : RoutineRun) → home.store.deepest ≡ None → (ends : StubEnds numbers home f stub s made run) →
    AsksInTurn numbers ends.steps (λ replies n. eval (store_with home s.memory made) f (arguments_in stub s) replies n) s.table ends.effects
    (λ X h. (n : ℕ) → ArrivesAt numbers Outcome (λ o. o) run.end run.state.table (λ replies. Done (flat_in stub run.state) (store_with home run.state.memory ends.made') n) (λ replies. X replies (ends.steps + n)) h)

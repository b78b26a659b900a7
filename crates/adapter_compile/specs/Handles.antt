-- Questions for handles, and the handle map that answers them.
use Rattle.std.specs.Prelude.{◌≡◌, ℕ, List, [], ◌∷◌, Option, Some, None, IsSome, slice_get}
use Rattle.virt_base.specs.declared.core_type.CoreType.TheVariants as types
use Rattle.wasm_ast.specs.declared.module.CoreFunc.{CoreFunc}
use Rattle.handle_space.specs.declared.cell.Cell.{Cell}
use Rattle.handle_space.specs.HandleMap.{HandleMap, own_entry, answered, add, take_own}
use Rattle.handle_space.specs.Shown.{IsSound, shown}
use Rattle.core_store.specs.declared.value.CoreValue.TheVariants.{I32}
use Rattle.core_store.specs.declared.value.CoreSpaces.{CoreSpaces}
use Rattle.core_store.specs.declared.value.StoreFunc.{StoreFunc}
use Rattle.core_store.specs.declared.value.StoreFunc.TheVariants.{Outside}
use Rattle.core_store.specs.State.{State as StoreState}
use Rattle.core_store.specs.Config.{Reply, Outcome, Asks}
use Rattle.adapter_code.specs.declared.statement.Statement.{Statement, NewHandle, DropHandle}
use Rattle.adapter_code.specs.declared.state.Effect.{Effect}
use Rattle.adapter_code.specs.declared.state.Effect.TheVariants.{Made, Dropped}
use Rattle.adapter_code.specs.Code.{Code, Stop, Then, Choose, Turns}
use Rattle.adapter_code.specs.Run.{own_resource}
use Rattle.adapter_compile.specs.declared.calls.HandleCalls.{HandleCalls}
use Rattle.adapter_compile.specs.Instructions.{call_at}

-- each kind of which a routine makes or drops handles has its function
abbrev pub HasCall : HandleCalls → Statement → Type 0
HasCall calls (NewHandle kind rep to) = IsSome (call_at calls.makes kind)
HasCall calls (DropHandle kind index) = IsSome (call_at calls.drops kind)
HasCall calls other = Unit {0}

abbrev pub HasCalls : HandleCalls → Code → Type 0
HasCalls calls Stop = Unit {0}
HasCalls calls (Then statement rest) = HasCall calls statement × HasCalls calls rest
HasCalls calls (Choose test first other rest) = HasCalls calls first × HasCalls calls other × HasCalls calls rest
HasCalls calls (Turns name count body rest) = HasCalls calls body × HasCalls calls rest

-- the embedder's numbers of the functions by which handles of a kind are made and dropped
pub record Numbers : Type 0 where
  pub makes : ℕ → ℕ
  pub drops : ℕ → ℕ

abbrev pub makes_type : CoreFunc
makes_type = record { params = types.I32 ∷ []; results = types.I32 ∷ [] }

abbrev pub drops_type : CoreFunc
drops_type = record { params = types.I32 ∷ []; results = [] }

-- the function of an index is the embedder's of this type and number
abbrev pub IsOutside : CoreSpaces → List StoreFunc → ℕ → CoreFunc → ℕ → Type 0
IsOutside spaces functions f ty number = (place : ℕ) × (slice_get spaces.functions f ≡ Some place) × (slice_get functions place ≡ Some (Outside ty number))

-- the functions by which handles are made and dropped are the embedder's
pub record AreHosted (calls : HandleCalls) (numbers : Numbers) (spaces : CoreSpaces) (functions : List StoreFunc) : Type 0 where
  pub makes : (kind f : ℕ) → call_at calls.makes kind ≡ Some f → IsOutside spaces functions f makes_type (numbers.makes kind)
  pub drops : (kind f : ℕ) → call_at calls.drops kind ≡ Some f → IsOutside spaces functions f drops_type (numbers.drops kind)

-- the question of an effect, asked in a store with that many steps left
abbrev pub question : Numbers → Effect → StoreState → ℕ → Outcome
question numbers (Made kind rep index) t left = Asks (numbers.makes kind) (I32 rep ∷ []) t left
question numbers (Dropped kind rep index) t left = Asks (numbers.drops kind) (I32 index ∷ []) t left

-- its answer, which leaves the store as it is
abbrev pub answer : Effect → StoreState → Reply
answer (Made kind rep index) t = record { results = I32 index ∷ []; store = t }
answer (Dropped kind rep index) t = record { results = []; store = t }

-- the handle map has the effect, and is then another
abbrev pub Grants : HandleMap ℕ → Effect → HandleMap ℕ → Type 0
Grants h (Made kind rep index) h' = add h (own_entry (own_resource kind) rep) ≡ Some (answered index h')
Grants h (Dropped kind rep index) h' = take_own h index kind ≡ Some (answered rep h')

-- the handle map refuses what is asked for
pub data Refused (numbers : Numbers) (A : Type 0) (over : Outcome → A) (X : List Reply → A) (h : HandleMap ℕ) : Type 0 where
  MakesNone : (kind rep : ℕ) (t : StoreState) (left : ℕ) (asks : X [] ≡ over (Asks (numbers.makes kind) (I32 rep ∷ []) t left)) (full : add h (own_entry (own_resource kind) rep) ≡ None) → Refused numbers A over X h
  DropsNone : (kind index : ℕ) (t : StoreState) (left : ℕ) (asks : X [] ≡ over (Asks (numbers.drops kind) (I32 index ∷ []) t left)) (none : take_own h index kind ≡ None) → Refused numbers A over X h

-- X, by the replies to come, asks for these effects one after another, each of which the handle map has, and then P holds
abbrev pub Follows : Numbers → (A : Type 0) → (Outcome → A) → (List Reply → A) → HandleMap ℕ → List Effect → ((List Reply → A) → HandleMap ℕ → Type 0) → Type 0
Follows numbers A over X h [] P = P X h
Follows numbers A over X h (e ∷ es) P =
    (t : StoreState) × (left : ℕ) × (h' : HandleMap ℕ) × (X [] ≡ over (question numbers e t left)) × Grants h e h'
    × Follows numbers A over (λ rs. X (answer e t ∷ rs)) h' es P

-- a handle map that a table of handles shows
abbrev pub IsTable : HandleMap ℕ → Type 0
IsTable h = (cells : List Cell) × (freed : Option ℕ) × (free : ℕ) × IsSound cells freed free × (h ≡ shown cells freed free)

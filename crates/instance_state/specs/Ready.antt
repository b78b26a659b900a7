-- Core code between two of its pauses.
use Rattle.std.specs.Prelude.{◌≡◌, ◌≤◌, ℕ, List, [], ◌∷◌, Bool, true, false, length}
use Rattle.core_store.specs.State.{State}
use Rattle.core_store.specs.declared.value.CoreValue.{CoreValue}
use Rattle.core_store.specs.Config.{Reply}
use Rattle.core_store.specs.Scene.{Grew}
use Rattle.core_interp.specs.declared.machine.Machine.{Machine}
use Rattle.core_interp.specs.Session.{Follows, IsAwaited, awaited, resumed}
use Rattle.instance_state.specs.declared.calls.CoreCall.{CoreCall}

-- a store, the calls in progress in it, the innermost last, and whether that one goes on or awaits results
pub record Runs : Type 0 where
  pub store : State
  pub calls : List CoreCall
  pub going : Bool

-- the machine is at some point of a call of this store
pub record IsAt (m : Machine) (s : State) : Type 0 where
  pub first : State
  pub function : ℕ
  pub args : List CoreValue
  pub used : List Reply
  pub taken : ℕ
  pub follows : Follows first function args used taken m s

-- The call awaits results: with as many as it awaits it goes on, once its nesting is there again, in a store that only grew.
abbrev pub Awaits : CoreCall → State → Type 0
Awaits c s = (rs : List CoreValue) (t : State) → length rs ≡ awaited c.machine → Grew s t → t.nesting ≡ c.nesting → IsAwaited c.machine (length rs) × IsAt (resumed c.machine rs) t

abbrev pub IsReady : Bool → CoreCall → State → Type 0
IsReady true c s = IsAt c.machine s
IsReady false c s = Awaits c s

abbrev pub AreReady : List CoreCall → Bool → State → Type 0
AreReady [] going s = going ≡ false
AreReady (c ∷ []) going s = (c.nesting ≤ 65536) × IsReady going c s
AreReady (c ∷ d ∷ cs) going s = (c.nesting ≤ 65536) × Awaits c s × AreReady (d ∷ cs) going s

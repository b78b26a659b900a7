-- What stays of a store.
use Rattle.std.specs.Prelude.{◌≡◌, ◌≤◌, ℕ, Some, length, slice_get}
use Rattle.wasm_ast.specs.declared.module.CoreFunc.{CoreFunc}
use Rattle.core_store.specs.State.{State}
use Rattle.core_store.specs.declared.value.StoreFunc.{StoreFunc}
use Rattle.core_store.specs.declared.value.StoreFunc.TheVariants.{Outside}
use Rattle.core_store.specs.Scene.{CameBack}

-- what awaits results, since the store was some other and that many calls were in progress, still may get them
abbrev pub AwaitsStill : State → State → Type 0
AwaitsStill s t = (since : State) (calls : ℕ) → CameBack since (record s { nesting = calls }) → CameBack since (record t { nesting = calls })

-- no function or memory was added or taken away
pub record Stays (s t : State) : Type 0 where
  pub deepest : t.deepest ≡ s.deepest
  pub functions : t.functions ≡ s.functions
  pub memories : length t.memories ≡ length s.memories
  pub awaits : AwaitsStill s t

-- no function or memory was taken away
pub record OnlyGrows (s t : State) : Type 0 where
  pub deepest : t.deepest ≡ s.deepest
  pub functions : (at : ℕ) (f : StoreFunc) → slice_get s.functions at ≡ Some f → slice_get t.functions at ≡ Some f
  pub memories : length s.memories ≤ length t.memories
  pub awaits : AwaitsStill s t

-- a function of the embedder, of this number and type, is there
abbrev pub HasHosts : State → ℕ → CoreFunc → Type 0
HasHosts s number ty = (at : ℕ) × (slice_get s.functions at ≡ Some (Outside ty number))

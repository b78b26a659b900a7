-- A branch, and a return.
use Rattle.std.specs.Prelude.{ℕ, ◌≡◌, ◌+◌, ◌-◌, ◌≤◌, List, [], ◌∷◌, Some, length, slice_get}
use Rattle.wasm_ast.specs.declared.instr.Instr.{Instr}
use Rattle.core_store.specs.Tree.{Part, first}
use Rattle.core_store.specs.declared.value.CoreSpaces.{CoreSpaces}
use Rattle.core_store.specs.State.{State}
use Rattle.core_store.specs.Config.{Reply, Out, Break, Back, then_do}
use Rattle.core_store.specs.Eval.{Enter, exec, go}
use Rattle.core_store.specs.declared.value.StoreFunc.{StoreFunc}
use Rattle.core_slots.specs.Stacked.{Stacked}
use Rattle.core_interp.specs.declared.control.Control.{Control}
use Rattle.core_interp.specs.declared.control.Control.TheVariants.{Label, Called, Entry}
use Rattle.core_store.specs.Scene.{Scene}
use Rattle.core_interp.specs.Rest.{after, conts, config_of}
use Rattle.core_store.specs.Fine.{Frame, Reaches, Fine, params_of, results_of}
use Rattle.core_interp.specs.Valid.{arities, Stands}

-- a branch to label k can be made
pub record IsJumping (w : Scene) (fr : Frame) (code : List Instr) (ps : List Part) (a : Stacked) (cs : List Control) (k : ℕ) : Type 0 where
  pub floor : ℕ
  pub above : ℕ
  pub ends : ℕ
  pub there : length a.operands ≡ floor + above
  pub reaches : Reaches (arities cs) k above
  pub below : Stands w fr code cs ps a.callers floor ends

-- the rest of a run, from a branch to label k
abbrev pub jumps : Scene → CoreSpaces → List Instr → List Part → Stacked → List Control → State → List Reply → ℕ → ℕ → Out
jumps w sp code ps a cs s rs k n = after (conts w code cs ps a.callers) (Break k n (config_of a sp s rs))

-- a return can be made
pub record IsReturning (w : Scene) (fr : Frame) (code : List Instr) (ps : List Part) (a : Stacked) (cs : List Control) : Type 0 where
  pub floor : ℕ
  pub ends : ℕ
  pub there : fr.results ≤ length a.operands
  pub below : Stands w fr code cs ps a.callers floor ends

-- the rest of a run, from a return
abbrev pub returns_from : Scene → CoreSpaces → List Instr → List Part → Stacked → List Control → State → List Reply → ℕ → Out
returns_from w sp code ps a cs s rs n = after (conts w code cs ps a.callers) (Back n (config_of a sp s rs))

-- the function at place f can be called: its arguments are there
pub record IsEntering (w : Scene) (fr : Frame) (code : List Instr) (qs : List Part) (a : Stacked) (cs : List Control) (f : ℕ) : Type 0 where
  pub callee : StoreFunc
  pub callee_is : slice_get w.functions f ≡ Some callee
  pub floor : ℕ
  pub above : ℕ
  pub ends : ℕ
  pub there : length a.operands ≡ floor + above
  pub fits : params_of callee ≤ above
  pub here : Fine w fr (arities cs) (above - params_of callee + results_of callee) ends (first qs).here
  pub below : Stands w fr code cs qs a.callers floor ends

-- the rest of a run, from a call of the function at place f
abbrev pub enters : Scene → CoreSpaces → List Instr → List Part → Stacked → List Control → State → List Reply → ℕ → ℕ → Out
enters w sp code qs a cs s rs f n = after (conts w code cs qs a.callers) (then_do (go (Enter f) n (config_of a sp s rs)) (exec go (first qs).here))

-- what is in progress from the innermost call on
abbrev pub beyond : List Control → List Control
beyond [] = []
beyond (Label to a h ∷ cs) = beyond cs
beyond (Called f to r ∷ cs) = Called f to r ∷ cs
beyond (Entry r ∷ cs) = Entry r ∷ cs

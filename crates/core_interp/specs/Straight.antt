-- Straight runs: instructions that go on to the next, one after another.
use Rattle.std.specs.Prelude.{ℕ, ◌≡◌, ◌-◌, ◌≤◌, List, Bool, not, ◌||◌, Option, Some, None}
use Rattle.virt_base.specs.declared.core_type.CoreType.{CoreType}
use Rattle.wasm_ast.specs.declared.numeric.Numeric.{Numeric}
use Rattle.wasm_ast.specs.Numeric.{is_from_to}
use Rattle.core_store.specs.State.{State}
use Rattle.core_store.specs.Config.{Reply}
use Rattle.core_store.specs.Scene.{scene_of}
use Rattle.core_interp.specs.declared.running.Running.{Running}
use Rattle.core_interp.specs.Run.{goes, ahead, Ready}

-- a run came from one place of a function to another; of the budget, a was left and b is
pub record Came (m : Running) (s : State) (a : ℕ) (k : Running) (t : State) (b : ℕ) : Type 0 where
  pub budget : b ≤ a
  pub leads : (rs : List Reply) (n : ℕ) → ahead (goes m s) (a - b) rs n ≡ goes k t rs n
  pub ready : Ready k t
  pub function : k.function ≡ m.function
  pub controls : k.controls ≡ m.controls
  pub scene : scene_of s ≡ scene_of t

-- a numeric instruction that is no division always has a result
abbrev pub is_total : ℕ → Bool
is_total op = not (is_from_to 0x6D 0x70 op || is_from_to 0x7F 0x82 op)

-- a numeric instruction takes that many operands of a type
abbrev pub Takes : ℕ → CoreType → Option Numeric → Type 0
Takes count ty None = ⊥
Takes count ty (Some n) = (n.params ≡ count) × (n.from ≡ ty)

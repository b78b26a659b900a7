-- What the functions for the instructions do that go on to the next.
use Rattle.std.specs.Prelude.{ℕ, ◌≡◌, ◌+◌, List, Option, Some, None, Bool, true, false, length, ◌∷◌, Result, Ok, Err, ℤ}
use Rattle.std.specs.Int.{w32, cast_unsigned}
use Rattle.wasm_ast.specs.declared.instr.Op.{Op}
use Rattle.core_store.specs.declared.value.CoreSpaces.{CoreSpaces}
use Rattle.core_store.specs.State.{State}
use Rattle.core_store.specs.Config.{Reply}
use Rattle.core_store.specs.Plain.{plain}
use Rattle.core_slots.specs.Stacked.{Stacked, with_operands}
use Rattle.virt_base.specs.declared.fault.Trap.{Trap}
use Rattle.core_store.specs.Scene.{scene_of}
use Rattle.core_interp.specs.Rest.{config_of}
use Rattle.core_store.specs.Fine.{takes, gives}

-- a store changed, but for what no instruction changes
pub record Stays (s t : State) : Type 0 where
  pub scene : scene_of s ≡ scene_of t
  pub nesting : s.nesting ≡ t.nesting

-- what an instruction did
pub record Does (o : Op) (sp : CoreSpaces) (a : Stacked) (s : State) (b : Stacked) (t : State) : Type 0 where
  pub does : (rs : List Reply) → plain o (config_of a sp s rs) ≡ Some (config_of b sp t rs)
  pub count : length b.operands + takes o ≡ length a.operands + gives o
  pub locals : length a.locals ≡ length b.locals
  pub callers : a.callers ≡ b.callers
  pub stays : Stays s t

-- or that it traps
abbrev pub Did : Op → CoreSpaces → Stacked → State → Stacked → State → Bool → Type 0
Did o sp a s b t true = Does o sp a s b t
Did o sp a s b t false = ((rs : List Reply) → plain o (config_of a sp s rs) ≡ None) × Stays s t

-- a change of the store was made, or it traps
abbrev pub Made : Option State → State → State → Bool → Type 0
Made change s t true = (change ≡ Some t) × Stays s t
Made change s t false = (change ≡ None) × Stays s t

-- the result of a numeric instruction was put on the operands, or it traps
abbrev pub Puts : Result ℕ Trap → Stacked → Stacked → Bool → Type 0
Puts (Ok v) a b went = (went ≡ true) × (b ≡ with_operands a (v ∷ a.operands))
Puts (Err e) a b went = went ≡ false

-- a size as an i32, or -1
abbrev pub word_of_answer : ℤ → ℕ
word_of_answer n = cast_unsigned w32 n

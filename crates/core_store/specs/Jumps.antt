-- The places to which the instructions of a body lead.
use Rattle.std.specs.Prelude.{ℕ, ◌+◌, ◌≡◌, List, ◌∷◌, Some, length, drop, slice_get}
use Rattle.wasm_ast.specs.declared.instr.Instr.{Instr}
use Rattle.wasm_ast.specs.declared.instr.Instr.TheVariants.{Block, If, Else}
use Rattle.core_store.specs.declared.brackets.Jump.{Jump}
use Rattle.core_store.specs.Tree.{Stop, first, later, parts}

-- the places to which an instruction leads, by what is left at them
abbrev pub JumpsFrom : List Instr → ℕ → Instr → Jump → Type 0
JumpsFrom code at (Block t) jump = parts (drop jump.behind code) ≡ later (parts (drop (at + 1) code))
JumpsFrom code at (If t) jump =
    (parts (drop jump.behind code) ≡ later (parts (drop (at + 1) code)))
    × (parts (drop jump.other code) ≡ record { here = (first (parts (drop (at + 1) code))).other; other = Stop } ∷ later (parts (drop (at + 1) code)))
JumpsFrom code at Else jump = parts (drop jump.behind code) ≡ later (parts (drop (at + 1) code))
JumpsFrom code at i jump = Unit {0}

-- each instruction leads where it should
pub record Matches (code : List Instr) (jumps : List Jump) : Type 0 where
  pub long : length jumps ≡ length code
  pub each : (at : ℕ) (i : Instr) (jump : Jump) → slice_get code at ≡ Some i → slice_get jumps at ≡ Some jump → JumpsFrom code at i jump

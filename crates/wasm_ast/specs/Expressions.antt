-- Expressions: instructions up to the one that closes them (WebAssembly Core 2.0, sections 5.4.1 and 5.4.9).
use Rattle.std.specs.Prelude.{ℕ, Bool, true, false, List, [], ◌∷◌}
use Rattle.wasm_format.specs.Format.{Format}
use Rattle.wasm_format.specs.Sections.{Sections}
use Rattle.wasm_format.specs.Until.{until}
use Rattle.wasm_ast.specs.declared.instr.Instr.{Instr}
use Rattle.wasm_ast.specs.declared.instr.Instr.TheVariants.{Plain, I64Const, SelectTyped, Unreachable, Block, Loop, If, Else, End, Br, BrIf, BrTable, Return, Call, CallIndirect}
use Rattle.wasm_ast.specs.Instructions.{instr}

-- What is open at a place, the innermost first: of each construct, whether its else may come. The first of all is the expression itself.
abbrev pub Open : Type 0
Open = List Bool

abbrev pub may_else : Open → Bool
may_else [] = false
may_else (b ∷ outer) = b

abbrev pub closed : Open → Open
closed [] = []
closed (b ∷ outer) = outer

abbrev pub after_instr : Open → Instr → Open
after_instr open_now (Block t) = false ∷ open_now
after_instr open_now (Loop t) = false ∷ open_now
after_instr open_now (If t) = true ∷ open_now
after_instr open_now Else = false ∷ closed open_now
after_instr open_now End = closed open_now
after_instr open_now _ = open_now

abbrev pub is_closed : Open → Bool
is_closed [] = true
is_closed (b ∷ outer) = false

unfoldable pub nested : Sections Open Instr
nested = record { form = λ s. instr (may_else s); next = after_instr; can_end = is_closed }

unfoldable pub expr : Format (List Instr)
expr = until nested (false ∷ [])

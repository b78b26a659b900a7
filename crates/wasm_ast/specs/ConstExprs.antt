-- The instructions for which a kept expression stands.
use Rattle.std.specs.Prelude.{List, [], ◌∷◌}
use Rattle.wasm_ast.specs.declared.instr.Instr.{Instr}
use Rattle.wasm_ast.specs.declared.instr.Instr.TheVariants as code
use Rattle.wasm_ast.specs.declared.instr.Op.TheVariants as op
use Rattle.wasm_ast.specs.declared.bare.Bare.{Bare}
use Rattle.wasm_ast.specs.declared.bare.Bare.TheVariants as bare
use Rattle.wasm_ast.specs.declared.const_expr.Kept.{Kept}
use Rattle.wasm_ast.specs.declared.const_expr.Kept.TheVariants as kept
use Rattle.wasm_ast.specs.declared.const_expr.Lent.{Lent}
use Rattle.wasm_ast.specs.declared.const_expr.Lent.TheVariants as lent

-- an instruction of one byte
abbrev pub instr_of : Bare → Instr
instr_of bare.Unreachable = code.Unreachable
instr_of bare.Return = code.Return
instr_of bare.Nop = code.Plain op.Nop
instr_of bare.Drop = code.Plain op.Drop
instr_of bare.Select = code.Plain op.Select
instr_of bare.RefIsNull = code.Plain op.RefIsNull
instr_of (bare.Numeric n) = code.Plain (op.Numeric n)

abbrev pub code_kept : Kept → List Instr
code_kept kept.End = code.End ∷ []
code_kept (kept.Bare b) = instr_of b ∷ code.End ∷ []
code_kept (kept.Bares b c) = instr_of b ∷ instr_of c ∷ code.End ∷ []
code_kept (kept.Two is) = is
code_kept (kept.Three is) = is
code_kept (kept.Four is) = is
code_kept (kept.Five is) = is
code_kept (kept.Six is) = is
code_kept (kept.Seven is) = is
code_kept (kept.More is) = is

abbrev pub code_lent : Lent → List Instr
code_lent (lent.One is) = is
code_lent (lent.Two is) = is
code_lent (lent.Three is) = is
code_lent (lent.Kept is) = is.now

-- The instructions of an expression are written one by one; where an else stands does not matter.
use Rattle.std.proofs.Common.{◌≡◌, Bool, true, false, eqb, List, [], ◌∷◌, refl}
use Rattle.std.specs.List.{AllByRecursion}
use Rattle.wasm_format.specs.Format.{Format, choose, value, misplaced, write_items}
use Rattle.wasm_format.specs.Sections.{write_parts}
use Rattle.wasm_format.specs.Until.{UntilFits}
use Rattle.wasm_ast.specs.declared.instr.Instr.{Instr}
use Rattle.wasm_ast.specs.declared.instr.Instr.TheVariants.{Else}
use Rattle.wasm_ast.specs.Instructions.{opcode, instr_of, instr}
use Rattle.wasm_ast.specs.Expressions.{Open, nested, expr}

abbrev Same : Format Instr → Format Instr → Instr → Type 0
Same F G i = G.Fits i × (F.write i ≡ G.write i)

same_by : (c may : Bool) (G : Format Instr) (i : Instr) → (choose c (choose may (value Else) misplaced) G).Fits i → Same (choose c (choose may (value Else) misplaced) G) (choose c (choose true (value Else) misplaced) G) i
same_by c true G i h = (h, refl)
same_by true false G i h = absurd h
same_by false false G i h = (h, refl)

anywhere : (may : Bool) (i : Instr) → (instr may).Fits i → Same (instr may) (instr true) i
unfolding instr
anywhere may i h = let w = same_by (eqb (opcode i) 0x05) may (instr_of (opcode i)) i h in (w.0, rw w.1 refl)

all_fit : (items : List Instr) (s : Open) → UntilFits nested s items → AllByRecursion (instr true).Fits items
unfolding nested
all_fit [] s h = tt
all_fit (i ∷ items) s h = ((anywhere _ i h.1).0, all_fit items _ h.2)

all_written : (items : List Instr) (s : Open) → UntilFits nested s items → write_parts nested s items ≡ write_items (instr true) items
unfolding nested
all_written [] s h = refl
all_written (i ∷ items) s h = rw ((anywhere _ i h.1).1, all_written items _ h.2) refl

pub expr_fits : (items : List Instr) → expr.Fits items → AllByRecursion (instr true).Fits items
unfolding expr
expr_fits items h = all_fit items (false ∷ []) h

pub expr_written : (items : List Instr) → expr.Fits items → expr.write items ≡ write_items (instr true) items
unfolding expr
expr_written items h = all_written items (false ∷ []) h

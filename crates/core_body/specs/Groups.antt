-- Groups of instructions, each for one function of the code.
use Rattle.wasm_ast.specs.declared.instr.Op.{Op}
use Rattle.wasm_ast.specs.declared.instr.Op.TheVariants as op
use Rattle.wasm_ast.specs.declared.instr.Instr.{Instr}
use Rattle.wasm_ast.specs.declared.instr.Instr.TheVariants as code

abbrev pub IsOnVariable : Op → Type 0
IsOnVariable (op.LocalGet n) = Unit {0}
IsOnVariable (op.LocalSet n) = Unit {0}
IsOnVariable (op.LocalTee n) = Unit {0}
IsOnVariable (op.GlobalGet n) = Unit {0}
IsOnVariable (op.GlobalSet n) = Unit {0}
IsOnVariable _ = ⊥

abbrev pub IsOnTable : Op → Type 0
IsOnTable (op.TableGet n) = Unit {0}
IsOnTable (op.TableSet n) = Unit {0}
IsOnTable (op.TableInit segment n) = Unit {0}
IsOnTable (op.TableCopy to from) = Unit {0}
IsOnTable (op.TableGrow n) = Unit {0}
IsOnTable (op.TableSize n) = Unit {0}
IsOnTable (op.TableFill n) = Unit {0}
IsOnTable _ = ⊥

abbrev pub IsOnMemory : Op → Type 0
IsOnMemory (op.Load l at) = Unit {0}
IsOnMemory (op.Store s at) = Unit {0}
IsOnMemory op.MemorySize = Unit {0}
IsOnMemory op.MemoryGrow = Unit {0}
IsOnMemory (op.MemoryInit n) = Unit {0}
IsOnMemory (op.DataDrop n) = Unit {0}
IsOnMemory op.MemoryCopy = Unit {0}
IsOnMemory op.MemoryFill = Unit {0}
IsOnMemory _ = ⊥

abbrev pub IsOpening : Instr → Type 0
IsOpening (code.Block n) = Unit {0}
IsOpening (code.Loop n) = Unit {0}
IsOpening (code.If n) = Unit {0}
IsOpening _ = ⊥

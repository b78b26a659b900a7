-- Groups of the instructions that go on to the next, each for one function of the code.
use Rattle.wasm_ast.specs.declared.instr.Op.{Op}
use Rattle.wasm_ast.specs.declared.instr.Op.TheVariants as op

abbrev pub IsOnOperands : Op → Type 0
IsOnOperands op.Nop = Unit {0}
IsOnOperands op.Drop = Unit {0}
IsOnOperands op.Select = Unit {0}
IsOnOperands (op.I32Const n) = Unit {0}
IsOnOperands (op.RefNull t) = Unit {0}
IsOnOperands op.RefIsNull = Unit {0}
IsOnOperands (op.RefFunc i) = Unit {0}
IsOnOperands _ = ⊥

abbrev pub IsOnVariable : Op → Type 0
IsOnVariable (op.LocalGet i) = Unit {0}
IsOnVariable (op.LocalSet i) = Unit {0}
IsOnVariable (op.LocalTee i) = Unit {0}
IsOnVariable (op.GlobalGet i) = Unit {0}
IsOnVariable (op.GlobalSet i) = Unit {0}
IsOnVariable _ = ⊥

abbrev pub IsOnMemory : Op → Type 0
IsOnMemory (op.Load l m) = Unit {0}
IsOnMemory (op.Store s m) = Unit {0}
IsOnMemory op.MemorySize = Unit {0}
IsOnMemory op.MemoryGrow = Unit {0}
IsOnMemory _ = ⊥

abbrev pub IsOnBytes : Op → Type 0
IsOnBytes (op.MemoryInit i) = Unit {0}
IsOnBytes (op.DataDrop i) = Unit {0}
IsOnBytes op.MemoryCopy = Unit {0}
IsOnBytes op.MemoryFill = Unit {0}
IsOnBytes _ = ⊥

abbrev pub IsOnTable : Op → Type 0
IsOnTable (op.TableGet i) = Unit {0}
IsOnTable (op.TableSet i) = Unit {0}
IsOnTable (op.TableGrow i) = Unit {0}
IsOnTable (op.TableSize i) = Unit {0}
IsOnTable _ = ⊥

abbrev pub IsOnRefs : Op → Type 0
IsOnRefs (op.TableInit s i) = Unit {0}
IsOnRefs (op.ElemDrop i) = Unit {0}
IsOnRefs (op.TableCopy t f) = Unit {0}
IsOnRefs (op.TableFill i) = Unit {0}
IsOnRefs _ = ⊥

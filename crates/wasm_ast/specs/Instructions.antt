-- The formats of instructions (WebAssembly Core 2.0, section 5.4). Each literal byte after an opcode is a tag, and so is the byte after FC.
use Rattle.std.specs.Prelude.{ℕ, ℤ, pos, Bool, true, false, ◌==◌, nat_lt, List, [], ◌∷◌}
use Rattle.virt_base.specs.declared.core_type.CoreType.{CoreType}
use Rattle.wasm_format.specs.Format.{Format, choose, lacking, misplaced, tagged, value, literal, both, image, closed_by, vec, u32_format}
use Rattle.wasm_format.specs.Numbers.{s32_format, s64_format}
use Rattle.wasm_ast.specs.declared.instr.RefType.{RefType}
use Rattle.wasm_ast.specs.declared.instr.RefType.TheVariants as refs
use Rattle.wasm_ast.specs.declared.instr.BlockType.{BlockType}
use Rattle.wasm_ast.specs.declared.instr.BlockType.TheVariants as blocks
use Rattle.wasm_ast.specs.declared.instr.MemArg.{MemArg}
use Rattle.wasm_ast.specs.declared.instr.LoadOp.{LoadOp}
use Rattle.wasm_ast.specs.declared.instr.LoadOp.TheVariants as loads
use Rattle.wasm_ast.specs.declared.instr.StoreOp.{StoreOp}
use Rattle.wasm_ast.specs.declared.instr.StoreOp.TheVariants as stores
use Rattle.wasm_ast.specs.declared.instr.Op.{Op}
use Rattle.wasm_ast.specs.declared.instr.Op.TheVariants.{Nop, Drop, Select, LocalGet, LocalSet, LocalTee, GlobalGet, GlobalSet, TableGet, TableSet, Load, Store, MemorySize, MemoryGrow, I32Const, Numeric, RefNull, RefIsNull, RefFunc, MemoryInit, DataDrop, MemoryCopy, MemoryFill, TableInit, ElemDrop, TableCopy, TableGrow, TableSize, TableFill}
use Rattle.wasm_ast.specs.declared.instr.BranchTable.{BranchTable}
use Rattle.wasm_ast.specs.declared.instr.Instr.{Instr}
use Rattle.wasm_ast.specs.declared.instr.Instr.TheVariants.{Plain, I64Const, SelectTyped, Unreachable, Block, Loop, If, Else, End, Br, BrIf, BrTable, Return, Call, CallIndirect}
use Rattle.wasm_ast.specs.Numeric.{is_numeric}
use Rattle.wasm_ast.specs.Types.{core_type, ref_type, block_type}

-- ---- opcodes

abbrev pub load_code : LoadOp → ℕ
load_code loads.I32 = 0x28
load_code loads.I64 = 0x29
load_code loads.I32Narrow8S = 0x2C
load_code loads.I32Narrow8U = 0x2D
load_code loads.I32Narrow16S = 0x2E
load_code loads.I32Narrow16U = 0x2F
load_code loads.I64Narrow8S = 0x30
load_code loads.I64Narrow8U = 0x31
load_code loads.I64Narrow16S = 0x32
load_code loads.I64Narrow16U = 0x33
load_code loads.I64Narrow32S = 0x34
load_code loads.I64Narrow32U = 0x35

abbrev pub store_code : StoreOp → ℕ
store_code stores.I32 = 0x36
store_code stores.I64 = 0x37
store_code stores.I32Narrow8 = 0x3A
store_code stores.I32Narrow16 = 0x3B
store_code stores.I64Narrow8 = 0x3C
store_code stores.I64Narrow16 = 0x3D
store_code stores.I64Narrow32 = 0x3E

abbrev pub op_code : Op → ℕ
op_code Nop = 0x01
op_code Drop = 0x1A
op_code Select = 0x1B
op_code (LocalGet x) = 0x20
op_code (LocalSet x) = 0x21
op_code (LocalTee x) = 0x22
op_code (GlobalGet x) = 0x23
op_code (GlobalSet x) = 0x24
op_code (TableGet x) = 0x25
op_code (TableSet x) = 0x26
op_code (Load op m) = load_code op
op_code (Store op m) = store_code op
op_code MemorySize = 0x3F
op_code MemoryGrow = 0x40
op_code (I32Const n) = 0x41
op_code (Numeric code) = code
op_code (RefNull t) = 0xD0
op_code RefIsNull = 0xD1
op_code (RefFunc x) = 0xD2
op_code (MemoryInit x) = 0xFC
op_code (DataDrop x) = 0xFC
op_code MemoryCopy = 0xFC
op_code MemoryFill = 0xFC
op_code (TableInit s t) = 0xFC
op_code (ElemDrop x) = 0xFC
op_code (TableCopy t f) = 0xFC
op_code (TableGrow x) = 0xFC
op_code (TableSize x) = 0xFC
op_code (TableFill x) = 0xFC

-- the byte after FC
abbrev pub second_code : Op → ℕ
second_code (MemoryInit x) = 0x08
second_code (DataDrop x) = 0x09
second_code MemoryCopy = 0x0A
second_code MemoryFill = 0x0B
second_code (TableInit s t) = 0x0C
second_code (ElemDrop x) = 0x0D
second_code (TableCopy t f) = 0x0E
second_code (TableGrow x) = 0x0F
second_code (TableSize x) = 0x10
second_code (TableFill x) = 0x11
second_code _ = 0

abbrev pub opcode : Instr → ℕ
opcode (Plain op) = op_code op
opcode (I64Const n) = 0x42
opcode (SelectTyped ts) = 0x1C
opcode Unreachable = 0x00
opcode (Block t) = 0x02
opcode (Loop t) = 0x03
opcode (If t) = 0x04
opcode Else = 0x05
opcode End = 0x0B
opcode (Br l) = 0x0C
opcode (BrIf l) = 0x0D
opcode (BrTable t) = 0x0E
opcode Return = 0x0F
opcode (Call f) = 0x10
opcode (CallIndirect ty table) = 0x11

-- ---- what stands after an opcode

-- the index of an instruction that has one
abbrev pub index_in : Op → ℕ
index_in (LocalGet x) = x
index_in (LocalSet x) = x
index_in (LocalTee x) = x
index_in (GlobalGet x) = x
index_in (GlobalSet x) = x
index_in (TableGet x) = x
index_in (TableSet x) = x
index_in (RefFunc x) = x
index_in (MemoryInit x) = x
index_in (DataDrop x) = x
index_in (ElemDrop x) = x
index_in (TableGrow x) = x
index_in (TableSize x) = x
index_in (TableFill x) = x
index_in _ = 0

abbrev pub indexes_in : Op → ℕ × ℕ
indexes_in (TableInit s t) = (s, t)
indexes_in (TableCopy t f) = (t, f)
indexes_in _ = (0, 0)

abbrev pub mem_in : Op → MemArg
mem_in (Load op m) = m
mem_in (Store op m) = m
mem_in _ = record { align = 0; offset = 0 }

abbrev pub number_in : Op → ℤ
number_in (I32Const n) = n
number_in _ = pos 0

abbrev pub ref_in : Op → RefType
ref_in (RefNull t) = t
ref_in _ = refs.Func

abbrev pub op_in : Instr → Op
op_in (Plain op) = op
op_in _ = Nop

abbrev pub block_in : Instr → BlockType
block_in (Block t) = t
block_in (Loop t) = t
block_in (If t) = t
block_in _ = blocks.Empty

-- the label or function of an instruction that has one
abbrev pub target_in : Instr → ℕ
target_in (Br l) = l
target_in (BrIf l) = l
target_in (Call f) = f
target_in _ = 0

abbrev pub table_in : Instr → BranchTable
table_in (BrTable t) = t.value
table_in _ = record { labels = []; default = 0 }

abbrev pub callee_in : Instr → ℕ × ℕ
callee_in (CallIndirect ty table) = (ty, table)
callee_in _ = (0, 0)

abbrev pub types_in : Instr → List CoreType
types_in (SelectTyped ts) = ts
types_in _ = []

abbrev pub long_in : Instr → ℤ
long_in (I64Const n) = n
long_in _ = pos 0

-- ---- formats

unfoldable pub mem_arg : Format MemArg
mem_arg = image (λ p. record { align = p.0; offset = p.1 }) (λ m. (m.align, m.offset)) (both u32_format u32_format)

unfoldable pub branch_table : Format BranchTable
branch_table = image (λ p. record { labels = p.0; default = p.1 }) (λ t. (t.labels, t.default)) (both (vec u32_format) u32_format)

-- an instruction with an index
abbrev pub indexed : (ℕ → Op) → Format Op
indexed op = image op index_in u32_format

-- opcodes 1A to 26 but for 1C
unfoldable pub variable_op : ℕ → Format Op
variable_op b =
    choose (b == 0x1A) (value Drop) (
    choose (b == 0x1B) (value Select) (
    choose (b == 0x20) (indexed LocalGet) (
    choose (b == 0x21) (indexed LocalSet) (
    choose (b == 0x22) (indexed LocalTee) (
    choose (b == 0x23) (indexed GlobalGet) (
    choose (b == 0x24) (indexed GlobalSet) (
    choose (b == 0x25) (indexed TableGet) (
    choose (b == 0x26) (indexed TableSet)
    (lacking b)))))))))

abbrev pub loading : LoadOp → Format Op
loading op = image (λ m. Load op m) mem_in mem_arg

abbrev pub storing : StoreOp → Format Op
storing op = image (λ m. Store op m) mem_in mem_arg

-- opcodes 28 to 35
unfoldable pub load_op : ℕ → Format Op
load_op b =
    choose (b == 0x28) (loading loads.I32) (
    choose (b == 0x29) (loading loads.I64) (
    choose (b == 0x2C) (loading loads.I32Narrow8S) (
    choose (b == 0x2D) (loading loads.I32Narrow8U) (
    choose (b == 0x2E) (loading loads.I32Narrow16S) (
    choose (b == 0x2F) (loading loads.I32Narrow16U) (
    choose (b == 0x30) (loading loads.I64Narrow8S) (
    choose (b == 0x31) (loading loads.I64Narrow8U) (
    choose (b == 0x32) (loading loads.I64Narrow16S) (
    choose (b == 0x33) (loading loads.I64Narrow16U) (
    choose (b == 0x34) (loading loads.I64Narrow32S) (
    choose (b == 0x35) (loading loads.I64Narrow32U)
    (lacking b))))))))))))

-- opcodes 36 to 40
unfoldable pub memory_op : ℕ → Format Op
memory_op b =
    choose (b == 0x36) (storing stores.I32) (
    choose (b == 0x37) (storing stores.I64) (
    choose (b == 0x3A) (storing stores.I32Narrow8) (
    choose (b == 0x3B) (storing stores.I32Narrow16) (
    choose (b == 0x3C) (storing stores.I64Narrow8) (
    choose (b == 0x3D) (storing stores.I64Narrow16) (
    choose (b == 0x3E) (storing stores.I64Narrow32) (
    choose (b == 0x3F) (literal (0 ∷ []) MemorySize) (
    choose (b == 0x40) (literal (0 ∷ []) MemoryGrow)
    (lacking b)))))))))

-- after FC
unfoldable pub second_op : ℕ → Format Op
second_op b =
    choose (b == 0x08) (image MemoryInit index_in (closed_by (0 ∷ []) u32_format)) (
    choose (b == 0x09) (indexed DataDrop) (
    choose (b == 0x0A) (literal (0 ∷ 0 ∷ []) MemoryCopy) (
    choose (b == 0x0B) (literal (0 ∷ []) MemoryFill) (
    choose (b == 0x0C) (image (λ p. TableInit p.0 p.1) indexes_in (both u32_format u32_format)) (
    choose (b == 0x0D) (indexed ElemDrop) (
    choose (b == 0x0E) (image (λ p. TableCopy p.0 p.1) indexes_in (both u32_format u32_format)) (
    choose (b == 0x0F) (indexed TableGrow) (
    choose (b == 0x10) (indexed TableSize) (
    choose (b == 0x11) (indexed TableFill)
    (lacking b))))))))))

-- constants and references
abbrev pub other_op : ℕ → Format Op
other_op b =
    choose (b == 0x41) (image I32Const number_in s32_format) (
    choose (b == 0xD0) (image RefNull ref_in ref_type) (
    choose (b == 0xD1) (value RefIsNull) (
    choose (b == 0xD2) (indexed RefFunc) (
    choose (b == 0xFC) (tagged second_code second_op)
    (lacking b)))))

-- opcodes from 41 on but for 42
unfoldable pub high_op : ℕ → Format Op
high_op b = choose (is_numeric b) (value (Numeric b)) (other_op b)

-- opcodes from 1A on but for 1C and 42
unfoldable pub op_of : ℕ → Format Op
op_of b =
    choose (nat_lt b 0x28) (variable_op b) (
    choose (nat_lt b 0x36) (load_op b) (
    choose (nat_lt b 0x41) (memory_op b)
    (high_op b)))

-- opcodes up to 11
unfoldable pub control : ℕ → Format Instr
control b =
    choose (b == 0x00) (value Unreachable) (
    choose (b == 0x01) (value (Plain Nop)) (
    choose (b == 0x02) (image Block block_in block_type) (
    choose (b == 0x03) (image Loop block_in block_type) (
    choose (b == 0x04) (image If block_in block_type) (
    choose (b == 0x0B) (value End) (
    choose (b == 0x0C) (image Br target_in u32_format) (
    choose (b == 0x0D) (image BrIf target_in u32_format) (
    choose (b == 0x0E) (image (λ t. BrTable (record { value = t })) table_in branch_table) (
    choose (b == 0x0F) (value Return) (
    choose (b == 0x10) (image Call target_in u32_format) (
    choose (b == 0x11) (image (λ p. CallIndirect p.0 p.1) callee_in (both u32_format u32_format))
    (lacking b))))))))))))

-- what stands after an opcode but that of else
unfoldable pub instr_of : ℕ → Format Instr
instr_of b =
    choose (nat_lt b 0x12) (control b) (
    choose (b == 0x1C) (image SelectTyped types_in (vec core_type)) (
    choose (b == 0x42) (image I64Const long_in s64_format)
    (image Plain op_in (op_of b))))

-- an instruction; the opcode of else is in the table, and no form where it may not stand
unfoldable pub instr : Bool → Format Instr
instr may_else = tagged opcode (λ b. choose (b == 0x05) (choose may_else (value Else) misplaced) (instr_of b))

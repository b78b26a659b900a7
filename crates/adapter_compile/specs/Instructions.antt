-- The core code of a routine: the instructions of each statement (WebAssembly Core 2.0, section 5.4).
use Rattle.std.specs.Prelude.{ℕ, suc, ◌+◌, ◌==◌, if◌then◌else◌, List, [], ◌∷◌, ◌++◌, length, slice_index_or, Option, Some, None}
use Rattle.std.specs.Int.{w32, w64, cast_signed}
use Rattle.wasm_ast.specs.declared.instr.MemArg.{MemArg}
use Rattle.wasm_ast.specs.declared.instr.BlockType.TheVariants.{Empty}
use Rattle.wasm_ast.specs.declared.instr.LoadOp.{LoadOp}
use Rattle.wasm_ast.specs.declared.instr.LoadOp.TheVariants as loads
use Rattle.wasm_ast.specs.declared.instr.StoreOp.{StoreOp}
use Rattle.wasm_ast.specs.declared.instr.StoreOp.TheVariants as stores
use Rattle.wasm_ast.specs.declared.instr.Op.TheVariants as op
use Rattle.wasm_ast.specs.declared.instr.Instr.{Instr}
use Rattle.wasm_ast.specs.declared.instr.Instr.TheVariants.{Plain, I64Const, Unreachable, Block, Loop, If, Else, End, Br, BrIf, Call}
use Rattle.adapter_code.specs.declared.statement.Width.{Width}
use Rattle.adapter_code.specs.declared.statement.Width.TheVariants.{Narrow, Broad}
use Rattle.adapter_code.specs.declared.statement.IntOp.{IntOp}
use Rattle.adapter_code.specs.declared.statement.IntOp.TheVariants.{Eq, Ne, LtU, LeU, Add, Sub, Mul, And, Or, Xor, Shl, ShrU}
use Rattle.adapter_code.specs.declared.statement.Statement.{Statement, Const, Move, Int, Load, Store, Leave, NewHandle, DropHandle, Trap, Answer}
use Rattle.adapter_code.specs.Number.{low}
use Rattle.adapter_code.specs.Code.{Code, Stop, Then, Choose, Turns}
use Rattle.adapter_compile.specs.declared.calls.HandleCalls.{HandleCalls}

-- the brackets around a statement, the innermost first: each with the name of the `Repeat` that ends at its label, if one does
abbrev pub Labels : Type 0
Labels = List (Option ℕ)

-- the label after the innermost `Repeat` of a name
abbrev pub label_of : ℕ → Labels → ℕ
label_of name [] = 0
label_of name (None ∷ ls) = suc (label_of name ls)
label_of name (Some m ∷ ls) = if name == m then 0 else suc (label_of name ls)

-- the width of a local
abbrev pub width_in : List Width → ℕ → Width
width_in ws i = slice_index_or ws i Narrow

abbrev pub get : ℕ → Instr
get i = Plain (op.LocalGet i)

abbrev pub set : ℕ → Instr
set i = Plain (op.LocalSet i)

abbrev pub tee : ℕ → Instr
tee i = Plain (op.LocalTee i)

abbrev pub numeric : ℕ → Instr
numeric code = Plain (op.Numeric code)

abbrev pub constant : Width → ℕ → Instr
constant Narrow v = Plain (op.I32Const (cast_signed w32 (low Narrow v)))
constant Broad v = I64Const (cast_signed w64 (low Broad v))

-- the opcode of an operator
abbrev pub opcode : IntOp → Width → ℕ
opcode Eq Narrow = 0x46
opcode Eq Broad = 0x51
opcode Ne Narrow = 0x47
opcode Ne Broad = 0x52
opcode LtU Narrow = 0x49
opcode LtU Broad = 0x54
opcode LeU Narrow = 0x4D
opcode LeU Broad = 0x58
opcode Add Narrow = 0x6A
opcode Add Broad = 0x7C
opcode Sub Narrow = 0x6B
opcode Sub Broad = 0x7D
opcode Mul Narrow = 0x6C
opcode Mul Broad = 0x7E
opcode And Narrow = 0x71
opcode And Broad = 0x83
opcode Or Narrow = 0x72
opcode Or Broad = 0x84
opcode Xor Narrow = 0x73
opcode Xor Broad = 0x85
opcode Shl Narrow = 0x74
opcode Shl Broad = 0x86
opcode ShrU Narrow = 0x76
opcode ShrU Broad = 0x88

-- i32.wrap_i64 and i64.extend_i32_u, where the widths differ
abbrev pub conversion : Width → Width → List Instr
conversion Narrow Broad = numeric 0xA7 ∷ []
conversion Broad Narrow = numeric 0xAD ∷ []
conversion Narrow Narrow = []
conversion Broad Broad = []

-- the load of that many bytes into a local of a width, and the store of a local's lowest bytes
abbrev pub load_of : Width → ℕ → LoadOp
load_of Narrow size = if size == 1 then loads.I32Narrow8U else (if size == 2 then loads.I32Narrow16U else loads.I32)
load_of Broad size =
    if size == 1 then loads.I64Narrow8U else (if size == 2 then loads.I64Narrow16U else (if size == 4 then loads.I64Narrow32U else loads.I64))

abbrev pub store_of : Width → ℕ → StoreOp
store_of Narrow size = if size == 1 then stores.I32Narrow8 else (if size == 2 then stores.I32Narrow16 else stores.I32)
store_of Broad size =
    if size == 1 then stores.I64Narrow8 else (if size == 2 then stores.I64Narrow16 else (if size == 4 then stores.I64Narrow32 else stores.I64))

-- any place may be read and written, so nothing is promised of its alignment
abbrev pub at_offset : ℕ → MemArg
at_offset offset = record { align = 0; offset = offset }

-- the function by which a handle of a kind is made, or dropped
abbrev pub call_at : List (Option ℕ) → ℕ → Option ℕ
call_at functions kind = slice_index_or functions kind None

abbrev pub call_of : Option ℕ → Instr
call_of None = Unreachable
call_of (Some f) = Call f

-- a statement that holds no others. An answer leads after the block around the routine
abbrev pub statement_code : List Width → HandleCalls → Labels → Statement → List Instr
statement_code ws calls ls (Const to v) = constant (width_in ws to) v ∷ set to ∷ []
statement_code ws calls ls (Move to from) = get from ∷ (conversion (width_in ws to) (width_in ws from) ++ set to ∷ [])
statement_code ws calls ls (Int op to a b) = get a ∷ get b ∷ numeric (opcode op (width_in ws a)) ∷ set to ∷ []
statement_code ws calls ls (Load to at offset size) = get at ∷ Plain (op.Load (load_of (width_in ws to) size) (at_offset offset)) ∷ set to ∷ []
statement_code ws calls ls (Store from at offset size) = get at ∷ get from ∷ Plain (op.Store (store_of (width_in ws from) size) (at_offset offset)) ∷ []
statement_code ws calls ls (Leave name) = Br (label_of name ls) ∷ []
statement_code ws calls ls (NewHandle kind rep to) = get rep ∷ call_of (call_at calls.makes kind) ∷ set to ∷ []
statement_code ws calls ls (DropHandle kind index) = get index ∷ call_of (call_at calls.drops kind) ∷ []
statement_code ws calls ls Trap = Unreachable ∷ []
statement_code ws calls ls Answer = Br (length ls) ∷ []
statement_code ws calls ls other = []

abbrev pub choice_code : ℕ → List Instr → List Instr → List Instr
choice_code test first other = get test ∷ If Empty ∷ (first ++ Else ∷ (other ++ End ∷ []))

-- the turns of a `Repeat`, whose number is kept in a counter: it is tested on entry, and then after each turn
abbrev pub turns_begin : ℕ → ℕ → List Instr
turns_begin count counter = Block Empty ∷ get count ∷ tee counter ∷ numeric 0x45 ∷ BrIf 0 ∷ Loop Empty ∷ []

abbrev pub turns_end : ℕ → List Instr
turns_end counter = get counter ∷ constant Narrow 1 ∷ numeric 0x6B ∷ tee counter ∷ BrIf 0 ∷ End ∷ End ∷ []

abbrev pub turns_code : ℕ → ℕ → List Instr → List Instr
turns_code count counter body = turns_begin count counter ++ (body ++ turns_end counter)

-- a routine over locals of these widths, in these brackets, in that many `Repeat`s: the counters stand after the locals, that
-- of a `Repeat` after those of the ones around it
abbrev pub code_in : List Width → HandleCalls → Labels → ℕ → Code → List Instr
code_in ws calls ls d Stop = []
code_in ws calls ls d (Then statement rest) = statement_code ws calls ls statement ++ code_in ws calls ls d rest
code_in ws calls ls d (Choose test first other rest) =
    choice_code test (code_in ws calls (None ∷ ls) d first) (code_in ws calls (None ∷ ls) d other) ++ code_in ws calls ls d rest
code_in ws calls ls d (Turns name count body rest) =
    turns_code count (length ws + d) (code_in ws calls (None ∷ Some name ∷ ls) (suc d) body) ++ code_in ws calls ls d rest

-- a whole routine, in a block after which it goes on at its answer
abbrev pub routine_code : List Width → HandleCalls → Code → List Instr
routine_code ws calls code = Block Empty ∷ (code_in ws calls [] 0 code ++ End ∷ [])

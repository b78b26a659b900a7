-- What the rules of validation but the one on operand types ask of each item of a module, and of each instruction.
use Rattle.std.specs.Prelude.{ℕ, ◌+◌, ◌-◌, min, Bool, true, false, not, ◌&&◌, Option, Some, None, List, [], ◌∷◌, ◌++◌, length, slice_get, slice_index_or, nat_lt, nat_le, ◌==◌, sum_by, map, if◌then◌else◌}
use Rattle.std.specs.Option.{option_map_or}
use Rattle.std.specs.List.{list_any}
use Rattle.std.specs.Str.{bytes_eq}
use Rattle.wasm_ast.specs.declared.module.CoreFunc.{CoreFunc}
use Rattle.wasm_ast.specs.declared.module.Limits.{Limits}
use Rattle.wasm_ast.specs.declared.module.LocalRun.{LocalRun}
use Rattle.wasm_ast.specs.declared.instr.BlockType.{BlockType}
use Rattle.wasm_ast.specs.declared.instr.BlockType.TheVariants.{Index}
use Rattle.wasm_ast.specs.declared.instr.LoadOp.{LoadOp}
use Rattle.wasm_ast.specs.declared.instr.LoadOp.TheVariants as load
use Rattle.wasm_ast.specs.declared.instr.StoreOp.{StoreOp}
use Rattle.wasm_ast.specs.declared.instr.StoreOp.TheVariants as store
use Rattle.wasm_ast.specs.declared.instr.Op.{Op}
use Rattle.wasm_ast.specs.declared.instr.Op.TheVariants as op
use Rattle.wasm_ast.specs.declared.instr.Instr.{Instr}
use Rattle.wasm_ast.specs.declared.instr.Instr.TheVariants as code
use Rattle.core_body.specs.Context.{Context, function_type}

pub data Condition : Type 0 where
  -- rules 1 to 5: an index is in its index space (WebAssembly Core 2.0, section 2.5.1)
  TypeAt : (index : ℕ) → Condition
  FunctionAt : (index : ℕ) → Condition
  TableAt : (index : ℕ) → Condition
  MemoryAt : (index : ℕ) → Condition
  GlobalAt : (index : ℕ) → Condition
  -- rule 4 too: a module has one memory at most (section 3.4.10)
  OnlyMemory : (before : ℕ) → Condition
  -- rule 6: a local is there, and a label is one of those around
  LocalAt : (index : ℕ) → Condition
  LabelAt : (labels index : ℕ) → Condition
  -- rule 8: what is set is no constant (section 3.3.5)
  Variable : (global : ℕ) → Condition
  -- rule 9: a constant expression is made of constant instructions (section 3.3.10)
  Constant : Instr → Condition
  -- rule 10: the alignment is at most the natural one, each as an exponent of 2 (section 3.3.7)
  Aligned : (align natural : ℕ) → Condition
  -- rule 11: limits (section 3.2.1), this implementation's own among them
  TableLimits : Limits → Condition
  MemoryLimits : Limits → Condition
  FewLocals : List LocalRun → Condition
  -- rule 12: no two exports have one name (section 3.4.10)
  NewName : (earlier : List (List ℕ)) (name : List ℕ) → Condition
  -- rule 13: the start function takes and leaves nothing (section 3.4.7)
  StartsBare : (function : ℕ) → Condition
  -- rule 14: a data segment of the data count (section 3.3.7)
  DataAt : (index : ℕ) → Condition
  -- rule 15: an element segment (section 3.3.6)
  ElementAt : (index : ℕ) → Condition
  -- rule 16: the function stands in an export, an element segment or a global's expression (section 3.3.2)
  Declared : (function : ℕ) → Condition

abbrev pub rule_of : Condition → ℕ
rule_of (TypeAt n) = 1
rule_of (FunctionAt n) = 2
rule_of (TableAt n) = 3
rule_of (MemoryAt n) = 4
rule_of (GlobalAt n) = 5
rule_of (OnlyMemory n) = 4
rule_of (LocalAt n) = 6
rule_of (LabelAt labels n) = 6
rule_of (Variable n) = 8
rule_of (Constant i) = 9
rule_of (Aligned align natural) = 10
rule_of (TableLimits l) = 11
rule_of (MemoryLimits l) = 11
rule_of (FewLocals runs) = 11
rule_of (NewName earlier name) = 12
rule_of (StartsBare n) = 13
rule_of (DataAt n) = 14
rule_of (ElementAt n) = 15
rule_of (Declared n) = 16

-- constant instructions: a number, a reference, an imported constant; and the End that closes the expression
abbrev pub is_imported_constant : Context → ℕ → Bool
is_imported_constant c n = nat_lt n c.imported_globals && option_map_or (λ g. not g.variable) (slice_get c.globals n) false

abbrev pub is_constant_op : Context → Op → Bool
is_constant_op c (op.I32Const n) = true
is_constant_op c (op.RefNull t) = true
is_constant_op c (op.RefFunc n) = true
is_constant_op c (op.GlobalGet n) = is_imported_constant c n
is_constant_op c _ = false

abbrev pub is_constant : Context → Instr → Bool
is_constant c (code.Plain o) = is_constant_op c o
is_constant c (code.I64Const n) = true
is_constant c code.End = true
is_constant c _ = false

abbrev pub is_ordered : Limits → Bool
is_ordered l = option_map_or (λ greatest. nat_le l.min greatest) l.max true

abbrev pub takes_nothing : CoreFunc → Bool
takes_nothing f = (length f.params == 0) && (length f.results == 0)

abbrev pub is_met : Context → Condition → Bool
is_met c (TypeAt n) = nat_lt n (length c.types)
is_met c (FunctionAt n) = nat_lt n (length c.functions)
is_met c (TableAt n) = nat_lt n (length c.tables)
is_met c (MemoryAt n) = nat_lt n c.memories
is_met c (GlobalAt n) = nat_lt n (length c.globals)
is_met c (OnlyMemory before) = before == 0
is_met c (LocalAt n) = nat_lt n (length c.locals)
is_met c (LabelAt labels n) = nat_lt n labels
is_met c (Variable n) = option_map_or (λ g. g.variable) (slice_get c.globals n) true
is_met c (Constant i) = is_constant c i
is_met c (Aligned align natural) = nat_le align natural
-- at most 1,048,576 entries at the start
is_met c (TableLimits l) = is_ordered l && nat_le l.min 1048576
-- at most 65,536 pages, and 4,096 at the start
is_met c (MemoryLimits l) = is_ordered l && (nat_le l.min 4096 && option_map_or (λ greatest. nat_le greatest 65536) l.max true)
-- at most 50,000 declared locals
is_met c (FewLocals runs) = nat_le (sum_by (λ r. r.count) runs) 50000
is_met c (NewName earlier name) = not (list_any (bytes_eq name) earlier)
is_met c (StartsBare n) = option_map_or takes_nothing (function_type c n) true
is_met c (DataAt n) = option_map_or (λ count. nat_lt n count) c.data_count false
is_met c (ElementAt n) = nat_lt n (length c.elements)
is_met c (Declared n) = slice_index_or c.refs n false

-- the number of bytes that a load reads or a store writes, as an exponent of 2
abbrev pub load_width : LoadOp → ℕ
load_width load.I32 = 2
load_width load.I64 = 3
load_width load.I32Narrow8S = 0
load_width load.I32Narrow8U = 0
load_width load.I32Narrow16S = 1
load_width load.I32Narrow16U = 1
load_width load.I64Narrow8S = 0
load_width load.I64Narrow8U = 0
load_width load.I64Narrow16S = 1
load_width load.I64Narrow16U = 1
load_width load.I64Narrow32S = 2
load_width load.I64Narrow32U = 2

abbrev pub store_width : StoreOp → ℕ
store_width store.I32 = 2
store_width store.I64 = 3
store_width store.I32Narrow8 = 0
store_width store.I32Narrow16 = 1
store_width store.I64Narrow8 = 0
store_width store.I64Narrow16 = 1
store_width store.I64Narrow32 = 2

abbrev pub op_conditions : Op → List Condition
op_conditions (op.LocalGet n) = LocalAt n ∷ []
op_conditions (op.LocalSet n) = LocalAt n ∷ []
op_conditions (op.LocalTee n) = LocalAt n ∷ []
op_conditions (op.GlobalGet n) = GlobalAt n ∷ []
op_conditions (op.GlobalSet n) = GlobalAt n ∷ Variable n ∷ []
op_conditions (op.TableGet n) = TableAt n ∷ []
op_conditions (op.TableSet n) = TableAt n ∷ []
op_conditions (op.Load l at) = MemoryAt 0 ∷ Aligned at.align (load_width l) ∷ []
op_conditions (op.Store s at) = MemoryAt 0 ∷ Aligned at.align (store_width s) ∷ []
op_conditions op.MemorySize = MemoryAt 0 ∷ []
op_conditions op.MemoryGrow = MemoryAt 0 ∷ []
op_conditions (op.RefFunc n) = FunctionAt n ∷ []
op_conditions (op.MemoryInit n) = MemoryAt 0 ∷ DataAt n ∷ []
op_conditions (op.DataDrop n) = DataAt n ∷ []
op_conditions op.MemoryCopy = MemoryAt 0 ∷ []
op_conditions op.MemoryFill = MemoryAt 0 ∷ []
op_conditions (op.TableInit segment n) = TableAt n ∷ ElementAt segment ∷ []
op_conditions (op.ElemDrop n) = ElementAt n ∷ []
op_conditions (op.TableCopy to from) = TableAt to ∷ TableAt from ∷ []
op_conditions (op.TableGrow n) = TableAt n ∷ []
op_conditions (op.TableSize n) = TableAt n ∷ []
op_conditions (op.TableFill n) = TableAt n ∷ []
op_conditions _ = []

abbrev pub block_conditions : BlockType → List Condition
block_conditions (Index n) = TypeAt n ∷ []
block_conditions _ = []

-- the conditions of an instruction with that many labels around it
abbrev pub conditions : ℕ → Instr → List Condition
conditions labels (code.Plain o) = op_conditions o
conditions labels (code.Block t) = block_conditions t
conditions labels (code.Loop t) = block_conditions t
conditions labels (code.If t) = block_conditions t
conditions labels (code.Br n) = LabelAt labels n ∷ []
conditions labels (code.BrIf n) = LabelAt labels n ∷ []
conditions labels (code.BrTable table) = map (LabelAt labels) (table.value.default ∷ table.value.labels)
conditions labels (code.Call n) = FunctionAt n ∷ []
conditions labels (code.CallIndirect ty table) = TypeAt ty ∷ TableAt table ∷ []
conditions labels _ = []

-- in a constant expression each instruction is constant; in a body ref.func names a declared function
abbrev pub declared_conditions : Instr → List Condition
declared_conditions (code.Plain (op.RefFunc n)) = Declared n ∷ []
declared_conditions _ = []

abbrev pub place_conditions : Bool → Instr → List Condition
place_conditions true i = declared_conditions i
place_conditions false i = Constant i ∷ []

-- how many labels there are after an instruction
abbrev pub labels_behind : ℕ → Instr → ℕ
labels_behind n (code.Block t) = n + 1
labels_behind n (code.Loop t) = n + 1
labels_behind n (code.If t) = n + 1
labels_behind n code.End = n - 1
labels_behind n _ = n

-- the conditions of code: of a function's body, or of a constant expression
abbrev pub code_conditions : Bool → ℕ → List Instr → List Condition
code_conditions in_body labels [] = []
code_conditions in_body labels (i ∷ is) =
    conditions labels i ++ (place_conditions in_body i ++ code_conditions in_body (labels_behind labels i) is)

-- the lesser of two rules
abbrev pub lesser : Option ℕ → Option ℕ → Option ℕ
lesser a None = a
lesser None (Some b) = Some b
lesser (Some a) (Some b) = Some (min a b)

abbrev pub broken : Context → Condition → Option ℕ
broken c a = if is_met c a then None else Some (rule_of a)

-- the least rule that one of the conditions breaks
abbrev pub least : Context → List Condition → Option ℕ
least c [] = None
least c (a ∷ rest) = lesser (broken c a) (least c rest)

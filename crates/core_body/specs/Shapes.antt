-- The type of each instruction that goes on to the next: the operands that it takes and leaves, the last on top
-- (WebAssembly Core 2.0, sections 3.3.1 to 3.3.8). A data or element segment that isn't there, a constant global
-- and an alignment are faults of other rules: they leave the type as it is.
use Rattle.std.specs.Prelude.{ℕ, Bool, true, false, Option, Some, None, List, [], ◌∷◌, ◌++◌, slice_get, ◌==◌, if◌then◌else◌}
use Rattle.std.specs.Option.{option_map}
use Rattle.virt_base.specs.declared.core_type.CoreType.{CoreType}
use Rattle.virt_base.specs.declared.core_type.CoreType.TheVariants.{I32, I64, Funcref, Externref}
use Rattle.wasm_ast.specs.declared.module.CoreFunc.{CoreFunc}
use Rattle.wasm_ast.specs.declared.module.TableType.{TableType}
use Rattle.wasm_ast.specs.declared.numeric.Numeric.{Numeric}
use Rattle.wasm_ast.specs.declared.instr.RefType.{RefType}
use Rattle.wasm_ast.specs.declared.instr.RefType.TheVariants.{Func, Extern}
use Rattle.wasm_ast.specs.declared.instr.LoadOp.{LoadOp}
use Rattle.wasm_ast.specs.declared.instr.LoadOp.TheVariants as load
use Rattle.wasm_ast.specs.declared.instr.StoreOp.{StoreOp}
use Rattle.wasm_ast.specs.declared.instr.StoreOp.TheVariants as store
use Rattle.wasm_ast.specs.declared.instr.Op.{Op}
use Rattle.wasm_ast.specs.declared.instr.Op.TheVariants as op
use Rattle.wasm_ast.specs.Numeric.{numeric}
use Rattle.core_body.specs.Context.{Context}

pub data Shape : Type 0 where
  -- no type
  Missing : Shape
  Fixed : (params results : List CoreType) → Shape
  -- drop: [t] → [] for each operand type t
  AnyOperand : Shape
  -- select without types: [t t i32] → [t] for each number type t
  TwoNumbers : Shape
  -- ref.is_null: [t] → [i32] for each reference type t
  OneReference : Shape

abbrev pub value_of : RefType → CoreType
value_of Func = Funcref
value_of Extern = Externref

abbrev pub same_ref : RefType → RefType → Bool
same_ref Func Func = true
same_ref Func Extern = false
same_ref Extern Func = false
same_ref Extern Extern = true

-- what a load leaves, and what a store takes
abbrev pub loaded_type : LoadOp → CoreType
loaded_type load.I32 = I32
loaded_type load.I64 = I64
loaded_type load.I32Narrow8S = I32
loaded_type load.I32Narrow8U = I32
loaded_type load.I32Narrow16S = I32
loaded_type load.I32Narrow16U = I32
loaded_type load.I64Narrow8S = I64
loaded_type load.I64Narrow8U = I64
loaded_type load.I64Narrow16S = I64
loaded_type load.I64Narrow16U = I64
loaded_type load.I64Narrow32S = I64
loaded_type load.I64Narrow32U = I64

abbrev pub stored_type : StoreOp → CoreType
stored_type store.I32 = I32
stored_type store.I64 = I64
stored_type store.I32Narrow8 = I32
stored_type store.I32Narrow16 = I32
stored_type store.I64Narrow8 = I64
stored_type store.I64Narrow16 = I64
stored_type store.I64Narrow32 = I64

-- the type of a global's value, and of a table's entries
abbrev pub global_type : Context → ℕ → Option CoreType
global_type c n = option_map (λ g. g.value) (slice_get c.globals n)

abbrev pub table_type : Context → ℕ → Option CoreType
table_type c n = option_map (λ t. value_of t.element) (slice_get c.tables n)

-- the type of an instruction on a local, a global or a table, which has none where that isn't there
abbrev pub of_type : Option CoreType → (CoreType → Shape) → Shape
of_type None f = Missing
of_type (Some t) f = f t

-- a numeric instruction takes one operand or two
abbrev pub of_numeric : Option Numeric → Shape
of_numeric None = Missing
of_numeric (Some n) = if n.params == 1 then Fixed (n.from ∷ []) (n.to ∷ []) else Fixed (n.from ∷ n.from ∷ []) (n.to ∷ [])

abbrev pub three : Shape
three = Fixed (I32 ∷ I32 ∷ I32 ∷ []) []

-- table.copy wants two tables of one element type
abbrev pub copy_shape : Option TableType → Option TableType → Shape
copy_shape None from = Missing
copy_shape (Some to) None = Missing
copy_shape (Some to) (Some from) = if same_ref to.element from.element then three else Missing

-- table.init wants a table of the segment's element type
abbrev pub init_shape : Option TableType → Option RefType → Shape
init_shape None segment = Missing
init_shape (Some t) None = three
init_shape (Some t) (Some segment) = if same_ref t.element segment then three else Missing

abbrev pub shape : Context → Op → Shape
shape c op.Nop = Fixed [] []
shape c op.Drop = AnyOperand
shape c op.Select = TwoNumbers
shape c (op.LocalGet n) = of_type (slice_get c.locals n) (λ t. Fixed [] (t ∷ []))
shape c (op.LocalSet n) = of_type (slice_get c.locals n) (λ t. Fixed (t ∷ []) [])
shape c (op.LocalTee n) = of_type (slice_get c.locals n) (λ t. Fixed (t ∷ []) (t ∷ []))
shape c (op.GlobalGet n) = of_type (global_type c n) (λ t. Fixed [] (t ∷ []))
shape c (op.GlobalSet n) = of_type (global_type c n) (λ t. Fixed (t ∷ []) [])
shape c (op.TableGet n) = of_type (table_type c n) (λ t. Fixed (I32 ∷ []) (t ∷ []))
shape c (op.TableSet n) = of_type (table_type c n) (λ t. Fixed (I32 ∷ t ∷ []) [])
shape c (op.Load l at) = Fixed (I32 ∷ []) (loaded_type l ∷ [])
shape c (op.Store s at) = Fixed (I32 ∷ stored_type s ∷ []) []
shape c op.MemorySize = Fixed [] (I32 ∷ [])
shape c op.MemoryGrow = Fixed (I32 ∷ []) (I32 ∷ [])
shape c (op.I32Const n) = Fixed [] (I32 ∷ [])
shape c (op.Numeric n) = of_numeric (numeric n)
shape c (op.RefNull t) = Fixed [] (value_of t ∷ [])
shape c op.RefIsNull = OneReference
shape c (op.RefFunc n) = Fixed [] (Funcref ∷ [])
shape c (op.MemoryInit n) = three
shape c (op.DataDrop n) = Fixed [] []
shape c op.MemoryCopy = three
shape c op.MemoryFill = three
shape c (op.TableInit segment n) = init_shape (slice_get c.tables n) (slice_get c.elements segment)
shape c (op.ElemDrop n) = Fixed [] []
shape c (op.TableCopy to from) = copy_shape (slice_get c.tables to) (slice_get c.tables from)
shape c (op.TableGrow n) = of_type (table_type c n) (λ t. Fixed (t ∷ I32 ∷ []) (I32 ∷ []))
shape c (op.TableSize n) = of_type (table_type c n) (λ t. Fixed [] (I32 ∷ []))
shape c (op.TableFill n) = of_type (table_type c n) (λ t. Fixed (I32 ∷ t ∷ I32 ∷ []) [])

-- a select with types wants exactly one
abbrev pub select_shape : List CoreType → Shape
select_shape [] = Missing
select_shape (t ∷ []) = Fixed (t ∷ t ∷ I32 ∷ []) (t ∷ [])
select_shape (t ∷ u ∷ ts) = Missing

abbrev pub call_shape : Option CoreFunc → Shape
call_shape None = Missing
call_shape (Some f) = Fixed f.params f.results

-- call_indirect wants a table of functions, and takes the index in the table last
abbrev pub indirect_shape : Option TableType → Option CoreFunc → Shape
indirect_shape None f = Missing
indirect_shape (Some t) None = Missing
indirect_shape (Some t) (Some f) = if same_ref t.element Func then Fixed (f.params ++ I32 ∷ []) f.results else Missing

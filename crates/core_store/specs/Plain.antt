-- What the instructions do that go on to the next (WebAssembly Core 2.0, sections 4.4.1 to 4.4.8): the configuration after them, or none where they trap.
use Rattle.std.specs.Prelude.{ℕ, suc, ◌+◌, ◌%◌, ◌==◌, if◌then◌else◌, List, [], ◌∷◌, length, slice_get, slice_set, Option, Some, None, Result, Ok, Err}
use Rattle.std.specs.Int.{w32, cast_unsigned}
use Rattle.virt_base.specs.declared.fault.Trap.{Trap}
use Rattle.virt_base.specs.declared.core_type.CoreType.{CoreType}
use Rattle.virt_base.specs.declared.core_type.CoreType.TheVariants.{I32, I64, Funcref, Externref}
use Rattle.wasm_ast.specs.declared.numeric.Numeric.{Numeric}
use Rattle.wasm_ast.specs.Numeric.{numeric}
use Rattle.wasm_ast.specs.declared.instr.LoadOp.{LoadOp}
use Rattle.wasm_ast.specs.declared.instr.LoadOp.TheVariants as loads
use Rattle.wasm_ast.specs.declared.instr.StoreOp.{StoreOp}
use Rattle.wasm_ast.specs.declared.instr.StoreOp.TheVariants as stores
use Rattle.wasm_ast.specs.declared.instr.Op.{Op}
use Rattle.wasm_ast.specs.declared.instr.Op.TheVariants as op
use Rattle.core_integer.specs.Integer.{integer, converted}
use Rattle.core_memory.specs.Replaced.{repeated}
use Rattle.core_memory.specs.Number.{bytes_of}
use Rattle.core_memory.specs.Linear.{loaded, size}
use Rattle.core_store.specs.Table.{got}
use Rattle.core_store.specs.State.{State, memory_at, table_at, segment_at, elements_at}
use Rattle.core_store.specs.Words.{word_of_ref, word_of, i32_in, ref_in, value_like, word_of_bool}
use Rattle.core_store.specs.Config.{Config, with_stack, with_locals, with_store}
use Rattle.core_store.specs.Effects.{put_bytes, move_bytes, set_ref, fill_refs, move_refs, grown_size, grow_memory, grown_table_size, grow_table}

-- the topmost operands, and what is below them
abbrev pub on_one : List ℕ → (ℕ → List ℕ → Option Config) → Option Config
on_one [] f = None
on_one (x ∷ xs) f = f x xs

abbrev pub on_two : List ℕ → (ℕ → ℕ → List ℕ → Option Config) → Option Config
on_two [] f = None
on_two (x ∷ []) f = None
on_two (x ∷ y ∷ xs) f = f x y xs

abbrev pub on_three : List ℕ → (ℕ → ℕ → ℕ → List ℕ → Option Config) → Option Config
on_three [] f = None
on_three (x ∷ []) f = None
on_three (x ∷ y ∷ []) f = None
on_three (x ∷ y ∷ z ∷ xs) f = f x y z xs

-- the place of an item, or a value, that is there
abbrev pub with_some : {A : Type 0} → Option A → (A → Option Config) → Option Config
with_some None f = None
with_some (Some x) f = f x

abbrev pub with_ok : {A : Type 0} → Result A Trap → (A → Option Config) → Option Config
with_ok (Ok x) f = f x
with_ok (Err e) f = None

-- an operand of a numeric instruction, read at its type
abbrev pub operand_in : CoreType → ℕ → ℕ
operand_in I32 w = i32_in w
operand_in I64 w = w
operand_in Funcref w = w
operand_in Externref w = w

abbrev pub calculate : ℕ → Option Numeric → Config → Option Config
calculate code None c = None
calculate code (Some n) c =
    if n.params == 1
    then on_one c.stack (λ x rest. with_ok (integer code (operand_in n.from x) 0) (λ r. Some (with_stack c (r ∷ rest))))
    else on_two c.stack (λ y x rest. with_ok (integer code (operand_in n.from x) (operand_in n.from y)) (λ r. Some (with_stack c (r ∷ rest))))

-- that many bytes are read or written
abbrev pub load_bytes : LoadOp → ℕ
load_bytes loads.I32 = 4
load_bytes loads.I64 = 8
load_bytes loads.I32Narrow8S = 1
load_bytes loads.I32Narrow8U = 1
load_bytes loads.I32Narrow16S = 2
load_bytes loads.I32Narrow16U = 2
load_bytes loads.I64Narrow8S = 1
load_bytes loads.I64Narrow8U = 1
load_bytes loads.I64Narrow16S = 2
load_bytes loads.I64Narrow16U = 2
load_bytes loads.I64Narrow32S = 4
load_bytes loads.I64Narrow32U = 4

abbrev pub store_bytes : StoreOp → ℕ
store_bytes stores.I32 = 4
store_bytes stores.I64 = 8
store_bytes stores.I32Narrow8 = 1
store_bytes stores.I32Narrow16 = 2
store_bytes stores.I64Narrow8 = 1
store_bytes stores.I64Narrow16 = 2
store_bytes stores.I64Narrow32 = 4

-- the value that a load leaves, which a signed one extends as i32.extend8_s and its kin do
abbrev pub extended : LoadOp → ℕ → ℕ
extended loads.I32 n = n
extended loads.I64 n = n
extended loads.I32Narrow8S n = converted 0xC0 n
extended loads.I32Narrow8U n = n
extended loads.I32Narrow16S n = converted 0xC1 n
extended loads.I32Narrow16U n = n
extended loads.I64Narrow8S n = converted 0xC2 n
extended loads.I64Narrow8U n = n
extended loads.I64Narrow16S n = converted 0xC3 n
extended loads.I64Narrow16U n = n
extended loads.I64Narrow32S n = converted 0xC4 n
extended loads.I64Narrow32U n = n

-- a change of the store, with these operands left
abbrev pub stored : Config → List ℕ → Option State → Option Config
stored c rest None = None
stored c rest (Some s) = Some (with_store c rest s)

abbrev pub plain : Op → Config → Option Config
plain op.Nop c = Some c
plain op.Drop c = on_one c.stack (λ x rest. Some (with_stack c rest))
plain op.Select c = on_three c.stack (λ t y x rest. Some (with_stack c ((if i32_in t == 0 then y else x) ∷ rest)))
plain (op.LocalGet i) c = with_some (slice_get c.locals i) (λ v. Some (with_stack c (v ∷ c.stack)))
plain (op.LocalSet i) c = on_one c.stack (λ v rest. Some (with_locals c rest (slice_set c.locals i v)))
plain (op.LocalTee i) c = on_one c.stack (λ v rest. Some (with_locals c (v ∷ rest) (slice_set c.locals i v)))
plain (op.GlobalGet i) c =
    with_some (slice_get c.spaces.globals i) (λ k. with_some (slice_get c.store.globals k) (λ v. Some (with_stack c (word_of v ∷ c.stack))))
plain (op.GlobalSet i) c =
    with_some (slice_get c.spaces.globals i) (λ k. with_some (slice_get c.store.globals k) (λ old. on_one c.stack (λ w rest.
    Some (with_store c rest (record c.store { globals = slice_set c.store.globals k (value_like (length c.store.functions) old w) })))))
plain (op.TableGet i) c =
    with_some (slice_get c.spaces.tables i) (λ k. on_one c.stack (λ at rest. with_ok (got (table_at c.store k) (i32_in at)) (λ r. Some (with_stack c (word_of_ref r ∷ rest)))))
plain (op.TableSet i) c =
    with_some (slice_get c.spaces.tables i) (λ k. on_two c.stack (λ w at rest. stored c rest (set_ref c.store k (i32_in at) (ref_in (length c.store.functions) w))))
plain (op.Load l m) c =
    with_some (slice_get c.spaces.memories 0) (λ k. on_one c.stack (λ at rest.
    with_ok (loaded (memory_at c.store k) (i32_in at + m.offset) (load_bytes l)) (λ n. Some (with_stack c (extended l n ∷ rest)))))
plain (op.Store s m) c =
    with_some (slice_get c.spaces.memories 0) (λ k. on_two c.stack (λ w at rest.
    stored c rest (put_bytes c.store k (i32_in at + m.offset) (bytes_of (store_bytes s) w))))
plain op.MemorySize c = with_some (slice_get c.spaces.memories 0) (λ k. Some (with_stack c (size (memory_at c.store k) ∷ c.stack)))
plain op.MemoryGrow c =
    with_some (slice_get c.spaces.memories 0) (λ k. on_one c.stack (λ n rest.
    Some (with_store c (grown_size c.store k (i32_in n) ∷ rest) (grow_memory c.store k (i32_in n)))))
plain (op.I32Const n) c = Some (with_stack c (cast_unsigned w32 n ∷ c.stack))
plain (op.Numeric code) c = calculate code (numeric code) c
plain (op.RefNull t) c = Some (with_stack c (0 ∷ c.stack))
plain op.RefIsNull c = on_one c.stack (λ w rest. Some (with_stack c (word_of_bool w ∷ rest)))
plain (op.RefFunc i) c = with_some (slice_get c.spaces.functions i) (λ k. Some (with_stack c (suc k ∷ c.stack)))
plain (op.MemoryInit i) c =
    with_some (slice_get c.spaces.memories 0) (λ k. with_some (slice_get c.spaces.segments i) (λ q. on_three c.stack (λ n from to rest.
    stored c rest (move_bytes (segment_at c.store q) c.store k (i32_in to) (i32_in from) (i32_in n)))))
plain (op.DataDrop i) c =
    with_some (slice_get c.spaces.segments i) (λ q. Some (with_store c c.stack (record c.store { segments = slice_set c.store.segments q [] })))
plain op.MemoryCopy c =
    with_some (slice_get c.spaces.memories 0) (λ k. on_three c.stack (λ n from to rest.
    stored c rest (move_bytes (memory_at c.store k).bytes c.store k (i32_in to) (i32_in from) (i32_in n))))
plain op.MemoryFill c =
    with_some (slice_get c.spaces.memories 0) (λ k. on_three c.stack (λ n v at rest.
    stored c rest (put_bytes c.store k (i32_in at) (repeated (i32_in n) (v % 256)))))
plain (op.TableInit segment i) c =
    with_some (slice_get c.spaces.tables i) (λ k. with_some (slice_get c.spaces.elements segment) (λ q. on_three c.stack (λ n from to rest.
    stored c rest (move_refs (elements_at c.store q) c.store k (i32_in to) (i32_in from) (i32_in n)))))
plain (op.ElemDrop i) c =
    with_some (slice_get c.spaces.elements i) (λ q. Some (with_store c c.stack (record c.store { elements = slice_set c.store.elements q [] })))
plain (op.TableCopy to_table from_table) c =
    with_some (slice_get c.spaces.tables to_table) (λ k. with_some (slice_get c.spaces.tables from_table) (λ q. on_three c.stack (λ n from to rest.
    stored c rest (move_refs (table_at c.store q).refs c.store k (i32_in to) (i32_in from) (i32_in n)))))
plain (op.TableGrow i) c =
    with_some (slice_get c.spaces.tables i) (λ k. on_two c.stack (λ n w rest.
    Some (with_store c (grown_table_size c.store k (i32_in n) ∷ rest) (grow_table c.store k (i32_in n) (ref_in (length c.store.functions) w)))))
plain (op.TableSize i) c = with_some (slice_get c.spaces.tables i) (λ k. Some (with_stack c (length (table_at c.store k).refs ∷ c.stack)))
plain (op.TableFill i) c =
    with_some (slice_get c.spaces.tables i) (λ k. on_three c.stack (λ n w at rest.
    stored c rest (fill_refs c.store k (i32_in at) (ref_in (length c.store.functions) w) (i32_in n))))

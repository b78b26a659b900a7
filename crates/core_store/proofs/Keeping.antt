-- What becomes of the store, where each reply's store is related to that of its question.
use Rattle.std.proofs.Common.{◌≡◌, ℕ, zero, suc, ◌+◌, ◌-◌, ◌≤◌, List, [], ◌∷◌, ◌++◌, length, drop, Some, None, Option, Bool, true, false, refl, sym, ap, ◌∙◌, subst, arith, append_assoc}
use Rattle.std.specs.Prelude.{◌==◌, ◌%◌, ◌^◌, ◌&&◌, nat_le, nat_lt, take, if◌then◌else◌, slice_get, slice_set, Result, Ok, Err}
use Rattle.std.specs.Int.{w32, cast_unsigned}
use Rattle.std.proofs.lemmas.List.{length-set}
use Rattle.virt_base.specs.declared.core_type.CoreType.{CoreType}
use Rattle.virt_base.specs.declared.fault.Trap.{Trap}
use Rattle.wasm_ast.specs.declared.module.CoreFunc.{CoreFunc}
use Rattle.wasm_ast.specs.declared.numeric.Numeric.{Numeric}
use Rattle.wasm_ast.specs.Numeric.{numeric}
use Rattle.wasm_ast.specs.declared.instr.Op.{Op}
use Rattle.wasm_ast.specs.declared.instr.Op.TheVariants as op
use Rattle.wasm_ast.specs.declared.instr.Instr.{Instr}
use Rattle.wasm_ast.specs.declared.instr.Instr.TheVariants.{Plain, I64Const, SelectTyped, Unreachable, Block, Loop, If, Else, End, Br, BrIf, BrTable, Return, Call, CallIndirect}
use Rattle.wasm_ast.specs.declared.instr.BlockType.{BlockType}
use Rattle.core_store.specs.Tree.{Seq, Stop, Then, InBlock, InLoop, InIf, tree}
use Rattle.core_memory.specs.Replaced.{replaced, repeated}
use Rattle.core_memory.specs.Number.{bytes_of}
use Rattle.core_memory.specs.Linear.{Linear, written, grown, can_grow, loaded, size}
use Rattle.core_integer.specs.Integer.{integer}
use Rattle.core_store.specs.declared.value.CoreRef.{CoreRef}
use Rattle.core_store.specs.declared.value.CoreRef.TheVariants.{Null, Func}
use Rattle.core_store.specs.declared.value.CoreValue.{CoreValue}
use Rattle.core_store.specs.declared.value.CoreSpaces.{CoreSpaces}
use Rattle.core_store.specs.declared.value.StoreFunc.{StoreFunc}
use Rattle.core_store.specs.declared.value.StoreFunc.TheVariants.{Inside, Outside}
use Rattle.core_store.specs.Table.{Entries, can_grow as table_can_grow, got}
use Rattle.core_store.specs.State.{State, can_enter, memory_at, table_at, segment_at, elements_at}
use Rattle.core_store.specs.Words.{word_of_ref, word_of, words, i32_in, ref_in, value_like, word_of_bool}
use Rattle.core_store.specs.Config.{Config, Reply, Outcome, Done, Trapped, Asks, Spent, TooDeep, Out, Next, Break, Back, Over, then_do, with_stack, with_locals, with_store, kept, type_at, block_params, block_results}
use Rattle.core_store.specs.Effects.{with_memory, with_table, with_refs, put_bytes, move_bytes, set_ref, fill_refs, move_refs, grown_size, grow_memory, grown_table_size, grow_table}
use Rattle.core_store.specs.Plain.{plain, operand_in, load_bytes, store_bytes, extended, stored, on_one, on_two, on_three, with_some, with_ok, calculate}
use Rattle.core_store.specs.Eval.{function_type, block_end, step_then, loop_end, call_end, returned, entered_store, left_store, More, Turn, Enter, advance, pop, choose, target, same_func, enter_if, call_ref, call_place, indirect, single, exec, arguments, replied, deep, enter_within, begun, entered, more, go, finish, outside, eval}
use Rattle.core_store.specs.Scene.{Scene, scene_of}
use Rattle.core_store.specs.Laws.{Answers}
use Rattle.core_store.proofs.Further.{on_one_operand, on_two_operands, longer_too, plain_longer}

-- a store changed, but for what no instruction changes
pub record Same (s t : State) : Type 0 where
  pub scene : scene_of s ≡ scene_of t
  pub nesting : s.nesting ≡ t.nesting

-- ---- instructions that go on keep that, and the replies

pub record Passed (c e : Config) : Type 0 where
  pub store : Same c.store e.store
  pub replies : e.replies ≡ c.replies

abbrev Passes : Config → Option Config → Type 0
Passes c None = Unit {0}
Passes c (Some e) = Passed c e

still : (s : State) → Same s s
still s = record { scene = refl; nesting = refl }

pass : (c : Config) (stack locals : List ℕ) → Passed c (record { stack = stack; locals = locals; spaces = c.spaces; store = c.store; replies = c.replies })
pass c stack locals = record { store = still c.store; replies = refl }

with_store_passes : (c : Config) (stack : List ℕ) (s : State) → Same c.store s → Passed c (with_store c stack s)
with_store_passes c stack s h = record { store = h; replies = refl }

some_passes : {A : Type 0} (c : Config) (o : Option A) (f : A → Option Config) → ((x : A) → Passes c (f x)) → Passes c (with_some o f)
some_passes c None f e = tt
some_passes c (Some x) f e = e x

ok_passes : {A : Type 0} (c : Config) (r : Result A Trap) (f : A → Option Config) → ((x : A) → Passes c (f x)) → Passes c (with_ok r f)
ok_passes c (Ok x) f e = e x
ok_passes c (Err t) f e = tt

one_passes : (c : Config) (xs : List ℕ) (f : ℕ → List ℕ → Option Config) → ((x : ℕ) (rest : List ℕ) → Passes c (f x rest)) → Passes c (on_one xs f)
one_passes c [] f e = tt
one_passes c (x ∷ xs) f e = e x xs

two_passes : (c : Config) (xs : List ℕ) (f : ℕ → ℕ → List ℕ → Option Config) → ((x y : ℕ) (rest : List ℕ) → Passes c (f x y rest)) → Passes c (on_two xs f)
two_passes c [] f e = tt
two_passes c (x ∷ []) f e = tt
two_passes c (x ∷ y ∷ xs) f e = e x y xs

three_passes : (c : Config) (xs : List ℕ) (f : ℕ → ℕ → ℕ → List ℕ → Option Config) → ((x y z : ℕ) (rest : List ℕ) → Passes c (f x y z rest)) → Passes c (on_three xs f)
three_passes c [] f e = tt
three_passes c (x ∷ []) f e = tt
three_passes c (x ∷ y ∷ []) f e = tt
three_passes c (x ∷ y ∷ z ∷ xs) f e = e x y z xs

pub same_memory : (s : State) (k : ℕ) (m : Linear) → Same s (with_memory s k m)
same_memory s k m = record { scene = ap (λ (n : ℕ). record (scene_of s) { memories = n }) (sym (length-set s.memories k m)); nesting = refl }

pub same_table : (s : State) (k : ℕ) (t : Entries) → Same s (with_table s k t)
same_table s k t = record { scene = ap (λ (n : ℕ). record (scene_of s) { tables = n }) (sym (length-set s.tables k t)); nesting = refl }

pub same_segments : (s : State) (k : ℕ) (bytes : List ℕ) → Same s (record s { segments = slice_set s.segments k bytes })
same_segments s k bytes = record { scene = ap (λ (n : ℕ). record (scene_of s) { segments = n }) (sym (length-set s.segments k bytes)); nesting = refl }

pub same_elements : (s : State) (k : ℕ) (refs : List CoreRef) → Same s (record s { elements = slice_set s.elements k refs })
same_elements s k refs = record { scene = ap (λ (n : ℕ). record (scene_of s) { elements = n }) (sym (length-set s.elements k refs)); nesting = refl }

pub same_globals : (s : State) (k : ℕ) (v : CoreValue) → Same s (record s { globals = slice_set s.globals k v })
same_globals s k v = record { scene = ap (λ (n : ℕ). record (scene_of s) { globals = n }) (sym (length-set s.globals k v)); nesting = refl }

-- a change of the store that may trap
abbrev MaySame : State → Option State → Type 0
MaySame s None = Unit {0}
MaySame s (Some t) = Same s t

if_same : (s : State) (b : Bool) (t : State) → Same s t → MaySame s (if b then Some t else None)
if_same s true t h = h
if_same s false t h = tt

-- the changes that instructions make
put_bytes_same : (s : State) (k at : ℕ) (bytes : List ℕ) → MaySame s (put_bytes s k at bytes)
put_bytes_same s k at bytes = if_same s (nat_le (at + length bytes) (length (memory_at s k).bytes)) (with_memory s k (written (memory_at s k) at bytes)) (same_memory s k _)

move_bytes_same : (source : List ℕ) (s : State) (k to from len : ℕ) → MaySame s (move_bytes source s k to from len)
move_bytes_same source s k to from len =
    if_same s (nat_le (from + len) (length source) && nat_le (to + len) (length (memory_at s k).bytes)) (with_memory s k (written (memory_at s k) to (take len (drop from source)))) (same_memory s k _)

set_ref_same : (s : State) (k at : ℕ) (r : CoreRef) → MaySame s (set_ref s k at r)
set_ref_same s k at r = if_same s (nat_lt at (length (table_at s k).refs)) (with_refs s k (slice_set (table_at s k).refs at r)) (same_table s k _)

fill_refs_same : (s : State) (k at : ℕ) (r : CoreRef) (len : ℕ) → MaySame s (fill_refs s k at r len)
fill_refs_same s k at r len = if_same s (nat_le (at + len) (length (table_at s k).refs)) (with_refs s k (replaced (table_at s k).refs at (repeated len r))) (same_table s k _)

move_refs_same : (source : List CoreRef) (s : State) (k to from len : ℕ) → MaySame s (move_refs source s k to from len)
move_refs_same source s k to from len =
    if_same s (nat_le (from + len) (length source) && nat_le (to + len) (length (table_at s k).refs)) (with_refs s k (replaced (table_at s k).refs to (take len (drop from source)))) (same_table s k _)

grow_memory_same : (s : State) (k pages : ℕ) → Same s (grow_memory s k pages)
grow_memory_same s k pages = same_memory s k (if can_grow (memory_at s k) pages then grown (memory_at s k) pages else memory_at s k)

grow_table_same : (s : State) (k by : ℕ) (r : CoreRef) → Same s (grow_table s k by r)
grow_table_same s k by r = same_table s k (if table_can_grow (table_at s k) by then record (table_at s k) { refs = (table_at s k).refs ++ repeated by r } else table_at s k)

stored_passes : (c : Config) (rest : List ℕ) (o : Option State) → MaySame c.store o → Passes c (stored c rest o)
stored_passes c rest None h = tt
stored_passes c rest (Some s) h = record { store = h; replies = refl }

calculate_by : (c : Config) (b : Bool) (x y : Option Config) → Passes c x → Passes c y → Passes c (if b then x else y)
calculate_by c true x y h g = h
calculate_by c false x y h g = g

calculate_passes : (code : ℕ) (n : Option Numeric) (c : Config) → Passes c (calculate code n c)
calculate_passes code None c = tt
calculate_passes code (Some n) c =
    calculate_by c (n.params == 1) (on_one_operand code n c) (on_two_operands code n c)
    (one_passes c c.stack _ (λ x rest. ok_passes c (integer code (operand_in n.from x) 0) (λ r. Some (with_stack c (r ∷ rest))) (λ r. pass c (r ∷ rest) c.locals)))
    (two_passes c c.stack _ (λ y x rest. ok_passes c (integer code (operand_in n.from x) (operand_in n.from y)) (λ r. Some (with_stack c (r ∷ rest))) (λ r. pass c (r ∷ rest) c.locals)))

plain_passes : (o : Op) (c : Config) → Passes c (plain o c)
plain_passes op.Nop c = pass c c.stack c.locals
plain_passes op.Drop c = one_passes c c.stack (λ x rest. Some (with_stack c rest)) (λ x rest. pass c rest c.locals)
plain_passes op.Select c = three_passes c c.stack (λ t y x rest. Some (with_stack c ((if i32_in t == 0 then y else x) ∷ rest))) (λ t y x rest. pass c ((if i32_in t == 0 then y else x) ∷ rest) c.locals)
plain_passes (op.LocalGet i) c = some_passes c (slice_get c.locals i) (λ v. Some (with_stack c (v ∷ c.stack))) (λ v. pass c (v ∷ c.stack) c.locals)
plain_passes (op.LocalSet i) c = one_passes c c.stack (λ v rest. Some (with_locals c rest (slice_set c.locals i v))) (λ v rest. pass c rest (slice_set c.locals i v))
plain_passes (op.LocalTee i) c = one_passes c c.stack (λ v rest. Some (with_locals c (v ∷ rest) (slice_set c.locals i v))) (λ v rest. pass c (v ∷ rest) (slice_set c.locals i v))
plain_passes (op.GlobalGet i) c = some_passes c (slice_get c.spaces.globals i) (λ k. with_some (slice_get c.store.globals k) (λ v. Some (with_stack c (word_of v ∷ c.stack)))) (λ k. some_passes c (slice_get c.store.globals k) (λ v. Some (with_stack c (word_of v ∷ c.stack))) (λ v. pass c (word_of v ∷ c.stack) c.locals))
plain_passes (op.GlobalSet i) c = some_passes c (slice_get c.spaces.globals i) (λ k. with_some (slice_get c.store.globals k) (λ old. on_one c.stack (λ w rest. Some (with_store c rest (record c.store { globals = slice_set c.store.globals k (value_like (length c.store.functions) old w) }))))) (λ k. some_passes c (slice_get c.store.globals k) (λ old. on_one c.stack (λ w rest. Some (with_store c rest (record c.store { globals = slice_set c.store.globals k (value_like (length c.store.functions) old w) })))) (λ old. one_passes c c.stack (λ w rest. Some (with_store c rest (record c.store { globals = slice_set c.store.globals k (value_like (length c.store.functions) old w) }))) (λ w rest. with_store_passes c rest (record c.store { globals = slice_set c.store.globals k (value_like (length c.store.functions) old w) }) (same_globals c.store k (value_like (length c.store.functions) old w)))))
plain_passes (op.TableGet i) c = some_passes c (slice_get c.spaces.tables i) (λ k. on_one c.stack (λ at rest. with_ok (got (table_at c.store k) (i32_in at)) (λ r. Some (with_stack c (word_of_ref r ∷ rest))))) (λ k. one_passes c c.stack (λ at rest. with_ok (got (table_at c.store k) (i32_in at)) (λ r. Some (with_stack c (word_of_ref r ∷ rest)))) (λ at rest. ok_passes c (got (table_at c.store k) (i32_in at)) (λ r. Some (with_stack c (word_of_ref r ∷ rest))) (λ r. pass c (word_of_ref r ∷ rest) c.locals)))
plain_passes (op.TableSet i) c = some_passes c (slice_get c.spaces.tables i) (λ k. on_two c.stack (λ w at rest. stored c rest (set_ref c.store k (i32_in at) (ref_in (length c.store.functions) w)))) (λ k. two_passes c c.stack (λ w at rest. stored c rest (set_ref c.store k (i32_in at) (ref_in (length c.store.functions) w))) (λ w at rest. stored_passes c rest (set_ref c.store k (i32_in at) (ref_in (length c.store.functions) w)) (set_ref_same c.store k (i32_in at) (ref_in (length c.store.functions) w))))
plain_passes (op.Load l m) c = some_passes c (slice_get c.spaces.memories 0) (λ k. on_one c.stack (λ at rest. with_ok (loaded (memory_at c.store k) (i32_in at + m.offset) (load_bytes l)) (λ n. Some (with_stack c (extended l n ∷ rest))))) (λ k. one_passes c c.stack (λ at rest. with_ok (loaded (memory_at c.store k) (i32_in at + m.offset) (load_bytes l)) (λ n. Some (with_stack c (extended l n ∷ rest)))) (λ at rest. ok_passes c (loaded (memory_at c.store k) (i32_in at + m.offset) (load_bytes l)) (λ n. Some (with_stack c (extended l n ∷ rest))) (λ n. pass c (extended l n ∷ rest) c.locals)))
plain_passes (op.Store s m) c = some_passes c (slice_get c.spaces.memories 0) (λ k. on_two c.stack (λ w at rest. stored c rest (put_bytes c.store k (i32_in at + m.offset) (bytes_of (store_bytes s) w)))) (λ k. two_passes c c.stack (λ w at rest. stored c rest (put_bytes c.store k (i32_in at + m.offset) (bytes_of (store_bytes s) w))) (λ w at rest. stored_passes c rest (put_bytes c.store k (i32_in at + m.offset) (bytes_of (store_bytes s) w)) (put_bytes_same c.store k (i32_in at + m.offset) (bytes_of (store_bytes s) w))))
plain_passes op.MemorySize c = some_passes c (slice_get c.spaces.memories 0) (λ k. Some (with_stack c (size (memory_at c.store k) ∷ c.stack))) (λ k. pass c (size (memory_at c.store k) ∷ c.stack) c.locals)
plain_passes op.MemoryGrow c = some_passes c (slice_get c.spaces.memories 0) (λ k. on_one c.stack (λ n rest. Some (with_store c (grown_size c.store k (i32_in n) ∷ rest) (grow_memory c.store k (i32_in n))))) (λ k. one_passes c c.stack (λ n rest. Some (with_store c (grown_size c.store k (i32_in n) ∷ rest) (grow_memory c.store k (i32_in n)))) (λ n rest. with_store_passes c (grown_size c.store k (i32_in n) ∷ rest) (grow_memory c.store k (i32_in n)) (grow_memory_same c.store k (i32_in n))))
plain_passes (op.I32Const n) c = pass c (cast_unsigned w32 n ∷ c.stack) c.locals
plain_passes (op.Numeric code) c = calculate_passes code (numeric code) c
plain_passes (op.RefNull t) c = pass c (0 ∷ c.stack) c.locals
plain_passes op.RefIsNull c = one_passes c c.stack (λ w rest. Some (with_stack c (word_of_bool w ∷ rest))) (λ w rest. pass c (word_of_bool w ∷ rest) c.locals)
plain_passes (op.RefFunc i) c = some_passes c (slice_get c.spaces.functions i) (λ k. Some (with_stack c (suc k ∷ c.stack))) (λ k. pass c (suc k ∷ c.stack) c.locals)
plain_passes (op.MemoryInit i) c = some_passes c (slice_get c.spaces.memories 0) (λ k. with_some (slice_get c.spaces.segments i) (λ q. on_three c.stack (λ n from to rest. stored c rest (move_bytes (segment_at c.store q) c.store k (i32_in to) (i32_in from) (i32_in n))))) (λ k. some_passes c (slice_get c.spaces.segments i) (λ q. on_three c.stack (λ n from to rest. stored c rest (move_bytes (segment_at c.store q) c.store k (i32_in to) (i32_in from) (i32_in n)))) (λ q. three_passes c c.stack (λ n from to rest. stored c rest (move_bytes (segment_at c.store q) c.store k (i32_in to) (i32_in from) (i32_in n))) (λ n from to rest. stored_passes c rest (move_bytes (segment_at c.store q) c.store k (i32_in to) (i32_in from) (i32_in n)) (move_bytes_same (segment_at c.store q) c.store k (i32_in to) (i32_in from) (i32_in n)))))
plain_passes (op.DataDrop i) c = some_passes c (slice_get c.spaces.segments i) (λ q. Some (with_store c c.stack (record c.store { segments = slice_set c.store.segments q [] }))) (λ q. with_store_passes c c.stack (record c.store { segments = slice_set c.store.segments q [] }) (same_segments c.store q []))
plain_passes op.MemoryCopy c = some_passes c (slice_get c.spaces.memories 0) (λ k. on_three c.stack (λ n from to rest. stored c rest (move_bytes (memory_at c.store k).bytes c.store k (i32_in to) (i32_in from) (i32_in n)))) (λ k. three_passes c c.stack (λ n from to rest. stored c rest (move_bytes (memory_at c.store k).bytes c.store k (i32_in to) (i32_in from) (i32_in n))) (λ n from to rest. stored_passes c rest (move_bytes (memory_at c.store k).bytes c.store k (i32_in to) (i32_in from) (i32_in n)) (move_bytes_same (memory_at c.store k).bytes c.store k (i32_in to) (i32_in from) (i32_in n))))
plain_passes op.MemoryFill c = some_passes c (slice_get c.spaces.memories 0) (λ k. on_three c.stack (λ n v at rest. stored c rest (put_bytes c.store k (i32_in at) (repeated (i32_in n) (v % 256))))) (λ k. three_passes c c.stack (λ n v at rest. stored c rest (put_bytes c.store k (i32_in at) (repeated (i32_in n) (v % 256)))) (λ n v at rest. stored_passes c rest (put_bytes c.store k (i32_in at) (repeated (i32_in n) (v % 256))) (put_bytes_same c.store k (i32_in at) (repeated (i32_in n) (v % 256)))))
plain_passes (op.TableInit segment i) c = some_passes c (slice_get c.spaces.tables i) (λ k. with_some (slice_get c.spaces.elements segment) (λ q. on_three c.stack (λ n from to rest. stored c rest (move_refs (elements_at c.store q) c.store k (i32_in to) (i32_in from) (i32_in n))))) (λ k. some_passes c (slice_get c.spaces.elements segment) (λ q. on_three c.stack (λ n from to rest. stored c rest (move_refs (elements_at c.store q) c.store k (i32_in to) (i32_in from) (i32_in n)))) (λ q. three_passes c c.stack (λ n from to rest. stored c rest (move_refs (elements_at c.store q) c.store k (i32_in to) (i32_in from) (i32_in n))) (λ n from to rest. stored_passes c rest (move_refs (elements_at c.store q) c.store k (i32_in to) (i32_in from) (i32_in n)) (move_refs_same (elements_at c.store q) c.store k (i32_in to) (i32_in from) (i32_in n)))))
plain_passes (op.ElemDrop i) c = some_passes c (slice_get c.spaces.elements i) (λ q. Some (with_store c c.stack (record c.store { elements = slice_set c.store.elements q [] }))) (λ q. with_store_passes c c.stack (record c.store { elements = slice_set c.store.elements q [] }) (same_elements c.store q []))
plain_passes (op.TableCopy to_table from_table) c = some_passes c (slice_get c.spaces.tables to_table) (λ k. with_some (slice_get c.spaces.tables from_table) (λ q. on_three c.stack (λ n from to rest. stored c rest (move_refs (table_at c.store q).refs c.store k (i32_in to) (i32_in from) (i32_in n))))) (λ k. some_passes c (slice_get c.spaces.tables from_table) (λ q. on_three c.stack (λ n from to rest. stored c rest (move_refs (table_at c.store q).refs c.store k (i32_in to) (i32_in from) (i32_in n)))) (λ q. three_passes c c.stack (λ n from to rest. stored c rest (move_refs (table_at c.store q).refs c.store k (i32_in to) (i32_in from) (i32_in n))) (λ n from to rest. stored_passes c rest (move_refs (table_at c.store q).refs c.store k (i32_in to) (i32_in from) (i32_in n)) (move_refs_same (table_at c.store q).refs c.store k (i32_in to) (i32_in from) (i32_in n)))))
plain_passes (op.TableGrow i) c = some_passes c (slice_get c.spaces.tables i) (λ k. on_two c.stack (λ n w rest. Some (with_store c (grown_table_size c.store k (i32_in n) ∷ rest) (grow_table c.store k (i32_in n) (ref_in (length c.store.functions) w))))) (λ k. two_passes c c.stack (λ n w rest. Some (with_store c (grown_table_size c.store k (i32_in n) ∷ rest) (grow_table c.store k (i32_in n) (ref_in (length c.store.functions) w)))) (λ n w rest. with_store_passes c (grown_table_size c.store k (i32_in n) ∷ rest) (grow_table c.store k (i32_in n) (ref_in (length c.store.functions) w)) (grow_table_same c.store k (i32_in n) (ref_in (length c.store.functions) w))))
plain_passes (op.TableSize i) c = some_passes c (slice_get c.spaces.tables i) (λ k. Some (with_stack c (length (table_at c.store k).refs ∷ c.stack))) (λ k. pass c (length (table_at c.store k).refs ∷ c.stack) c.locals)
plain_passes (op.TableFill i) c = some_passes c (slice_get c.spaces.tables i) (λ k. on_three c.stack (λ n w at rest. stored c rest (fill_refs c.store k (i32_in at) (ref_in (length c.store.functions) w) (i32_in n)))) (λ k. three_passes c c.stack (λ n w at rest. stored c rest (fill_refs c.store k (i32_in at) (ref_in (length c.store.functions) w) (i32_in n))) (λ n w at rest. stored_passes c rest (fill_refs c.store k (i32_in at) (ref_in (length c.store.functions) w) (i32_in n)) (fill_refs_same c.store k (i32_in at) (ref_in (length c.store.functions) w) (i32_in n))))

-- ---- a process by its replies

abbrev put : Config → List Reply → Config
put c rs = record { stack = c.stack; locals = c.locals; spaces = c.spaces; store = c.store; replies = rs }

-- what goes on without a question does so alike with other replies
plain_put : (o : Op) (c : Config) (rs : List Reply) → plain o (put c rs) ≡ longer_too 0 rs (plain o (put c []))
plain_put o c rs = plain_longer 0 rs o (put c [])

-- R is kept where calls come back, and Q by what is on the way
module _ (R Q : State → State → Type 0)
    (self : (s : State) → R s s)
    (chain : (s t u : State) → R s t → R t u → R s u)
    (weaker : (s t : State) → R s t → Q s t)
    (along : (s t u : State) → Q s t → Q t u → Q s u)
    (same : (s t : State) → Same s t → R s t)
    (begins : (s : State) → Q s (entered_store s))
    (comes_back : (s t : State) → R (entered_store s) t → R s (left_store t)) where
  abbrev Related : (List Reply → Out) → List Reply → Type 0
  Related X rs = (before after : List Reply) (r : Reply) (number : ℕ) (args : List CoreValue) (t : State) (left : ℕ) → rs ≡ before ++ r ∷ after → X before ≡ Over (Asks number args t left) → R t r.store

  -- the process uses some of the replies, and without the others does the same
  record Reaches (s : State) (X : List Reply → Out) (rs : List Reply) (end : Config → Out) (e : Config) : Type 0 where
    stays : R s e.store
    used : List Reply
    all : rs ≡ used ++ e.replies
    again : (others : List Reply) → X (used ++ others) ≡ end (put e others)

  abbrev Stops : State → Outcome → Type 0
  Stops s (Done values t left) = ⊥
  Stops s Trapped = Unit {0}
  Stops s (Asks number args t left) = Q s t
  Stops s Spent = Unit {0}
  Stops s TooDeep = Unit {0}

  abbrev Comes : State → (List Reply → Out) → List Reply → Out → Type 0
  Comes s X rs (Next n e) = Reaches s X rs (Next n) e
  Comes s X rs (Break k n e) = Reaches s X rs (Break k n) e
  Comes s X rs (Back n e) = Reaches s X rs (Back n) e
  Comes s X rs (Over o) = Stops s o

  abbrev Keeps : State → (List Reply → Out) → Type 0
  Keeps s X = (rs : List Reply) → Related X rs → Comes s X rs (X rs)

  reaches : (n : ℕ) (end : Config → Out) (c : Config) (rs : List Reply) → Reaches c.store (λ us. end (put c us)) rs end (put c rs)
  reaches n end c rs = record { stays = self c.store; used = []; all = refl; again = λ others. refl }

  -- an end that is changed alike, whatever the replies
  changed : (s s' : State) (X : List Reply → Out) (F : Out → Out) (rs : List Reply) (end end' : Config → Out) (e e' : Config) → Reaches s X rs end e → R s' e'.store → e'.replies ≡ e.replies → ((others : List Reply) → F (end (put e others)) ≡ end' (put e' others)) → Reaches s' (λ us. F (X us)) rs end' e'
  changed s s' X F rs end end' e e' h stays q alike = record {
    stays = stays;
    used = h.used;
    all = h.all ∙ ap (λ us. h.used ++ us) (sym q);
    again = λ others. ap F (h.again others) ∙ alike others;
  }

  stops_along : (s t : State) (o : Outcome) → R s t → Stops t o → Stops s o
  stops_along s t (Done values u left) r h = h
  stops_along s t Trapped r h = tt
  stops_along s t (Asks number args u left) r h = along s t u (weaker s t r) h
  stops_along s t Spent r h = tt
  stops_along s t TooDeep r h = tt

  -- one process after another
  module _ (s : State) (X : List Reply → Out) (F : Out → Out) (rs : List Reply) (end : Config → Out) (e : Config) (Y : List Reply → Out) (first : Reaches s X rs end e) (goes : (others : List Reply) → F (end (put e others)) ≡ Y others) where
    later : (us others : List Reply) → X ((Reaches.used first ++ us) ++ others) ≡ end (put e (us ++ others))
    later us others = ap X (append_assoc first.used us others) ∙ first.again (us ++ others)

    joined : (end' : Config → Out) (e' : Config) → Reaches e.store Y e.replies end' e' → Reaches s (λ us. F (X us)) rs end' e'
    joined end' e' h = record {
      stays = chain s e.store e'.store first.stays h.stays;
      used = first.used ++ h.used;
      all = first.all ∙ ap (λ us. first.used ++ us) h.all ∙ sym (append_assoc first.used h.used e'.replies);
      again = λ others. ap F (later h.used others) ∙ goes (h.used ++ others) ∙ h.again others;
    }

    joins : (o : Out) → Comes e.store Y e.replies o → Comes s (λ us. F (X us)) rs o
    joins (Next n c) h = joined (Next n) c h
    joins (Break k n c) h = joined (Break k n) c h
    joins (Back n c) h = joined (Back n) c h
    joins (Over o) h = stops_along s e.store o first.stays h

    related : Related (λ us. F (X us)) rs → Related Y e.replies
    related rel before after r number args t left q h =
        rel (first.used ++ before) after r number args t left (first.all ∙ ap (λ us. first.used ++ us) q ∙ sym (append_assoc first.used before (r ∷ after)))
        (ap F (first.again before) ∙ goes before ∙ h)

    onward : Keeps e.store Y → Related (λ us. F (X us)) rs → Comes s (λ us. F (X us)) rs (Y e.replies)
    onward keeps rel = joins (Y e.replies) (keeps e.replies (related rel))

  -- the replies of a part are those of the whole
  part : (X : List Reply → Out) (F : Out → Out) (rs : List Reply) → ((o : Outcome) → F (Over o) ≡ Over o) → Related (λ us. F (X us)) rs → Related X rs
  part X F rs over rel before after r number args t left q h = rel before after r number args t left q (ap F h ∙ over _)

  then_at : (s : State) (X : List Reply → Out) (k : ℕ → Config → Out) (rs : List Reply) (o : Out) → ((n : ℕ) (e : Config) → Keeps e.store (λ us. k n (put e us))) → Related (λ us. then_do (X us) k) rs → Comes s X rs o → Comes s (λ us. then_do (X us) k) rs (then_do o k)
  then_at s X k rs (Next n e) each rel h = onward s X (λ o. then_do o k) rs (Next n) e (λ us. k n (put e us)) h (λ others. refl) (each n e) rel
  then_at s X k rs (Break j n e) each rel h = changed s s X (λ o. then_do o k) rs (Break j n) (Break j n) e e h h.stays refl (λ others. refl)
  then_at s X k rs (Back n e) each rel h = changed s s X (λ o. then_do o k) rs (Back n) (Back n) e e h h.stays refl (λ others. refl)
  then_at s X k rs (Over o) each rel h = h

  then_keeps : (s : State) (X : List Reply → Out) (k : ℕ → Config → Out) → Keeps s X → ((n : ℕ) (e : Config) → Keeps e.store (λ us. k n (put e us))) → Keeps s (λ us. then_do (X us) k)
  then_keeps s X k keeps each rs rel = then_at s X k rs (X rs) each rel (keeps rs (part X (λ o. then_do o k) rs (λ o. refl) rel))

  block_at : (s : State) (X : List Reply → Out) (a j : ℕ) (rs : List Reply) (o : Out) → Comes s X rs o → Comes s (λ us. block_end a j (X us)) rs (block_end a j o)
  block_at s X a j rs (Next n e) h = changed s s X (block_end a j) rs (Next n) (Next n) e e h h.stays refl (λ others. refl)
  block_at s X a j rs (Break zero n e) h = changed s s X (block_end a j) rs (Break zero n) (Next n) e (with_stack e (kept a j e.stack)) h h.stays refl (λ others. refl)
  block_at s X a j rs (Break (suc k) n e) h = changed s s X (block_end a j) rs (Break (suc k) n) (Break k n) e e h h.stays refl (λ others. refl)
  block_at s X a j rs (Back n e) h = changed s s X (block_end a j) rs (Back n) (Back n) e e h h.stays refl (λ others. refl)
  block_at s X a j rs (Over o) h = h

  block_keeps : (s : State) (X : List Reply → Out) (a j : ℕ) → Keeps s X → Keeps s (λ us. block_end a j (X us))
  block_keeps s X a j keeps rs rel = block_at s X a j rs (X rs) (keeps rs (part X (block_end a j) rs (λ o. refl) rel))

  choose_keeps : (s : State) (w : ℕ) (X Y : List Reply → Out) → Keeps s X → Keeps s Y → Keeps s (λ us. choose w (X us) (Y us))
  choose_keeps s zero X Y x y rs rel = x rs rel
  choose_keeps s (suc w) X Y x y rs rel = y rs rel

  pop_keeps : (c : Config) (xs : List ℕ) (f : ℕ → Config → Out) → ((w : ℕ) (e : Config) → Keeps e.store (λ us. f w (put e us))) → Keeps c.store (λ us. pop (put c us) xs f)
  pop_keeps c [] f each rs rel = tt
  pop_keeps c (w ∷ xs) f each rs rel = each w (with_stack c xs) rs rel

  next_keeps : (n : ℕ) (c : Config) → Keeps c.store (λ us. Next n (put c us))
  next_keeps n c rs rel = reaches n (Next n) c rs

  break_keeps : (k n : ℕ) (c : Config) → Keeps c.store (λ us. Break k n (put c us))
  break_keeps k n c rs rel = reaches n (Break k n) c rs

  -- an instruction that goes on
  advance_at : (n : ℕ) (c : Config) (X : List Reply → Option Config) (o : Option Config) → ((us : List Reply) → X us ≡ longer_too 0 us o) → Passes (put c []) o → Keeps c.store (λ us. advance (X us) n)
  advance_at n c X None alike h rs rel = subst (λ z. Comes c.store (λ us. advance (X us) n) rs (advance z n)) (sym (alike rs)) tt
  advance_at n c X (Some e) alike h rs rel =
      let put_on : (us : List Reply) → X us ≡ Some (put e us) = λ us. alike us ∙ ap (λ (vs : List Reply). Some (put e (vs ++ us))) h.replies in
      let there : Reaches c.store (λ us. advance (X us) n) rs (Next n) (put e rs) = record {
        stays = same c.store e.store h.store;
        used = [];
        all = refl;
        again = λ others. ap (λ z. advance z n) (put_on others);
      } in
      subst (λ z. Comes c.store (λ us. advance (X us) n) rs (advance z n)) (sym (put_on rs)) there

  plain_keeps : (o : Op) (n : ℕ) (c : Config) → Keeps c.store (λ us. advance (plain o (put c us)) n)
  plain_keeps o n c = advance_at n c (λ us. plain o (put c us)) (plain o (put c [])) (plain_put o c) (plain_passes o (put c []))

  abbrev AllKeep : (More → ℕ → Config → Out) → Type 0
  AllKeep f = (a : More) (n : ℕ) (c : Config) → Keeps c.store (λ us. f a n (put c us))

  trap_keeps : (s : State) → Keeps s (λ us. Over Trapped)
  trap_keeps s rs rel = tt

  spent_keeps : (s : State) → Keeps s (λ us. Over Spent)
  spent_keeps s rs rel = tt

  module _ (f : More → ℕ → Config → Out) (keeps : AllKeep f) where
    enter_if_keeps : (b : Bool) (h n : ℕ) (c : Config) → Keeps c.store (λ us. enter_if f b h n (put c us))
    enter_if_keeps true h n c = keeps (Enter h) n c
    enter_if_keeps false h n c = trap_keeps c.store

    ref_keeps : (ty : CoreFunc) (r : Result CoreRef Trap) (n : ℕ) (c : Config) → Keeps c.store (λ us. call_ref f ty r n (put c us))
    ref_keeps ty (Err t) n c = trap_keeps c.store
    ref_keeps ty (Ok Null) n c = trap_keeps c.store
    ref_keeps ty (Ok (Func h)) n c = enter_if_keeps (same_func ty (function_type (slice_get c.store.functions h))) h n c

    place_keeps : (o : Option ℕ) (n : ℕ) (c : Config) → Keeps c.store (λ us. call_place f o n (put c us))
    place_keeps None n c = trap_keeps c.store
    place_keeps (Some h) n c = keeps (Enter h) n c

    indirect_keeps : (ty : CoreFunc) (o : Option ℕ) (n : ℕ) (c : Config) → Keeps c.store (λ us. indirect f ty o n (put c us))
    indirect_keeps ty None n c = trap_keeps c.store
    indirect_keeps ty (Some k) n c = pop_keeps c c.stack _ (λ w e. ref_keeps ty (got (table_at e.store k) (i32_in w)) n e)

    single_keeps : (i : Instr) (n : ℕ) (c : Config) → Keeps c.store (λ us. single f i n (put c us))
    single_keeps (Plain o) n c = plain_keeps o n c
    single_keeps (I64Const v) n c = next_keeps n (with_stack c _)
    single_keeps (SelectTyped ts) n c = plain_keeps op.Select n c
    single_keeps Unreachable n c = trap_keeps c.store
    single_keeps (Br k) n c = break_keeps k n c
    single_keeps (BrIf k) n c = pop_keeps c c.stack _ (λ w e. choose_keeps e.store (i32_in w) _ _ (next_keeps n e) (break_keeps k n e))
    single_keeps (BrTable t) n c = pop_keeps c c.stack _ (λ w e. break_keeps (target t.value (i32_in w)) n e)
    single_keeps Return n c = λ rs rel. reaches n (Back n) c rs
    single_keeps (Call i) n c = place_keeps (slice_get c.spaces.functions i) n c
    single_keeps (CallIndirect ty i) n c = indirect_keeps (type_at c.spaces ty) (slice_get c.spaces.tables i) n c
    single_keeps (Block t) n c = trap_keeps c.store
    single_keeps (Loop t) n c = trap_keeps c.store
    single_keeps (If t) n c = trap_keeps c.store
    single_keeps Else n c = trap_keeps c.store
    single_keeps End n c = trap_keeps c.store

    exec_keeps : (q : Seq) (n : ℕ) (c : Config) → Keeps c.store (λ us. exec f q n (put c us))
    exec_keeps Stop n c = next_keeps n c
    exec_keeps (Then i rest) zero c = spent_keeps c.store
    exec_keeps (Then i rest) (suc n) c = then_keeps c.store (λ us. single f i n (put c us)) (exec f rest) (single_keeps i n c) (exec_keeps rest)
    exec_keeps (InBlock t body rest) zero c = spent_keeps c.store
    exec_keeps (InBlock t body rest) (suc n) c =
        then_keeps c.store (λ us. block_end (block_results c.spaces t) (length c.stack - block_params c.spaces t) (exec f body n (put c us))) (exec f rest) (block_keeps c.store (λ us. exec f body n (put c us)) _ _ (exec_keeps body n c)) (exec_keeps rest)
    exec_keeps (InLoop t body rest) zero c = spent_keeps c.store
    exec_keeps (InLoop t body rest) (suc n) c = then_keeps c.store (λ us. f (Turn t body) n (put c us)) (exec f rest) (keeps (Turn t body) n c) (exec_keeps rest)
    exec_keeps (InIf t body other rest) zero c = spent_keeps c.store
    exec_keeps (InIf t body other rest) (suc n) c =
        pop_keeps c c.stack _ (λ w e. then_keeps e.store (λ us. block_end (block_results e.spaces t) (length e.stack - block_params e.spaces t) (choose (i32_in w) (exec f other n (put e us)) (exec f body n (put e us)))) (exec f rest)
        (block_keeps e.store (λ us. choose (i32_in w) (exec f other n (put e us)) (exec f body n (put e us))) _ _ (choose_keeps e.store (i32_in w) _ _ (exec_keeps other n e) (exec_keeps body n e))) (exec_keeps rest))

  step_keeps : (f : ℕ → Config → Out) (n : ℕ) (c : Config) → ((m : ℕ) (e : Config) → Keeps e.store (λ us. f m (put e us))) → Keeps c.store (λ us. step_then f n (put c us))
  step_keeps f zero c each = spent_keeps c.store
  step_keeps f (suc n) c each = each n c

  loop_at : (s : State) (X : List Reply → Out) (a j : ℕ) (f : ℕ → Config → Out) (rs : List Reply) (o : Out) → ((m : ℕ) (e : Config) → Keeps e.store (λ us. f m (put e us))) → Related (λ us. loop_end a j f (X us)) rs → Comes s X rs o → Comes s (λ us. loop_end a j f (X us)) rs (loop_end a j f o)
  loop_at s X a j f rs (Next n e) each rel h = changed s s X (loop_end a j f) rs (Next n) (Next n) e e h h.stays refl (λ others. refl)
  loop_at s X a j f rs (Break zero n e) each rel h =
      onward s X (loop_end a j f) rs (Break zero n) e (λ us. step_then f n (put (with_stack e (kept a j e.stack)) us)) h (λ others. refl) (step_keeps f n (with_stack e (kept a j e.stack)) each) rel
  loop_at s X a j f rs (Break (suc k) n e) each rel h = changed s s X (loop_end a j f) rs (Break (suc k) n) (Break k n) e e h h.stays refl (λ others. refl)
  loop_at s X a j f rs (Back n e) each rel h = changed s s X (loop_end a j f) rs (Back n) (Back n) e e h h.stays refl (λ others. refl)
  loop_at s X a j f rs (Over o) each rel h = h

  loop_keeps : (s : State) (X : List Reply → Out) (a j : ℕ) (f : ℕ → Config → Out) → Keeps s X → ((m : ℕ) (e : Config) → Keeps e.store (λ us. f m (put e us))) → Keeps s (λ us. loop_end a j f (X us))
  loop_keeps s X a j f keeps each rs rel = loop_at s X a j f rs (X rs) each rel (keeps rs (part X (loop_end a j f) rs (λ o. refl) rel))

  stops_outside : (s : State) (o : Outcome) → Stops (entered_store s) o → Stops s o
  stops_outside s (Done values u left) h = h
  stops_outside s Trapped h = tt
  stops_outside s (Asks number args u left) h = along s (entered_store s) u (begins s) h
  stops_outside s Spent h = tt
  stops_outside s TooDeep h = tt

  call_at : (s : State) (X : List Reply → Out) (r : ℕ) (stack locals : List ℕ) (sp : CoreSpaces) (rs : List Reply) (o : Out) → Comes (entered_store s) X rs o → Comes s (λ us. call_end r stack locals sp (X us)) rs (call_end r stack locals sp o)
  call_at s X r stack locals sp rs (Next n e) h = changed (entered_store s) s X (call_end r stack locals sp) rs (Next n) (Next n) e (returned r stack locals sp e) h (comes_back s e.store h.stays) refl (λ others. refl)
  call_at s X r stack locals sp rs (Break zero n e) h = changed (entered_store s) s X (call_end r stack locals sp) rs (Break zero n) (Next n) e (returned r stack locals sp e) h (comes_back s e.store h.stays) refl (λ others. refl)
  call_at s X r stack locals sp rs (Break (suc k) n e) h = tt
  call_at s X r stack locals sp rs (Back n e) h = changed (entered_store s) s X (call_end r stack locals sp) rs (Back n) (Next n) e (returned r stack locals sp e) h (comes_back s e.store h.stays) refl (λ others. refl)
  call_at s X r stack locals sp rs (Over o) h = stops_outside s o h

  call_keeps : (s : State) (X : List Reply → Out) (r : ℕ) (stack locals : List ℕ) (sp : CoreSpaces) → Keeps (entered_store s) X → Keeps s (λ us. call_end r stack locals sp (X us))
  call_keeps s X r stack locals sp keeps rs rel = call_at s X r stack locals sp rs (X rs) (keeps rs (part X (call_end r stack locals sp) rs (λ o. refl) rel))

  deep_keeps : (n : ℕ) (s : State) → Keeps s (λ us. Over (deep n))
  deep_keeps zero s rs rel = tt
  deep_keeps (suc n) s rs rel = tt

  within_keeps : (b : Bool) (n : ℕ) (s : State) (X : List Reply → Out) → Keeps s X → Keeps s (λ us. enter_within b n (X us))
  within_keeps true n s X keeps = keeps
  within_keeps false n s X keeps = deep_keeps n s

  replied_keeps : (ty : CoreFunc) (k n : ℕ) (c : Config) → Keeps c.store (λ us. replied ty k n (put c us) us)
  replied_keeps ty k n c [] rel = weaker c.store c.store (self c.store)
  replied_keeps ty k n c (r ∷ rs) rel = record {
    stays = rel [] rs r k (arguments c.store ty c.stack) c.store n refl refl;
    used = r ∷ [];
    all = refl;
    again = λ others. refl;
  }

  entered_keeps : (f : More → ℕ → Config → Out) → AllKeep f → (o : Option StoreFunc) (n : ℕ) (c : Config) → Keeps c.store (λ us. entered f o n (put c us))
  entered_keeps f keeps None n c = trap_keeps c.store
  entered_keeps f keeps (Some (Inside ty instance locals body)) n c =
      within_keeps (can_enter c.store) n c.store _ (call_keeps c.store (λ us. exec f (tree body) n (begun ty instance (length locals) (put c us))) (length ty.results) (drop (length ty.params) c.stack) c.locals c.spaces (exec_keeps f keeps (tree body) n (begun ty instance (length locals) c)))
  entered_keeps f keeps (Some (Outside ty number)) n c = replied_keeps ty number n c

  more_keeps : (d : ℕ) → AllKeep (more d)
  more_keeps zero a n c = spent_keeps c.store
  more_keeps (suc d) (Turn t body) n c =
      loop_keeps c.store (λ us. exec (more d) body n (put c us)) _ _ (more d (Turn t body)) (exec_keeps (more d) (more_keeps d) body n c) (more_keeps d (Turn t body))
  more_keeps (suc d) (Enter h) n c = entered_keeps (more d) (more_keeps d) (slice_get c.store.functions h) n c

  -- a call from outside
  abbrev pub Ends : State → Outcome → Type 0
  Ends s (Done values t left) = R s t
  Ends s Trapped = Unit {0}
  Ends s (Asks number args t left) = Q s t
  Ends s Spent = Unit {0}
  Ends s TooDeep = Unit {0}

  stops_ends : (s : State) (o : Outcome) → Stops s o → Ends s o
  stops_ends s (Done values t left) h = absurd h
  stops_ends s Trapped h = tt
  stops_ends s (Asks number args t left) h = h
  stops_ends s Spent h = tt
  stops_ends s TooDeep h = tt

  finish_ends : (s : State) (ts : List CoreType) (X : List Reply → Out) (rs : List Reply) (o : Out) → Comes s X rs o → Ends s (finish ts o)
  finish_ends s ts X rs (Next n e) h = h.stays
  finish_ends s ts X rs (Break k n e) h = tt
  finish_ends s ts X rs (Back n e) h = tt
  finish_ends s ts X rs (Over o) h = stops_ends s o h

  pub eval_ends : (s : State) (f : ℕ) (args : List CoreValue) (rs : List Reply) (n : ℕ) → Answers R (λ used. eval s f args used n) rs → Ends s (eval s f args rs n)
  eval_ends s f args rs n x =
      let ts = (function_type (slice_get s.functions f)).results in
      let c = outside (words args) s [] in
      let X : List Reply → Out = λ us. go (Enter f) n (put c us) in
      let rel : Related X rs = λ before after r number vs t left q h. x.each before after r number vs t left q (ap (finish ts) h) in
      finish_ends s ts X rs (X rs) (more_keeps (suc n) (Enter f) n c rs rel)

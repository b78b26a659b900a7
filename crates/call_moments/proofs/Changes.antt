-- No change that an instruction makes, and nothing that is stored, shortens a memory.
use Rattle.std.proofs.Common.{◌≡◌, ℕ, zero, suc, ◌+◌, ◌≤◌, ◌++◌, List, [], ◌∷◌, length, get_or, set, length-append, length-drop, Bool, true, false, Option, Some, None, refl, sym, subst, arith}
use Rattle.std.proofs.lemmas.List.{length-take}
use Rattle.std.specs.Prelude.{◌%◌, ◌==◌, take, drop, if◌then◌else◌, slice_get, Result, Ok, Err}
use Rattle.virt_base.specs.declared.core_type.CoreType.{CoreType}
use Rattle.virt_base.specs.declared.fault.Trap.{Trap}
use Rattle.wasm_ast.specs.declared.numeric.Numeric.{Numeric}
use Rattle.wasm_ast.specs.Numeric.{numeric}
use Rattle.wasm_ast.specs.declared.instr.Op.{Op}
use Rattle.wasm_ast.specs.declared.instr.Op.TheVariants as op
use Rattle.core_memory.specs.Number.{bytes_of}
use Rattle.core_memory.specs.Replaced.{replaced, repeated}
use Rattle.core_integer.specs.Integer.{integer}
use Rattle.core_memory.specs.Linear.{Linear, fresh, written, grown, can_grow, loaded}
use Rattle.core_store.specs.Table.{got}
use Rattle.core_store.specs.State.{State, memory_at, table_at, segment_at, elements_at}
use Rattle.core_store.specs.Words.{i32_in, ref_in}
use Rattle.core_store.specs.Config.{Config, with_locals, with_store}
use Rattle.core_store.specs.Effects.{with_memory, put_bytes, move_bytes, set_ref, fill_refs, move_refs, grow_memory, grow_table}
use Rattle.core_store.specs.Plain.{plain, operand_in, load_bytes, store_bytes, stored, on_one, on_two, on_three, with_some, with_ok, calculate}
use Rattle.abi_layout.specs.Storing.{FlatItem, Step, Ask, Write, Place, Refuse}
use Rattle.abi_store.specs.Plan.{Halt, Asks, Ends, Traps, is_within, goes, Nothing, Given, Asked, Due, tested, goes_on, answered, is_room}
use Rattle.abi_store.specs.Targets.{Stops}
use Rattle.abi_store.specs.declared.target.StoreStep.{StoreStep}
use Rattle.abi_layout.specs.Storing.{Lowered}
use Rattle.abi_store.specs.Plan as plans
use Rattle.call_moments.specs.MemoryLaws.{NoShorter}

-- ---- memories

abbrev longer : Linear → Linear → Type 0
longer m n = length m.bytes ≤ length n.bytes

as_long : (m : Linear) → longer m m
as_long m = omega arith

pub still : (s : State) → NoShorter s s
still s at = as_long (memory_at s at)

pub shorter_on : (s t u : State) → NoShorter s t → NoShorter t u → NoShorter s u
shorter_on s t u x y at = let a = x at in let b = y at in omega arith

one_longer : (xs : List Linear) (k j : ℕ) (m d : Linear) → longer (get_or xs k d) m → longer (get_or xs j d) (get_or (set xs k m) j d)
one_longer [] k j m d h = as_long d
one_longer (x ∷ xs) zero zero m d h = h
one_longer (x ∷ xs) zero (suc j) m d h = as_long (get_or xs j d)
one_longer (x ∷ xs) (suc k) zero m d h = as_long x
one_longer (x ∷ xs) (suc k) (suc j) m d h = one_longer xs k j m d h

pub with_longer : (s : State) (k : ℕ) (m : Linear) → length (memory_at s k).bytes ≤ length m.bytes → NoShorter s (with_memory s k m)
with_longer s k m h at = one_longer s.memories k at m (fresh 0 None) h

longer_replaced : {X : Type 0} (xs : List X) (at : ℕ) (ys : List X) → length xs ≤ length (replaced xs at ys)
longer_replaced xs at ys = simp (length-append, length-drop, length-take) (omega arith)

pub longer_written : (m : Linear) (at : ℕ) (bytes : List ℕ) → length m.bytes ≤ length (written m at bytes).bytes
longer_written m at bytes = longer_replaced m.bytes at bytes

more_behind : (xs ys : List ℕ) → length xs ≤ length (xs ++ ys)
more_behind xs ys = omega (arith, length-append xs ys)

longer_grown : (b : Bool) (m : Linear) (pages : ℕ) → longer m (if b then grown m pages else m)
longer_grown true m pages = more_behind m.bytes _
longer_grown false m pages = as_long m

-- ---- changes of a store that may trap

abbrev MayGrow : State → Option State → Type 0
MayGrow s None = Unit {0}
MayGrow s (Some t) = NoShorter s t

if_grows : (s : State) (b : Bool) (t : State) → NoShorter s t → MayGrow s (if b then Some t else None)
if_grows s true t h = h
if_grows s false t h = tt

put_grows : (s : State) (k at : ℕ) (bytes : List ℕ) → MayGrow s (put_bytes s k at bytes)
put_grows s k at bytes = if_grows s _ (with_memory s k (written (memory_at s k) at bytes)) (with_longer s k _ (longer_written (memory_at s k) at bytes))

move_grows : (source : List ℕ) (s : State) (k to from len : ℕ) → MayGrow s (move_bytes source s k to from len)
move_grows source s k to from len = if_grows s _ (with_memory s k (written (memory_at s k) to (take len (drop from source)))) (with_longer s k _ (longer_written (memory_at s k) to (take len (drop from source))))

-- ---- instructions that go on

pub record Left (c e : Config) : Type 0 where
  pub store : NoShorter c.store e.store
  pub replies : e.replies ≡ c.replies

abbrev pub Leaves : Config → Option Config → Type 0
Leaves c None = Unit {0}
Leaves c (Some e) = Left c e

keeps : (c : Config) (stack locals : List ℕ) → Left c (with_locals c stack locals)
keeps c stack locals = record { store = still c.store; replies = refl }

grows : (c : Config) (stack : List ℕ) (s : State) → NoShorter c.store s → Left c (with_store c stack s)
grows c stack s h = record { store = h; replies = refl }

some_leaves : {A : Type 0} (c : Config) (o : Option A) (f : A → Option Config) → ((x : A) → Leaves c (f x)) → Leaves c (with_some o f)
some_leaves c None f e = tt
some_leaves c (Some x) f e = e x

ok_leaves : {A : Type 0} (c : Config) (r : Result A Trap) (f : A → Option Config) → ((x : A) → Leaves c (f x)) → Leaves c (with_ok r f)
ok_leaves c (Ok x) f e = e x
ok_leaves c (Err t) f e = tt

one_leaves : (c : Config) (xs : List ℕ) (f : ℕ → List ℕ → Option Config) → ((x : ℕ) (rest : List ℕ) → Leaves c (f x rest)) → Leaves c (on_one xs f)
one_leaves c [] f e = tt
one_leaves c (x ∷ xs) f e = e x xs

two_leaves : (c : Config) (xs : List ℕ) (f : ℕ → ℕ → List ℕ → Option Config) → ((x y : ℕ) (rest : List ℕ) → Leaves c (f x y rest)) → Leaves c (on_two xs f)
two_leaves c [] f e = tt
two_leaves c (x ∷ []) f e = tt
two_leaves c (x ∷ y ∷ xs) f e = e x y xs

three_leaves : (c : Config) (xs : List ℕ) (f : ℕ → ℕ → ℕ → List ℕ → Option Config) → ((x y z : ℕ) (rest : List ℕ) → Leaves c (f x y z rest)) → Leaves c (on_three xs f)
three_leaves c [] f e = tt
three_leaves c (x ∷ []) f e = tt
three_leaves c (x ∷ y ∷ []) f e = tt
three_leaves c (x ∷ y ∷ z ∷ xs) f e = e x y z xs

stored_leaves : (c : Config) (rest : List ℕ) (o : Option State) → MayGrow c.store o → Leaves c (stored c rest o)
stored_leaves c rest None h = tt
stored_leaves c rest (Some s) h = grows c rest s h

either_leaves : (c : Config) (b : Bool) (x y : Option Config) → Leaves c x → Leaves c y → Leaves c (if b then x else y)
either_leaves c true x y h g = h
either_leaves c false x y h g = g

calculate_leaves : (code : ℕ) (n : Option Numeric) (c : Config) → Leaves c (calculate code n c)
calculate_leaves code None c = tt
calculate_leaves code (Some n) c =
    either_leaves c (n.params == 1) _ _ (one_leaves c c.stack _ (λ x rest. ok_leaves c (integer code (operand_in n.from x) 0) _ (λ r. keeps c (r ∷ rest) c.locals))) (two_leaves c c.stack _ (λ y x rest. ok_leaves c (integer code (operand_in n.from x) (operand_in n.from y)) _ (λ r. keeps c (r ∷ rest) c.locals)))

put_leaves : (c : Config) (rest : List ℕ) (k at : ℕ) (bytes : List ℕ) → Leaves c (stored c rest (put_bytes c.store k at bytes))
put_leaves c rest k at bytes = stored_leaves c rest (put_bytes c.store k at bytes) (put_grows c.store k at bytes)

move_leaves : (c : Config) (rest source : List ℕ) (k to from len : ℕ) → Leaves c (stored c rest (move_bytes source c.store k to from len))
move_leaves c rest source k to from len = stored_leaves c rest (move_bytes source c.store k to from len) (move_grows source c.store k to from len)

pub plain_leaves : (o : Op) (c : Config) → Leaves c (plain o c)
plain_leaves op.Nop c = keeps c c.stack c.locals
plain_leaves op.Drop c = one_leaves c c.stack _ (λ x rest. keeps c rest c.locals)
plain_leaves op.Select c = three_leaves c c.stack _ (λ t y x rest. keeps c _ c.locals)
plain_leaves (op.LocalGet i) c = some_leaves c (slice_get c.locals i) _ (λ v. keeps c _ c.locals)
plain_leaves (op.LocalSet i) c = one_leaves c c.stack _ (λ v rest. keeps c rest _)
plain_leaves (op.LocalTee i) c = one_leaves c c.stack _ (λ v rest. keeps c _ _)
plain_leaves (op.GlobalGet i) c = some_leaves c (slice_get c.spaces.globals i) _ (λ k. some_leaves c (slice_get c.store.globals k) _ (λ v. keeps c _ c.locals))
plain_leaves (op.GlobalSet i) c = some_leaves c (slice_get c.spaces.globals i) _ (λ k. some_leaves c (slice_get c.store.globals k) _ (λ old. one_leaves c c.stack _ (λ w rest. grows c rest _ (still c.store))))
plain_leaves (op.TableGet i) c = some_leaves c (slice_get c.spaces.tables i) _ (λ k. one_leaves c c.stack _ (λ at rest. ok_leaves c (got (table_at c.store k) (i32_in at)) _ (λ r. keeps c _ c.locals)))
plain_leaves (op.TableSet i) c = some_leaves c (slice_get c.spaces.tables i) _ (λ k. two_leaves c c.stack _ (λ w at rest. stored_leaves c rest (set_ref c.store k (i32_in at) (ref_in (length c.store.functions) w)) (if_grows c.store _ _ (still c.store))))
plain_leaves (op.Load l m) c = some_leaves c (slice_get c.spaces.memories 0) _ (λ k. one_leaves c c.stack _ (λ at rest. ok_leaves c (loaded (memory_at c.store k) (i32_in at + m.offset) (load_bytes l)) _ (λ n. keeps c _ c.locals)))
plain_leaves (op.Store s m) c = some_leaves c (slice_get c.spaces.memories 0) _ (λ k. two_leaves c c.stack _ (λ w at rest. put_leaves c rest k (i32_in at + m.offset) (bytes_of (store_bytes s) w)))
plain_leaves op.MemorySize c = some_leaves c (slice_get c.spaces.memories 0) _ (λ k. keeps c _ c.locals)
plain_leaves op.MemoryGrow c = some_leaves c (slice_get c.spaces.memories 0) _ (λ k. one_leaves c c.stack _ (λ n rest. grows c _ (grow_memory c.store k (i32_in n)) (with_longer c.store k _ (longer_grown (can_grow (memory_at c.store k) (i32_in n)) (memory_at c.store k) (i32_in n)))))
plain_leaves (op.I32Const n) c = keeps c _ c.locals
plain_leaves (op.Numeric code) c = calculate_leaves code (numeric code) c
plain_leaves (op.RefNull t) c = keeps c _ c.locals
plain_leaves op.RefIsNull c = one_leaves c c.stack _ (λ w rest. keeps c _ c.locals)
plain_leaves (op.RefFunc i) c = some_leaves c (slice_get c.spaces.functions i) _ (λ k. keeps c _ c.locals)
plain_leaves (op.MemoryInit i) c = some_leaves c (slice_get c.spaces.memories 0) _ (λ k. some_leaves c (slice_get c.spaces.segments i) _ (λ q. three_leaves c c.stack _ (λ n from to rest. move_leaves c rest (segment_at c.store q) k (i32_in to) (i32_in from) (i32_in n))))
plain_leaves (op.DataDrop i) c = some_leaves c (slice_get c.spaces.segments i) _ (λ q. grows c c.stack _ (still c.store))
plain_leaves op.MemoryCopy c = some_leaves c (slice_get c.spaces.memories 0) _ (λ k. three_leaves c c.stack _ (λ n from to rest. move_leaves c rest (memory_at c.store k).bytes k (i32_in to) (i32_in from) (i32_in n)))
plain_leaves op.MemoryFill c = some_leaves c (slice_get c.spaces.memories 0) _ (λ k. three_leaves c c.stack _ (λ n v at rest. put_leaves c rest k (i32_in at) (repeated (i32_in n) (v % 256))))
plain_leaves (op.TableInit segment i) c = some_leaves c (slice_get c.spaces.tables i) _ (λ k. some_leaves c (slice_get c.spaces.elements segment) _ (λ q. three_leaves c c.stack _ (λ n from to rest. stored_leaves c rest (move_refs (elements_at c.store q) c.store k (i32_in to) (i32_in from) (i32_in n)) (if_grows c.store _ _ (still c.store)))))
plain_leaves (op.ElemDrop i) c = some_leaves c (slice_get c.spaces.elements i) _ (λ q. grows c c.stack _ (still c.store))
plain_leaves (op.TableCopy to_table from_table) c = some_leaves c (slice_get c.spaces.tables to_table) _ (λ k. some_leaves c (slice_get c.spaces.tables from_table) _ (λ q. three_leaves c c.stack _ (λ n from to rest. stored_leaves c rest (move_refs (table_at c.store q).refs c.store k (i32_in to) (i32_in from) (i32_in n)) (if_grows c.store _ _ (still c.store)))))
plain_leaves (op.TableGrow i) c = some_leaves c (slice_get c.spaces.tables i) _ (λ k. two_leaves c c.stack _ (λ n w rest. grows c _ (grow_table c.store k (i32_in n) (ref_in (length c.store.functions) w)) (still c.store)))
plain_leaves (op.TableSize i) c = some_leaves c (slice_get c.spaces.tables i) _ (λ k. keeps c _ c.locals)
plain_leaves (op.TableFill i) c = some_leaves c (slice_get c.spaces.tables i) _ (λ k. three_leaves c c.stack _ (λ n w at rest. stored_leaves c rest (fill_refs c.store k (i32_in at) (ref_in (length c.store.functions) w) (i32_in n)) (if_grows c.store _ _ (still c.store))))

-- ---- storing

abbrev memory_in : Halt → Linear
memory_in (Asks align len left memory) = memory
memory_in (Ends flats memory) = memory
memory_in (Traps memory) = memory

within_longer : (b : Bool) (m : Linear) (x y : Halt) → longer m (memory_in x) → longer m (memory_in y) → longer m (memory_in (if b then x else y))
within_longer true m x y h g = h
within_longer false m x y h g = g

goes_longer : (flats : List FlatItem) (steps : List Step) (m : Linear) → longer m (memory_in (goes flats steps m))
goes_longer flats [] m = as_long m
goes_longer flats (Ask align len ∷ steps) m = as_long m
goes_longer flats (Write base place bytes ∷ steps) m =
    within_longer (is_within m place (length bytes)) m _ (Traps m) (let a = longer_written m place bytes in let b = goes_longer flats steps (written m place bytes) in omega arith) (as_long m)
goes_longer flats (Place base place request ∷ steps) m = as_long m
goes_longer flats (Refuse ∷ steps) m = as_long m

tested_longer : (b : Bool) (left : Lowered) (m : Linear) → longer m (memory_in (tested b left m))
tested_longer true left m = goes_longer left.flats left.steps m
tested_longer false left m = as_long m

plan_longer : (due : Due) (left : Lowered) (answer : Option ℕ) (m : Linear) → longer m (memory_in (goes_on due left answer m))
plan_longer Nothing left answer m = goes_longer left.flats left.steps m
plan_longer (Given place align len) left answer m = tested_longer (is_room m align len place) left m
plan_longer (Asked align len) left None m = as_long m
plan_longer (Asked align len) left (Some place) m = tested_longer (is_room m align len place) (answered place left) m

stops_at : (h : Halt) (types : List CoreType) (step : StoreStep) (plan : plans.Plan) (m : Linear) → Stops h types step plan m → m ≡ memory_in h
stops_at (Asks align len left memory) types step plan m s = s.2
stops_at (Ends flats memory) types step plan m s = s.1
stops_at (Traps memory) types step plan m s = s.1

pub stops_longer : (due : Due) (left : Lowered) (answer : Option ℕ) (types : List CoreType) (step : StoreStep) (plan : plans.Plan) (m n : Linear) → Stops (goes_on due left answer m) types step plan n → length m.bytes ≤ length n.bytes
stops_longer due left answer types step plan m n s = subst (longer m) (sym (stops_at (goes_on due left answer m) types step plan n s)) (plan_longer due left answer m)

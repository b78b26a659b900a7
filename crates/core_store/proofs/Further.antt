-- With more steps and more replies an evaluation ends alike.
use Rattle.std.proofs.Common.{◌≡◌, ℕ, zero, suc, ◌+◌, ◌-◌, ◌<◌, ◌≤◌, List, [], ◌∷◌, ◌++◌, length, drop, Some, None, Option, Bool, true, false, refl, sym, ap, ◌∙◌, subst, arith}
use Rattle.std.specs.Prelude.{◌==◌, ◌%◌, ◌^◌, if◌then◌else◌, slice_get, slice_set, Result, Ok, Err}
use Rattle.std.specs.Int.{w32, cast_unsigned}
use Rattle.std.proofs.lemmas.List.{append-nil}
use Rattle.virt_base.specs.declared.fault.Trap.{Trap}
use Rattle.wasm_ast.specs.declared.module.CoreFunc.{CoreFunc}
use Rattle.wasm_ast.specs.declared.numeric.Numeric.{Numeric}
use Rattle.wasm_ast.specs.Numeric.{numeric}
use Rattle.wasm_ast.specs.declared.instr.Op.{Op}
use Rattle.wasm_ast.specs.declared.instr.Op.TheVariants as op
use Rattle.wasm_ast.specs.declared.instr.Instr.{Instr}
use Rattle.wasm_ast.specs.declared.instr.Instr.TheVariants.{Plain, I64Const, SelectTyped, Unreachable, Block, Loop, If, Else, End, Br, BrIf, BrTable, Return, Call, CallIndirect}
use Rattle.wasm_ast.specs.declared.instr.BlockType.{BlockType}
use Rattle.core_store.specs.Tree.{Seq, Stop, Then, InBlock, InLoop, InIf, tree}
use Rattle.virt_base.specs.declared.core_type.CoreType.{CoreType}
use Rattle.core_integer.specs.Integer.{integer}
use Rattle.core_store.specs.declared.value.CoreRef.{CoreRef}
use Rattle.core_store.specs.declared.value.CoreRef.TheVariants.{Null, Func}
use Rattle.core_store.specs.declared.value.CoreValue.{CoreValue}
use Rattle.core_store.specs.declared.value.CoreSpaces.{CoreSpaces}
use Rattle.core_store.specs.declared.value.StoreFunc.{StoreFunc}
use Rattle.core_store.specs.declared.value.StoreFunc.TheVariants.{Inside, Outside}
use Rattle.core_store.specs.Table.{got}
use Rattle.core_memory.specs.Replaced.{repeated}
use Rattle.core_memory.specs.Number.{bytes_of}
use Rattle.core_memory.specs.Linear.{loaded, size}
use Rattle.core_store.specs.State.{State, can_enter, memory_at, table_at, segment_at, elements_at}
use Rattle.core_store.specs.Words.{word_of_ref, word_of, words, i32_in, ref_in, value_like, word_of_bool}
use Rattle.core_store.specs.Config.{Config, Reply, Outcome, Done, Trapped, Asks, Spent, TooDeep, Out, Next, Break, Back, Over, then_do, with_stack, with_locals, with_store, type_at, block_params, block_results}
use Rattle.core_store.specs.Effects.{put_bytes, move_bytes, set_ref, fill_refs, move_refs, grown_size, grow_memory, grown_table_size, grow_table}
use Rattle.core_store.specs.Plain.{plain, operand_in, load_bytes, store_bytes, extended, stored, on_one, on_two, on_three, with_some, with_ok, calculate}
use Rattle.core_store.specs.Eval.{function_type, block_end, step_then, loop_end, call_end, More, Turn, Enter, advance, pop, choose, target, same_func, enter_if, call_ref, call_place, indirect, single, exec, arguments, replied, deep, enter_within, begun, entered, more, go, finish, outside, eval}
use Rattle.core_store.specs.Laws.{Further, EndsStayWithMoreSteps, Unchanged, EndsStayWithMoreReplies}
use Rattle.core_store.proofs.Steps.{more_same}

-- the two ways of a numeric instruction
abbrev pub on_one_operand : ℕ → Numeric → Config → Option Config
on_one_operand code n c = on_one c.stack (λ x rest. with_ok (integer code (operand_in n.from x) 0) (λ r. Some (with_stack c (r ∷ rest))))

abbrev pub on_two_operands : ℕ → Numeric → Config → Option Config
on_two_operands code n c = on_two c.stack (λ y x rest. with_ok (integer code (operand_in n.from x) (operand_in n.from y)) (λ r. Some (with_stack c (r ∷ rest))))

module _ (d : ℕ) (extra : List Reply) where
  -- d more
  abbrev up : ℕ → ℕ
  up zero = d
  up (suc n) = suc (up n)

  up_is : (n : ℕ) → up n ≡ d + n
  up_is zero = omega arith
  up_is (suc n) = omega (arith, up_is n)

  -- with the further replies
  abbrev pub longer : Config → Config
  longer c = record { stack = c.stack; locals = c.locals; spaces = c.spaces; store = c.store; replies = c.replies ++ extra }

  none_more : d ≡ 0 → up zero ≡ 0
  none_more e = e

  -- what becomes of a piece's end
  abbrev Goes : Out → Out → Type 0
  Goes (Next n c) o = o ≡ Next (up n) (longer c)
  Goes (Break k n c) o = o ≡ Break k (up n) (longer c)
  Goes (Back n c) o = o ≡ Back (up n) (longer c)
  Goes (Over (Done values s left)) o = o ≡ Over (Done values s (up left))
  Goes (Over Trapped) o = o ≡ Over Trapped
  Goes (Over (Asks number args s left)) o = extra ≡ [] → o ≡ Over (Asks number args s (up left))
  Goes (Over Spent) o = d ≡ 0 → o ≡ Over Spent
  Goes (Over TooDeep) o = o ≡ Over TooDeep

  then_goes : (o p : Out) (k l : ℕ → Config → Out) → Goes o p → ((n : ℕ) (c : Config) → Goes (k n c) (l (up n) (longer c))) → Goes (then_do o k) (then_do p l)
  then_goes (Next n c) p k l h each = subst (λ q. Goes (k n c) (then_do q l)) (sym h) (each n c)
  then_goes (Break j n c) p k l h each = ap (λ q. then_do q l) h
  then_goes (Back n c) p k l h each = ap (λ q. then_do q l) h
  then_goes (Over (Done values s left)) p k l h each = ap (λ q. then_do q l) h
  then_goes (Over Trapped) p k l h each = ap (λ q. then_do q l) h
  then_goes (Over (Asks number args s left)) p k l h each = λ e. ap (λ q. then_do q l) (h e)
  then_goes (Over Spent) p k l h each = λ e. ap (λ q. then_do q l) (h e)
  then_goes (Over TooDeep) p k l h each = ap (λ q. then_do q l) h

  -- what an end is changed to that passes on how all ends
  over_goes : (F G : Out → Out) (o : Outcome) (p : Out) → ((q : Outcome) → F (Over q) ≡ Over q) → ((q : Outcome) → G (Over q) ≡ Over q) → Goes (Over o) p → Goes (F (Over o)) (G p)
  over_goes F G (Done values s left) p f g h = subst (λ q. Goes q (G p)) (sym (f (Done values s left))) (ap G h ∙ g _)
  over_goes F G Trapped p f g h = subst (λ q. Goes q (G p)) (sym (f Trapped)) (ap G h ∙ g _)
  over_goes F G (Asks number args s left) p f g h = subst (λ q. Goes q (G p)) (sym (f (Asks number args s left))) (λ e. ap G (h e) ∙ g _)
  over_goes F G Spent p f g h = subst (λ q. Goes q (G p)) (sym (f Spent)) (λ e. ap G (h e) ∙ g _)
  over_goes F G TooDeep p f g h = subst (λ q. Goes q (G p)) (sym (f TooDeep)) (ap G h ∙ g _)

  block_goes : (a k : ℕ) (o p : Out) → Goes o p → Goes (block_end a k o) (block_end a k p)
  block_goes a k (Next n c) p h = ap (block_end a k) h
  block_goes a k (Break zero n c) p h = ap (block_end a k) h
  block_goes a k (Break (suc j) n c) p h = ap (block_end a k) h
  block_goes a k (Back n c) p h = ap (block_end a k) h
  block_goes a k (Over o) p h = over_goes (block_end a k) (block_end a k) o p (λ q. refl) (λ q. refl) h

  choose_goes : (w : ℕ) (a b p q : Out) → Goes a p → Goes b q → Goes (choose w a b) (choose w p q)
  choose_goes zero a b p q h g = h
  choose_goes (suc w) a b p q h g = g

  pop_goes : (c : Config) (xs : List ℕ) (f g : ℕ → Config → Out) → ((w : ℕ) (e : Config) → Goes (f w e) (g w (longer e))) → Goes (pop c xs f) (pop (longer c) xs g)
  pop_goes c [] f g each = refl
  pop_goes c (w ∷ xs) f g each = each w (with_stack c xs)

  -- instructions that go on
  abbrev pub longer_too : Option Config → Option Config
  longer_too None = None
  longer_too (Some c) = Some (longer c)

  some_longer : {A : Type 0} (o : Option A) (f g : A → Option Config) → ((x : A) → g x ≡ longer_too (f x)) → with_some o g ≡ longer_too (with_some o f)
  some_longer None f g e = refl
  some_longer (Some x) f g e = e x

  ok_longer : {A : Type 0} (r : Result A Trap) (f g : A → Option Config) → ((x : A) → g x ≡ longer_too (f x)) → with_ok r g ≡ longer_too (with_ok r f)
  ok_longer (Ok x) f g e = e x
  ok_longer (Err t) f g e = refl

  one_longer : (xs : List ℕ) (f g : ℕ → List ℕ → Option Config) → ((x : ℕ) (rest : List ℕ) → g x rest ≡ longer_too (f x rest)) → on_one xs g ≡ longer_too (on_one xs f)
  one_longer [] f g e = refl
  one_longer (x ∷ xs) f g e = e x xs

  two_longer : (xs : List ℕ) (f g : ℕ → ℕ → List ℕ → Option Config) → ((x y : ℕ) (rest : List ℕ) → g x y rest ≡ longer_too (f x y rest)) → on_two xs g ≡ longer_too (on_two xs f)
  two_longer [] f g e = refl
  two_longer (x ∷ []) f g e = refl
  two_longer (x ∷ y ∷ xs) f g e = e x y xs

  three_longer : (xs : List ℕ) (f g : ℕ → ℕ → ℕ → List ℕ → Option Config) → ((x y z : ℕ) (rest : List ℕ) → g x y z rest ≡ longer_too (f x y z rest)) → on_three xs g ≡ longer_too (on_three xs f)
  three_longer [] f g e = refl
  three_longer (x ∷ []) f g e = refl
  three_longer (x ∷ y ∷ []) f g e = refl
  three_longer (x ∷ y ∷ z ∷ xs) f g e = e x y z xs

  stored_longer : (c : Config) (rest : List ℕ) (o : Option State) → stored (longer c) rest o ≡ longer_too (stored c rest o)
  stored_longer c rest None = refl
  stored_longer c rest (Some s) = refl

  calculate_by : (b : Bool) (x y u v : Option Config) → u ≡ longer_too x → v ≡ longer_too y → (if b then u else v) ≡ longer_too (if b then x else y)
  calculate_by true x y u v e f = e
  calculate_by false x y u v e f = f

  calculate_longer : (code : ℕ) (n : Option Numeric) (c : Config) → calculate code n (longer c) ≡ longer_too (calculate code n c)
  calculate_longer code None c = refl
  calculate_longer code (Some n) c =
      calculate_by (n.params == 1) (on_one_operand code n c) (on_two_operands code n c) (on_one_operand code n (longer c)) (on_two_operands code n (longer c))
      (one_longer c.stack _ _ (λ x rest. ok_longer (integer code (operand_in n.from x) 0) (λ r. Some (with_stack c (r ∷ rest))) _ (λ r. refl)))
      (two_longer c.stack _ _ (λ y x rest. ok_longer (integer code (operand_in n.from x) (operand_in n.from y)) (λ r. Some (with_stack c (r ∷ rest))) _ (λ r. refl)))

  pub plain_longer : (o : Op) (c : Config) → plain o (longer c) ≡ longer_too (plain o c)
  plain_longer op.Nop c = refl
  plain_longer op.Drop c = one_longer c.stack (λ x rest. Some (with_stack c rest)) _ (λ x rest. refl)
  plain_longer op.Select c = three_longer c.stack (λ t y x rest. Some (with_stack c ((if i32_in t == 0 then y else x) ∷ rest))) _ (λ t y x rest. refl)
  plain_longer (op.LocalGet i) c = some_longer (slice_get c.locals i) (λ v. Some (with_stack c (v ∷ c.stack))) _ (λ v. refl)
  plain_longer (op.LocalSet i) c = one_longer c.stack (λ v rest. Some (with_locals c rest (slice_set c.locals i v))) _ (λ v rest. refl)
  plain_longer (op.LocalTee i) c = one_longer c.stack (λ v rest. Some (with_locals c (v ∷ rest) (slice_set c.locals i v))) _ (λ v rest. refl)
  plain_longer (op.GlobalGet i) c = some_longer (slice_get c.spaces.globals i) (λ k. with_some (slice_get c.store.globals k) (λ v. Some (with_stack c (word_of v ∷ c.stack)))) _ (λ k. some_longer (slice_get c.store.globals k) (λ v. Some (with_stack c (word_of v ∷ c.stack))) _ (λ v. refl))
  plain_longer (op.GlobalSet i) c = some_longer (slice_get c.spaces.globals i) (λ k. with_some (slice_get c.store.globals k) (λ old. on_one c.stack (λ w rest. Some (with_store c rest (record c.store { globals = slice_set c.store.globals k (value_like (length c.store.functions) old w) }))))) _ (λ k. some_longer (slice_get c.store.globals k) (λ old. on_one c.stack (λ w rest. Some (with_store c rest (record c.store { globals = slice_set c.store.globals k (value_like (length c.store.functions) old w) })))) _ (λ old. one_longer c.stack (λ w rest. Some (with_store c rest (record c.store { globals = slice_set c.store.globals k (value_like (length c.store.functions) old w) }))) _ (λ w rest. refl)))
  plain_longer (op.TableGet i) c = some_longer (slice_get c.spaces.tables i) (λ k. on_one c.stack (λ at rest. with_ok (got (table_at c.store k) (i32_in at)) (λ r. Some (with_stack c (word_of_ref r ∷ rest))))) _ (λ k. one_longer c.stack (λ at rest. with_ok (got (table_at c.store k) (i32_in at)) (λ r. Some (with_stack c (word_of_ref r ∷ rest)))) _ (λ at rest. ok_longer (got (table_at c.store k) (i32_in at)) (λ r. Some (with_stack c (word_of_ref r ∷ rest))) _ (λ r. refl)))
  plain_longer (op.TableSet i) c = some_longer (slice_get c.spaces.tables i) (λ k. on_two c.stack (λ w at rest. stored c rest (set_ref c.store k (i32_in at) (ref_in (length c.store.functions) w)))) _ (λ k. two_longer c.stack (λ w at rest. stored c rest (set_ref c.store k (i32_in at) (ref_in (length c.store.functions) w))) _ (λ w at rest. stored_longer c rest (set_ref c.store k (i32_in at) (ref_in (length c.store.functions) w))))
  plain_longer (op.Load l m) c = some_longer (slice_get c.spaces.memories 0) (λ k. on_one c.stack (λ at rest. with_ok (loaded (memory_at c.store k) (i32_in at + m.offset) (load_bytes l)) (λ n. Some (with_stack c (extended l n ∷ rest))))) _ (λ k. one_longer c.stack (λ at rest. with_ok (loaded (memory_at c.store k) (i32_in at + m.offset) (load_bytes l)) (λ n. Some (with_stack c (extended l n ∷ rest)))) _ (λ at rest. ok_longer (loaded (memory_at c.store k) (i32_in at + m.offset) (load_bytes l)) (λ n. Some (with_stack c (extended l n ∷ rest))) _ (λ n. refl)))
  plain_longer (op.Store s m) c = some_longer (slice_get c.spaces.memories 0) (λ k. on_two c.stack (λ w at rest. stored c rest (put_bytes c.store k (i32_in at + m.offset) (bytes_of (store_bytes s) w)))) _ (λ k. two_longer c.stack (λ w at rest. stored c rest (put_bytes c.store k (i32_in at + m.offset) (bytes_of (store_bytes s) w))) _ (λ w at rest. stored_longer c rest (put_bytes c.store k (i32_in at + m.offset) (bytes_of (store_bytes s) w))))
  plain_longer op.MemorySize c = some_longer (slice_get c.spaces.memories 0) (λ k. Some (with_stack c (size (memory_at c.store k) ∷ c.stack))) _ (λ k. refl)
  plain_longer op.MemoryGrow c = some_longer (slice_get c.spaces.memories 0) (λ k. on_one c.stack (λ n rest. Some (with_store c (grown_size c.store k (i32_in n) ∷ rest) (grow_memory c.store k (i32_in n))))) _ (λ k. one_longer c.stack (λ n rest. Some (with_store c (grown_size c.store k (i32_in n) ∷ rest) (grow_memory c.store k (i32_in n)))) _ (λ n rest. refl))
  plain_longer (op.I32Const n) c = refl
  plain_longer (op.Numeric code) c = calculate_longer code (numeric code) c
  plain_longer (op.RefNull t) c = refl
  plain_longer op.RefIsNull c = one_longer c.stack (λ w rest. Some (with_stack c (word_of_bool w ∷ rest))) _ (λ w rest. refl)
  plain_longer (op.RefFunc i) c = some_longer (slice_get c.spaces.functions i) (λ k. Some (with_stack c (suc k ∷ c.stack))) _ (λ k. refl)
  plain_longer (op.MemoryInit i) c = some_longer (slice_get c.spaces.memories 0) (λ k. with_some (slice_get c.spaces.segments i) (λ q. on_three c.stack (λ n from to rest. stored c rest (move_bytes (segment_at c.store q) c.store k (i32_in to) (i32_in from) (i32_in n))))) _ (λ k. some_longer (slice_get c.spaces.segments i) (λ q. on_three c.stack (λ n from to rest. stored c rest (move_bytes (segment_at c.store q) c.store k (i32_in to) (i32_in from) (i32_in n)))) _ (λ q. three_longer c.stack (λ n from to rest. stored c rest (move_bytes (segment_at c.store q) c.store k (i32_in to) (i32_in from) (i32_in n))) _ (λ n from to rest. stored_longer c rest (move_bytes (segment_at c.store q) c.store k (i32_in to) (i32_in from) (i32_in n)))))
  plain_longer (op.DataDrop i) c = some_longer (slice_get c.spaces.segments i) (λ q. Some (with_store c c.stack (record c.store { segments = slice_set c.store.segments q [] }))) _ (λ q. refl)
  plain_longer op.MemoryCopy c = some_longer (slice_get c.spaces.memories 0) (λ k. on_three c.stack (λ n from to rest. stored c rest (move_bytes (memory_at c.store k).bytes c.store k (i32_in to) (i32_in from) (i32_in n)))) _ (λ k. three_longer c.stack (λ n from to rest. stored c rest (move_bytes (memory_at c.store k).bytes c.store k (i32_in to) (i32_in from) (i32_in n))) _ (λ n from to rest. stored_longer c rest (move_bytes (memory_at c.store k).bytes c.store k (i32_in to) (i32_in from) (i32_in n))))
  plain_longer op.MemoryFill c = some_longer (slice_get c.spaces.memories 0) (λ k. on_three c.stack (λ n v at rest. stored c rest (put_bytes c.store k (i32_in at) (repeated (i32_in n) (v % 256))))) _ (λ k. three_longer c.stack (λ n v at rest. stored c rest (put_bytes c.store k (i32_in at) (repeated (i32_in n) (v % 256)))) _ (λ n v at rest. stored_longer c rest (put_bytes c.store k (i32_in at) (repeated (i32_in n) (v % 256)))))
  plain_longer (op.TableInit segment i) c = some_longer (slice_get c.spaces.tables i) (λ k. with_some (slice_get c.spaces.elements segment) (λ q. on_three c.stack (λ n from to rest. stored c rest (move_refs (elements_at c.store q) c.store k (i32_in to) (i32_in from) (i32_in n))))) _ (λ k. some_longer (slice_get c.spaces.elements segment) (λ q. on_three c.stack (λ n from to rest. stored c rest (move_refs (elements_at c.store q) c.store k (i32_in to) (i32_in from) (i32_in n)))) _ (λ q. three_longer c.stack (λ n from to rest. stored c rest (move_refs (elements_at c.store q) c.store k (i32_in to) (i32_in from) (i32_in n))) _ (λ n from to rest. stored_longer c rest (move_refs (elements_at c.store q) c.store k (i32_in to) (i32_in from) (i32_in n)))))
  plain_longer (op.ElemDrop i) c = some_longer (slice_get c.spaces.elements i) (λ q. Some (with_store c c.stack (record c.store { elements = slice_set c.store.elements q [] }))) _ (λ q. refl)
  plain_longer (op.TableCopy to_table from_table) c = some_longer (slice_get c.spaces.tables to_table) (λ k. with_some (slice_get c.spaces.tables from_table) (λ q. on_three c.stack (λ n from to rest. stored c rest (move_refs (table_at c.store q).refs c.store k (i32_in to) (i32_in from) (i32_in n))))) _ (λ k. some_longer (slice_get c.spaces.tables from_table) (λ q. on_three c.stack (λ n from to rest. stored c rest (move_refs (table_at c.store q).refs c.store k (i32_in to) (i32_in from) (i32_in n)))) _ (λ q. three_longer c.stack (λ n from to rest. stored c rest (move_refs (table_at c.store q).refs c.store k (i32_in to) (i32_in from) (i32_in n))) _ (λ n from to rest. stored_longer c rest (move_refs (table_at c.store q).refs c.store k (i32_in to) (i32_in from) (i32_in n)))))
  plain_longer (op.TableGrow i) c = some_longer (slice_get c.spaces.tables i) (λ k. on_two c.stack (λ n w rest. Some (with_store c (grown_table_size c.store k (i32_in n) ∷ rest) (grow_table c.store k (i32_in n) (ref_in (length c.store.functions) w))))) _ (λ k. two_longer c.stack (λ n w rest. Some (with_store c (grown_table_size c.store k (i32_in n) ∷ rest) (grow_table c.store k (i32_in n) (ref_in (length c.store.functions) w)))) _ (λ n w rest. refl))
  plain_longer (op.TableSize i) c = some_longer (slice_get c.spaces.tables i) (λ k. Some (with_stack c (length (table_at c.store k).refs ∷ c.stack))) _ (λ k. refl)
  plain_longer (op.TableFill i) c = some_longer (slice_get c.spaces.tables i) (λ k. on_three c.stack (λ n w at rest. stored c rest (fill_refs c.store k (i32_in at) (ref_in (length c.store.functions) w) (i32_in n)))) _ (λ k. three_longer c.stack (λ n w at rest. stored c rest (fill_refs c.store k (i32_in at) (ref_in (length c.store.functions) w) (i32_in n))) _ (λ n w at rest. stored_longer c rest (fill_refs c.store k (i32_in at) (ref_in (length c.store.functions) w) (i32_in n))))

  advance_goes : (n : ℕ) (o p : Option Config) → p ≡ longer_too o → Goes (advance o n) (advance p (up n))
  advance_goes n None p e = ap (λ q. advance q (up n)) e
  advance_goes n (Some c) p e = ap (λ q. advance q (up n)) e

  -- what takes turns and calls does as another with more
  abbrev Follows : (f g : More → ℕ → Config → Out) → Type 0
  Follows f g = (a : More) (n : ℕ) (c : Config) → Goes (f a n c) (g a (up n) (longer c))

  module _ (f g : More → ℕ → Config → Out) (follows : Follows f g) where
    enter_if_goes : (b : Bool) (h n : ℕ) (c : Config) → Goes (enter_if f b h n c) (enter_if g b h (up n) (longer c))
    enter_if_goes true h n c = follows (Enter h) n c
    enter_if_goes false h n c = refl

    ref_goes : (ty : CoreFunc) (r : Result CoreRef Trap) (n : ℕ) (c : Config) → Goes (call_ref f ty r n c) (call_ref g ty r (up n) (longer c))
    ref_goes ty (Err t) n c = refl
    ref_goes ty (Ok Null) n c = refl
    ref_goes ty (Ok (Func h)) n c = enter_if_goes (same_func ty (function_type (slice_get c.store.functions h))) h n c

    place_goes : (o : Option ℕ) (n : ℕ) (c : Config) → Goes (call_place f o n c) (call_place g o (up n) (longer c))
    place_goes None n c = refl
    place_goes (Some h) n c = follows (Enter h) n c

    indirect_goes : (ty : CoreFunc) (o : Option ℕ) (n : ℕ) (c : Config) → Goes (indirect f ty o n c) (indirect g ty o (up n) (longer c))
    indirect_goes ty None n c = refl
    indirect_goes ty (Some k) n c = pop_goes c c.stack _ _ (λ w e. ref_goes ty (got (table_at e.store k) (i32_in w)) n e)

    single_goes : (i : Instr) (n : ℕ) (c : Config) → Goes (single f i n c) (single g i (up n) (longer c))
    single_goes (Plain o) n c = advance_goes n (plain o c) (plain o (longer c)) (plain_longer o c)
    single_goes (I64Const v) n c = refl
    single_goes (SelectTyped ts) n c = advance_goes n (plain op.Select c) (plain op.Select (longer c)) (plain_longer op.Select c)
    single_goes Unreachable n c = refl
    single_goes (Br k) n c = refl
    single_goes (BrIf k) n c = pop_goes c c.stack _ _ (λ w e. choose_goes (i32_in w) _ _ _ _ refl refl)
    single_goes (BrTable t) n c = pop_goes c c.stack _ _ (λ w e. refl)
    single_goes Return n c = refl
    single_goes (Call i) n c = place_goes (slice_get c.spaces.functions i) n c
    single_goes (CallIndirect ty i) n c = indirect_goes (type_at c.spaces ty) (slice_get c.spaces.tables i) n c
    single_goes (Block t) n c = refl
    single_goes (Loop t) n c = refl
    single_goes (If t) n c = refl
    single_goes Else n c = refl
    single_goes End n c = refl

    -- where no step is left, nothing is said but that with none more there is none
    none_left : (q : Seq) (c : Config) (o : Out) → ((e : Config) → exec g q zero e ≡ o) → d ≡ 0 → exec g q (up zero) (longer c) ≡ o
    none_left q c o h e = ap (λ k. exec g q k (longer c)) (none_more e) ∙ h (longer c)

    exec_goes : (q : Seq) (n : ℕ) (c : Config) → Goes (exec f q n c) (exec g q (up n) (longer c))
    exec_goes Stop n c = refl
    exec_goes (Then i rest) zero c = none_left (Then i rest) c (Over Spent) (λ e. refl)
    exec_goes (Then i rest) (suc n) c = then_goes (single f i n c) _ (exec f rest) (exec g rest) (single_goes i n c) (exec_goes rest)
    exec_goes (InBlock t body rest) zero c = none_left (InBlock t body rest) c (Over Spent) (λ e. refl)
    exec_goes (InBlock t body rest) (suc n) c = then_goes _ _ (exec f rest) (exec g rest) (block_goes _ _ (exec f body n c) _ (exec_goes body n c)) (exec_goes rest)
    exec_goes (InLoop t body rest) zero c = none_left (InLoop t body rest) c (Over Spent) (λ e. refl)
    exec_goes (InLoop t body rest) (suc n) c = then_goes (f (Turn t body) n c) _ (exec f rest) (exec g rest) (follows (Turn t body) n c) (exec_goes rest)
    exec_goes (InIf t body other rest) zero c = none_left (InIf t body other rest) c (Over Spent) (λ e. refl)
    exec_goes (InIf t body other rest) (suc n) c =
        pop_goes c c.stack _ _ (λ w e. then_goes _ _ (exec f rest) (exec g rest) (block_goes _ _ _ _ (choose_goes (i32_in w) _ _ _ _ (exec_goes other n e) (exec_goes body n e))) (exec_goes rest))

  step_goes : (f g : ℕ → Config → Out) (n : ℕ) (c : Config) → ((m : ℕ) (e : Config) → Goes (f m e) (g (up m) (longer e))) → Goes (step_then f n c) (step_then g (up n) (longer c))
  step_goes f g zero c each = λ e. ap (λ k. step_then g k (longer c)) (none_more e)
  step_goes f g (suc n) c each = each n c

  loop_goes : (a k : ℕ) (f g : ℕ → Config → Out) (o p : Out) → Goes o p → ((m : ℕ) (e : Config) → Goes (f m e) (g (up m) (longer e))) → Goes (loop_end a k f o) (loop_end a k g p)
  loop_goes a k f g (Next n c) p h each = ap (loop_end a k g) h
  loop_goes a k f g (Break zero n c) p h each = subst (λ q. Goes (loop_end a k f (Break zero n c)) (loop_end a k g q)) (sym h) (step_goes f g n _ each)
  loop_goes a k f g (Break (suc j) n c) p h each = ap (loop_end a k g) h
  loop_goes a k f g (Back n c) p h each = ap (loop_end a k g) h
  loop_goes a k f g (Over o) p h each = over_goes (loop_end a k f) (loop_end a k g) o p (λ q. refl) (λ q. refl) h

  call_goes : (r : ℕ) (stack locals : List ℕ) (sp : CoreSpaces) (o p : Out) → Goes o p → Goes (call_end r stack locals sp o) (call_end r stack locals sp p)
  call_goes r stack locals sp (Next n c) p h = ap (call_end r stack locals sp) h
  call_goes r stack locals sp (Break zero n c) p h = ap (call_end r stack locals sp) h
  call_goes r stack locals sp (Break (suc k) n c) p h = ap (call_end r stack locals sp) h
  call_goes r stack locals sp (Back n c) p h = ap (call_end r stack locals sp) h
  call_goes r stack locals sp (Over o) p h = over_goes (call_end r stack locals sp) (call_end r stack locals sp) o p (λ q. refl) (λ q. refl) h

  deep_goes : (n : ℕ) → Goes (Over (deep n)) (Over (deep (up n)))
  deep_goes zero = λ e. ap (λ k. Over (deep k)) (none_more e)
  deep_goes (suc n) = refl

  within_goes : (b : Bool) (n : ℕ) (o p : Out) → Goes o p → Goes (enter_within b n o) (enter_within b (up n) p)
  within_goes true n o p h = h
  within_goes false n o p h = deep_goes n

  replied_goes : (ty : CoreFunc) (k n : ℕ) (c : Config) (rs : List Reply) → Goes (replied ty k n c rs) (replied ty k (up n) (longer c) (rs ++ extra))
  replied_goes ty k n c [] = λ e. ap (replied ty k (up n) (longer c)) e
  replied_goes ty k n c (r ∷ rs) = refl

  entered_goes : (f g : More → ℕ → Config → Out) → Follows f g → (o : Option StoreFunc) (n : ℕ) (c : Config) → Goes (entered f o n c) (entered g o (up n) (longer c))
  entered_goes f g follows None n c = refl
  entered_goes f g follows (Some (Inside ty instance locals body)) n c =
      within_goes (can_enter c.store) n _ _ (call_goes (length ty.results) (drop (length ty.params) c.stack) c.locals c.spaces _ _ (exec_goes f g follows (tree body) n (begun ty instance (length locals) c)))
  entered_goes f g follows (Some (Outside ty number)) n c = replied_goes ty number n c c.replies

  -- at one depth
  more_goes : (k : ℕ) → Follows (more k) (more k)
  more_goes zero a n c = λ e. refl
  more_goes (suc k) (Turn t body) n c = loop_goes _ _ (more k (Turn t body)) (more k (Turn t body)) (exec (more k) body n c) _ (exec_goes (more k) (more k) (more_goes k) body n c) (more_goes k (Turn t body))
  more_goes (suc k) (Enter h) n c = entered_goes (more k) (more k) (more_goes k) (slice_get c.store.functions h) n c

  -- the depth does not matter
  go_goes : Follows go go
  go_goes a n c =
      subst (λ o. Goes o (go a (up n) (longer c))) (more_same (suc (up n)) (suc n) a n c (omega (arith, up_is n)) (omega arith)) (more_goes (suc (up n)) a n c)

  -- a call from outside
  abbrev Ends : Outcome → Outcome → Type 0
  Ends (Done values s left) o = o ≡ Done values s (up left)
  Ends Trapped o = o ≡ Trapped
  Ends (Asks number args s left) o = extra ≡ [] → o ≡ Asks number args s (up left)
  Ends Spent o = d ≡ 0 → o ≡ Spent
  Ends TooDeep o = o ≡ TooDeep

  finish_goes : (ts : List CoreType) (o p : Out) → Goes o p → Ends (finish ts o) (finish ts p)
  finish_goes ts (Next n c) p h = ap (finish ts) h
  finish_goes ts (Break k n c) p h = ap (finish ts) h
  finish_goes ts (Back n c) p h = ap (finish ts) h
  finish_goes ts (Over (Done values s left)) p h = ap (finish ts) h
  finish_goes ts (Over Trapped) p h = ap (finish ts) h
  finish_goes ts (Over (Asks number args s left)) p h = λ e. ap (finish ts) (h e)
  finish_goes ts (Over Spent) p h = λ e. ap (finish ts) (h e)
  finish_goes ts (Over TooDeep) p h = ap (finish ts) h

  eval_goes : (s : State) (f : ℕ) (args : List CoreValue) (rs : List Reply) (n : ℕ) → Ends (eval s f args rs n) (eval s f args (rs ++ extra) (up n))
  eval_goes s f args rs n = finish_goes (function_type (slice_get s.functions f)).results _ _ (go_goes (Enter f) n (outside (words args) s rs))

further_from : (d : ℕ) (o p : Outcome) → Ends d [] o p → Further d o p
further_from d (Done values s left) p h = h ∙ ap (Done values s) (up_is d [] left)
further_from d Trapped p h = h
further_from d (Asks number args s left) p h = h refl ∙ ap (Asks number args s) (up_is d [] left)
further_from d Spent p h = tt
further_from d TooDeep p h = h

pub further : EndsStayWithMoreSteps
further s f args rs n d =
    further_from d (eval s f args rs n) (eval s f args rs (d + n)) (subst (λ k. Ends d [] (eval s f args rs n) (eval s f args rs k)) (up_is d [] n) (subst (λ us. Ends d [] (eval s f args rs n) (eval s f args us (up d [] n))) (append-nil rs) (eval_goes d [] s f args rs n)))

unchanged_from : (extra : List Reply) (o p : Outcome) → Ends 0 extra o p → Unchanged o p
unchanged_from extra (Done values s left) p h = h ∙ ap (Done values s) (let e : up 0 extra left ≡ left = omega (arith, up_is 0 extra left) in e)
unchanged_from extra Trapped p h = h
unchanged_from extra (Asks number args s left) p h = tt
unchanged_from extra Spent p h = h refl
unchanged_from extra TooDeep p h = h

pub unchanged : EndsStayWithMoreReplies
unchanged s f args rs extra n =
    let e : up 0 extra n ≡ n = omega (arith, up_is 0 extra n) in
    unchanged_from extra (eval s f args rs n) (eval s f args (rs ++ extra) n) (subst (λ k. Ends 0 extra (eval s f args rs n) (eval s f args (rs ++ extra) k)) e (eval_goes 0 extra s f args rs n))

-- Core evaluation, by recursion on the structured syntax (WebAssembly Core 2.0, sections 4.4.8 to 4.4.10). Each instruction takes a step, but for `else`
-- and `end`. The steps are those of the modules' own instructions: what happens in a call of the embedder is counted by the one who answers it.
use Rattle.std.specs.Prelude.{ℕ, zero, suc, ◌+◌, ◌-◌, ◌&&◌, Bool, true, false, List, [], ◌∷◌, ◌++◌, length, take, drop, reverse, replicate, slice_get, slice_index_or, Option, Some, None, Result, Ok, Err}
use Rattle.std.specs.Int.{w64, cast_unsigned}
use Rattle.virt_base.specs.declared.fault.Trap.{Trap}
use Rattle.virt_base.specs.declared.core_type.CoreType.{CoreType}
use Rattle.virt_base.specs.declared.core_type.CoreType.TheVariants as types
use Rattle.wasm_ast.specs.declared.module.CoreFunc.{CoreFunc}
use Rattle.wasm_ast.specs.declared.instr.BlockType.{BlockType}
use Rattle.wasm_ast.specs.declared.instr.BranchTable.{BranchTable}
use Rattle.wasm_ast.specs.declared.instr.Op.TheVariants as op
use Rattle.wasm_ast.specs.declared.instr.Instr.{Instr}
use Rattle.wasm_ast.specs.declared.instr.Instr.TheVariants.{Plain, I64Const, SelectTyped, Unreachable, Block, Loop, If, Else, End, Br, BrIf, BrTable, Return, Call, CallIndirect}
use Rattle.core_store.specs.Tree.{Seq, Stop, Then, InBlock, InLoop, InIf, tree}
use Rattle.core_store.specs.declared.value.CoreRef.{CoreRef}
use Rattle.core_store.specs.declared.value.CoreRef.TheVariants.{Null, Func}
use Rattle.core_store.specs.declared.value.CoreValue.{CoreValue}
use Rattle.core_store.specs.declared.value.CoreSpaces.{CoreSpaces}
use Rattle.core_store.specs.declared.value.StoreFunc.{StoreFunc}
use Rattle.core_store.specs.declared.value.StoreFunc.TheVariants.{Inside, Outside}
use Rattle.core_store.specs.Table.{got}
use Rattle.core_store.specs.State.{State, can_enter, table_at}
use Rattle.core_store.specs.Words.{words, i32_in, values_in}
use Rattle.core_store.specs.Config.{Config, Reply, Outcome, Done, Trapped, Asks, Spent, TooDeep, Out, Next, Break, Back, Over, then_do, with_stack, kept, bare, spaces_of, untyped, type_at, block_params, block_results}
use Rattle.core_store.specs.Plain.{plain}

abbrev pub type_of : StoreFunc → CoreFunc
type_of (Inside ty instance locals body) = ty
type_of (Outside ty number) = ty

abbrev pub function_type : Option StoreFunc → CoreFunc
function_type None = untyped
function_type (Some f) = type_of f

-- the end of a block, to which a branch to its label leads
abbrev pub block_end : ℕ → ℕ → Out → Out
block_end arity height (Next n c) = Next n c
block_end arity height (Break zero n c) = Next n (with_stack c (kept arity height c.stack))
block_end arity height (Break (suc k) n c) = Break k n c
block_end arity height (Back n c) = Back n c
block_end arity height (Over o) = Over o

-- a step is taken, if one is left
abbrev pub step_then : (ℕ → Config → Out) → ℕ → Config → Out
step_then go zero c = Over Spent
step_then go (suc n) c = go n c

-- the end of a loop's body: a branch to its label begins the loop instruction again, which takes its step
abbrev pub loop_end : ℕ → ℕ → (ℕ → Config → Out) → Out → Out
loop_end arity height turn (Next n c) = Next n c
loop_end arity height turn (Break zero n c) = step_then turn n (with_stack c (kept arity height c.stack))
loop_end arity height turn (Break (suc k) n c) = Break k n c
loop_end arity height turn (Back n c) = Back n c
loop_end arity height turn (Over o) = Over o

-- calls in progress are counted
abbrev pub entered_store : State → State
entered_store s = record s { nesting = s.nesting + 1 }

abbrev pub left_store : State → State
left_store s = record s { nesting = s.nesting - 1 }

-- the end of a function's body: its results are put on its caller's operands
abbrev pub returned : ℕ → List ℕ → List ℕ → CoreSpaces → Config → Config
returned results stack locals spaces c = record {
  stack = take results c.stack ++ stack;
  locals = locals;
  spaces = spaces;
  store = left_store c.store;
  replies = c.replies;
}

abbrev pub call_end : ℕ → List ℕ → List ℕ → CoreSpaces → Out → Out
call_end results stack locals spaces (Next n c) = Next n (returned results stack locals spaces c)
call_end results stack locals spaces (Break zero n c) = Next n (returned results stack locals spaces c)
call_end results stack locals spaces (Break (suc k) n c) = Over Trapped
call_end results stack locals spaces (Back n c) = Next n (returned results stack locals spaces c)
call_end results stack locals spaces (Over o) = Over o

-- what takes another turn of a loop, or the body of the function at a place
pub data More : Type 0 where
  Turn : (type : BlockType) (body : Seq) → More
  Enter : (function : ℕ) → More

abbrev pub advance : Option Config → ℕ → Out
advance None n = Over Trapped
advance (Some c) n = Next n c

-- goes on with the topmost operand
abbrev pub pop : Config → List ℕ → (ℕ → Config → Out) → Out
pop c [] go = Over Trapped
pop c (w ∷ rest) go = go w (with_stack c rest)

-- one way where an i32 is 0, and else the other
abbrev pub choose : ℕ → Out → Out → Out
choose zero a b = a
choose (suc w) a b = b

-- the label to which a br_table leads
abbrev pub target : BranchTable → ℕ → ℕ
target t w = slice_index_or t.labels w t.default

-- types are equal by their lists
abbrev pub same_type : CoreType → CoreType → Bool
same_type types.I32 types.I32 = true
same_type types.I64 types.I64 = true
same_type types.Funcref types.Funcref = true
same_type types.Externref types.Externref = true
same_type t u = false

abbrev pub same_types : List CoreType → List CoreType → Bool
same_types [] [] = true
same_types [] (u ∷ us) = false
same_types (t ∷ ts) [] = false
same_types (t ∷ ts) (u ∷ us) = same_type t u && same_types ts us

abbrev pub same_func : CoreFunc → CoreFunc → Bool
same_func f g = same_types f.params g.params && same_types f.results g.results

-- the function that a call_indirect calls: it traps past the table's end, at a null, and at another type
abbrev pub enter_if : (More → ℕ → Config → Out) → Bool → ℕ → ℕ → Config → Out
enter_if more true f n c = more (Enter f) n c
enter_if more false f n c = Over Trapped

abbrev pub call_ref : (More → ℕ → Config → Out) → CoreFunc → Result CoreRef Trap → ℕ → Config → Out
call_ref more ty (Err trap) n c = Over Trapped
call_ref more ty (Ok Null) n c = Over Trapped
call_ref more ty (Ok (Func f)) n c = enter_if more (same_func ty (function_type (slice_get c.store.functions f))) f n c

abbrev pub call_place : (More → ℕ → Config → Out) → Option ℕ → ℕ → Config → Out
call_place more None n c = Over Trapped
call_place more (Some f) n c = more (Enter f) n c

abbrev pub indirect : (More → ℕ → Config → Out) → CoreFunc → Option ℕ → ℕ → Config → Out
indirect more ty None n c = Over Trapped
indirect more ty (Some k) n c = pop c c.stack (λ w c'. call_ref more ty (got (table_at c'.store k) (i32_in w)) n c')

-- one instruction that holds no others
abbrev pub single : (More → ℕ → Config → Out) → Instr → ℕ → Config → Out
single more (Plain o) n c = advance (plain o c) n
single more (I64Const v) n c = Next n (with_stack c (cast_unsigned w64 v ∷ c.stack))
single more (SelectTyped ts) n c = advance (plain op.Select c) n
single more Unreachable n c = Over Trapped
single more (Br k) n c = Break k n c
single more (BrIf k) n c = pop c c.stack (λ w c'. choose (i32_in w) (Next n c') (Break k n c'))
single more (BrTable t) n c = pop c c.stack (λ w c'. Break (target t.value (i32_in w)) n c')
single more Return n c = Back n c
single more (Call i) n c = call_place more (slice_get c.spaces.functions i) n c
single more (CallIndirect ty i) n c = indirect more (type_at c.spaces ty) (slice_get c.spaces.tables i) n c
single more (Block t) n c = Over Trapped
single more (Loop t) n c = Over Trapped
single more (If t) n c = Over Trapped
single more Else n c = Over Trapped
single more End n c = Over Trapped

-- a sequence
abbrev pub exec : (More → ℕ → Config → Out) → Seq → ℕ → Config → Out
exec more Stop n c = Next n c
exec more (Then i rest) zero c = Over Spent
exec more (Then i rest) (suc n) c = then_do (single more i n c) (exec more rest)
exec more (InBlock t body rest) zero c = Over Spent
exec more (InBlock t body rest) (suc n) c =
    then_do (block_end (block_results c.spaces t) (length c.stack - block_params c.spaces t) (exec more body n c)) (exec more rest)
exec more (InLoop t body rest) zero c = Over Spent
exec more (InLoop t body rest) (suc n) c = then_do (more (Turn t body) n c) (exec more rest)
exec more (InIf t body other rest) zero c = Over Spent
exec more (InIf t body other rest) (suc n) c =
    pop c c.stack (λ w c'. then_do (block_end (block_results c'.spaces t) (length c'.stack - block_params c'.spaces t) (choose (i32_in w) (exec more other n c') (exec more body n c'))) (exec more rest))

-- the arguments of a call, the last one topmost
abbrev pub arguments : State → CoreFunc → List ℕ → List CoreValue
arguments s ty stack = values_in (length s.functions) ty.params (reverse (take (length ty.params) stack))

-- a function of the embedder: its reply, or the question where the replies are used up
abbrev pub replied : CoreFunc → ℕ → ℕ → Config → List Reply → Out
replied ty number n c [] = Over (Asks number (arguments c.store ty c.stack) c.store n)
replied ty number n c (r ∷ rs) =
    Next n (record { stack = reverse (words r.results) ++ drop (length ty.params) c.stack; locals = c.locals; spaces = c.spaces; store = r.store; replies = rs })

-- a call more than the store's limit allows
abbrev pub deep : ℕ → Outcome
deep zero = Spent
deep (suc n) = TooDeep

abbrev pub enter_within : Bool → ℕ → Out → Out
enter_within true n o = o
enter_within false n o = Over (deep n)

-- a call of a function of a module begins with its arguments and zeros as locals
abbrev pub begun : CoreFunc → ℕ → ℕ → Config → Config
begun ty instance locals c = record {
  stack = [];
  locals = reverse (take (length ty.params) c.stack) ++ replicate locals 0;
  spaces = spaces_of c.store.instances instance;
  store = entered_store c.store;
  replies = c.replies;
}

abbrev pub entered : (More → ℕ → Config → Out) → Option StoreFunc → ℕ → Config → Out
entered more None n c = Over Trapped
entered more (Some (Inside ty instance locals body)) n c =
    enter_within (can_enter c.store) n
    (call_end (length ty.results) (drop (length ty.params) c.stack) c.locals c.spaces (exec more (tree body) n (begun ty instance (length locals) c)))
entered more (Some (Outside ty number)) n c = replied ty number n c c.replies

-- turns of loops and calls, nested at most d deep
abbrev pub more : ℕ → More → ℕ → Config → Out
more zero m n c = Over Spent
more (suc d) (Turn t body) n c =
    loop_end (block_params c.spaces t) (length c.stack - block_params c.spaces t) (more d (Turn t body)) (exec (more d) body n c)
more (suc d) (Enter f) n c = entered (more d) (slice_get c.store.functions f) n c

-- each takes a step, so with n steps they are never nested deeper than this
abbrev pub go : More → ℕ → Config → Out
go m n c = more (suc n) m n c

-- how a call from outside ends, whose results have these types
abbrev pub finish : List CoreType → Out → Outcome
finish ts (Next n c) = Done (values_in (length c.store.functions) ts (reverse c.stack)) c.store n
finish ts (Break k n c) = Trapped
finish ts (Back n c) = Trapped
finish ts (Over o) = o

-- before a call from outside: these words as operands, the last one topmost
abbrev pub outside : List ℕ → State → List Reply → Config
outside ws store replies = record { stack = reverse ws; locals = []; spaces = bare; store = store; replies = replies }

-- a call of the function at a place with these arguments, in at most n steps, where calls of the embedder's functions answer these replies
abbrev pub eval : State → ℕ → List CoreValue → List Reply → ℕ → Outcome
eval store f args replies n =
    finish (function_type (slice_get store.functions f)).results (go (Enter f) n (outside (words args) store replies))

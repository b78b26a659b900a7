-- Core code that asks nothing, or ends in a question, shortens no memory.
use Rattle.std.proofs.Common.{◌≡◌, ℕ, zero, suc, List, [], ◌∷◌, length, drop, Bool, true, false, Option, Some, None, refl, sym, ◌∙◌, subst}
use Rattle.std.specs.Prelude.{slice_get, Result, Ok, Err}
use Rattle.virt_base.specs.declared.core_type.CoreType.{CoreType}
use Rattle.virt_base.specs.declared.fault.Trap.{Trap}
use Rattle.wasm_ast.specs.declared.module.CoreFunc.{CoreFunc}
use Rattle.wasm_ast.specs.declared.instr.Op.TheVariants as op
use Rattle.wasm_ast.specs.declared.instr.Instr.{Instr}
use Rattle.wasm_ast.specs.declared.instr.Instr.TheVariants.{Plain, I64Const, SelectTyped, Unreachable, Block, Loop, If, Else, End, Br, BrIf, BrTable, Return, Call, CallIndirect}
use Rattle.core_store.specs.Tree.{Part, first, Seq, Stop, Then, InBlock, InLoop, InIf, tree}
use Rattle.core_store.specs.declared.value.CoreRef.{CoreRef}
use Rattle.core_store.specs.declared.value.CoreRef.TheVariants.{Null, Func}
use Rattle.core_store.specs.declared.value.CoreSpaces.{CoreSpaces}
use Rattle.core_store.specs.declared.value.StoreFunc.{StoreFunc}
use Rattle.core_store.specs.declared.value.StoreFunc.TheVariants.{Inside, Outside}
use Rattle.core_store.specs.Table.{got}
use Rattle.core_store.specs.State.{State, can_enter, table_at}
use Rattle.core_store.specs.Words.{i32_in}
use Rattle.core_store.specs.Config.{Config, Reply, Outcome, Done, Trapped, Asks, Spent, TooDeep, Out, Next, Break, Back, Over, then_do, with_stack, kept, bare, type_at}
use Rattle.core_store.specs.Plain.{plain}
use Rattle.core_store.specs.Eval.{function_type, block_end, step_then, loop_end, call_end, entered_store, More, Turn, Enter, advance, pop, choose, target, same_func, enter_if, call_ref, call_place, indirect, single, exec, replied, deep, enter_within, begun, entered, more, go, finish}
use Rattle.core_store.specs.Scene.{Scene, scene_of, code_at, spaces_at}
use Rattle.core_slots.specs.Stacked.{Stacked}
use Rattle.core_interp.specs.declared.control.Control.{Control}
use Rattle.core_interp.specs.declared.machine.Stage.{Stage}
use Rattle.core_interp.specs.declared.machine.Stage.TheVariants.{Starts, Runs, Answered, Due}
use Rattle.core_interp.specs.declared.machine.Machine.{Machine}
use Rattle.core_interp.specs.Rest.{Cont, AfterLabel, AfterCall, AtEntry, label_end, after, conts, config_of, goes_with}
use Rattle.core_interp.specs.Run.{progress, goes, own_parts}
use Rattle.core_interp.specs.Session.{results_due, goes_staged, goes_on}
use Rattle.call_moments.specs.MemoryLaws.{NoShorter}
use Rattle.call_moments.proofs.Changes.{still, shorter_on, Leaves, plain_leaves}

-- ends of a whole run, and of a piece of code that has no replies
abbrev pub Ended : State → Outcome → Type 0
Ended s (Done values t left) = NoShorter s t
Ended s Trapped = Unit {0}
Ended s (Asks number args t left) = NoShorter s t
Ended s Spent = Unit {0}
Ended s TooDeep = Unit {0}

record Came (s : State) (c : Config) : Type 0 where
  store : NoShorter s c.store
  none : c.replies ≡ []

abbrev Comes : State → Out → Type 0
Comes s (Next n c) = Came s c
Comes s (Break k n c) = Came s c
Comes s (Back n c) = Came s c
Comes s (Over o) = Ended s o

came_on : (s t : State) (c : Config) → NoShorter s t → Came t c → Came s c
came_on s t c x h = record { store = shorter_on s t c.store x h.store; none = h.none }

ended_on : (s t : State) (o : Outcome) → NoShorter s t → Ended t o → Ended s o
ended_on s t (Done values u left) x h = shorter_on s t u x h
ended_on s t Trapped x h = tt
ended_on s t (Asks number args u left) x h = shorter_on s t u x h
ended_on s t Spent x h = tt
ended_on s t TooDeep x h = tt

comes_on : (s t : State) (o : Out) → NoShorter s t → Comes t o → Comes s o
comes_on s t (Next n c) x h = came_on s t c x h
comes_on s t (Break k n c) x h = came_on s t c x h
comes_on s t (Back n c) x h = came_on s t c x h
comes_on s t (Over o) x h = ended_on s t o x h

here : (c : Config) → c.replies ≡ [] → Came c.store c
here c e = record { store = still c.store; none = e }

-- what goes on from each configuration without replies
abbrev Each : (ℕ → Config → Out) → Type 0
Each f = (n : ℕ) (c : Config) → c.replies ≡ [] → Comes c.store (f n c)

then_comes : (s : State) (o : Out) (f : ℕ → Config → Out) → Comes s o → Each f → Comes s (then_do o f)
then_comes s (Next n c) f h each = comes_on s c.store (f n c) h.store (each n c h.none)
then_comes s (Break k n c) f h each = h
then_comes s (Back n c) f h each = h
then_comes s (Over o) f h each = h

block_comes : (s : State) (a h : ℕ) (o : Out) → Comes s o → Comes s (block_end a h o)
block_comes s a h (Next n c) b = b
block_comes s a h (Break zero n c) b = record { store = b.store; none = b.none }
block_comes s a h (Break (suc k) n c) b = b
block_comes s a h (Back n c) b = b
block_comes s a h (Over o) b = b

choose_comes : (s : State) (w : ℕ) (a b : Out) → Comes s a → Comes s b → Comes s (choose w a b)
choose_comes s zero a b ha hb = ha
choose_comes s (suc w) a b ha hb = hb

pop_comes : (c : Config) (xs : List ℕ) (f : ℕ → Config → Out) → ((w : ℕ) (rest : List ℕ) → Comes c.store (f w (with_stack c rest))) → Comes c.store (pop c xs f)
pop_comes c [] f each = tt
pop_comes c (w ∷ xs) f each = each w xs

advance_comes : (n : ℕ) (c : Config) (o : Option Config) → c.replies ≡ [] → Leaves c o → Comes c.store (advance o n)
advance_comes n c None e h = tt
advance_comes n c (Some d) e h = record { store = h.store; none = h.replies ∙ e }

step_comes : (f : ℕ → Config → Out) → Each f → Each (step_then f)
step_comes f each zero c e = tt
step_comes f each (suc n) c e = each n c e

loop_comes : (s : State) (a h : ℕ) (f : ℕ → Config → Out) (o : Out) → Each f → Comes s o → Comes s (loop_end a h f o)
loop_comes s a h f (Next n c) each b = b
loop_comes s a h f (Break zero n c) each b = comes_on s c.store _ b.store (step_comes f each n (with_stack c (kept a h c.stack)) b.none)
loop_comes s a h f (Break (suc k) n c) each b = b
loop_comes s a h f (Back n c) each b = b
loop_comes s a h f (Over o) each b = b

call_comes : (s : State) (r : ℕ) (stack locals : List ℕ) (sp : CoreSpaces) (o : Out) → Comes s o → Comes s (call_end r stack locals sp o)
call_comes s r stack locals sp (Next n c) b = record { store = b.store; none = b.none }
call_comes s r stack locals sp (Break zero n c) b = record { store = b.store; none = b.none }
call_comes s r stack locals sp (Break (suc k) n c) b = tt
call_comes s r stack locals sp (Back n c) b = record { store = b.store; none = b.none }
call_comes s r stack locals sp (Over o) b = b

deep_ends : (n : ℕ) (s : State) → Ended s (deep n)
deep_ends zero s = tt
deep_ends (suc n) s = tt

within_comes : (b : Bool) (n : ℕ) (s : State) (o : Out) → Comes s o → Comes s (enter_within b n o)
within_comes true n s o h = h
within_comes false n s o h = deep_ends n s

-- ---- code, by what takes turns and calls

module _ (f : More → ℕ → Config → Out) (each : (a : More) → Each (f a)) where
  enter_if_comes : (b : Bool) (g n : ℕ) (c : Config) → c.replies ≡ [] → Comes c.store (enter_if f b g n c)
  enter_if_comes true g n c e = each (Enter g) n c e
  enter_if_comes false g n c e = tt

  ref_comes : (ty : CoreFunc) (r : Result CoreRef Trap) (n : ℕ) (c : Config) → c.replies ≡ [] → Comes c.store (call_ref f ty r n c)
  ref_comes ty (Err trap) n c e = tt
  ref_comes ty (Ok Null) n c e = tt
  ref_comes ty (Ok (Func g)) n c e = enter_if_comes (same_func ty (function_type (slice_get c.store.functions g))) g n c e

  place_comes : (o : Option ℕ) (n : ℕ) (c : Config) → c.replies ≡ [] → Comes c.store (call_place f o n c)
  place_comes None n c e = tt
  place_comes (Some g) n c e = each (Enter g) n c e

  indirect_comes : (ty : CoreFunc) (o : Option ℕ) (n : ℕ) (c : Config) → c.replies ≡ [] → Comes c.store (indirect f ty o n c)
  indirect_comes ty None n c e = tt
  indirect_comes ty (Some k) n c e = pop_comes c c.stack _ (λ w rest. ref_comes ty (got (table_at c.store k) (i32_in w)) n (with_stack c rest) e)

  single_comes : (i : Instr) → Each (single f i)
  single_comes (Plain o) n c e = advance_comes n c (plain o c) e (plain_leaves o c)
  single_comes (I64Const v) n c e = record { store = still c.store; none = e }
  single_comes (SelectTyped ts) n c e = advance_comes n c (plain op.Select c) e (plain_leaves op.Select c)
  single_comes Unreachable n c e = tt
  single_comes (Br k) n c e = here c e
  single_comes (BrIf k) n c e = pop_comes c c.stack _ (λ w rest. choose_comes c.store (i32_in w) _ _ (here (with_stack c rest) e) (here (with_stack c rest) e))
  single_comes (BrTable t) n c e = pop_comes c c.stack _ (λ w rest. here (with_stack c rest) e)
  single_comes Return n c e = here c e
  single_comes (Call i) n c e = place_comes (slice_get c.spaces.functions i) n c e
  single_comes (CallIndirect ty i) n c e = indirect_comes (type_at c.spaces ty) (slice_get c.spaces.tables i) n c e
  single_comes (Block t) n c e = tt
  single_comes (Loop t) n c e = tt
  single_comes (If t) n c e = tt
  single_comes Else n c e = tt
  single_comes End n c e = tt

  exec_comes : (q : Seq) → Each (exec f q)
  exec_comes Stop n c e = here c e
  exec_comes (Then i rest) zero c e = tt
  exec_comes (Then i rest) (suc n) c e = then_comes c.store (single f i n c) (exec f rest) (single_comes i n c e) (exec_comes rest)
  exec_comes (InBlock t body rest) zero c e = tt
  exec_comes (InBlock t body rest) (suc n) c e = then_comes c.store _ (exec f rest) (block_comes c.store _ _ (exec f body n c) (exec_comes body n c e)) (exec_comes rest)
  exec_comes (InLoop t body rest) zero c e = tt
  exec_comes (InLoop t body rest) (suc n) c e = then_comes c.store _ (exec f rest) (each (Turn t body) n c e) (exec_comes rest)
  exec_comes (InIf t body other rest) zero c e = tt
  exec_comes (InIf t body other rest) (suc n) c e =
      pop_comes c c.stack _ (λ w xs. then_comes c.store _ (exec f rest) (block_comes c.store _ _ _ (choose_comes c.store (i32_in w) _ _ (exec_comes other n (with_stack c xs) e) (exec_comes body n (with_stack c xs) e))) (exec_comes rest))

  entered_comes : (o : Option StoreFunc) (n : ℕ) (c : Config) → c.replies ≡ [] → Comes c.store (entered f o n c)
  entered_comes None n c e = tt
  entered_comes (Some (Inside ty instance locals body)) n c e =
      within_comes (can_enter c.store) n c.store _
      (call_comes c.store (length ty.results) (drop (length ty.params) c.stack) c.locals c.spaces (exec f (tree body) n (begun ty instance (length locals) c)) (comes_on c.store (entered_store c.store) _ (still c.store) (exec_comes (tree body) n (begun ty instance (length locals) c) e)))
  entered_comes (Some (Outside ty number)) n c e = subst (λ (rs : List Reply). Comes c.store (replied ty number n c rs)) (sym e) (still c.store)

more_comes : (d : ℕ) (a : More) → Each (more d a)
more_comes zero a n c e = tt
more_comes (suc d) (Turn t body) n c e = loop_comes c.store _ _ (more d (Turn t body)) (exec (more d) body n c) (more_comes d (Turn t body)) (exec_comes (more d) (more_comes d) body n c e)
more_comes (suc d) (Enter g) n c e = entered_comes (more d) (more_comes d) (slice_get c.store.functions g) n c e

go_comes : (a : More) → Each (go a)
go_comes a n c e = more_comes (suc n) a n c e

code_comes : (q : Seq) → Each (exec go q)
code_comes q = exec_comes go go_comes q

-- ---- what is in progress around it

label_comes : (s : State) (a h : ℕ) (target rest : Seq) (o : Out) → Comes s o → Comes s (label_end a h target rest o)
label_comes s a h target rest (Next n c) b = comes_on s c.store (exec go rest n c) b.store (code_comes rest n c b.none)
label_comes s a h target rest (Break zero n c) b = comes_on s c.store _ b.store (code_comes target n (with_stack c (kept a h c.stack)) b.none)
label_comes s a h target rest (Break (suc k) n c) b = b
label_comes s a h target rest (Back n c) b = b
label_comes s a h target rest (Over o) b = b

after_comes : (ks : List Cont) (s : State) (o : Out) → Comes s o → Comes s (after ks o)
after_comes [] s o h = tt
after_comes (AfterLabel a h target rest ∷ ks) s o b = after_comes ks s _ (label_comes s a h target rest o b)
after_comes (AfterCall r operands locals spaces rest ∷ ks) s o b = after_comes ks s _ (then_comes s _ (exec go rest) (call_comes s r operands locals spaces o b) (code_comes rest))
after_comes (AtEntry r ∷ ks) s o b = call_comes s r [] [] _ o b

finish_ends : (s : State) (ts : List CoreType) (o : Out) → Comes s o → Ended s (finish ts o)
finish_ends s ts (Next n c) h = h.store
finish_ends s ts (Break k n c) h = tt
finish_ends s ts (Back n c) h = tt
finish_ends s ts (Over o) h = h

goes_comes : (w : Scene) (spaces : CoreSpaces) (code : List Instr) (ps : List Part) (a : Stacked) (cs : List Control) (s : State) (n : ℕ) → Comes s (goes_with w spaces code ps a cs s [] n)
goes_comes w spaces code ps a cs s n = after_comes (conts w code cs ps a.callers) s (exec go (first ps).here n (config_of a spaces s [])) (code_comes (first ps).here n (config_of a spaces s []) refl)

stage_ends : (stage : Stage) (m : Machine) (s : State) (n : ℕ) → Ended s (goes_staged stage m s [] n)
stage_ends Starts m s n = finish_ends s (results_due m s) (go (Enter m.entry) n (config_of m.running.slots bare s [])) (go_comes (Enter m.entry) n (config_of m.running.slots bare s []) refl)
stage_ends Runs m s n =
    finish_ends s (results_due m s) (goes m.running s [] n) (goes_comes (scene_of s) (spaces_at (scene_of s) m.running.function) (code_at (scene_of s) m.running.function) (own_parts m.running s) m.running.slots (progress m.running) s n)
stage_ends Answered m s n = still s
stage_ends Due m s n = deep_ends n s

-- what a machine goes on to without a reply
pub rest_ends : (m : Machine) (s : State) (n : ℕ) → Ended s (goes_on m s [] n)
rest_ends m s n = stage_ends m.stage m s n

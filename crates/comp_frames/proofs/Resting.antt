-- The rest of a machine's run leaves no more steps than it gets.
use Rattle.std.proofs.Common.{ℕ, zero, suc, List, [], ◌∷◌, Option, Some, None, Bool, true, false, arith}
use Rattle.std.specs.Prelude.{slice_get, Result, Ok, Err}
use Rattle.virt_base.specs.declared.core_type.CoreType.{CoreType}
use Rattle.virt_base.specs.declared.fault.Trap.{Trap}
use Rattle.wasm_ast.specs.declared.module.CoreFunc.{CoreFunc}
use Rattle.wasm_ast.specs.declared.instr.Op.TheVariants as op
use Rattle.wasm_ast.specs.declared.instr.Instr.{Instr}
use Rattle.wasm_ast.specs.declared.instr.Instr.TheVariants.{Plain, I64Const, SelectTyped, Unreachable, Block, Loop, If, Else, End, Br, BrIf, BrTable, Return, Call, CallIndirect}
use Rattle.core_store.specs.Tree.{Part, first, Seq, Stop, Then, InBlock, InLoop, InIf}
use Rattle.core_store.specs.declared.value.CoreRef.{CoreRef}
use Rattle.core_store.specs.declared.value.CoreRef.TheVariants.{Null, Func}
use Rattle.core_store.specs.declared.value.CoreSpaces.{CoreSpaces}
use Rattle.core_store.specs.Table.{got}
use Rattle.core_store.specs.State.{State, table_at}
use Rattle.core_store.specs.Words.{i32_in}
use Rattle.core_store.specs.Config.{Reply, Config, Out, Next, Break, Back, Over, then_do, with_stack, kept, bare, type_at}
use Rattle.core_store.specs.Plain.{plain}
use Rattle.core_store.specs.Laws.{Within as IsWithin}
use Rattle.core_store.specs.Eval.{function_type, block_end, call_end, Turn, Enter, pop, choose, target, same_func, enter_if, call_ref, call_place, indirect, single, exec, deep, go, finish}
use Rattle.core_store.specs.Scene.{Scene, scene_of, code_at, spaces_at}
use Rattle.core_slots.specs.Stacked.{Stacked}
use Rattle.core_store.proofs.Steps.{Within, within_more, advance_within, more_falls}
use Rattle.core_interp.specs.declared.control.Control.{Control}
use Rattle.core_interp.specs.declared.machine.Stage.{Stage}
use Rattle.core_interp.specs.declared.machine.Stage.TheVariants.{Starts, Runs, Answered, Due}
use Rattle.core_interp.specs.declared.machine.Machine.{Machine}
use Rattle.core_interp.specs.Rest.{Cont, AfterLabel, AfterCall, AtEntry, label_end, after, conts, config_of, goes_with}
use Rattle.core_interp.specs.Run.{progress, goes, own_parts}
use Rattle.core_interp.specs.Session.{results_due, goes_staged, goes_on}
use Rattle.comp_frames.specs.Running.{IsRest}

-- ---- a piece of code, as `core_store` has it of calls and turns

then_within : (n : ℕ) (o : Out) (f : ℕ → Config → Out) → Within n o → ((m : ℕ) (c : Config) → Within m (f m c)) → Within n (then_do o f)
then_within n (Next m c) f h each = within_more m n (f m c) h (each m c)
then_within n (Break k m c) f h each = h
then_within n (Back m c) f h each = h
then_within n (Over o) f h each = h

block_within : (a h n : ℕ) (o : Out) → Within n o → Within n (block_end a h o)
block_within a h n (Next m c) b = b
block_within a h n (Break zero m c) b = b
block_within a h n (Break (suc k) m c) b = b
block_within a h n (Back m c) b = b
block_within a h n (Over o) b = b

choose_within : (w n : ℕ) (a b : Out) → Within n a → Within n b → Within n (choose w a b)
choose_within zero n a b ha hb = ha
choose_within (suc w) n a b ha hb = hb

pop_within : (n : ℕ) (c : Config) (xs : List ℕ) (f : ℕ → Config → Out) → ((w : ℕ) (d : Config) → Within n (f w d)) → Within n (pop c xs f)
pop_within n c [] f each = tt
pop_within n c (w ∷ xs) f each = each w (with_stack c xs)

enter_if_within : (b : Bool) (f n : ℕ) (c : Config) → Within n (enter_if go b f n c)
enter_if_within true f n c = more_falls (suc n) (Enter f) n c
enter_if_within false f n c = tt

ref_within : (ty : CoreFunc) (r : Result CoreRef Trap) (n : ℕ) (c : Config) → Within n (call_ref go ty r n c)
ref_within ty (Err trap) n c = tt
ref_within ty (Ok Null) n c = tt
ref_within ty (Ok (Func f)) n c = enter_if_within (same_func ty (function_type (slice_get c.store.functions f))) f n c

place_within : (o : Option ℕ) (n : ℕ) (c : Config) → Within n (call_place go o n c)
place_within None n c = tt
place_within (Some f) n c = more_falls (suc n) (Enter f) n c

indirect_within : (ty : CoreFunc) (o : Option ℕ) (n : ℕ) (c : Config) → Within n (indirect go ty o n c)
indirect_within ty None n c = tt
indirect_within ty (Some k) n c = pop_within n c c.stack _ (λ w d. ref_within ty (got (table_at d.store k) (i32_in w)) n d)

next_within : (n : ℕ) (c : Config) → Within n (Next n c)
next_within n c = omega arith

break_within : (k n : ℕ) (c : Config) → Within n (Break k n c)
break_within k n c = omega arith

single_within : (i : Instr) (n : ℕ) (c : Config) → Within n (single go i n c)
single_within (Plain o) n c = advance_within n (plain o c)
single_within (I64Const v) n c = next_within n c
single_within (SelectTyped ts) n c = advance_within n (plain op.Select c)
single_within Unreachable n c = tt
single_within (Br k) n c = break_within k n c
single_within (BrIf k) n c = pop_within n c c.stack _ (λ w d. choose_within (i32_in w) n _ _ (next_within n d) (break_within k n d))
single_within (BrTable t) n c = pop_within n c c.stack _ (λ w d. break_within (target t.value (i32_in w)) n d)
single_within Return n c = next_within n c
single_within (Call i) n c = place_within (slice_get c.spaces.functions i) n c
single_within (CallIndirect ty i) n c = indirect_within (type_at c.spaces ty) (slice_get c.spaces.tables i) n c
single_within (Block t) n c = tt
single_within (Loop t) n c = tt
single_within (If t) n c = tt
single_within Else n c = tt
single_within End n c = tt

suc_within : (n : ℕ) (o : Out) → Within n o → Within (suc n) o
suc_within n o h = within_more n (suc n) o (omega arith) h

exec_within : (q : Seq) (n : ℕ) (c : Config) → Within n (exec go q n c)
exec_within Stop n c = next_within n c
exec_within (Then i rest) zero c = tt
exec_within (Then i rest) (suc n) c = suc_within n _ (then_within n (single go i n c) (exec go rest) (single_within i n c) (exec_within rest))
exec_within (InBlock t body rest) zero c = tt
exec_within (InBlock t body rest) (suc n) c = suc_within n _ (then_within n _ (exec go rest) (block_within _ _ n (exec go body n c) (exec_within body n c)) (exec_within rest))
exec_within (InLoop t body rest) zero c = tt
exec_within (InLoop t body rest) (suc n) c = suc_within n _ (then_within n _ (exec go rest) (more_falls (suc n) (Turn t body) n c) (exec_within rest))
exec_within (InIf t body other rest) zero c = tt
exec_within (InIf t body other rest) (suc n) c =
    suc_within n _ (pop_within n c c.stack _ (λ w d. then_within n _ (exec go rest) (block_within _ _ n _ (choose_within (i32_in w) n _ _ (exec_within other n d) (exec_within body n d))) (exec_within rest)))

-- ---- what is in progress around it

label_within : (a h n : ℕ) (target rest : Seq) (o : Out) → Within n o → Within n (label_end a h target rest o)
label_within a h n target rest (Next m c) b = within_more m n (exec go rest m c) b (exec_within rest m c)
label_within a h n target rest (Break zero m c) b = within_more m n (exec go target m (with_stack c (kept a h c.stack))) b (exec_within target m (with_stack c (kept a h c.stack)))
label_within a h n target rest (Break (suc k) m c) b = b
label_within a h n target rest (Back m c) b = b
label_within a h n target rest (Over o) b = b

call_within : (r n : ℕ) (stack locals : List ℕ) (sp : CoreSpaces) (o : Out) → Within n o → Within n (call_end r stack locals sp o)
call_within r n stack locals sp (Next m c) b = b
call_within r n stack locals sp (Break zero m c) b = b
call_within r n stack locals sp (Break (suc k) m c) b = tt
call_within r n stack locals sp (Back m c) b = b
call_within r n stack locals sp (Over o) b = b

after_within : (ks : List Cont) (n : ℕ) (o : Out) → Within n o → Within n (after ks o)
after_within [] n o h = tt
after_within (AfterLabel a h target rest ∷ ks) n o b = after_within ks n _ (label_within a h n target rest o b)
after_within (AfterCall r operands locals spaces rest ∷ ks) n o b = after_within ks n _ (then_within n _ (exec go rest) (call_within r n operands locals spaces o b) (exec_within rest))
after_within (AtEntry r ∷ ks) n o b = call_within r n [] [] _ o b

finish_within : (ts : List CoreType) (n : ℕ) (o : Out) → Within n o → IsWithin n (finish ts o)
finish_within ts n (Next m c) h = h
finish_within ts n (Break k m c) h = tt
finish_within ts n (Back m c) h = tt
finish_within ts n (Over o) h = h

deep_within : (n : ℕ) → IsWithin n (deep n)
deep_within zero = tt
deep_within (suc n) = tt

goes_within : (w : Scene) (spaces : CoreSpaces) (code : List Instr) (ps : List Part) (a : Stacked) (cs : List Control) (s : State) (replies : List Reply) (n : ℕ) → Within n (goes_with w spaces code ps a cs s replies n)
goes_within w spaces code ps a cs s replies n =
    after_within (conts w code cs ps a.callers) n (exec go (first ps).here n (config_of a spaces s replies)) (exec_within (first ps).here n (config_of a spaces s replies))

stage_within : (stage : Stage) (m : Machine) (s : State) (replies : List Reply) (n : ℕ) → IsWithin n (goes_staged stage m s replies n)
stage_within Starts m s replies n =
    finish_within (results_due m s) n (go (Enter m.entry) n (config_of m.running.slots bare s replies)) (more_falls (suc n) (Enter m.entry) n (config_of m.running.slots bare s replies))
stage_within Runs m s replies n =
    finish_within (results_due m s) n (goes m.running s replies n)
    (goes_within (scene_of s) (spaces_at (scene_of s) m.running.function) (code_at (scene_of s) m.running.function) (own_parts m.running s) m.running.slots (progress m.running) s replies n)
stage_within Answered m s replies n = omega arith
stage_within Due m s replies n = deep_within n

pub machines_rest : (m : Machine) (s : State) → IsRest (goes_on m s)
machines_rest m s replies n = stage_within m.stage m s replies n

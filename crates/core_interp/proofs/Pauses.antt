-- The machine from pause to pause.
use Rattle.std.proofs.Common.{◌≡◌, ℕ, zero, suc, ◌+◌, ◌-◌, ◌<◌, ◌≤◌, List, [], ◌∷◌, ◌++◌, length, take, drop, Some, None, Option, Result, refl, sym, ap, ◌∙◌, subst, arith, length-append}
use Rattle.std.specs.Prelude.{reverse, replicate, slice_get, IfOk}
use Rattle.std.proofs.lemmas.Option.{slice_get_within}
use Rattle.std.proofs.lemmas.List.{append-nil, take_all, length-reverse, length-take-le, length-replicate}
use Rattle.virt_base.specs.declared.core_type.CoreType.{CoreType}
use Rattle.virt_base.specs.declared.core_type.CoreType.TheVariants as types
use Rattle.wasm_ast.specs.declared.module.CoreFunc.{CoreFunc}
use Rattle.core_store.specs.declared.value.CoreValue.{CoreValue}
use Rattle.core_store.specs.declared.value.StoreFunc.{StoreFunc}
use Rattle.core_store.specs.declared.value.StoreFunc.TheVariants.{Inside, Outside}
use Rattle.core_store.specs.State.{State}
use Rattle.core_store.specs.Words.{words, value_in, values_in, HasType, HaveTypes}
use Rattle.core_store.specs.Config.{Reply, Outcome, Done, Asks, bare}
use Rattle.core_store.specs.Eval.{Enter, arguments, function_type, deep, go, finish, eval}
use Rattle.core_slots.specs.Stacked.{Stacked, with_operands}
use Rattle.core_interp.specs.declared.control.Flow.TheVariants.{Ended, Failed, Asking, Exhausted, Deep}
use Rattle.core_interp.specs.declared.running.Running.{Running}
use Rattle.core_interp.specs.declared.machine.Stage.{Stage}
use Rattle.core_interp.specs.declared.machine.Stage.TheVariants.{Starts, Runs, Answered, Due}
use Rattle.core_interp.specs.declared.machine.Machine.{Machine}
use Rattle.core_interp.specs.declared.machine.Pause.{Pause}
use Rattle.core_interp.specs.declared.machine.Pause.TheVariants as pauses
use Rattle.core_store.specs.Scene.{Scene, Grew, CameBack, scene_of, results_at}
use Rattle.core_interp.specs.Rest.{config_of, goes_at}
use Rattle.core_store.specs.Fine.{params_of}
use Rattle.core_interp.specs.Run.{progress, goes, ReadyAt, Ready, answered, RunLeads, ahead, outermost, Remains, TrapsBehind}
use Rattle.core_interp.specs.Session.{Asked, results_due, goes_staged, goes_on, IsStaged, CanRun, answered_slots, resumed, PauseLeads, granted, IsCallable, PauseTraps, asking, AsksBy, Dues}
use Rattle.core_store.proofs.Growing.{function_more, functions_longer}
use Rattle.core_interp.proofs.Extending.{ready_at_more, goes_at_more}

-- ---- start

callable_some : (o : Option StoreFunc) (n : ℕ) → IsCallable o n → (g : StoreFunc) × (o ≡ Some g) × (n ≡ params_of g)
callable_some None n h = absurd h
callable_some (Some g) n h = (g, refl, h)

pub words_len : (vs : List CoreValue) → length (words vs) ≡ length vs
words_len [] = refl
words_len (v ∷ vs) = ap suc (words_len vs)

pub start_can : (s : State) (f w : ℕ) (a0 a : Stacked) (args : List CoreValue) (k : Running) → IsCallable (slice_get s.functions f) (length args) → a0 ≡ record { operands = []; locals = []; callers = [] } → a ≡ with_operands a0 (reverse (words args) ++ a0.operands) → k.function ≡ f → k.at ≡ 0 → k.slots ≡ a → k.controls.items ≡ [] → CanRun (record { entry = f; stage = Starts; running = k; awaits = w }) s
start_can s f w a0 a args k h e0 e ef eat ea ec =
    let g = callable_some (slice_get s.functions f) (length args) h in
    let same : k.slots ≡ with_operands (record { operands = []; locals = []; callers = [] }) (reverse (words args) ++ []) = ea ∙ e ∙ ap (λ (z : Stacked). with_operands z (reverse (words args) ++ z.operands)) e0 in
    let n : length k.slots.operands ≡ length args = ap (λ (z : Stacked). length z.operands) same ∙ ap length (append-nil (reverse (words args))) ∙ length-reverse (words args) ∙ words_len args in
    record {
      entry = slice_get_within s.functions f g.0 g.1;
      staged = record {
        callee = g.0;
        callee_is = g.1;
        count = n ∙ g.2;
        function = ef;
        at = eat;
        locals = ap (λ (z : Stacked). z.locals) same;
        callers = ap (λ (z : Stacked). z.callers) same;
        controls = ec;
      };
    }

pub start_goes : (s : State) (f w : ℕ) (a0 a : Stacked) (args : List CoreValue) (k : Running) (rs : List Reply) (n : ℕ) → a0 ≡ record { operands = []; locals = []; callers = [] } → a ≡ with_operands a0 (reverse (words args) ++ a0.operands) → k.slots ≡ a → eval s f args rs (0 + n) ≡ goes_on (record { entry = f; stage = Starts; running = k; awaits = w }) s rs n
start_goes s f w a0 a args k rs n e0 e ea =
    let same : k.slots ≡ with_operands (record { operands = []; locals = []; callers = [] }) (reverse (words args) ++ []) = ea ∙ e ∙ ap (λ (z : Stacked). with_operands z (reverse (words args) ++ z.operands)) e0 in
    let q : 0 + n ≡ n = omega arith in
    ap (eval s f args rs) q
    ∙ ap (λ xs. finish (results_at (scene_of s) f) (go (Enter f) n (record { stack = xs; locals = []; spaces = bare; store = s; replies = rs }))) (sym (append-nil (reverse (words args))))
    ∙ ap (λ z. finish (results_at (scene_of s) f) (go (Enter f) n (config_of z bare s rs))) (sym same)

-- ---- results

-- words, of which there are enough, as values have the types at which they are read
value_typed : (k : ℕ) (t : CoreType) (w : ℕ) → HasType t (value_in k t w)
value_typed k types.I32 w = tt
value_typed k types.I64 w = tt
value_typed k types.Funcref w = tt
value_typed k types.Externref w = tt

pub values_typed : (k : ℕ) (ts : List CoreType) (ws : List ℕ) → length ts ≤ length ws → HaveTypes ts (values_in k ts ws)
values_typed k [] ws le = tt
values_typed k (t ∷ ts) [] le = absurd (omega arith)
values_typed k (t ∷ ts) (w ∷ ws) le = (value_typed k t w, values_typed k ts ws (omega arith))

pub arguments_typed : (s : State) (ty : CoreFunc) (xs : List ℕ) → length ty.params ≤ length xs → HaveTypes ty.params (arguments s ty xs)
arguments_typed s ty xs le =
    values_typed (length s.functions) ty.params (reverse (take (length ty.params) xs)) (omega (arith, length-reverse (take (length ty.params) xs), length-take-le (length ty.params) xs (omega arith)))

pub results_ok : {E : Type 0} (r : Result (List CoreValue) E) (k k' : ℕ) (ts ts' : List CoreType) (ws ws' : List ℕ) → k ≡ k' → ts ≡ ts' → ws ≡ ws' → IfOk r (λ v. v ≡ values_in k ts ws) → IfOk r (λ v. v ≡ values_in k' ts' ws')
results_ok {E} r k k' ts ts' ws ws' ek et ew h =
    subst (λ z. IfOk r (λ v. v ≡ values_in k' ts' z)) ew (subst (λ z. IfOk r (λ v. v ≡ values_in k' z ws)) et (subst (λ z. IfOk r (λ v. v ≡ values_in z ts ws)) ek h))

-- ---- asking

pub asks_by : (s : State) (f number : ℕ) (ty : CoreFunc) (old new : Machine) (args : List CoreValue) → slice_get s.functions f ≡ Some (Outside ty number) → args ≡ arguments s ty old.running.slots.operands → new ≡ asking ty old → AsksBy (slice_get s.functions f) s old new (pauses.AtHost number args)
asks_by s f number ty old new args e a same = subst (λ (o : Option StoreFunc). AsksBy o s old new (pauses.AtHost number args)) (sym e) (refl, a, same)

pub asking_is : (m : Machine) (ty : CoreFunc) (b c : Stacked) (p r w : ℕ) → p ≡ length ty.params → r ≡ length ty.results → w ≡ length ty.results → b ≡ with_operands m.running.slots (drop p m.running.slots.operands) → c ≡ with_operands b (replicate r 0 ++ b.operands) → ◌≡◌ {A = Machine} (record m { running = record m.running { slots = c }; awaits = w }) (asking ty m)
asking_is m ty b c p r w ep er ew eb ec =
    let same : c ≡ with_operands m.running.slots (replicate (length ty.results) 0 ++ drop (length ty.params) m.running.slots.operands) =
    ec ∙ ap (λ (z : Stacked). with_operands z (replicate r 0 ++ z.operands)) eb ∙ ap (λ k. with_operands m.running.slots (replicate k 0 ++ drop p m.running.slots.operands)) er ∙ ap (λ k. with_operands m.running.slots (replicate (length ty.results) 0 ++ drop k m.running.slots.operands)) ep in
    at_slots m c _ w same ∙ at_awaits m _ w _ ew
  where
    at_slots : (m : Machine) (x y : Stacked) (w : ℕ) → x ≡ y → ◌≡◌ {A = Machine} (record m { running = record m.running { slots = x }; awaits = w }) (record m { running = record m.running { slots = y }; awaits = w })
    at_slots m x y w e = ap (λ (z : Stacked). let k : Machine = record m { running = record m.running { slots = z }; awaits = w } in k) e

    at_awaits : (m : Machine) (x : Stacked) (v w : ℕ) → v ≡ w → ◌≡◌ {A = Machine} (record m { running = record m.running { slots = x }; awaits = v }) (record m { running = record m.running { slots = x }; awaits = w })
    at_awaits m x v w e = ap (λ (z : ℕ). let k : Machine = record m { running = record m.running { slots = x }; awaits = z } in k) e

-- the operands with the results on them, in place of the zeros
answered_same : (ty : CoreFunc) (a : Stacked) (vs : List CoreValue) → length vs ≡ length ty.results → answered_slots (with_operands a (replicate (length ty.results) 0 ++ drop (length ty.params) a.operands)) vs ≡ answered ty a vs
answered_same ty a vs e =
    let n : length (replicate (length ty.results) 0) ≡ length ty.results = length-replicate {A = ℕ} (length ty.results) 0 in
    ap (λ xs. with_operands a (reverse (words vs) ++ xs)) (drop_exactly (length vs) (replicate (length ty.results) 0) (drop (length ty.params) a.operands) (e ∙ sym n))
  where
    drop_exactly : (k : ℕ) (xs ys : List ℕ) → k ≡ length xs → drop k (xs ++ ys) ≡ ys
    drop_exactly zero [] ys q = refl
    drop_exactly zero (x ∷ xs) ys q = absurd (omega arith)
    drop_exactly (suc k) [] ys q = absurd (omega arith)
    drop_exactly (suc k) (x ∷ xs) ys q = drop_exactly k xs ys (omega arith)

-- ---- pauses

pub pause_from : (X Y : List Reply → ℕ → Outcome) (b : ℕ) (p : Pause) (m : Machine) (s : State) → ((rs : List Reply) (n : ℕ) → X rs n ≡ Y rs n) → PauseLeads Y b p m s → PauseLeads X b p m s
pause_from X Y b (pauses.Done v) m s e h = (λ rs n. e rs n ∙ h.0 rs n, h.1)
pause_from X Y b pauses.Trapped m s e h = λ rs n. e rs n ∙ h rs n
pause_from X Y b (pauses.AtHost k args) m s e h = (λ n. e [] n ∙ h.0 n, λ r a. (λ rs n. e (r ∷ rs) n ∙ (h.1 r a).0 rs n, (h.1 r a).1), h.2, h.3)
pause_from X Y b pauses.Spent m s e h = (h.0, λ rs. e rs 0 ∙ h.1 rs, λ rs n. e rs n ∙ h.2 rs n, h.3)
pause_from X Y b pauses.TooDeep m s e h = (h.0, λ rs n. e rs n ∙ h.1 rs n)

-- the machine and its stage
pub goes_at_stage : (m : Machine) (s : State) (st : Stage) (rs : List Reply) (n : ℕ) → m.stage ≡ st → goes_on m s rs n ≡ goes_staged st m s rs n
goes_at_stage m s st rs n e = ap (λ z. goes_staged z m s rs n) e

pub staged_at : (m : Machine) (s : State) (st : Stage) → m.stage ≡ st → IsStaged m.stage m s → IsStaged st m s
staged_at m s st e h = subst (λ z. IsStaged z m s) e h

pub at_stage : (m : Machine) (s : State) (st : Stage) → m.stage ≡ st → m.entry < length s.functions → IsStaged st m s → CanRun m s
at_stage m s st e lt h = record { entry = lt; staged = subst (λ z. IsStaged z m s) (sym e) h }

pub due_leads : (X : List Reply → ℕ → Outcome) (b : ℕ) (p : Pause) (m : Machine) (s : State) → m.stage ≡ Due → m.entry < length s.functions → ((rs : List Reply) (n : ℕ) → X rs n ≡ deep n) → Dues b p → PauseLeads X b p m s
due_leads X b (pauses.Done v) m s e lt f h = absurd h
due_leads X b pauses.Trapped m s e lt f h = absurd h
due_leads X b (pauses.AtHost k args) m s e lt f h = absurd h
due_leads X b pauses.Spent m s e lt f h = (
  h,
  λ rs. f rs 0,
  λ rs n. f rs n ∙ sym (goes_at_stage m s Due rs n e),
  λ t x. at_stage m t Due e (let longer = functions_longer _ _ x.grew in omega arith) tt,
)
due_leads X b pauses.TooDeep m s e lt f h = (h, f)

pub still_due : (m : Machine) (s : State) (b : ℕ) (p : Pause) → m.stage ≡ Due → CanRun m s → Dues b p → PauseLeads (granted (goes_on m s) (b - b)) b p m s
still_due m s b p e can h = due_leads (granted (goes_on m s) (b - b)) b p m s e can.entry (λ rs n. goes_at_stage m s Due rs (b - b + n) e ∙ (let q : b - b + n ≡ n = omega arith in ap deep q)) h

pub answered_leads : (m : Machine) (s : State) (b c : ℕ) (values : List CoreValue) → m.stage ≡ Answered → CanRun m s → c ≡ length m.running.slots.operands → values ≡ values_in (length s.functions) (results_due m s) (reverse (take c m.running.slots.operands)) → PauseLeads (granted (goes_on m s) (b - b)) b (pauses.Done values) m s
answered_leads m s b c values e can ec ev =
    let all : values ≡ values_in (length s.functions) (results_due m s) (reverse m.running.slots.operands) = ev ∙ ap (λ xs. values_in (length s.functions) (results_due m s) (reverse xs)) (take_all c m.running.slots.operands (omega arith)) in
    let count = staged_at m s Answered e can.staged in (
      λ rs n. goes_at_stage m s Answered rs (b - b + n) e
          ∙ (let q : b - b + n ≡ n = omega arith in ap (Done (values_in (length s.functions) (results_due m s) (reverse m.running.slots.operands)) s) q)
          ∙ ap (λ v. Done v s n) (sym all),
      subst (HaveTypes (results_due m s)) (sym all) (values_typed (length s.functions) (results_due m s) (reverse m.running.slots.operands) (omega (arith, length-reverse m.running.slots.operands))),
    )

-- ---- in the code of a function

pub due_more : (m : Machine) (s t : State) → Grew s t → m.entry < length s.functions → results_due m t ≡ results_due m s
due_more m s t x lt = let g = there s.functions m.entry lt in ap (λ (o : Option StoreFunc). (function_type o).results) (function_more _ _ x m.entry g.0 g.1 ∙ sym g.1)
  where
    there : (fs : List StoreFunc) (i : ℕ) → i < length fs → (g : StoreFunc) × (slice_get fs i ≡ Some g)
    there [] i lt = absurd (omega arith)
    there (g ∷ fs) zero lt = (g, refl)
    there (g ∷ fs) (suc i) lt = there fs i (omega arith)

ready_runs : (m : Machine) (s : State) → m.stage ≡ Runs → CanRun m s → Ready m.running s
ready_runs m s e can = (staged_at m s Runs e can.staged).0

runs_outermost : (m : Machine) (s : State) → m.stage ≡ Runs → CanRun m s → outermost m.running ≡ length (results_due m s) ∷ []
runs_outermost m s e can = (staged_at m s Runs e can.staged).1

pub runs_ready : (m : Machine) (s : State) → m.stage ≡ Runs → CanRun m s → Ready m.running s
runs_ready = ready_runs

same_due : (m : Machine) (s t : State) → scene_of s ≡ scene_of t → results_due m s ≡ results_due m t
same_due m s t e = ap (λ (w : Scene). results_at w m.entry) e

same_functions : (s t : State) → scene_of s ≡ scene_of t → s.functions ≡ t.functions
same_functions s t e = ap (λ (w : Scene). w.functions) e

pub entry_after : (m : Machine) (s t : State) → scene_of s ≡ scene_of t → CanRun m s → m.entry < length t.functions
entry_after m s t e can = subst (λ (fs : List StoreFunc). m.entry < length fs) (same_functions s t e) can.entry

runs_goes : (m : Machine) (s : State) (a n : ℕ) (rs : List Reply) → m.stage ≡ Runs → granted (goes_on m s) a rs n ≡ finish (results_due m s) (ahead (goes m.running s) a rs n)
runs_goes m s a n rs e = goes_at_stage m s Runs rs (a + n) e

one_entry : (r k : ℕ) (xs : List ℕ) → r ∷ xs ≡ k ∷ [] → r ≡ k
one_entry r k xs e = cc

pub ended_leads : (m : Machine) (s t : State) (a b c : ℕ) (k : Running) (values : List CoreValue) (m' : Machine) → m.stage ≡ Runs → m'.entry ≡ m.entry → scene_of s ≡ scene_of t → CanRun m s → RunLeads (ahead (goes m.running s) (a - b)) b (Ended c) k t → Remains (Ended c) m.running k → values ≡ values_in (length t.functions) (results_due m t) (reverse (take c k.slots.operands)) → PauseLeads (granted (goes_on m s) (a - b)) b (pauses.Done values) m' t
ended_leads m s t a b c k values m' e en q can lead stays ev =
    let count : c ≡ length (results_due m t) = one_entry c _ _ (stays ∙ runs_outermost m s e can) ∙ ap length (same_due m s t q) in
    let le = lead.0 in (
      λ rs n. runs_goes m s (a - b) n rs e ∙ ap (finish (results_due m s)) (lead.1 rs n)
          ∙ ap (λ ts. Done (values_in (length t.functions) ts (reverse (take c k.slots.operands ++ []))) t n) (same_due m s t q)
          ∙ ap (λ xs. Done (values_in (length t.functions) (results_due m t) (reverse xs)) t n) (append-nil (take c k.slots.operands))
          ∙ ap (λ v. Done v t n) (sym ev),
      subst (λ ts. HaveTypes ts values) (ap (results_at (scene_of t)) (sym en))
          (subst (HaveTypes (results_due m t)) (sym ev) (values_typed (length t.functions) (results_due m t) (reverse (take c k.slots.operands)) (omega (arith, length-reverse (take c k.slots.operands), length-take-le c k.slots.operands le)))),
    )

pub failed_leads : (m : Machine) (s t : State) (a b : ℕ) (k : Running) (m' : Machine) → m.stage ≡ Runs → RunLeads (ahead (goes m.running s) (a - b)) b Failed k t → PauseLeads (granted (goes_on m s) (a - b)) b pauses.Trapped m' t
failed_leads m s t a b k m' e lead rs n = runs_goes m s (a - b) n rs e ∙ ap (finish (results_due m s)) (lead rs n)

pub deep_leads : (m m' : Machine) (s t : State) (a b : ℕ) (k : Running) (p : Pause) → m.stage ≡ Runs → m'.stage ≡ Due → m'.entry ≡ m.entry → scene_of s ≡ scene_of t → CanRun m s → RunLeads (ahead (goes m.running s) (a - b)) b Deep k t → Dues b p → PauseLeads (granted (goes_on m s) (a - b)) b p m' t
deep_leads m m' s t a b k p e e' en q can lead h =
    let lt = entry_after m s t q can in
    due_leads (granted (goes_on m s) (a - b)) b p m' t e' (omega arith) (λ rs n. runs_goes m s (a - b) n rs e ∙ ap (finish (results_due m s)) (lead rs n)) h

ready_more : (k : Running) (t u : State) → CameBack t u → Ready k t → Ready k u
ready_more k t u x r = let few = r.counted in let nest = x.nesting in record { at = ready_at_more t u x.grew k.function k.at k.slots (progress k) r.at; counted = omega arith }

pub exhausted_leads : (m m' : Machine) (s t : State) (a b : ℕ) → m.stage ≡ Runs → m'.stage ≡ Runs → m'.entry ≡ m.entry → scene_of s ≡ scene_of t → CanRun m s → RunLeads (ahead (goes m.running s) (a - b)) b Exhausted m'.running t → Remains Exhausted m.running m'.running → PauseLeads (granted (goes_on m s) (a - b)) b pauses.Spent m' t
exhausted_leads m m' s t a b e e' en q can lead stays =
    let lt = entry_after m s t q can in
    let lt' : m'.entry < length t.functions = omega arith in
    let due : results_due m s ≡ results_due m' t = same_due m s t q ∙ ap (results_at (scene_of t)) (sym en) in (
      lead.0,
      λ rs. runs_goes m s (a - b) 0 rs e ∙ ap (finish (results_due m s)) (lead.1 rs),
      λ rs n. runs_goes m s (a - b) n rs e ∙ ap (finish (results_due m s)) (lead.2 rs n) ∙ ap (λ ts. finish ts (goes m'.running t rs n)) (same_due m s t q ∙ ap (results_at (scene_of t)) (sym en)) ∙ sym (goes_at_stage m' t Runs rs n e'),
      λ u x. at_stage m' u Runs e' (let longer = functions_longer _ _ x.grew in omega arith) (ready_more m'.running t u x lead.3, stays ∙ runs_outermost m s e can ∙ ap (λ ts. length ts ∷ []) (due ∙ sym (due_more m' t u x.grew lt'))),
    )

-- what the machine asked is what the run asked
pub asked_same : (s : State) (f number k : ℕ) (ty : CoreFunc) (old new : Machine) (args : List CoreValue) → slice_get s.functions f ≡ Some (Outside ty number) → AsksBy (slice_get s.functions f) s old new (pauses.AtHost k args) → (k ≡ number) × (args ≡ arguments s ty old.running.slots.operands) × (new ≡ asking ty old)
asked_same s f number k ty old new args e h = subst (λ (o : Option StoreFunc). AsksBy o s old new (pauses.AtHost k args)) e h

pub asks_only : (o : Option StoreFunc) (s : State) (old new : Machine) (p : Pause) → AsksBy o s old new p → (k : ℕ) × (args : List CoreValue) × (p ≡ pauses.AtHost k args)
asks_only None s old new p h = absurd h
asks_only (Some (Inside ty i l body)) s old new p h = absurd h
asks_only (Some (Outside ty number)) s old new (pauses.AtHost k args) h = (k, args, refl)
asks_only (Some (Outside ty number)) s old new (pauses.Done v) h = absurd h
asks_only (Some (Outside ty number)) s old new pauses.Trapped h = absurd h
asks_only (Some (Outside ty number)) s old new pauses.Spent h = absurd h
asks_only (Some (Outside ty number)) s old new pauses.TooDeep h = absurd h

-- asking leaves the function that was called from outside
pub asked_entry : (f : Option StoreFunc) (s : State) (old new : Machine) (p : Pause) → AsksBy f s old new p → new.entry ≡ old.entry
asked_entry None s old new p h = absurd h
asked_entry (Some (Inside ty i l body)) s old new p h = absurd h
asked_entry (Some (Outside ty number)) s old new (pauses.AtHost k args) h = ap (λ (m : Machine). m.entry) h.2
asked_entry (Some (Outside ty number)) s old new (pauses.Done v) h = absurd h
asked_entry (Some (Outside ty number)) s old new pauses.Trapped h = absurd h
asked_entry (Some (Outside ty number)) s old new pauses.Spent h = absurd h
asked_entry (Some (Outside ty number)) s old new pauses.TooDeep h = absurd h

-- there is room for the results
pub asked_for : (f number : ℕ) (ty : CoreFunc) (m : Machine) (s : State) (args : List CoreValue) → slice_get s.functions f ≡ Some (Outside ty number) → HaveTypes ty.params args → Asked number args (asking ty m) s
asked_for f number ty m s args e typed = record {
  function = f;
  ty = ty;
  function_is = e;
  typed = typed;
  awaited = record { due = refl; room = omega (arith, length-append (replicate (length ty.results) 0) (drop (length ty.params) m.running.slots.operands), length-replicate {A = ℕ} (length ty.results) 0) };
}

-- a run that asks
pub asking_leads : (m mid m' : Machine) (s t : State) (a b f : ℕ) (p : Pause) → m.stage ≡ Runs → mid.stage ≡ Runs → mid.entry ≡ m.entry → scene_of s ≡ scene_of t → CanRun m s → RunLeads (ahead (goes m.running s) (a - b)) b (Asking f) mid.running t → Remains (Asking f) m.running mid.running → AsksBy (slice_get t.functions f) t mid m' p → PauseLeads (granted (goes_on m s) (a - b)) b p m' t
asking_leads m mid m' s t a b f p e em en q can lead stays by = cases p by (asks_only (slice_get t.functions f) t mid m' p by)
  where
    lt : mid.entry < length t.functions
    lt = let l = entry_after m s t q can in omega arith

    due : results_due m s ≡ results_due mid t
    due = same_due m s t q ∙ ap (results_at (scene_of t)) (sym en)

    host : (k : ℕ) (args : List CoreValue) → AsksBy (slice_get t.functions f) t mid m' (pauses.AtHost k args) → PauseLeads (granted (goes_on m s) (a - b)) b (pauses.AtHost k args) m' t
    host k args h =
        let x = lead in
        let same = asked_same t f x.number k x.ty mid m' args x.callee_is h in
        let goal : PauseLeads (granted (goes_on m s) (a - b)) b (pauses.AtHost k args) (asking x.ty mid) t = (
          λ n. runs_goes m s (a - b) n [] e ∙ ap (finish (results_due m s)) (x.asks n) ∙ ap (λ j. Asks j (arguments t x.ty mid.running.slots.operands) t n) (sym same.0) ∙ ap (λ v. Asks k v t n) (sym same.1),
          λ r ans.
              let slots = answered_same x.ty mid.running.slots r.results ans.results in
              let ready = ready_at_more t r.store ans.back.grew mid.running.function mid.running.at (answered x.ty mid.running.slots r.results) (progress mid.running) (x.ready r.results ans.results) in
              let few = x.counted in
              let nest = ans.back.nesting in (
                λ rs n. runs_goes m s (a - b) n (r ∷ rs) e ∙ ap (finish (results_due m s)) (x.goes r rs n
                    ∙ goes_at_more t r.store ans.back.grew mid.running.function mid.running.at (answered x.ty mid.running.slots r.results) (progress mid.running) r.store rs n (x.ready r.results ans.results)
                    ∙ ap (λ z. goes_at (scene_of r.store) mid.running.function mid.running.at z (progress mid.running) r.store rs n) (sym slots))
                    ∙ ap (λ ts. finish ts (goes (resumed (asking x.ty mid) r.results).running r.store rs n)) (due ∙ sym (due_more mid t r.store ans.back.grew lt))
                    ∙ sym (goes_at_stage (resumed (asking x.ty mid) r.results) r.store Runs rs n em),
                at_stage (resumed (asking x.ty mid) r.results) r.store Runs em (let longer = functions_longer _ _ ans.back.grew in let l = lt in omega arith) (
                  record { at = subst (λ z. ReadyAt (scene_of r.store) mid.running.function mid.running.at z (progress mid.running)) (sym slots) ready; counted = omega arith },
                  stays ∙ runs_outermost m s e can ∙ ap (λ ts. length ts ∷ []) (due ∙ sym (due_more mid t r.store ans.back.grew lt)),
                ),
              ),
          asked_for f k x.ty mid t args (subst (λ j. slice_get t.functions f ≡ Some (Outside x.ty j)) (sym same.0) x.callee_is) (subst (HaveTypes x.ty.params) (sym same.1) (arguments_typed t x.ty mid.running.slots.operands x.fits)),
          lt,
        ) in
        subst (λ z. PauseLeads (granted (goes_on m s) (a - b)) b (pauses.AtHost k args) z t) (sym same.2) goal

    cases : (p : Pause) → AsksBy (slice_get t.functions f) t mid m' p → (k : ℕ) × (args : List CoreValue) × (p ≡ pauses.AtHost k args) → PauseLeads (granted (goes_on m s) (a - b)) b p m' t
    cases p h w = subst (λ z. PauseLeads (granted (goes_on m s) (a - b)) b z m' t) (sym w.2) (host w.0 w.1 (subst (AsksBy (slice_get t.functions f) t mid m') w.2 h))

pub values_same : (v : List CoreValue) (k k' : ℕ) (ts ts' : List CoreType) (ws ws' : List ℕ) → k ≡ k' → ts ≡ ts' → ws ≡ ws' → v ≡ values_in k ts ws → v ≡ values_in k' ts' ws'
values_same v k k' ts ts' ws ws' ek et ew e = e ∙ ap (λ j. values_in j ts ws) ek ∙ ap (λ us. values_in k' us ws) et ∙ ap (values_in k' ts') ew

-- ---- traps
pub asks_no_trap : (X : List Reply → ℕ → Outcome) (taken : ℕ) (f : Option StoreFunc) (s : State) (old new : Machine) (p : Pause) → AsksBy f s old new p → PauseTraps X taken p
asks_no_trap X taken None s old new p h = absurd h
asks_no_trap X taken (Some (Inside ty i l body)) s old new p h = absurd h
asks_no_trap X taken (Some (Outside ty number)) s old new (pauses.AtHost k args) h = tt
asks_no_trap X taken (Some (Outside ty number)) s old new (pauses.Done v) h = tt
asks_no_trap X taken (Some (Outside ty number)) s old new pauses.Trapped h = absurd h
asks_no_trap X taken (Some (Outside ty number)) s old new pauses.Spent h = tt
asks_no_trap X taken (Some (Outside ty number)) s old new pauses.TooDeep h = tt

pub due_no_trap : (X : List Reply → ℕ → Outcome) (taken b : ℕ) (p : Pause) → Dues b p → PauseTraps X taken p
due_no_trap X taken b (pauses.Done v) h = tt
due_no_trap X taken b pauses.Trapped h = absurd h
due_no_trap X taken b (pauses.AtHost k args) h = tt
due_no_trap X taken b pauses.Spent h = tt
due_no_trap X taken b pauses.TooDeep h = tt

pub failed_traps : (m : Machine) (s : State) (taken : ℕ) → m.stage ≡ Runs → TrapsBehind (goes m.running s) taken Failed → PauseTraps (goes_on m s) taken pauses.Trapped
failed_traps m s taken e h = (h.0, λ rs. goes_at_stage m s Runs rs (taken - 1) e ∙ ap (finish (results_due m s)) (h.1 rs))

pub traps_from : (X Y : List Reply → ℕ → Outcome) (taken : ℕ) (p : Pause) → ((rs : List Reply) (n : ℕ) → X rs n ≡ Y rs n) → PauseTraps Y taken p → PauseTraps X taken p
traps_from X Y taken (pauses.Done v) e h = tt
traps_from X Y taken pauses.Trapped e h = (h.0, λ rs. e rs (taken - 1) ∙ h.1 rs)
traps_from X Y taken (pauses.AtHost k args) e h = tt
traps_from X Y taken pauses.Spent e h = tt
traps_from X Y taken pauses.TooDeep e h = tt

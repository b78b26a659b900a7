-- The first call, and a call over all its pauses.
use Rattle.std.proofs.Common.{◌≡◌, ℕ, zero, suc, ◌+◌, ◌-◌, ◌<◌, ◌≤◌, List, [], ◌∷◌, ◌++◌, length, take, drop, Some, Option, Bool, true, false, refl, sym, ap, ◌∙◌, subst, arith, length-append}
use Rattle.std.specs.Prelude.{reverse, replicate, slice_get}
use Rattle.std.proofs.lemmas.List.{drop_all, length-drop, length-reverse, length-take-le, length-replicate}
use Rattle.virt_base.specs.declared.core_type.CoreType.{CoreType}
use Rattle.wasm_ast.specs.declared.module.CoreFunc.{CoreFunc}
use Rattle.wasm_ast.specs.declared.instr.Instr.{Instr}
use Rattle.core_store.specs.Tree.{tree, parts}
use Rattle.core_store.specs.declared.value.CoreValue.{CoreValue}
use Rattle.core_store.specs.declared.value.StoreFunc.{StoreFunc}
use Rattle.core_store.specs.declared.value.StoreFunc.TheVariants.{Inside, Outside}
use Rattle.core_store.specs.State.{State, can_enter}
use Rattle.core_store.specs.Words.{words, values_in, HaveTypes}
use Rattle.core_store.specs.Config.{Reply, Done, Asks, bare, spaces_of}
use Rattle.core_store.specs.Eval.{arguments, function_type, go, exec, finish, entered, enter_within, call_end, entered_store, begun}
use Rattle.core_store.proofs.Steps.{go_enter}
use Rattle.core_slots.specs.Stacked.{Stacked, opened}
use Rattle.core_interp.specs.declared.control.Control.{Control}
use Rattle.core_interp.specs.declared.control.Control.TheVariants.{Entry}
use Rattle.core_interp.specs.declared.machine.Stage.TheVariants.{Starts, Runs, Answered, Due}
use Rattle.core_interp.specs.declared.machine.Machine.{Machine}
use Rattle.core_interp.specs.declared.machine.Pause.{Pause}
use Rattle.core_interp.specs.declared.machine.Pause.TheVariants as pauses
use Rattle.core_store.specs.Scene.{Scene, scene_of, code_of, instance_of, results_at, IsInside}
use Rattle.core_interp.specs.Rest.{config_of, goes_with, goes_at}
use Rattle.core_store.specs.Fine.{frame_at, Fine, IsFine, params_of}
use Rattle.core_interp.specs.Valid.{IsReady}
use Rattle.core_interp.specs.Run.{progress, calls, entries, ReadyAt}
use Rattle.core_interp.specs.Session.{results_due, goes_on, IsFirst, CanRun, IsAnswer, resumed, PauseLeads, granted, asking, AsksBy, Dues}
use Rattle.core_interp.proofs.Given.{pushed}
use Rattle.core_store.proofs.Growing.{functions_longer}
use Rattle.core_interp.proofs.Pauses.{goes_at_stage, staged_at, at_stage, due_leads, asked_same, asks_only, due_more, asked_for, arguments_typed, words_len}

pub first_of : (m : Machine) (s : State) → m.stage ≡ Starts → CanRun m s → IsFirst m s
first_of m s e can = staged_at m s Starts e can.staged

some_same : (g h : StoreFunc) → Some g ≡ Some h → g ≡ h
some_same g h e = cc

-- the arguments are all the operands
pub first_count : (m : Machine) (s : State) (g : StoreFunc) → IsFirst m s → slice_get s.functions m.entry ≡ Some g → length m.running.slots.operands ≡ params_of g
first_count m s g x e = x.count ∙ ap params_of (some_same _ _ (sym x.callee_is ∙ e))

-- the call, by its function
begins : (m : Machine) (s : State) (g : StoreFunc) (rs : List Reply) (n : ℕ) → m.stage ≡ Starts → slice_get s.functions m.entry ≡ Some g → goes_on m s rs n ≡ finish (results_due m s) (entered go (Some g) n (config_of m.running.slots bare s rs))
begins m s g rs n e there =
    goes_at_stage m s Starts rs n e
    ∙ ap (finish (results_due m s)) (go_enter m.entry n (config_of m.running.slots bare s rs) ∙ ap (λ (o : Option StoreFunc). entered go o n (config_of m.running.slots bare s rs)) there)

-- nothing is below the arguments
none_below : (m : Machine) (s : State) (g : StoreFunc) → IsFirst m s → slice_get s.functions m.entry ≡ Some g → drop (params_of g) m.running.slots.operands ≡ []
none_below m s g x e = let n = first_count m s g x e in drop_all (params_of g) m.running.slots.operands (omega arith)

module _ (m k : Machine) (s t : State) (i : ℕ) (ty : CoreFunc) (locals : List CoreType) (body : List Instr) (stage : m.stage ≡ Starts) (x : IsFirst m s) (there : slice_get s.functions m.entry ≡ Some (Inside ty i locals body)) (went : (can_enter s ≡ true) × (t ≡ entered_store s)) (entry : k.entry ≡ m.entry) (runs : k.stage ≡ Runs) (function : k.running.function ≡ m.running.function) (at : k.running.at ≡ m.running.at) (slots : k.running.slots ≡ opened (length ty.params) (length locals) m.running.slots) (controls : k.running.controls.items ≡ m.running.controls.items ++ Entry (length ty.results) ∷ []) where
  in_progress : progress k.running ≡ Entry (length ty.results) ∷ []
  in_progress = pushed m.running.controls.items k.running.controls.items _ controls ∙ ap (λ (xs : List Control). Entry (length ty.results) ∷ reverse xs) x.controls

  same_scene : scene_of t ≡ scene_of s
  same_scene = ap scene_of went.1

  at_start : {A : Type 0} (P : ℕ → ℕ → Stacked → List Control → A) → P k.running.function k.running.at k.running.slots (progress k.running) ≡ P m.entry 0 (opened (length ty.params) (length locals) m.running.slots) (Entry (length ty.results) ∷ [])
  at_start P =
      ap (λ f. P f k.running.at k.running.slots (progress k.running)) (function ∙ x.function) ∙ ap (λ j. P m.entry j k.running.slots (progress k.running)) (at ∙ x.at)
      ∙ ap (λ a. P m.entry 0 a (progress k.running)) slots ∙ ap (λ cs. P m.entry 0 (opened (length ty.params) (length locals) m.running.slots) cs) in_progress

  back_at_start : (P : ℕ → ℕ → Stacked → List Control → Type 0) → P m.entry 0 (opened (length ty.params) (length locals) m.running.slots) (Entry (length ty.results) ∷ []) → P k.running.function k.running.at k.running.slots (progress k.running)
  back_at_start P p =
      subst (λ f. P f k.running.at k.running.slots (progress k.running)) (sym (function ∙ x.function)) (subst (λ j. P m.entry j k.running.slots (progress k.running)) (sym (at ∙ x.at))
      (subst (λ a. P m.entry 0 a (progress k.running)) (sym slots) (subst (λ cs. P m.entry 0 (opened (length ty.params) (length locals) m.running.slots) cs) (sym in_progress) p)))

  -- the rest of the run is that of the machine in the code
  pub begun_goes : (rs : List Reply) (n : ℕ) → goes_on m s rs n ≡ goes_on k t rs n
  begun_goes rs n =
      let A = opened (length ty.params) (length locals) m.running.slots in
      let o = exec go (tree body) n (config_of (opened (length ty.params) (length locals) m.running.slots) (spaces_of s.instances i) (entered_store s) rs) in
      begins m s (Inside ty i locals body) rs n stage there
      ∙ ap (λ (b : Bool). finish (results_due m s) (enter_within b n (call_end (length ty.results) (drop (length ty.params) m.running.slots.operands) m.running.slots.locals bare o))) went.0
      ∙ ap (λ xs. finish (results_due m s) (call_end (length ty.results) xs m.running.slots.locals bare o)) (none_below m s (Inside ty i locals body) x there)
      ∙ ap (λ xs. finish (results_due m s) (call_end (length ty.results) [] xs bare o)) x.locals
      ∙ ap (λ (h : Option StoreFunc). finish (results_due m s) (goes_with (scene_of s) (spaces_of s.instances (instance_of h)) (code_of h) (parts (drop 0 (code_of h))) A (Entry (length ty.results) ∷ []) (entered_store s) rs n)) (sym there)
      ∙ ap (λ v. finish (results_due m s) (goes_at (scene_of s) m.entry 0 A (Entry (length ty.results) ∷ []) v rs n)) (sym went.1)
      ∙ ap (λ (w : Scene). finish (results_at w m.entry) (goes_at w m.entry 0 A (Entry (length ty.results) ∷ []) t rs n)) (sym same_scene)
      ∙ ap (λ f. finish (results_at (scene_of t) f) (goes_at (scene_of t) m.entry 0 A (Entry (length ty.results) ∷ []) t rs n)) (sym entry)
      ∙ ap (finish (results_due k t)) (sym (at_start (λ f j a cs. goes_at (scene_of t) f j a cs t rs n)))
      ∙ sym (goes_at_stage k t Runs rs n runs)

  pub begun_can : IsFine (scene_of s) → m.entry < length s.functions → CanRun k t
  begun_can fine lt =
      let A = opened (length ty.params) (length locals) m.running.slots in
      let few : m.running.slots.operands ≡ m.running.slots.operands = refl in
      let count = first_count m s (Inside ty i locals body) x there in
      let len : length (opened (length ty.params) (length locals) m.running.slots).locals ≡ length ty.params + length locals = omega (arith, length-append (reverse (take (length ty.params) m.running.slots.operands)) (replicate (length locals) 0), length-reverse (take (length ty.params) m.running.slots.operands), length-take-le (length ty.params) m.running.slots.operands (omega arith), length-replicate {A = ℕ} (length locals) 0) in
      let results : length ty.results ≡ length (results_at (scene_of s) m.entry) = sym (ap (λ (o : Option StoreFunc). length (function_type o).results) there) in
      let f = fine.each m.entry _ there in
      let ready : IsReady (scene_of s) (frame_at (scene_of s) m.entry (length A.locals)) body (parts (drop 0 body)) A (Entry (length ty.results) ∷ []) = record {
        floor = 0;
        above = 0;
        ends = length ty.results;
        there = refl;
        here = subst (λ j. Fine (scene_of s) (frame_at (scene_of s) m.entry j) (length ty.results ∷ []) 0 (length ty.results) (tree body)) (sym len) f.1;
        below = (refl, refl, results);
      } in
      let start : ReadyAt (scene_of s) m.entry 0 A (Entry (length ty.results) ∷ []) = record {
        inside = subst (IsInside (scene_of s)) (sym there) f.0;
        ready = subst (λ (o : Option StoreFunc). IsReady (scene_of s) (frame_at (scene_of s) m.entry (length A.locals)) (code_of o) (parts (drop 0 (code_of o))) A (Entry (length ty.results) ∷ [])) (sym there) ready;
      } in
      let nest : t.nesting ≡ s.nesting + 1 = ap (λ (v : State). v.nesting) went.1 in
      let there_too : k.entry < length t.functions = subst (λ (fs : List StoreFunc). k.entry < length fs) (sym (ap (λ (v : State). v.functions) went.1)) (omega arith) in
      let due : length ty.results ≡ length (results_due k t) = results ∙ ap (λ (w : Scene). length (results_at w m.entry)) (sym same_scene) ∙ ap (λ f. length (results_at (scene_of t) f)) (sym entry) in
      at_stage k t Runs runs there_too (
        record {
          at = back_at_start (λ f j a cs. ReadyAt (scene_of t) f j a cs) (subst (λ (w : Scene). ReadyAt w m.entry 0 A (Entry (length ty.results) ∷ [])) (sym same_scene) start);
          counted = omega (arith, ap calls in_progress);
        },
        ap entries in_progress ∙ ap (λ n. n ∷ []) due,
      )

-- the first call is too deep
pub first_deep : (m k : Machine) (s : State) (i a : ℕ) (ty : CoreFunc) (locals : List CoreType) (body : List Instr) (p : Pause) → m.stage ≡ Starts → k.stage ≡ Due → k.entry ≡ m.entry → CanRun m s → slice_get s.functions m.entry ≡ Some (Inside ty i locals body) → can_enter s ≡ false → Dues a p → PauseLeads (granted (goes_on m s) (a - a)) a p k s
first_deep m k s i a ty locals body p e e' en can there full h =
    let lt = can.entry in
    due_leads (granted (goes_on m s) (a - a)) a p k s e' (omega arith)
    (λ rs n. (let q : a - a + n ≡ n = omega arith in ap (goes_on m s rs) q) ∙ begins m s (Inside ty i locals body) rs n e there
    ∙ ap (λ (b : Bool). finish (results_due m s) (enter_within b n (call_end (length ty.results) (drop (length ty.params) m.running.slots.operands) m.running.slots.locals bare (exec go (tree body) n (begun ty i (length locals) (config_of m.running.slots bare s rs)))))) full)
    h

-- the first call is the embedder's
pub first_asks : (m mid k : Machine) (s : State) (a number : ℕ) (ty : CoreFunc) (p : Pause) → m.stage ≡ Starts → mid.stage ≡ Answered → mid.entry ≡ m.entry → mid.running.slots ≡ m.running.slots → CanRun m s → slice_get s.functions m.entry ≡ Some (Outside ty number) → AsksBy (slice_get s.functions m.entry) s mid k p → PauseLeads (granted (goes_on m s) (a - a)) a p k s
first_asks m mid k s a number ty p e em en same can there by = cases p by (asks_only (slice_get s.functions m.entry) s mid k p by)
  where
    x : IsFirst m s
    x = first_of m s e can

    lt : mid.entry < length s.functions
    lt = let l = can.entry in omega arith

    none : drop (length ty.params) mid.running.slots.operands ≡ []
    none = ap (λ (z : Stacked). drop (length ty.params) z.operands) same ∙ none_below m s (Outside ty number) x there

    fits : length ty.params ≤ length mid.running.slots.operands
    fits = let n = first_count m s (Outside ty number) x there in let q : length mid.running.slots.operands ≡ length m.running.slots.operands = ap (λ (z : Stacked). length z.operands) same in omega arith

    none_taken : (rs : List Reply) (n : ℕ) → granted (goes_on m s) (a - a) rs n ≡ goes_on m s rs n
    none_taken rs n = let q : a - a + n ≡ n = omega arith in ap (goes_on m s rs) q

    left : (vs : List CoreValue) → length vs ≡ length ty.results → (resumed (asking ty mid) vs).running.slots.operands ≡ reverse (words vs) ++ drop (length ty.params) m.running.slots.operands
    left vs n =
        let z : length (replicate (length ty.results) 0) ≡ length ty.results = length-replicate {A = ℕ} (length ty.results) 0 in
        ap (λ xs. reverse (words vs) ++ xs) (drop_exactly (length vs) (replicate (length ty.results) 0) (drop (length ty.params) mid.running.slots.operands) (n ∙ sym z) ∙ ap (λ (y : Stacked). drop (length ty.params) y.operands) same)
      where
        drop_exactly : (k : ℕ) (xs ys : List ℕ) → k ≡ length xs → drop k (xs ++ ys) ≡ ys
        drop_exactly zero [] ys q = refl
        drop_exactly zero (y ∷ xs) ys q = absurd (omega arith)
        drop_exactly (suc k) [] ys q = absurd (omega arith)
        drop_exactly (suc k) (y ∷ xs) ys q = drop_exactly k xs ys (omega arith)

    -- the results are all the operands
    all_there : (r : Reply) → IsAnswer (length ty.results) s r → length (resumed (asking ty mid) r.results).running.slots.operands ≡ length (results_due (resumed (asking ty mid) r.results) r.store)
    all_there r ans =
        ap length (left r.results ans.results)
        ∙ (let n = first_count m s (Outside ty number) x there in let c = ans.results in omega (arith, length-append (reverse (words r.results)) (drop (length ty.params) m.running.slots.operands), length-reverse (words r.results), words_len r.results, length-drop (length ty.params) m.running.slots.operands))
        ∙ ap (λ (o : Option StoreFunc). length (function_type o).results) (sym there)
        ∙ ap (λ f. length (results_at (scene_of s) f)) (sym en)
        ∙ ap length (sym (due_more mid s r.store ans.back.grew lt))

    host : (j : ℕ) (args : List CoreValue) → AsksBy (slice_get s.functions m.entry) s mid k (pauses.AtHost j args) → PauseLeads (granted (goes_on m s) (a - a)) a (pauses.AtHost j args) k s
    host j args h =
        let q = asked_same s m.entry number j ty mid k args there h in
        let goal : PauseLeads (granted (goes_on m s) (a - a)) a (pauses.AtHost j args) (asking ty mid) s = (
          λ n. none_taken [] n ∙ begins m s (Outside ty number) [] n e there
              ∙ ap (λ i. Asks i (arguments s ty m.running.slots.operands) s n) (sym q.0)
              ∙ ap (λ (z : Stacked). Asks j (arguments s ty z.operands) s n) (sym same)
              ∙ ap (λ v. Asks j v s n) (sym q.1),
          λ r ans. (
            λ rs n. none_taken (r ∷ rs) n ∙ begins m s (Outside ty number) (r ∷ rs) n e there
                ∙ ap (λ ts. Done (values_in (length r.store.functions) ts (reverse (reverse (words r.results) ++ drop (length ty.params) m.running.slots.operands))) r.store n) (ap (results_at (scene_of s)) (sym en) ∙ sym (due_more mid s r.store ans.back.grew lt))
                ∙ ap (λ xs. Done (values_in (length r.store.functions) (results_due mid r.store) (reverse xs)) r.store n) (sym (left r.results ans.results))
                ∙ sym (goes_at_stage (resumed (asking ty mid) r.results) r.store Answered rs n em),
            at_stage (resumed (asking ty mid) r.results) r.store Answered em (let longer = functions_longer _ _ ans.back.grew in let l = lt in omega arith) (all_there r ans),
          ),
          asked_for m.entry j ty mid s args (subst (λ i. slice_get s.functions m.entry ≡ Some (Outside ty i)) (sym q.0) there) (subst (HaveTypes ty.params) (sym q.1) (arguments_typed s ty mid.running.slots.operands fits)),
          lt,
        ) in
        subst (λ z. PauseLeads (granted (goes_on m s) (a - a)) a (pauses.AtHost j args) z s) (sym q.2) goal

    cases : (p : Pause) → AsksBy (slice_get s.functions m.entry) s mid k p → (j : ℕ) × (args : List CoreValue) × (p ≡ pauses.AtHost j args) → PauseLeads (granted (goes_on m s) (a - a)) a p k s
    cases p h w = subst (λ z. PauseLeads (granted (goes_on m s) (a - a)) a z k s) (sym w.2) (host w.0 w.1 (subst (AsksBy (slice_get s.functions m.entry) s mid k) w.2 h))

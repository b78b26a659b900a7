-- Calls, over the parts of a run.
use Rattle.std.proofs.Common.{◌≡◌, ℕ, ◌+◌, ◌<◌, ◌≤◌, List, [], ◌∷◌, ◌++◌, length, drop, Some, Option, Bool, true, false, Result, Ok, Err, refl, sym, ap, ◌∙◌, subst, arith}
use Rattle.std.specs.Prelude.{reverse, slice_get}
use Rattle.std.proofs.lemmas.Option.{slice_get_within}
use Rattle.virt_base.specs.declared.fault.Trap.{Trap}
use Rattle.virt_base.specs.declared.core_type.CoreType.{CoreType}
use Rattle.wasm_ast.specs.declared.module.CoreFunc.{CoreFunc}
use Rattle.wasm_ast.specs.declared.instr.Instr.{Instr}
use Rattle.wasm_ast.specs.declared.instr.Instr.TheVariants.{Call, CallIndirect}
use Rattle.core_store.specs.Tree.{first, parts}
use Rattle.core_store.specs.declared.value.CoreRef.{CoreRef}
use Rattle.core_store.specs.declared.value.CoreRef.TheVariants.{Null, Func}
use Rattle.core_store.specs.declared.value.CoreSpaces.{CoreSpaces}
use Rattle.core_store.specs.declared.value.StoreFunc.{StoreFunc}
use Rattle.core_store.specs.declared.value.StoreFunc.TheVariants.{Inside, Outside}
use Rattle.core_store.specs.Table.{got}
use Rattle.core_store.specs.State.{State, can_enter, table_at}
use Rattle.core_store.specs.Words.{i32_in}
use Rattle.core_store.specs.Config.{Reply, Out, Over, Outcome, Trapped, Asks, then_do, spaces_of, type_at}
use Rattle.core_store.specs.Eval.{call_ref, exec, go, type_of, same_func, entered_store, deep, arguments}
use Rattle.core_slots.specs.Stacked.{Stacked, with_operands, opened}
use Rattle.core_interp.specs.declared.control.Control.{Control}
use Rattle.core_interp.specs.declared.control.Control.TheVariants.{Called}
use Rattle.core_interp.specs.declared.control.Flow.{Flow}
use Rattle.core_interp.specs.declared.control.Flow.TheVariants.{On, Ended, Failed, Asking, Exhausted, Deep}
use Rattle.core_interp.specs.declared.running.Running.{Running}
use Rattle.core_store.specs.Scene.{scene_of, code_of, code_at, instance_of, spaces_at, IsInside}
use Rattle.core_interp.specs.Rest.{after, conts, config_of, goes_with, goes_at}
use Rattle.core_store.specs.Fine.{Place, frame_at, IsFine}
use Rattle.core_interp.specs.Valid.{IsReady}
use Rattle.core_interp.specs.Jumping.{IsEntering, enters}
use Rattle.core_interp.specs.Run.{progress, calls, ReadyAt, IsBefore, LeadsTo, AsksFor, Leads, steps, next_parts, Enters, entry, answered}
use Rattle.core_interp.proofs.Calling.{inside_goes, inside_ready, deep_goes, outside_asks, outside_goes, outside_ready, enters_fits, call_goes, call_entering, call_there, indirect_goes, indirect_enters, indirect_traps, indirect_entering, indirect_below, indirect_needs, other_type}
use Rattle.core_interp.proofs.Given.{code_in, spaces_in, frame_in, ready_own, steps_own, pushed, arrive}

pub enter_inside : (m : Running) (s t : State) (f i : ℕ) (ty : CoreFunc) (locals : List CoreType) (body : List Instr) (b : Stacked) (ys : List Control) → Enters m s f → IsFine (scene_of s) → slice_get s.functions f ≡ Some (Inside ty i locals body) → (can_enter s ≡ true) × (t ≡ entered_store s) → b ≡ opened (length ty.params) (length locals) m.slots → ys ≡ m.controls.items ++ Called m.function (m.at + 1) (length ty.results) ∷ [] → LeadsTo (entry m s f) f 0 b (reverse ys) t
enter_inside m s t f i ty locals body b ys x fine e went opens push =
    let W = scene_of s in
    let A = opened (length ty.params) (length locals) m.slots in
    let cs = Called m.function (m.at + 1) (length ty.results) ∷ progress m in
    let n : t.nesting ≡ s.nesting + 1 = ap (λ (v : State). v.nesting) went.1 in
    let few = x.counted in
    let ready = inside_ready m.function f (m.at + 1) i ty locals body (next_parts m s) m.slots (progress m) W fine x.inside e refl x.entering in
    arrive (entry m s f) s t f 0 b cs ys (sym (ap scene_of went.1)) (pushed m.controls.items ys _ push)
    (λ rs n. inside_goes m.function f (m.at + 1) i ty locals body (next_parts m s) m.slots (progress m) s rs n e went.0 refl
    ∙ ap (λ (k : Option StoreFunc). goes_with W (spaces_of s.instances (instance_of k)) (code_of k) (parts (drop 0 (code_of k))) A cs (entered_store s) rs n) (sym e)
    ∙ ap (λ z. goes_at W f 0 z cs (entered_store s) rs n) (sym opens)
    ∙ ap (λ v. goes_at W f 0 b cs v rs n) (sym went.1))
    (record {
      inside = subst (IsInside W) (sym e) (fine.each f _ e).0;
      ready = subst (λ z. IsReady W (frame_at W f (length z.locals)) (code_at W f) (parts (drop 0 (code_at W f))) z cs) (sym opens)
          (subst (λ (k : Option StoreFunc). IsReady W (frame_at W f (length A.locals)) (code_of k) (parts (drop 0 (code_of k))) A cs) (sym e) ready);
    })
    (omega arith)

pub enter_within : (m : Running) (s : State) (f : ℕ) → Enters m s f → f < length s.functions
enter_within m s f x = slice_get_within s.functions f x.entering.callee x.entering.callee_is

pub enter_fits : (m : Running) (s : State) (f i : ℕ) (ty : CoreFunc) (locals : List CoreType) (body : List Instr) → Enters m s f → slice_get s.functions f ≡ Some (Inside ty i locals body) → length ty.params ≤ length m.slots.operands
enter_fits m s f i ty locals body x e = enters_fits (scene_of s) (frame_in m s m.slots) (code_in m s) (next_parts m s) m.slots (progress m) f _ e x.entering

pub enter_deep : (m : Running) (s : State) (f i : ℕ) (ty : CoreFunc) (locals : List CoreType) (body : List Instr) (rs : List Reply) (n : ℕ) → Enters m s f → slice_get s.functions f ≡ Some (Inside ty i locals body) → can_enter s ≡ false → entry m s f rs n ≡ Over (deep n)
enter_deep m s f i ty locals body rs n x e full =
    deep_goes (scene_of s) (frame_in m s m.slots) (spaces_in m s) (code_in m s) f i ty locals body (next_parts m s) m.slots (progress m) s rs n e full x.entering

pub enter_outside : (m : Running) (s : State) (f number : ℕ) (ty : CoreFunc) (k : Running) → Enters m s f → slice_get s.functions f ≡ Some (Outside ty number) → k.function ≡ m.function → k.at ≡ m.at + 1 → k.slots ≡ m.slots → progress k ≡ progress m → AsksFor (entry m s f) f k s
enter_outside m s f number ty k x e same_f same_at same_a same_c =
    let W = scene_of s in
    record {
      ty = ty;
      number = number;
      callee_is = e;
      fits = subst (λ (z : Stacked). length ty.params ≤ length z.operands) (sym same_a) (enters_fits W (frame_in m s m.slots) (code_in m s) (next_parts m s) m.slots (progress m) f _ e x.entering);
      asks = λ n. subst (λ (z : Stacked). entry m s f [] n ≡ Over (asked z n)) (sym same_a) (outside_asks W (frame_in m s m.slots) (spaces_in m s) (code_in m s) f number ty (next_parts m s) m.slots (progress m) s n e x.entering);
      goes = λ r rs n. outside_goes W (spaces_in m s) (code_in m s) f number ty (next_parts m s) m.slots (progress m) s r rs n e ∙ sym (moved (λ g at a cs. goes_at W g at (answered ty a r.results) cs r.store rs n));
      ready = λ results len. back (λ g at a cs. ReadyAt W g at (answered ty a results) cs) (record { inside = x.inside; ready = outside_ready W (frame_in m s m.slots) (code_in m s) f number ty (next_parts m s) m.slots (progress m) results e len x.entering });
      counted = subst (λ cs. calls cs ≤ s.nesting) (sym same_c) x.counted;
    }
  where
    asked : Stacked → ℕ → Outcome
    asked z n = Asks number (arguments s ty z.operands) s n

    moved : {A : Type 0} (P : ℕ → ℕ → Stacked → List Control → A) → P k.function k.at k.slots (progress k) ≡ P m.function (m.at + 1) m.slots (progress m)
    moved P = ap (λ g. P g k.at k.slots (progress k)) same_f ∙ ap (λ at. P m.function at k.slots (progress k)) same_at ∙ ap (λ a. P m.function (m.at + 1) a (progress k)) same_a ∙ ap (λ cs. P m.function (m.at + 1) m.slots cs) same_c

    back : (P : ℕ → ℕ → Stacked → List Control → Type 0) → P m.function (m.at + 1) m.slots (progress m) → P k.function k.at k.slots (progress k)
    back P p = subst (λ g. P g k.at k.slots (progress k)) (sym same_f) (subst (λ at. P m.function at k.slots (progress k)) (sym same_at) (subst (λ a. P m.function (m.at + 1) a (progress k)) (sym same_a) (subst (λ cs. P m.function (m.at + 1) m.slots cs) (sym same_c) p)))

-- a call by index
pub call_names : (m : Running) (s : State) (index : ℕ) → IsBefore (Call index) m s → Place (length s.functions) (spaces_in m s).functions index
call_names m s index x = call_there (scene_of s) (frame_in m s m.slots) (code_in m s) index (next_parts m s) m.slots (progress m) (ready_own (Call index) m s x)

pub call_enters : (m : Running) (s : State) (index f : ℕ) → IsBefore (Call index) m s → slice_get (spaces_in m s).functions index ≡ Some f → Enters m s f
call_enters m s index f x e = record {
  inside = x.ready.at.inside;
  counted = x.ready.counted;
  small = x.small;
  entering = call_entering (scene_of s) (frame_in m s m.slots) (code_in m s) index f (next_parts m s) m.slots (progress m) e (ready_own (Call index) m s x);
}

pub call_leads : (m : Running) (s : State) (index f : ℕ) (rs : List Reply) (n : ℕ) → IsBefore (Call index) m s → slice_get (spaces_in m s).functions index ≡ Some f → steps m s rs n ≡ entry m s f rs n
call_leads m s index f rs n x e = steps_own (Call index) m s rs n x ∙ call_goes (scene_of s) (spaces_in m s) (code_in m s) index f (next_parts m s) m.slots (progress m) s rs n e

-- where a run leads that goes on as another one
pub leads_from : (X Y : List Reply → ℕ → Out) (flow : Flow) (m : Running) (s : State) → ((rs : List Reply) (n : ℕ) → X rs n ≡ Y rs n) → Leads Y flow m s → Leads X flow m s
leads_from X Y On m s e l = record { goes = λ rs n. e rs n ∙ l.goes rs n; ready = l.ready; counted = l.counted }
leads_from X Y (Ended r) m s e l = (l.0, λ rs n. e rs n ∙ l.1 rs n)
leads_from X Y Failed m s e l = λ rs n. e rs n ∙ l rs n
leads_from X Y (Asking f) m s e l = record { ty = l.ty; number = l.number; callee_is = l.callee_is; fits = l.fits; asks = λ n. e [] n ∙ l.asks n; goes = λ r rs n. e (r ∷ rs) n ∙ l.goes r rs n; ready = l.ready; counted = l.counted }
leads_from X Y Deep m s e l = λ rs n. e rs n ∙ l rs n
leads_from X Y Exhausted m s e l = l

-- a call by a table
pub indirect_can : (m : Running) (s : State) (ty i : ℕ) → IsBefore (CallIndirect ty i) m s → Place (length s.tables) (spaces_in m s).tables i × (ty < length (spaces_in m s).types) × (0 < length m.slots.operands)
indirect_can m s ty i x = indirect_needs (scene_of s) (frame_in m s m.slots) (code_in m s) ty i (next_parts m s) m.slots (progress m) (ready_own (CallIndirect ty i) m s x)

-- the function of a call by a table is entered, where `j` is the run once the index is taken
pub indirect_enters_at : (m j : Running) (s : State) (ty i v f : ℕ) (g : StoreFunc) → IsBefore (CallIndirect ty i) m s → slice_get s.functions f ≡ Some g → same_func (type_at (spaces_in m s) ty) (type_of g) ≡ true → m.slots ≡ with_operands j.slots (v ∷ j.slots.operands) → j.function ≡ m.function → j.at ≡ m.at → progress j ≡ progress m → Enters j s f
indirect_enters_at m j s ty i v f g x e same pop same_f same_at same_c =
    let locals : length m.slots.locals ≡ length j.slots.locals = ap (λ (z : Stacked). length z.locals) pop in
    let at = x.small in
    record {
      inside = subst (λ h. IsInside (scene_of s) (slice_get s.functions h)) (sym same_f) x.ready.at.inside;
      counted = subst (λ cs. calls cs ≤ s.nesting) (sym same_c) x.ready.counted;
      small = omega arith;
      entering = subst (λ h. IsEntering (scene_of s) (frame_at (scene_of s) h (length j.slots.locals)) (code_at (scene_of s) h) (parts (drop (j.at + 1) (code_at (scene_of s) h))) j.slots (progress j) f) (sym same_f)
          (subst (λ at. IsEntering (scene_of s) (frame_in m s j.slots) (code_in m s) (parts (drop (at + 1) (code_in m s))) j.slots (progress j) f) (sym same_at)
          (subst (λ cs. IsEntering (scene_of s) (frame_in m s j.slots) (code_in m s) (next_parts m s) j.slots cs f) (sym same_c)
          (subst (λ n. IsEntering (scene_of s) (frame_at (scene_of s) m.function n) (code_in m s) (next_parts m s) j.slots (progress m) f) locals
          (indirect_entering (scene_of s) (frame_in m s m.slots) (code_in m s) ty i v f g (next_parts m s) m.slots j.slots (progress m) e same pop (ready_own (CallIndirect ty i) m s x)))));
    }

pub indirect_leads : (m j : Running) (s : State) (ty i k v f : ℕ) (g : StoreFunc) (rs : List Reply) (n : ℕ) → IsBefore (CallIndirect ty i) m s → slice_get (spaces_in m s).tables i ≡ Some k → got (table_at s k) (i32_in v) ≡ Ok (Func f) → slice_get s.functions f ≡ Some g → same_func (type_at (spaces_in m s) ty) (type_of g) ≡ true → m.slots ≡ with_operands j.slots (v ∷ j.slots.operands) → j.function ≡ m.function → j.at ≡ m.at → progress j ≡ progress m → steps m s rs n ≡ entry j s f rs n
indirect_leads m j s ty i k v f g rs n x table r e same pop same_f same_at same_c =
    steps_own (CallIndirect ty i) m s rs n x
    ∙ indirect_goes (scene_of s) (spaces_in m s) (code_in m s) ty i k v (next_parts m s) m.slots j.slots (progress m) s rs n table pop
    ∙ indirect_enters (scene_of s) (spaces_in m s) (code_in m s) ty k v f (next_parts m s) j.slots (progress m) s rs n g r e same
    ∙ ap (λ h. enters (scene_of s) (spaces_at (scene_of s) h) (code_at (scene_of s) h) (parts (drop (m.at + 1) (code_at (scene_of s) h))) j.slots (progress m) s rs f n) (sym same_f)
    ∙ ap (λ at. enters (scene_of s) (spaces_in j s) (code_in j s) (parts (drop (at + 1) (code_in j s))) j.slots (progress m) s rs f n) (sym same_at)
    ∙ ap (λ cs. enters (scene_of s) (spaces_in j s) (code_in j s) (next_parts j s) j.slots cs s rs f n) (sym same_c)

-- it traps
indirect_fails : (m : Running) (s : State) (b : Stacked) (ty i k v : ℕ) (r : Result CoreRef Trap) (rs : List Reply) (n : ℕ) → IsBefore (CallIndirect ty i) m s → slice_get (spaces_in m s).tables i ≡ Some k → got (table_at s k) (i32_in v) ≡ r → m.slots ≡ with_operands b (v ∷ b.operands) → call_ref go (type_at (spaces_in m s) ty) r n (config_of b (spaces_in m s) s rs) ≡ Over Trapped → steps m s rs n ≡ Over Trapped
indirect_fails m s b ty i k v r rs n x table g pop e =
    let below = indirect_below (scene_of s) (frame_in m s m.slots) (code_in m s) ty i v (next_parts m s) m.slots b (progress m) pop (ready_own (CallIndirect ty i) m s x) in
    steps_own (CallIndirect ty i) m s rs n x
    ∙ indirect_goes (scene_of s) (spaces_in m s) (code_in m s) ty i k v (next_parts m s) m.slots b (progress m) s rs n table pop
    ∙ ap (λ (z : Result CoreRef Trap). after (conts (scene_of s) (code_in m s) (progress m) (next_parts m s) b.callers) (then_do (call_ref go (type_at (spaces_in m s) ty) z n (config_of b (spaces_in m s) s rs)) (exec go (first (next_parts m s)).here))) g
    ∙ indirect_traps (scene_of s) (frame_in m s m.slots) (spaces_in m s) (code_in m s) ty r (next_parts m s) b (progress m) s rs n below.0 below.1 e below.2

pub indirect_null : (m : Running) (s : State) (b : Stacked) (ty i k v : ℕ) (rs : List Reply) (n : ℕ) → IsBefore (CallIndirect ty i) m s → slice_get (spaces_in m s).tables i ≡ Some k → got (table_at s k) (i32_in v) ≡ Ok Null → m.slots ≡ with_operands b (v ∷ b.operands) → steps m s rs n ≡ Over Trapped
indirect_null m s b ty i k v rs n x table g pop = indirect_fails m s b ty i k v (Ok Null) rs n x table g pop refl

pub indirect_past : (m : Running) (s : State) (b : Stacked) (ty i k v : ℕ) (t : Trap) (rs : List Reply) (n : ℕ) → IsBefore (CallIndirect ty i) m s → slice_get (spaces_in m s).tables i ≡ Some k → got (table_at s k) (i32_in v) ≡ Err t → m.slots ≡ with_operands b (v ∷ b.operands) → steps m s rs n ≡ Over Trapped
indirect_past m s b ty i k v t rs n x table g pop = indirect_fails m s b ty i k v (Err t) rs n x table g pop refl

pub indirect_other : (m : Running) (s : State) (b : Stacked) (ty i k v f : ℕ) (h : StoreFunc) (rs : List Reply) (n : ℕ) → IsBefore (CallIndirect ty i) m s → slice_get (spaces_in m s).tables i ≡ Some k → got (table_at s k) (i32_in v) ≡ Ok (Func f) → slice_get s.functions f ≡ Some h → same_func (type_at (spaces_in m s) ty) (type_of h) ≡ false → m.slots ≡ with_operands b (v ∷ b.operands) → steps m s rs n ≡ Over Trapped
indirect_other m s b ty i k v f h rs n x table g e unlike pop = indirect_fails m s b ty i k v (Ok (Func f)) rs n x table g pop (other_type (spaces_in m s) ty f n h (config_of b (spaces_in m s) s rs) e unlike)

-- the types that the machine compared are those of the definition
pub same_here : (b : Bool) (sp sp' : CoreSpaces) (due g g' : CoreFunc) (ty : ℕ) → b ≡ same_func due g → due ≡ type_at sp ty → sp ≡ sp' → g ≡ g' → same_func (type_at sp' ty) g' ≡ b
same_here b sp sp' due g g' ty e ed es eg = sym (e ∙ ap (λ d. same_func d g) (ed ∙ ap (λ z. type_at z ty) es) ∙ ap (same_func (type_at sp' ty)) eg)

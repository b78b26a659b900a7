-- The machine's functions, over their parts.
use Rattle.std.proofs.Common.{◌≡◌, ℕ, zero, suc, ◌+◌, ◌-◌, ◌<◌, ◌≤◌, List, [], ◌∷◌, ◌++◌, length, take, drop, refl, sym, ap, ◌∙◌, subst, arith, length-drop}
use Rattle.std.specs.Prelude.{reverse}
use Rattle.std.proofs.lemmas.Option.{slice_get_within}
use Rattle.std.proofs.lemmas.List.{reverse-append, take-append-drop, drop_at, length-reverse}
use Rattle.wasm_ast.specs.declared.instr.BlockType.{BlockType}
use Rattle.wasm_ast.specs.declared.instr.Instr.{Instr}
use Rattle.wasm_ast.specs.declared.instr.Instr.TheVariants.{Block, Loop, If}
use Rattle.core_store.specs.declared.brackets.Jump.{Jump}
use Rattle.core_store.specs.Jumps.{JumpsFrom}
use Rattle.core_store.specs.Tree.{Stop, Part, first, later, placed, parts}
use Rattle.core_store.specs.declared.value.CoreSpaces.{CoreSpaces}
use Rattle.core_store.specs.State.{State}
use Rattle.core_store.specs.Words.{i32_in}
use Rattle.core_store.specs.Config.{Reply, Out, Next, kept, block_params, block_results}
use Rattle.core_store.specs.Eval.{left_store}
use Rattle.core_slots.specs.Stacked.{Held, Stacked, with_operands, closed}
use Rattle.core_interp.specs.declared.control.Control.{Control}
use Rattle.core_interp.specs.declared.control.Control.TheVariants.{Label, Called, Entry}
use Rattle.core_interp.specs.declared.running.Running.{Running}
use Rattle.core_store.specs.Scene.{Scene, scene_of, code_at, spaces_at}
use Rattle.core_interp.specs.Rest.{goes_with, goes_at}
use Rattle.core_store.specs.Fine.{Frame, frame_at, IsBlock}
use Rattle.core_interp.specs.Valid.{IsReady}
use Rattle.core_interp.specs.Jumping.{IsJumping, jumps, IsReturning, returns_from, beyond}
use Rattle.core_interp.specs.Run.{progress, goes, own_parts, calls, ReadyAt, Ready, IsBefore, LeadsTo, ended, steps, next_parts, Branches, branches, Returns, backs}
use Rattle.core_interp.proofs.Moves.{parts_at}
use Rattle.core_interp.proofs.Opening.{block_goes, block_ready, block_fits, loop_goes, loop_ready, loop_fits, chosen, if_goes, if_ready, if_fits}
use Rattle.core_interp.proofs.Jumps.{end_label_goes, end_call_goes, end_entry_goes, end_label_ready, end_call_ready, end_entry_ready, CanReturn, not_empty, lates, outer_jumping, outer_jumps, reaches_within, to_label_goes, to_call_goes, label_needs, to_label_ready, to_call_ready, to_entry_ready, goes_beyond, beyond_some, beyond_no_label, back_call_goes, back_call_ready, back_entry_ready}

-- the code of the function of a run, its index spaces and its frame
abbrev pub code_in : Running → State → List Instr
code_in m s = code_at (scene_of s) m.function

abbrev pub spaces_in : Running → State → CoreSpaces
spaces_in m s = spaces_at (scene_of s) m.function

abbrev pub frame_in : Running → State → Stacked → Frame
frame_in m s a = frame_at (scene_of s) m.function (length a.locals)

-- an instruction of the code
pub at_own : (i : Instr) (m : Running) (s : State) → IsBefore i m s → own_parts m s ≡ placed i (next_parts m s)
at_own i m s x = parts_at (code_in m s) m.at i x.there

pub ready_own : (i : Instr) (m : Running) (s : State) → IsBefore i m s → IsReady (scene_of s) (frame_in m s m.slots) (code_in m s) (placed i (next_parts m s)) m.slots (progress m)
ready_own i m s x = subst (λ ps. IsReady (scene_of s) (frame_in m s m.slots) (code_in m s) ps m.slots (progress m)) (at_own i m s x) x.ready.at.ready

pub steps_own : (i : Instr) (m : Running) (s : State) (rs : List Reply) (n : ℕ) → IsBefore i m s → steps m s rs n ≡ goes_with (scene_of s) (spaces_in m s) (code_in m s) (placed i (next_parts m s)) m.slots (progress m) s rs (suc n)
steps_own i m s rs n x = ap (λ ps. goes_with (scene_of s) (spaces_in m s) (code_in m s) ps m.slots (progress m) s rs (suc n)) (at_own i m s x)

-- it is within the code
pub within : (i : Instr) (m : Running) (s : State) → IsBefore i m s → m.at < length (code_in m s)
within i m s x = slice_get_within (code_in m s) m.at i x.there

pub pushed : (xs ys : List Control) (c : Control) → ys ≡ xs ++ c ∷ [] → reverse ys ≡ c ∷ reverse xs
pushed xs ys c e = ap reverse e ∙ reverse-append xs (c ∷ [])

popped : (xs ys : List Control) (c : Control) → xs ≡ ys ++ c ∷ [] → reverse xs ≡ c ∷ reverse ys
popped xs ys c e = pushed ys xs c e

-- a run led to a place
pub arrive : (X : List Reply → ℕ → Out) (s t : State) (f at : ℕ) (a : Stacked) (ds : List Control) (ys : List Control) → scene_of s ≡ scene_of t → reverse ys ≡ ds → ((rs : List Reply) (n : ℕ) → X rs n ≡ goes_at (scene_of s) f at a ds t rs n) → ReadyAt (scene_of s) f at a ds → calls ds ≤ t.nesting → LeadsTo X f at a (reverse ys) t
arrive X s t f at a ds ys q e move ready few = record {
  goes = λ rs n. move rs n ∙ ap (λ (v : Scene). goes_at v f at a ds t rs n) q ∙ ap (λ cs. goes_at (scene_of t) f at a cs t rs n) (sym e);
  ready = subst (λ cs. ReadyAt (scene_of t) f at a cs) (sym e) (subst (λ (v : Scene). ReadyAt v f at a ds) q ready);
  counted = subst (λ cs. calls cs ≤ t.nesting) (sym e) few;
}

-- an instruction led to a place of the same function, with the same store
pub led : (i : Instr) (m : Running) (s : State) (at' : ℕ) (b : Stacked) (ds ys : List Control) → IsBefore i m s → reverse ys ≡ ds → ((rs : List Reply) (n : ℕ) → goes_with (scene_of s) (spaces_in m s) (code_in m s) (placed i (next_parts m s)) m.slots (progress m) s rs (suc n) ≡ goes_at (scene_of s) m.function at' b ds s rs n) → IsReady (scene_of s) (frame_in m s b) (code_in m s) (parts (drop at' (code_in m s))) b ds → calls ds ≡ calls (progress m) → LeadsTo (steps m s) m.function at' b (reverse ys) s
led i m s at' b ds ys x e move ready few =
    let counted = x.ready.counted in
    arrive (steps m s) s s m.function at' b ds ys refl e (λ rs n. steps_own i m s rs n x ∙ move rs n) (record { inside = x.ready.at.inside; ready = ready }) (omega arith)

label_same : (to k k' h h' : ℕ) → k ≡ k' → h ≡ h' → Label to k h ≡ Label to k' h'
label_same to k k' h h' e f = cc

-- what was pushed is the label of the block
label_of : (xs ys : List Control) (to k p h k' h' p' : ℕ) → k ≡ k' → h ≡ h' → p ≡ p' → ys ≡ xs ++ Label to k (h - p) ∷ [] → reverse ys ≡ Label to k' (h' - p') ∷ reverse xs
label_of xs ys to k p h k' h' p' e f g push =
    let n : h - p ≡ h' - p' = omega arith in
    pushed xs ys (Label to k (h - p)) push ∙ ap (λ c. c ∷ reverse xs) (label_same to k k' (h - p) (h' - p') e n)

pub block_leads : (m : Running) (s : State) (t : BlockType) (jump : Jump) (sp : CoreSpaces) (p k h : ℕ) (ys : List Control) → IsBefore (Block t) m s → JumpsFrom (code_in m s) m.at (Block t) jump → sp ≡ spaces_in m s → p ≡ block_params sp t → k ≡ block_results sp t → h ≡ length m.slots.operands → ys ≡ m.controls.items ++ Label jump.behind k (h - p) ∷ [] → LeadsTo (steps m s) m.function (m.at + 1) m.slots (reverse ys) s
block_leads m s t jump sp p k h ys x leads same ep ek eh push =
    let C = code_in m s in
    led (Block t) m s (m.at + 1) m.slots (Label jump.behind (block_results (spaces_in m s) t) (length m.slots.operands - block_params (spaces_in m s) t) ∷ progress m) ys x
    (label_of m.controls.items ys jump.behind k p h _ _ _ (ek ∙ ap (λ z. block_results z t) same) eh (ep ∙ ap (λ z. block_params z t) same) push)
    (λ rs n. block_goes (scene_of s) (spaces_in m s) C t jump.behind (next_parts m s) m.slots (progress m) s rs n leads)
    (block_ready (scene_of s) (frame_in m s m.slots) C t jump.behind (next_parts m s) m.slots (progress m) leads (ready_own (Block t) m s x))
    refl

pub loop_leads : (m : Running) (s : State) (t : BlockType) (sp : CoreSpaces) (p h : ℕ) (ys : List Control) → IsBefore (Loop t) m s → sp ≡ spaces_in m s → p ≡ block_params sp t → h ≡ length m.slots.operands → ys ≡ m.controls.items ++ Label m.at p (h - p) ∷ [] → LeadsTo (steps m s) m.function (m.at + 1) m.slots (reverse ys) s
loop_leads m s t sp p h ys x same ep eh push =
    let C = code_in m s in
    led (Loop t) m s (m.at + 1) m.slots (Label m.at (block_params (spaces_in m s) t) (length m.slots.operands - block_params (spaces_in m s) t) ∷ progress m) ys x
    (label_of m.controls.items ys m.at p p h _ _ _ (ep ∙ ap (λ z. block_params z t) same) eh (ep ∙ ap (λ z. block_params z t) same) push)
    (λ rs n. loop_goes (scene_of s) (spaces_in m s) C t m.at (next_parts m s) m.slots (progress m) s rs n (at_own (Loop t) m s x))
    (loop_ready (scene_of s) (frame_in m s m.slots) C t m.at (next_parts m s) m.slots (progress m) (at_own (Loop t) m s x) (ready_own (Loop t) m s x))
    refl

-- the type of a block is there, and its operands
pub block_can : (m : Running) (s : State) (t : BlockType) (sp : CoreSpaces) → IsBefore (Block t) m s → sp ≡ spaces_in m s → IsBlock sp t × (block_params sp t ≤ length m.slots.operands)
block_can m s t sp x same = subst (λ (z : CoreSpaces). IsBlock z t × (block_params z t ≤ length m.slots.operands)) (sym same) (block_fits (scene_of s) (frame_in m s m.slots) (code_in m s) t (next_parts m s) m.slots (progress m) (ready_own (Block t) m s x))

pub loop_can : (m : Running) (s : State) (t : BlockType) (sp : CoreSpaces) → IsBefore (Loop t) m s → sp ≡ spaces_in m s → IsBlock sp t × (block_params sp t ≤ length m.slots.operands)
loop_can m s t sp x same = subst (λ (z : CoreSpaces). IsBlock z t × (block_params z t ≤ length m.slots.operands)) (sym same) (loop_fits (scene_of s) (frame_in m s m.slots) (code_in m s) t (next_parts m s) m.slots (progress m) (ready_own (Loop t) m s x))

pub if_can : (m : Running) (s : State) (t : BlockType) (sp : CoreSpaces) → IsBefore (If t) m s → sp ≡ spaces_in m s → IsBlock sp t × (block_params sp t + 1 ≤ length m.slots.operands)
if_can m s t sp x same = subst (λ (z : CoreSpaces). IsBlock z t × (block_params z t + 1 ≤ length m.slots.operands)) (sym same) (if_fits (scene_of s) (frame_in m s m.slots) (code_in m s) t (next_parts m s) m.slots (progress m) (ready_own (If t) m s x))

if_led : (m : Running) (s : State) (t : BlockType) (jump : Jump) (sp : CoreSpaces) (at' v p k h : ℕ) (b : Stacked) (ys : List Control) → IsBefore (If t) m s → JumpsFrom (code_in m s) m.at (If t) jump → sp ≡ spaces_in m s → p ≡ block_params sp t → k ≡ block_results sp t → h ≡ length b.operands → m.slots ≡ with_operands b (v ∷ b.operands) → ys ≡ m.controls.items ++ Label jump.behind k (h - p) ∷ [] → parts (drop at' (code_in m s)) ≡ chosen (i32_in v) (next_parts m s) → LeadsTo (steps m s) m.function at' b (reverse ys) s
if_led m s t jump sp at' v p k h b ys x leads same ep ek eh pop push to =
    let C = code_in m s in
    let cs = Label jump.behind (block_results (spaces_in m s) t) (length b.operands - block_params (spaces_in m s) t) ∷ progress m in
    let locals : length m.slots.locals ≡ length b.locals = ap (λ (z : Stacked). length z.locals) pop in
    led (If t) m s at' b cs ys x
    (label_of m.controls.items ys jump.behind k p h _ _ _ (ek ∙ ap (λ z. block_results z t) same) eh (ep ∙ ap (λ z. block_params z t) same) push)
    (λ rs n. if_goes (scene_of s) (spaces_in m s) C t jump.behind v (next_parts m s) m.slots b (progress m) s rs n leads.0 pop ∙ ap (λ ps. goes_with (scene_of s) (spaces_in m s) C ps b cs s rs n) (sym to))
    (subst (λ ps. IsReady (scene_of s) (frame_in m s b) C ps b cs) (sym to) (subst (λ k. IsReady (scene_of s) (frame_at (scene_of s) m.function k) C (chosen (i32_in v) (next_parts m s)) b cs) locals (if_ready (scene_of s) (frame_in m s m.slots) C t jump.behind v (i32_in v) (next_parts m s) m.slots b (progress m) leads.0 pop (ready_own (If t) m s x))))
    refl

pub if_other_leads : (m : Running) (s : State) (t : BlockType) (jump : Jump) (sp : CoreSpaces) (v p k h : ℕ) (b : Stacked) (ys : List Control) → IsBefore (If t) m s → JumpsFrom (code_in m s) m.at (If t) jump → sp ≡ spaces_in m s → p ≡ block_params sp t → k ≡ block_results sp t → h ≡ length b.operands → m.slots ≡ with_operands b (v ∷ b.operands) → i32_in v ≡ 0 → ys ≡ m.controls.items ++ Label jump.behind k (h - p) ∷ [] → LeadsTo (steps m s) m.function jump.other b (reverse ys) s
if_other_leads m s t jump sp v p k h b ys x leads same ep ek eh pop z push =
    if_led m s t jump sp jump.other v p k h b ys x leads same ep ek eh pop push (leads.1 ∙ ap (λ u. chosen u (next_parts m s)) (sym z))

chosen_suc : (u : ℕ) (qs : List Part) → 0 < u → chosen u qs ≡ qs
chosen_suc zero qs lt = absurd (omega arith)
chosen_suc (suc u) qs lt = refl

pub if_body_leads : (m : Running) (s : State) (t : BlockType) (jump : Jump) (sp : CoreSpaces) (v p k h : ℕ) (b : Stacked) (ys : List Control) → IsBefore (If t) m s → JumpsFrom (code_in m s) m.at (If t) jump → sp ≡ spaces_in m s → p ≡ block_params sp t → k ≡ block_results sp t → h ≡ length b.operands → m.slots ≡ with_operands b (v ∷ b.operands) → 0 < i32_in v → ys ≡ m.controls.items ++ Label jump.behind k (h - p) ∷ [] → LeadsTo (steps m s) m.function (m.at + 1) b (reverse ys) s
if_body_leads m s t jump sp v p k h b ys x leads same ep ek eh pop lt push =
    if_led m s t jump sp (m.at + 1) v p k h b ys x leads same ep ek eh pop push (sym (chosen_suc (i32_in v) (next_parts m s) lt))

-- the end of a piece
pub in_progress : (m : Running) (s : State) → Ready m s → 0 < length m.controls.items
in_progress m s x = omega (arith, not_empty (scene_of s) _ _ _ m.slots (progress m) x.at.ready, length-reverse m.controls.items)

pub leave_label : (m : Running) (s : State) (next to k h : ℕ) (ys : List Control) → m.controls.items ≡ ys ++ Label to k h ∷ [] → (first (own_parts m s)).here ≡ Stop → parts (drop next (code_in m s)) ≡ later (own_parts m s) → Ready m s → LeadsTo (goes m s) m.function next m.slots (reverse ys) s
leave_label m s next to k h ys e stop on x =
    let C = code_in m s in let ps = own_parts m s in
    let p = popped m.controls.items ys _ e in
    arrive (goes m s) s s m.function next m.slots (reverse ys) ys refl refl
    (λ rs n. ap (λ cs. goes_with (scene_of s) (spaces_in m s) C ps m.slots cs s rs n) p ∙ end_label_goes (scene_of s) (spaces_in m s) C to k h ps m.slots (reverse ys) s rs n stop ∙ ap (λ qs. goes_with (scene_of s) (spaces_in m s) C qs m.slots (reverse ys) s rs n) (sym on))
    (record { inside = x.at.inside; ready = subst (λ qs. IsReady (scene_of s) (frame_in m s m.slots) C qs m.slots (reverse ys)) (sym on) (end_label_ready (scene_of s) (frame_in m s m.slots) C to k h ps m.slots (reverse ys) stop (subst (λ cs. IsReady (scene_of s) (frame_in m s m.slots) C ps m.slots cs) p x.at.ready)) })
    (subst (λ cs. calls cs ≤ s.nesting) p x.counted)

-- what a return of a function to another one needs, and where it leads
pub leave_call_can : (m : Running) (s : State) (g to r : ℕ) (ys : List Control) → m.controls.items ≡ ys ++ Called g to r ∷ [] → (first (own_parts m s)).here ≡ Stop → Ready m s → CanReturn (scene_of s) r g to m.slots (reverse ys)
leave_call_can m s g to r ys e stop x =
    end_call_ready (scene_of s) (frame_in m s m.slots) (code_in m s) g to r (own_parts m s) m.slots (reverse ys) stop (subst (λ cs. IsReady (scene_of s) (frame_in m s m.slots) (code_in m s) (own_parts m s) m.slots cs) (popped m.controls.items ys _ e) x.at.ready)

pub some_call : (m : Running) (s : State) (g to r : ℕ) (ys : List Control) → m.controls.items ≡ ys ++ Called g to r ∷ [] → calls (progress m) ≤ s.nesting → calls (reverse ys) + 1 ≤ s.nesting
some_call m s g to r ys e few = subst (λ cs. calls cs ≤ s.nesting) (popped m.controls.items ys _ e) few

pub some_entry : (m : Running) (s : State) (r : ℕ) (ys : List Control) → m.controls.items ≡ ys ++ Entry r ∷ [] → calls (progress m) ≤ s.nesting → calls (reverse ys) + 1 ≤ s.nesting
some_entry m s r ys e few = subst (λ cs. calls cs ≤ s.nesting) (popped m.controls.items ys _ e) few

pub held_some : (a : Stacked) (c : Held) (hs : List Held) → a.callers ≡ c ∷ hs → 0 < length a.callers
held_some a c hs e = let n = ap length e in omega arith

-- a return, where the rest X is led after the call
returned_to : (X : List Reply → ℕ → Out) (s t : State) (g to r : ℕ) (a b : Stacked) (ys : List Control) → (can : CanReturn (scene_of s) r g to a (reverse ys)) → ((c : Held) (hs : List Held) → a.callers ≡ c ∷ hs → b ≡ closed r a c hs) → t ≡ left_store s → calls (reverse ys) + 1 ≤ s.nesting → ((rs : List Reply) (n : ℕ) → X rs n ≡ goes_at (scene_of s) g to (closed r a can.held can.others) (reverse ys) (left_store s) rs n) → LeadsTo X g to b (reverse ys) t
returned_to X s t g to r a b ys can closes left few move =
    let same = closes can.held can.others can.callers in
    let n : t.nesting ≡ s.nesting - 1 = ap (λ (v : State). v.nesting) left in
    arrive X s t g to b (reverse ys) ys (sym (ap scene_of left)) refl
    (λ rs n. move rs n ∙ ap (λ z. goes_at (scene_of s) g to z (reverse ys) (left_store s) rs n) (sym same) ∙ ap (λ v. goes_at (scene_of s) g to b (reverse ys) v rs n) (sym left))
    (record { inside = can.inside; ready = subst (λ z. IsReady (scene_of s) (frame_at (scene_of s) g (length z.locals)) (code_at (scene_of s) g) (parts (drop to (code_at (scene_of s) g))) z (reverse ys)) (sym same) can.ready })
    (omega arith)

pub leave_call : (m : Running) (s t : State) (g to r : ℕ) (b : Stacked) (ys : List Control) → m.controls.items ≡ ys ++ Called g to r ∷ [] → (first (own_parts m s)).here ≡ Stop → Ready m s → ((c : Held) (hs : List Held) → m.slots.callers ≡ c ∷ hs → b ≡ closed r m.slots c hs) → t ≡ left_store s → LeadsTo (goes m s) g to b (reverse ys) t
leave_call m s t g to r b ys e stop x closes left =
    let can = leave_call_can m s g to r ys e stop x in
    returned_to (goes m s) s t g to r m.slots b ys can closes left (some_call m s g to r ys e x.counted)
    (λ rs n. ap (λ cs. goes_with (scene_of s) (spaces_in m s) (code_in m s) (own_parts m s) m.slots cs s rs n) (popped m.controls.items ys _ e) ∙ end_call_goes (scene_of s) (spaces_in m s) (code_in m s) g to r (own_parts m s) m.slots can.held can.others (reverse ys) s rs n can.callers stop)

pub leave_entry : (m : Running) (s t : State) (r : ℕ) (ys : List Control) → m.controls.items ≡ ys ++ Entry r ∷ [] → (first (own_parts m s)).here ≡ Stop → Ready m s → t ≡ left_store s → (r ≤ length m.slots.operands) × ((rs : List Reply) (n : ℕ) → goes m s rs n ≡ Next n (ended r m.slots t rs))
leave_entry m s t r ys e stop x left =
    let p = popped m.controls.items ys _ e in (
      end_entry_ready (scene_of s) (frame_in m s m.slots) (code_in m s) r (own_parts m s) m.slots (reverse ys) stop (subst (λ cs. IsReady (scene_of s) (frame_in m s m.slots) (code_in m s) (own_parts m s) m.slots cs) p x.at.ready),
      λ rs n. ap (λ cs. goes_with (scene_of s) (spaces_in m s) (code_in m s) (own_parts m s) m.slots cs s rs n) p ∙ end_entry_goes (scene_of s) (spaces_in m s) (code_in m s) r (own_parts m s) m.slots (reverse ys) s rs n stop ∙ ap (λ v. Next n (ended r m.slots v rs)) (sym left),
    )

-- a branch to label k of `xs`, after which `zs` is what is left of `xs` down to that label's
pub dropped : (xs zs : List Control) (k : ℕ) → k ≤ length xs → zs ≡ take (length xs - k) xs → reverse zs ≡ drop k (reverse xs)
dropped xs zs k le e =
    let n = length xs - k in
    let back : reverse xs ≡ reverse (drop n xs) ++ reverse (take n xs) = ap reverse (sym (take-append-drop n xs)) ∙ reverse-append (take n xs) (drop n xs) in
    ap reverse e ∙ sym (ap (drop k) back ∙ drop_at (reverse (drop n xs)) (reverse (take n xs)) k (omega (arith, length-reverse (drop n xs), length-drop n xs)))

pub label_within : (m : Running) (s : State) (k : ℕ) → Branches m s k → k < length m.controls.items
label_within m s k x = omega (arith, reaches_within (progress m) k x.jumping.above x.jumping.reaches, length-reverse m.controls.items)

-- what a Vec says of its length, and of a place in it
pub cut_at : {X : Type 0} (xs zs : List X) (n k : ℕ) → zs ≡ take (n - k) xs → n ≡ length xs → zs ≡ take (length xs - k) xs
cut_at xs zs n k e l = e ∙ ap (λ m. take (m - k) xs) l

-- the branch, once the blocks inside its label are left
at_label : (m : Running) (s : State) (zs ys : List Control) (c : Control) (k : ℕ) → zs ≡ take (length m.controls.items - k) m.controls.items → zs ≡ ys ++ c ∷ [] → Branches m s k → IsJumping (scene_of s) (frame_in m s m.slots) (code_in m s) (lates k (next_parts m s)) m.slots (c ∷ reverse ys) 0
at_label m s zs ys c k cut e x =
    let w = label_within m s k x in
    subst (λ cs. IsJumping (scene_of s) (frame_in m s m.slots) (code_in m s) (lates k (next_parts m s)) m.slots cs 0) (sym (dropped m.controls.items zs k (omega arith) cut) ∙ pushed ys zs c e) (outer_jumping (scene_of s) (frame_in m s m.slots) (code_in m s) m.slots k (next_parts m s) (progress m) x.jumping)

at_label_goes : (m : Running) (s : State) (zs ys : List Control) (c : Control) (k : ℕ) (rs : List Reply) (n : ℕ) → zs ≡ take (length m.controls.items - k) m.controls.items → zs ≡ ys ++ c ∷ [] → Branches m s k → branches m s k rs n ≡ jumps (scene_of s) (spaces_in m s) (code_in m s) (lates k (next_parts m s)) m.slots (c ∷ reverse ys) s rs 0 n
at_label_goes m s zs ys c k rs n cut e x =
    let w = label_within m s k x in
    outer_jumps (scene_of s) (spaces_in m s) (code_in m s) m.slots k (next_parts m s) (progress m) s rs n x.jumping.above x.jumping.reaches
    ∙ ap (λ cs. jumps (scene_of s) (spaces_in m s) (code_in m s) (lates k (next_parts m s)) m.slots cs s rs 0 n) (sym (dropped m.controls.items zs k (omega arith) cut) ∙ pushed ys zs c e)

-- as many calls are in progress from a label on, or fewer
calls_dropped : (k : ℕ) (cs : List Control) → calls (drop k cs) ≤ calls cs
calls_dropped zero cs = omega arith
calls_dropped (suc k) [] = omega arith
calls_dropped (suc k) (Label to a h ∷ cs) = calls_dropped k cs
calls_dropped (suc k) (Called f to r ∷ cs) = omega (arith, calls_dropped k cs)
calls_dropped (suc k) (Entry r ∷ cs) = omega (arith, calls_dropped k cs)

pub label_calls : (m : Running) (s : State) (zs ys : List Control) (c : Control) (k : ℕ) → zs ≡ take (length m.controls.items - k) m.controls.items → zs ≡ ys ++ c ∷ [] → Branches m s k → calls (c ∷ reverse ys) ≤ s.nesting
label_calls m s zs ys c k cut e x =
    let w = label_within m s k x in
    let few = x.counted in
    subst (λ cs. calls cs ≤ s.nesting) (sym (dropped m.controls.items zs k (omega arith) cut) ∙ pushed ys zs c e) (omega (arith, calls_dropped k (progress m)))

pub branch_label : (m : Running) (s : State) (to k h label : ℕ) (b : Stacked) (zs ys : List Control) → zs ≡ take (length m.controls.items - label) m.controls.items → zs ≡ ys ++ Label to k h ∷ [] → b ≡ with_operands m.slots (kept k h m.slots.operands) → Branches m s label → LeadsTo (branches m s label) m.function to b (reverse ys) s
branch_label m s to k h label b zs ys cut e keep x =
    let y = at_label m s zs ys _ label cut e x in
    arrive (branches m s label) s s m.function to b (reverse ys) ys refl refl
    (λ rs n. at_label_goes m s zs ys _ label rs n cut e x ∙ to_label_goes (scene_of s) (spaces_in m s) (code_in m s) to k h (lates label (next_parts m s)) m.slots (reverse ys) s rs n y.below.0 ∙ ap (λ z. goes_at (scene_of s) m.function to z (reverse ys) s rs n) (sym keep))
    (record { inside = x.inside; ready = subst (λ z. IsReady (scene_of s) (frame_at (scene_of s) m.function (length z.locals)) (code_in m s) (parts (drop to (code_in m s))) z (reverse ys)) (sym keep) (to_label_ready (scene_of s) (frame_in m s m.slots) (code_in m s) to k h (lates label (next_parts m s)) m.slots (reverse ys) y) })
    (label_calls m s zs ys _ label cut e x)

pub branch_label_fits : (m : Running) (s : State) (to k h label : ℕ) (zs ys : List Control) → zs ≡ take (length m.controls.items - label) m.controls.items → zs ≡ ys ++ Label to k h ∷ [] → Branches m s label → k + h ≤ length m.slots.operands
branch_label_fits m s to k h label zs ys cut e x = label_needs (scene_of s) (frame_in m s m.slots) (code_in m s) to k h (lates label (next_parts m s)) m.slots (reverse ys) (at_label m s zs ys _ label cut e x)

pub branch_call_can : (m : Running) (s : State) (g to r label : ℕ) (zs ys : List Control) → zs ≡ take (length m.controls.items - label) m.controls.items → zs ≡ ys ++ Called g to r ∷ [] → Branches m s label → CanReturn (scene_of s) r g to m.slots (reverse ys)
branch_call_can m s g to r label zs ys cut e x = to_call_ready (scene_of s) (frame_in m s m.slots) (code_in m s) g to r (lates label (next_parts m s)) m.slots (reverse ys) (at_label m s zs ys _ label cut e x)

pub branch_call : (m : Running) (s t : State) (g to r label : ℕ) (b : Stacked) (zs ys : List Control) → zs ≡ take (length m.controls.items - label) m.controls.items → zs ≡ ys ++ Called g to r ∷ [] → ((c : Held) (hs : List Held) → m.slots.callers ≡ c ∷ hs → b ≡ closed r m.slots c hs) → t ≡ left_store s → Branches m s label → LeadsTo (branches m s label) g to b (reverse ys) t
branch_call m s t g to r label b zs ys cut e closes left x =
    let can = branch_call_can m s g to r label zs ys cut e x in
    returned_to (branches m s label) s t g to r m.slots b ys can closes left (label_calls m s zs ys _ label cut e x)
    (λ rs n. at_label_goes m s zs ys _ label rs n cut e x ∙ to_call_goes (scene_of s) (spaces_in m s) (code_in m s) g to r (lates label (next_parts m s)) m.slots can.held can.others (reverse ys) s rs n can.callers)

pub branch_entry : (m : Running) (s t : State) (r label : ℕ) (zs ys : List Control) → zs ≡ take (length m.controls.items - label) m.controls.items → zs ≡ ys ++ Entry r ∷ [] → t ≡ left_store s → Branches m s label → (r ≤ length m.slots.operands) × ((rs : List Reply) (n : ℕ) → branches m s label rs n ≡ Next n (ended r m.slots t rs))
branch_entry m s t r label zs ys cut e left x = (
  to_entry_ready (scene_of s) (frame_in m s m.slots) (code_in m s) r (lates label (next_parts m s)) m.slots (reverse ys) (at_label m s zs ys _ label cut e x),
  λ rs n. at_label_goes m s zs ys _ label rs n cut e x ∙ ap (λ v. Next n (ended r m.slots v rs)) (sym left),
)

beyond_calls : (cs : List Control) → calls (beyond cs) ≡ calls cs
beyond_calls [] = refl
beyond_calls (Label to a h ∷ cs) = beyond_calls cs
beyond_calls (Called f to r ∷ cs) = refl
beyond_calls (Entry r ∷ cs) = refl

-- a return
pub back_call : (m : Running) (s t : State) (g to r : ℕ) (b : Stacked) (ys : List Control) → beyond (progress m) ≡ Called g to r ∷ reverse ys → ((c : Held) (hs : List Held) → m.slots.callers ≡ c ∷ hs → b ≡ closed r m.slots c hs) → t ≡ left_store s → Returns m s → CanReturn (scene_of s) r g to m.slots (reverse ys) × LeadsTo (backs m s) g to b (reverse ys) t
back_call m s t g to r b ys e closes left x =
    let y = goes_beyond (scene_of s) (frame_in m s m.slots) (spaces_in m s) (code_in m s) (next_parts m s) m.slots (progress m) x.returning in
    let can = back_call_ready (scene_of s) (frame_in m s m.slots) (code_in m s) g to r y.parts_left m.slots (reverse ys) (subst (λ cs. IsReturning (scene_of s) (frame_in m s m.slots) (code_in m s) y.parts_left m.slots cs) e y.returning) in
    let few = x.counted in (
      can,
      returned_to (backs m s) s t g to r m.slots b ys can closes left (omega (arith, beyond_calls (progress m), ap calls e))
          (λ rs n. y.goes s rs n ∙ ap (λ cs. returns_from (scene_of s) (spaces_in m s) (code_in m s) y.parts_left m.slots cs s rs n) e ∙ back_call_goes (scene_of s) (spaces_in m s) (code_in m s) g to r y.parts_left m.slots can.held can.others (reverse ys) s rs n can.callers),
    )

pub back_calls : (m : Running) (s : State) (c : Control) (ys : List Control) → beyond (progress m) ≡ c ∷ reverse ys → Returns m s → calls (c ∷ reverse ys) ≤ s.nesting
back_calls m s c ys e x = let few = x.counted in omega (arith, beyond_calls (progress m), ap calls e)

pub back_can : (m : Running) (s : State) (g to r : ℕ) (ys : List Control) → beyond (progress m) ≡ Called g to r ∷ reverse ys → Returns m s → CanReturn (scene_of s) r g to m.slots (reverse ys)
back_can m s g to r ys e x =
    let y = goes_beyond (scene_of s) (frame_in m s m.slots) (spaces_in m s) (code_in m s) (next_parts m s) m.slots (progress m) x.returning in
    back_call_ready (scene_of s) (frame_in m s m.slots) (code_in m s) g to r y.parts_left m.slots (reverse ys) (subst (λ cs. IsReturning (scene_of s) (frame_in m s m.slots) (code_in m s) y.parts_left m.slots cs) e y.returning)

pub back_entry : (m : Running) (s t : State) (r : ℕ) (ys : List Control) → beyond (progress m) ≡ Entry r ∷ reverse ys → t ≡ left_store s → Returns m s → (r ≤ length m.slots.operands) × ((rs : List Reply) (n : ℕ) → backs m s rs n ≡ Next n (ended r m.slots t rs))
back_entry m s t r ys e left x =
    let y = goes_beyond (scene_of s) (frame_in m s m.slots) (spaces_in m s) (code_in m s) (next_parts m s) m.slots (progress m) x.returning in (
      back_entry_ready (scene_of s) (frame_in m s m.slots) (code_in m s) r y.parts_left m.slots (reverse ys) (subst (λ cs. IsReturning (scene_of s) (frame_in m s m.slots) (code_in m s) y.parts_left m.slots cs) e y.returning),
      λ rs n. y.goes s rs n ∙ ap (λ cs. returns_from (scene_of s) (spaces_in m s) (code_in m s) y.parts_left m.slots cs s rs n) e ∙ ap (λ v. Next n (ended r m.slots v rs)) (sym left),
    )

pub back_no_label : (m : Running) (to k h : ℕ) (ys : List Control) → beyond (progress m) ≡ Label to k h ∷ ys → ⊥
back_no_label m to k h ys e = beyond_no_label (progress m) ys to k h e

pub back_some : (m : Running) (s : State) → Returns m s → 0 < length (beyond (progress m))
back_some m s x = beyond_some (scene_of s) _ _ _ m.slots (progress m) x.returning

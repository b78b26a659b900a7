-- Calls, from the instruction.
use Rattle.std.proofs.Common.{◌≡◌, ℕ, suc, ◌+◌, ◌-◌, ◌<◌, ◌≤◌, List, [], ◌∷◌, length, take, drop, Some, Option, Bool, true, false, Result, Ok, refl, sym, ap, ◌∙◌, subst, arith, length-append, length-drop}
use Rattle.std.specs.Prelude.{reverse, replicate, slice_get, ◌&&◌}
use Rattle.std.proofs.lemmas.Option.{slice_get_within}
use Rattle.std.proofs.lemmas.List.{length-reverse, length-take-le, length-replicate}
use Rattle.virt_base.specs.declared.fault.Trap.{Trap}
use Rattle.virt_base.specs.declared.core_type.CoreType.{CoreType}
use Rattle.wasm_ast.specs.declared.module.CoreFunc.{CoreFunc}
use Rattle.wasm_ast.specs.declared.instr.Instr.{Instr}
use Rattle.wasm_ast.specs.declared.instr.Instr.TheVariants.{Call, CallIndirect}
use Rattle.core_store.specs.Tree.{Part, first, placed, parts, tree}
use Rattle.core_store.specs.declared.value.CoreRef.{CoreRef}
use Rattle.core_store.specs.declared.value.CoreRef.TheVariants.{Func}
use Rattle.core_store.specs.declared.value.CoreSpaces.{CoreSpaces}
use Rattle.core_store.specs.declared.value.CoreValue.{CoreValue}
use Rattle.core_store.specs.declared.value.StoreFunc.{StoreFunc}
use Rattle.core_store.specs.declared.value.StoreFunc.TheVariants.{Inside, Outside}
use Rattle.core_store.specs.Table.{got}
use Rattle.core_store.specs.State.{State, can_enter, table_at}
use Rattle.core_store.specs.Words.{words, i32_in}
use Rattle.core_store.specs.Config.{Reply, Config, Over, Asks, Trapped, then_do, spaces_of, type_at}
use Rattle.core_store.specs.Eval.{type_of, function_type, same_type, same_types, same_func, enter_if, call_ref, call_place, indirect, Enter, exec, go, entered, enter_within, call_end, begun, entered_store, deep, arguments}
use Rattle.core_store.proofs.Steps.{go_enter}
use Rattle.core_slots.specs.Stacked.{Stacked, with_operands, opened}
use Rattle.core_interp.specs.declared.control.Control.{Control}
use Rattle.core_interp.specs.declared.control.Control.TheVariants.{Called}
use Rattle.core_store.specs.Scene.{Scene, scene_of, code_at, spaces_at, results_at, IsInside}
use Rattle.core_interp.specs.Rest.{AfterCall, after, conts, config_of, goes_with}
use Rattle.core_store.specs.Fine.{Frame, Place, frame_at, Fine, IsFine, params_of, results_of}
use Rattle.core_interp.specs.Valid.{arities, Stands, IsReady}
use Rattle.core_interp.specs.Jumping.{IsEntering, enters}
use Rattle.core_interp.specs.Run.{answered}
use Rattle.core_interp.proofs.Moves.{conts_later, stands_later, over_after}

-- a call is what its function does
pub entered_goes : (w : Scene) (sp : CoreSpaces) (code : List Instr) (qs : List Part) (a : Stacked) (cs : List Control) (s : State) (rs : List Reply) (f n : ℕ) (g : StoreFunc) → slice_get s.functions f ≡ Some g → enters w sp code qs a cs s rs f n ≡ after (conts w code cs qs a.callers) (then_do (entered go (Some g) n (config_of a sp s rs)) (exec go (first qs).here))
entered_goes w sp code qs a cs s rs f n g e =
    ap (λ o. after (conts w code cs qs a.callers) (then_do o (exec go (first qs).here))) (go_enter f n (config_of a sp s rs) ∙ ap (λ (k : Option StoreFunc). entered go k n (config_of a sp s rs)) e)

-- a function of a module is entered, from function `own`, where `to` is the place after the call
pub inside_goes : (own f to i : ℕ) (ty : CoreFunc) (locals : List CoreType) (body : List Instr) (qs : List Part) (a : Stacked) (cs : List Control) (s : State) (rs : List Reply) (n : ℕ) → slice_get s.functions f ≡ Some (Inside ty i locals body) → can_enter s ≡ true → parts (drop to (code_at (scene_of s) own)) ≡ qs → enters (scene_of s) (spaces_at (scene_of s) own) (code_at (scene_of s) own) qs a cs s rs f n ≡ goes_with (scene_of s) (spaces_of s.instances i) body (parts (drop 0 body)) (opened (length ty.params) (length locals) a) (Called own to (length ty.results) ∷ cs) (entered_store s) rs n
inside_goes own f to i ty locals body qs a cs s rs n e shallow at =
    let w = scene_of s in
    let o = exec go (tree body) n (config_of (opened (length ty.params) (length locals) a) (spaces_of s.instances i) (entered_store s) rs) in
    let ended = call_end (length ty.results) (drop (length ty.params) a.operands) a.locals (spaces_at w own) o in
    entered_goes w (spaces_at w own) (code_at w own) qs a cs s rs f n (Inside ty i locals body) e
    ∙ ap (λ (b : Bool). after (conts w (code_at w own) cs qs a.callers) (then_do (enter_within b n ended) (exec go (first qs).here))) shallow
    ∙ ap (λ (xs : List Part). after (AfterCall (length ty.results) (drop (length ty.params) a.operands) a.locals (spaces_at w own) (first xs).here ∷ conts w (code_at w own) cs xs a.callers) o) (sym at)

pub inside_ready : (own f to i : ℕ) (ty : CoreFunc) (locals : List CoreType) (body : List Instr) (qs : List Part) (a : Stacked) (cs : List Control) (w : Scene) → IsFine w → IsInside w (slice_get w.functions own) → slice_get w.functions f ≡ Some (Inside ty i locals body) → parts (drop to (code_at w own)) ≡ qs → IsEntering w (frame_at w own (length a.locals)) (code_at w own) qs a cs f → IsReady w (frame_at w f (length (opened (length ty.params) (length locals) a).locals)) body (parts (drop 0 body)) (opened (length ty.params) (length locals) a) (Called own to (length ty.results) ∷ cs)
inside_ready own f to i ty locals body qs a cs w fine inside e at x =
    let same : x.callee ≡ Inside ty i locals body = some_same _ _ (sym x.callee_is ∙ e) in
    let fits : length ty.params ≤ x.above = subst (λ (g : StoreFunc). params_of g ≤ x.above) same x.fits in
    let here : Fine w (frame_at w own (length a.locals)) (arities cs) (x.above - length ty.params + length ty.results) x.ends (first qs).here = subst (λ (g : StoreFunc). Fine w (frame_at w own (length a.locals)) (arities cs) (x.above - params_of g + results_of g) x.ends (first qs).here) same x.here in
    let there = x.there in
    let len : length (opened (length ty.params) (length locals) a).locals ≡ length ty.params + length locals = omega (arith, length-append (reverse (take (length ty.params) a.operands)) (replicate (length locals) 0), length-reverse (take (length ty.params) a.operands), length-take-le (length ty.params) a.operands (omega arith), length-replicate {A = ℕ} (length locals) 0) in
    let results : length ty.results ≡ length (results_at w f) = sym (ap (λ (k : Option StoreFunc). length (function_type k).results) e) in
    record {
      floor = 0;
      above = 0;
      ends = length ty.results;
      there = refl;
      here = subst (λ k. Fine w (frame_at w f k) (length ty.results ∷ []) 0 (length ty.results) (tree body)) (sym len) (fine.each f _ e).1;
      below = (
        inside,
        refl,
        refl,
        results,
        (
          x.floor,
          x.above - length ty.params + length ty.results,
          x.ends,
          omega (arith, length-drop (length ty.params) a.operands),
          subst (λ (xs : List Part). Fine w (frame_at w own (length a.locals)) (arities cs) (x.above - length ty.params + length ty.results) x.ends (first xs).here) (sym at) here,
          subst (λ (xs : List Part). Stands w (frame_at w own (length a.locals)) (code_at w own) cs xs a.callers x.floor x.ends) (sym at) x.below,
        ),
      );
    }
  where
    some_same : (g h : StoreFunc) → Some g ≡ Some h → g ≡ h
    some_same g h q = cc

pub callee_same : (g h : StoreFunc) → Some g ≡ Some h → g ≡ h
callee_same g h q = cc

-- what a call needs is there
pub enters_fits : (w : Scene) (fr : Frame) (code : List Instr) (qs : List Part) (a : Stacked) (cs : List Control) (f : ℕ) (g : StoreFunc) → slice_get w.functions f ≡ Some g → IsEntering w fr code qs a cs f → params_of g ≤ length a.operands
enters_fits w fr code qs a cs f g e x =
    let same : x.callee ≡ g = callee_same _ _ (sym x.callee_is ∙ e) in
    let fits : params_of g ≤ x.above = subst (λ (h : StoreFunc). params_of h ≤ x.above) same x.fits in
    let there = x.there in omega arith

-- a call that is too deep
pub deep_goes : (w : Scene) (fr : Frame) (sp : CoreSpaces) (code : List Instr) (f i : ℕ) (ty : CoreFunc) (locals : List CoreType) (body : List Instr) (qs : List Part) (a : Stacked) (cs : List Control) (s : State) (rs : List Reply) (n : ℕ) → slice_get s.functions f ≡ Some (Inside ty i locals body) → can_enter s ≡ false → IsEntering w fr code qs a cs f → enters w sp code qs a cs s rs f n ≡ Over (deep n)
deep_goes w fr sp code f i ty locals body qs a cs s rs n e full x =
    entered_goes w sp code qs a cs s rs f n (Inside ty i locals body) e
    ∙ ap (λ (b : Bool). after (conts w code cs qs a.callers) (then_do (enter_within b n (call_end (length ty.results) (drop (length ty.params) a.operands) a.locals sp (exec go (tree body) n (begun ty i (length locals) (config_of a sp s rs))))) (exec go (first qs).here))) full
    ∙ over_after w fr code cs qs a.callers x.floor x.ends (deep n) x.below

-- a function of the embedder
pub outside_asks : (w : Scene) (fr : Frame) (sp : CoreSpaces) (code : List Instr) (f number : ℕ) (ty : CoreFunc) (qs : List Part) (a : Stacked) (cs : List Control) (s : State) (n : ℕ) → slice_get s.functions f ≡ Some (Outside ty number) → IsEntering w fr code qs a cs f → enters w sp code qs a cs s [] f n ≡ Over (Asks number (arguments s ty a.operands) s n)
outside_asks w fr sp code f number ty qs a cs s n e x =
    entered_goes w sp code qs a cs s [] f n (Outside ty number) e
    ∙ over_after w fr code cs qs a.callers x.floor x.ends _ x.below

pub outside_goes : (w : Scene) (sp : CoreSpaces) (code : List Instr) (f number : ℕ) (ty : CoreFunc) (qs : List Part) (a : Stacked) (cs : List Control) (s : State) (r : Reply) (rs : List Reply) (n : ℕ) → slice_get s.functions f ≡ Some (Outside ty number) → enters w sp code qs a cs s (r ∷ rs) f n ≡ goes_with w sp code qs (answered ty a r.results) cs r.store rs n
outside_goes w sp code f number ty qs a cs s r rs n e = entered_goes w sp code qs a cs s (r ∷ rs) f n (Outside ty number) e

words_len : (vs : List CoreValue) → length (words vs) ≡ length vs
words_len [] = refl
words_len (v ∷ vs) = ap suc (words_len vs)

pub outside_ready : (w : Scene) (fr : Frame) (code : List Instr) (f number : ℕ) (ty : CoreFunc) (qs : List Part) (a : Stacked) (cs : List Control) (results : List CoreValue) → slice_get w.functions f ≡ Some (Outside ty number) → length results ≡ length ty.results → IsEntering w fr code qs a cs f → IsReady w fr code qs (answered ty a results) cs
outside_ready w fr code f number ty qs a cs results e len x =
    let same : x.callee ≡ Outside ty number = callee_same _ _ (sym x.callee_is ∙ e) in
    let fits : length ty.params ≤ x.above = subst (λ (h : StoreFunc). params_of h ≤ x.above) same x.fits in
    let there = x.there in
    record {
      floor = x.floor;
      above = x.above - length ty.params + length ty.results;
      ends = x.ends;
      there = omega (arith, length-append (reverse (words results)) (drop (length ty.params) a.operands), length-reverse (words results), words_len results, length-drop (length ty.params) a.operands);
      here = subst (λ (g : StoreFunc). Fine w fr (arities cs) (x.above - params_of g + results_of g) x.ends (first qs).here) same x.here;
      below = x.below;
    }

-- a call by index
pub call_goes : (w : Scene) (sp : CoreSpaces) (code : List Instr) (i f : ℕ) (qs : List Part) (a : Stacked) (cs : List Control) (s : State) (rs : List Reply) (n : ℕ) → slice_get sp.functions i ≡ Some f → goes_with w sp code (placed (Call i) qs) a cs s rs (suc n) ≡ enters w sp code qs a cs s rs f n
call_goes w sp code i f qs a cs s rs n e =
    ap (λ (k : Option ℕ). after (conts w code cs (placed (Call i) qs) a.callers) (then_do (call_place go k n (config_of a sp s rs)) (exec go (first qs).here))) e
    ∙ ap (λ ks. after ks (then_do (go (Enter f) n (config_of a sp s rs)) (exec go (first qs).here))) (conts_later w code cs (placed (Call i) qs) qs a.callers refl)

some_place : (k f : ℕ) → Some k ≡ Some f → k ≡ f
some_place k f e = cc

pub call_entering : (w : Scene) (fr : Frame) (code : List Instr) (i f : ℕ) (qs : List Part) (a : Stacked) (cs : List Control) → slice_get fr.spaces.functions i ≡ Some f → IsReady w fr code (placed (Call i) qs) a cs → IsEntering w fr code qs a cs f
call_entering w fr code i f qs a cs e x =
    let t = x.here in
    let same : t.0 ≡ f = some_place _ _ (sym t.2 ∙ e) in
    record {
      callee = t.1;
      callee_is = subst (λ k. slice_get w.functions k ≡ Some t.1) same t.3;
      floor = x.floor;
      above = x.above;
      ends = x.ends;
      there = x.there;
      fits = t.4;
      here = t.5;
      below = stands_later w fr code cs (placed (Call i) qs) qs a.callers x.floor x.ends refl x.below;
    }

-- the index of a call names a function
pub call_there : (w : Scene) (fr : Frame) (code : List Instr) (i : ℕ) (qs : List Part) (a : Stacked) (cs : List Control) → IsReady w fr code (placed (Call i) qs) a cs → Place (length w.functions) fr.spaces.functions i
call_there w fr code i qs a cs x = (x.here.0, x.here.2, slice_get_within w.functions x.here.0 x.here.1 x.here.3)

-- a call by a table
pub indirect_goes : (w : Scene) (sp : CoreSpaces) (code : List Instr) (ty i k v : ℕ) (qs : List Part) (a b : Stacked) (cs : List Control) (s : State) (rs : List Reply) (n : ℕ) → slice_get sp.tables i ≡ Some k → a ≡ with_operands b (v ∷ b.operands) → goes_with w sp code (placed (CallIndirect ty i) qs) a cs s rs (suc n) ≡ after (conts w code cs qs b.callers) (then_do (call_ref go (type_at sp ty) (got (table_at s k) (i32_in v)) n (config_of b sp s rs)) (exec go (first qs).here))
indirect_goes w sp code ty i k v qs a b cs s rs n e popped =
    ap (λ (x : Stacked). goes_with w sp code (placed (CallIndirect ty i) qs) x cs s rs (suc n)) popped
    ∙ ap (λ (o : Option ℕ). after (conts w code cs (placed (CallIndirect ty i) qs) b.callers) (then_do (indirect go (type_at sp ty) o n (config_of (with_operands b (v ∷ b.operands)) sp s rs)) (exec go (first qs).here))) e
    ∙ ap (λ ks. after ks (then_do (call_ref go (type_at sp ty) (got (table_at s k) (i32_in v)) n (config_of b sp s rs)) (exec go (first qs).here))) (conts_later w code cs (placed (CallIndirect ty i) qs) qs b.callers refl)

pub indirect_enters : (w : Scene) (sp : CoreSpaces) (code : List Instr) (ty k v f : ℕ) (qs : List Part) (b : Stacked) (cs : List Control) (s : State) (rs : List Reply) (n : ℕ) (g : StoreFunc) → got (table_at s k) (i32_in v) ≡ Ok (Func f) → slice_get s.functions f ≡ Some g → same_func (type_at sp ty) (type_of g) ≡ true → after (conts w code cs qs b.callers) (then_do (call_ref go (type_at sp ty) (got (table_at s k) (i32_in v)) n (config_of b sp s rs)) (exec go (first qs).here)) ≡ enters w sp code qs b cs s rs f n
indirect_enters w sp code ty k v f qs b cs s rs n g r e same =
    ap (λ (x : Result CoreRef Trap). after (conts w code cs qs b.callers) (then_do (call_ref go (type_at sp ty) x n (config_of b sp s rs)) (exec go (first qs).here))) r
    ∙ ap (λ (o : Option StoreFunc). after (conts w code cs qs b.callers) (then_do (enter_if go (same_func (type_at sp ty) (function_type o)) f n (config_of b sp s rs)) (exec go (first qs).here))) e
    ∙ ap (λ (x : Bool). after (conts w code cs qs b.callers) (then_do (enter_if go x f n (config_of b sp s rs)) (exec go (first qs).here))) same

-- it traps past the table's end, at a null, and at another type
pub indirect_traps : (w : Scene) (fr : Frame) (sp : CoreSpaces) (code : List Instr) (ty : ℕ) (r : Result CoreRef Trap) (qs : List Part) (b : Stacked) (cs : List Control) (s : State) (rs : List Reply) (n floor ends : ℕ) → call_ref go (type_at sp ty) r n (config_of b sp s rs) ≡ Over Trapped → Stands w fr code cs qs b.callers floor ends → after (conts w code cs qs b.callers) (then_do (call_ref go (type_at sp ty) r n (config_of b sp s rs)) (exec go (first qs).here)) ≡ Over Trapped
indirect_traps w fr sp code ty r qs b cs s rs n floor ends e below =
    ap (λ o. after (conts w code cs qs b.callers) (then_do o (exec go (first qs).here))) e ∙ over_after w fr code cs qs b.callers floor ends Trapped below

pub other_type : (sp : CoreSpaces) (ty f n : ℕ) (g : StoreFunc) (c : Config) → slice_get c.store.functions f ≡ Some g → same_func (type_at sp ty) (type_of g) ≡ false → call_ref go (type_at sp ty) (Ok (Func f)) n c ≡ Over Trapped
other_type sp ty f n g c e unlike =
    ap (λ (o : Option StoreFunc). enter_if go (same_func (type_at sp ty) (function_type o)) f n c) e ∙ ap (λ (x : Bool). enter_if go x f n c) unlike

both_left : (a b : Bool) → (a && b) ≡ true → a ≡ true
both_left true b e = refl
both_left false b e = e

both_right : (a b : Bool) → (a && b) ≡ true → b ≡ true
both_right true b e = e
both_right false b e = absurd (cc)

-- equal lists are equally long
types_len : (ts us : List CoreType) → same_types ts us ≡ true → length ts ≡ length us
types_len [] [] e = refl
types_len [] (u ∷ us) e = absurd (cc)
types_len (t ∷ ts) [] e = absurd (cc)
types_len (t ∷ ts) (u ∷ us) e = ap suc (types_len ts us (both_right (same_type t u) (same_types ts us) e))

pub indirect_entering : (w : Scene) (fr : Frame) (code : List Instr) (ty i v f : ℕ) (g : StoreFunc) (qs : List Part) (a b : Stacked) (cs : List Control) → slice_get w.functions f ≡ Some g → same_func (type_at fr.spaces ty) (type_of g) ≡ true → a ≡ with_operands b (v ∷ b.operands) → IsReady w fr code (placed (CallIndirect ty i) qs) a cs → IsEntering w fr code qs b cs f
indirect_entering w fr code ty i v f g qs a b cs e same popped y =
    let x = subst (λ z. IsReady w fr code (placed (CallIndirect ty i) qs) z cs) popped y in
    let t = x.here in
    let fits : length (type_at fr.spaces ty).params + 1 ≤ x.above = t.2 in
    let there : length b.operands + 1 ≡ x.floor + x.above = omega (arith, x.there) in
    let ps : length (type_at fr.spaces ty).params ≡ params_of g = types_len (type_at fr.spaces ty).params (type_of g).params (both_left (same_types (type_at fr.spaces ty).params (type_of g).params) (same_types (type_at fr.spaces ty).results (type_of g).results) same) in
    let ress : length (type_at fr.spaces ty).results ≡ results_of g = types_len (type_at fr.spaces ty).results (type_of g).results (both_right (same_types (type_at fr.spaces ty).params (type_of g).params) (same_types (type_at fr.spaces ty).results (type_of g).results) same) in
    let n : x.above - 1 - length (type_at fr.spaces ty).params + length (type_at fr.spaces ty).results ≡ x.above - 1 - params_of g + results_of g = omega arith in
    record {
      callee = g;
      callee_is = e;
      floor = x.floor;
      above = x.above - 1;
      ends = x.ends;
      there = omega arith;
      fits = omega arith;
      here = subst (λ k. Fine w fr (arities cs) k x.ends (first qs).here) n t.3;
      below = stands_later w fr code cs (placed (CallIndirect ty i) qs) qs b.callers x.floor x.ends refl x.below;
    }

-- what stands below a call by a table
pub indirect_below : (w : Scene) (fr : Frame) (code : List Instr) (ty i v : ℕ) (qs : List Part) (a b : Stacked) (cs : List Control) → a ≡ with_operands b (v ∷ b.operands) → IsReady w fr code (placed (CallIndirect ty i) qs) a cs → (floor : ℕ) × (ends : ℕ) × Stands w fr code cs qs b.callers floor ends
indirect_below w fr code ty i v qs a b cs popped y =
    let x = subst (λ z. IsReady w fr code (placed (CallIndirect ty i) qs) z cs) popped y in
    (x.floor, x.ends, stands_later w fr code cs (placed (CallIndirect ty i) qs) qs b.callers x.floor x.ends refl x.below)

pub indirect_needs : (w : Scene) (fr : Frame) (code : List Instr) (ty i : ℕ) (qs : List Part) (a : Stacked) (cs : List Control) → IsReady w fr code (placed (CallIndirect ty i) qs) a cs → Place w.tables fr.spaces.tables i × (ty < length fr.spaces.types) × (0 < length a.operands)
indirect_needs w fr code ty i qs a cs x = let fits = x.here.2 in let there = x.there in (x.here.0, x.here.1, omega arith)

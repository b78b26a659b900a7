-- Ends, branches and returns.
use Rattle.std.proofs.Common.{◌≡◌, ℕ, zero, suc, ◌+◌, ◌-◌, ◌<◌, ◌≤◌, List, [], ◌∷◌, ◌++◌, length, take, drop, Some, refl, sym, ap, ◌∙◌, subst, arith, length-append, length-drop}
use Rattle.std.specs.Prelude.{slice_get}
use Rattle.std.proofs.lemmas.List.{length-take-le}
use Rattle.wasm_ast.specs.declared.instr.Instr.{Instr}
use Rattle.core_store.specs.Tree.{Seq, Stop, Part, first, later, parts}
use Rattle.core_store.specs.declared.value.CoreSpaces.{CoreSpaces}
use Rattle.core_store.specs.State.{State}
use Rattle.core_store.specs.Config.{Reply, Next, Break, Back, kept}
use Rattle.core_store.specs.Eval.{exec, go, left_store}
use Rattle.core_slots.specs.Stacked.{Held, Stacked, with_operands, closed}
use Rattle.core_interp.specs.declared.control.Control.{Control}
use Rattle.core_interp.specs.declared.control.Control.TheVariants.{Label, Called, Entry}
use Rattle.core_store.specs.Scene.{Scene, code_at, spaces_at, IsInside}
use Rattle.core_interp.specs.Rest.{after, conts, config_of, goes_with}
use Rattle.core_store.specs.Fine.{Frame, frame_at, Reaches, Fine}
use Rattle.core_interp.specs.Valid.{arities, Stands, IsReady}
use Rattle.core_interp.specs.Jumping.{IsJumping, jumps, IsReturning, returns_from, beyond}
use Rattle.core_interp.specs.Run.{ended}
use Rattle.core_interp.proofs.Moves.{conts_later, stands_later}

-- the end of a piece, inside a block or a loop
pub end_label_goes : (w : Scene) (sp : CoreSpaces) (code : List Instr) (to k h : ℕ) (ps : List Part) (a : Stacked) (cs : List Control) (s : State) (rs : List Reply) (n : ℕ) → (first ps).here ≡ Stop → goes_with w sp code ps a (Label to k h ∷ cs) s rs n ≡ goes_with w sp code (later ps) a cs s rs n
end_label_goes w sp code to k h ps a cs s rs n e =
    ap (λ q. after (conts w code (Label to k h ∷ cs) ps a.callers) (exec go q n (config_of a sp s rs))) e

pub end_call_goes : (w : Scene) (sp : CoreSpaces) (code : List Instr) (f to r : ℕ) (ps : List Part) (a : Stacked) (c : Held) (hs : List Held) (cs : List Control) (s : State) (rs : List Reply) (n : ℕ) → a.callers ≡ c ∷ hs → (first ps).here ≡ Stop → goes_with w sp code ps a (Called f to r ∷ cs) s rs n ≡ goes_with w (spaces_at w f) (code_at w f) (parts (drop to (code_at w f))) (closed r a c hs) cs (left_store s) rs n
end_call_goes w sp code f to r ps a c hs cs s rs n same e =
    ap (λ q. after (conts w code (Called f to r ∷ cs) ps a.callers) (exec go q n (config_of a sp s rs))) e
    ∙ ap (λ (xs : List Held). after (conts w code (Called f to r ∷ cs) ps xs) (Next n (config_of a sp s rs))) same

pub end_entry_goes : (w : Scene) (sp : CoreSpaces) (code : List Instr) (r : ℕ) (ps : List Part) (a : Stacked) (cs : List Control) (s : State) (rs : List Reply) (n : ℕ) → (first ps).here ≡ Stop → goes_with w sp code ps a (Entry r ∷ cs) s rs n ≡ Next n (ended r a (left_store s) rs)
end_entry_goes w sp code r ps a cs s rs n e =
    ap (λ q. after (conts w code (Entry r ∷ cs) ps a.callers) (exec go q n (config_of a sp s rs))) e

-- at the end of a piece there are as many operands as it ends with
stopped : (w : Scene) (fr : Frame) (ls : List ℕ) (h ends : ℕ) (q : Seq) → q ≡ Stop → Fine w fr ls h ends q → h ≡ ends
stopped w fr ls h ends q e f = subst (Fine w fr ls h ends) e f

pub end_label_ready : (w : Scene) (fr : Frame) (code : List Instr) (to k h : ℕ) (ps : List Part) (a : Stacked) (cs : List Control) → (first ps).here ≡ Stop → IsReady w fr code ps a (Label to k h ∷ cs) → IsReady w fr code (later ps) a cs
end_label_ready w fr code to k h ps a cs e x =
    let n : x.above ≡ x.ends = stopped w fr _ x.above x.ends _ e x.here in
    let there = x.there in
    let t = x.below.2 in
    let le = t.2 in
    record { floor = t.0; above = x.floor - t.0 + x.ends; ends = t.1; there = omega arith; here = t.3; below = t.5 }

-- a function that ends
pub record CanReturn (w : Scene) (r f to : ℕ) (a : Stacked) (cs : List Control) : Type 0 where
  pub held : Held
  pub others : List Held
  pub callers : a.callers ≡ held ∷ others
  pub results : r ≤ length a.operands
  pub inside : IsInside w (slice_get w.functions f)
  pub ready : IsReady w (frame_at w f (length held.locals)) (code_at w f) (parts (drop to (code_at w f))) (closed r a held others) cs

returns_ready : (w : Scene) (fr : Frame) (code : List Instr) (f to r : ℕ) (ps : List Part) (a : Stacked) (hs : List Held) (cs : List Control) (floor ends : ℕ) → a.callers ≡ hs → r ≤ length a.operands → Stands w fr code (Called f to r ∷ cs) ps hs floor ends → CanReturn w r f to a cs
returns_ready w fr code f to r ps a [] cs floor ends e le s = absurd s
returns_ready w fr code f to r ps a (c ∷ hs) cs floor ends e le s =
    let t = s.4 in
    let sum = t.3 in
    let len : length (take r a.operands ++ c.operands) ≡ r + length c.operands = length-append (take r a.operands) c.operands ∙ ap (λ k. k + length c.operands) (length-take-le r a.operands le) in
    record {
      held = c;
      others = hs;
      callers = e;
      results = le;
      inside = s.0;
      ready = record { floor = t.0; above = t.1; ends = t.2; there = omega arith; here = t.4; below = t.5 };
    }

pub end_call_ready : (w : Scene) (fr : Frame) (code : List Instr) (f to r : ℕ) (ps : List Part) (a : Stacked) (cs : List Control) → (first ps).here ≡ Stop → IsReady w fr code ps a (Called f to r ∷ cs) → CanReturn w r f to a cs
end_call_ready w fr code f to r ps a cs e x = cases a.callers refl x.below
  where
    cases : (hs : List Held) → a.callers ≡ hs → Stands w fr code (Called f to r ∷ cs) ps hs x.floor x.ends → CanReturn w r f to a cs
    cases [] q s = absurd s
    cases (c ∷ hs) q s =
        let n : x.above ≡ x.ends = stopped w fr _ x.above x.ends _ e x.here in
        let there = x.there in
        let ends = s.2 in
        returns_ready w fr code f to r ps a (c ∷ hs) cs x.floor x.ends q (omega arith) s

pub end_entry_ready : (w : Scene) (fr : Frame) (code : List Instr) (r : ℕ) (ps : List Part) (a : Stacked) (cs : List Control) → (first ps).here ≡ Stop → IsReady w fr code ps a (Entry r ∷ cs) → r ≤ length a.operands
end_entry_ready w fr code r ps a cs e x =
    let n : x.above ≡ x.ends = stopped w fr _ x.above x.ends _ e x.here in
    let there = x.there in
    let ends = x.below.1 in
    omega arith

-- something is in progress
pub not_empty : (w : Scene) (fr : Frame) (code : List Instr) (ps : List Part) (a : Stacked) (cs : List Control) → IsReady w fr code ps a cs → 0 < length cs
not_empty w fr code ps a [] x = absurd x.below
not_empty w fr code ps a (c ∷ cs) x = omega arith

abbrev pub lates : ℕ → List Part → List Part
lates zero ps = ps
lates (suc k) ps = lates k (later ps)

none_here : (r k a : ℕ) → slice_get (r ∷ []) (suc k) ≡ Some a → ⊥
none_here r k a e = cc

pub outer_jumping : (w : Scene) (fr : Frame) (code : List Instr) (a : Stacked) (k : ℕ) (ps : List Part) (cs : List Control) → IsJumping w fr code ps a cs k → IsJumping w fr code (lates k ps) a (drop k cs) 0
outer_jumping w fr code a zero ps cs x = x
outer_jumping w fr code a (suc k) ps [] x = absurd x.below
outer_jumping w fr code a (suc k) ps (Label to h r ∷ cs) x =
    let t = x.below.2 in let there = x.there in let low = t.2 in let reach = x.reaches.2 in
    outer_jumping w fr code a k (later ps) cs (record { floor = t.0; above = x.floor - t.0 + x.above; ends = t.1; there = omega arith; reaches = (x.reaches.0, x.reaches.1, omega arith); below = t.5 })
outer_jumping w fr code a (suc k) ps (Called f to r ∷ cs) x = absurd (none_here r k x.reaches.0 x.reaches.1)
outer_jumping w fr code a (suc k) ps (Entry r ∷ cs) x = absurd (none_here r k x.reaches.0 x.reaches.1)

pub outer_jumps : (w : Scene) (sp : CoreSpaces) (code : List Instr) (a : Stacked) (k : ℕ) (ps : List Part) (cs : List Control) (s : State) (rs : List Reply) (n : ℕ) (h : ℕ) → Reaches (arities cs) k h → jumps w sp code ps a cs s rs k n ≡ jumps w sp code (lates k ps) a (drop k cs) s rs 0 n
outer_jumps w sp code a zero ps cs s rs n h x = refl
outer_jumps w sp code a (suc k) ps [] s rs n h x = refl
outer_jumps w sp code a (suc k) ps (Label to i r ∷ cs) s rs n h x = outer_jumps w sp code a k (later ps) cs s rs n h x
outer_jumps w sp code a (suc k) ps (Called f to r ∷ cs) s rs n h x = absurd (none_here r k x.0 x.1)
outer_jumps w sp code a (suc k) ps (Entry r ∷ cs) s rs n h x = absurd (none_here r k x.0 x.1)

-- the label of a branch is there
pub reaches_within : (cs : List Control) (k h : ℕ) → Reaches (arities cs) k h → k < length cs
reaches_within [] k h x = absurd (let e = x.1 in cc)
reaches_within (Label to i r ∷ cs) zero h x = omega arith
reaches_within (Label to i r ∷ cs) (suc k) h x = omega (arith, reaches_within cs k h x)
reaches_within (Called f to r ∷ cs) zero h x = omega arith
reaches_within (Called f to r ∷ cs) (suc k) h x = absurd (none_here r k x.0 x.1)
reaches_within (Entry r ∷ cs) zero h x = omega arith
reaches_within (Entry r ∷ cs) (suc k) h x = absurd (none_here r k x.0 x.1)

-- a branch to the label of a block or a loop
pub to_label_goes : (w : Scene) (sp : CoreSpaces) (code : List Instr) (to k h : ℕ) (ps : List Part) (a : Stacked) (cs : List Control) (s : State) (rs : List Reply) (n : ℕ) → later (parts (drop to code)) ≡ later (later ps) → jumps w sp code ps a (Label to k h ∷ cs) s rs 0 n ≡ goes_with w sp code (parts (drop to code)) (with_operands a (kept k h a.operands)) cs s rs n
to_label_goes w sp code to k h ps a cs s rs n e =
    ap (λ ks. after ks (exec go (first (parts (drop to code))).here n (config_of (with_operands a (kept k h a.operands)) sp s rs))) (sym (conts_later w code cs (parts (drop to code)) (later ps) a.callers e))

pub to_call_goes : (w : Scene) (sp : CoreSpaces) (code : List Instr) (f to r : ℕ) (ps : List Part) (a : Stacked) (c : Held) (hs : List Held) (cs : List Control) (s : State) (rs : List Reply) (n : ℕ) → a.callers ≡ c ∷ hs → jumps w sp code ps a (Called f to r ∷ cs) s rs 0 n ≡ goes_with w (spaces_at w f) (code_at w f) (parts (drop to (code_at w f))) (closed r a c hs) cs (left_store s) rs n
to_call_goes w sp code f to r ps a c hs cs s rs n same =
    ap (λ (xs : List Held). after (conts w code (Called f to r ∷ cs) ps xs) (Break 0 n (config_of a sp s rs))) same

kept_len : (xs : List ℕ) (k h : ℕ) → k + h ≤ length xs → length (kept k h xs) ≡ k + h
kept_len xs k h le = omega (arith, length-append (take k xs) (drop (length xs - h) xs), length-take-le k xs (omega arith), length-drop (length xs - h) xs)

-- at a branch, the label's operands are there
pub label_needs : (w : Scene) (fr : Frame) (code : List Instr) (to k h : ℕ) (ps : List Part) (a : Stacked) (cs : List Control) → IsJumping w fr code ps a (Label to k h ∷ cs) 0 → k + h ≤ length a.operands
label_needs w fr code to k h ps a cs x =
    let e : k ≡ x.reaches.0 = (let f = x.reaches.1 in cc) in let le = x.reaches.2 in let there = x.there in let low = x.below.1 in omega arith

pub to_label_ready : (w : Scene) (fr : Frame) (code : List Instr) (to k h : ℕ) (ps : List Part) (a : Stacked) (cs : List Control) → IsJumping w fr code ps a (Label to k h ∷ cs) 0 → IsReady w fr code (parts (drop to code)) (with_operands a (kept k h a.operands)) cs
to_label_ready w fr code to k h ps a cs x =
    let t = x.below.2 in let low = t.2 in let at = x.below.1 in
    let len = kept_len a.operands k h (label_needs w fr code to k h ps a cs x) in
    record {
      floor = t.0;
      above = x.floor - t.0 + k;
      ends = t.1;
      there = omega arith;
      here = t.4;
      below = stands_later w fr code cs (later ps) (parts (drop to code)) a.callers t.0 t.1 (sym x.below.0) t.5;
    }

pub to_call_ready : (w : Scene) (fr : Frame) (code : List Instr) (f to r : ℕ) (ps : List Part) (a : Stacked) (cs : List Control) → IsJumping w fr code ps a (Called f to r ∷ cs) 0 → CanReturn w r f to a cs
to_call_ready w fr code f to r ps a cs x =
    let e : r ≡ x.reaches.0 = (let q = x.reaches.1 in cc) in let le = x.reaches.2 in let there = x.there in
    returns_ready w fr code f to r ps a a.callers cs x.floor x.ends refl (omega arith) x.below

pub to_entry_ready : (w : Scene) (fr : Frame) (code : List Instr) (r : ℕ) (ps : List Part) (a : Stacked) (cs : List Control) → IsJumping w fr code ps a (Entry r ∷ cs) 0 → r ≤ length a.operands
to_entry_ready w fr code r ps a cs x =
    let e : r ≡ x.reaches.0 = (let q = x.reaches.1 in cc) in let le = x.reaches.2 in let there = x.there in omega arith

-- a return leaves all blocks and loops of its function
pub record GoesBeyond (w : Scene) (fr : Frame) (sp : CoreSpaces) (code : List Instr) (ps : List Part) (a : Stacked) (cs : List Control) : Type 0 where
  pub parts_left : List Part
  pub returning : IsReturning w fr code parts_left a (beyond cs)
  pub goes : (s : State) (rs : List Reply) (n : ℕ) → returns_from w sp code ps a cs s rs n ≡ returns_from w sp code parts_left a (beyond cs) s rs n

pub goes_beyond : (w : Scene) (fr : Frame) (sp : CoreSpaces) (code : List Instr) (ps : List Part) (a : Stacked) (cs : List Control) → IsReturning w fr code ps a cs → GoesBeyond w fr sp code ps a cs
goes_beyond w fr sp code ps a [] x = absurd x.below
goes_beyond w fr sp code ps a (Label to k h ∷ cs) x =
    let t = x.below.2 in
    let y = goes_beyond w fr sp code (later ps) a cs (record { floor = t.0; ends = t.1; there = x.there; below = t.5 }) in
    record { parts_left = y.parts_left; returning = y.returning; goes = λ s rs n. y.goes s rs n }
goes_beyond w fr sp code ps a (Called f to r ∷ cs) x = record { parts_left = ps; returning = x; goes = λ s rs n. refl }
goes_beyond w fr sp code ps a (Entry r ∷ cs) x = record { parts_left = ps; returning = x; goes = λ s rs n. refl }

pub beyond_some : (w : Scene) (fr : Frame) (code : List Instr) (ps : List Part) (a : Stacked) (cs : List Control) → IsReturning w fr code ps a cs → 0 < length (beyond cs)
beyond_some w fr code ps a [] x = absurd x.below
beyond_some w fr code ps a (Label to k h ∷ cs) x = let t = x.below.2 in beyond_some w fr code (later ps) a cs (record { floor = t.0; ends = t.1; there = x.there; below = t.5 })
beyond_some w fr code ps a (Called f to r ∷ cs) x = omega arith
beyond_some w fr code ps a (Entry r ∷ cs) x = omega arith

pub beyond_no_label : (cs ds : List Control) (to k h : ℕ) → beyond cs ≡ Label to k h ∷ ds → ⊥
beyond_no_label [] ds to k h e = cc
beyond_no_label (Label to' k' h' ∷ cs) ds to k h e = beyond_no_label cs ds to k h e
beyond_no_label (Called f to' r ∷ cs) ds to k h e = cc
beyond_no_label (Entry r ∷ cs) ds to k h e = cc

pub back_call_goes : (w : Scene) (sp : CoreSpaces) (code : List Instr) (f to r : ℕ) (ps : List Part) (a : Stacked) (c : Held) (hs : List Held) (cs : List Control) (s : State) (rs : List Reply) (n : ℕ) → a.callers ≡ c ∷ hs → returns_from w sp code ps a (Called f to r ∷ cs) s rs n ≡ goes_with w (spaces_at w f) (code_at w f) (parts (drop to (code_at w f))) (closed r a c hs) cs (left_store s) rs n
back_call_goes w sp code f to r ps a c hs cs s rs n same =
    ap (λ (xs : List Held). after (conts w code (Called f to r ∷ cs) ps xs) (Back n (config_of a sp s rs))) same

back_call_fits : (w : Scene) (fr : Frame) (code : List Instr) (f to r : ℕ) (ps : List Part) (hs : List Held) (cs : List Control) (floor ends : ℕ) → Stands w fr code (Called f to r ∷ cs) ps hs floor ends → r ≡ fr.results
back_call_fits w fr code f to r ps [] cs floor ends s = absurd s
back_call_fits w fr code f to r ps (c ∷ hs) cs floor ends s = s.3

pub back_call_ready : (w : Scene) (fr : Frame) (code : List Instr) (f to r : ℕ) (ps : List Part) (a : Stacked) (cs : List Control) → IsReturning w fr code ps a (Called f to r ∷ cs) → CanReturn w r f to a cs
back_call_ready w fr code f to r ps a cs x =
    let e = back_call_fits w fr code f to r ps a.callers cs x.floor x.ends x.below in
    let there = x.there in
    returns_ready w fr code f to r ps a a.callers cs x.floor x.ends refl (omega arith) x.below

pub back_entry_ready : (w : Scene) (fr : Frame) (code : List Instr) (r : ℕ) (ps : List Part) (a : Stacked) (cs : List Control) → IsReturning w fr code ps a (Entry r ∷ cs) → r ≤ length a.operands
back_entry_ready w fr code r ps a cs x = let e = x.below.2 in let there = x.there in omega arith

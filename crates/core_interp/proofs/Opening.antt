-- Blocks, loops and choices.
use Rattle.std.proofs.Common.{◌≡◌, ℕ, zero, suc, ◌+◌, ◌-◌, ◌≤◌, List, ◌∷◌, length, drop, refl, sym, ap, ◌∙◌, subst, arith}
use Rattle.wasm_ast.specs.declared.instr.BlockType.{BlockType}
use Rattle.wasm_ast.specs.declared.instr.Instr.{Instr}
use Rattle.wasm_ast.specs.declared.instr.Instr.TheVariants.{Block, Loop, If}
use Rattle.core_store.specs.Tree.{Seq, Stop, Part, first, later, placed, parts}
use Rattle.core_store.specs.declared.value.CoreSpaces.{CoreSpaces}
use Rattle.core_store.specs.State.{State}
use Rattle.core_store.specs.Words.{i32_in}
use Rattle.core_store.specs.Config.{Reply, then_do, block_params, block_results}
use Rattle.core_store.specs.Eval.{block_end, Turn, choose, exec, go}
use Rattle.core_store.proofs.Steps.{go_turn}
use Rattle.core_slots.specs.Stacked.{Stacked, with_operands}
use Rattle.core_interp.specs.declared.control.Control.{Control}
use Rattle.core_interp.specs.declared.control.Control.TheVariants.{Label}
use Rattle.core_store.specs.Scene.{Scene}
use Rattle.core_interp.specs.Rest.{label_end, after, conts, config_of, goes_with}
use Rattle.core_store.specs.Fine.{Frame, Fine, IsBlock}
use Rattle.core_interp.specs.Valid.{arities, Stands, IsReady}
use Rattle.core_interp.proofs.Moves.{conts_later, stands_later, block_after, loop_after}

-- a block begins: `to` is the place after its end
pub block_goes : (w : Scene) (sp : CoreSpaces) (code : List Instr) (t : BlockType) (to : ℕ) (qs : List Part) (a : Stacked) (cs : List Control) (s : State) (rs : List Reply) (n : ℕ) → parts (drop to code) ≡ later qs → goes_with w sp code (placed (Block t) qs) a cs s rs (suc n) ≡ goes_with w sp code qs a (Label to (block_results sp t) (length a.operands - block_params sp t) ∷ cs) s rs n
block_goes w sp code t to qs a cs s rs n e =
    let h = length a.operands - block_params sp t in
    let o = exec go (first qs).here n (config_of a sp s rs) in
    let R = (first (later qs)).here in
    ap (λ ks. after ks (then_do (block_end (block_results sp t) h o) (exec go R))) (conts_later w code cs (placed (Block t) qs) (later qs) a.callers refl)
    ∙ ap (after (conts w code cs (later qs) a.callers)) (block_after (block_results sp t) h R o)
    ∙ ap (λ (xs : List Part). after (conts w code cs (later qs) a.callers) (label_end (block_results sp t) h (first xs).here R o)) (sym e)

opened_ready : (w : Scene) (fr : Frame) (code : List Instr) (to arity p above k ends : ℕ) (ps qs rest : List Part) (a : Stacked) (cs : List Control) (floor : ℕ) → later (parts (drop to code)) ≡ later rest → length a.operands ≡ floor + above → p ≤ above → Fine w fr (arity ∷ arities cs) p k (first qs).here → later qs ≡ rest → Fine w fr (arities cs) (above - p + k) ends (first rest).here → Fine w fr (arities cs) (above - p + arity) ends (first (parts (drop to code))).here → Stands w fr code cs rest a.callers floor ends → IsReady w fr code qs a (Label to arity (length a.operands - p) ∷ cs)
opened_ready w fr code to arity p above k ends ps qs rest a cs floor e there fits body late behind target below =
    let n : above - p + k ≡ length a.operands - p - floor + k = omega arith in
    let m : above - p + arity ≡ length a.operands - p - floor + arity = omega arith in
    record {
      floor = length a.operands - p;
      above = p;
      ends = k;
      there = omega arith;
      here = body;
      below = subst (λ (xs : List Part). Stands w fr code (Label to arity (length a.operands - p) ∷ cs) qs a.callers (length a.operands - p) k) late (
        e ∙ sym (ap later late),
        refl,
        (
          floor,
          ends,
          omega arith,
          subst (λ (xs : List Part). Fine w fr (arities cs) (length a.operands - p - floor + k) ends (first xs).here) (sym late) (subst (λ j. Fine w fr (arities cs) j ends (first rest).here) n behind),
          subst (λ j. Fine w fr (arities cs) j ends (first (parts (drop to code))).here) m target,
          subst (λ (xs : List Part). Stands w fr code cs xs a.callers floor ends) (sym late) below,
        ),
      );
    }

pub block_ready : (w : Scene) (fr : Frame) (code : List Instr) (t : BlockType) (to : ℕ) (qs : List Part) (a : Stacked) (cs : List Control) → parts (drop to code) ≡ later qs → IsReady w fr code (placed (Block t) qs) a cs → IsReady w fr code qs a (Label to (block_results fr.spaces t) (length a.operands - block_params fr.spaces t) ∷ cs)
block_ready w fr code t to qs a cs e x =
    opened_ready w fr code to (block_results fr.spaces t) (block_params fr.spaces t) x.above (block_results fr.spaces t) x.ends qs qs (later qs) a cs x.floor (ap later e) x.there x.here.1 x.here.2 refl x.here.3
    (subst (λ (xs : List Part). Fine w fr (arities cs) (x.above - block_params fr.spaces t + block_results fr.spaces t) x.ends (first xs).here) (sym e) x.here.3)
    (stands_later w fr code cs (placed (Block t) qs) (later qs) a.callers x.floor x.ends refl x.below)

pub block_fits : (w : Scene) (fr : Frame) (code : List Instr) (t : BlockType) (qs : List Part) (a : Stacked) (cs : List Control) → IsReady w fr code (placed (Block t) qs) a cs → IsBlock fr.spaces t × (block_params fr.spaces t ≤ length a.operands)
block_fits w fr code t qs a cs x = let fits = x.here.1 in let there = x.there in (x.here.0, omega arith)

-- a loop begins, at the place `to`
pub loop_goes : (w : Scene) (sp : CoreSpaces) (code : List Instr) (t : BlockType) (to : ℕ) (qs : List Part) (a : Stacked) (cs : List Control) (s : State) (rs : List Reply) (n : ℕ) → parts (drop to code) ≡ placed (Loop t) qs → goes_with w sp code (placed (Loop t) qs) a cs s rs (suc n) ≡ goes_with w sp code qs a (Label to (block_params sp t) (length a.operands - block_params sp t) ∷ cs) s rs n
loop_goes w sp code t to qs a cs s rs n e =
    let p = block_params sp t in
    let h = length a.operands - block_params sp t in
    let o = exec go (first qs).here n (config_of a sp s rs) in
    let R = (first (later qs)).here in
    ap (λ ks. after ks (then_do (go (Turn t (first qs).here) n (config_of a sp s rs)) (exec go R))) (conts_later w code cs (placed (Loop t) qs) (later qs) a.callers refl)
    ∙ ap (λ x. after (conts w code cs (later qs) a.callers) (then_do x (exec go R))) (go_turn t (first qs).here n (config_of a sp s rs))
    ∙ ap (after (conts w code cs (later qs) a.callers)) (loop_after t (first qs).here R p h o)
    ∙ ap (λ (xs : List Part). after (conts w code cs (later qs) a.callers) (label_end p h (first xs).here R o)) (sym e)

pub loop_ready : (w : Scene) (fr : Frame) (code : List Instr) (t : BlockType) (to : ℕ) (qs : List Part) (a : Stacked) (cs : List Control) → parts (drop to code) ≡ placed (Loop t) qs → IsReady w fr code (placed (Loop t) qs) a cs → IsReady w fr code qs a (Label to (block_params fr.spaces t) (length a.operands - block_params fr.spaces t) ∷ cs)
loop_ready w fr code t to qs a cs e x =
    let p = block_params fr.spaces t in
    let fits = x.here.1 in
    let n : x.above ≡ x.above - block_params fr.spaces t + block_params fr.spaces t = omega arith in
    opened_ready w fr code to (block_params fr.spaces t) (block_params fr.spaces t) x.above (block_results fr.spaces t) x.ends qs qs (later qs) a cs x.floor (ap later e) x.there x.here.1 x.here.2 refl x.here.3
    (subst (λ (xs : List Part). Fine w fr (arities cs) (x.above - block_params fr.spaces t + block_params fr.spaces t) x.ends (first xs).here) (sym e) (subst (λ j. Fine w fr (arities cs) j x.ends (first (placed (Loop t) qs)).here) n x.here))
    (stands_later w fr code cs (placed (Loop t) qs) (later qs) a.callers x.floor x.ends refl x.below)

pub loop_fits : (w : Scene) (fr : Frame) (code : List Instr) (t : BlockType) (qs : List Part) (a : Stacked) (cs : List Control) → IsReady w fr code (placed (Loop t) qs) a cs → IsBlock fr.spaces t × (block_params fr.spaces t ≤ length a.operands)
loop_fits w fr code t qs a cs x = let fits = x.here.1 in let there = x.there in (x.here.0, omega arith)

-- the part that a test chooses
abbrev pub chosen : ℕ → List Part → List Part
chosen zero qs = record { here = (first qs).other; other = Stop } ∷ later qs
chosen (suc v) qs = qs

pub if_goes : (w : Scene) (sp : CoreSpaces) (code : List Instr) (t : BlockType) (to v : ℕ) (qs : List Part) (a b : Stacked) (cs : List Control) (s : State) (rs : List Reply) (n : ℕ) → parts (drop to code) ≡ later qs → a ≡ with_operands b (v ∷ b.operands) → goes_with w sp code (placed (If t) qs) a cs s rs (suc n) ≡ goes_with w sp code (chosen (i32_in v) qs) b (Label to (block_results sp t) (length b.operands - block_params sp t) ∷ cs) s rs n
if_goes w sp code t to v qs a b cs s rs n e same =
    ap (λ (x : Stacked). goes_with w sp code (placed (If t) qs) x cs s rs (suc n)) same ∙ tested (i32_in v)
  where
    R : Seq
    R = (first (later qs)).here

    ks : conts w code cs (placed (If t) qs) b.callers ≡ conts w code cs (later qs) b.callers
    ks = conts_later w code cs (placed (If t) qs) (later qs) b.callers refl

    tested : (u : ℕ) → after (conts w code cs (placed (If t) qs) b.callers) (then_do (block_end (block_results sp t) (length b.operands - block_params sp t) (choose u (exec go (first qs).other n (config_of b sp s rs)) (exec go (first qs).here n (config_of b sp s rs)))) (exec go (first (later qs)).here)) ≡ goes_with w sp code (chosen u qs) b (Label to (block_results sp t) (length b.operands - block_params sp t) ∷ cs) s rs n
    tested zero =
        let h = length b.operands - block_params sp t in
        let o = exec go (first qs).other n (config_of b sp s rs) in
        ap (λ k. after k (then_do (block_end (block_results sp t) h o) (exec go (first (later qs)).here))) ks
        ∙ ap (after (conts w code cs (later qs) b.callers)) (block_after (block_results sp t) h (first (later qs)).here o)
        ∙ ap (λ (xs : List Part). after (conts w code cs (later qs) b.callers) (label_end (block_results sp t) h (first xs).here (first (later qs)).here o)) (sym e)
    tested (suc u) =
        let h = length b.operands - block_params sp t in
        let o = exec go (first qs).here n (config_of b sp s rs) in
        ap (λ k. after k (then_do (block_end (block_results sp t) h o) (exec go (first (later qs)).here))) ks
        ∙ ap (after (conts w code cs (later qs) b.callers)) (block_after (block_results sp t) h (first (later qs)).here o)
        ∙ ap (λ (xs : List Part). after (conts w code cs (later qs) b.callers) (label_end (block_results sp t) h (first xs).here (first (later qs)).here o)) (sym e)

late : (v : ℕ) (qs : List Part) → later (chosen v qs) ≡ later qs
late zero qs = refl
late (suc v) qs = refl

pub if_ready : (w : Scene) (fr : Frame) (code : List Instr) (t : BlockType) (to v u : ℕ) (qs : List Part) (a b : Stacked) (cs : List Control) → parts (drop to code) ≡ later qs → a ≡ with_operands b (v ∷ b.operands) → IsReady w fr code (placed (If t) qs) a cs → IsReady w fr code (chosen u qs) b (Label to (block_results fr.spaces t) (length b.operands - block_params fr.spaces t) ∷ cs)
if_ready w fr code t to v u qs a b cs e same y =
    let x : IsReady w fr code (placed (If t) qs) (with_operands b (v ∷ b.operands)) cs = subst (λ z. IsReady w fr code (placed (If t) qs) z cs) same y in
    let fits : block_params fr.spaces t + 1 ≤ x.above = x.here.1 in
    let there : length b.operands + 1 ≡ x.floor + x.above = omega (arith, x.there) in
    opened_ready w fr code to (block_results fr.spaces t) (block_params fr.spaces t) (x.above - 1) (block_results fr.spaces t) x.ends qs (chosen u qs) (later qs) b cs x.floor (ap later e) (omega arith) (omega arith) (arm x u) (late u qs) x.here.4
    (subst (λ (xs : List Part). Fine w fr (arities cs) (x.above - 1 - block_params fr.spaces t + block_results fr.spaces t) x.ends (first xs).here) (sym e) x.here.4)
    (stands_later w fr code cs (placed (If t) qs) (later qs) b.callers x.floor x.ends refl x.below)
  where
    arm : (x : IsReady w fr code (placed (If t) qs) (with_operands b (v ∷ b.operands)) cs) (u : ℕ) → Fine w fr (block_results fr.spaces t ∷ arities cs) (block_params fr.spaces t) (block_results fr.spaces t) (first (chosen u qs)).here
    arm x zero = x.here.3
    arm x (suc u) = x.here.2

pub if_fits : (w : Scene) (fr : Frame) (code : List Instr) (t : BlockType) (qs : List Part) (a : Stacked) (cs : List Control) → IsReady w fr code (placed (If t) qs) a cs → IsBlock fr.spaces t × (block_params fr.spaces t + 1 ≤ length a.operands)
if_fits w fr code t qs a cs x = let fits = x.here.1 in let there = x.there in (x.here.0, omega arith)

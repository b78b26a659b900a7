-- What is left of a run, before and after each instruction.
use Rattle.std.proofs.Common.{◌≡◌, ℕ, zero, suc, ◌+◌, ◌-◌, ◌≤◌, List, [], ◌∷◌, length, drop, Some, refl, ap, ◌∙◌, subst}
use Rattle.std.specs.Prelude.{slice_get}
use Rattle.std.proofs.lemmas.List.{drop_more}
use Rattle.std.proofs.lemmas.Option.{slice_get_within, get_or_from_slice_get}
use Rattle.wasm_ast.specs.declared.instr.BlockType.{BlockType}
use Rattle.wasm_ast.specs.declared.instr.Instr.{Instr}
use Rattle.core_store.specs.Tree.{Seq, Then, InLoop, Part, first, later, onto, placed, parts}
use Rattle.core_store.specs.declared.value.CoreSpaces.{CoreSpaces}
use Rattle.core_store.specs.State.{State}
use Rattle.core_store.specs.Config.{Reply, Config, Outcome, Trapped, Out, Next, Break, Back, Over, then_do, with_stack, kept}
use Rattle.core_store.specs.Eval.{block_end, step_then, loop_end, Turn, single, exec, go}
use Rattle.core_slots.specs.Stacked.{Held, Stacked}
use Rattle.core_interp.specs.declared.control.Control.{Control}
use Rattle.core_interp.specs.declared.control.Control.TheVariants.{Label, Called, Entry}
use Rattle.core_store.specs.Scene.{Scene, code_at}
use Rattle.core_interp.specs.Rest.{AfterLabel, label_end, after, conts, config_of, goes_with}
use Rattle.core_store.specs.Fine.{Frame, frame_at, FineOne, Fine}
use Rattle.core_interp.specs.Valid.{arities, Stands, IsReady}

pub parts_at : (code : List Instr) (at : ℕ) (i : Instr) → slice_get code at ≡ Some i → parts (drop at code) ≡ placed i (parts (drop (at + 1) code))
parts_at code at i h =
    ap parts (drop_more code at i (slice_get_within code at i h)) ∙ ap (λ x. placed x (parts (drop (at + 1) code))) (get_or_from_slice_get code at i i h)

-- only what comes later matters to what is in progress
pub conts_later : (w : Scene) (code : List Instr) (cs : List Control) (ps qs : List Part) (hs : List Held) → later ps ≡ later qs → conts w code cs ps hs ≡ conts w code cs qs hs
conts_later w code [] ps qs hs e = refl
conts_later w code (Label to a h ∷ cs) ps qs hs e = ap (λ xs. AfterLabel a h (first (parts (drop to code))).here (first xs).here ∷ conts w code cs xs hs) e
conts_later w code (Called f to r ∷ cs) ps qs [] e = refl
conts_later w code (Called f to r ∷ cs) ps qs (c ∷ hs) e = refl
conts_later w code (Entry r ∷ cs) ps qs hs e = refl

pub stands_later : (w : Scene) (fr : Frame) (code : List Instr) (cs : List Control) (ps qs : List Part) (hs : List Held) (floor ends : ℕ) → later ps ≡ later qs → Stands w fr code cs ps hs floor ends → Stands w fr code cs qs hs floor ends
stands_later w fr code [] ps qs hs floor ends e s = s
stands_later w fr code (Label to a h ∷ cs) ps qs hs floor ends e s =
    subst (λ (xs : List Part). (later (parts (drop to code)) ≡ later xs) × (h ≡ floor) × ((low end : ℕ) × (low ≤ floor) × Fine w fr (arities cs) (floor - low + ends) end (first xs).here × Fine w fr (arities cs) (floor - low + a) end (first (parts (drop to code))).here × Stands w fr code cs xs hs low end)) e s
stands_later w fr code (Called f to r ∷ cs) ps qs [] floor ends e s = s
stands_later w fr code (Called f to r ∷ cs) ps qs (c ∷ hs) floor ends e s = s
stands_later w fr code (Entry r ∷ cs) ps qs hs floor ends e s = s

-- what ends all ends what is in progress
pub over_after : (w : Scene) (fr : Frame) (code : List Instr) (cs : List Control) (ps : List Part) (hs : List Held) (floor ends : ℕ) (o : Outcome) → Stands w fr code cs ps hs floor ends → after (conts w code cs ps hs) (Over o) ≡ Over o
over_after w fr code [] ps hs floor ends o s = absurd s
over_after w fr code (Label to a h ∷ cs) ps hs floor ends o s = over_after w fr code cs (later ps) hs s.2.0 s.2.1 o s.2.5
over_after w fr code (Called f to r ∷ cs) ps [] floor ends o s = absurd s
over_after w fr code (Called f to r ∷ cs) ps (c ∷ hs) floor ends o s =
    over_after w (frame_at w f (length c.locals)) (code_at w f) cs (parts (drop to (code_at w f))) hs s.4.0 s.4.2 o s.4.5
over_after w fr code (Entry r ∷ cs) ps hs floor ends o s = refl

-- an instruction that goes on to the next
pub then_goes : (w : Scene) (sp : CoreSpaces) (code : List Instr) (i : Instr) (qs : List Part) (a b : Stacked) (cs : List Control) (s t : State) (rs : List Reply) (n : ℕ) → placed i qs ≡ onto (Then i) qs → single go i n (config_of a sp s rs) ≡ Next n (config_of b sp t rs) → a.callers ≡ b.callers → goes_with w sp code (placed i qs) a cs s rs (suc n) ≡ goes_with w sp code qs b cs t rs n
then_goes w sp code i qs a b cs s t rs n p e same =
    ap (λ ps. goes_with w sp code ps a cs s rs (suc n)) p
    ∙ ap (λ o. after (conts w code cs (onto (Then i) qs) a.callers) (then_do o (exec go (first qs).here))) e
    ∙ ap (λ ks. after ks (exec go (first qs).here n (config_of b sp t rs))) (conts_later w code cs (onto (Then i) qs) qs a.callers refl ∙ ap (conts w code cs qs) same)

-- an instruction that traps
pub then_traps : (w : Scene) (fr : Frame) (sp : CoreSpaces) (code : List Instr) (i : Instr) (qs : List Part) (a : Stacked) (cs : List Control) (s : State) (rs : List Reply) (n : ℕ) → placed i qs ≡ onto (Then i) qs → single go i n (config_of a sp s rs) ≡ Over Trapped → IsReady w fr code (placed i qs) a cs → goes_with w sp code (placed i qs) a cs s rs (suc n) ≡ Over Trapped
then_traps w fr sp code i qs a cs s rs n p e x =
    ap (λ ps. goes_with w sp code ps a cs s rs (suc n)) p
    ∙ ap (λ o. after (conts w code cs (onto (Then i) qs) a.callers) (then_do o (exec go (first qs).here))) e
    ∙ over_after w fr code cs (onto (Then i) qs) a.callers x.floor x.ends Trapped (subst (λ ps. Stands w fr code cs ps a.callers x.floor x.ends) p x.below)

-- what an instruction of one operand less, and the like, leaves ready
pub then_ready : (w : Scene) (fr : Frame) (code : List Instr) (i : Instr) (qs : List Part) (a b : Stacked) (cs : List Control) (above : ℕ) → placed i qs ≡ onto (Then i) qs → (x : IsReady w fr code (placed i qs) a cs) → length b.operands ≡ x.floor + above → a.callers ≡ b.callers → Fine w fr (arities cs) above x.ends (first qs).here → IsReady w fr code qs b cs
then_ready w fr code i qs a b cs above p x there same here = record {
  floor = x.floor;
  above = above;
  ends = x.ends;
  there = there;
  here = here;
  below = subst (λ hs. Stands w fr code cs qs hs x.floor x.ends) same (stands_later w fr code cs (placed i qs) qs a.callers x.floor x.ends (ap later p) x.below);
}

-- the first instruction is fine
pub fine_one : (w : Scene) (fr : Frame) (code : List Instr) (i : Instr) (qs : List Part) (a : Stacked) (cs : List Control) → placed i qs ≡ onto (Then i) qs → (x : IsReady w fr code (placed i qs) a cs) → FineOne w fr (arities cs) x.above i (λ k. Fine w fr (arities cs) k x.ends (first qs).here)
fine_one w fr code i qs a cs p x = subst (λ (ps : List Part). Fine w fr (arities cs) x.above x.ends (first ps).here) p x.here

-- a block and what follows it are one label
pub block_after : (r h : ℕ) (rest : Seq) (o : Out) → then_do (block_end r h o) (exec go rest) ≡ label_end r h rest rest o
block_after r h rest (Next n c) = refl
block_after r h rest (Break zero n c) = refl
block_after r h rest (Break (suc k) n c) = refl
block_after r h rest (Back n c) = refl
block_after r h rest (Over o) = refl

again : (t : BlockType) (body rest : Seq) (n : ℕ) (c : Config) → then_do (step_then (go (Turn t body)) n c) (exec go rest) ≡ exec go (InLoop t body rest) n c
again t body rest zero c = refl
again t body rest (suc n) c = refl

-- a branch to a loop's label begins the loop again
pub loop_after : (t : BlockType) (body rest : Seq) (p h : ℕ) (o : Out) → then_do (loop_end p h (go (Turn t body)) o) (exec go rest) ≡ label_end p h (InLoop t body rest) rest o
loop_after t body rest p h (Next n c) = refl
loop_after t body rest p h (Break zero n c) = again t body rest n (with_stack c (kept p h c.stack))
loop_after t body rest p h (Break (suc k) n c) = refl
loop_after t body rest p h (Back n c) = refl
loop_after t body rest p h (Over o) = refl

-- What can run over a store can run over one to which items were added.
use Rattle.std.proofs.Common.{◌≡◌, ℕ, ◌+◌, ◌-◌, List, [], ◌∷◌, length, drop, refl, sym, ap, ◌∙◌, subst}
use Rattle.wasm_ast.specs.declared.instr.Instr.{Instr}
use Rattle.core_store.specs.Tree.{Part, first, later, parts}
use Rattle.core_store.specs.declared.value.CoreSpaces.{CoreSpaces}
use Rattle.core_store.specs.State.{State}
use Rattle.core_store.specs.Config.{Reply}
use Rattle.core_store.specs.Eval.{exec, go}
use Rattle.core_slots.specs.Stacked.{Held, Stacked}
use Rattle.core_interp.specs.declared.control.Control.{Control}
use Rattle.core_interp.specs.declared.control.Control.TheVariants.{Label, Called, Entry}
use Rattle.core_store.specs.Scene.{Grew, scene_of, code_at, spaces_at}
use Rattle.core_interp.specs.Rest.{Cont, AfterLabel, AfterCall, after, conts, config_of, goes_at}
use Rattle.core_store.specs.Fine.{Frame, frame_at, Fine}
use Rattle.core_store.proofs.Growing.{inside_more, code_more, spaces_at_more, frame_more, fine_more}
use Rattle.core_interp.specs.Valid.{arities, Stands, IsReady}
use Rattle.core_interp.specs.Run.{ReadyAt}

module _ (s t : State) (x : Grew s t) where
  pub stands_more : (fr : Frame) (code : List Instr) (cs : List Control) (ps : List Part) (hs : List Held) (floor ends : ℕ) → Stands (scene_of s) fr code cs ps hs floor ends → Stands (scene_of t) fr code cs ps hs floor ends
  stands_more fr code [] ps hs floor ends h = h
  stands_more fr code (Label to a k ∷ cs) ps hs floor ends h =
      let y = h.2 in
      (h.0, h.1, (y.0, y.1, y.2, fine_more _ _ x fr (first (later ps)).here (arities cs) (floor - y.0 + ends) y.1 y.3, fine_more _ _ x fr (first (parts (drop to code))).here (arities cs) (floor - y.0 + a) y.1 y.4, stands_more fr code cs (later ps) hs y.0 y.1 y.5))
  stands_more fr code (Called f to r ∷ cs) ps [] floor ends h = h
  stands_more fr code (Called f to r ∷ cs) ps (c ∷ hs) floor ends h =
      let y = h.4 in (
        inside_more _ _ x f h.0,
        h.1,
        h.2,
        h.3,
        (
          y.0,
          y.1,
          y.2,
          y.3,
          subst (λ (z : Frame). Fine (scene_of t) z (arities cs) y.1 y.2 (first (parts (drop to (code_at (scene_of t) f)))).here) (sym (frame_more _ _ x f (length c.locals) h.0))
              (subst (λ (z : List Instr). Fine (scene_of t) (frame_at (scene_of s) f (length c.locals)) (arities cs) y.1 y.2 (first (parts (drop to z))).here) (sym (code_more _ _ x f h.0))
              (fine_more _ _ x (frame_at (scene_of s) f (length c.locals)) (first (parts (drop to (code_at (scene_of s) f)))).here (arities cs) y.1 y.2 y.4)),
          subst (λ (z : Frame). Stands (scene_of t) z (code_at (scene_of t) f) cs (parts (drop to (code_at (scene_of t) f))) hs y.0 y.2) (sym (frame_more _ _ x f (length c.locals) h.0))
              (subst (λ (z : List Instr). Stands (scene_of t) (frame_at (scene_of s) f (length c.locals)) z cs (parts (drop to z)) hs y.0 y.2) (sym (code_more _ _ x f h.0))
              (stands_more (frame_at (scene_of s) f (length c.locals)) (code_at (scene_of s) f) cs (parts (drop to (code_at (scene_of s) f))) hs y.0 y.2 y.5)),
        ),
      )
  stands_more fr code (Entry r ∷ cs) ps hs floor ends h = h

  pub conts_more : (fr : Frame) (code : List Instr) (cs : List Control) (ps : List Part) (hs : List Held) (floor ends : ℕ) → Stands (scene_of s) fr code cs ps hs floor ends → conts (scene_of t) code cs ps hs ≡ conts (scene_of s) code cs ps hs
  conts_more fr code [] ps hs floor ends h = refl
  conts_more fr code (Label to a k ∷ cs) ps hs floor ends h =
      ap (λ (ks : List Cont). AfterLabel a k (first (parts (drop to code))).here (first (later ps)).here ∷ ks) (conts_more fr code cs (later ps) hs h.2.0 h.2.1 h.2.5)
  conts_more fr code (Called f to r ∷ cs) ps [] floor ends h = refl
  conts_more fr code (Called f to r ∷ cs) ps (c ∷ hs) floor ends h =
      ap (λ (z : CoreSpaces). AfterCall r c.operands c.locals z (first (parts (drop to (code_at (scene_of t) f)))).here ∷ conts (scene_of t) (code_at (scene_of t) f) cs (parts (drop to (code_at (scene_of t) f))) hs) (spaces_at_more _ _ x f h.0)
      ∙ ap (λ (z : List Instr). AfterCall r c.operands c.locals (spaces_at (scene_of s) f) (first (parts (drop to z))).here ∷ conts (scene_of t) z cs (parts (drop to z)) hs) (code_more _ _ x f h.0)
      ∙ ap (λ (ks : List Cont). AfterCall r c.operands c.locals (spaces_at (scene_of s) f) (first (parts (drop to (code_at (scene_of s) f)))).here ∷ ks) (conts_more (frame_at (scene_of s) f (length c.locals)) (code_at (scene_of s) f) cs (parts (drop to (code_at (scene_of s) f))) hs h.4.0 h.4.2 h.4.5)
  conts_more fr code (Entry r ∷ cs) ps hs floor ends h = refl

  pub ready_at_more : (f at : ℕ) (a : Stacked) (cs : List Control) → ReadyAt (scene_of s) f at a cs → ReadyAt (scene_of t) f at a cs
  ready_at_more f at a cs y = record {
    inside = inside_more _ _ x f y.inside;
    ready = subst (λ (z : Frame). IsReady (scene_of t) z (code_at (scene_of t) f) (parts (drop at (code_at (scene_of t) f))) a cs) (sym (frame_more _ _ x f (length a.locals) y.inside))
        (subst (λ (z : List Instr). IsReady (scene_of t) (frame_at (scene_of s) f (length a.locals)) z (parts (drop at z)) a cs) (sym (code_more _ _ x f y.inside))
        (record {
          floor = y.ready.floor;
          above = y.ready.above;
          ends = y.ready.ends;
          there = y.ready.there;
          here = fine_more _ _ x (frame_at (scene_of s) f (length a.locals)) (first (parts (drop at (code_at (scene_of s) f)))).here (arities cs) y.ready.above y.ready.ends y.ready.here;
          below = stands_more (frame_at (scene_of s) f (length a.locals)) (code_at (scene_of s) f) cs (parts (drop at (code_at (scene_of s) f))) a.callers y.ready.floor y.ready.ends y.ready.below;
        }));
  }

  pub goes_at_more : (f at : ℕ) (a : Stacked) (cs : List Control) (u : State) (rs : List Reply) (n : ℕ) → ReadyAt (scene_of s) f at a cs → goes_at (scene_of s) f at a cs u rs n ≡ goes_at (scene_of t) f at a cs u rs n
  goes_at_more f at a cs u rs n y =
      ap (λ ks. after ks (exec go (first (parts (drop at (code_at (scene_of s) f)))).here n (config_of a (spaces_at (scene_of s) f) u rs))) (sym (conts_more (frame_at (scene_of s) f (length a.locals)) (code_at (scene_of s) f) cs (parts (drop at (code_at (scene_of s) f))) a.callers y.ready.floor y.ready.ends y.ready.below))
      ∙ ap (λ (z : CoreSpaces). after (conts (scene_of t) (code_at (scene_of s) f) cs (parts (drop at (code_at (scene_of s) f))) a.callers) (exec go (first (parts (drop at (code_at (scene_of s) f)))).here n (config_of a z u rs))) (sym (spaces_at_more _ _ x f y.inside))
      ∙ ap (λ (z : List Instr). after (conts (scene_of t) z cs (parts (drop at z)) a.callers) (exec go (first (parts (drop at z))).here n (config_of a (spaces_at (scene_of t) f) u rs))) (sym (code_more _ _ x f y.inside))

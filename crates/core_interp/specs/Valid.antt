-- What is in progress: what is left after each block, loop and call has its operands too.
use Rattle.std.specs.Prelude.{ℕ, ◌≡◌, ◌+◌, ◌-◌, ◌≤◌, List, [], ◌∷◌, drop, length, slice_get}
use Rattle.wasm_ast.specs.declared.instr.Instr.{Instr}
use Rattle.core_store.specs.Tree.{Part, first, later, parts}
use Rattle.core_store.specs.Scene.{Scene, code_at, IsInside}
use Rattle.core_store.specs.Fine.{Frame, Fine, frame_at}
use Rattle.core_slots.specs.Stacked.{Held, Stacked}
use Rattle.core_interp.specs.declared.control.Control.{Control}
use Rattle.core_interp.specs.declared.control.Control.TheVariants.{Label, Called, Entry}

-- the arities of the labels of a call
abbrev pub arities : List Control → List ℕ
arities [] = []
arities (Label to a h ∷ cs) = a ∷ arities cs
arities (Called f to r ∷ cs) = r ∷ []
arities (Entry r ∷ cs) = r ∷ []

-- A piece that stands on `floor` operands and ends with `ends` more is followed by what is in progress:
-- after its end, and from where a branch to its label goes on.
abbrev pub Stands : Scene → Frame → List Instr → List Control → List Part → List Held → ℕ → ℕ → Type 0
Stands w fr code [] ps hs floor ends = ⊥
Stands w fr code (Label to a h ∷ cs) ps hs floor ends =
    (later (parts (drop to code)) ≡ later (later ps)) × (h ≡ floor)
    × ((low end : ℕ) × (low ≤ floor)
    × Fine w fr (arities cs) (floor - low + ends) end (first (later ps)).here
    × Fine w fr (arities cs) (floor - low + a) end (first (parts (drop to code))).here
    × Stands w fr code cs (later ps) hs low end)
Stands w fr code (Called f to r ∷ cs) ps [] floor ends = ⊥
Stands w fr code (Called f to r ∷ cs) ps (c ∷ hs) floor ends =
    IsInside w (slice_get w.functions f) × (floor ≡ 0) × (r ≡ ends) × (r ≡ fr.results)
    × ((low above end : ℕ) × (length c.operands + r ≡ low + above)
    × Fine w (frame_at w f (length c.locals)) (arities cs) above end (first (parts (drop to (code_at w f)))).here
    × Stands w (frame_at w f (length c.locals)) (code_at w f) cs (parts (drop to (code_at w f))) hs low end)
Stands w fr code (Entry r ∷ cs) ps hs floor ends = (floor ≡ 0) × (r ≡ ends) × (r ≡ fr.results)

-- what is left can run: its operands are there
pub record IsReady (w : Scene) (fr : Frame) (code : List Instr) (ps : List Part) (a : Stacked) (cs : List Control) : Type 0 where
  pub floor : ℕ
  pub above : ℕ
  pub ends : ℕ
  pub there : length a.operands ≡ floor + above
  pub here : Fine w fr (arities cs) above ends (first ps).here
  pub below : Stands w fr code cs ps a.callers floor ends

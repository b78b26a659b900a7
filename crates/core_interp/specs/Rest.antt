-- What is left of a run, from a place in the flat code.
use Rattle.std.specs.Prelude.{ℕ, zero, suc, List, [], ◌∷◌, drop}
use Rattle.wasm_ast.specs.declared.instr.Instr.{Instr}
use Rattle.core_store.specs.Tree.{Seq, Part, first, later, parts}
use Rattle.core_store.specs.declared.value.CoreSpaces.{CoreSpaces}
use Rattle.core_store.specs.State.{State}
use Rattle.core_store.specs.Config.{Reply, Config, Trapped, Out, Next, Break, Back, Over, then_do, with_stack, kept, bare}
use Rattle.core_store.specs.Eval.{call_end, exec, go}
use Rattle.core_slots.specs.Stacked.{Held, Stacked}
use Rattle.core_interp.specs.declared.control.Control.{Control}
use Rattle.core_interp.specs.declared.control.Control.TheVariants.{Label, Called, Entry}
use Rattle.core_store.specs.Scene.{Scene, code_at, spaces_at}

-- what comes after a piece: for each block, loop and call in progress, the innermost first. A branch to a label goes on with `target`
pub data Cont : Type 0 where
  AfterLabel : (arity height : ℕ) (target rest : Seq) → Cont
  AfterCall : (results : ℕ) (operands locals : List ℕ) (spaces : CoreSpaces) (rest : Seq) → Cont
  AtEntry : (results : ℕ) → Cont

abbrev pub label_end : ℕ → ℕ → Seq → Seq → Out → Out
label_end arity height target rest (Next n c) = exec go rest n c
label_end arity height target rest (Break zero n c) = exec go target n (with_stack c (kept arity height c.stack))
label_end arity height target rest (Break (suc k) n c) = Break k n c
label_end arity height target rest (Back n c) = Back n c
label_end arity height target rest (Over o) = Over o

-- the rest of a run, from how the piece ends
abbrev pub after : List Cont → Out → Out
after [] o = Over Trapped
after (AfterLabel a h target rest ∷ ks) o = after ks (label_end a h target rest o)
after (AfterCall r operands locals spaces rest ∷ ks) o = after ks (then_do (call_end r operands locals spaces o) (exec go rest))
after (AtEntry r ∷ ks) o = call_end r [] [] bare o

-- the blocks, loops and calls in progress, where ps is left of the code
abbrev pub conts : Scene → List Instr → List Control → List Part → List Held → List Cont
conts w code [] ps hs = []
conts w code (Label to a h ∷ cs) ps hs =
    AfterLabel a h (first (parts (drop to code))).here (first (later ps)).here ∷ conts w code cs (later ps) hs
conts w code (Called f to r ∷ cs) ps [] = []
conts w code (Called f to r ∷ cs) ps (c ∷ hs) =
    AfterCall r c.operands c.locals (spaces_at w f) (first (parts (drop to (code_at w f)))).here
    ∷ conts w (code_at w f) cs (parts (drop to (code_at w f))) hs
conts w code (Entry r ∷ cs) ps hs = AtEntry r ∷ []

abbrev pub config_of : Stacked → CoreSpaces → State → List Reply → Config
config_of a spaces store replies = record { stack = a.operands; locals = a.locals; spaces = spaces; store = store; replies = replies }

-- the rest of a run, where ps is left of the code
abbrev pub goes_with : Scene → CoreSpaces → List Instr → List Part → Stacked → List Control → State → List Reply → ℕ → Out
goes_with w spaces code ps a cs store replies n =
    after (conts w code cs ps a.callers) (exec go (first ps).here n (config_of a spaces store replies))

-- the rest of a run, from a place in a function
abbrev pub goes_at : Scene → ℕ → ℕ → Stacked → List Control → State → List Reply → ℕ → Out
goes_at w f at a cs store replies n =
    goes_with w (spaces_at w f) (code_at w f) (parts (drop at (code_at w f))) a cs store replies n

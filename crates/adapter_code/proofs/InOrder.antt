-- The laws by which a routine's proof goes from part to part.
use Rattle.std.proofs.Common.{◌≡◌, ℕ, suc, List, length, refl, sym, subst, true}
use Rattle.adapter_code.specs.declared.state.Local.{Local}
use Rattle.adapter_code.specs.declared.write.Walk.{Walk}
use Rattle.adapter_code.specs.Code.{Code, followed_by}
use Rattle.adapter_code.specs.Run.{State, Run, Next, Left, Over, then_run, turns, runs}
use Rattle.adapter_code.specs.Enough.{Behind, TurnEnds, Enough}
use Rattle.adapter_code.specs.Each.{onward}
use Rattle.adapter_code.specs.Placed.{placed, inside, run_inside, within, are_places}
use Rattle.adapter_code.proofs.Enough.{enough_runs, turns_hold}
use Rattle.adapter_code.proofs.Placed.{placed_inside, followed_runs}

go_on : (go : ℕ → State → Run) (wanted : Run → Type 0) (r : Run) → Behind (λ k t. wanted (go k t)) wanted r → wanted (then_run r go)
go_on go wanted (Next k s) h = h
go_on go wanted (Left name k s) h = h
go_on go wanted (Over e k s) h = h

-- a fact of one routine's run, from whose ends the fact of the other's run follows, is a fact of both in order
pub in_order : (code rest : Code) (wanted : Run → Type 0) (k : ℕ) (s : State) → Behind (λ i t. wanted (runs rest i t)) wanted (runs code k s) → wanted (runs (followed_by code rest) k s)
in_order code rest wanted k s h = subst wanted (sym (followed_runs code rest k s)) (go_on (runs rest) wanted (runs code k s) h)

behind_map : (go more : ℕ → State → Type 0) (wanted : Run → Type 0) (r : Run) → ((k : ℕ) (s : State) → go k s → more k s) → Behind go wanted r → Behind more wanted r
behind_map go more wanted (Next k s) f h = f k s h
behind_map go more wanted (Left name k s) f h = h
behind_map go more wanted (Over e k s) f h = h

-- the same from what is enough before the one, and then before the other
pub enough_in_order : (code rest : Code) (wanted : Run → Type 0) (k : ℕ) (s : State) → Enough code (λ r. Behind (λ i t. Enough rest wanted i t) wanted r) k s → wanted (runs (followed_by code rest) k s)
enough_in_order code rest wanted k s e =
    in_order code rest wanted k s
    (behind_map (λ i t. Enough rest wanted i t) (λ i t. wanted (runs rest i t)) wanted (runs code k s) (λ i t h. enough_runs rest wanted i t h)
    (enough_runs code (λ r. Behind (λ i t. Enough rest wanted i t) wanted r) k s e))

-- a fact of a routine's run over its own locals is one of its run at home in others
pub at_home : (places : List ℕ) (outer : List Local) (code : Code) (wanted : Run → Type 0) (k : ℕ) (s : State) → are_places (length outer) places ≡ true → length s.locals ≡ length places → within (length places) code ≡ true
    → wanted (run_inside places outer (runs code k s)) → wanted (runs (placed places code) k (inside places outer s))
at_home places outer code wanted k s ok len w h =
    subst wanted (sym (placed_inside places outer (length places) code k s (record { places = ok; count = refl }) len w).same) h

-- the turns of a loop over a list in memory, by a fact that holds before each element, with the number of those to come
pub each_holds : (w : Walk) (body : Code) (holds : ℕ → ℕ → State → Type 0) (wanted : Run → Type 0)
    → ((n k : ℕ) (s : State) → holds (suc n) k s → Enough body (λ r. Behind (λ i t. Enough (onward w) (λ r. TurnEnds w.name (holds n) wanted r) i t) (λ r. TurnEnds w.name (holds n) wanted r) r) (suc k) s)
    → ((k : ℕ) (s : State) → holds 0 k s → wanted (Next k s))
    → (n k : ℕ) (s : State) → holds n k s → wanted (turns w.name (runs (followed_by body (onward w))) n k s)
each_holds w body holds wanted step done =
    turns_hold w.name (runs (followed_by body (onward w))) holds wanted
    (λ n k s h. enough_in_order body (onward w) (λ r. TurnEnds w.name (holds n) wanted r) (suc k) s (step n k s h))
    done

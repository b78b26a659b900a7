-- Routines called in the midst of others.
use Rattle.std.proofs.Common.{◌≡◌, ℕ, zero, suc, ◌<◌, ◌&&◌, nat_lt, Bool, true, false, List, [], ◌∷◌, map, length, set, refl, sym, ap, subst, ◌∙◌, arith}
use Rattle.std.proofs.lemmas.List.{length-map}
use Rattle.std.proofs.lemmas.Bool.{ltb-true}
use Rattle.adapter_code.specs.declared.state.Local.{Local}
use Rattle.adapter_code.specs.declared.state.Local.TheVariants.{Small}
use Rattle.adapter_code.specs.Code.{Code, followed_by}
use Rattle.adapter_code.specs.Run.{State, Run, Next, Left, Over, RoutineRun, local_at, ended, runs}
use Rattle.adapter_code.specs.Enough.{Behind}
use Rattle.adapter_code.specs.Placed.{placed, with_own, inside, run_inside, within, differs, are_places}
use Rattle.adapter_code.proofs.Placed.{placed_inside}
use Rattle.adapter_code.proofs.InOrder.{in_order}
use Rattle.table_bytes.specs.Own.{own_of, AreAlike}

both : (a b : Bool) → (a && b) ≡ true → (a ≡ true) × (b ≡ true)
both true b e = (refl, e)
both false b e = absurd cc

set_same : (ls : List Local) (p : ℕ) → p < length ls → set ls p (local_at ls p) ≡ ls
set_same [] p lt = absurd (omega arith)
set_same (l ∷ ls) zero lt = refl
set_same (l ∷ ls) (suc p) lt = ap (λ xs. l ∷ xs) (set_same ls p (omega arith))

-- what is found at the places stands there
own_stands : (places : List ℕ) (ls : List Local) → are_places (length ls) places ≡ true → with_own places (map (local_at ls) places) ls ≡ ls
own_stands [] ls ok = refl
own_stands (p ∷ ps) ls ok =
    let b = both (nat_lt p (length ls)) (differs p ps && are_places (length ls) ps) ok in
    let d = both (differs p ps) (are_places (length ls) ps) b.1 in
    ap (λ xs. set xs p (local_at ls p)) (own_stands ps ls d.1) ∙ set_same ls p (ltb-true p (length ls) b.0)

pub own_inside : (places : List ℕ) (s : State) → are_places (length s.locals) places ≡ true → inside places s.locals (own_of places s) ≡ s
own_inside places s ok = ap (λ xs. let t : State = record s { locals = xs } in t) (own_stands places s.locals ok)

-- a routine at home in a state runs as it does over what it finds there
pub called_runs : (places : List ℕ) (code : Code) (k : ℕ) (s : State) → are_places (length s.locals) places ≡ true → within (length places) code ≡ true → runs (placed places code) k s ≡ run_inside places s.locals (runs code k (own_of places s))
called_runs places code k s ok w =
    ap (λ t. runs (placed places code) k t) (sym (own_inside places s ok))
    ∙ (placed_inside places s.locals (length places) code k (own_of places s) (record { places = ok; count = refl }) (length-map places (local_at s.locals)) w).same

pub routine_called : (places : List ℕ) (code rest : Code) (holds wanted : Run → Type 0) (k : ℕ) (s : State) → are_places (length s.locals) places ≡ true → within (length places) code ≡ true → holds (runs code k (own_of places s))
    → ((r : Run) → holds r → Behind (λ i t. wanted (runs rest i t)) wanted (run_inside places s.locals r)) → wanted (runs (followed_by (placed places code) rest) k s)
routine_called places code rest holds wanted k s ok w h next =
    in_order (placed places code) rest wanted k s (subst (λ r. Behind (λ i t. wanted (runs rest i t)) wanted r) (sym (called_runs places code k s ok w)) (next (runs code k (own_of places s)) h))

-- at home in other locals all is alike but the locals
pub alike_inside : (places : List ℕ) (outer : List Local) (r : Run) → AreAlike (ended (run_inside places outer r)) (ended r)
alike_inside places outer (Next k s) = record { end = refl; count = refl; memory = refl; table = refl; effects = refl }
alike_inside places outer (Left name k s) = record { end = refl; count = refl; memory = refl; table = refl; effects = refl }
alike_inside places outer (Over end k s) = record { end = refl; count = refl; memory = refl; table = refl; effects = refl }

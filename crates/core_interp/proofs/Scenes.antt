-- Functions and items that are there.
use Rattle.std.proofs.Common.{◌≡◌, ℕ, zero, suc, ◌<◌, List, [], ◌∷◌, length, Some, subst, arith}
use Rattle.std.specs.Prelude.{slice_get}
use Rattle.std.proofs.lemmas.Option.{slice_get_within}
use Rattle.core_store.specs.declared.value.StoreFunc.{StoreFunc}
use Rattle.core_store.specs.State.{State}
use Rattle.core_store.specs.Scene.{Scene, scene_of, IsInside}
use Rattle.core_store.specs.Fine.{Place}

within_cases : (w : Scene) (fs : List StoreFunc) (f : ℕ) → IsInside w (slice_get fs f) → f < length fs
within_cases w [] f h = absurd h
within_cases w (g ∷ fs) zero h = omega arith
within_cases w (g ∷ fs) (suc f) h = omega (arith, within_cases w fs f h)

pub inside_within : (s : State) (f : ℕ) → IsInside (scene_of s) (slice_get s.functions f) → f < length s.functions
inside_within s f h = within_cases (scene_of s) s.functions f h

pub place_within : (n : ℕ) (xs : List ℕ) (i : ℕ) → Place n xs i → i < length xs
place_within n xs i p = slice_get_within xs i p.0 p.1

pub place_there : (n : ℕ) (xs : List ℕ) (i k : ℕ) → Place n xs i → slice_get xs i ≡ Some k → k < n
place_there n xs i k p e = let same : p.0 ≡ k = (let q = p.1 in cc) in subst (λ m. m < n) same p.2

-- Numbers that are not among others, one after another.
use Rattle.std.proofs.Common.{◌≡◌, refl, ℕ, List, [], ◌∷◌, ◌++◌, Bool, true, false, not}
use Rattle.std.specs.Prelude.{if◌then◌else◌}
use Rattle.comp_types.specs.GivenResources.{is_among, without}

kept_one : (b : Bool) (x : ℕ) (ys : List ℕ) → (if b then x ∷ [] else []) ++ ys ≡ (if b then x ∷ ys else ys)
kept_one true x ys = refl
kept_one false x ys = refl

pub without-one : (rs : List ℕ) (x : ℕ) (xs : List ℕ) → without rs (x ∷ []) ++ without rs xs ≡ without rs (x ∷ xs)
without-one rs x xs = kept_one (not (is_among rs x)) x (without rs xs)

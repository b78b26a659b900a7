-- Resources that are there already add none: what was searched once need not be walked again.
use Rattle.std.proofs.Common.{◌≡◌, ◌∙◌, ap, refl, ℕ, List, [], ◌∷◌, ◌++◌, true, nat_eq}
use Rattle.std.specs.Prelude.{◌||◌, if◌then◌else◌}
use Rattle.comp_types.specs.GivenResources.{is_among}
use Rattle.type_relations.specs.Once.{and_once, and_each, AreAmong}
use Rattle.type_relations.proofs.OnceLemmas.{each-append, each-among, once-among, once-has}

-- ---- one resource

pub once-stays : (rs : List ℕ) (x : ℕ) → is_among rs x ≡ true → and_once rs x ≡ rs
once-stays rs x h = ap (λ b. if b then rs else rs ++ x ∷ []) h

pub among-once : (rs : List ℕ) (y x : ℕ) → is_among rs x ≡ true → is_among (and_once rs y) x ≡ true
among-once rs y x h = once-among rs y x ∙ ap (λ b. b || nat_eq y x) h

pub among-each : (rs ys : List ℕ) (x : ℕ) → is_among rs x ≡ true → is_among (and_each rs ys) x ≡ true
among-each rs ys x h = each-among rs ys x ∙ ap (λ b. b || is_among ys x) h

-- ---- many

-- they add none
pub each-stays : (rs xs : List ℕ) → AreAmong rs xs → and_each rs xs ≡ rs
each-stays rs [] h = refl
each-stays rs (x ∷ xs) h = ap (λ ks. and_each ks xs) (once-stays rs x h.0) ∙ each-stays rs xs h.1

-- those that were added are there
pub each-there : (rs xs : List ℕ) → AreAmong (and_each rs xs) xs
each-there rs [] = tt
each-there rs (x ∷ xs) = (among-each (and_once rs x) xs x (once-has rs x), each-there (and_once rs x) xs)

-- and stay there
pub there-once : (rs : List ℕ) (y : ℕ) (xs : List ℕ) → AreAmong rs xs → AreAmong (and_once rs y) xs
there-once rs y [] h = h
there-once rs y (x ∷ xs) h = (among-once rs y x h.0, there-once rs y xs h.1)

pub there-each : (rs ys xs : List ℕ) → AreAmong rs xs → AreAmong (and_each rs ys) xs
there-each rs ys [] h = h
there-each rs ys (x ∷ xs) h = (among-each rs ys x h.0, there-each rs ys xs h.1)

pub there-both : (rs xs ys : List ℕ) → AreAmong rs xs → AreAmong rs ys → AreAmong rs (xs ++ ys)
there-both rs [] ys h g = g
there-both rs (x ∷ xs) ys h g = (h.0, there-both rs xs ys h.1 g)

pub there-split : (rs xs ys : List ℕ) → AreAmong rs (xs ++ ys) → AreAmong rs xs × AreAmong rs ys
there-split rs [] ys h = (tt, h)
there-split rs (x ∷ xs) ys h = let rest = there-split rs xs ys h.1 in ((h.0, rest.0), rest.1)

-- the same once more adds none
pub each-twice : (rs xs : List ℕ) → and_each (and_each rs xs) xs ≡ and_each rs xs
each-twice rs xs = each-stays (and_each rs xs) xs (each-there rs xs)

-- what is added after the first that were there already
pub each-first_there : (rs xs ys : List ℕ) → AreAmong rs xs → and_each rs (xs ++ ys) ≡ and_each rs ys
each-first_there rs xs ys h = each-append rs xs ys ∙ ap (λ ks. and_each ks ys) (each-stays rs xs h)

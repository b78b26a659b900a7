-- Pairs that arguments give, one import after another.
use Rattle.std.proofs.Common.{◌≡◌, ◌∙◌, ◌+◌, ap, refl, sym, ℕ, suc, List, [], ◌∷◌, ◌++◌, append_assoc, length}
use Rattle.std.proofs.lemmas.List.{append-nil}
use Rattle.comp_types.specs.Substitution.{and_pair}
use Rattle.comp_types.specs.GivenResources.{numbered}
use Rattle.comp_instances.specs.Pairs.{FindAlike}
use Rattle.comp_instances.proofs.AlikeLemmas.{alike-append, alike-pair, alike-same, alike-then}
use Rattle.comp_instances.specs.Given.{and_pairs}

abbrev Pairs : Type 0
Pairs = List (ℕ × ℕ)

pub length-numbered : (rs : List ℕ) (next : ℕ) → length (numbered rs next) ≡ length rs
length-numbered [] next = refl
length-numbered (r ∷ rs) next = ap suc (length-numbered rs (next + 1))

-- ---- one after another

pairs-append : (by xs ys : Pairs) → and_pairs by (xs ++ ys) ≡ and_pairs (and_pairs by xs) ys
pairs-append by [] ys = refl
pairs-append by (p ∷ xs) ys = pairs-append (and_pair by p.0 p.1) xs ys

pub onward : (all found new first rest : Pairs) → all ≡ and_pairs found (first ++ rest) → new ≡ and_pairs found first → all ≡ and_pairs new rest
onward all found new first rest e n = e ∙ (pairs-append found first rest ∙ ap (λ by. and_pairs by rest) (sym n))

-- each resource is found as in the list of all
pub alike-pairs : (by ps : Pairs) → FindAlike (and_pairs by ps) (by ++ ps)
alike-pairs by [] = alike-same by (by ++ []) (sym (append-nil by))
alike-pairs by (p ∷ ps) =
    alike-then (and_pairs (and_pair by p.0 p.1) ps) (and_pair by p.0 p.1 ++ ps) (by ++ p ∷ ps) (alike-pairs (and_pair by p.0 p.1) ps)
    (alike-then (and_pair by p.0 p.1 ++ ps) ((by ++ p ∷ []) ++ ps) (by ++ p ∷ ps) (alike-append (and_pair by p.0 p.1) (by ++ p ∷ []) ps (alike-pair by p.0 p.1))
    (alike-same ((by ++ p ∷ []) ++ ps) (by ++ p ∷ ps) (append_assoc by (p ∷ []) ps)))

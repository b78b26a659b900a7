-- Components up to the places where their parts stand: as lists of their sections.
use Rattle.std.proofs.Common.{◌≡◌, List, [], ◌∷◌, refl, sym, ap, ◌∙◌}
use Rattle.comp_grammar.specs.Trees.{Part, Tree, End, More}
use Rattle.comp_grammar.specs.Components.{add, parts_of}
use Rattle.comp_grammar.proofs.BuiltLaws.{adds}
use Rattle.comp_write.specs.Copying.{bare_part, bare}

abbrev pub AreSame : List Part → List Part → Type 0
AreSame [] [] = Unit {0}
AreSame [] (q ∷ qs) = ⊥
AreSame (p ∷ ps) [] = ⊥
AreSame (p ∷ ps) (q ∷ qs) = (bare_part p ≡ bare_part q) × AreSame ps qs

bare_add : (t : Tree) (part : Part) → bare (add t part) ≡ add (bare t) (bare_part part)
unfolding bare
bare_add End part = refl
bare_add (More first rest) part = ap (More (bare_part first)) (bare_add rest part)

same_from : (t u : Tree) (ps qs : List Part) → bare t ≡ bare u → AreSame ps qs → bare (adds t ps) ≡ bare (adds u qs)
same_from t u [] [] e h = e
same_from t u [] (q ∷ qs) e h = absurd h
same_from t u (p ∷ ps) [] e h = absurd h
same_from t u (p ∷ ps) (q ∷ qs) e h =
    let one : bare (add t p) ≡ bare (add u q) = bare_add t p ∙ ap (λ (v : Tree). add v (bare_part p)) e ∙ ap (add (bare u)) h.0 ∙ sym (bare_add u q) in
    same_from (add t p) (add u q) ps qs one h.1

pub same_built : (ps qs : List Part) → AreSame ps qs → bare (adds End ps) ≡ bare (adds End qs)
same_built ps qs h = same_from End End ps qs refl h

first_of_more : (p q : Part) (t u : Tree) → More p t ≡ More q u → p ≡ q
first_of_more p q t u e = cc

rest_of_more : (p q : Part) (t u : Tree) → More p t ≡ More q u → t ≡ u
rest_of_more p q t u e = cc

-- components that are the same have the same sections
pub same_parts : (t u : Tree) → bare t ≡ bare u → AreSame (parts_of t) (parts_of u)
unfolding bare
same_parts End End e = tt
same_parts End (More q u) e = absurd cc
same_parts (More p t) End e = absurd cc
same_parts (More p t) (More q u) e = (first_of_more _ _ _ _ e, same_parts t u (rest_of_more _ _ _ _ e))
